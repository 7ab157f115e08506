use Rattle.std.proofs.Common.{◌∙◌, ◌+◌, ◌++◌, ap, drop}
use Rattle.dv_path.specs.Inner.Apart.{leading_further}
use Rattle.dv_path.proofs.Together.{lent, long-more, long-passed}
use Rattle.dv_path.proofs.removing_each.longer.Goals as goal
use Rattle.dv_path.proofs.removing_each.longer.Goals.{then-path-gt1+in_ok-push, else-path-gt1}

pub paths-preserved : goal.paths-preserved
paths-preserved c =
    let paths = c.args.paths.now in
    let i = c.paths.path-index in
    let path = c.path-item.result in
    let rest = leading_further (lent (drop (i + 1) paths)) in
    elim c.if-path-gt1.branch [
      | then-path-gt1+in_ok-push w ↦
          ap (λ further. lent further.items ++ rest) w.further-is
          ∙ long-more paths i path c.paths-test.true c.path-item.is c.paths.further.items w.push.new.self.items w.in_ok-push.ensures.items w.if-path-gt1.true
          ∙ c.paths.invariant
      | else-path-gt1 w ↦
          ap (λ further. lent further.items ++ rest) w.further-is
          ∙ long-passed paths i path c.paths-test.true c.path-item.is c.paths.further.items w.if-path-gt1.false
          ∙ c.paths.invariant
    ]
