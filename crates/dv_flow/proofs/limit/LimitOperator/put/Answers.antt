-- The front may show one row too many.
use Rattle.std.proofs.Common.{◌≡◌, ◌∙◌, ◌++◌, ap, arith, is_some, subst, sym}
use Rattle.dv_change.specs.Changes.{Positioned}
use Rattle.dv_change.specs.Inner.Changes.{IsPositioned}
use Rattle.dv_change.specs.Inner.Ordered.{put}
use Rattle.dv_change.specs.Inner.RowLaws.{positioned-put}
use Rattle.dv_change.specs.Inner.Answered.{ok-one}
use Rattle.dv_flow.proofs.Fronts.{at-most-one, cut-length, put-within}
use Rattle.dv_flow.proofs.limit.LimitOperator.put.Goals as goal

pub spill-requires : goal.spill-requires
spill-requires c =
    let n = c.args.self.now.count in
    let xs = c.args.self.now.front.entries in
    let ys = c.args.self.now.rest.entries in
    let left : c.insert.new.self.entries ++ ys ≡ put c.args.pos c.args.row (xs ++ ys) =
    ap (λ es. es ++ ys) c.in_ok-insert.ensures.entries ∙ put-within n c.args.pos c.args.row xs ys c.requires.sound.front c.requires.within in
    let cut = cut-length n xs ys c.requires.sound.front in
    let more = at-most-one (is_some c.in_ok-insert.field-0) in
    record {
      positioned = subst (λ (rows : Positioned). IsPositioned rows) (sym left) (positioned-put c.args.pos c.args.row (xs ++ ys) c.requires.sound.positioned c.law_exact.ensures);
      most = omega (arith, c.in_ok-insert.ensures.len, more, cut.0);
      least = λ h. omega (arith, c.in_ok-insert.ensures.len, cut.1 h);
    }

pub returns-clause-left : goal.returns-clause-left
returns-clause-left c =
    let xs = c.args.self.now.front.entries in
    let ys = c.args.self.now.rest.entries in
    ok-one c.spill.result c.spill.ensures.left (λ left. left ∙ ap (λ es. es ++ ys) c.in_ok-insert.ensures.entries ∙ put-within c.args.self.now.count c.args.pos c.args.row xs ys c.requires.sound.front c.requires.within)
