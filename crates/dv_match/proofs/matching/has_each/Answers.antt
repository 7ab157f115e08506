use Rattle.std.proofs.Common.{◌≡◌, ◌∙◌, ◌&&◌, ◌==◌, not, ap, sym, true, length}
use Rattle.std.proofs.Math.Bool.{and-true, and-false}
use Rattle.std.specs.List.{list_any, list_all}
use Rattle.dv_value.specs.View.{tree}
use Rattle.dv_match.specs.Inner.Asked.{parts}
use Rattle.dv_match.specs.Match.{is_equal}
use Rattle.dv_match.proofs.Items.{length-seen, all-but-here, all-over}
use Rattle.dv_match.proofs.matching.has_each.Goals as goal

pub returns-then-not-has_equal : goal.returns-then-not-has_equal
returns-then-not-has_equal c =
    let vs = c.args.values.now in
    sym (ap (λ b. not (length vs == 0) && b) (all-but-here (λ v. list_any (is_equal v) (parts c.args.place)) tree c.as_slice-members.result.now vs c.as_slice-members.ensures c.loop-value.value-index c.value-item.result c.loop-value-test.true c.value-item.is (sym c.if-not-has_equal.ensures)) ∙ and-false (not (length vs == 0)))

pub returns : goal.returns
returns c =
    let vs = c.args.values.now in
    let members = c.as_slice-members.result.now in
    let len : length members ≡ length vs = sym (length-seen members) ∙ ap length c.as_slice-members.ensures in
    let every : list_all (λ v. list_any (is_equal v) (parts c.args.place)) vs ≡ true = all-over (λ v. list_any (is_equal v) (parts c.args.place)) tree members vs c.as_slice-members.ensures c.loop-value.value-index c.loop-value-test.false c.loop-value.invariant in
    ap not (c.is_empty.ensures ∙ ap (λ n. n == 0) len) ∙ sym (ap (λ b. not (length vs == 0) && b) every ∙ and-true (not (length vs == 0)))
