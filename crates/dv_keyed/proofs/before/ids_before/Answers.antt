use Rattle.std.proofs.Common.{Bor, ◌≡◌, map, true}
use Rattle.dv_order.specs.Key.{KeyTree, value}
use Rattle.dv_keyed.specs.Inner.Ahead.{leaf_sorted_by, stands_ahead}
use Rattle.dv_keyed.specs.Inner.Interval.{is_between}
use Rattle.dv_keyed.specs.Inner.Keys.{has_key}
use Rattle.dv_keyed.specs.Inner.Pairs.{has_pair}
use Rattle.dv_keyed.proofs.Bars.{by-bar, by-kind}
use Rattle.dv_keyed.proofs.before.ids_before.Goals as goal

pub returns : goal.returns
returns c =
    let bar = c.args.bar.now in
    let now = λ (l : Bor KeyTree). l.now in
    by-kind (λ k. (i : KeyTree) → stands_ahead c.args.direction bar k i ≡ true → is_between c.args.ends (leaf_sorted_by k) ≡ true → has_pair (leaf_sorted_by k) i c.args.index.now ≡ true → has_key i (map now c.add_empty_before.new.ids.items) ≡ true)
    (λ i ahead inside there. c.in_ok-add_empty_before.ensures.added i ahead there)
    (λ v i ahead inside there.
    c.in_ok-add_empty_before.ensures.kept i (by-bar _ c.args.direction bar (value v) i ahead
    (λ before. c.in_ok-add_tied.ensures.kept i (c.in_ok-add_ids_inside.ensures.all (value v) i (c.in_ok-ends.ensures (value v) inside before) there))
    (λ equal until. c.in_ok-add_tied.ensures.added (value v) i equal until there)))
