use Rattle.std.proofs.Common.{◌∙◌, ◌∷◌, [], ◌||◌, ap, sym, map}
use Rattle.std.proofs.Math.Bool.{or-false}
use Rattle.std.specs.Ordering.{is_eq}
use Rattle.dv_value.specs.View.{tree}
use Rattle.dv_match.specs.Filter.{equal}
use Rattle.dv_order.specs.Key.{key_order}
use Rattle.dv_keyed.specs.Inner.Keys.{has_key}
use Rattle.dv_keyed.specs.Inner.Pairs.{has_pair}
use Rattle.dv_keyed.proofs.Ordered.{now}
use Rattle.dv_keyed.proofs.Points.{at-points}
use Rattle.dv_keyed.proofs.within.ids_equal.Goals as goal

pub returns : goal.returns
returns c i =
    let key = c.in_ok-key.key in
    let there = has_pair key i c.args.index.now in
    at-points (equal (tree c.args.value.now)) c.args.index.now (map now c.add_ids_at.new.ids.items) i (key ∷ []) (λ k. or-false (is_eq (key_order k key)) ∙ ap (λ l. is_eq (key_order k l)) c.in_ok-key.ensures) (c.in_ok-add_ids_at.ensures i ∙ ap (λ ids. has_key i (map now ids) || there) c.new-ids.ensures.items ∙ sym (or-false there))
