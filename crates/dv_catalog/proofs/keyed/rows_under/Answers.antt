use Rattle.std.proofs.Common.{Bor, ap, map, sym, take_all, ◌∙◌, ◌++◌}
use Rattle.dv_order.specs.Key.{KeyTree}
use Rattle.dv_catalog.proofs.Lent.{key_by_key, one_key_more}
use Rattle.dv_catalog.proofs.keyed.rows_under.Goals as goal

pub keys-preserved : goal.keys-preserved
keys-preserved c =
    c.in_ok-add_rows.ensures
    ∙ (λ i. c.keys.invariant i ++ c.in_ok-rows_at.ensures i)
    ∙ sym (one_key_more c.args.rows.now c.args.keys.now c.keys.key-index c.key-item.result c.keys-test.true c.key-item.is)

pub returns : goal.returns
returns c =
    c.keys.invariant
    ∙ ap (λ keys. key_by_key (map (λ (k : Bor KeyTree). k.now) keys) c.args.rows.now) (take_all c.keys.key-index c.args.keys.now c.keys-test.false)
    ∙ c.documents_are_found_key_by_key.ensures (map (λ (k : Bor KeyTree). k.now) c.args.keys.now) c.args.rows.now c.requires c.law_ascending.ensures
