-- The keys stay, since the document has the key of the one that it replaces.
use Rattle.std.proofs.Common.{◌≡◌, subst}
use Rattle.std.specs.BTreeMap.{is_at}
use Rattle.std.specs.Map.{set_value}
use Rattle.dv_order.specs.Key.{key_order, key_at, first_value}
use Rattle.dv_coll.proofs.Replaced.{IsKeyed-put}
use Rattle.dv_coll.proofs.collection.Collection.replace.Goals as goal

pub invariant_of-self : goal.invariant_of-self
invariant_of-self c =
    IsKeyed-put c.equal_keys_are_one.ensures c.args.document c.self.inside.documents.entries _ c.requires c.self.invariant
    (subst (λ d. c.replace_under_first.new.map.entries ≡ set_value (is_at (key_order (key_at (first_value d)))) c.self.inside.documents.entries d) c.take_first_names.ensures c.replace_under_first.ensures.documents)
