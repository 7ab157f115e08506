use Rattle.std.proofs.Common.{IsSome, ap, subst, ◌∙◌}
use Rattle.dv_value.specs.FieldChange.{with_field_changed}
use Rattle.dv_coll.specs.Collection.{HasId, found, id_key}
use Rattle.dv_index.specs.Indexed.{IndexedTree}
use Rattle.dv_index.proofs.FieldChanged.{change_possible}
use Rattle.dv_index.proofs.indexed.IndexedCollection.change_in_copy.Goals as goal

pub change-requires-clause-possible : goal.change-requires-clause-possible
change-requires-clause-possible c =
    let after = c.in_ok-change_field.ensures.ok ∙ ap (with_field_changed c.args.name.now c.args.change) c.in_ok-changed.ensures in
    let laws = c.a_change_of_another_field_leaves_the_id.ensures in
    let finds = c.what_is_found_has_the_key.ensures in
    subst (λ (x : IndexedTree). HasId c.change_field.new.self × IsSome (found (id_key c.change_field.new.self) x.documents)) c.self.view_is
    (change_possible laws.begins laws.key finds.key finds.begins
    c.args.key.now c.args.name.now c.args.change c.in-Some.document.now c.change_field.new.self c.self.inside.documents c.requires.no_id c.law_ascending.ensures.identified c.in-Some.ensures after)
