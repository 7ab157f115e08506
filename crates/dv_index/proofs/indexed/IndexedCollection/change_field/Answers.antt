-- No key of an index changes.
use Rattle.std.proofs.Common.{◌∙◌, sym}
use Rattle.dv_index.proofs.InPlace.{kept_in_place}
use Rattle.dv_index.proofs.indexed.IndexedCollection.change_field.Goals as goal

pub invariant_of-self : goal.invariant_of-self
invariant_of-self c =
    kept_in_place c.replaced_document_is_found.ensures c.a_change_of_another_field_leaves_the_id.ensures.key c.what_is_found_has_the_key.ensures.key c.what_is_found_has_the_key.ensures.begins
    c.args.name.now c.args.change c.requires.no_id c.args.key.now c.self.inside.documents c.law_ascending.ensures.identified
    c.self.inside.indexes (sym c.have_path_through.ensures ∙ c.if-not-have_path_through.true) c.self.invariant c.change_field.new.self c.change_field.result c.change_field.ensures.ok c.change_field.ensures.err
