-- The `_id` stays, and with it the key under which the document is kept.
use Rattle.dv_coll.proofs.Changed.{keyed-either}
use Rattle.dv_coll.proofs.collection.Collection.change_field.Goals as goal

pub invariant_of-self : goal.invariant_of-self
invariant_of-self c =
    keyed-either c.args.name.now c.args.change c.requires.no_id c.equal_keys_are_one.ensures c.args.key.now c.self.inside.documents.entries _ c.self.invariant c.change_in_document.result c.change_in_document.ensures.ok c.change_in_document.ensures.err
