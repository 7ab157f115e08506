-- The changes of a collection as changes of rows at positions, which views take in.
use Rattle.std.specs.Prelude.{[], ◌∷◌}
use Rattle.dv_change.specs.declared.change.Change as flow
use Rattle.dv_change.specs.declared.change.Change.TheVariants.{Put, Gone}
use Rattle.dv_change.specs.declared.position.Part.TheVariants.{Up}
use Rattle.dv_coll.specs.Collection.{id_key}
use Rattle.dv_catalog.specs.Changes.{Change, put, gone}

-- a change of a document as a change at its position, which is the key of its `_id`
abbrev pub told : Change → flow.Change
told (put d) = Put (Up (id_key d) ∷ []) d
told (gone k) = Gone (Up k ∷ [])
