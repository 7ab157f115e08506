use Rattle.std.proofs.Common.{refl}
use Rattle.dv_keyed.specs.Inner.Index.{form_of}
use Rattle.dv_keyed.specs.Inner.View.{form_of_new}
use Rattle.dv_catalog.specs.IndexMaking.{is_same}
use Rattle.dv_catalog.proofs.ByEntry.{any_parts}
use Rattle.dv_catalog.proofs.indexing.is_made.Goals as goal

pub returns-then-is_there : goal.returns-then-is_there
returns-then-is_there c =
    rw (← c.is_id.ensures, c.if-is_id.false, any_parts (is_same (form_of_new c.args.entry.now)) form_of c.args.there.now c.args.coming.now, ← c.is_there.ensures, c.if-is_there.true) refl

pub returns : goal.returns
returns c =
    rw (← c.is_id.ensures, c.if-is_id.false, any_parts (is_same (form_of_new c.args.entry.now)) form_of c.args.there.now c.args.coming.now, ← c.is_there.ensures, c.if-is_there.false) c.has.ensures
