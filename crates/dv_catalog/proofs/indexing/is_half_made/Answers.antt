use Rattle.std.proofs.Common.{refl}
use Rattle.dv_keyed.specs.Inner.Index.{form_of}
use Rattle.dv_keyed.specs.Inner.View.{form_of_new}
use Rattle.dv_catalog.specs.IndexMaking.{is_alike}
use Rattle.dv_catalog.proofs.ByEntry.{any_parts}
use Rattle.dv_catalog.proofs.indexing.is_half_made.Goals as goal

pub returns-then-is_half_there : goal.returns-then-is_half_there
returns-then-is_half_there c =
    rw (any_parts (is_alike (form_of_new c.args.entry.now)) form_of c.args.there.now c.args.coming.now, ← c.is_half_there.ensures, c.if-is_half_there.true) refl

pub returns : goal.returns
returns c =
    rw (any_parts (is_alike (form_of_new c.args.entry.now)) form_of c.args.there.now c.args.coming.now, ← c.is_half_there.ensures, c.if-is_half_there.false) c.has_half.ensures
