use Rattle.std.proofs.Common.{map, arith}
use Rattle.std.proofs.lemmas.List.{length-map}
use Rattle.std.proofs.lemmas.Slice.Zip.{length-zip}
use Rattle.dv_value.specs.View.{tree}
use Rattle.dv_value.proofs.Zipped.{AreNamed-zip}
use Rattle.dv_value.proofs.value.Fields.len.Goals as goal

pub returns-clause-len : goal.returns-clause-len
returns-clause-len c =
    let values = c.self.inside.values.items in
    rw (← c.self.view_is) (omega (arith, c.len-2.ensures, c.self.inside.values.ok.0, c.self.invariant, length-map values tree, length-zip c.self.inside.names.value (map tree values)))

pub returns-clause-named : goal.returns-clause-named
returns-clause-named c = rw (← c.self.view_is) (AreNamed-zip _ _ (rw c.deref.ensures at c.len-names.ensures.named))
