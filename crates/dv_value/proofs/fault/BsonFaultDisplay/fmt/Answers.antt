use Rattle.std.proofs.Common.{◌≡◌, Some, ap, arith, false}
use Rattle.std.proofs.lemmas.Fmt.{hex_byte}
use Rattle.std.specs.Fmt.{styled_digits_output}
use Rattle.dv_value.specs.Fault as fault
use Rattle.dv_value.proofs.fault.BsonFaultDisplay.fmt.Goals as goal

pub returns-in-RefusedType-clause-writes : goal.returns-in-RefusedType-clause-writes
returns-in-RefusedType-clause-writes g c =
    let byte = c.in-RefusedType.byte in
    let digits : styled_digits_output c.in_radix.result c.laid_out.result ≡ Some (fault.hex_byte byte) = rw (c.laid_out.ensures, c.in_radix.ensures) (ap Some (hex_byte false byte (omega arith))) in
    rw c.in-RefusedType.is (rw digits at c.write.ensures.writes)
