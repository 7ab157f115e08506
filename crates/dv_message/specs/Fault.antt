-- The numbers of closing faults.
use Rattle.std.specs.Prelude.{ℕ}
use Rattle.dv_message.specs.declared.fault.CloseFault.{CloseFault}
use Rattle.dv_message.specs.declared.fault.CloseFault.TheVariants as closing

abbrev pub close_number : CloseFault → ℕ
close_number closing.BadLength = 1
close_number closing.BadOpCode = 2
close_number closing.BadFlag = 3
close_number closing.Checksum = 4
close_number closing.BadSection = 5
close_number closing.NoMemory = 6
