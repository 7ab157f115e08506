-- The numbers of other faults of sessions.
use Rattle.std.specs.Prelude.{ℕ}
use Rattle.dv_wire.specs.declared.fault.HubFault.{HubFault}
use Rattle.dv_wire.specs.declared.fault.HubFault.TheVariants as opening
use Rattle.dv_wire.specs.declared.fault.RunFault.{RunFault}
use Rattle.dv_wire.specs.declared.fault.RunFault.TheVariants as running

abbrev pub hub_number : HubFault → ℕ
hub_number opening.TooManySessions = 1
hub_number opening.NoMemory = 2

abbrev pub run_number : RunFault → ℕ
run_number running.Read = 1
run_number running.Write = 2
run_number running.TooManyReads = 3
run_number (running.Hub fault) = 4
