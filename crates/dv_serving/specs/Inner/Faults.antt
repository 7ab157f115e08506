-- Why the program ends, by why a session or serving did.
use Rattle.dv_wire.specs.declared.fault.HubFault.TheVariants as hub
use Rattle.dv_wire.specs.declared.fault.RunFault.{RunFault}
use Rattle.dv_wire.specs.declared.fault.RunFault.TheVariants as run
use Rattle.dv_words.specs.declared.fault.DocdFault.{DocdFault}
use Rattle.dv_words.specs.declared.fault.DocdFault.TheVariants.{Serve, Read, Write, NoMemory, Sessions}
use Rattle.dv_serving.specs.declared.serve.ServeFault.{ServeFault}
use Rattle.dv_serving.specs.declared.serve.ServeFault.TheVariants as serve

-- why the one session of standard input ends
abbrev pub fault_of_run : RunFault → DocdFault
fault_of_run run.Read = Read
fault_of_run run.TooManyReads = Read
fault_of_run run.Write = Write
fault_of_run (run.Hub hub.TooManySessions) = Sessions
fault_of_run (run.Hub hub.NoMemory) = NoMemory

-- why serving ends
abbrev pub fault_of_serve : ServeFault → DocdFault
fault_of_serve serve.Accept = Serve
fault_of_serve serve.Write = Write
