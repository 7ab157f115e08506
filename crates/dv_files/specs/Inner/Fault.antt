-- Why a file is not loaded.
use Rattle.dv_files.specs.declared.fault.LoadFault.{LoadFault}
use Rattle.dv_files.specs.declared.fault.LoadFault.TheVariants.{Read, TooLarge, NoMemory}
use Rattle.dv_files.specs.declared.file.FileFault.{FileFault}
use Rattle.dv_files.specs.declared.file.FileFault.TheVariants as file

-- a file that is not read is not loaded
abbrev pub unread : FileFault → LoadFault
unread file.Read = Read
unread file.TooLarge = TooLarge
unread file.NoMemory = NoMemory
