-- The fault with which the program ends, by the fault of what it did.
use Rattle.std.specs.Prelude.{◌≡◌, ℕ, ℤ, pos, List, codes}
use Rattle.std.specs.declared.alloc.Global.{Global}
use Rattle.std.specs.declared.string.String.{String}
use Rattle.dv_files.specs.declared.check.CheckFault.{CheckFault}
use Rattle.dv_files.specs.declared.check.CheckFault.TheVariants as check
use Rattle.dv_words.specs.declared.fault.DocdFault.{DocdFault}
use Rattle.dv_words.specs.declared.fault.DocdFault.TheVariants.{CannotRead, TooLarge, Document, Refused, Write, NoMemory}
use Rattle.dv_files.specs.declared.fault.LoadFault.{LoadFault}
use Rattle.dv_files.specs.declared.fault.LoadFault.TheVariants as load

-- the program's fault for this fault of a check
abbrev pub fault_of_check : String Global → CheckFault → DocdFault
fault_of_check file check.Read = CannotRead file
fault_of_check file check.Write = Write
fault_of_check file (check.Document number at fault) = Document file number at fault
fault_of_check file check.TooLarge = TooLarge file
fault_of_check file check.NoMemory = NoMemory

-- the text is the name of the code with which a document is refused
pub record NamesCode (number : ℤ) (text : List ℕ) : Type 0 where
  pub bad_value : number ≡ pos 2 → text ≡ codes "BadValue"
  pub too_large : number ≡ pos 901 → text ≡ codes "TooLarge"
  pub on_view : number ≡ pos 902 → text ≡ codes "OnView"
  pub duplicate : number ≡ pos 11000 → text ≡ codes "DuplicateKey"

-- the program's fault says that the document of this number and at this offset in the file is refused, and by which code
abbrev pub TellsRefused : String Global → ℕ → ℕ → ℤ → DocdFault → Type 0
TellsRefused file number at code (Refused told n a why) = (told ≡ file) × (n ≡ number) × (a ≡ at) × NamesCode code why.now
TellsRefused file number at code fault = ⊥

-- the program's fault for this fault of a load
abbrev pub TellsLoad : String Global → LoadFault → DocdFault → Type 0
TellsLoad file load.Read told = told ≡ CannotRead file
TellsLoad file load.TooLarge told = told ≡ TooLarge file
TellsLoad file (load.Document number at fault) told = told ≡ Document file number at fault
TellsLoad file (load.Refused number at code) told = TellsRefused file number at code told
TellsLoad file load.NoMemory told = told ≡ NoMemory
