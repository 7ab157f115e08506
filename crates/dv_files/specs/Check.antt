-- Checking a file: what an answer says, and its faults.
use Rattle.std.specs.Prelude.{◌≡◌, ◌≤◌, ◌⊎◌, ℕ, Bool, true, false, List, Option, length}
use Rattle.std.specs.Io.KnownBytes.{Appends}
use Rattle.dv_value.specs.Tree.{Field}
use Rattle.dv_value.specs.declared.fault.BsonFault.{BsonFault}
use Rattle.dv_files.specs.declared.check.CheckFault.{CheckFault}
use Rattle.dv_files.specs.declared.check.CheckFault.TheVariants as faults
use Rattle.dv_files.specs.declared.file.FileFault.{FileFault}
use Rattle.dv_files.specs.declared.file.FileFault.TheVariants.{Read, TooLarge, NoMemory}
use Rattle.dv_files.specs.File.{FirstFault, Holds, ok_line}

-- the fault of a check if the file can't be read
abbrev pub read_fault : FileFault → CheckFault
read_fault Read = faults.Read
read_fault TooLarge = faults.TooLarge
read_fault NoMemory = faults.NoMemory

-- whether reading failed
abbrev pub check_read_failed : CheckFault → Bool
check_read_failed faults.Read = true
check_read_failed fault = false

-- whether writing the result failed
abbrev pub check_write_failed : CheckFault → Bool
check_write_failed faults.Write = true
check_write_failed fault = false

-- the file holds documents, one after the other, and isn't too large
abbrev pub IsReadable : List ℕ → Type 0
IsReadable file = (documents : List (List Field)) × Holds documents file × (length file ≤ 1073741824)

-- the file is readable, and the line with the number of its documents was written
abbrev pub IsCounted : Option (List ℕ) → Option (List ℕ) → List ℕ → Type 0
IsCounted written_before written file =
    (documents : List (List Field)) × Holds documents file × (length file ≤ 1073741824) × Appends written_before written (ok_line (length documents))

-- a fault for which the file isn't to blame: reading, writing or memory failed
abbrev pub IsOutside : CheckFault → Type 0
IsOutside fault = (fault ≡ faults.Read) ⊎ (fault ≡ faults.Write) ⊎ (fault ≡ faults.NoMemory)

-- this is the file's first fault, and the file isn't too large
abbrev pub IsRefusedFor : ℕ → ℕ → BsonFault → List ℕ → Type 0
IsRefusedFor number at fault file = FirstFault file number at fault × (length file ≤ 1073741824)
