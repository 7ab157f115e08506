-- Files of documents: the encodings of documents, one after the other.
use Rattle.std.specs.Prelude.{◌≡◌, ℕ, ◌+◌, ◌<◌, List, ◌++◌, length, codes, Bool, true, false, Some}
use Rattle.std.specs.Fmt.{decimal}
use Rattle.std.specs.List.{AllByRecursion, flat_map}
use Rattle.dv_value.specs.Tree.{Field}
use Rattle.dv_value.specs.Spelling.{spelling, Spells, Fits}
use Rattle.dv_bson.specs.Reading.{first_fault}
use Rattle.dv_value.specs.declared.fault.BsonFault.{BsonFault}
use Rattle.dv_files.specs.declared.file.FileFault.{FileFault}
use Rattle.dv_files.specs.declared.file.FileFault.TheVariants.{Read}

-- a document that a file may have: it has an encoding, and is within the limits for stored documents
abbrev pub IsStorable : List Field → Type 0
IsStorable d = Spells d (spelling d) × Fits d

-- the bytes are the encodings of these documents, one after the other
pub record Holds (documents : List (List Field)) (bytes : List ℕ) : Type 0 where
  pub storable : AllByRecursion IsStorable documents
  pub whole : bytes ≡ flat_map spelling documents

-- the bytes begin with the encoding of this document, and `behind` follows
pub record Begins (bytes : List ℕ) (document : List Field) (behind : List ℕ) : Type 0 where
  pub front : List ℕ
  pub whole : bytes ≡ front ++ behind
  pub spells : Spells document front
  pub fits : Fits document

-- this holds of each document with whose encoding the bytes begin, and of the bytes after it
abbrev pub EachBegun : List ℕ → (List Field → List ℕ → Type 0) → Type 0
EachBegun bytes IsSo = (document : List Field) (behind : List ℕ) → Begins bytes document behind → IsSo document behind

-- the document with this number, counted from 1, is the first one with a fault: the documents before it are valid and end at this
-- offset, where it begins, and this is its first fault
pub record FirstFault (bytes : List ℕ) (number at : ℕ) (fault : BsonFault) : Type 0 where
  pub documents : List (List Field)
  pub front : List ℕ
  pub rest : List ℕ
  pub whole : bytes ≡ front ++ rest
  pub held : Holds documents front
  pub number_is : number ≡ length documents + 1
  pub at_is : at ≡ length front
  pub more : 0 < length rest
  pub first : first_fault rest ≡ Some fault

-- whether reading failed
abbrev pub file_read_failed : FileFault → Bool
file_read_failed Read = true
file_read_failed fault = false

-- the line that is printed for a valid file of n documents
abbrev pub ok_line : ℕ → List ℕ
ok_line n = codes "ok " ++ decimal n ++ codes "\n"
