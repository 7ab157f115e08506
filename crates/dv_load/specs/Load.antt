-- Loading the documents of a file into a collection, one after the other.
use Rattle.std.specs.Prelude.{◌≡◌, ◌≢◌, ◌⊎◌, ⊤, ℕ, ◌+◌, ◌<◌, ◌≤◌, ℤ, pos, List, [], ◌∷◌, ◌++◌, length, Bool, true, false, Result, Ok, Err, Some}
use Rattle.dv_value.specs.Tree.{Field}
use Rattle.dv_bson.specs.Reading.{first_fault}
use Rattle.dv_core.specs.Load.{IsCodeOf, IsLoaded, loaded}
use Rattle.dv_core.specs.State.{State}
use Rattle.dv_files.specs.File.{Begins, Holds}
use Rattle.dv_files.specs.declared.fault.LoadFault.{LoadFault}
use Rattle.dv_files.specs.declared.fault.LoadFault.TheVariants.{Read, TooLarge, Document, Refused, NoMemory}

-- whether reading failed
abbrev pub load_read_failed : LoadFault → Bool
load_read_failed Read = true
load_read_failed fault = false

-- the documents are loaded into a namespace, one after the other
abbrev pub LoadsEach : List ℕ → List (List Field) → State → State → Type 0
LoadsEach namespace [] old new = new ≡ old
LoadsEach namespace (d ∷ documents) old new = (mid : State) × IsLoaded namespace d old mid × LoadsEach namespace documents mid new

-- the first documents of a file, which has at most 1,073,741,824 bytes, are loaded into a namespace; `rest` follows them in the file
pub record LoadsDocuments (file namespace : List ℕ) (old : State) (documents : List (List Field)) (rest : List ℕ) (new : State) : Type 0 where
  pub small : length file ≤ 1073741824
  pub front : List ℕ
  pub whole : file ≡ front ++ rest
  pub held : Holds documents front
  pub stand : LoadsEach namespace documents old new

-- the next document has this number, counted from 1, and begins at this offset
pub record IsNext (file : List ℕ) (documents : List (List Field)) (rest : List ℕ) (number at : ℕ) : Type 0 where
  pub number_is : number ≡ length documents + 1
  pub at_is : at + length rest ≡ length file
  pub more : 0 < length rest

-- the bytes begin with a document that is refused with this code, other than 900
pub record IsRefusedDocument (namespace : List ℕ) (state : State) (number : ℤ) (rest : List ℕ) : Type 0 where
  pub document : List Field
  pub behind : List ℕ
  pub begins : Begins rest document behind
  pub why : IsCodeOf (loaded namespace document state) number
  pub memory_aside : number ≢ pos 900

-- why the next document, which begins the bytes, isn't loaded: a fault in it, a refusal, or memory ran out
abbrev pub IsWhy : LoadFault → List ℕ → State → List ℕ → ℕ → ℕ → Type 0
IsWhy Read namespace state rest number at = ⊥
IsWhy TooLarge namespace state rest number at = ⊥
IsWhy (Document n a fault) namespace state rest number at = (n ≡ number) × (a ≡ at) × (first_fault rest ≡ Some fault)
IsWhy (Refused n a code) namespace state rest number at = (n ≡ number) × (a ≡ at) × IsRefusedDocument namespace state code rest
IsWhy NoMemory namespace state rest number at = ⊤

-- loading ends at the next document, for this fault
pub record StopsLoading (file namespace : List ℕ) (old : State) (fault : LoadFault) (new : State) : Type 0 where
  pub documents : List (List Field)
  pub rest : List ℕ
  pub number : ℕ
  pub at : ℕ
  pub loads : LoadsDocuments file namespace old documents rest new
  pub next : IsNext file documents rest number at
  pub why : IsWhy fault namespace new rest number at

-- All documents of a file are loaded, or those before the first one that can't be. A file that can't be read to its end or is too large
-- changes nothing.
abbrev pub LoadsFile : {A : Type 0} → List ℕ → List ℕ → State → Result A LoadFault → State → Type 0
LoadsFile file namespace old (Ok done) new = (documents : List (List Field)) × LoadsDocuments file namespace old documents [] new
LoadsFile file namespace old (Err Read) new = new ≡ old
LoadsFile file namespace old (Err TooLarge) new = (1073741824 < length file) × (new ≡ old)
LoadsFile file namespace old (Err (Document number at fault)) new = StopsLoading file namespace old (Document number at fault) new
LoadsFile file namespace old (Err (Refused number at code)) new = StopsLoading file namespace old (Refused number at code) new
LoadsFile file namespace old (Err NoMemory) new = (new ≡ old) ⊎ StopsLoading file namespace old NoMemory new
