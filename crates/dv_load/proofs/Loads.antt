-- Documents of a file that are loaded one after the other.
use Rattle.std.proofs.Common.{◌≡◌, ◌≢◌, ◌⊎◌, ℤ, pos, Option, Some, None, replicate, Result, IfSome, IsErrAnd, ℕ, ◌+◌, ◌<◌, ◌≤◌, List, [], ◌∷◌, ◌++◌, ◌∙◌, Ok, Err, inl, inr, refl, sym, ap, length, length-append, arith, append_assoc, subst}
use Rattle.std.proofs.lemmas.List.{length-replicate}
use Rattle.dv_value.specs.Spelling.{Fits, Spells}
use Rattle.dv_value.specs.Tree.{Field}
use Rattle.dv_core.specs.Load.{IsCodeOf, IsLoaded, loaded}
use Rattle.dv_core.specs.State.{State}
use Rattle.dv_files.specs.Inner.Fault as faults
use Rattle.dv_files.specs.File.{Begins, Holds, file_read_failed}
use Rattle.dv_load.specs.Load.{IsWhy, LoadsDocuments, LoadsEach, LoadsFile, load_read_failed}
use Rattle.dv_streams.specs.Failures.{failures_told}
use Rattle.dv_files.specs.declared.file.FileFault.{FileFault}
use Rattle.dv_files.specs.declared.file.FileFault.TheVariants as file
use Rattle.dv_files.specs.declared.fault.LoadFault.{LoadFault}
use Rattle.dv_files.specs.declared.fault.LoadFault.TheVariants.{Refused, NoMemory}

-- the next document is the one of this number, and these bytes are left
pub record LoadsSoFar (file namespace : List ℕ) (old : State) (number : ℕ) (rest : List ℕ) (now : State) : Type 0 where
  pub documents : List (List Field)
  pub loads : LoadsDocuments file namespace old documents rest now
  pub number_is : number ≡ length documents + 1
  pub within : length documents + length rest ≤ length file

pub nothing_yet : (file namespace : List ℕ) (old : State) → length file ≤ 1073741824 → LoadsSoFar file namespace old 1 file old
nothing_yet file namespace old small = record {
  documents = [];
  loads = record { small = small; front = []; whole = refl; held = record { storable = tt; whole = refl }; stand = refl };
  number_is = refl;
  within = omega arith;
}

-- ---- one document more

-- as the laws of files state it
pub record OneByOne : Type 0 where
  pub more : (documents : List (List Field)) (d : List Field) (front next : List ℕ) → Holds documents front → Spells d next → Fits d → Holds (documents ++ d ∷ []) (front ++ next)
  pub fewer : (bytes : List ℕ) (d : List Field) (behind : List ℕ) → Begins bytes d behind → length behind < length bytes

LoadsEach-more : (namespace : List ℕ) (documents : List (List Field)) (d : List Field) (old mid new : State) → LoadsEach namespace documents old mid → IsLoaded namespace d mid new
    → LoadsEach namespace (documents ++ d ∷ []) old new
LoadsEach-more namespace [] d old mid new before this = (new, subst (λ (state : State). IsLoaded namespace d state new) before this, refl)
LoadsEach-more namespace (e ∷ documents) d old mid new before this = (before.0, before.1, LoadsEach-more namespace documents d before.0 mid new before.2 this)

Loads-more : OneByOne → (file namespace : List ℕ) (old mid new : State) (documents : List (List Field)) (rest : List ℕ) (d : List Field) (behind : List ℕ)
    → LoadsDocuments file namespace old documents rest mid → Begins rest d behind → IsLoaded namespace d mid new → LoadsDocuments file namespace old (documents ++ d ∷ []) behind new
Loads-more law file namespace old mid new documents rest d behind loads begins this = record {
  small = loads.small;
  front = loads.front ++ begins.front;
  whole = loads.whole ∙ ap (λ xs. loads.front ++ xs) begins.whole ∙ sym (append_assoc loads.front begins.front behind);
  held = law.more documents d loads.front begins.front loads.held begins.spells begins.fits;
  stand = LoadsEach-more namespace documents d old mid new loads.stand this;
}

pub one_more : OneByOne → (file namespace : List ℕ) (old mid new : State) (number : ℕ) (rest : List ℕ) (d : List Field) (behind : List ℕ)
    → LoadsSoFar file namespace old number rest mid → Begins rest d behind → IsLoaded namespace d mid new → LoadsSoFar file namespace old (number + 1) behind new
one_more law file namespace old mid new number rest d behind so_far begins this = record {
  documents = so_far.documents ++ d ∷ [];
  loads = Loads-more law file namespace old mid new so_far.documents rest d behind so_far.loads begins this;
  number_is = omega (arith, so_far.number_is, length-append so_far.documents (d ∷ []));
  within = omega (arith, so_far.within, length-append so_far.documents (d ∷ []), law.fewer rest d behind begins);
}

-- ---- where loading stops

pub why_refused : (namespace : List ℕ) (state : State) (bytes : List ℕ) (number at : ℕ) (d : List Field) (behind : List ℕ) (code told : ℤ) (fault : LoadFault) → Begins bytes d behind
    → IsCodeOf (loaded namespace d state) code → (fault ≡ NoMemory) ⊎ ((fault ≡ Refused number at told) × (told ≢ pos 900)) → told ≡ code → IsWhy fault namespace state bytes number at
why_refused namespace state bytes number at d behind code told fault begins is (inl e) same = subst (λ f. IsWhy f namespace state bytes number at) (sym e) tt
why_refused namespace state bytes number at d behind code told fault begins is (inr h) same =
    subst (λ f. IsWhy f namespace state bytes number at) (sym h.0)
    (refl, refl, record { document = d; behind = behind; begins = begins; why = subst (IsCodeOf (loaded namespace d state)) (sym same) is; memory_aside = h.1 })

-- ---- a file that is not read

-- bytes can be more than so many
longer : (n : ℕ) → (bytes : List ℕ) × (n < length bytes)
longer n = let same : length (replicate {A = ℕ} (n + 1) 0) ≡ n + 1 = length-replicate {A = ℕ} (n + 1) 0 in (replicate (n + 1) 0, omega (arith, same))

unread : (A : Type 0) (known : Option (List ℕ)) (namespace : List ℕ) (old : State) (fault : FileFault) → (fault ≡ file.TooLarge → IfSome known (λ bytes. 1073741824 < length bytes))
    → (bytes : List ℕ) × IfSome known (λ whole. bytes ≡ whole) × LoadsFile {A = A} bytes namespace old (Err (faults.unread fault)) old
unread A None namespace old file.Read large = ([], tt, refl)
unread A (Some bytes) namespace old file.Read large = (bytes, refl, refl)
unread A None namespace old file.TooLarge large = let more = longer 1073741824 in (more.0, tt, (more.1, refl))
unread A (Some bytes) namespace old file.TooLarge large = (bytes, refl, (large refl, refl))
unread A None namespace old file.NoMemory large = ([], tt, inl refl)
unread A (Some bytes) namespace old file.NoMemory large = (bytes, refl, inl refl)

pub unread_told : (A : Type 0) (result : Result A LoadFault) (known : Option (List ℕ)) (namespace : List ℕ) (old : State) (fault : FileFault) → IsErrAnd result (λ e. e ≡ faults.unread fault)
    → (fault ≡ file.TooLarge → IfSome known (λ bytes. 1073741824 < length bytes)) → (bytes : List ℕ) × IfSome known (λ whole. bytes ≡ whole) × LoadsFile bytes namespace old result old
unread_told A (Ok x) known namespace old fault told large = absurd told
unread_told A (Err e) known namespace old fault told large =
    subst (λ f. (bytes : List ℕ) × IfSome known (λ whole. bytes ≡ whole) × LoadsFile {A = A} bytes namespace old (Err f) old) (sym told) (unread A known namespace old fault large)

same_count : (A B : Type 0) (fault : FileFault) (old new : ℕ) → new ≡ failures_told {A = B} file_read_failed (Err fault) old → new ≡ failures_told {A = A} load_read_failed (Err (faults.unread fault)) old
same_count A B file.Read old new counted = counted
same_count A B file.TooLarge old new counted = counted
same_count A B file.NoMemory old new counted = counted

pub unread_counted : (A B : Type 0) (result : Result A LoadFault) (read : Result B FileFault) (fault : FileFault) (old new : ℕ) → IsErrAnd result (λ e. e ≡ faults.unread fault) → read ≡ Err fault
    → new ≡ failures_told file_read_failed read old → new ≡ failures_told load_read_failed result old
unread_counted A B (Ok x) read fault old new told is counted = absurd told
unread_counted A B (Err e) read fault old new told is counted =
    subst (λ f. new ≡ failures_told {A = A} load_read_failed (Err f) old) (sym told) (same_count A B fault old new (subst (λ read. new ≡ failures_told {A = B} file_read_failed read old) is counted))
