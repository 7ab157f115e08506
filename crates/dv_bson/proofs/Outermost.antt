-- The outermost document, whose frame is checked first.
use Rattle.std.proofs.Common.{◌≡◌, ℕ, ◌++◌, ◌⊎◌, inl, inr, Bool, true, false, List, length, Option, None, Some, Result, Ok, Err, refl, ap, subst, ◌∙◌}
use Rattle.std.specs.Prelude.{if◌then◌else◌, nat_lt}
use Rattle.dv_value.specs.declared.fault.BsonFault.{BsonFault}
use Rattle.dv_value.specs.declared.fault.BsonFault.TheVariants.{Truncated, BadLength, TooLarge, NoMemory}
use Rattle.dv_bson.specs.declared.fault.ReadError.{ReadError}
use Rattle.dv_bson.specs.declared.fault.ReadError.TheVariants as errors
use Rattle.dv_bson.specs.Reading.{Fails, count_at, Frame, frame_of, body_at, outermost_of, document_at, first_fault, fault_of}
use Rattle.dv_value.specs.Results.{◌>>=◌}
use Rattle.dv_bson.specs.Inner.Parts.{outermost_frame, outermost_frame_at, public_fault}
use Rattle.dv_value.specs.Spelling.{Spells, Fits}
use Rattle.dv_value.specs.Tree.{Field}
use Rattle.dv_bson.proofs.Both.{document_again}

-- the document in a frame, and its length
abbrev in_frame : Frame × ℕ → Result (List Field × ℕ) BsonFault
in_frame whole = body_at 100 false 4 whole.0.elements whole.0.last >>= λ fields. Ok (fields, whole.1)

tested : (a b c : Bool) (r : Result (Frame × ℕ) BsonFault)
    → (if a then Err BadLength else if b then Err TooLarge else if c then Err Truncated else (r >>= in_frame))
    ≡ ((if a then Err BadLength else if b then Err TooLarge else if c then Err Truncated else r) >>= in_frame)
tested true b c r = refl
tested false true c r = refl
tested false false true r = refl
tested false false false r = refl

framed_first : (count : Option ℕ) (bytes : List ℕ) → outermost_of count bytes ≡ (outermost_frame count bytes >>= in_frame)
framed_first None bytes = refl
framed_first (Some n) bytes = tested (nat_lt n 5) (nat_lt 16777216 n) (nat_lt (length bytes) n) (Ok (frame_of n bytes, n))

frame_first : (bytes : List ℕ) → document_at bytes ≡ (outermost_frame_at bytes >>= in_frame)
unfolding document_at outermost_frame_at
frame_first bytes = framed_first (count_at bytes) bytes

pub fails_frame : (e : ReadError) (bytes : List ℕ) → Fails e (outermost_frame_at bytes) → Fails e (document_at bytes)
fails_frame errors.Memory bytes failed = tt
fails_frame (errors.Fault fault) bytes failed = frame_first bytes ∙ ap (λ r. r >>= in_frame) failed

pub fails_inside : (e : ReadError) (bytes : List ℕ) (whole : Frame × ℕ) → outermost_frame_at bytes ≡ Ok whole → Fails e (body_at 100 false 4 whole.0.elements whole.0.last) → Fails e (document_at bytes)
fails_inside errors.Memory bytes whole first failed = tt
fails_inside (errors.Fault fault) bytes whole first failed =
    frame_first bytes ∙ ap (λ r. r >>= in_frame) first ∙ ap (λ (r : Result (List Field) BsonFault). r >>= λ fields. Ok (fields, whole.1)) failed

pub gives_document : (bytes : List ℕ) (whole : Frame × ℕ) (fields : List Field) → outermost_frame_at bytes ≡ Ok whole → body_at 100 false 4 whole.0.elements whole.0.last ≡ Ok fields → document_at bytes ≡ Ok (fields, whole.1)
gives_document bytes whole fields first inside =
    frame_first bytes ∙ ap (λ r. r >>= in_frame) first ∙ ap (λ (r : Result (List Field) BsonFault). r >>= λ fields. Ok (fields, whole.1)) inside

-- ---- what is returned

pub is_read : (bytes : List ℕ) (d : List Field) (spelled rest : List ℕ) → Spells d spelled → Fits d → bytes ≡ spelled ++ rest → document_at bytes ≡ Ok (d, length spelled)
is_read bytes d spelled rest valid fits e = ap document_at e ∙ document_again d spelled rest valid fits

pub same_read : (bytes : List ℕ) (x y : List Field × ℕ) → document_at bytes ≡ Ok x → document_at bytes ≡ Ok y → (x.0 ≡ y.0) × (x.1 ≡ y.1)
same_read bytes x y e e' = let same : x ≡ y = cc in (ap (λ (r : List Field × ℕ). r.0) same, ap (λ (r : List Field × ℕ). r.1) same)

pub only_memory : (e : ReadError) (bytes : List ℕ) (read : List Field × ℕ) → Fails e (document_at bytes) → document_at bytes ≡ Ok read → public_fault e ≡ NoMemory
only_memory errors.Memory bytes read fails e = refl
only_memory (errors.Fault f) bytes read fails e = absurd cc

pub told : (e : ReadError) (bytes : List ℕ) → Fails e (document_at bytes) → (public_fault e ≡ NoMemory) ⊎ (first_fault bytes ≡ Some (public_fault e))
unfolding first_fault
told errors.Memory bytes fails = inl refl
told (errors.Fault f) bytes fails = inr (ap fault_of fails)

pub with_length : (bytes : List ℕ) (n : ℕ) → (read : List Field × ℕ) × (document_at bytes ≡ Ok read) × (read.1 ≡ n) → (d : List Field) × (document_at bytes ≡ Ok (d, n))
with_length bytes n found = (found.0.0, subst (λ (k : ℕ). document_at bytes ≡ Ok (found.0.0, k)) found.2 found.1)
