-- Elements that are checked, and not made.
use Rattle.std.proofs.Common.{◌≡◌, ℕ, zero, suc, ◌+◌, ◌-◌, ◌<◌, Bool, true, false, List, [], ◌∷◌, ◌++◌, length, map, Result, Ok, Err, refl, sym, ap, subst, ◌∙◌, arith}
use Rattle.std.proofs.lemmas.List.{map-append}
use Rattle.dv_value.specs.declared.fault.BsonFault.{BsonFault}
use Rattle.dv_bson.specs.declared.fault.ReadError.{ReadError}
use Rattle.dv_value.specs.declared.kind.Kind.TheVariants as kinds
use Rattle.dv_value.specs.Names.{bare, has_name, has_zero}
use Rattle.dv_bson.specs.Inner.Parts.{Passes, field_at}
use Rattle.dv_bson.specs.Reading.{Fails, Gives, Frame, Inside, frame_at, text_at, binary_at, value_at, fields_at}
use Rattle.dv_value.specs.Results.{◌>>=◌}
use Rattle.dv_value.specs.Tree.{Tree, string, array, document, null, min_key, max_key, Field, fields_of, elements_of}
use Rattle.dv_bson.proofs.Elements.{field_may_be_added}
use Rattle.dv_bson.proofs.Fronts.{has_name-bare}
use Rattle.dv_bson.proofs.Loop.{shorter, goes_on}

-- ---- a turn of a loop

module _ (inside : Inside) (in_array : Bool) (at : ℕ) (seen : List Field) (bytes : List ℕ) (made : Field × List ℕ) (is : field_at inside in_array at seen bytes ≡ Ok made) (rest : List ℕ) (same : made.1 ≡ rest) where
  pub walked_shorter : length rest < length bytes
  walked_shorter = omega (arith, shorter inside in_array at seen bytes made is, ap length same)

  pub walks_on : (last : ℕ) (total : Result (List Field) BsonFault) → fields_at inside (length bytes) in_array at seen bytes last ≡ total
      → fields_at inside (length rest) in_array (at + (length bytes - length rest)) (seen ++ made.0 ∷ []) rest last ≡ total
  walks_on last total so_far =
      subst (λ (r : List ℕ). fields_at inside (length r) in_array (at + (length bytes - length r)) (seen ++ made.0 ∷ []) r last ≡ total) same (goes_on inside in_array at seen bytes last made total is so_far)

pub named_on : (seen : List Field) (f : Field) (name : List ℕ) (names more : List (List ℕ)) → map (λ (g : Field). g.0) seen ≡ names → f.0 ≡ name → more ≡ names ++ name ∷ [] → map (λ (g : Field). g.0) (seen ++ f ∷ []) ≡ more
named_on seen f name names more named is e =
    map-append (λ (g : Field). g.0) seen (f ∷ []) ∙ ap (λ (ns : List (List ℕ)). ns ++ f.0 ∷ []) named ∙ ap (λ (n : List ℕ). names ++ n ∷ []) is ∙ sym e

pub new_among_names : (inside : Inside) (at : ℕ) (seen : List Field) (bytes : List ℕ) (made : Field × List ℕ) (name : List ℕ) (names : List (List ℕ)) → field_at inside false at seen bytes ≡ Ok made → map (λ (g : Field). g.0) seen ≡ names → made.0.0 ≡ name
    → (has_zero name ≡ false) × (has_name name (map bare names) ≡ false)
new_among_names inside at seen bytes made name names is named same =
    let may = field_may_be_added inside at seen bytes made is in
    subst (λ (n : List ℕ). (has_zero n ≡ false) × (has_name n (map bare names) ≡ false)) same (may.whole, has_name-bare made.0.0 seen names named ∙ may.fresh)

pub one_longer : (seen : List Field) (f : Field) (place : ℕ) → length seen ≡ place → length (seen ++ f ∷ []) ≡ place + 1
one_longer [] f place here = omega (arith, here)
one_longer (g ∷ seen) f place here = omega (arith, here, one_longer seen f (length seen) refl)

pub closes : {X : Type 0} (r : Result X ReadError) (seen : List Field) (read total : Result (List Field) BsonFault) → Gives (λ (x : X). seen) r read → read ≡ total → Passes r total
closes (Ok x) seen read total given same = (seen, sym same ∙ given)
closes (Err e) seen read total given same = subst (λ (t : Result (List Field) BsonFault). Fails e t) same given

-- ---- fields with these names, or with this number of them

pub names-bare : (names : List (List ℕ)) → map (λ (f : Field). f.0) (map bare names) ≡ names
names-bare [] = refl
names-bare (n ∷ names) = ap (λ (ns : List (List ℕ)). n ∷ ns) (names-bare names)

pub so_many : (n : ℕ) → (seen : List Field) × (length seen ≡ n)
so_many zero = ([], refl)
so_many (suc n) = let less = so_many n in (bare [] ∷ less.0, ap suc less.1)

-- ---- a value

-- the bytes that reading a value leaves
abbrev Leaves : Result (Tree × List ℕ) BsonFault → List ℕ → Type 0
Leaves read rest = (value : Tree × List ℕ) × (read ≡ Ok value) × (value.1 ≡ rest)

module _ (inside : Inside) (at : ℕ) (bytes : List ℕ) where
  pub behind_text : (text : List ℕ × List ℕ) → text_at bytes ≡ Ok text → Leaves (value_at inside kinds.Text at bytes) text.1
  unfolding value_at
  behind_text text e = ((string text.0, text.1), ap (λ (r : Result (List ℕ × List ℕ) BsonFault). r >>= λ text. Ok (string text.0, text.1)) e, refl)

  pub behind_binary : (value : Tree × List ℕ) → binary_at bytes ≡ Ok value → Leaves (value_at inside kinds.Binary at bytes) value.1
  unfolding value_at
  behind_binary value e = (value, e, refl)

  pub behind_null : Leaves (value_at inside kinds.Null at bytes) bytes
  unfolding value_at
  behind_null = ((null, bytes), refl, refl)

  pub behind_min_key : Leaves (value_at inside kinds.MinKey at bytes) bytes
  unfolding value_at
  behind_min_key = ((min_key, bytes), refl, refl)

  pub behind_max_key : Leaves (value_at inside kinds.MaxKey at bytes) bytes
  unfolding value_at
  behind_max_key = ((max_key, bytes), refl, refl)

  module _ (frame : Frame) (first : frame_at bytes ≡ Ok frame) where
    pub behind_document : (fields : List Field) × (inside false (at + 4) frame.elements frame.last ≡ Ok fields) → Leaves (value_at inside kinds.Doc at bytes) frame.rest
    unfolding value_at
    behind_document found = ((document (fields_of found.0), frame.rest), rw (first, found.1) refl, refl)

    pub behind_array : (fields : List Field) × (inside true (at + 4) frame.elements frame.last ≡ Ok fields) → Leaves (value_at inside kinds.Array at bytes) frame.rest
    unfolding value_at
    behind_array found = ((array (elements_of (map (λ (f : Field). f.1) found.0)), frame.rest), rw (first, found.1) refl, refl)
