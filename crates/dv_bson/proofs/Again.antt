-- The encoding of a document is read as this document.
use Rattle.std.proofs.Common.{◌≡◌, ℕ, zero, suc, ◌+◌, ◌-◌, ◌<◌, ◌≤◌, Bool, true, false, List, [], ◌∷◌, ◌++◌, length, map, Ok, refl, sym, ap, subst, ◌∙◌, append_assoc, append-nil, le_refl, arith}
use Rattle.std.specs.Int.{w32, w64, to_le_bytes, from_le_bytes}
use Rattle.std.proofs.lemmas.List.{length-append, length_push}
use Rattle.dv_value.specs.declared.kind.Kind.{Kind}
use Rattle.dv_value.specs.declared.kind.Kind.TheVariants as kinds
use Rattle.dv_value.specs.Tree.{Tree, int32, int64, string, document, array, boolean, binary, object_id, date, null, timestamp, min_key, max_key, Fields, Elements, Field, fields_of, list_of_fields, elements_of, list_of_elements}
use Rattle.dv_value.specs.Inner.Spelled.{length-counted, length-framed, length-tagged}
use Rattle.dv_value.specs.Spelling.{type_byte, kind_of, framed, counted, element_spelling, payload, fields_spelling, elements_spelling, IsValue, levels, fields_levels, elements_levels}
use Rattle.dv_bson.specs.Reading.{Inside, Frame, kind_at, name_at, text_at, frame_at, value_at, fields_at, body_at}
use Rattle.dv_value.specs.Results.{◌>>=◌}
use Rattle.dv_value.specs.Inner.TreeLaws.{fields_back, elements_back}
use Rattle.dv_bson.proofs.Steps.{bind_at}
use Rattle.dv_bson.proofs.Numbers.{wide32, wide64, first_again, signed_again}
use Rattle.dv_bson.proofs.Binaries.{binary_again}
use Rattle.dv_bson.proofs.Names.{kind_again}
use Rattle.dv_bson.proofs.Frames.{text_again, frame_again, framed_value}
use Rattle.dv_bson.specs.Inner.Parts.{numbered}
use Rattle.dv_bson.proofs.Fields.{name_again, AreRead, AreRead-fields, AreRead-elements, values, values-numbered, elements_spelling-from_read, elements_levels-values}

-- elements of fewer than k levels are read again
abbrev pub Complete : ℕ → Inside → Type 0
Complete k inside = (in_array : Bool) (at : ℕ) (d : List Field) → AreRead in_array [] d → fields_levels (fields_of d) < k → length (fields_spelling (fields_of d)) < 2147483648 → inside in_array at (fields_spelling (fields_of d)) 0 ≡ Ok d

module _ (k : ℕ) (inside : Inside) (complete : Complete k inside) (at : ℕ) (rest : List ℕ) where
  -- a value of no more than k levels is read again
  abbrev IsAgain : Tree → Type 0
  IsAgain v = IsValue v → levels v ≤ k → length (payload v) < 2147483648 → value_at inside (kind_of v) at (payload v ++ rest) ≡ Ok (v, rest)

  -- the elements in a frame are read again, and make the value
  framed_again : (in_array : Bool) (d : List Field) (v : List Field → Tree) → AreRead in_array [] d → fields_levels (fields_of d) < k → length (framed (fields_spelling (fields_of d))) < 2147483648 → framed_value inside in_array at v (framed (fields_spelling (fields_of d)) ++ rest) ≡ Ok (v d, rest)
  framed_again in_array d v read deep short =
      let elements = fields_spelling (fields_of d) in
      let small : length elements + 5 < 2147483648 = omega (arith, length-framed elements) in
      let frame : Frame = record { elements = elements; last = 0; rest = rest } in
      bind_at (frame_at (framed elements ++ rest)) (λ frame. inside in_array (at + 4) frame.elements frame.last >>= λ fields. Ok (v fields, frame.rest)) frame (Ok (v d, rest)) (frame_again elements rest small)
      (bind_at (inside in_array (at + 4) elements 0) (λ fields. Ok (v fields, rest)) d (Ok (v d, rest)) (complete in_array (at + 4) d read deep (omega arith)) refl)

  fields_of_again : (d : List Field) → IsAgain (document (fields_of d))
  unfolding value_at payload fields_spelling elements_spelling
  fields_of_again d valid deep short = framed_again false d (λ fields. document (fields_of fields)) (AreRead-fields d valid) deep short

  elements_of_again : (vs : List Tree) → IsAgain (array (elements_of vs))
  unfolding value_at payload fields_spelling elements_spelling
  elements_of_again vs valid deep short =
      let d = numbered 0 vs in
      let read = AreRead-elements vs valid in
      let same : elements_of (values d) ≡ elements_of vs = ap elements_of (values-numbered 0 vs) in
      let spelled : fields_spelling (fields_of d) ≡ elements_spelling 0 (elements_of vs) = elements_spelling-from_read [] d read ∙ ap (elements_spelling 0) same in
      let deep_in : fields_levels (fields_of d) < k = subst (λ (n : ℕ). n < k) (sym (elements_levels-values d ∙ ap elements_levels same)) deep in
      let short_in : length (framed (fields_spelling (fields_of d))) < 2147483648 = subst (λ (e : List ℕ). length (framed e) < 2147483648) (sym spelled) short in
      let again = framed_again true d (λ fields. array (elements_of (map (λ f. f.1) fields))) read deep_in short_in in
      ap (λ (e : List ℕ). value_at inside kinds.Array at (framed e ++ rest)) (sym spelled) ∙ again ∙ ap (λ (es : Elements). Ok (array es, rest)) same

  value_again : (v : Tree) → IsAgain v
  unfolding value_at payload fields_spelling elements_spelling
  value_again (string s) = λ valid deep short.
      bind_at (text_at (counted s ++ rest)) (λ text. Ok (string text.0, text.1)) (s, rest) (Ok (string s, rest)) (text_again s rest valid (omega (arith, length-counted s))) refl
  value_again (document fs) = subst (λ (gs : Fields). IsAgain (document gs)) (fields_back fs) (fields_of_again (list_of_fields fs))
  value_again (array vs) = subst (λ (ws : Elements). IsAgain (array ws)) (elements_back vs) (elements_of_again (list_of_elements vs))
  value_again (binary subtype bytes) = λ valid deep short. binary_again subtype bytes rest (omega (arith, length-tagged subtype bytes))
  value_again (object_id id) = λ valid deep short. first_again 12 object_id id rest valid.0
  value_again (boolean false) = λ valid deep short. refl
  value_again (boolean true) = λ valid deep short. refl
  value_again (int32 n) = λ valid deep short. signed_again w32 wide32 int32 n rest valid
  value_again (int64 n) = λ valid deep short. signed_again w64 wide64 int64 n rest valid
  value_again (date n) = λ valid deep short. signed_again w64 wide64 date n rest valid
  value_again null = λ valid deep short. refl
  value_again (timestamp n) = λ valid deep short.
      first_again 8 (λ front. timestamp (from_le_bytes w64 front)) (to_le_bytes w64 n) rest (wide64.len n) ∙ ap (λ (m : ℕ). Ok (timestamp m, rest)) (wide64.again n valid)
  value_again min_key = λ valid deep short. refl
  value_again max_key = λ valid deep short. refl

-- a field and those after it
field_again : (inside : Inside) (steps : ℕ) (in_array : Bool) (at : ℕ) (seen : List Field) (kind : Kind) (name text rest : List ℕ) (v : Tree) (last : ℕ) (all : List Field) →
    name_at in_array seen (name ++ 0 ∷ (text ++ rest)) ≡ Ok (name, text ++ rest) →
    ((at : ℕ) → value_at inside kind at (text ++ rest) ≡ Ok (v, rest)) →
    ((at : ℕ) → fields_at inside steps in_array at (seen ++ (name, v) ∷ []) rest last ≡ Ok all) →
    fields_at inside (suc steps) in_array at seen (type_byte kind ∷ (name ++ 0 ∷ (text ++ rest))) last ≡ Ok all
unfolding fields_at
field_again inside steps in_array at seen kind name text rest v last all named valued behind =
    let bytes = name ++ 0 ∷ (text ++ rest) in
    bind_at (kind_at (type_byte kind) at) _ kind (Ok all) (kind_again kind at)
    (bind_at (name_at in_array seen bytes) _ (name, text ++ rest) (Ok all) named
    (bind_at (value_at inside kind (at + (suc (length bytes) - length (text ++ rest))) (text ++ rest)) _ (v, rest) (Ok all) (valued (at + (suc (length bytes) - length (text ++ rest))))
    (behind (at + (suc (length bytes) - length rest)))))

fields_again : (k : ℕ) (inside : Inside) (complete : Complete k inside) (steps : ℕ) (in_array : Bool) (at : ℕ) (seen more : List Field) → AreRead in_array seen more → fields_levels (fields_of more) ≤ k → length (fields_spelling (fields_of more)) ≤ steps → length seen + steps < 2147483648 → fields_at inside steps in_array at seen (fields_spelling (fields_of more)) 0 ≡ Ok (seen ++ more)
unfolding fields_at fields_spelling payload elements_spelling element_spelling
fields_again k inside complete steps in_array at seen [] read deep enough small = ap Ok (sym (append-nil seen))
fields_again k inside complete zero in_array at seen (f ∷ more) read deep enough small = absurd (omega arith)
fields_again k inside complete (suc steps) in_array at seen (f ∷ more) read deep enough small =
    let text = payload f.1 in
    let rest = fields_spelling (fields_of more) in
    let grouped : (f.0 ++ 0 ∷ text) ++ rest ≡ f.0 ++ 0 ∷ (text ++ rest) = append_assoc f.0 (0 ∷ text) rest in
    let sizes : length ((f.0 ++ 0 ∷ text) ++ rest) ≡ length f.0 + suc (length text + length rest) = simp length-append (omega arith) in
    let behind : (at : ℕ) → fields_at inside steps in_array at (seen ++ f ∷ []) rest 0 ≡ Ok (seen ++ f ∷ more) = λ at. fields_again k inside complete steps in_array at (seen ++ f ∷ []) more read.2 (omega arith) (omega arith) (omega (arith, length_push seen f)) ∙ ap Ok (append_assoc seen (f ∷ []) more) in
    ap (λ (bytes : List ℕ). fields_at inside (suc steps) in_array at seen (type_byte (kind_of f.1) ∷ bytes) 0) grouped
    ∙ field_again inside steps in_array at seen (kind_of f.1) f.0 text rest f.1 0 (seen ++ f ∷ more)
    (name_again in_array seen f.0 (text ++ rest) (omega arith) read.0)
    (λ at. value_again k inside complete at rest f.1 read.1 (omega arith) (omega arith))
    behind

pub body_complete : (k : ℕ) → Complete k (body_at k)
unfolding body_at
body_complete zero in_array at d read deep short = absurd (omega arith)
body_complete (suc k) in_array at d read deep short = fields_again k (body_at k) (body_complete k) (length (fields_spelling (fields_of d))) in_array at [] d read (omega arith) (le_refl _) (omega arith)
