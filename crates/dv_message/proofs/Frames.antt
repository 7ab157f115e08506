-- Documents and sections, as their lengths frame them.
use Rattle.std.proofs.Common.{◌≡◌, ℕ, suc, ◌+◌, ◌^◌, ◌<◌, ◌≤◌, Bool, true, false, ◌&&◌, not, cond, ltb, leb, eqb, List, [], ◌∷◌, ◌++◌, length, take, drop, Option, Some, None, refl, sym, ap, subst, ◌∙◌, arith}
use Rattle.std.specs.Int.{w32, to_le_bytes}
use Rattle.std.specs.List.{list_all}
use Rattle.std.specs.Str.{is_utf8}
use Rattle.std.proofs.lemmas.Bool.{ltb-true, leb-true, lt-ltb, le-leb, eq-eqb, eqb-true, and_parts, or_parts}
use Rattle.std.proofs.lemmas.List.{length-append, length-take-le, length-drop, take-append-drop, take_at, drop_at}
use Rattle.std.proofs.lemmas.Nat.{from_le_bytes-to_le_bytes_4}
use Rattle.dv_value.specs.Names.{has_zero}
use Rattle.dv_bson.specs.Reading.{cut_at_zero, onto_name}
use Rattle.dv_value.specs.Spelling.{IsBytes}
use Rattle.dv_value.specs.Inner.ByteLaws.{IsBytes-drop}
use Rattle.dv_message.specs.Sections.{Section, body, named, sized, row_spelling, section_spelling, is_framed, is_section, number_after, section_frame, section_documents, section_under, section_named, section_of, followed, section_by, section_at}
use Rattle.dv_message.proofs.Bytes.{IsBytes-behind, IsBytes-front, four, number_same}
use Rattle.dv_message.proofs.Rows.{Advances, IsSpelledBy, row_spelled, row_found}

-- ---- frames

pub some_if : {A : Type 0} (b : Bool) (x y : A) → cond b (Some x) None ≡ Some y → (b ≡ true) × (x ≡ y)
some_if true x y e = (refl, cc)
some_if false x y e = absurd cc

pub some_pair : {A B : Type 0} (a c : A) (b d : B) → ◌≡◌ {A = Option (A × B)} (Some (a, b)) (Some (c, d)) → (a ≡ c) × (b ≡ d)
some_pair {A = A} {B = B} a c b d e = let p : ◌≡◌ {A = A × B} (a, b) (c, d) = cc in (ap (λ (x : A × B). x.0) p, ap (λ (x : A × B). x.1) p)

pub record IsFrame (bytes frame rest : List ℕ) : Type 0 where
  pub least : 5 ≤ number_after 0 bytes
  pub most : number_after 0 bytes ≤ length bytes
  pub frame_is : take (number_after 0 bytes) bytes ≡ frame
  pub rest_is : drop (number_after 0 bytes) bytes ≡ rest

frame_shows : (bytes frame rest : List ℕ) → section_frame bytes ≡ Some (frame, rest) → IsFrame bytes frame rest
unfolding section_frame
frame_shows bytes frame rest e =
    let n = number_after 0 bytes in
    let one = some_if (ltb 4 n && leb n (length bytes)) (take n bytes, drop n bytes) (frame, rest) e in
    let tests = and_parts (ltb 4 n) (leb n (length bytes)) one.0 in
    record { least = ltb-true 4 n tests.0; most = leb-true n (length bytes) tests.1; frame_is = ap (λ (p : List ℕ × List ℕ). p.0) one.1; rest_is = ap (λ (p : List ℕ × List ℕ). p.1) one.1 }

pub frames_advance : Advances section_frame
frames_advance = record { shorter = λ bytes frame rest e. let f = frame_shows bytes frame rest e in omega (arith, f.least, f.most, ap length f.rest_is, length-drop (number_after 0 bytes) bytes) }

-- a frame is the first bytes, and has the length that they say
pub frame_parts : (bytes frame rest : List ℕ) → section_frame bytes ≡ Some (frame, rest) → (bytes ≡ frame ++ rest) × (5 ≤ length frame) × (number_after 0 frame ≡ length frame)
frame_parts bytes frame rest e =
    let f = frame_shows bytes frame rest e in
    let n = number_after 0 bytes in
    let parts : bytes ≡ frame ++ rest = sym (take-append-drop n bytes) ∙ ap (λ (x : List ℕ). x ++ drop n bytes) f.frame_is ∙ ap (λ (x : List ℕ). frame ++ x) f.rest_is in
    let len : length frame ≡ n = ap length (sym f.frame_is) ∙ length-take-le n bytes f.most in
    (parts, omega (arith, f.least, len), sym (number_same 0 frame rest (omega (arith, f.least, len))) ∙ ap (number_after 0) (sym parts) ∙ sym len)

is_framed_by : (frame : List ℕ) → 5 ≤ length frame → number_after 0 frame ≡ length frame → is_framed frame ≡ true
is_framed_by frame least same = rw (lt-ltb 4 (length frame) (omega arith), eq-eqb (number_after 0 frame) (length frame) same) refl

pub framed_least : (frame : List ℕ) → is_framed frame ≡ true → (5 ≤ length frame) × (number_after 0 frame ≡ length frame)
framed_least frame framed =
    let tests = and_parts (ltb 4 (length frame)) (eqb (number_after 0 frame) (length frame)) framed in
    let least = ltb-true 4 (length frame) tests.0 in
    (omega arith, eqb-true (number_after 0 frame) (length frame) tests.1)

pub frame_found : (frame rest : List ℕ) → is_framed frame ≡ true → section_frame (frame ++ rest) ≡ Some (frame, rest)
unfolding section_frame
frame_found frame rest framed =
    let (least, same) = framed_least frame framed in
    let n : number_after 0 (frame ++ rest) ≡ length frame = number_same 0 frame rest (omega arith) ∙ same in
    rw (n, lt-ltb 4 (length frame) (omega arith), le-leb (length frame) (length (frame ++ rest)) (omega (arith, length-append frame rest)), take_at frame rest (length frame) refl, drop_at frame rest (length frame) refl) refl

pub frames_spelled : IsSpelledBy section_frame (λ d. d) is_framed
frames_spelled = record {
  spelled = λ bytes frame rest h e. let p = frame_parts bytes frame rest e in (p.0, is_framed_by frame p.1 p.2);
  found = λ frame rest framed fits. frame_found frame rest framed;
}

pub not_true : (b : Bool) → not b ≡ true → b ≡ false
not_true true e = absurd cc
not_true false e = refl

-- ---- names

cut_more : (b : ℕ) (bytes : List ℕ) (here : Bool) (o : Option (List ℕ × List ℕ)) (name rest : List ℕ) → eqb b 0 ≡ here → o ≡ cut_at_zero bytes
    → ((n r : List ℕ) → cut_at_zero bytes ≡ Some (n, r) → (bytes ≡ n ++ 0 ∷ r) × (has_zero n ≡ false))
    → cond here (Some ([], bytes)) (onto_name b o) ≡ Some (name, rest) → (b ∷ bytes ≡ name ++ 0 ∷ rest) × (has_zero name ≡ false)
cut_more b bytes true o name rest is_zero is others e =
    let (no_name, all) = some_pair [] name bytes rest e in
    (ap (λ (x : ℕ). x ∷ bytes) (eqb-true b 0 is_zero) ∙ ap (λ (r : List ℕ). 0 ∷ r) all ∙ ap (λ (n : List ℕ). n ++ 0 ∷ rest) no_name, ap has_zero (sym no_name))
cut_more b bytes false None name rest is_zero is others e = absurd cc
cut_more b bytes false (Some (n, r)) name rest is_zero is others e =
    let (more, same) = some_pair (b ∷ n) name r rest e in
    let behind = others n r (sym is) in
    (ap (λ (x : List ℕ). b ∷ x) behind.0 ∙ ap (λ (x : List ℕ). (b ∷ n) ++ 0 ∷ x) same ∙ ap (λ (x : List ℕ). x ++ 0 ∷ rest) more, ap has_zero (sym more) ∙ rw (is_zero, behind.1) refl)

pub cut_joins : (bytes name rest : List ℕ) → cut_at_zero bytes ≡ Some (name, rest) → (bytes ≡ name ++ 0 ∷ rest) × (has_zero name ≡ false)
unfolding cut_at_zero
cut_joins [] name rest e = absurd cc
cut_joins (b ∷ bytes) name rest e = cut_more b bytes (eqb b 0) (cut_at_zero bytes) name rest refl refl (cut_joins bytes) e

pub cut_found : (name rest : List ℕ) → has_zero name ≡ false → cut_at_zero (name ++ 0 ∷ rest) ≡ Some (name, rest)
unfolding cut_at_zero
cut_found [] rest no_zero = refl
cut_found (b ∷ name) rest no_zero =
    let parts = or_parts (eqb b 0) (has_zero name) no_zero in
    rw (parts.0, cut_found name rest parts.1) refl

-- ---- sections

sized_framed : (bytes : List ℕ) → 1 ≤ length bytes → length bytes + 4 < 2 ^ 32 → is_framed (sized bytes) ≡ true
unfolding sized
sized_framed bytes some fits = is_framed_by (to_le_bytes w32 (length bytes + 4) ++ bytes) (omega arith) (from_le_bytes-to_le_bytes_4 (length bytes + 4) fits ∙ omega arith)

sized_is : (frame : List ℕ) → IsBytes frame → 5 ≤ length frame → number_after 0 frame ≡ length frame → frame ≡ sized (drop 4 frame)
unfolding sized
sized_is frame h least same =
    let len : length (drop 4 frame) + 4 ≡ length frame = omega (arith, length-drop 4 frame) in
    sym (take-append-drop 4 frame) ∙ ap (λ (x : List ℕ). x ++ drop 4 frame) (four 0 frame h (omega arith) ∙ ap (to_le_bytes w32) (same ∙ sym len))

sized-length : (bytes : List ℕ) → length (sized bytes) ≡ length bytes + 4
unfolding sized
sized-length bytes = omega arith

behind_size : (bytes : List ℕ) → drop 4 (sized bytes) ≡ bytes
unfolding sized
behind_size bytes = refl

documents_spelled : (bytes : List ℕ) (documents : List (List ℕ)) → IsBytes bytes → section_documents bytes ≡ Some documents → (bytes ≡ row_spelling documents) × (list_all is_framed documents ≡ true)
documents_spelled = row_spelled section_frame (λ d. d) is_framed frames_advance frames_spelled

-- the documents under a name
under_spelled : (name bytes : List ℕ) (found : Option (List (List ℕ))) (section : Section) → section_documents bytes ≡ found → IsBytes bytes → has_zero name ≡ false → section_under name found ≡ Some section
    → (section_spelling section ≡ 1 ∷ sized (name ++ 0 ∷ bytes)) × (is_section section ≡ true)
under_spelled name bytes None section is h no_zero e = absurd cc
under_spelled name bytes (Some documents) section is h no_zero e =
    let one = some_if (is_utf8 name) (named name documents) section e in
    let all = documents_spelled bytes documents h is in (
      ap section_spelling (sym one.1) ∙ ap (λ (b : List ℕ). 1 ∷ sized (name ++ 0 ∷ b)) (sym all.0),
      ap is_section (sym one.1) ∙ rw (one.0, no_zero, all.1) refl,
    )

named_spelled : (bytes : List ℕ) (cut : Option (List ℕ × List ℕ)) (section : Section) → cut_at_zero bytes ≡ cut → IsBytes bytes → section_named cut ≡ Some section
    → (section_spelling section ≡ 1 ∷ sized bytes) × (is_section section ≡ true)
named_spelled bytes None section is h e = absurd cc
named_spelled bytes (Some (name, rest)) section is h e =
    let parts = cut_joins bytes name rest is in
    let behind : IsBytes (0 ∷ rest) = IsBytes-behind name (0 ∷ rest) (subst IsBytes parts.0 h) in
    let one = under_spelled name rest (section_documents rest) section refl (λ i. behind (suc i)) parts.1 e in
    (one.0 ∙ ap (λ (b : List ℕ). 1 ∷ sized b) (sym parts.0), one.1)

module _ (frame : List ℕ) (section : Section) (h : IsBytes frame) (least : 5 ≤ length frame) (same : number_after 0 frame ≡ length frame) where
  framed_spelled : (kind : ℕ) (is_body is_named : Bool) → eqb kind 0 ≡ is_body → eqb kind 1 ≡ is_named
      → cond is_body (Some (body frame)) (cond is_named (section_named (cut_at_zero (drop 4 frame))) None) ≡ Some section → (section_spelling section ≡ kind ∷ frame) × (is_section section ≡ true)
  framed_spelled kind true is_named zero_kind one_kind e =
      let one : body frame ≡ section = cc in
      (ap section_spelling (sym one) ∙ ap (λ (k : ℕ). k ∷ frame) (sym (eqb-true kind 0 zero_kind)), ap is_section (sym one) ∙ is_framed_by frame least same)
  framed_spelled kind false true zero_kind one_kind e =
      let one = named_spelled (drop 4 frame) (cut_at_zero (drop 4 frame)) section refl (IsBytes-drop 4 frame h) e in
      (one.0 ∙ ap (λ (b : List ℕ). 1 ∷ b) (sym (sized_is frame h least same)) ∙ ap (λ (k : ℕ). k ∷ frame) (sym (eqb-true kind 1 one_kind)), one.1)
  framed_spelled kind false false zero_kind one_kind e = absurd cc

followed_is : (found : Option Section) (following : List ℕ) (section : Section) (rest : List ℕ) → followed found following ≡ Some (section, rest) → (found ≡ Some section) × (following ≡ rest)
followed_is None following section rest e = absurd cc
followed_is (Some s) following section rest e = let (same, behind) = some_pair s section following rest e in (ap Some same, behind)

record IsBehind (kind : ℕ) (bytes : List ℕ) (section : Section) (rest : List ℕ) : Type 0 where
  frame : List ℕ
  framed : section_frame bytes ≡ Some (frame, rest)
  section_is : section_of kind frame ≡ Some section

behind_kind : (kind : ℕ) (bytes : List ℕ) (front : Option (List ℕ × List ℕ)) (section : Section) (rest : List ℕ) → section_frame bytes ≡ front → section_by kind front ≡ Some (section, rest) → IsBehind kind bytes section rest
behind_kind kind bytes None section rest is e = absurd cc
behind_kind kind bytes (Some (frame, following)) section rest is e =
    let one = followed_is (section_of kind frame) following section rest e in
    record { frame = frame; framed = is ∙ ap (λ (r : List ℕ). Some (frame, r)) one.1; section_is = one.0 }

section_behind : (kind : ℕ) (bytes : List ℕ) (section : Section) (rest : List ℕ) → section_at (kind ∷ bytes) ≡ Some (section, rest) → IsBehind kind bytes section rest
unfolding section_at
section_behind kind bytes section rest e = behind_kind kind bytes (section_frame bytes) section rest refl e

no_section : (section : Section) (rest : List ℕ) → section_at [] ≡ Some (section, rest) → ⊥
unfolding section_at
no_section section rest e = cc

section_shorter : (bytes : List ℕ) (section : Section) (rest : List ℕ) → section_at bytes ≡ Some (section, rest) → length rest < length bytes
section_shorter [] section rest e = absurd (no_section section rest e)
section_shorter (kind ∷ bytes) section rest e =
    let b = section_behind kind bytes section rest e in
    let less = frames_advance.shorter bytes b.frame rest b.framed in omega arith

section_spelled : (bytes : List ℕ) (section : Section) (rest : List ℕ) → IsBytes bytes → section_at bytes ≡ Some (section, rest) → (bytes ≡ section_spelling section ++ rest) × (is_section section ≡ true)
section_spelled [] section rest h e = absurd (no_section section rest e)
section_spelled (kind ∷ bytes) section rest h e =
    let b = section_behind kind bytes section rest e in
    let p = frame_parts bytes b.frame rest b.framed in
    let fits : IsBytes b.frame = IsBytes-front b.frame rest (subst IsBytes p.0 (λ i. h (suc i))) in
    let one = framed_spelled b.frame section fits p.1 p.2 kind (eqb kind 0) (eqb kind 1) refl refl b.section_is in
    (ap (λ (x : List ℕ). kind ∷ x) p.0 ∙ ap (λ (x : List ℕ). x ++ rest) (sym one.0), one.1)

named_found : (name : List ℕ) (documents : List (List ℕ)) (rest : List ℕ) → is_section (named name documents) ≡ true → length (section_spelling (named name documents)) < 2 ^ 32
    → section_at (section_spelling (named name documents) ++ rest) ≡ Some (named name documents, rest)
unfolding section_at
named_found name documents rest is fits =
    let content = name ++ 0 ∷ row_spelling documents in
    let parts = and_parts (is_utf8 name && not (has_zero name)) (list_all is_framed documents) is in
    let named_so = and_parts (is_utf8 name) (not (has_zero name)) parts.0 in
    let long = sized-length content in
    let joined = length-append name (0 ∷ row_spelling documents) in
    let framed : is_framed (sized content) ≡ true = sized_framed content (omega arith) (omega arith) in
    let all : section_documents (row_spelling documents) ≡ Some documents = row_found section_frame (λ d. d) is_framed frames_advance frames_spelled documents parts.1 (omega arith) in
    ap (section_by 1) (frame_found (sized content) rest framed)
    ∙ ap (λ (c : List ℕ). followed (section_named (cut_at_zero c)) rest) (behind_size content)
    ∙ ap (λ (c : Option (List ℕ × List ℕ)). followed (section_named c) rest) (cut_found name (row_spelling documents) (not_true (has_zero name) named_so.1))
    ∙ ap (λ (found : Option (List (List ℕ))). followed (section_under name found) rest) all
    ∙ rw (named_so.0) refl

section_found : (section : Section) (rest : List ℕ) → is_section section ≡ true → length (section_spelling section) < 2 ^ 32 → section_at (section_spelling section ++ rest) ≡ Some (section, rest)
unfolding section_at
section_found (body document) rest is fits = ap (section_by 0) (frame_found document rest is)
section_found (named name documents) rest is fits = named_found name documents rest is fits

pub sections_advance : Advances section_at
sections_advance = record { shorter = section_shorter }

pub sections_are_spelled : IsSpelledBy section_at section_spelling is_section
sections_are_spelled = record { spelled = section_spelled; found = section_found }
