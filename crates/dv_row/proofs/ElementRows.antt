-- The rows of an $unwind as the results of putting a value at a path of a row, or of removing it.
use Rattle.std.proofs.Common.{◌≡◌, ◌≢◌, ◌∙◌, ap, sym, refl, ℕ, Bool, true, false, List, [], ◌∷◌, map, Some, None, option_and_then, Ok, ◌⊎◌, inl, inr, if◌then◌else◌}
use Rattle.std.specs.Str.{bytes_eq}
use Rattle.dv_value.specs.Tree.{Tree, int32, int64, string, document, array, boolean, binary, object_id, date, null, timestamp, min_key, max_key, Field, fields_of, list_of_fields, Elements, no_elements, element, list_of_elements}
use Rattle.dv_value.specs.Names.{value_under, with_value_under, without}
use Rattle.dv_candidates.specs.Candidates.{Candidate}
use Rattle.dv_path.specs.Placing as placing
use Rattle.dv_path.specs.Placing.{put, put_behind, result_map}
use Rattle.dv_path.specs.Removing.{remove, left_behind}
use Rattle.dv_row.specs.Parsing.{unwinding}
use Rattle.dv_row.specs.Row.{Row}
use Rattle.dv_row.specs.Unwinding.{reached, changed_under, set_through, unwound_rows, unwound}
use Rattle.dv_row.specs.declared.unwind.Unwind.{Unwind}
use Rattle.dv_row.proofs.Unwound.{gone-through}

-- ---- one value put, or removed

exchanged : (name : List ℕ) (v w : Tree) (fs : List Field) → value_under name fs ≡ Some w → placing.with_field name (Some v) fs ≡ with_value_under name v fs
exchanged name v w [] there = absurd cc
exchanged name v w (f ∷ fs) there = go (bytes_eq name f.0) there (exchanged name v w fs)
  where
    go : (b : Bool) → (if b then Some f.1 else value_under name fs) ≡ Some w → (value_under name fs ≡ Some w → placing.with_field name (Some v) fs ≡ with_value_under name v fs)
        → (if b then (f.0, v) ∷ fs else f ∷ placing.with_field name (Some v) fs) ≡ (if b then (f.0, v) ∷ fs else f ∷ with_value_under name v fs)
    go true there rest = refl
    go false there rest = ap (λ l. f ∷ l) (rest there)

taken-away : (name : List ℕ) (fs : List Field) → placing.with_field name None fs ≡ without name fs
taken-away name [] = refl
taken-away name (f ∷ fs) = ap (λ l. if bytes_eq name f.0 then fs else f ∷ l) (taken-away name fs)

set-put : (path : List (List ℕ)) (v w : Tree) (fs : List Field) → reached path fs ≡ Some w → put fs path v ≡ Ok (set_through path (Some v) fs)
unfolding put
set-put [] v w fs there = absurd cc
set-put (name ∷ []) v w fs there = ap Ok (exchanged name v w fs there)
set-put (name ∷ next ∷ names) v w fs there =
    let through = gone-through (reached (next ∷ names)) (value_under name fs) w there in
    let new : List Field = set_through (next ∷ names) (Some v) (list_of_fields through.0) in
    ap (λ c. result_map (λ v. placing.with_field name (Some v) fs) (put_behind (next ∷ names) v c)) through.1
    ∙ ap (λ r. result_map (λ v. placing.with_field name (Some v) fs) (result_map (λ gs. document (fields_of gs)) r)) (set-put (next ∷ names) v w (list_of_fields through.0) through.2)
    ∙ ap Ok (exchanged name (document (fields_of new)) (document through.0) fs through.1)
    ∙ ap (λ c. Ok (changed_under name (set_through (next ∷ names) (Some v)) c fs)) (sym through.1)

set-removed : (path : List (List ℕ)) (w : Tree) (fs : List Field) → reached path fs ≡ Some w → set_through path None fs ≡ remove fs path
unfolding remove
set-removed [] w fs there = absurd cc
set-removed (name ∷ []) w fs there = sym (taken-away name fs) ∙ ap (λ c. placing.with_field name (option_and_then (left_behind []) c) fs) (sym there)
set-removed (name ∷ next ∷ names) w fs there =
    let through = gone-through (reached (next ∷ names)) (value_under name fs) w there in
    let new : List Field = remove (list_of_fields through.0) (next ∷ names) in
    ap (λ c. changed_under name (set_through (next ∷ names) None) c fs) through.1
    ∙ ap (λ l. with_value_under name (document (fields_of l)) fs) (set-removed (next ∷ names) w (list_of_fields through.0) through.2)
    ∙ sym (exchanged name (document (fields_of new)) (document through.0) fs through.1)
    ∙ ap (λ c. placing.with_field name (option_and_then (left_behind (next ∷ names)) c) fs) (sym through.1)

-- ---- rows

each-put : (path : List (List ℕ)) (w : Tree) (d : Row) (vs : List Tree) → reached path d ≡ Some w → map (put d path) vs ≡ map Ok (map (λ v. set_through path (Some v) d) vs)
each-put path w d [] there = refl
each-put path w d (v ∷ vs) there = ap (λ r. r ∷ map (put d path) vs) (set-put path v w d there) ∙ ap (λ l. Ok (set_through path (Some v) d) ∷ l) (each-put path w d vs there)

pub a_row_each : (u : Unwind) (row : Row) (v : Tree) (vs : Elements) → reached u.path row ≡ Some (array (element v vs)) → map (put row u.path) (v ∷ list_of_elements vs) ≡ map Ok (unwound u row)
unfolding unwound
a_row_each u row v vs there = each-put u.path (array (element v vs)) row (v ∷ list_of_elements vs) there ∙ ap (λ c. map Ok (unwound_rows u row c)) (sym there)

one-row : (u : Unwind) (row : Row) (v : Tree) → v ≢ null → ((vs : Elements) → v ≢ array vs) → unwound_rows u row (Some v) ≡ row ∷ []
one-row u row (array vs) some plain = absurd (plain vs refl)
one-row u row null some plain = absurd (some refl)
one-row u row (int32 n) some plain = refl
one-row u row (int64 n) some plain = refl
one-row u row (string s) some plain = refl
one-row u row (document fs) some plain = refl
one-row u row (boolean b) some plain = refl
one-row u row (binary s bs) some plain = refl
one-row u row (object_id id) some plain = refl
one-row u row (date n) some plain = refl
one-row u row (timestamp n) some plain = refl
one-row u row min_key some plain = refl
one-row u row max_key some plain = refl

pub the_row_itself : (u : Unwind) (row : Row) (v : Tree) → reached u.path row ≡ Some v → v ≢ null → ((vs : Elements) → v ≢ array vs) → unwound u row ≡ row ∷ []
unfolding unwound
the_row_itself u row v there some plain = ap (unwound_rows u row) there ∙ one-row u row v some plain

module _ (path : List (List ℕ)) (row : Row) where
  pub no_row : (reached path row ≡ None) ⊎ (reached path row ≡ Some null) ⊎ (reached path row ≡ Some (array no_elements)) → unwound (unwinding path false) row ≡ []
  unfolding unwound
  no_row (inl there) = ap (unwound_rows (unwinding path false) row) there
  no_row (inr (inl there)) = ap (unwound_rows (unwinding path false) row) there
  no_row (inr (inr there)) = ap (unwound_rows (unwinding path false) row) there

  pub preserved_row : (reached path row ≡ None) ⊎ (reached path row ≡ Some null) → unwound (unwinding path true) row ≡ row ∷ []
  unfolding unwound
  preserved_row (inl there) = ap (unwound_rows (unwinding path true) row) there
  preserved_row (inr there) = ap (unwound_rows (unwinding path true) row) there

  pub without_the_array : reached path row ≡ Some (array no_elements) → unwound (unwinding path true) row ≡ remove row path ∷ []
  unfolding unwound
  without_the_array there = ap (unwound_rows (unwinding path true) row) there ∙ ap (λ d. d ∷ []) (set-removed path (array no_elements) row there)

  pub no_more : (first : Row) (rest : List Row) → unwound (unwinding path false) row ≡ first ∷ rest → unwound (unwinding path true) row ≡ first ∷ rest
  unfolding unwound
  no_more first rest is = go (reached path row) is
    where
      go : (c : Candidate) → unwound_rows (unwinding path false) row c ≡ first ∷ rest → unwound_rows (unwinding path true) row c ≡ first ∷ rest
      go None is = absurd cc
      go (Some null) is = absurd cc
      go (Some (array no_elements)) is = absurd cc
      go (Some (array (element v vs))) is = is
      go (Some v) is = is
