-- getMore, and the end of cursors.
use Rattle.std.proofs.Common.{◌≡◌, ℕ, zero, suc, ◌+◌, ◌<◌, ◌≤◌, ℤ, Bool, true, false, nat_lt, List, [], ◌∷◌, ◌++◌, take, drop, set, length, map, cond, if◌then◌else◌, Option, Some, is_some, Ok, refl, ap, sym, ◌∙◌, add-one, append_assoc, arith}
use Rattle.std.proofs.Math.Seq.{take-suc-set}
use Rattle.std.proofs.lemmas.Bool.Decides.{nat_tests}
use Rattle.dv_value.specs.Tree.{Tree, int64, Field}
use Rattle.dv_value.specs.View.{tree}
use Rattle.dv_value.specs.declared.value.Value.{Value}
use Rattle.dv_command.specs.Replies.{document_of, next_batch_reply}
use Rattle.dv_cursor.specs.Batch.{batch}
use Rattle.dv_cursor.specs.Cursors.{Cursors, advanced}
use Rattle.dv_core.specs.More.{gone_ids, id_behind, missing_ids, next_of, cursor_number, rows_asked, rows_wanted, went_each, without_cursor, without_cursors}

abbrev pub Rows : Type 0
Rows = List (List Field)

longer : (n m : ℕ) → nat_lt n m ≡ nat_lt (suc n) (suc m)
longer n m = grind (arith, nat_tests)

-- the reply has the cursor's id if rows are left after the first `n`, and 0 otherwise
pub id_behind-drop : (id n : ℕ) (rows : Rows) → id_behind id (drop n rows) ≡ cond (nat_lt n (length rows)) id 0
id_behind-drop id zero [] = refl
id_behind-drop id zero (row ∷ rows) = grind (arith, nat_tests)
id_behind-drop id (suc n) [] = grind (arith, nat_tests)
id_behind-drop id (suc n) (row ∷ rows) = rw (← longer n (length rows)) (id_behind-drop id n rows)

-- ---- a batch of a cursor

pub told_some : (n m taken long id told : ℕ) → taken ≡ n → long ≡ m → taken < long → told ≡ id → told ≡ cond (nat_lt n m) id 0
told_some n m taken long id told a b less is = grind (arith, nat_tests)

pub told_none : (n m taken long id told : ℕ) → taken ≡ n → long ≡ m → long ≤ taken → told ≡ 0 → told ≡ cond (nat_lt n m) id 0
told_none n m taken long id told a b less is = grind (arith, nat_tests)

pub more_given : (session : ℕ) (namespace : List ℕ) (id : ℤ) (count : ℕ) (rows : Rows) (cursors : Cursors) → rows_asked session namespace id cursors ≡ Some rows
    → (told : ℕ) → told ≡ cond (nat_lt (length (batch (rows_wanted count rows) rows)) (length rows)) (cursor_number id) 0
    → (reply : List Field) → reply ≡ next_batch_reply namespace told (map document_of (batch (rows_wanted count rows) rows)) → (left : Cursors) → left ≡ advanced session (cursor_number id) (length (batch (rows_wanted count rows) rows)) cursors
    → next_of session namespace (cursor_number id) count (rows_asked session namespace id cursors) cursors ≡ Ok (reply, left)
more_given session namespace id count rows cursors there told told_is reply is left leaves =
    let taken : Rows = batch (rows_wanted count rows) rows in
    let as_told = ap (λ (t : ℕ). next_batch_reply namespace t (map document_of taken)) (id_behind-drop (cursor_number id) (length taken) rows ∙ sym told_is) ∙ sym is in
    ap (λ (found : Option Rows). next_of session namespace (cursor_number id) count found cursors) there ∙ (λ i. Ok (as_told i, sym leaves i))

-- ---- the ids of cursors

module _ (session : ℕ) (namespace : List ℕ) (ids : List ℤ) (place : ℕ) (id : ℤ) (next : drop place ids ≡ id ∷ drop (place + 1) ids) (cursors after : Cursors) (leaves : after ≡ without_cursor session namespace id cursors) where
  pub went_more : (went all : List Bool) (b : Bool) → place < length went → b ≡ is_some (rows_asked session namespace id cursors) → take place went ++ went_each session namespace (drop place ids) cursors ≡ all
      → take (place + 1) (set went place b) ++ went_each session namespace (drop (place + 1) ids) after ≡ all
  went_more went all b within is told =
      let pushed : take (place + 1) (set went place b) ≡ take place went ++ b ∷ [] = rw add-one (take-suc-set went place b within) in
      ap (λ (bs : List Bool). bs ++ went_each session namespace (drop (place + 1) ids) after) pushed
      ∙ append_assoc (take place went) (b ∷ []) (went_each session namespace (drop (place + 1) ids) after)
      ∙ (λ i. take place went ++ is i ∷ went_each session namespace (drop (place + 1) ids) (leaves i))
      ∙ ap (λ (rest : List ℤ). take place went ++ went_each session namespace rest cursors) (sym next)
      ∙ told

  pub without_more : (all : Cursors) → without_cursors session namespace (drop place ids) cursors ≡ all → without_cursors session namespace (drop (place + 1) ids) after ≡ all
  without_more all left =
      (λ i. without_cursors session namespace (drop (place + 1) ids) (leaves i))
      ∙ ap (λ (rest : List ℤ). without_cursors session namespace rest cursors) (sym next) ∙ left

module _ (ids : List ℤ) (went : List Bool) (place : ℕ) (id : ℤ) (b : Bool) (next : drop place ids ≡ id ∷ drop (place + 1) ids) (next_went : drop place went ≡ b ∷ drop (place + 1) went) where
  abbrev gone_rest : List Tree
  gone_rest = gone_ids (drop (place + 1) ids) (drop (place + 1) went)

  abbrev missing_rest : List Tree
  missing_rest = missing_ids (drop (place + 1) ids) (drop (place + 1) went)

  gone_next : gone_ids (drop place ids) (drop place went) ≡ (if b then int64 id ∷ gone_rest else gone_rest)
  gone_next = λ i. gone_ids (next i) (next_went i)

  missing_next : missing_ids (drop place ids) (drop place went) ≡ (if b then missing_rest else int64 id ∷ missing_rest)
  missing_next = λ i. missing_ids (next i) (next_went i)

  pushed : (told all rest : List Tree) → told ++ int64 id ∷ rest ≡ all → (told ++ int64 id ∷ []) ++ rest ≡ all
  pushed told all rest is = append_assoc told (int64 id ∷ []) rest ∙ is

  pub gone_true : (told all : List Tree) → b ≡ true → told ++ gone_ids (drop place ids) (drop place went) ≡ all → (told ++ int64 id ∷ []) ++ gone_rest ≡ all
  gone_true told all is so_far = pushed told all gone_rest (ap (λ (ts : List Tree). told ++ ts) (sym (gone_next ∙ rw is refl)) ∙ so_far)

  pub gone_false : (told all : List Tree) → b ≡ false → told ++ gone_ids (drop place ids) (drop place went) ≡ all → told ++ gone_rest ≡ all
  gone_false told all is so_far = ap (λ (ts : List Tree). told ++ ts) (sym (gone_next ∙ rw is refl)) ∙ so_far

  pub missing_true : (told all : List Tree) → b ≡ true → told ++ missing_ids (drop place ids) (drop place went) ≡ all → told ++ missing_rest ≡ all
  missing_true told all is so_far = ap (λ (ts : List Tree). told ++ ts) (sym (missing_next ∙ rw is refl)) ∙ so_far

  pub missing_false : (told all : List Tree) → b ≡ false → told ++ missing_ids (drop place ids) (drop place went) ≡ all → (told ++ int64 id ∷ []) ++ missing_rest ≡ all
  missing_false told all is so_far = pushed told all missing_rest (ap (λ (ts : List Tree). told ++ ts) (sym (missing_next ∙ rw is refl)) ∙ so_far)

pub map-push : (vs : List Value) (v : Value) → map tree (vs ++ v ∷ []) ≡ map tree vs ++ tree v ∷ []
map-push [] v = refl
map-push (x ∷ vs) v = ap (λ (ts : List Tree). tree x ∷ ts) (map-push vs v)
