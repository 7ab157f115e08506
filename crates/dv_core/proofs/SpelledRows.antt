-- The documents in the reply to a find can be encoded.
use Rattle.std.proofs.Common.{◌≡◌, ℕ, suc, ◌+◌, ◌*◌, ◌≤◌, ◌<◌, ◌^◌, ◌-◌, true, false, List, [], ◌∷◌, length, map, pos, refl, ap, arith}
use Rattle.std.proofs.lemmas.Int.{fits_signed_from_abs}
use Rattle.std.specs.Int.{w32, w64}
use Rattle.std.specs.Prelude.{codes}
use Rattle.std.specs.Str.{IsUtf8}
use Rattle.dv_value.specs.Names.{has_name, has_zero}
use Rattle.dv_value.specs.Spelling.{payload, spelling, IsValue, AreFields, AreElements, Spells}
use Rattle.dv_value.specs.Tree.{Tree, int32, int64, string, array, Field, fields_of, list_of_fields, elements_of}
use Rattle.dv_command.specs.Replies.{document_of, count, reply_of, batch_reply}
use Rattle.dv_cursor.specs.Batch.{total_size}
use Rattle.dv_pipe.specs.Laws.{AreSpellable}
use Rattle.dv_core.specs.Sound.{HasSpelling}
use Rattle.dv_value.specs.Inner.Spelled.{length-int32, length-int64, length-string}
use Rattle.dv_core.proofs.Spellings.{spelling-field, spelling-nil, spelling-long, sizes, array-bound}
use Rattle.dv_core.proofs.Texts.{are_ascii, IsUtf8-ascii}

pub number_valid : (n : ℕ) → n < 2 ^ 31 → IsValue (int32 (pos n))
number_valid n h = fits_signed_from_abs w32 (pos n) h

pub id_valid : (id : ℕ) → id < 2 ^ 63 → IsValue (int64 (pos id))
id_valid id h = fits_signed_from_abs w64 (pos id) h

pub more_valid : (name : List ℕ) (v : Tree) (fs : List Field) → are_ascii name ≡ true → has_zero name ≡ false → has_name name (list_of_fields (fields_of fs)) ≡ false → IsValue v → AreFields (fields_of fs) → AreFields (fields_of ((name, v) ∷ fs))
more_valid name v fs ascii whole fresh value rest = (IsUtf8-ascii name ascii, whole, fresh, value, rest)

abbrev pub ok_fields : List Field
ok_fields = (codes "ok", int32 (pos 1)) ∷ []

pub ok_valid : AreFields (fields_of ok_fields)
ok_valid = more_valid (codes "ok") (int32 (pos 1)) [] refl refl refl (number_valid 1 (omega arith)) tt

pub ok_size : length (spelling ok_fields) ≡ 13
ok_size = omega (arith, spelling-field (codes "ok", int32 (pos 1)) [], length-int32 (pos 1), spelling-nil)

pub spelled : (d : List Field) → AreFields (fields_of d) → length (spelling d) ≤ 2147483647 → Spells d (spelling d)
spelled d valid within = record { valid = valid; whole = refl; within = within }

pub ping_spelled : Spells (reply_of []) (spelling (reply_of []))
ping_spelled = spelled ok_fields ok_valid (omega (arith, ok_size))

-- ---- the documents in the reply to a find

documents_valid : (ds : List (List Field)) → AreSpellable ds → AreElements (elements_of (map document_of ds))
documents_valid [] valid = tt
documents_valid (d ∷ ds) valid = (valid.0, documents_valid ds valid.1)

documents_size : (ds : List (List Field)) → sizes (map document_of ds) ≡ total_size ds
documents_size [] = refl
documents_size (d ∷ ds) = ap (λ (n : ℕ). length (spelling d) + n) (documents_size ds)

documents_length : (ds : List (List Field)) → length (map document_of ds) ≡ length ds
documents_length [] = refl
documents_length (d ∷ ds) = ap suc (documents_length ds)

documents_count : (ds : List (List Field)) → 5 * length ds ≤ total_size ds
documents_count [] = omega arith
documents_count (d ∷ ds) = omega (arith, spelling-long d, documents_count ds)

-- the name of a batch in a reply
pub record IsBatchName (name : List ℕ) : Type 0 where
  pub ascii : are_ascii name ≡ true
  pub whole : has_zero name ≡ false
  pub fresh : (id : ℕ) (namespace : List ℕ) → has_name name (list_of_fields (fields_of ((codes "id", int64 (pos id)) ∷ (codes "ns", string namespace) ∷ []))) ≡ false
  pub short : length name ≤ 10

pub first_name : IsBatchName (codes "firstBatch")
first_name = record { ascii = refl; whole = refl; fresh = λ id namespace. refl; short = omega arith }

pub next_name : IsBatchName (codes "nextBatch")
next_name = record { ascii = refl; whole = refl; fresh = λ id namespace. refl; short = omega arith }

module _ (name : List ℕ) (is_name : IsBatchName name) (namespace : List ℕ) (text : IsUtf8 namespace) (short : length namespace ≤ 120) (id : ℕ) (fits : id < 2 ^ 63) (ds : List (List Field)) (valid : AreSpellable ds) (together : total_size ds ≤ 16777216) where
  abbrev pub rows : Tree
  rows = array (elements_of (map document_of ds))

  abbrev pub after : List Field
  after = (codes "id", int64 (pos id)) ∷ (codes "ns", string namespace) ∷ []

  abbrev pub cursor : List Field
  cursor = (name, rows) ∷ after

  cursor_valid : AreFields (fields_of cursor)
  cursor_valid =
      more_valid name rows after is_name.ascii is_name.whole (is_name.fresh id namespace) (documents_valid ds valid)
      (more_valid (codes "id") (int64 (pos id)) ((codes "ns", string namespace) ∷ []) refl refl refl (id_valid id fits) (more_valid (codes "ns") (string namespace) [] refl refl refl text tt))

  rows_size : length (payload rows) ≤ 16777216 + 10 * 3355444 + 5
  rows_size =
      let count : length (map document_of ds) ≤ 3355444 = omega (arith, documents_length ds, documents_count ds) in
      omega (arith, array-bound (map document_of ds) (omega arith), documents_size ds)

  after_size : length (spelling after) ≤ 152
  after_size =
      omega (arith, spelling-field (codes "id", int64 (pos id)) ((codes "ns", string namespace) ∷ []), length-int64 (pos id), spelling-field (codes "ns", string namespace) [], length-string namespace, spelling-nil)

  pub rows_spelled : HasSpelling (batch_reply name namespace id (map document_of ds))
  rows_spelled =
      spelled ((codes "cursor", document_of cursor) ∷ ok_fields)
      (more_valid (codes "cursor") (document_of cursor) ok_fields refl refl refl cursor_valid ok_valid)
      (omega (arith, spelling-field (codes "cursor", document_of cursor) ok_fields, ok_size, spelling-field (name, rows) after, rows_size, after_size, is_name.short))
