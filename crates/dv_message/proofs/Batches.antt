-- The reply with a batch of rows, as its bytes are appended, and the lengths that are put into it.
use Rattle.std.proofs.Common.{◌≡◌, ℕ, suc, ◌+◌, ◌-◌, ◌<◌, ◌≤◌, ◌^◌, List, [], ◌∷◌, ◌++◌, length, take, drop, drop_of_length-le, get_or, map, decimal, pos, refl, sym, ap, ◌∙◌, append_assoc, append-nil, add-one, drop-cons, length-append, length-drop, arith}
use Rattle.std.specs.Prelude.{codes}
use Rattle.std.specs.Int.{w32, w64, to_le_bytes}
use Rattle.std.proofs.lemmas.List.{take_at, drop_at, drop-drop, take-append-le, drop-append-le}
use Rattle.dv_value.specs.declared.kind.Kind.TheVariants as kinds
use Rattle.dv_value.specs.Inner.Spelled.{elements_spelling-element, elements_spelling-nil}
use Rattle.dv_value.specs.Spelling.{counted, element_spelling, elements_spelling, fields_spelling, framed, payload, spelling}
use Rattle.dv_value.specs.Tree.{Field, array, elements_of, int64, string}
use Rattle.dv_command.specs.Replies.{document_of}
use Rattle.dv_message.specs.Inner.Batches.{batch_spelling, cursor_spelling, id_spelling, row_spelling, rows_spelling}

-- ---- parts

pub two_appended : (old a b one two : List ℕ) → one ≡ old ++ a → two ≡ one ++ b → two ≡ old ++ (a ++ b)
two_appended old a b one two is_one is_two = is_two ∙ ap (λ (x : List ℕ). x ++ b) is_one ∙ append_assoc old a b

pub three_appended : (old a b c one two three : List ℕ) → one ≡ old ++ a → two ≡ one ++ b → three ≡ two ++ c → three ≡ old ++ ((a ++ b) ++ c)
three_appended old a b c one two three is_one is_two is_three = two_appended old (a ++ b) c two three (two_appended old a b one two is_one is_two) is_three

-- two parts that are appended one after the other are one appended part
pub grown : (old first mid new : List ℕ) → mid ≡ old ++ first → (part : List ℕ) × (new ≡ mid ++ part) → (part : List ℕ) × (new ≡ old ++ part)
grown old first mid new is (part, grew) = (first ++ part, two_appended old first part mid new is grew)

pub grown_behind_two : (old a b one two new : List ℕ) → one ≡ old ++ a → two ≡ one ++ b → new ≡ two → (part : List ℕ) × (new ≡ old ++ part)
grown_behind_two old a b one two new is_one is_two same = (a ++ b, same ∙ two_appended old a b one two is_one is_two)

pub grown_behind_three : (old a b c one two three new : List ℕ) → one ≡ old ++ a → two ≡ one ++ b → three ≡ two ++ c → new ≡ three → (part : List ℕ) × (new ≡ old ++ part)
grown_behind_three old a b c one two three new is_one is_two is_three same = ((a ++ b) ++ c, same ∙ three_appended old a b c one two three is_one is_two is_three)

pub longer : (old bytes new : List ℕ) → new ≡ old ++ bytes → length new ≡ length old + length bytes
longer old bytes new is = ap length is ∙ length-append old bytes

-- ---- a length that is put in

-- the length of a document that is closed by a zero
measured : (old : List ℕ) (start : ℕ) → start + 4 ≤ length old →
    let all = old ++ 0 ∷ [] in
    take start all ++ (to_le_bytes w32 (length all - start) ++ drop (start + 4) all) ≡ take start old ++ framed (drop (start + 4) old)
unfolding framed
measured old start room =
    let front : take start (old ++ 0 ∷ []) ≡ take start old = take-append-le start old (0 ∷ []) (omega arith) in
    let back : drop (start + 4) (old ++ 0 ∷ []) ≡ drop (start + 4) old ++ 0 ∷ [] = drop-append-le (start + 4) old (0 ∷ []) room in
    let long : length (old ++ 0 ∷ []) - start ≡ length (drop (start + 4) old) + 5 = omega (arith, length-append old (0 ∷ []), length-drop (start + 4) old) in
    λ i. front i ++ (to_le_bytes w32 (long i) ++ back i)

-- the same, in terms of a vector's length and items
pub closing : (old all put : List ℕ) (start len : ℕ) → start + 4 ≤ length old → all ≡ old ++ 0 ∷ [] → len ≡ length all → put ≡ take start all ++ (to_le_bytes w32 (length all - start) ++ drop (start + 4) all) → length put ≡ length all
    → take len (put ++ drop (length put) all) ≡ take start old ++ framed (drop (start + 4) old)
closing old all put start len room is_all is_len is_put same =
    take_at put (drop (length put) all) len (same ∙ sym is_len) ∙ is_put ∙ ap (λ (x : List ℕ). take start x ++ (to_le_bytes w32 (length x - start) ++ drop (start + 4) x)) is_all ∙ measured old start room

-- a document after the old bytes, with four bytes before its elements
closed : (old left elements all : List ℕ) (start : ℕ) → all ≡ old ++ (left ++ elements) → start ≡ length old → length left ≡ 4 → take start all ++ framed (drop (start + 4) all) ≡ old ++ framed elements
closed old left elements all start is_all is_start four =
    let front : take start (old ++ (left ++ elements)) ≡ old = take_at old (left ++ elements) start (sym is_start) in
    let back : drop (start + 4) (old ++ (left ++ elements)) ≡ elements =
    sym (drop-drop 4 start (old ++ (left ++ elements))) ∙ ap (drop 4) (drop_at old (left ++ elements) start (sym is_start)) ∙ drop_at left elements 4 four in
    ap (λ (x : List ℕ). take start x ++ framed (drop (start + 4) x)) is_all ∙ (λ i. front i ++ framed (back i))

-- ---- rows

next_row : (rows : List (List Field)) (place : ℕ) (row : List Field) → place < length rows → row ≡ get_or rows place row → drop place rows ≡ row ∷ drop (place + 1) rows
next_row rows place row within is = rw add-one (drop-cons rows place row within ∙ ap (λ (r : List Field). r ∷ drop (suc place) rows) (sym is))

rows_spelling-row : (place : ℕ) (row : List Field) (rows : List (List Field)) → rows_spelling place (row ∷ rows) ≡ row_spelling place row ++ rows_spelling (place + 1) rows
unfolding rows_spelling row_spelling
rows_spelling-row place row rows =
    elements_spelling-element place (document_of row) (map document_of rows)
    ∙ ap (λ (next : ℕ). element_spelling kinds.Doc (decimal place) (spelling row) ++ elements_spelling next (elements_of (map document_of rows))) (sym (add-one place))

rows_spelling-nil : (place : ℕ) (rows : List (List Field)) → rows ≡ [] → rows_spelling place rows ≡ []
unfolding rows_spelling
rows_spelling-nil place rows none = elements_spelling-nil place (map document_of rows) (ap (map document_of) none)

module _ (rows : List (List Field)) (place : ℕ) (out whole : List ℕ) (so_far : out ++ rows_spelling place (drop place rows) ≡ whole) where
  pub row_appended : (row : List Field) (new : List ℕ) → place < length rows → row ≡ get_or rows place row → new ≡ out ++ row_spelling place row → new ++ rows_spelling (place + 1) (drop (place + 1) rows) ≡ whole
  row_appended row new within is appended =
      let rest = rows_spelling (place + 1) (drop (place + 1) rows) in
      let split : rows_spelling place (drop place rows) ≡ row_spelling place row ++ rest = ap (rows_spelling place) (next_row rows place row within is) ∙ rows_spelling-row place row (drop (place + 1) rows) in
      ap (λ (x : List ℕ). x ++ rest) appended ∙ append_assoc out (row_spelling place row) rest ∙ ap (λ (x : List ℕ). out ++ x) (sym split) ∙ so_far

  pub rows_appended : length rows ≤ place → out ≡ whole
  rows_appended past =
      sym (append-nil out) ∙ ap (λ (x : List ℕ). out ++ x) (sym (rows_spelling-nil place (drop place rows) (drop_of_length-le rows past))) ∙ so_far

pub row_written : (place : ℕ) (row : List Field) (old one two : List ℕ) → one ≡ old ++ ((3 ∷ [] ++ decimal place) ++ 0 ∷ []) → two ≡ one ++ spelling row → two ≡ old ++ row_spelling place row
unfolding row_spelling element_spelling
row_written place row old one two is_one is_two =
    two_appended old ((3 ∷ [] ++ decimal place) ++ 0 ∷ []) (spelling row) one two is_one is_two ∙ ap (λ (bytes : List ℕ). old ++ 3 ∷ bytes) (append_assoc (decimal place) (0 ∷ []) (spelling row))

-- ---- documents

pub array_closed : (rows : List (List Field)) (old one two : List ℕ) (start : ℕ) → start ≡ length old → one ≡ old ++ 0 ∷ 0 ∷ 0 ∷ 0 ∷ [] → two ≡ one ++ rows_spelling 0 rows
    → take start two ++ framed (drop (start + 4) two) ≡ old ++ framed (rows_spelling 0 rows)
array_closed rows old one two start is_start is_one is_two =
    closed old (0 ∷ 0 ∷ 0 ∷ 0 ∷ []) (rows_spelling 0 rows) two start (two_appended old (0 ∷ 0 ∷ 0 ∷ 0 ∷ []) (rows_spelling 0 rows) one two is_one is_two) is_start refl

pub id_appended : (id : ℕ) (namespace old new : List ℕ) → new ≡ old ++ (((18 ∷ 105 ∷ 100 ∷ 0 ∷ (to_le_bytes w64 id ++ 2 ∷ 110 ∷ 115 ∷ 0 ∷ to_le_bytes w32 (length namespace + 1))) ++ namespace) ++ 0 ∷ []) → new ≡ old ++ id_spelling id namespace
unfolding id_spelling counted
id_appended id namespace old new is = is

id-fields : (id : ℕ) (namespace : List ℕ) → id_spelling id namespace ≡ element_spelling kinds.Int64 (codes "id") (payload (int64 (pos id))) ++ (element_spelling kinds.Text (codes "ns") (payload (string namespace)) ++ [])
unfolding id_spelling element_spelling payload
id-fields id namespace = λ i. 18 ∷ 105 ∷ 100 ∷ 0 ∷ (to_le_bytes w64 id ++ 2 ∷ 110 ∷ 115 ∷ 0 ∷ sym (append-nil (counted namespace)) i)

rows-field : (name rows : List ℕ) → (4 ∷ (name ++ 0 ∷ [])) ++ rows ≡ element_spelling kinds.Array name rows
unfolding element_spelling
rows-field name rows = ap (λ (bytes : List ℕ). 4 ∷ bytes) (append_assoc name (0 ∷ []) rows)

cursor-fields : (name namespace : List ℕ) (id : ℕ) (rows : List (List Field))
    → framed (element_spelling kinds.Array name (framed (rows_spelling 0 rows)) ++ (element_spelling kinds.Int64 (codes "id") (payload (int64 (pos id))) ++ (element_spelling kinds.Text (codes "ns") (payload (string namespace)) ++ [])))
    ≡ cursor_spelling name namespace id rows
unfolding cursor_spelling rows_spelling payload fields_spelling
cursor-fields name namespace id rows = refl

pub cursor_closed : (name namespace : List ℕ) (id : ℕ) (rows : List (List Field)) (old one two three : List ℕ) (start : ℕ) → start ≡ length old → one ≡ old ++ 0 ∷ 0 ∷ 0 ∷ 0 ∷ 4 ∷ (name ++ 0 ∷ []) → two ≡ one ++ framed (rows_spelling 0 rows)
    → three ≡ two ++ id_spelling id namespace → take start three ++ framed (drop (start + 4) three) ≡ old ++ cursor_spelling name namespace id rows
cursor_closed name namespace id rows old one two three start is_start is_one is_two is_three =
    let front : List ℕ = 4 ∷ (name ++ 0 ∷ []) in
    let array : List ℕ = framed (rows_spelling 0 rows) in
    let rest = id_spelling id namespace in
    let all : three ≡ old ++ 0 ∷ 0 ∷ 0 ∷ 0 ∷ ((front ++ array) ++ rest) = three_appended old (0 ∷ 0 ∷ 0 ∷ 0 ∷ front) array rest one two three is_one is_two is_three in
    let fields : framed ((front ++ array) ++ rest) ≡ cursor_spelling name namespace id rows = (λ i. framed (rows-field name array i ++ id-fields id namespace i)) ∙ cursor-fields name namespace id rows in
    closed old (0 ∷ 0 ∷ 0 ∷ 0 ∷ []) ((front ++ array) ++ rest) three start all is_start refl ∙ ap (λ (bytes : List ℕ). old ++ bytes) fields

batch-fields : (name namespace : List ℕ) (id : ℕ) (rows : List (List Field))
    → framed (3 ∷ 99 ∷ 117 ∷ 114 ∷ 115 ∷ 111 ∷ 114 ∷ 0 ∷ (cursor_spelling name namespace id rows ++ 16 ∷ 111 ∷ 107 ∷ 0 ∷ 1 ∷ 0 ∷ 0 ∷ 0 ∷ [])) ≡ batch_spelling name namespace id rows
unfolding batch_spelling cursor_spelling payload fields_spelling element_spelling
batch-fields name namespace id rows = refl

pub batch_closed : (name namespace : List ℕ) (id : ℕ) (rows : List (List Field)) (old one two three : List ℕ) (start : ℕ) → start ≡ length old → one ≡ old ++ 0 ∷ 0 ∷ 0 ∷ 0 ∷ 3 ∷ 99 ∷ 117 ∷ 114 ∷ 115 ∷ 111 ∷ 114 ∷ 0 ∷ []
    → two ≡ one ++ cursor_spelling name namespace id rows → three ≡ two ++ 16 ∷ 111 ∷ 107 ∷ 0 ∷ 1 ∷ 0 ∷ 0 ∷ 0 ∷ [] → take start three ++ framed (drop (start + 4) three) ≡ old ++ batch_spelling name namespace id rows
batch_closed name namespace id rows old one two three start is_start is_one is_two is_three =
    let cursor = cursor_spelling name namespace id rows in
    let ok : List ℕ = 16 ∷ 111 ∷ 107 ∷ 0 ∷ 1 ∷ 0 ∷ 0 ∷ 0 ∷ [] in
    let all = three_appended old (0 ∷ 0 ∷ 0 ∷ 0 ∷ 3 ∷ 99 ∷ 117 ∷ 114 ∷ 115 ∷ 111 ∷ 114 ∷ 0 ∷ []) cursor ok one two three is_one is_two is_three in
    closed old (0 ∷ 0 ∷ 0 ∷ 0 ∷ []) (3 ∷ 99 ∷ 117 ∷ 114 ∷ 115 ∷ 111 ∷ 114 ∷ 0 ∷ (cursor ++ ok)) three start all is_start refl ∙ ap (λ (bytes : List ℕ). old ++ bytes) (batch-fields name namespace id rows)

-- the length of the reply, in terms of a vector's length
pub batch-within : (name namespace : List ℕ) (id : ℕ) (rows : List (List Field)) (old new : List ℕ) (start len : ℕ) → start ≡ length old → len ≡ length new → new ≡ old ++ batch_spelling name namespace id rows → len ≤ start + 2147483647
    → length (batch_spelling name namespace id rows) + 21 < 2 ^ 32
batch-within name namespace id rows old new start len is_start is_len is within = omega (arith, ap length is, length-append old (batch_spelling name namespace id rows))
