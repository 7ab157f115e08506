-- Batches as they are filled, row by row.
use Rattle.std.proofs.lemmas.Bool.Decides.{nat_tests}
use Rattle.std.proofs.lemmas.Bool.{le-leb}
use Rattle.std.proofs.Common.{◌≡◌, ◌∙◌, ℕ, zero, suc, ◌+◌, ◌<◌, ◌≤◌, ◌&&◌, ◌||◌, ◌⊎◌, inl, inr, Bool, true, false, cond, nat_le, nat_lt, min, List, [], ◌∷◌, ◌++◌, length, length-append, take, take_all, append_assoc, append-nil, refl, ap, sym, arith}
use Rattle.dv_value.specs.Tree.{Field}
use Rattle.dv_value.specs.Spelling.{spelling}
use Rattle.dv_cursor.specs.Batch.{total_size, batch_limit, can_hold, longest_front, batch}

abbrev Rows : Type 0
Rows = List (List Field)

-- a batch so far, with the next rows that it can also hold, up to the first that it can't
abbrev pub filled : ℕ → List (List Field) → List (List Field) → List (List Field)
filled count taken [] = taken
filled count taken (row ∷ rows) = cond (can_hold count (taken ++ row ∷ [])) (filled count (taken ++ row ∷ []) rows) taken

pub total_size-append : (xs ys : Rows) → total_size (xs ++ ys) ≡ total_size xs + total_size ys
total_size-append [] ys = omega arith
total_size-append (x ∷ xs) ys = omega (arith, total_size-append xs ys)

pub none_held : (count : ℕ) → can_hold count [] ≡ true
none_held count = ap (λ (b : Bool). b && (nat_le 0 1 || nat_le 0 batch_limit)) (le-leb 0 count (omega arith))

-- ---- the code's test
same_side : (m n l : ℕ) (a b : Bool) → nat_le m l ≡ a → nat_le n l ≡ b → m ≡ min n (l + 1) → a ≡ b
same_side m n l a b first second is = grind (arith, nat_tests)

fewer : (m n l : ℕ) (a b : Bool) → nat_lt m l ≡ a → nat_le n l ≡ b → n ≡ m + 1 → a ≡ b
fewer m n l a b first second is = grind (arith, nat_tests)

none : (m n : ℕ) (a b : Bool) → nat_le m 0 ≡ a → nat_le n 1 ≡ b → n ≡ m + 1 → a ≡ b
none m n a b first second is = grind (arith, nat_tests)

pub holds-is : (count n bytes more : ℕ) (taken : Rows) (row : List Field) → n ≡ length taken → bytes ≡ min (total_size taken) (batch_limit + 1) → more ≡ min (bytes + length (spelling row)) (batch_limit + 1)
    → (nat_lt n count && (nat_le n 0 || nat_le more batch_limit)) ≡ can_hold count (taken ++ row ∷ [])
holds-is count n bytes more taken row long so_far with_row =
    let after = taken ++ row ∷ [] in
    let one : length after ≡ n + 1 = length-append taken (row ∷ []) ∙ ap (λ (k : ℕ). k + 1) (sym long) in
    ap (λ (b : Bool). b && (nat_le n 0 || nat_le more batch_limit)) (fewer n (length after) count _ _ refl refl one)
    ∙ ap (λ (b : Bool). nat_le (length after) count && (b || nat_le more batch_limit)) (none n (length after) _ _ refl refl one)
    ∙ ap (λ (b : Bool). nat_le (length after) count && (nat_le (length after) 1 || b)) (same_side more (total_size after) batch_limit _ _ refl refl (omega (arith, total_size-append taken (row ∷ []))))

pub filled-more : (count : ℕ) (taken : Rows) (row : List Field) (rows : Rows) → can_hold count (taken ++ row ∷ []) ≡ true → filled count (taken ++ row ∷ []) rows ≡ filled count taken (row ∷ rows)
filled-more count taken row rows is = rw is refl

pub filled-no_more : (count : ℕ) (taken : Rows) (row : List Field) (rows : Rows) → can_hold count (taken ++ row ∷ []) ≡ false → taken ≡ filled count taken (row ∷ rows)
filled-no_more count taken row rows is = rw is refl

-- ---- what is filled like this is the longest prefix
-- what holds rows holds their prefixes
fewer_held : (count n m some more : ℕ) → n ≤ m → some ≤ more → (nat_le m count && (nat_le m 1 || nat_le more batch_limit)) ≡ true → (nat_le n count && (nat_le n 1 || nat_le some batch_limit)) ≡ true
fewer_held count n m some more long large held = grind (arith, nat_tests)

front_held : (count : ℕ) (xs ys : Rows) → can_hold count (xs ++ ys) ≡ true → can_hold count xs ≡ true
front_held count xs ys held = fewer_held count (length xs) (length (xs ++ ys)) (total_size xs) (total_size (xs ++ ys)) (omega (arith, length-append xs ys)) (omega (arith, total_size-append xs ys)) held

longer_not_held : (count : ℕ) (xs ys : Rows) (b : Bool) → can_hold count (xs ++ ys) ≡ b → can_hold count xs ≡ false → b ≡ false
longer_not_held count xs ys true held not = absurd (let front = front_held count xs ys held in cc)
longer_not_held count xs ys false held not = refl

longest_held : (count n : ℕ) (rows : Rows) → can_hold count (take n rows) ≡ true → longest_front count n rows ≡ take n rows
longest_held count zero rows held = refl
longest_held count (suc n) rows held = ap (λ b. cond b (take (suc n) rows) (longest_front count n rows)) held

longest_shorter : (count n : ℕ) (rows : Rows) → can_hold count (take (suc n) rows) ≡ false → longest_front count (suc n) rows ≡ longest_front count n rows
longest_shorter count n rows not = ap (λ b. cond b (take (suc n) rows) (longest_front count n rows)) not

take_front : (xs ys : Rows) → take (length xs) (xs ++ ys) ≡ xs
take_front [] ys = refl
take_front (x ∷ xs) ys = ap (λ (rs : Rows). x ∷ rs) (take_front xs ys)

take_more : (xs rows : Rows) (row : List Field) (n : ℕ) → length xs ≤ n → (ys : Rows) × (take (suc n) (xs ++ row ∷ rows) ≡ (xs ++ row ∷ []) ++ ys)
take_more [] rows row n long = (take n rows, refl)
take_more (x ∷ xs) rows row zero long = absurd (omega arith)
take_more (x ∷ xs) rows row (suc n) long = let more = take_more xs rows row n (omega arith) in (more.0, ap (λ (rs : Rows). x ∷ rs) more.1)

-- no prefix that goes on after these rows is held
module _ (count : ℕ) (taken rows : Rows) (row : List Field) (held : can_hold count taken ≡ true) (not : can_hold count (taken ++ row ∷ []) ≡ false) where
  ends : (n : ℕ) → length taken ≤ n → longest_front count n (taken ++ row ∷ rows) ≡ taken
  ends n long = at n long (equal_or_less (length taken) n long)
    where
      equal_or_less : (m k : ℕ) → m ≤ k → (m ≡ k) ⊎ (m < k)
      equal_or_less m k le = grind arith

      whole : (k : ℕ) → length taken ≡ k → longest_front count k (taken ++ row ∷ rows) ≡ taken
      whole k same =
          let front : take k (taken ++ row ∷ rows) ≡ taken = ap (λ (l : ℕ). take l (taken ++ row ∷ rows)) (sym same) ∙ take_front taken (row ∷ rows) in
          longest_held count k (taken ++ row ∷ rows) (ap (can_hold count) front ∙ held) ∙ front

      at : (k : ℕ) → length taken ≤ k → (length taken ≡ k) ⊎ (length taken < k) → longest_front count k (taken ++ row ∷ rows) ≡ taken
      at k le (inl same) = whole k same
      at zero le (inr less) = absurd (omega arith)
      at (suc k) le (inr less) =
          let more = take_more taken rows row k (omega arith) in
          longest_shorter count k (taken ++ row ∷ rows) (longer_not_held count (taken ++ row ∷ []) more.0 _ (ap (can_hold count) (sym more.1)) not)
          ∙ at k (omega arith) (equal_or_less (length taken) k (omega arith))

filled_longest : (count : ℕ) (taken rows : Rows) → can_hold count taken ≡ true → longest_front count (length (taken ++ rows)) (taken ++ rows) ≡ filled count taken rows
filled_longest count taken [] held =
    let whole : take (length (taken ++ [])) (taken ++ []) ≡ taken = take_all (length (taken ++ [])) (taken ++ []) (omega arith) ∙ append-nil taken in
    longest_held count (length (taken ++ [])) (taken ++ []) (ap (can_hold count) whole ∙ held) ∙ whole
filled_longest count taken (row ∷ rows) held = at (can_hold count (taken ++ row ∷ [])) refl (filled_longest count (taken ++ row ∷ []) rows)
  where
    at : (b : Bool) → can_hold count (taken ++ row ∷ []) ≡ b → (can_hold count (taken ++ row ∷ []) ≡ true → longest_front count (length ((taken ++ row ∷ []) ++ rows)) ((taken ++ row ∷ []) ++ rows) ≡ filled count (taken ++ row ∷ []) rows)
        → longest_front count (length (taken ++ row ∷ rows)) (taken ++ row ∷ rows) ≡ cond b (filled count (taken ++ row ∷ []) rows) taken
    at true is more = ap (λ (rs : Rows). longest_front count (length rs) rs) (sym (append_assoc taken (row ∷ []) rows)) ∙ more is
    at false is more = ends count taken rows row held is (length (taken ++ row ∷ rows)) (omega (arith, length-append taken (row ∷ rows)))

pub batch-filled : (count : ℕ) (rows : Rows) → batch count rows ≡ filled count [] rows
unfolding batch
batch-filled count rows = filled_longest count [] rows (none_held count)

-- ---- a batch needs no row after those that it may have
not_held : (n count : ℕ) (b : Bool) → count < n → (nat_le n count && b) ≡ false
not_held n count b less = grind (arith, nat_tests)

one_too_many : (count : ℕ) (taken : Rows) (row : List Field) → length taken ≡ count → can_hold count (taken ++ row ∷ []) ≡ false
one_too_many count taken row whole =
    let after = taken ++ row ∷ [] in
    not_held (length after) count (nat_le (length after) 1 || nat_le (total_size after) batch_limit) (omega (arith, length-append taken (row ∷ []), whole))

filled_taken : (count more : ℕ) (taken rows : Rows) → length taken + more ≡ count → filled count taken (take more rows) ≡ filled count taken rows
filled_taken count zero taken [] whole = refl
filled_taken count zero taken (row ∷ rows) whole = filled-no_more count taken row rows (one_too_many count taken row (omega (arith, whole)))
filled_taken count (suc more) taken [] whole = refl
filled_taken count (suc more) taken (row ∷ rows) whole =
    ap (λ (rs : Rows). cond (can_hold count (taken ++ row ∷ [])) rs taken)
    (filled_taken count more (taken ++ row ∷ []) rows (omega (arith, length-append taken (row ∷ []), whole)))

pub batch_taken : (count : ℕ) (rows : Rows) → batch count (take count rows) ≡ batch count rows
batch_taken count rows = batch-filled count (take count rows) ∙ filled_taken count count [] rows (omega arith) ∙ sym (batch-filled count rows)
