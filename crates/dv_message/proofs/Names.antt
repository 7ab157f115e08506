-- Names: where they end, and whether two are equal.
use Rattle.std.proofs.Common.{◌≡◌, ℕ, ◌+◌, Bool, true, false, ◌||◌, not, List, [], ◌∷◌, ◌++◌, Bor, refl, sym, ap, ◌∙◌, arith}
use Rattle.std.specs.BTreeMap.{is_at}
use Rattle.std.specs.BTreeSet.{insert_key}
use Rattle.std.specs.Cmp.Lexicographic.{slice_cmp}
use Rattle.std.specs.Ordering.{nat_cmp, is_eq, match_ordering}
use Rattle.std.specs.declared.cmp.Ordering.{Ordering}
use Rattle.std.specs.declared.cmp.Ordering.TheVariants.{Less, Equal, Greater}
use Rattle.std.specs.List.{list_any}
use Rattle.std.specs.Str.{bytes_eq}
use Rattle.std.proofs.Math.Bool.{and-false}
use Rattle.std.proofs.lemmas.Bool.{and_parts, or_parts}
use Rattle.std.proofs.lemmas.List.{append-nil}
use Rattle.std.proofs.lemmas.List.Folds.{list_any-append}
use Rattle.std.proofs.lemmas.Slice.Eq.{bytes_eq-Decides}
use Rattle.std.proofs.lemmas.Map.Text.{is_eq-slice_cmp}
use Rattle.dv_message.specs.Sections.{Section, body, named, body_count, are_distinct, names_among}
use Rattle.dv_message.proofs.Frames.{not_true}
use Rattle.dv_value.specs.Inner.ByteLaws.{bytes_eq-symmetric}

-- ---- names in a set

-- whether one of these is the name
abbrev pub is_kept : List ℕ → List (Bor (List ℕ)) → Bool
is_kept name kept = list_any (λ k. bytes_eq name k.now) kept

abbrev compare : Bor (List ℕ) → Bor (List ℕ) → Ordering
compare x y = slice_cmp nat_cmp x.now y.now

pub kept_by_order : (name : List ℕ) (kept : List (Bor (List ℕ))) → list_any (is_at (λ k. slice_cmp nat_cmp name k.now)) kept ≡ is_kept name kept
kept_by_order name [] = refl
kept_by_order name (k ∷ kept) = rw (is_eq-slice_cmp name k.now, kept_by_order name kept) refl

kept_same : (t_k t_x r : Bool) → t_k ≡ t_x → (t_x || r) ≡ (t_k || (t_x || r))
kept_same true t_x r e = rw (← e) refl
kept_same false t_x r e = refl

or_true : (b : Bool) → (b || true) ≡ true
or_true true = refl
or_true false = refl

last_first : (a b : Bool) → (a || b) ≡ (b || (a || false))
last_first true true = refl
last_first true false = refl
last_first false true = refl
last_first false false = refl

or_swap : (a b c : Bool) → (b || (a || c)) ≡ (a || (b || c))
or_swap true true c = refl
or_swap true false c = refl
or_swap false true c = refl
or_swap false false c = refl

-- names in a set: with one more
module _ (name : List ℕ) (k : Bor (List ℕ)) where
  abbrev is : Bor (List ℕ) → Bool
  is x = bytes_eq name x.now

  inserted_by : (x : Bor (List ℕ)) (kept : List (Bor (List ℕ))) (o : Ordering) → slice_cmp nat_cmp k.now x.now ≡ o → is_kept name (insert_key compare kept k) ≡ (is k || is_kept name kept)
      → is_kept name (match_ordering o (k ∷ x ∷ kept) (x ∷ kept) (x ∷ insert_key compare kept k)) ≡ (is k || (is x || is_kept name kept))
  inserted_by x kept Less e behind = refl
  inserted_by x kept Equal e behind =
      let equal : bytes_eq k.now x.now ≡ true = sym (is_eq-slice_cmp k.now x.now) ∙ ap is_eq e in
      kept_same (is k) (is x) (is_kept name kept) (ap (bytes_eq name) ((bytes_eq-Decides k.now x.now).0 equal))
  inserted_by x kept Greater e behind = ap (λ (b : Bool). is x || b) behind ∙ or_swap (is k) (is x) (is_kept name kept)

  pub kept_inserted : (kept : List (Bor (List ℕ))) → is_kept name (insert_key compare kept k) ≡ (is k || is_kept name kept)
  kept_inserted [] = refl
  kept_inserted (x ∷ kept) = inserted_by x kept (slice_cmp nat_cmp k.now x.now) refl (kept_inserted kept)

-- ---- distinct names

apart_last : (names : List (List ℕ)) (name : List ℕ) → are_distinct names ≡ true → list_any (bytes_eq name) names ≡ false → are_distinct (names ++ name ∷ []) ≡ true
apart_last [] name apart none = refl
apart_last (n ∷ names) name apart none =
    let parts = and_parts (not (list_any (bytes_eq n) names)) (are_distinct names) apart in
    let differ = or_parts (bytes_eq name n) (list_any (bytes_eq name) names) none in
    let none_before : list_any (bytes_eq n) (names ++ name ∷ []) ≡ false = list_any-append (bytes_eq n) names (name ∷ []) ∙ rw (not_true _ parts.0, bytes_eq-symmetric n name, differ.0) refl in
    rw (none_before, apart_last names name parts.1 differ.1) refl

-- a name that comes again
twice_by : (here : Bool) (n : List ℕ) (names : List (List ℕ)) (name : List ℕ) (others : List (List ℕ)) → bytes_eq name n ≡ here → (list_any (bytes_eq name) names ≡ true → are_distinct (names ++ name ∷ others) ≡ false)
    → (here || list_any (bytes_eq name) names) ≡ true → are_distinct ((n ∷ names) ++ name ∷ others) ≡ false
twice_by true n names name others e behind there =
    let again : list_any (bytes_eq n) (names ++ name ∷ others) ≡ true = list_any-append (bytes_eq n) names (name ∷ others) ∙ rw (bytes_eq-symmetric n name, e) (or_true (list_any (bytes_eq n) names)) in
    rw again refl
twice_by false n names name others e behind there = rw (behind there) (and-false (not (list_any (bytes_eq n) (names ++ name ∷ others))))

apart_twice : (names : List (List ℕ)) (name : List ℕ) (others : List (List ℕ)) → list_any (bytes_eq name) names ≡ true → are_distinct (names ++ name ∷ others) ≡ false
apart_twice [] name others there = absurd cc
apart_twice (n ∷ names) name others there = twice_by (bytes_eq name n) n names name others refl (apart_twice names name others) there

names_among-append : (one two : List Section) → names_among (one ++ two) ≡ names_among one ++ names_among two
names_among-append [] two = refl
names_among-append (body document ∷ one) two = names_among-append one two
names_among-append (named name documents ∷ one) two = ap (λ (ns : List (List ℕ)). name ∷ ns) (names_among-append one two)

-- ---- as far as a loop has come

-- the names so far are distinct, and are those that are kept
pub record AreKept (sections : List Section) (kept : List (Bor (List ℕ))) : Type 0 where
  pub apart : are_distinct (names_among sections) ≡ true
  pub same : (name : List ℕ) → is_kept name kept ≡ list_any (bytes_eq name) (names_among sections)

pub not_new : (b : Bool) → not b ≡ false → b ≡ true
not_new true e = refl
not_new false e = absurd cc

pub body_passed : (sections more : List Section) (kept : List (Bor (List ℕ))) (document : List ℕ) → more ≡ sections ++ body document ∷ [] → AreKept sections kept → AreKept more kept
body_passed sections more kept document is so_far =
    let names : names_among more ≡ names_among sections = ap names_among is ∙ names_among-append sections (body document ∷ []) ∙ append-nil (names_among sections) in
    record { apart = ap are_distinct names ∙ so_far.apart; same = λ name. so_far.same name ∙ ap (list_any (bytes_eq name)) (sym names) }

module _ (sections : List Section) (kept : List (Bor (List ℕ))) (k : Bor (List ℕ)) (documents : List (List ℕ)) (so_far : AreKept sections kept) where
  there : (found : Bool) → list_any (is_at (λ x. slice_cmp nat_cmp k.now x.now)) kept ≡ found → list_any (bytes_eq k.now) (names_among sections) ≡ found
  there found e = sym (so_far.same k.now) ∙ sym (kept_by_order k.now kept) ∙ e

  pub name_passed : (more : List Section) (now : List (Bor (List ℕ))) → more ≡ sections ++ named k.now documents ∷ [] → now ≡ insert_key compare kept k
      → list_any (is_at (λ x. slice_cmp nat_cmp k.now x.now)) kept ≡ false → AreKept more now
  name_passed more now is inserted new =
      let names : names_among more ≡ names_among sections ++ k.now ∷ [] = ap names_among is ∙ names_among-append sections (named k.now documents ∷ []) in
      record {
        apart = ap are_distinct names ∙ apart_last (names_among sections) k.now so_far.apart (there false new);
        same = λ name. ap (is_kept name) inserted ∙ kept_inserted name k kept ∙ ap (λ (b : Bool). bytes_eq name k.now || b) (so_far.same name)
            ∙ last_first (bytes_eq name k.now) (list_any (bytes_eq name) (names_among sections))
            ∙ sym (list_any-append (bytes_eq name) (names_among sections) (k.now ∷ [])) ∙ ap (list_any (bytes_eq name)) (sym names);
      }

  pub name_again : (all others : List Section) → all ≡ sections ++ named k.now documents ∷ others → list_any (is_at (λ x. slice_cmp nat_cmp k.now x.now)) kept ≡ true → are_distinct (names_among all) ≡ false
  name_again all others is found =
      ap (λ (ss : List Section). are_distinct (names_among ss)) is ∙ ap are_distinct (names_among-append sections (named k.now documents ∷ others))
      ∙ apart_twice (names_among sections) k.now (names_among others) (there true found)

-- ---- how many are bodies

pub body_count-append : (one two : List Section) → body_count (one ++ two) ≡ body_count one + body_count two
body_count-append [] two = omega arith
body_count-append (body document ∷ one) two = let behind = body_count-append one two in omega arith
body_count-append (named name documents ∷ one) two = body_count-append one two
