-- Indexes that are made, entry by entry, and dropped.
use Rattle.std.proofs.Common.{◌≡◌, ◌⊎◌, inl, inr, ◌++◌, ◌||◌, not, nat_lt, ℕ, Bool, true, false, if◌then◌else◌, List, [], ◌∷◌, length, map, codes, Result, Ok, Err, IsErrOf, refl, sym, ap, ◌∙◌}
use Rattle.std.proofs.Math.Seq.{drop-append_seam}
use Rattle.std.proofs.lemmas.List.Folds.{list_any-append}
use Rattle.std.specs.List.{list_any}
use Rattle.std.specs.Str.{bytes_eq}
use Rattle.dv_coll.specs.declared.fault.InsertFault.{InsertFault}
use Rattle.dv_coll.specs.declared.fault.InsertFault.TheVariants.{Duplicate, NoMemory}
use Rattle.dv_refusal.specs.declared.refusal.Refusal.{Refusal}
use Rattle.dv_refusal.specs.declared.refusal.Refusal.TheVariants.{BadValue, DuplicateKey, IndexNotFound, LimitReached, WantOfMemory}
use Rattle.dv_refusal.specs.Refusals.{insert_refusal}
use Rattle.dv_value.specs.Results.{◌>>=◌}
use Rattle.dv_keyed.specs.Index.{IndexForm, id_form}
use Rattle.dv_index.specs.Indexed.{is_dropped, without_index}
use Rattle.dv_index.specs.Unique.{are_broken}
use Rattle.dv_catalog.specs.IndexMaking.{index_limit, unless_broken, with_all, with_entries, within_limit, without_named}
use Rattle.dv_catalog.specs.Inner.IndexParts.{collection_so}
use Rattle.dv_catalog.specs.Inner.Parts.{Leaves}
use Rattle.dv_catalog.specs.State.{Collection}

pub any_seen : {X : Type 0} (test : IndexForm → Bool) (form : X → IndexForm) (xs : List X) → list_any test (map form xs) ≡ list_any (λ x. test (form x)) xs
any_seen test form [] = refl
any_seen test form (x ∷ xs) = ap (λ (b : Bool). test (form x) || b) (any_seen test form xs)

-- whether one of the existing indexes passes a test, or one of the others
pub any_parts : {X : Type 0} (test : IndexForm → Bool) (form : X → IndexForm) (there : List X) (others : List IndexForm) → list_any test (map form there ++ others) ≡ list_any (λ x. test (form x)) there || list_any test others
any_parts test form there others = list_any-append test (map form there) others ∙ (λ i. any_seen test form there i || list_any test others)

-- ---- all entries

-- if these are added after the existing ones
module _ (entries more : List IndexForm) (c : Collection) (come : with_entries entries c.indexes ≡ Ok (c.indexes ++ more)) where
  limited_by : (b : Bool) → nat_lt index_limit (length (c.indexes ++ more)) ≡ b → with_all entries c ≡ ((if b then Err LimitReached else Ok (c.indexes ++ more)) >>= unless_broken c)
  limited_by b is = ap (λ (r : Result (List IndexForm) Refusal). r >>= within_limit >>= unless_broken c) come ∙ ap (λ (x : Bool). (if x then Err LimitReached else Ok (c.indexes ++ more)) >>= unless_broken c) is

  broken_by : (b : Bool) → are_broken more c.documents ≡ b → unless_broken c (c.indexes ++ more) ≡ (if b then Err DuplicateKey else Ok (c.indexes ++ more))
  broken_by b is =
      ap (λ (xs : List IndexForm). if are_broken xs c.documents then Err DuplicateKey else Ok (c.indexes ++ more)) (drop-append_seam c.indexes more) ∙ ap (λ (x : Bool). if x then Err DuplicateKey else Ok (c.indexes ++ more)) is

  pub over_limit : nat_lt index_limit (length (c.indexes ++ more)) ≡ true → with_all entries c ≡ Err LimitReached
  over_limit over = limited_by true over

  pub none_made : nat_lt index_limit (length (c.indexes ++ more)) ≡ false → are_broken more c.documents ≡ true → with_all entries c ≡ Err DuplicateKey
  none_made within broken = limited_by false within ∙ broken_by true broken

  pub all_made : nat_lt index_limit (length (c.indexes ++ more)) ≡ false → are_broken more c.documents ≡ false → with_all entries c ≡ Ok (c.indexes ++ more)
  all_made within whole = limited_by false within ∙ broken_by false whole

  -- if the collection doesn't make them
  pub not_made : {B : Type 0} → nat_lt index_limit (length (c.indexes ++ more)) ≡ false → (fault : InsertFault) (result : Result B Refusal) (refusal : Refusal) (new : Collection) → result ≡ Err refusal → refusal ≡ insert_refusal fault
      → (IsErrOf {T = Unit {0}} (Err fault) Duplicate → are_broken more c.documents ≡ true) → new ≡ c → Leaves (collection_so c (with_all entries c)) c result new
  not_made within fault result refusal new is from broken same = rw is (by_fault fault from broken, same)
    where
      by_fault : (fault : InsertFault) → refusal ≡ insert_refusal fault → (IsErrOf {T = Unit {0}} (Err fault) Duplicate → are_broken more c.documents ≡ true) → (collection_so c (with_all entries c) ≡ Err refusal) ⊎ (refusal ≡ WantOfMemory)
      by_fault Duplicate from broken = inl (ap (collection_so c) (none_made within (broken refl)) ∙ ap Err (sym from))
      by_fault NoMemory from broken = inr from

-- ---- dropping

pub none_dropped : (name : List ℕ) (indexes : List IndexForm) → bytes_eq name (codes "*") ≡ false → bytes_eq name id_form.name ≡ false → list_any (is_dropped name) indexes ≡ false → without_named name indexes ≡ Err IndexNotFound
none_dropped name indexes star id there =
    λ i. if star i then Ok (id_form ∷ []) else if id i then Err BadValue else if there i then Ok (without_index name indexes) else Err IndexNotFound

-- if none is dropped, all stay
pub all_stay : (name : List ℕ) (indexes : List IndexForm) → list_any (is_dropped name) indexes ≡ false → without_index name indexes ≡ indexes
all_stay name [] none = refl
all_stay name (x ∷ xs) none = by_first (is_dropped name x) none (all_stay name xs)
  where
    by_first : (b : Bool) → b || list_any (is_dropped name) xs ≡ false → (list_any (is_dropped name) xs ≡ false → without_index name xs ≡ xs) → (if not b then x ∷ without_index name xs else without_index name xs) ≡ x ∷ xs
    by_first true none rest = absurd cc
    by_first false none rest = ap (λ (ys : List IndexForm). x ∷ ys) (rest none)

-- ---- the limit

pub sixty_four : (indexes : List IndexForm) → length indexes ≡ 64 → within_limit indexes ≡ Ok indexes
sixty_four indexes is = rw is

pub one_more : (indexes : List IndexForm) → length indexes ≡ 65 → within_limit indexes ≡ Err LimitReached
one_more indexes is = rw is
