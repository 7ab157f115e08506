-- Fields that are copied, except those with some names.
use Rattle.std.proofs.Common.{◌≡◌, ◌∙◌, ℕ, ◌+◌, ◌<◌, ap, sym, refl, subst, Bool, true, false, ◌||◌, List, [], ◌∷◌, ◌++◌, Option, Some, length, get_or, take, map, cond, not, is_some, append_assoc, append-nil, arith, Bor}
use Rattle.std.specs.FinMap as finite
use Rattle.std.specs.Str.{bytes_eq}
use Rattle.std.proofs.lemmas.List.{take_more, map-append}
use Rattle.std.proofs.lemmas.List.Folds.{list_any-append}
use Rattle.std.proofs.lemmas.Slice.Eq.{bytes_eq-Decides}
use Rattle.dv_value.specs.Names.{AreNamed, has_name, has_zero, without}
use Rattle.dv_value.specs.Inner.Places.{Places}
use Rattle.dv_value.specs.Removing.{without_each}
use Rattle.dv_value.specs.Inner.Removing.{is_name_of, HasEach}
use Rattle.dv_value.specs.Tree.{Field}
use Rattle.dv_value.proofs.ByText.{get-insert}
use Rattle.dv_value.specs.Inner.NameLaws.{AreNamed-without, has_name-without, named_apart, without_missing}

-- ---- fields one by one

AreNamed-each : (names : List (List ℕ)) (fs : List Field) → AreNamed fs → AreNamed (without_each names fs)
AreNamed-each [] fs named = named
AreNamed-each (n ∷ names) fs named = AreNamed-each names (without n fs) (AreNamed-without n fs named)

-- a field with another name stays
stays : (names : List (List ℕ)) (f : Field) (fs : List Field) → is_name_of names f.0 ≡ false → without_each names (f ∷ fs) ≡ f ∷ without_each names fs
stays [] f fs none = refl
stays (n ∷ names) f fs none = by (bytes_eq n f.0) none (stays names f (without n fs))
  where
    by : (b : Bool) → (b || is_name_of names f.0) ≡ false → (is_name_of names f.0 ≡ false → without_each names (f ∷ without n fs) ≡ f ∷ without_each names (without n fs)) → without_each names (cond b fs (f ∷ without n fs)) ≡ f ∷ without_each names (without n fs)
    by true h rest = cc
    by false h rest = rest h

-- a field with one of the names is removed
goes : (names : List (List ℕ)) (f : Field) (fs : List Field) → is_name_of names f.0 ≡ true → has_name f.0 fs ≡ false → without_each names (f ∷ fs) ≡ without_each names fs
goes [] f fs among fresh = cc
goes (n ∷ names) f fs among fresh = by (bytes_eq n f.0) refl among (λ is. goes names f (without n fs) is (has_name-without f.0 n fs fresh))
  where
    same : bytes_eq n f.0 ≡ true → has_name n fs ≡ false
    same h = ap (λ m. has_name m fs) ((bytes_eq-Decides n f.0).0 h) ∙ fresh

    by : (b : Bool) → bytes_eq n f.0 ≡ b → (b || is_name_of names f.0) ≡ true → (is_name_of names f.0 ≡ true → without_each names (f ∷ without n fs) ≡ without_each names (without n fs)) → without_each names (cond b fs (f ∷ without n fs)) ≡ without_each names (without n fs)
    by true h is rest = ap (without_each names) (sym (without_missing n fs (same h)))
    by false h is rest = rest is

-- the fields so far, and what is left, without those with the names
pub record IsCopied (names : List (List ℕ)) (fields copy left : List Field) : Type 0 where
  pub whole : copy ++ without_each names left ≡ without_each names fields
  pub apart : AreNamed (copy ++ without_each names left)
  pub named : AreNamed left

pub none_copied : (names : List (List ℕ)) (fields : List Field) → AreNamed fields → IsCopied names fields [] fields
none_copied names fields named = record { whole = refl; apart = AreNamed-each names fields named; named = named }

module _ {names : List (List ℕ)} {fields copy left : List Field} (so-far : IsCopied names fields copy left) (f : Field) (rest : List Field) (here : left ≡ f ∷ rest) where
  named : AreNamed (f ∷ rest)
  named = subst AreNamed here so-far.named

  kept : is_name_of names f.0 ≡ false → copy ++ without_each names left ≡ copy ++ f ∷ without_each names rest
  kept none = ap (λ l. copy ++ without_each names l) here ∙ ap (λ l. copy ++ l) (stays names f rest none)

  joined : is_name_of names f.0 ≡ false → AreNamed (copy ++ f ∷ without_each names rest)
  joined none = subst AreNamed (kept none) so-far.apart

  pub copied_whole : has_zero f.0 ≡ false
  copied_whole = named.0

  pub copied_fresh : is_name_of names f.0 ≡ false → has_name f.0 copy ≡ false
  copied_fresh none = named_apart copy (without_each names rest) f (joined none)

  pub one_copied : is_name_of names f.0 ≡ false → IsCopied names fields (copy ++ f ∷ []) rest
  one_copied none =
      let same : (copy ++ f ∷ []) ++ without_each names rest ≡ copy ++ f ∷ without_each names rest = append_assoc copy (f ∷ []) (without_each names rest) in
      record { whole = same ∙ sym (kept none) ∙ so-far.whole; apart = subst AreNamed (sym same) (joined none); named = named.2 }

  passed : is_name_of names f.0 ≡ true → copy ++ without_each names left ≡ copy ++ without_each names rest
  passed among = ap (λ l. copy ++ without_each names l) here ∙ ap (λ l. copy ++ l) (goes names f rest among named.1)

  pub one_passed : is_name_of names f.0 ≡ true → IsCopied names fields copy rest
  one_passed among = record { whole = sym (passed among) ∙ so-far.whole; apart = subst AreNamed (passed among) so-far.apart; named = named.2 }

none-left : (names : List (List ℕ)) → without_each names [] ≡ []
none-left [] = refl
none-left (n ∷ names) = none-left names

pub all_copied : {names : List (List ℕ)} {fields copy left : List Field} → IsCopied names fields copy left → left ≡ [] → copy ≡ without_each names fields
all_copied {names} {fields} {copy} {left} so-far none = sym (append-nil copy) ∙ ap (λ l. copy ++ l) (sym (none-left names)) ∙ ap (λ l. copy ++ without_each names l) (sym none) ∙ so-far.whole

-- ---- the index of the names

pub HasEach-none : HasEach [] finite.empty
HasEach-none = record { finds = λ name. ap is_some (finite.get-empty _ name) }

pub HasEach-more : (names : List (List ℕ)) (n : List ℕ) (places : Places) (place : ℕ) → HasEach names places → HasEach (names ++ n ∷ []) (finite.insert places n place)
HasEach-more names n places place each = record { finds = λ name. ap is_some (get-insert places n place name) ∙ by name (bytes_eq n name) refl ∙ sym (list_any-append (λ m. bytes_eq m name) names (n ∷ [])) }
  where
    by : (name : List ℕ) (b : Bool) → bytes_eq n name ≡ b → is_some (cond b (Some place) (finite.get places name)) ≡ (is_name_of names name || is_name_of (n ∷ []) name)
    by name true h = grind (arith, h)
    by name false h = grind (arith, h, each.finds name)

-- one more of the borrowed names
pub HasEach-next : (names : List (Bor (List ℕ))) (i : ℕ) (d : Bor (List ℕ)) (places : Places) → i < length names → HasEach (map (λ n. n.now) (take i names)) places → HasEach (map (λ n. n.now) (take (i + 1) names)) (finite.insert places (get_or names i d).now i)
HasEach-next names i d places within each =
    let more : map (λ n. n.now) (take (i + 1) names) ≡ map (λ n. n.now) (take i names) ++ (get_or names i d).now ∷ [] = ap (map (λ (n : Bor (List ℕ)). n.now)) (take_more names i d within) ∙ map-append (λ (n : Bor (List ℕ)). n.now) (take i names) (get_or names i d ∷ []) in
    rw more (HasEach-more (map (λ n. n.now) (take i names)) (get_or names i d).now places i each)

-- the index says whether a name is one of these
pub told : (names : List (List ℕ)) (places : Places) (name : List ℕ) (o : Option ℕ) (none b : Bool) → HasEach names places → o ≡ finite.get places name → is_some o ≡ not none → none ≡ b → is_name_of names name ≡ not b
told names places name o none b each found some is = sym (each.finds name) ∙ ap is_some (sym found) ∙ some ∙ ap not is
