-- Views before a place.
use Rattle.std.proofs.Common.{◌≡◌, ◌<◌, ◌≤◌, ◌+◌, ℕ, zero, suc, Bool, true, false, List, [], ◌∷◌, map, take, length, Option, Some, None, cond, refl, ap, sym, ◌∙◌, arith, slice_get}
use Rattle.std.specs.Prelude.{nat_lt}
use Rattle.std.specs.Bool.{if◌then◌else◌}
use Rattle.std.specs.Str.{bytes_eq}
use Rattle.std.specs.List.{AllByRecursion, IsDistinct, position, position_from}
use Rattle.std.specs.Map.{keys_of, values_of}
use Rattle.std.specs.Option.{option_map}
use Rattle.std.specs.String.{string_bytes}
use Rattle.std.proofs.lemmas.Bool.{le-ltb, ltb-false, ltb-true, lt-ltb}
use Rattle.std.proofs.lemmas.Iterator.Adapters.{position_from-zero}
use Rattle.std.proofs.lemmas.Slice.Eq.{bytes_eq-Decides}
use Rattle.dv_views.specs.Inner.Body.{Body}
use Rattle.dv_change.specs.declared.taking.Taken as taking
use Rattle.dv_views.specs.Inner.Turned.{Known, known_at, with_known}
use Rattle.dv_views.specs.Inner.Older.{Entries, is_called, place_of_name, told_before, told_else, told_found, told_named, told_over, views, views_before}
use Rattle.dv_views.specs.Inner.Seen.{view_seen}
use Rattle.dv_views.specs.Views.{View}
use Rattle.dv_views.specs.Inner.Views.{AreNamedApart, view_under}
use Rattle.dv_value.specs.Inner.ByteLaws.{bytes_eq-symmetric}

-- ---- places of names

-- a place, if it is before another one
abbrev within : ℕ → Option ℕ → Option ℕ
within n None = None
within n (Some i) = cond (nat_lt i n) (Some i) None

within-more : (n : ℕ) (p : Option ℕ) → option_map suc (within n p) ≡ within (suc n) (option_map suc p)
within-more n None = refl
within-more n (Some i) = by (nat_lt i n) refl
  where
    by : (b : Bool) → nat_lt i n ≡ b → option_map suc (cond b (Some i) None) ≡ cond (nat_lt (suc i) (suc n)) (Some (suc i)) None
    by true is = let h : i < n = ltb-true i n is in ap (λ c. cond c (Some (suc i)) None) (sym (lt-ltb (suc i) (suc n) (omega arith)))
    by false is = let h : n ≤ i = ltb-false i n is in ap (λ c. cond c (Some (suc i)) None) (sym (le-ltb (suc i) (suc n) (omega arith)))

module _ {Y : Type 0} (name : List ℕ) where
  from : (i : ℕ) (es : Entries Y) → position_from (is_called name) i (keys_of es) ≡ option_map (λ n. i + n) (place_of_name name es)
  from i [] = refl
  from i (e ∷ es) = by (is_called name e.0) (place_of_name name es) (from (i + 1) es)
    where
      more : (n : ℕ) → (i + 1) + n ≡ i + suc n
      more n = omega arith

      same : i ≡ i + 0
      same = omega arith

      by : (b : Bool) (p : Option ℕ) → position_from (is_called name) (i + 1) (keys_of es) ≡ option_map (λ n. (i + 1) + n) p
          → cond b (Some i) (position_from (is_called name) (i + 1) (keys_of es)) ≡ option_map (λ n. i + n) (cond b (Some 0) (option_map suc p))
      by true p rest = ap Some same
      by false None rest = rest
      by false (Some n) rest = rest ∙ ap Some (more n)

  pub position_is : (es : Entries Y) → position (is_called name) (keys_of es) ≡ place_of_name name es
  position_is es = position_from-zero (is_called name) (keys_of es) ∙ from 0 es ∙ whole (place_of_name name es)
    where
      whole : (p : Option ℕ) → option_map (λ n. 0 + n) p ≡ p
      whole None = refl
      whole (Some n) = ap Some (let e : 0 + n ≡ n = omega arith in e)

  place-take : (n : ℕ) (es : Entries Y) → place_of_name name (take n es) ≡ within n (place_of_name name es)
  place-take zero es = none (place_of_name name es)
    where
      none : (p : Option ℕ) → None ≡ within 0 p
      none None = refl
      none (Some i) = ap (λ c. cond c (Some i) None) (sym (le-ltb i 0 (omega arith)))
  place-take (suc n) [] = refl
  place-take (suc n) (e ∷ es) = by (is_called name e.0) (place-take n es)
    where
      by : (b : Bool) → place_of_name name (take n es) ≡ within n (place_of_name name es) → cond b (Some 0) (option_map suc (place_of_name name (take n es))) ≡ within (suc n) (cond b (Some 0) (option_map suc (place_of_name name es)))
      by true rest = ap (λ c. cond c (Some 0) None) (sym (lt-ltb 0 (suc n) (omega arith)))
      by false rest = ap (option_map suc) rest ∙ within-more n (place_of_name name es)

  pub none_before : (n : ℕ) (es : Entries Y) → position (is_called name) (keys_of es) ≡ None → None ≡ place_of_name name (take n es)
  none_before n es none = sym (place-take n es ∙ ap (within n) (sym (position_is es) ∙ none))

  pub one_before : (n i : ℕ) (es : Entries Y) → position (is_called name) (keys_of es) ≡ Some i → i < n → Some i ≡ place_of_name name (take n es)
  one_before n i es is h = sym (place-take n es ∙ ap (within n) (sym (position_is es) ∙ is) ∙ ap (λ c. cond c (Some i) None) (lt-ltb i n h))

  pub one_behind : (n i : ℕ) (es : Entries Y) → position (is_called name) (keys_of es) ≡ Some i → n ≤ i → None ≡ place_of_name name (take n es)
  one_behind n i es is h = sym (place-take n es ∙ ap (within n) (sym (position_is es) ∙ is) ∙ ap (λ c. cond c (Some i) None) (le-ltb i n h))

  -- ---- views of names

  pub no_view_before : (es : Entries Y) → place_of_name name es ≡ None → view_under name (views es) ≡ None
  no_view_before [] none = refl
  no_view_before (e ∷ es) none = by (is_called name e.0) (place_of_name name es) none (no_view_before es)
    where
      by : (b : Bool) (p : Option ℕ) → cond b (Some 0) (option_map suc p) ≡ None → (p ≡ None → view_under name (views es) ≡ None) → cond b (Some (view_seen (string_bytes e.0) e.1)) (view_under name (views es)) ≡ None
      by true p none rest = absurd cc
      by false None none rest = rest refl
      by false (Some i) none rest = absurd cc

  pub view_before : (n i : ℕ) (es : Entries Y) (b : Body) → place_of_name name (take n es) ≡ Some i → slice_get (values_of es) i ≡ Some b → view_under name (views (take n es)) ≡ Some (view_seen name b)
  view_before zero i es b is there = absurd cc
  view_before (suc n) i [] b is there = absurd cc
  view_before (suc n) i (e ∷ es) b is there = by (is_called name e.0) refl i (place_of_name name (take n es)) is there (λ j. view_before n j es b)
    where
      by : (t : Bool) → is_called name e.0 ≡ t → (i : ℕ) (p : Option ℕ) → cond t (Some 0) (option_map suc p) ≡ Some i → slice_get (e.1 ∷ values_of es) i ≡ Some b
          → ((j : ℕ) → p ≡ Some j → slice_get (values_of es) j ≡ Some b → view_under name (views (take n es)) ≡ Some (view_seen name b))
          → cond t (Some (view_seen (string_bytes e.0) e.1)) (view_under name (views (take n es))) ≡ Some (view_seen name b)
      by true same zero p is there rest =
          let here : e.1 ≡ b = cc in
          λ k. Some (view_seen (sym ((bytes_eq-Decides name (string_bytes e.0)).0 same) k) (here k))
      by true same (suc i) p is there rest = absurd cc
      by false same i None is there rest = absurd cc
      by false same zero (Some j) is there rest = absurd cc
      by false same (suc i) (Some j) is there rest = let at : j ≡ i = cc in rest i (ap Some at) there

  pub place_within : (n i : ℕ) (es : Entries Y) → place_of_name name (take n es) ≡ Some i → i < length es
  place_within zero i es is = absurd cc
  place_within (suc n) i [] is = absurd cc
  place_within (suc n) i (e ∷ es) is = by (is_called name e.0) i (place_of_name name (take n es)) is (λ j. place_within n j es)
    where
      by : (t : Bool) (i : ℕ) (p : Option ℕ) → cond t (Some 0) (option_map suc p) ≡ Some i → ((j : ℕ) → p ≡ Some j → j < length es) → i < suc (length es)
      by true zero p is rest = omega arith
      by true (suc i) p is rest = absurd cc
      by false i None is rest = absurd cc
      by false zero (Some j) is rest = omega arith
      by false (suc i) (Some j) is rest = let at : j ≡ i = cc in let h : i < length es = rest i (ap Some at) in omega arith

  -- ---- the changes that views of names pass on

  pub none_told_before : (es : Entries Y) → place_of_name name es ≡ None → told_named name es ≡ None
  none_told_before [] none = refl
  none_told_before (e ∷ es) none = by (is_called name e.0) (place_of_name name es) none (none_told_before es)
    where
      by : (b : Bool) (p : Option ℕ) → cond b (Some 0) (option_map suc p) ≡ None → (p ≡ None → told_named name es ≡ None) → cond b (Some e.1.told) (told_named name es) ≡ None
      by true p none rest = absurd cc
      by false None none rest = rest refl
      by false (Some i) none rest = absurd cc

  pub told_before_at : (n i : ℕ) (es : Entries Y) (b : Body) → place_of_name name (take n es) ≡ Some i → slice_get (values_of es) i ≡ Some b → told_named name (take n es) ≡ Some b.told
  told_before_at zero i es b is there = absurd cc
  told_before_at (suc n) i [] b is there = absurd cc
  told_before_at (suc n) i (e ∷ es) b is there = by (is_called name e.0) i (place_of_name name (take n es)) is there (λ j. told_before_at n j es b)
    where
      by : (t : Bool) (i : ℕ) (p : Option ℕ) → cond t (Some 0) (option_map suc p) ≡ Some i → slice_get (e.1 ∷ values_of es) i ≡ Some b
          → ((j : ℕ) → p ≡ Some j → slice_get (values_of es) j ≡ Some b → told_named name (take n es) ≡ Some b.told) → cond t (Some e.1.told) (told_named name (take n es)) ≡ Some b.told
      by true zero p is there rest = let here : e.1 ≡ b = cc in ap (λ (c : Body). Some c.told) here
      by true (suc i) p is there rest = absurd cc
      by false i None is there rest = absurd cc
      by false zero (Some j) is there rest = absurd cc
      by false (suc i) (Some j) is there rest = let at : j ≡ i = cc in rest i (ap Some at) there

  pub told_here : (namespace : List ℕ) (all : List taking.Taken) (n : ℕ) (es : Entries Y) → told_named name (take n es) ≡ None → bytes_eq name namespace ≡ true → Some all ≡ told_found namespace all n es name
  told_here namespace all n es none is =
      sym (ap (λ t. told_else t (known_at namespace all name)) none ∙ ap (λ (b : Bool). if b then Some all else None) (bytes_eq-symmetric namespace name ∙ is))

  pub told_nowhere : (namespace : List ℕ) (all : List taking.Taken) (n : ℕ) (es : Entries Y) → told_named name (take n es) ≡ None → bytes_eq name namespace ≡ false → None ≡ told_found namespace all n es name
  told_nowhere namespace all n es none is =
      sym (ap (λ t. told_else t (known_at namespace all name)) none ∙ ap (λ (b : Bool). if b then Some all else None) (bytes_eq-symmetric namespace name ∙ is))

-- ---- the first view of a name is the only one

module _ {Y : Type 0} (name : List ℕ) where
  none-later : (n : List ℕ) (es : Entries Y) → bytes_eq name n ≡ true → AllByRecursion (λ m. bytes_eq n m ≡ false) (map (λ (v : View). v.name) (views es)) → told_named name es ≡ None
  none-later n [] is apart = refl
  none-later n (e ∷ es) is apart =
      let away : is_called name e.0 ≡ false = ap (λ (m : List ℕ). bytes_eq m (string_bytes e.0)) ((bytes_eq-Decides name n).0 is) ∙ apart.0 in
      ap (λ (b : Bool). if b then Some e.1.told else told_named name es) away ∙ none-later n es is apart.1

  over-is : (come : Known) (es : Entries Y) → AreNamedApart (views es) → told_over come es name ≡ told_else (told_named name es) (come name)
  unfolding IsDistinct
  over-is come [] apart = refl
  over-is come (e ∷ es) apart = by (is_called name e.0) refl (over-is (with_known (string_bytes e.0) e.1.told come) es apart.1)
    where
      by : (b : Bool) → is_called name e.0 ≡ b → told_over (with_known (string_bytes e.0) e.1.told come) es name ≡ told_else (told_named name es) (with_known (string_bytes e.0) e.1.told come name)
          → told_over (with_known (string_bytes e.0) e.1.told come) es name ≡ told_else (if b then Some e.1.told else told_named name es) (come name)
      by true is rest =
          rest ∙ ap (λ t. told_else t (with_known (string_bytes e.0) e.1.told come name)) (none-later (string_bytes e.0) es is apart.0) ∙ ap (λ (b : Bool). if b then e.1.told else come name) is
      by false is rest = rest ∙ ap (λ (b : Bool). told_else (told_named name es) (if b then e.1.told else come name)) is

pub found_is_before : {Y : Type 0} (namespace : List ℕ) (all : List taking.Taken) (n : ℕ) (es : Entries Y) → AreNamedApart (views_before n es) → told_found namespace all n es ≡ told_before namespace all n es
found_is_before namespace all n es apart = λ i name. sym (over-is name (known_at namespace all) (take n es) apart) i
