-- The first condition in a filter, when a loop has reached one of its parts.
use Rattle.std.proofs.Common.{◌≡◌, ◌∙◌, ℕ, suc, ◌+◌, ◌<◌, ◌≤◌, get_or, length, List, [], ◌∷◌, map, drop, drop_of_length-le, refl, ap, sym, Bool, Option, Some, None, add-one}
use Rattle.std.proofs.Math.Seq.{drop-cons}
use Rattle.std.specs.Option.{option_map, option_or}
use Rattle.dv_match.specs.declared.form.Member as memory
use Rattle.dv_match.specs.Filter.{Condition, Members, members_of, filters_of}
use Rattle.dv_match.specs.View.{member}
use Rattle.dv_keyed.specs.Choice.{first_in, first_in_member, first_in_all}

pub none-from : {X Y : Type 0} (f : X → Y) (o : Option X) (p : Option Y) → ((x : X) → o ≡ Some x → ⊥) → option_map f o ≡ p → p ≡ None
none-from f None p none e = sym e
none-from f (Some x) p none e = absurd (none x refl)

-- what is found first in a list is what its head gives, or else what is found in its tail
module _ {X Y : Type 0} (first : List X → Option Y) (one : X → Option Y) (empty : first [] ≡ None) (more : (x : X) (xs : List X) → first (x ∷ xs) ≡ option_or (one x) (first xs)) (xs : List X) (i : ℕ) where
  at-item : (x : X) → i < length xs → x ≡ get_or xs i x → first (drop i xs) ≡ option_or (one x) (first (drop (i + 1) xs))
  at-item x within is =
      let here : drop i xs ≡ x ∷ drop (i + 1) xs = rw add-one (drop-cons xs i x within ∙ ap (λ y. y ∷ drop (suc i) xs) (sym is)) in
      ap first here ∙ more x (drop (i + 1) xs)

  pub passed : (x : X) → i < length xs → x ≡ get_or xs i x → one x ≡ None → first (drop (i + 1) xs) ≡ first (drop i xs)
  passed x within is none = sym (at-item x within is ∙ ap (λ o. option_or o (first (drop (i + 1) xs))) none)

  pub found : (x : X) (y : Y) → i < length xs → x ≡ get_or xs i x → one x ≡ Some y → first (drop i xs) ≡ Some y
  found x y within is some = at-item x within is ∙ ap (λ o. option_or o (first (drop (i + 1) xs))) some

  pub exhausted : length xs ≤ i → first (drop i xs) ≡ None
  exhausted past = ap first (drop_of_length-le xs past) ∙ empty

module _ (test : Condition → Bool) (path : List (List ℕ)) where
  abbrev pub of-members : List memory.Member → Option Condition
  of-members ms = first_in test path (members_of (map member ms))

  abbrev pub of-filters : List Members → Option Condition
  of-filters fs = first_in_all test path (filters_of fs)

  pub no-member : of-members [] ≡ None
  unfolding first_in
  no-member = refl

  pub more-members : (m : memory.Member) (ms : List memory.Member) → of-members (m ∷ ms) ≡ option_or (first_in_member test path (member m)) (of-members ms)
  unfolding first_in
  more-members m ms = refl

  pub no-filter : of-filters [] ≡ None
  unfolding first_in_all
  no-filter = refl

  pub more-filters : (f : Members) (fs : List Members) → of-filters (f ∷ fs) ≡ option_or (first_in test path f) (of-filters fs)
  unfolding first_in_all
  more-filters f fs = refl
