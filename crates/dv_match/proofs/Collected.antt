-- Parts that are parsed one after the other.
use Rattle.std.proofs.Common.{◌≡◌, ◌∙◌, ap, sym, refl, List, [], ◌∷◌, ◌++◌, ℕ, zero, suc, ◌+◌, add-one, drop, map, Some, None, slice_get, Result, Ok, Err, append_assoc, append-nil, ◌==◌, false, ◌<◌, ◌≤◌, length, get_or, arith, ◌⊎◌, inl, inr}
use Rattle.std.proofs.lemmas.List.{map-append}
use Rattle.std.proofs.lemmas.Option.{slice_get_read}
use Rattle.dv_match.specs.declared.fault.FilterFault.TheVariants.{NoMemory}
use Rattle.dv_value.specs.Tree.{Tree, array, Field, fields_of, elements_of}
use Rattle.dv_value.specs.View.{tree}
use Rattle.dv_value.specs.declared.value.Value.{Value}
use Rattle.dv_match.specs.declared.fault.FilterFault.{FilterFault}
use Rattle.dv_match.specs.Filter.{Member, Members, members_of, more_members, filters_of, more_filters, Condition, conditions_of, more_conditions}
use Rattle.dv_match.specs.Parsing.{member_named, filter_in, filter_of, filters_in, each_filter, conditions_in, operators_in, operator_named, condition_by, negated_in, test_in}
use Rattle.dv_value.specs.Results.{◌>>=◌, Gives}
use Rattle.dv_value.specs.Inner.ListLaws.{none-past, drop-here}

abbrev pub collected : {X Y : Type 0} → (X → Result Y FilterFault) → List X → Result (List Y) FilterFault
collected f [] = Ok []
collected f (x ∷ xs) = f x >>= λ y. collected f xs >>= λ ys. Ok (y ∷ ys)

abbrev pub after : {Y : Type 0} → List Y → Result (List Y) FilterFault → Result (List Y) FilterFault
after ys (Ok rest) = Ok (ys ++ rest)
after ys (Err e) = Err e

drop-none : {X : Type 0} (xs : List X) (i : ℕ) → slice_get xs i ≡ None → drop i xs ≡ []
drop-none [] zero e = refl
drop-none [] (suc i) e = refl
drop-none (z ∷ xs) zero e = absurd cc
drop-none (z ∷ xs) (suc i) e = drop-none xs i e

after-one : {Y : Type 0} (ys : List Y) (y : Y) (r : Result (List Y) FilterFault) → after ys (r >>= λ zs. Ok (y ∷ zs)) ≡ after (ys ++ y ∷ []) r
after-one ys y (Ok zs) = ap Ok (sym (append_assoc ys (y ∷ []) zs))
after-one ys y (Err e) = refl

-- some were parsed, which are ys, and the next is x
module _ {X Y : Type 0} (f : X → Result Y FilterFault) (xs : List X) (i : ℕ) (ys : List Y) (so-far : collected f xs ≡ after ys (collected f (drop i xs))) where
  to-next : (x : X) → slice_get xs i ≡ Some x → collected f xs ≡ after ys (f x >>= λ y. collected f (drop (suc i) xs) >>= λ zs. Ok (y ∷ zs))
  to-next x here = so-far ∙ ap (λ l. after ys (collected f l)) (drop-here xs i x here)

  pub one-more : (x : X) (y : Y) → slice_get xs i ≡ Some x → f x ≡ Ok y → collected f xs ≡ after (ys ++ y ∷ []) (collected f (drop (i + 1) xs))
  one-more x y here e = to-next x here ∙ ap (λ r. after ys (r >>= λ y. collected f (drop (suc i) xs) >>= λ zs. Ok (y ∷ zs))) e ∙ after-one ys y (collected f (drop (suc i) xs)) ∙ ap (λ n. after (ys ++ y ∷ []) (collected f (drop n xs))) (sym (add-one i))

  pub one-fault : (x : X) (e : FilterFault) → slice_get xs i ≡ Some x → f x ≡ Err e → collected f xs ≡ Err e
  one-fault x e here is = to-next x here ∙ ap (λ r. after ys (r >>= λ y. collected f (drop (suc i) xs) >>= λ zs. Ok (y ∷ zs))) is

  pub no-more : slice_get xs i ≡ None → collected f xs ≡ Ok ys
  no-more end = so-far ∙ ap (λ l. after ys (collected f l)) (drop-none xs i end) ∙ ap Ok (append-nil ys)

tied : {Y Z : Type 0} (a : Result Y FilterFault) (c : Result (List Y) FilterFault) (z : Result Z FilterFault) (more : Y → Z → Z) (of : List Y → Z) → z ≡ (c >>= λ ys. Ok (of ys)) → ((y : Y) (ys : List Y) → more y (of ys) ≡ of (y ∷ ys))
    → (a >>= λ y. z >>= λ rest. Ok (more y rest)) ≡ ((a >>= λ y. c >>= λ ys. Ok (y ∷ ys)) >>= λ ys. Ok (of ys))
tied (Err e) c z more of same step = refl
tied (Ok y) (Err e) z more of same step = ap (λ r. r >>= λ rest. Ok (more y rest)) same
tied (Ok y) (Ok ys) z more of same step = ap (λ r. r >>= λ rest. Ok (more y rest)) same ∙ ap Ok (step y ys)

abbrev pub member_of_field : Field → Result Member FilterFault
member_of_field f = member_named f.0 (filters_in f.1) (conditions_in f.1)

abbrev pub condition_of_field : Field → Result Condition FilterFault
condition_of_field f = condition_by (operator_named f.0) f.1 (negated_in f.1) (test_in f.1)

abbrev pub filter_of_value : Value → Result Members FilterFault
filter_of_value v = filter_of (tree v)

pub filter-collected : (fs : List Field) → filter_in (fields_of fs) ≡ (collected member_of_field fs >>= λ ms. Ok (members_of ms))
unfolding filter_in
filter-collected [] = refl
filter-collected (f ∷ fs) = tied (member_of_field f) (collected member_of_field fs) (filter_in (fields_of fs)) more_members members_of (filter-collected fs) (λ y ys. refl)

pub operators-collected : (fs : List Field) → operators_in (fields_of fs) ≡ (collected condition_of_field fs >>= λ cs. Ok (conditions_of cs))
unfolding operators_in
operators-collected [] = refl
operators-collected (f ∷ fs) = tied (condition_of_field f) (collected condition_of_field fs) (operators_in (fields_of fs)) more_conditions conditions_of (operators-collected fs) (λ y ys. refl)

pub filters-collected : (vs : List Value) → each_filter (elements_of (map tree vs)) ≡ (collected filter_of_value vs >>= λ fs. Ok (filters_of fs))
unfolding each_filter
filters-collected [] = refl
filters-collected (v ∷ vs) = tied (filter_of_value v) (collected filter_of_value vs) (each_filter (elements_of (map tree vs))) more_filters filters_of (filters-collected vs) (λ y ys. refl)

-- the three lists of parts, if a part is refused and if none is left
module _ (fs : List Field) (i : ℕ) (ms : List Member) (so-far : collected member_of_field fs ≡ after ms (collected member_of_field (drop i fs))) where
  pub filter-fault : (f : Field) (e : FilterFault) → Some f ≡ slice_get fs i → member_of_field f ≡ Err e → filter_in (fields_of fs) ≡ Err e
  filter-fault f e here is = filter-collected fs ∙ ap (λ r. r >>= λ ms. Ok (members_of ms)) (one-fault member_of_field fs i ms so-far f e (sym here) is)

  pub filter-end : slice_get fs i ≡ None → filter_in (fields_of fs) ≡ Ok (members_of ms)
  filter-end end = filter-collected fs ∙ ap (λ r. r >>= λ ms. Ok (members_of ms)) (no-more member_of_field fs i ms so-far end)

module _ (fs : List Field) (i : ℕ) (cs : List Condition) (so-far : collected condition_of_field fs ≡ after cs (collected condition_of_field (drop i fs))) where
  pub operators-fault : (f : Field) (e : FilterFault) → Some f ≡ slice_get fs i → condition_of_field f ≡ Err e → operators_in (fields_of fs) ≡ Err e
  operators-fault f e here is = operators-collected fs ∙ ap (λ r. r >>= λ cs. Ok (conditions_of cs)) (one-fault condition_of_field fs i cs so-far f e (sym here) is)

  pub operators-end : slice_get fs i ≡ None → operators_in (fields_of fs) ≡ Ok (conditions_of cs)
  operators-end end = operators-collected fs ∙ ap (λ r. r >>= λ cs. Ok (conditions_of cs)) (no-more condition_of_field fs i cs so-far end)

module _ (vs : List Value) (ts : List Tree) (seen : map tree vs ≡ ts) (i : ℕ) (fs : List Members) (so-far : collected filter_of_value vs ≡ after fs (collected filter_of_value (drop i vs))) where
  all-parsed : each_filter (elements_of ts) ≡ (collected filter_of_value vs >>= λ fs. Ok (filters_of fs))
  all-parsed = ap (λ l. each_filter (elements_of l)) (sym seen) ∙ filters-collected vs

  pub filters-fault : (v : Value) (e : FilterFault) → i < length vs → v ≡ get_or vs i v → filter_of_value v ≡ Err e → each_filter (elements_of ts) ≡ Err e
  filters-fault v e within is refused = all-parsed ∙ ap (λ r. r >>= λ fs. Ok (filters_of fs)) (one-fault filter_of_value vs i fs so-far v e (slice_get_read vs (length vs) i v refl within is) refused)

  pub filters-end : length vs ≤ i → each_filter (elements_of ts) ≡ Ok (filters_of fs)
  filters-end end = all-parsed ∙ ap (λ r. r >>= λ fs. Ok (filters_of fs)) (no-more filter_of_value vs i fs so-far (none-past vs i end))

-- what a loop keeps as it adds a part
pub kept : {X Y Z : Type 0} (f : X → Result Y FilterFault) (view : Z → Y) (xs : List X) (i : ℕ) (old new : List Z) (len : ℕ) (x : X) (z : Z) → collected f xs ≡ after (map view old) (collected f (drop i xs)) → Some x ≡ slice_get xs i → f x ≡ Ok (view z) → new ≡ old ++ z ∷ [] → len ≡ i + 1
    → collected f xs ≡ after (map view new) (collected f (drop len xs))
kept f view xs i old new len x z so-far here is items at =
    one-more f xs i (map view old) so-far x (view z) (sym here) is ∙ ap (λ ys. after ys (collected f (drop (i + 1) xs))) (sym (ap (map view) items ∙ map-append view old (z ∷ []))) ∙ ap (λ n. after (map view new) (collected f (drop n xs))) (sym at)

pub within-some : {X : Type 0} (xs : List X) (i : ℕ) (x : X) → Some x ≡ slice_get xs i → i < length xs
within-some [] i x e = absurd cc
within-some (y ∷ ys) zero x e = omega arith
within-some (y ∷ ys) (suc i) x e = omega (arith, within-some ys i x e)

pub gives-fault : {X Y Y' : Type 0} (view : X → Y) (r : Result X FilterFault) (e : FilterFault) (parsed : Result Y' FilterFault) (whole : Result Y FilterFault) → r ≡ Err e → (e ≡ NoMemory) ⊎ (parsed ≡ Err e) → (parsed ≡ Err e → whole ≡ Err e) → Gives NoMemory view r whole
gives-fault view r e parsed whole is (inl m) f = rw is (inl m)
gives-fault view r e parsed whole is (inr p) f = rw is (inr (f p))

pub filters-some : (v : Value) (values : List Value) (l : List Tree) → v ≡ Value.Array l → map tree values ≡ l → false ≡ (length values == 0) → filters_in (tree v) ≡ each_filter (elements_of l)
unfolding filters_in
filters-some v [] l e seen some = absurd cc
filters-some v (w ∷ ws) l e seen some = ap (λ x. filters_in (tree x)) e ∙ ap (λ x. filters_in (array (elements_of x))) (sym seen) ∙ ap (λ x. each_filter (elements_of x)) seen
