-- What a fold returns that stops where a test passes, and lists of candidates built one by one.
use Rattle.std.proofs.Common.{◌≡◌, Bool, true, false, List, [], ◌∷◌, ◌++◌, map, Some, None, slice_get, Result, Ok, Err, ℕ, zero, suc, ◌+◌, ◌<◌, ◌≤◌, length, take, drop, drop_of_length-le, get_or, refl, ap, sym, ◌∙◌, arith, add-one, append_assoc, append-nil}
use Rattle.std.specs.Result.{is_err}
use Rattle.std.specs.List.{list_any, flat_map, FoldsTo}
use Rattle.std.proofs.lemmas.Bool.{or_left, or_right}
use Rattle.std.proofs.lemmas.List.{map-append}
use Rattle.std.proofs.lemmas.Grind.{flat_map-append}
use Rattle.dv_value.specs.Names.{value_under}
use Rattle.dv_value.specs.declared.value.Value.{Value}
use Rattle.dv_value.specs.Tree.{Tree, document, array, Field, fields_of, elements_of}
use Rattle.dv_value.specs.View.{tree}
use Rattle.dv_value.specs.Inner.TreeLaws.{fields_again, elements_again}
use Rattle.dv_value.specs.Inner.ListLaws.{take-read}
use Rattle.dv_candidates.specs.Candidates.{Candidate, entered, picked, step_from, candidates, whole, with_elements}
use Rattle.dv_candidates.specs.Path.{index_of}
use Rattle.dv_candidates.specs.View.{seen}
use Rattle.dv_candidates.specs.declared.candidate.Candidate as memory
use Rattle.dv_candidates.specs.declared.candidate.Candidate.TheVariants.{Found}
use denote.Ref.{Bor}
use Rattle.std.proofs.Math.Seq.{drop-cons}
use Rattle.dv_candidates.specs.Inner.Fold.{Takes, Folded, PassesOne}
use Rattle.dv_candidates.proofs.Folds.{any-right}

not_true : (b : Bool) → (b ≡ true → ⊥) → b ≡ false
not_true true h = absurd (h refl)
not_true false h = refl

module _ {T X E : Type 0} {seen : X → Candidate} (call : T → X → Result T E → Type 0) (test : Candidate → Bool) where
  none_passed : (fails : (t : T) (x : X) (u : T) → call t x (Ok u) → test (seen x) ≡ false) (t u : T) (cs : List Candidate) → FoldsTo (Takes seen call) t cs u → list_any test cs ≡ false
  none_passed fails t u [] h = refl
  none_passed fails t u (c ∷ cs) h =
      let failed : test c ≡ false = ap test (sym h.1.is) ∙ fails t h.1.at h.0 h.1.gives in
      rw (failed, none_passed fails h.0 u cs h.2) refl

  -- a fold that stops where the test passes returns an error exactly if it passes somewhere
  pub stopped-where : (fails : (t : T) (x : X) (u : T) → call t x (Ok u) → test (seen x) ≡ false) (passes : (t : T) (x : X) (e : E) → call t x (Err e) → test (seen x) ≡ true) (cs : List Candidate) (t : T) (r : Result T E) → Folded seen call (PassesOne cs) t r → is_err r ≡ list_any test cs
  stopped-where fails passes cs t (Ok u) h =
      let all = h.outcome in
      sym (not_true (list_any test cs) (λ some. let missed = none_passed fails t u all.taken all.calls in let taken = all.every test (record { passes = some }) in cc))
  stopped-where fails passes cs t (Err e) h =
      let some = h.outcome in
      let last : test some.last ≡ true = ap test (sym some.stops.is) ∙ passes some.reached some.stops.at e some.stops.gives in
      sym (some.only test (any-right test some.taken (some.last ∷ []) (or_left (test some.last) false last))).passes

-- one more item of a list that is read
pub flat_more : {X Y Z : Type 0} (f : Y → List Z) (view : X → Y) (xs : List X) (i : ℕ) (x : X) → i < length xs → x ≡ get_or xs i x → flat_map f (map view (take (i + 1) xs)) ≡ flat_map f (map view (take i xs)) ++ f (view x)
flat_more f view xs i x within is =
    ap (λ ys. flat_map f (map view ys)) (take-read xs i x within is) ∙ ap (flat_map f) (map-append view (take i xs) (x ∷ [])) ∙ flat_map-append f (map view (take i xs)) (view x ∷ []) ∙ ap (λ zs. flat_map f (map view (take i xs)) ++ zs) (append-nil (f (view x)))

-- what is added after what there was
pub grown : {X : Type 0} (now before start far added : List X) → now ≡ before ++ added → before ≡ start ++ far → now ≡ start ++ (far ++ added)
grown now before start far added p q = p ∙ ap (λ l. l ++ added) q ∙ append_assoc start far added

pub entered-document : (name : List ℕ) (v : Value) (d : List Field) → v ≡ Value.Doc d → entered name (tree v) ≡ value_under name d ∷ []
entered-document name v d e = ap (λ w. entered name (tree w)) e ∙ ap (λ fs. value_under name fs ∷ []) (fields_again d)

pub entered-other : (name : List ℕ) (v : Value) → ((d : _) → v ≡ Value.Doc d → ⊥) → entered name (tree v) ≡ []
entered-other name (Value.Doc d) none = absurd (none d refl)
entered-other name v none = refl

pub any-some : (test : Candidate → Bool) (vs : List Tree) (i : ℕ) (v : Tree) → slice_get vs i ≡ Some v → test (Some v) ≡ true → list_any test (map Some vs) ≡ true
any-some test [] i v e h = cc
any-some test (w ∷ vs) zero v e h = let same : w ≡ v = cc in or_left (test (Some w)) (list_any test (map Some vs)) (rw same h)
any-some test (w ∷ vs) (suc i) v e h = or_right (test (Some w)) (list_any test (map Some vs)) (any-some test vs i v e h)

pub none-past : (vs : List Tree) (i : ℕ) → length vs ≤ i → slice_get vs i ≡ None
none-past [] i h = refl
none-past (v ∷ vs) zero h = absurd (omega arith)
none-past (v ∷ vs) (suc i) h = none-past vs i (omega arith)

-- what a candidate in memory gives, by the value that it leads to
module _ (c : memory.Candidate) (value : Bor Value) (at : c ≡ Found value) where
  pub seen-at : (v : Tree) → tree value.now ≡ v → seen c ≡ Some v
  seen-at v e = ap seen at ∙ ap Some e

  pub elements-at : (l : List Tree) → value.now ≡ Value.Array l → with_elements (seen c) ≡ Some (array (elements_of l)) ∷ map Some l
  elements-at l e = ap with_elements (seen-at (array (elements_of l)) (ap tree e)) ∙ ap (λ vs. Some (array (elements_of l)) ∷ map Some vs) (elements_again l)

  pub step-document : (name : List ℕ) (d : List Field) → value.now ≡ Value.Doc d → step_from name (seen c) ≡ value_under name d ∷ []
  step-document name d e = ap (step_from name) (seen-at (document (fields_of d)) (ap tree e)) ∙ ap (λ fs. value_under name fs ∷ []) (fields_again d)

  pub step-array : (name : List ℕ) (l : List Tree) → value.now ≡ Value.Array l → step_from name (seen c) ≡ picked (index_of name) l ++ flat_map (entered name) l
  step-array name l e = ap (step_from name) (seen-at (array (elements_of l)) (ap tree e)) ∙ ap (λ vs. picked (index_of name) vs ++ flat_map (entered name) vs) (elements_again l)

flat_flat : {X Y Z : Type 0} (f : Y → List Z) (g : X → List Y) (xs : List X) → flat_map (λ x. flat_map f (g x)) xs ≡ flat_map f (flat_map g xs)
flat_flat f g [] = refl
flat_flat f g (x ∷ xs) = ap (λ zs. flat_map f (g x) ++ zs) (flat_flat f g xs) ∙ sym (flat_map-append f (g x) (flat_map g xs))

flat_one : {X : Type 0} (xs : List X) → flat_map (λ x. x ∷ []) xs ≡ xs
flat_one [] = refl
flat_one (x ∷ xs) = ap (λ ys. x ∷ ys) (flat_one xs)

-- the candidates of a path, component by component
pub whole-first : (names : List (List ℕ)) (fs : List Field) (name : List ℕ) → 0 < length names → name ≡ get_or names 0 name → flat_map (candidates (drop 1 names)) (value_under name fs ∷ []) ≡ whole fs names
unfolding whole
whole-first [] fs name some is = absurd (omega arith)
whole-first (n ∷ names) fs name some is = ap (λ m. flat_map (candidates names) (value_under m fs ∷ [])) is ∙ ap (λ gs. flat_map (candidates names) (value_under n gs ∷ [])) (sym (fields_again fs))

pub candidates-more : (names : List (List ℕ)) (i : ℕ) (name : List ℕ) (cs : List Candidate) → i < length names → name ≡ get_or names i name → flat_map (candidates (drop (i + 1) names)) (flat_map (step_from name) cs) ≡ flat_map (candidates (drop i names)) cs
candidates-more names i name cs within is =
    let here : drop i names ≡ name ∷ drop (i + 1) names = rw add-one (drop-cons names i name within ∙ ap (λ n. n ∷ drop (suc i) names) (sym is)) in
    sym (flat_flat (candidates (drop (i + 1) names)) (step_from name) cs) ∙ ap (λ ns. flat_map (candidates ns) cs) (sym here)

pub candidates-end : (names : List (List ℕ)) (i : ℕ) (cs : List Candidate) → length names ≤ i → flat_map (candidates (drop i names)) cs ≡ cs
candidates-end names i cs past = ap (λ ns. flat_map (candidates ns) cs) (drop_of_length-le names past) ∙ flat_one cs
