-- Changes that are made one after the other, all of them or some.
use Rattle.std.proofs.Common.{◌≡◌, ◌<◌, ◌≤◌, arith, take-take, ◌+◌, ◌++◌, ◌⊎◌, inl, inr, ℕ, Bool, true, is_some, if◌then◌else◌, zero, suc, List, [], ◌∷◌, length, map, take, drop, get_or, Result, Err, refl, sym, ap, subst, ◌∙◌, append_assoc, length-append}
use Rattle.std.proofs.lemmas.List.{map_push}
use Rattle.dv_value.specs.Tree.{Field}
use Rattle.dv_value.specs.Inner.ListLaws.{drop-read}
use Rattle.dv_refusal.specs.declared.refusal.Refusal.{Refusal}
use Rattle.dv_refusal.specs.declared.refusal.Refusal.TheVariants.{WantOfMemory}
use Rattle.dv_index.specs.Indexed.{IndexedTree}
use Rattle.dv_index.specs.Inner.Indexed.{with_documents}
use Rattle.dv_catalog.specs.declared.counts.Counted.{Counted}
use Rattle.dv_catalog.specs.declared.failure.Stopped.{Stopped}
use Rattle.dv_catalog.specs.Changes.{Change, Effect, apply, changes_of, with_change, with_changes, with_put}
use Rattle.dv_coll.specs.Collection.{found, id_key, inserted, replaced}
use Rattle.dv_catalog.specs.Inner.EffectView.{AreFirst, ArePlaced}
use Rattle.dv_catalog.specs.Inner.Parts.{IsCut, IsRefused, MakesSo}
use Rattle.dv_catalog.specs.State.{Namespaces}

pub take_none : {X : Type 0} (xs : List X) → take 0 xs ≡ []
take_none [] = refl
take_none (x ∷ xs) = refl

pub take_shorter : {X : Type 0} (n : ℕ) (xs : List X) → (length (take n xs) ≤ n) × (length (take n xs) ≤ length xs)
take_shorter zero [] = (omega arith, omega arith)
take_shorter zero (x ∷ xs) = (omega arith, omega arith)
take_shorter (suc n) [] = (omega arith, omega arith)
take_shorter (suc n) (x ∷ xs) = let rest = take_shorter n xs in (omega (arith, rest.0), omega (arith, rest.1))

-- ---- a statement that stops before its first change

module _ (namespace : List ℕ) (does : Result Effect Refusal) (old new : Namespaces) (same : new ≡ old) where
  none_made : new ≡ apply namespace (take 0 (changes_of does)) old
  none_made = same ∙ ap (λ (cs : List Change). apply namespace cs old) (sym (take_none (changes_of does)))

  unchanged : (refusal : Refusal) → (does ≡ Err refusal) ⊎ (refusal ≡ WantOfMemory) → MakesSo {B = Counted} (λ counted. counted) namespace does old (Err (record { refusal = refusal; done = 0 })) new
  unchanged refusal (inl refused) = inl (record { so = refused; none = refl; kept = same })
  unchanged refusal (inr want) = inr (record { so = want; fewer = inl refl; made = none_made })

  pub stops_before : {B : Type 0} (counted : B → Counted) (refusal : Refusal) (stopped : Stopped) → stopped ≡ record { refusal = refusal; done = 0 } → (does ≡ Err refusal) ⊎ (refusal ≡ WantOfMemory) → MakesSo counted namespace does old (Err stopped) new
  stops_before counted refusal stopped is why = subst (λ (s : Stopped). IsRefused does old s new ⊎ IsCut namespace does old s new) (sym is) (unchanged refusal why)

-- ---- the first changes

placed_first : (documents : List (List Field)) (changes : List Change) (n : ℕ) → ArePlaced documents changes → ArePlaced documents (take n changes)
placed_first documents [] zero placed = tt
placed_first documents [] (suc n) placed = tt
placed_first documents (change ∷ changes) zero placed = tt
placed_first documents (change ∷ changes) (suc n) placed = (placed.0, placed_first (with_change documents change) changes n placed.1)

pub first_placed : (documents : List (List Field)) (changes : List Change) (n : ℕ) → ArePlaced documents changes → ArePlaced documents (take n changes)
first_placed = placed_first

-- if not all of the first ones are made
module _ (some all : List Change) (first : AreFirst some all) (done : ℕ) (within : done ≤ length some) where
  few : done ≤ first.count
  few = omega (arith, within, ap length first.are, (take_shorter first.count all).0)

  pub first_made : take done some ≡ take done all
  first_made = ap (take done) first.are ∙ take-take done first.count all few

  pub first_fewer : (done ≡ 0) ⊎ (done < length all)
  first_fewer = by first.fewer
    where
      by : (first.count ≡ 0) ⊎ (first.count < length all) → (done ≡ 0) ⊎ (done < length all)
      by (inl none) = inl (omega (arith, few, none))
      by (inr less) = inr (omega (arith, few, less))

with_last : (documents : List (List Field)) (changes : List Change) (change : Change) → with_changes documents (changes ++ change ∷ []) ≡ with_change (with_changes documents changes) change
with_last documents [] change = refl
with_last documents (first ∷ changes) change = with_last (with_change documents first) changes change

-- a collection with the changes of these items made, and the items that are left of all
pub record AreMadeSoFar {X : Type 0} (change : X → Change) (old : IndexedTree) (all : List X) (made : ℕ) (left : List X) (now : IndexedTree) : Type 0 where
  pub came : List X
  pub whole : came ++ left ≡ all
  pub count : length came ≡ made
  pub stands : now ≡ with_documents (with_changes old.documents (map change came)) old

module _ {X : Type 0} (change : X → Change) (old : IndexedTree) (all : List X) where
  pub made_more : (made : ℕ) (x : X) (left : List X) (now next : IndexedTree) → AreMadeSoFar change old all made (x ∷ left) now → next ≡ with_documents (with_change now.documents (change x)) now → AreMadeSoFar change old all (made + 1) left next
  made_more made x left now next so_far is =
      let after : with_change (with_changes old.documents (map change so_far.came)) (change x) ≡ with_changes old.documents (map change (so_far.came ++ x ∷ [])) =
      sym (with_last old.documents (map change so_far.came) (change x)) ∙ ap (with_changes old.documents) (sym (map_push change so_far.came x)) in
      record {
        came = so_far.came ++ x ∷ [];
        whole = append_assoc so_far.came (x ∷ []) left ∙ so_far.whole;
        count = length-append so_far.came (x ∷ []) ∙ ap (λ (n : ℕ). n + 1) so_far.count;
        stands = is ∙ ap (λ (c : IndexedTree). with_documents (with_change c.documents (change x)) c) so_far.stands ∙ ap (λ (ds : List (List Field)). with_documents ds old) after;
      }

  -- the next one by its place
  pub made_next : (place : ℕ) (x : X) (now next : IndexedTree) → place < length all → x ≡ get_or all place x → AreMadeSoFar change old all place (drop place all) now → next ≡ with_documents (with_change now.documents (change x)) now
      → AreMadeSoFar change old all (place + 1) (drop (place + 1) all) next
  made_next place x now next within is so_far goes =
      made_more place x (drop (place + 1) all) now next (subst (λ (left : List X). AreMadeSoFar change old all place left now) (drop-read all place x within is) so_far) goes

-- a document that is put in place of another one
pub put_replaced : (d : List Field) (ds : List (List Field)) → is_some (found (id_key d) ds) ≡ true → with_put d ds ≡ replaced d ds
put_replaced d ds is = ap (λ (b : Bool). if b then replaced d ds else inserted d ds) is
