-- Where only one way leads on.
use Rattle.std.proofs.Common.{◌≡◌, ℕ, suc, ◌+◌, ◌<◌, ◌≤◌, ◌==◌, nat_lt, min, inl, inr, Bool, true, false, List, [], ◌∷◌, length, drop, map, get_or, Option, Some, None, refl, ap, sym, ◌∙◌, arith, tests}
use Rattle.std.specs.Int.{bit_at}
use Rattle.std.specs.Option.{MatchOption, IfSome, option_map}
use Rattle.std.proofs.lemmas.Bool.{and_parts}
use Rattle.std.proofs.lemmas.Option.{same_Some}
use denote.Ref.{Bor}
use Rattle.dv_value.specs.Tree.{Tree, document, array, Field, fields_of, elements_of}
use Rattle.dv_value.specs.Names.{value_under}
use Rattle.dv_value.specs.View.{tree}
use Rattle.dv_value.specs.Inner.TreeLaws.{fields_again}
use Rattle.dv_candidates.specs.declared.onward.Stand.{Stand}
use Rattle.dv_candidates.specs.declared.places.Places.{Places}
use Rattle.dv_candidates.specs.Candidates.{Candidate}
use Rattle.dv_candidates.specs.Inner.Onward.{StandsFor}
use Rattle.dv_candidates.specs.Inner.Places.{has, HaveName, IsDocument, IsWithin, IsBefore, Reaches, ReachesElement}
use Rattle.dv_candidates.proofs.Reach.{name_at, hits, hits-document}
use Rattle.dv_candidates.proofs.Walks.{drop_behind, one_less, one_more}
use Rattle.dv_candidates.proofs.WalkedArrays.{element-whole, whole-below, below-none, below-more}

-- going on from where a walk is
pub StandsFor-more : {W : (Candidate → Bool) → Type 0} {stand further : Stand} → StandsFor W stand → StandsFor (Reaches stand.components.now stand.places (Some (tree stand.value.now))) further → StandsFor W further
StandsFor-more a b = record {
  within = b.within;
  reaches = λ p r. a.reaches p (b.reaches p r);
  reached = λ p h. b.reached p (a.reached p h);
}

-- what is wanted, in other words
pub StandsFor-same : {V W : (Candidate → Bool) → Type 0} {stand : Stand} → ((p : Candidate → Bool) → V p → W p) → ((p : Candidate → Bool) → W p → V p) → StandsFor V stand → StandsFor W stand
StandsFor-same to from a = record {
  within = a.within;
  reaches = λ p r. to p (a.reaches p r);
  reached = λ p h. a.reached p (from p h);
}

-- a document, if all places have one name
module _ {names : List (List ℕ)} {s : Places} (before : IsBefore names s) where
  pub within-behind : IsWithin (drop 1 names) s
  within-behind = record { within = λ place h. one_less names place (before.before place h) }

  module _ {name : List ℕ} (one : HaveName names s name) (fs : List Field) (v : Tree) (value : value_under name fs ≡ Some v) where
    one_on : (p : Candidate → Bool) (place : ℕ) → has s place ≡ true → hits p (drop place names) (Some (document (fields_of fs))) ≡ hits p (drop place (drop 1 names)) (Some v)
    one_on p place h =
        hits-document p names place (fields_of fs) (before.before place h)
        ∙ ap (λ gs. hits p (drop (suc place) names) (value_under (name_at names place) gs)) (fields_again fs)
        ∙ ap (λ n. hits p (drop (suc place) names) (value_under n fs)) (one.named place h)
        ∙ ap (hits p (drop (suc place) names)) value
        ∙ ap (λ ns. hits p ns (Some v)) (sym (drop_behind names place))

    pub behind-reaches : (p : Candidate → Bool) → Reaches (drop 1 names) s (Some v) p → Reaches names s (Some (document (fields_of fs))) p
    behind-reaches p r = record { place = r.place; inside = r.inside; passes = one_on p r.place r.inside ∙ r.passes }

    pub reaches-behind : (p : Candidate → Bool) → Reaches names s (Some (document (fields_of fs))) p → Reaches (drop 1 names) s (Some v) p
    reaches-behind p r = record { place = r.place; inside = r.inside; passes = sym (one_on p r.place r.inside) ∙ r.passes }

-- an array of one element
module _ {names : List (List ℕ)} {s : Places} (before : IsBefore names s) (v : Tree) where
  pub sole-reaches : (p : Candidate → Bool) → ReachesElement names s 0 v p → Reaches names s (Some (array (elements_of (v ∷ [])))) p
  sole-reaches = element-whole (v ∷ []) before 0 v refl

  pub reaches-sole : (p : Candidate → Bool) → Reaches names s (Some (array (elements_of (v ∷ [])))) p → ReachesElement names s 0 v p
  reaches-sole p r = elim (below-more (v ∷ []) 0 v refl p (whole-below (v ∷ []) before {end = 1} (omega arith) p r)) [
    | inl none ↦ absurd (below-none (v ∷ []) p none)
    | inr here ↦ here
  ]

  pub at_sole : (stand : Option Stand) → MatchOption stand (IsDocument v) (λ it. StandsFor (ReachesElement names s 0 v) it) → IfSome stand (λ it. StandsFor (Reaches names s (Some (array (elements_of (v ∷ []))))) it)
  at_sole None h = tt
  at_sole (Some stand) h = StandsFor-same sole-reaches reaches-sole h

pub sole_item : {X Y : Type 0} (view : X → Y) (xs : List X) (ys : List Y) (x : X) → map view xs ≡ ys → 1 ≤ length xs → length xs < 2 → x ≡ get_or xs 0 x → ys ≡ view x ∷ []
sole_item view [] ys x seen some few is = absurd (omega arith)
sole_item view (y ∷ []) ys x seen some few is = sym seen ∙ ap (λ z. view z ∷ []) (sym is)
sole_item view (y ∷ z ∷ xs) ys x seen some few is = absurd (omega arith)

module _ {names : List (List ℕ)} {s : Places} where
  -- the end isn't among the places
  pub within-before : IsWithin names s → has s (length names) ≡ false → IsBefore names s
  within-before within none = record {
    before = λ place h. elim (one_more place (length names) (let bound = within.within place h in omega arith)) [
      | inl less ↦ less
      | inr same ↦ absurd (let here : has s (length names) ≡ true = rw (← same) h in cc)
    ];
  }

near : (s : Places) (place : ℕ) → has s place ≡ true → place < 64
unfolding has
near s place h =
    let within = (and_parts (nat_lt place 64) (bit_at s.mask place == 1) h).0 in
    grind (arith, tests)

-- the names at all places before an end are the same, if there are any
pub record HaveNameBelow (names : List (List ℕ)) (s : Places) (end : ℕ) (name : Option (List ℕ)) : Type 0 where
  pub named : (place : ℕ) → has s place ≡ true → place < end → name ≡ Some (name_at names place)

module _ {names : List (List ℕ)} {s : Places} where
  pub no-name : (already : Option (List ℕ)) → HaveNameBelow names s 0 already
  no-name already = record { named = λ place h below. absurd (omega arith) }

  module _ (end : ℕ) (already : Option (List ℕ)) where
    pub name-skipped : has s end ≡ false → HaveNameBelow names s end already → HaveNameBelow names s (end + 1) already
    name-skipped absent one = record {
      named = λ place h below. elim (one_more place end below) [
        | inl less ↦ one.named place h less
        | inr same ↦ absurd (let here : has s end ≡ true = rw (← same) h in cc)
      ];
    }

    pub name-more : (name : List ℕ) → name ≡ name_at names end → ((other : List ℕ) → already ≡ Some other → other ≡ name) → HaveNameBelow names s end already → HaveNameBelow names s (end + 1) (Some name)
    name-more name is same_as one = record {
      named = λ place h below. elim (one_more place end below) [
        | inl less ↦ ap Some (sym (same_as (name_at names place) (one.named place h less)))
        | inr same ↦ ap Some (is ∙ ap (name_at names) (sym same))
      ];
    }

  pub have-name : (end : ℕ) (sole : Option (Bor (List ℕ))) → IsBefore names s → min (length names) 64 ≤ end → HaveNameBelow names s end (option_map (λ n. n.now) sole) → IfSome sole (λ n. HaveName names s n.now)
  have-name end None before over one = tt
  have-name end (Some n) before over one = record {
    named = λ place h.
        let less = before.before place h in
        let close = near s place h in
        sym (same_Some n.now (name_at names place) (one.named place h (omega arith)));
  }
