-- The path `_id` leads to one value, whose key is in bounds exactly if the document has a leaf in them; and what laws of keys say.
use Rattle.std.proofs.Common.{◌≡◌, ◌∙◌, ℕ, List, [], ◌∷◌, ap, sym, refl, true, cond, Some, codes}
use Rattle.std.proofs.Math.Bool.{or-false}
use Rattle.std.proofs.lemmas.Slice.Eq.{bytes_eq-Decides}
use Rattle.std.specs.List.{flat_map, list_any}
use Rattle.dv_value.specs.Names.{value_under}
use Rattle.dv_value.specs.Tree.{Tree, Field, array, fields_of, list_of_fields}
use Rattle.dv_order.specs.Order.{canon}
use Rattle.dv_order.specs.Key.{value}
use Rattle.dv_candidates.specs.Candidates.{Candidate, candidates, leaves, or_null, whole, with_elements}
use Rattle.dv_match.specs.Filter.{Condition, Members}
use Rattle.dv_match.specs.Match.{matches}
use Rattle.dv_coll.specs.Collection.{HasId, IsNoArray, id_key}
use Rattle.dv_keyed.specs.Choice.{chosen}
use Rattle.dv_keyed.specs.Within.{has_within, is_within}
use Rattle.dv_keyed.specs.Inner.Decided.{IsAnswered, IsOnlyLeaf}
use Rattle.dv_keyed.specs.Inner.Interval.{is_in_all}
use Rattle.dv_keyed.specs.Inner.Within.{covers}

-- ---- what dv_keyed's laws say

abbrev pub MatchesAreWithin : Type 0
MatchesAreWithin = (filter : Members) (paths : List (List (List ℕ))) (place : ℕ) (bounds : Condition) → chosen filter paths ≡ Some (place, bounds) → IsAnswered filter paths place bounds

abbrev pub OnlyKeysAreWithin : Type 0
OnlyKeysAreWithin = (filter : Members) (path : List (List ℕ)) (d : List Field) (v : Tree) → IsOnlyLeaf (value (canon v)) path d → matches filter d ≡ true → is_in_all (value (canon v)) path filter ≡ true

abbrev pub KeysAreWithin : Type 0
KeysAreWithin = (bounds : Condition) (c : Candidate) → covers bounds (value (canon (or_null c))) ≡ is_within bounds c

-- ---- the path `_id`

pub no-elements : (v : Tree) → IsNoArray v → flat_map with_elements (Some v ∷ []) ≡ Some v ∷ []
no-elements (array vs) h = absurd h
no-elements v h = refl

pub leaves-id : (f : Field) (fs : List Field) → HasId (f ∷ fs) → leaves (f ∷ fs) (codes "_id" ∷ []) ≡ Some f.1 ∷ []
unfolding leaves whole
leaves-id f fs h =
    ap (λ b. flat_map with_elements (flat_map (candidates []) (cond b (Some f.1) (value_under (codes "_id") (list_of_fields (fields_of fs))) ∷ []))) ((bytes_eq-Decides (codes "_id") f.0).1 (sym h.0)) ∙ no-elements f.1 h.1

-- a document has a leaf in bounds exactly if its `_id`'s key is in them
pub id-covered : KeysAreWithin → (c : Condition) (d : List Field) → HasId d → has_within c (codes "_id" ∷ []) d ≡ covers c (id_key d)
unfolding has_within
id-covered law c [] h = absurd h
id-covered law c (f ∷ fs) h = ap (list_any (is_within c)) (leaves-id f fs h) ∙ or-false (is_within c (Some f.1)) ∙ sym (law c (Some f.1))
