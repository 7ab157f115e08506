-- The values by which a document is joined or found, given its candidates.
use Rattle.std.proofs.Common.{◌≡◌, ℕ, List, [], ◌∷◌, map, refl, ap, sym, ◌∙◌, ◌||◌, false, Some, None, append-nil}
use Rattle.std.proofs.Math.Bool.{or-false}
use Rattle.std.specs.List.{flat_map}
use Rattle.std.specs.Option.{unwrap_or}
use Rattle.std.specs.Ordering.{is_eq}
use Rattle.dv_value.specs.Tree.{Tree, Field, array}
use Rattle.dv_order.specs.Order.{canon}
use Rattle.dv_order.specs.Key.{KeyTree, value, key_order}
use Rattle.dv_candidates.specs.Candidates.{Candidate, array_in, leaves, or_null, whole, with_elements}
use Rattle.dv_path.specs.LeafKeys.{is_key_of, is_some_key, leaf_values}
use Rattle.dv_gather.specs.Joining.{joined_by, local_values}
use Rattle.dv_gather.specs.Inner.KeySets.{AreKeysOf}

local-is : (c : Candidate) → local_values c ≡ unwrap_or (array_in c) (or_null c ∷ [])
local-is None = refl
local-is (Some (array vs)) = refl
local-is (Some v) = refl

pub local-list : (k : KeyTree) (c : Candidate) (l : List Tree) → Some l ≡ array_in c → is_some_key k l ≡ is_some_key k (local_values c)
local-list k c l is = ap (is_some_key k) (ap (λ o. unwrap_or o (or_null c ∷ [])) is ∙ sym (local-is c))

local-one : (c : Candidate) → None ≡ array_in c → or_null c ∷ [] ≡ local_values c
local-one c none = ap (λ o. unwrap_or o (or_null c ∷ [])) none ∙ sym (local-is c)

pub local-alone : (k : KeyTree) (c : Candidate) → None ≡ array_in c → is_key_of k (or_null c) ≡ is_some_key k (local_values c)
local-alone k c none = sym (or-false (is_key_of k (or_null c))) ∙ ap (is_some_key k) (local-one c none)

elements-none : (c : Candidate) → None ≡ array_in c → with_elements c ≡ c ∷ []
elements-none None none = refl
elements-none (Some (array vs)) none = absurd cc
elements-none (Some v) none = refl

-- the one value to which a path leads
module _ (path : List (List ℕ)) (d : List Field) (c : Candidate) (sole : whole d path ≡ c ∷ []) (none : None ≡ array_in c) where
  pub joined-alone : joined_by path d ≡ or_null c ∷ []
  unfolding joined_by
  joined-alone = ap (flat_map local_values) sole ∙ append-nil (local_values c) ∙ sym (local-one c none)

  pub found-alone : leaf_values path d ≡ or_null c ∷ []
  unfolding leaf_values leaves
  found-alone = ap (λ cs. map or_null (flat_map with_elements cs)) sole ∙ ap (map or_null) (append-nil (with_elements c) ∙ elements-none c none)

pub key-alone : (key : KeyTree) (v : Tree) (vs : List Tree) → vs ≡ v ∷ [] → key ≡ value (canon v) → AreKeysOf (key ∷ []) vs
key-alone key v vs one is k = ap (λ l. is_eq (key_order k l) || false) is ∙ ap (is_some_key k) (sym one)
