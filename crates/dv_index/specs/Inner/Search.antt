-- Of `Search`, what only bodies and proofs need.
use Rattle.std.specs.Prelude.{◌≡◌, ℕ, Bool, true, false, List, Option, None, Some, filter, map}
use denote.Ref.{Bor}
use Rattle.dv_value.specs.Tree.{Field}
use Rattle.dv_order.specs.Key.{KeyTree}
use Rattle.dv_match.specs.Filter.{Condition}
use Rattle.dv_path.specs.LeafKeys.{is_leaf_key}
use Rattle.dv_coll.specs.Collection.{found}
use Rattle.dv_keyed.specs.Choice.{is_point}
use Rattle.dv_keyed.specs.Within.{has_within}
use Rattle.dv_keyed.specs.Inner.Pairs.{has_pair}
use Rattle.dv_keyed.specs.Inner.Index.{IndexTree}

-- whether there is a document, and it has a key
abbrev pub is_key_under : KeyTree → List (List ℕ) → Option (List Field) → Bool
is_key_under k path None = false
is_key_under k path (Some d) = is_leaf_key k path d

-- the index has the keys of these documents, each with its document's `_id`
pub record IsIndexOf (index : IndexTree) (ds : List (List Field)) : Type 0 where
  pub has : (k id : KeyTree) → has_pair k id index.pairs ≡ is_key_under k index.path (found id ds)

-- the documents that these references refer to
abbrev pub documents_referred : List (Bor (List Field)) → List (List Field)
documents_referred = map (λ d. d.now)

-- the same documents of both lists pass a test
abbrev pub AgreeOn : (List Field → Bool) → List (List Field) → List (List Field) → Type 0
AgreeOn test ds others = filter test ds ≡ filter test others

-- all documents that have a leaf of the path in the bounds are found, whatever else they have to meet
abbrev pub AllWithinAreFound : Condition → List (List ℕ) → List (List Field) → List (List Field) → Type 0
AllWithinAreFound bounds path ds found = (test : List Field → Bool) → ((d : List Field) → test d ≡ true → has_within bounds path d ≡ true) → AgreeOn test found ds

-- no others are, if the bounds are points
abbrev pub AreOnlyWithin : Condition → List (List ℕ) → List (List Field) → List (List Field) → Type 0
AreOnlyWithin bounds path ds found = is_point bounds ≡ true → found ≡ filter (has_within bounds path) ds
