-- Changes of one document, and that the indexes of a collection have the keys of its documents.
use Rattle.std.specs.Prelude.{◌≡◌, ℕ, zero, suc, true, List, [], ◌∷◌, Option, None, Some, IsSome, ⊤, if◌then◌else◌}
use Rattle.std.specs.List.{AllByRecursion}
use Rattle.std.specs.Ordering.{is_eq}
use Rattle.dv_value.specs.Tree.{Field}
use Rattle.dv_order.specs.Key.{KeyTree, key_order}
use Rattle.dv_coll.specs.Collection.{HasId, id_key, found, inserted, removed, replaced}
use Rattle.dv_keyed.specs.Index.{id_form}
use Rattle.dv_keyed.specs.Inner.Index.{IndexTree}
use Rattle.dv_index.specs.Inner.Search.{IsIndexOf}
use Rattle.dv_index.specs.declared.change.Change.{Change}
use Rattle.dv_index.specs.declared.change.Change.TheVariants.{Insert, Replace, Remove}

-- the key of the `_id` of the document that is changed
abbrev pub changed_id : Change → KeyTree
changed_id (Insert d) = id_key d
changed_id (Replace d) = id_key d
changed_id (Remove k) = k.now

-- the document that is under this key afterwards
abbrev pub document_after : Change → Option (List Field)
document_after (Insert d) = Some d
document_after (Replace d) = Some d
document_after (Remove k) = None

-- all documents afterwards
abbrev pub documents_after : Change → List (List Field) → List (List Field)
documents_after (Insert d) ds = inserted d ds
documents_after (Replace d) ds = replaced d ds
documents_after (Remove k) ds = removed k.now ds

-- under the `_id` of the change there is what it leaves there, and under each other `_id` what was there
abbrev pub ChangesOne : Change → List (List Field) → List (List Field) → Type 0
ChangesOne c old new = (i : KeyTree) → found i new ≡ (if is_eq (key_order i (changed_id c)) then document_after c else found i old)

-- a new document begins with an `_id`
abbrev pub HasIdFirst : Change → Type 0
HasIdFirst (Insert d) = HasId d
HasIdFirst (Replace d) = HasId d
HasIdFirst (Remove k) = ⊤

-- and the one that it replaces is there
abbrev pub IsChangeOf : Change → List (List Field) → Type 0
IsChangeOf (Insert d) ds = HasId d
IsChangeOf (Replace d) ds = HasId d × IsSome (found (id_key d) ds)
IsChangeOf (Remove k) ds = ⊤

-- the `_id` of an inserted document is not there yet
abbrev pub IsFresh : Change → List (List Field) → Type 0
IsFresh (Insert d) ds = found (id_key d) ds ≡ None
IsFresh c ds = ⊤

-- the `_id` of an inserted document is there already
abbrev pub IsTaken : Change → List (List Field) → Type 0
IsTaken (Insert d) ds = IsSome (found (id_key d) ds)
IsTaken c ds = ⊥

-- the indexes have the keys of the documents; the first one, on `_id`, has none of its own
abbrev pub AreIndexesOf : List IndexTree → List (List Field) → Type 0
AreIndexesOf [] ds = ⊤
AreIndexesOf (x ∷ xs) ds = AllByRecursion (λ y. IsIndexOf y ds) xs

-- the same for one of them, by its place
abbrev pub IsIndexAt : ℕ → IndexTree → List (List Field) → Type 0
IsIndexAt zero x ds = x.path ≡ id_form.path
IsIndexAt (suc n) x ds = IsIndexOf x ds

-- the unique ones of some indexes have the keys of the documents
abbrev pub UniqueAreIndexesOf : List IndexTree → List (List Field) → Type 0
UniqueAreIndexesOf xs ds = AllByRecursion (λ x. x.unique ≡ true → IsIndexOf x ds) xs
