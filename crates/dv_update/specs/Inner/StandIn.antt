-- Documents that stand in for those that are too deep to be made: the same down to a level, and as long.
use Rattle.std.specs.Prelude.{◌≡◌, ℕ, zero, suc, ◌+◌, ◌-◌, ◌<◌, List, [], ◌∷◌, ◌++◌, length, map, Option, Some, None, ⊤}
use Rattle.std.specs.List.{AllByRecursion}
use Rattle.std.specs.declared.cmp.Ordering.{Ordering}
use Rattle.std.specs.declared.cmp.Ordering.TheVariants.{Less, Equal, Greater}
use Rattle.std.proofs.Math.ListN.{replicate}
use Rattle.dv_value.specs.Spelling.{payload, levels}
use Rattle.dv_value.specs.Tree.{Tree, document, array, binary, Field, fields_of, list_of_fields, Elements, elements_of, list_of_elements}
use Rattle.dv_path.specs.Slots.{Slot, slot, taken}
use Rattle.dv_update.specs.Apply.{number_tree}
use Rattle.dv_update.specs.PathOrder.{component_order}
use Rattle.dv_update.specs.Update.{Operation, assign, take_away, increase, append, pull}

-- a document in one piece: a binary of as many bytes
abbrev pub in_one_piece : Tree → Tree
in_one_piece (document fs) = binary 0 (replicate (length (payload (document fs)) - 5) 0)
in_one_piece v = v

-- a value in which each document at a level is in one piece
unfoldable pub down_to : ℕ → Tree → Tree
down_to zero v = in_one_piece v
down_to (suc n) (document fs) = document (fields_of (map (λ f. let g : Field = (f.0, down_to n f.1) in g) (list_of_fields fs)))
down_to (suc n) (array vs) = array (elements_of (map (down_to n) (list_of_elements vs)))
down_to (suc n) v = v

unfoldable pub fields_down_to : ℕ → List Field → List Field
fields_down_to n fs = map (λ f. let g : Field = (f.0, down_to n f.1) in g) fs

-- how many levels there are below a document's fields before documents are in one piece
abbrev pub most_levels : ℕ
most_levels = 299

-- the same down to there, and as long
unfoldable pub Alike : List Field → List Field → Type 0
Alike d e = fields_down_to most_levels d ≡ fields_down_to most_levels e

-- ---- documents nested one in another

-- the bytes that documents add, nested one in another under these names
abbrev pub names_length : List (List ℕ) → ℕ
names_length [] = 0
names_length (name ∷ names) = 7 + length name + names_length names

-- a path leads through the last field of each document, after fields whose names come before its component
abbrev pub IsLastWay : List (List ℕ) → Tree → Type 0
IsLastWay [] t = ⊤
IsLastWay (name ∷ names) t =
    (fields : List Field) × (v : Tree) × (t ≡ document (fields_of (fields ++ (name, v) ∷ []))) × AllByRecursion (λ f. component_order f.0 name ≡ Less) fields × IsLastWay names v

abbrev pub parted : Ordering → List (List ℕ) → Option (List (List ℕ)) → Option (List (List ℕ))
parted Less rest further = Some rest
parted Equal rest further = further
parted Greater rest further = None

-- the rest of a path, from where it parts from one that comes before it
abbrev pub parting : List (List ℕ) → List (List ℕ) → Option (List (List ℕ))
parting [] q = None
parting (a ∷ p) [] = None
parting (a ∷ p) (b ∷ q) = parted (component_order a b) (b ∷ q) (parting p q)

-- where the last path of many components led: the value there has this size, and is documents nested one in another along the rest
-- of the path
pub record IsLast (made : List Field) (beginning rest : List (List ℕ)) (size : ℕ) : Type 0 where
  pub far : length beginning ≡ 300
  pub there : (t : Tree) × (slot made beginning ≡ taken t) × IsLastWay rest t × (length (payload t) ≡ size)

-- the value that an operator puts where there is none
abbrev pub new_value : Operation → Option Tree
new_value (assign v) = Some v
new_value take_away = None
new_value (increase n) = Some (number_tree n)
new_value (append vs) = Some (array (elements_of vs))
new_value (pull p) = None

-- an array that is there has fewer than `m` levels
abbrev pub IsShallow : ℕ → Slot → Type 0
IsShallow m s = (vs : Elements) → s ≡ taken (array vs) → levels (array vs) < m

-- elements are removed only from an array with fewer than `m` levels
abbrev pub PullsShallow : ℕ → Operation → Slot → Type 0
PullsShallow m (pull p) s = IsShallow m s
PullsShallow m o s = ⊤
