-- A text that is split at its first dot.
use Rattle.std.proofs.Common.{◌≡◌, ◌<◌, ◌==◌, ◌&&◌, ◌+◌, ℕ, Bool, true, false, cond, not, List, [], ◌∷◌, take, length, Some, Bor, nat_lt, refl, arith}
use Rattle.std.specs.List.{after_first, before_first, position_or_len}
use Rattle.std.proofs.lemmas.Str.Pattern.{IsSplitOnceResult, split_once_first}
use Rattle.dv_value.specs.Names.{has_zero}
use Rattle.dv_core.specs.Load.{namespace_in}
use Rattle.dv_path.specs.Names.{has_dot}
use Rattle.dv_command.specs.Namespaces.{is_database_name, namespace}

abbrev dot_at : List ℕ → ℕ
dot_at bs = position_or_len (λ b. b == 46) bs

dotted : (bs : List ℕ) → dot_at bs < length bs → has_dot bs ≡ true
dotted [] h = absurd (omega arith)
dotted (b ∷ bs) h = grind (arith, dotted bs)

front_by : (c : Bool) (b n : ℕ) (bs : List ℕ) → (b == 46) ≡ c → has_dot (take n bs) ≡ false → has_dot (take (cond (not c) (1 + n) 0) (b ∷ bs)) ≡ false
front_by true b n bs is rest = refl
front_by false b n bs is rest = grind (arith, is, rest)

front_undotted : (bs : List ℕ) → has_dot (before_first (λ b. b == 46) bs) ≡ false
front_undotted [] = refl
front_undotted (b ∷ bs) = front_by (b == 46) b (dot_at bs) bs refl (front_undotted bs)

-- if the part before the first dot is not empty and has no zero byte, the text is a namespace if the rest is the name of a
-- collection
module _ (text : List ℕ) (database collection : Bor (List ℕ)) (split : IsSplitOnceResult 46 text (Some (database, collection))) (filled : true ≡ (nat_lt 0 (length database.now) && not (has_zero database.now))) where
  parts : (dot_at text < length text) × (database.now ≡ before_first (λ b. b == 46) text) × (collection.now ≡ after_first (λ b. b == 46) text)
  parts = split_once_first 46 text (Some (database, collection)) split (omega arith)

  is_name : is_database_name (before_first (λ b. b == 46) text) ≡ true
  is_name = grind (arith, filled, parts.1, front_undotted text)

  pub is_namespace : namespace database.now collection.now ≡ namespace_in text
  is_namespace = rw (dotted text parts.0, is_name, parts.1, parts.2)
