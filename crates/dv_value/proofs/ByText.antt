-- A finite map under bytes, and a map under texts with the same entries.
use Rattle.std.proofs.Common.{◌≡◌, ℕ, List, ◌∷◌, [], map, cond, Some, refl, ap, sym, ◌∙◌, arith}
use Rattle.std.proofs.lemmas.Map.Text.{is_eq-slice_cmp, btree_map_updates_text}
use Rattle.std.proofs.lemmas.Slice.Eq.{bytes_eq-Decides}
use Rattle.std.specs.BTreeMap.{BTreeMap, is_at, get_by_text, UpdatesBy, WritesThrough}
use Rattle.std.specs.Cmp.Lexicographic.{slice_cmp, nat_list_cmp_total}
use Rattle.std.specs.FinMap as finite
use Rattle.std.specs.Map.{lookup}
use Rattle.std.specs.Ordering.{nat_cmp}
use Rattle.std.specs.Str.{bytes_eq}
use Rattle.std.specs.declared.string.String.{String}
use Rattle.std.specs.String.{string_bytes, string_cmp}
use Rattle.dv_value.specs.Inner.Places.{by_text}
use Rattle.dv_value.specs.Inner.ByteLaws.{bytes_eq-symmetric}

abbrev pub ByBytes : Type 0 → Type 0
ByBytes X = finite.FinMap (slice_cmp nat_cmp) X

module _ {X : Type 0} where
  same_map : (m n : ByBytes X) → ((q : List ℕ) → finite.get m q ≡ finite.get n q) → m ≡ n
  same_map = finite.same_map nat_list_cmp_total (finite.slice_cmp-IsAntisymmetric finite.nat_cmp-IsAntisymmetric)

  pub get-insert : (m : ByBytes X) (name : List ℕ) (x : X) (q : List ℕ) → finite.get (finite.insert m name x) q ≡ cond (bytes_eq name q) (Some x) (finite.get m q)
  get-insert m name x q =
      finite.get-insert nat_list_cmp_total m name x q
      ∙ ap (λ b. cond b (Some x) (finite.get m q)) (is_eq-slice_cmp q name ∙ bytes_eq-symmetric q name)

  -- to put again what a name has changes nothing
  pub insert-same : (m : ByBytes X) (name : List ℕ) (x : X) → finite.get m name ≡ Some x → finite.insert m name x ≡ m
  insert-same m name x there = same_map _ _ (λ q. get-insert m name x q ∙ grind (arith, there, (bytes_eq-Decides name q).0))

module _ {X Y : Type 0} where
  find-lookup : (name : List ℕ) (es : List (String Y × X)) → finite.find (slice_cmp nat_cmp) name (map (λ e. (string_bytes e.0, e.1)) es) ≡ lookup (is_at (λ k. slice_cmp nat_cmp name (string_bytes k))) es
  find-lookup name [] = grind arith
  find-lookup name (e ∷ es) = grind (arith, find-lookup name es)

  pub get-by_text : (m : BTreeMap (String Y) X) (name : List ℕ) → finite.get (by_text m) name ≡ get_by_text m name
  get-by_text m name = finite.get-from_entries nat_list_cmp_total _ name ∙ find-lookup name m.entries

  pub by_text-insert : (m n : BTreeMap (String Y) X) (name : List ℕ) (x : X) → UpdatesBy string_cmp (λ k. slice_cmp nat_cmp name (string_bytes k)) m n (Some x) → by_text n ≡ finite.insert (by_text m) name x
  by_text-insert m n name x updated =
      same_map _ _ (λ q.
      get-by_text n q
      ∙ btree_map_updates_text name m n (Some x) updated q
      ∙ ap (cond (bytes_eq name q) (Some x)) (sym (get-by_text m q))
      ∙ sym (get-insert (by_text m) name x q))

  -- after the value of a name is overwritten
  pub by_text-written : (m n : BTreeMap (String Y) X) (name : List ℕ) (old new : X) → Some old ≡ get_by_text m name → WritesThrough string_cmp (λ k. slice_cmp nat_cmp name (string_bytes k)) m new n → by_text n ≡ finite.insert (by_text m) name new
  by_text-written m n name old new there writes = by_text-insert m n name new (writes.3 (rw (← there) refl))
