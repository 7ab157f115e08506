-- Rows with one more field, under the names of another document.
use Rattle.std.proofs.Common.{◌≡◌, ◌∙◌, ap, ap₂, sym, refl, false, ◌||◌, List, [], ◌∷◌, ◌++◌, ℕ, zero, suc, length, slice_get, Some, arith, if◌then◌else◌}
use Rattle.std.proofs.lemmas.Slice.Eq.{bytes_eq-Decides}
use Rattle.std.specs.Str.{bytes_eq}
use Rattle.dv_value.specs.Tree.{Tree, Field}
use Rattle.dv_value.specs.Names.{AreNamed, has_name, has_zero, with_value_under, with_values}
use Rattle.dv_row.specs.Expressions.{with_field_behind}
use Rattle.dv_row.specs.Row.{Row}
use Rattle.dv_gather.specs.Lookups.{set_field}
use Rattle.dv_gather.specs.Inner.Alike.{BeginsAs, HasNamesOf, values_of}

-- the name after those of the row
pub next-name : (d row : Row) (place : ℕ) (name next : List ℕ) (v : Tree) → BeginsAs d row → place ≡ length row → slice_get d place ≡ Some (next, v) → next ≡ name → HasNamesOf d row name
next-name d row place name next v begins end here same =
    (begins, v, ap (slice_get d) (sym end) ∙ here ∙ ap (λ n. let f : Field = (n, v) in Some f) same)

module _ (name : List ℕ) (v w : Tree) where
  apart : (other : List ℕ) (d : Row) (place : ℕ) → has_name other d ≡ false → slice_get d place ≡ Some (name, w) → bytes_eq name other ≡ false
  apart other [] place fresh here = absurd cc
  apart other (f ∷ d) zero fresh here = grind (arith, (bytes_eq-Decides name other).0, (bytes_eq-Decides other f.0).1)
  apart other (f ∷ d) (suc place) fresh here = grind (arith, apart other d place)

  whole : (d : Row) (place : ℕ) → AreNamed d → slice_get d place ≡ Some (name, w) → has_zero name ≡ false
  whole [] place named here = absurd cc
  whole (f ∷ d) zero named here = grind (arith, named.0)
  whole (f ∷ d) (suc place) named here = whole d place named.2 here

  fresh : (d row : Row) → BeginsAs d row → AreNamed d → slice_get d (length row) ≡ Some (name, w) → has_name name row ≡ false
  fresh d [] begins named here = refl
  fresh [] (f ∷ row) begins named here = absurd begins
  fresh (e ∷ d) (f ∷ row) begins named here = grind (arith, begins.0, fresh d row begins.1 named.2 here, apart e.0 d (length row) named.1 here)

  behind : (d row : Row) → BeginsAs d row → slice_get d (length row) ≡ Some (name, w) → with_values d (values_of row ++ v ∷ []) ≡ row ++ (name, v) ∷ []
  behind [] row begins here = absurd cc
  behind (e ∷ d) [] begins here = ap (λ n. let f : Field = (n, v) in f ∷ []) cc
  behind (e ∷ d) (f ∷ row) begins here = ap₂ (λ (n : List ℕ) (rest : Row). let g : Field = (n, f.1) in g ∷ rest) begins.0 (behind d row begins.1 here)

  set-at-end : (row : Row) → has_name name row ≡ false → has_zero name ≡ false → set_field name v row ≡ row ++ (name, v) ∷ []
  set-at-end row new clean =
      ap (λ b. if b then with_value_under name v row else with_field_behind name (Some v) row) new
      ∙ ap₂ (λ z h. if z || h then row else row ++ (name, v) ∷ []) clean new

-- the value after those of the row
pub set-like : (name : List ℕ) (v : Tree) (d row : Row) → HasNamesOf d row name → AreNamed d → set_field name v row ≡ with_values d (values_of row ++ v ∷ [])
set-like name v d row names named =
    set-at-end name v names.1 row (fresh name v names.1 d row names.0 named names.2) (whole name v names.1 d (length row) named names.2)
    ∙ sym (behind name v names.1 d row names.0 names.2)
