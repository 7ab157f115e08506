-- The first of a session's cursors in the code's map.
use Rattle.std.proofs.Common.{◌≡◌, ℕ, ◌≤◌, [], ◌∷◌, Option, Some, None, IsSome, refl, ◌∙◌, arith}
use Rattle.std.specs.BTreeMap.{BTreeMap}
use Rattle.std.specs.BTreeMap.Range.{IsRangeOf}
use Rattle.std.specs.FinMap as finite
use Rattle.std.specs.declared.ops.Bound.TheVariants.{Included, Unbounded}
use Rattle.dv_cursor.specs.Cursors.{Cursor, CursorPlace, place_cmp}
use Rattle.dv_cursor.proofs.Kept.{Entries, kept, get-kept, session_order, first_place}

none_of : {X : Type 0} (there : Option X) → (IsSome there → ⊥) → there ≡ None
none_of None not = refl
none_of (Some x) not = absurd (not refl)

meet : (a b : ℕ) → a ≤ b → b ≤ a → a ≡ b
meet a b up down = omega arith

-- the entries of the map from a session's first place on
module _ (m : BTreeMap CursorPlace Cursor) (session : ℕ) (r : Entries) (range : IsRangeOf place_cmp (Included (session, 0)) Unbounded m r) where
  pub none_from_there : r ≡ [] → (id : ℕ) → finite.get (kept m.entries) (session, id) ≡ None
  none_from_there empty id = get-kept m.entries (session, id) ∙ range.5 empty (session, id) (first_place session id, tt)

  module _ (p : CursorPlace) (c : Cursor) (rest : Entries) (is : r ≡ (p, c) ∷ rest) where
    pub own_first : p.0 ≡ session → IsSome (finite.get (kept m.entries) (session, p.1))
    own_first own =
        let here = rw is at range.1 in
        let there : finite.get (kept m.entries) p ≡ Some c = get-kept m.entries p ∙ here.1 in
        rw (← own, there) refl

    pub other_first : (p.0 ≡ session → ⊥) → (id : ℕ) → finite.get (kept m.entries) (session, id) ≡ None
    other_first other id =
        none_of (finite.get (kept m.entries) (session, id)) (λ some.
        let behind = rw is at (range.2 (session, id) (first_place session id, tt) (rw (get-kept m.entries (session, id)) at some)) in
        let here = rw is at range.1 in
        other (meet p.0 session (session_order p (session, id) behind) (session_order (session, 0) p here.0.0)))
