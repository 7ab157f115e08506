-- The cursors at places after a change of cursors.
use Rattle.std.proofs.Common.{◌≡◌, ℕ, ◌<◌, ◌&&◌, ◌==◌, not, Bool, true, false, List, Option, Some, None, cond, refl, ap, ◌∙◌, arith}
use Rattle.std.proofs.lemmas.Bool.Decides.{nat_tests}
use Rattle.std.specs.Cmp.{ranks}
use Rattle.std.specs.FinMap as finite
use Rattle.std.specs.Ordering.{nat_cmp, ordering_then, eq_by_cmp, is_eq, MatchOrdering}
use Rattle.std.specs.declared.cmp.Ordering.{Ordering}
use Rattle.std.specs.declared.cmp.Ordering.TheVariants.{Less, Equal, Greater}
use Rattle.dv_value.specs.Tree.{Field}
use Rattle.dv_cursor.specs.Cursors.{Cursor, Cursors, CursorPlace, place_cmp, added, advanced, closed, cursor_behind, with_cursor, without_session}
use Rattle.dv_cursor.specs.Inner.Runs.{is_cursor_place}
use Rattle.dv_cursor.proofs.Kept.{Kept, place_cmp_total}
use Rattle.dv_cursor.proofs.Ended.{get-apart}

same_number : (a b : ℕ) (r : Ordering) → MatchOrdering r (a < b) (a ≡ b) (b < a) → is_eq r ≡ (b == a)
same_number a b Less ranked = grind (arith, nat_tests)
same_number a b Equal ranked = grind (arith, nat_tests)
same_number a b Greater ranked = grind (arith, nat_tests)

both : (a c : Ordering) → is_eq (ordering_then a c) ≡ (is_eq a && is_eq c)
both Less c = refl
both Equal c = refl
both Greater c = refl

-- a place is equal in the order to the one that has its session and its id
tied-is : (q p : CursorPlace) → eq_by_cmp place_cmp q p ≡ is_cursor_place p.0 p.1 q.0 q.1
tied-is q p =
    both (nat_cmp q.0 p.0) (nat_cmp q.1 p.1)
    ∙ (λ i. same_number q.0 p.0 (nat_cmp q.0 p.0) (ranks q.0 p.0) i && same_number q.1 p.1 (nat_cmp q.1 p.1) (ranks q.1 p.1) i)

get-insert : (m : Kept) (p : CursorPlace) (c : Cursor) (q : CursorPlace) → finite.get (finite.insert m p c) q ≡ cond (is_cursor_place p.0 p.1 q.0 q.1) (Some c) (finite.get m q)
get-insert m p c q = finite.get-insert place_cmp_total m p c q ∙ ap (λ b. cond b (Some c) (finite.get m q)) (tied-is q p)

get-remove : (m : Kept) (p q : CursorPlace) → finite.get (finite.remove m p) q ≡ cond (is_cursor_place p.0 p.1 q.0 q.1) None (finite.get m q)
get-remove m p q = finite.get-remove place_cmp_total m p q ∙ ap (λ b. cond b None (finite.get m q)) (tied-is q p)

pub get-added : (session id other : ℕ) (namespace : List ℕ) (rows : List (List Field)) (cursors : Cursors)
    → finite.get (added other namespace rows cursors).kept (session, id) ≡ cond (is_cursor_place other cursors.next session id) (Some (record { namespace = namespace; rows = rows })) (finite.get cursors.kept (session, id))
get-added session id other namespace rows cursors = get-insert cursors.kept (other, cursors.next) _ (session, id)

get-with_cursor : (p : CursorPlace) (c : Option Cursor) (cursors : Cursors) (q : CursorPlace) → finite.get (with_cursor p c cursors).kept q ≡ cond (is_cursor_place p.0 p.1 q.0 q.1) c (finite.get cursors.kept q)
get-with_cursor p None cursors q = get-remove cursors.kept p q
get-with_cursor p (Some c) cursors q = get-insert cursors.kept p c q

pub get-advanced : (session id other number count : ℕ) (cursors : Cursors)
    → finite.get (advanced other number count cursors).kept (session, id) ≡ cond (is_cursor_place other number session id) (cursor_behind count (finite.get cursors.kept (other, number))) (finite.get cursors.kept (session, id))
get-advanced session id other number count cursors = get-with_cursor (other, number) _ cursors (session, id)

pub get-closed : (session id other number : ℕ) (cursors : Cursors) → finite.get (closed other number cursors).kept (session, id) ≡ cond (is_cursor_place other number session id) None (finite.get cursors.kept (session, id))
get-closed session id other number cursors = get-remove cursors.kept (other, number) (session, id)

turned_if : {X : Type 0} (b : Bool) (x y : X) → cond (not b) x y ≡ cond b y x
turned_if true x y = refl
turned_if false x y = refl

pub get-without_session : (session id other : ℕ) (cursors : Cursors) → finite.get (without_session other cursors).kept (session, id) ≡ cond (session == other) None (finite.get cursors.kept (session, id))
get-without_session session id other cursors = get-apart cursors.kept other (session, id) ∙ turned_if (session == other) (finite.get cursors.kept (session, id)) None

pub next-advanced : (session id count : ℕ) (cursors : Cursors) → (advanced session id count cursors).next ≡ cursors.next
next-advanced session id count cursors = by_left (cursor_behind count (finite.get cursors.kept (session, id)))
  where
    by_left : (c : Option Cursor) → (with_cursor (session, id) c cursors).next ≡ cursors.next
    by_left None = refl
    by_left (Some c) = refl
