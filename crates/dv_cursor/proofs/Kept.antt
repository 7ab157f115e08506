-- Cursors in a map under their places.
use Rattle.std.proofs.Common.{◌≡◌, ℕ, ◌+◌, ◌<◌, ◌≤◌, ◌≢◌, Bool, true, false, List, [], ◌∷◌, drop, length, Some, None, is_some, cond, refl, ap, sym, ◌∙◌, add-one, arith}
use Rattle.std.specs.BTreeMap.{BTreeMap, is_at, get_by, UpdatesBy, WritesThrough}
use Rattle.std.specs.Cmp.{IsTotalOrder, nat_cmp_total, then_total, on_total, eq_by_cmp_equiv, ranks, tied_itself}
use Rattle.std.specs.FinMap as finite
use Rattle.std.specs.List.{AllByRecursion}
use Rattle.std.specs.List.Sorted.{IsStrictlySortedBy}
use Rattle.std.specs.Map.{lookup, keys_of}
use Rattle.std.specs.Ordering.{nat_cmp, ordering_then, eq_by_cmp, is_eq, is_gt, MatchOrdering}
use Rattle.std.specs.declared.cmp.Ordering.{Ordering}
use Rattle.std.specs.declared.cmp.Ordering.TheVariants.{Less, Equal, Greater}
use Rattle.dv_value.specs.Tree.{Field}
use Rattle.dv_value.specs.Inner.ListLaws.{cond-over}
use Rattle.dv_cursor.specs.Cursors.{Cursor, Cursors, CursorPlace, place_cmp, advanced, closed, cursor_over}

-- ---- the order of places

pub place_cmp_total : IsTotalOrder place_cmp
place_cmp_total = then_total (on_total (λ p. p.0) nat_cmp_total) (on_total (λ p. p.1) nat_cmp_total)

same_place : (a b c d : ℕ) (r : Ordering) → nat_cmp a c ≡ r → ordering_then r (nat_cmp b d) ≡ Equal → ◌≡◌ {A = CursorPlace} (a, b) (c, d)
same_place a b c d Less first both = absurd cc
same_place a b c d Equal first both = λ i. (finite.nat_cmp-IsAntisymmetric a c first i, finite.nat_cmp-IsAntisymmetric b d both i)
same_place a b c d Greater first both = absurd cc

pub place_cmp-IsAntisymmetric : finite.IsAntisymmetric place_cmp
place_cmp-IsAntisymmetric p q is = same_place p.0 p.1 q.0 q.1 (nat_cmp p.0 q.0) refl is

equal : (r : Ordering) → is_eq r ≡ true → r ≡ Equal
equal Less at = absurd cc
equal Equal at = refl
equal Greater at = absurd cc

not_above : (a b c d : ℕ) (r : Ordering) → MatchOrdering r (a < c) (a ≡ c) (c < a) → is_gt (ordering_then r (nat_cmp b d)) ≡ false → a ≤ c
not_above a b c d Less ranked not = omega arith
not_above a b c d Equal ranked not = omega arith
not_above a b c d Greater ranked not = absurd cc

-- a place that isn't after another has no later session
pub session_order : (p q : CursorPlace) → is_gt (place_cmp p q) ≡ false → p.0 ≤ q.0
session_order p q not = not_above p.0 p.1 q.0 q.1 (nat_cmp p.0 q.0) (ranks p.0 q.0) not

zero_first : (b : ℕ) (r : Ordering) → MatchOrdering r (0 < b) (0 ≡ b) (b < 0) → is_gt r ≡ false
zero_first b Less ranked = refl
zero_first b Equal ranked = refl
zero_first b Greater ranked = absurd (omega arith)

-- a session's places begin with id 0
pub first_place : (session id : ℕ) → is_gt (place_cmp (session, 0) (session, id)) ≡ false
first_place session id = rw (tied_itself nat_cmp_total session) (zero_first id (nat_cmp 0 id) (ranks 0 id))

pub same_if_tied : (p q : CursorPlace) → eq_by_cmp place_cmp p q ≡ true → p ≡ q
same_if_tied p q at = place_cmp-IsAntisymmetric p q (equal (place_cmp p q) at)

tied : (p q : CursorPlace) → eq_by_cmp place_cmp p q ≡ eq_by_cmp place_cmp q p
tied p q = (eq_by_cmp_equiv place_cmp_total).symm p q

-- ---- cursors in a finite map, and in the code's map

abbrev pub Entries : Type 0
Entries = List (CursorPlace × Cursor)

abbrev pub Kept : Type 0
Kept = finite.FinMap place_cmp Cursor

abbrev pub kept : Entries → Kept
kept es = finite.from_entries es

pub same_kept : (m n : Kept) → ((q : CursorPlace) → finite.get m q ≡ finite.get n q) → m ≡ n
same_kept = finite.same_map place_cmp_total place_cmp-IsAntisymmetric

find-lookup : (q : CursorPlace) (es : Entries) → finite.find place_cmp q es ≡ lookup (is_at (place_cmp q)) es
find-lookup q [] = refl
find-lookup q (e ∷ es) = ap (cond (eq_by_cmp place_cmp q e.0) (Some e.1)) (find-lookup q es)

pub get-kept : (es : Entries) (q : CursorPlace) → finite.get (kept es) q ≡ lookup (is_at (place_cmp q)) es
get-kept es q = finite.get-from_entries place_cmp_total es q ∙ find-lookup q es

pub kept-insert : (m n : BTreeMap CursorPlace Cursor) (p : CursorPlace) (c : Cursor) → UpdatesBy place_cmp (place_cmp p) m n (Some c) → kept n.entries ≡ finite.insert (kept m.entries) p c
kept-insert m n p c updated =
    same_kept _ _ (λ q.
    get-kept n.entries q
    ∙ updated.0 q
    ∙ ap (cond (eq_by_cmp place_cmp p q) (Some c)) (sym (get-kept m.entries q))
    ∙ ap (λ b. cond b (Some c) (finite.get (kept m.entries) q)) (tied p q)
    ∙ sym (finite.get-insert place_cmp_total (kept m.entries) p c q))

pub kept-remove : (m n : BTreeMap CursorPlace Cursor) (p : CursorPlace) → UpdatesBy place_cmp (place_cmp p) m n None → kept n.entries ≡ finite.remove (kept m.entries) p
kept-remove m n p updated =
    same_kept _ _ (λ q.
    get-kept n.entries q
    ∙ updated.0 q
    ∙ ap (cond (eq_by_cmp place_cmp p q) None) (sym (get-kept m.entries q))
    ∙ ap (λ b. cond b None (finite.get (kept m.entries) q)) (tied p q)
    ∙ sym (finite.get-remove place_cmp_total (kept m.entries) p q))

-- after a write over a cursor that is there
pub kept-written : (m n : BTreeMap CursorPlace Cursor) (p : CursorPlace) (old new : Cursor) → Some old ≡ get_by (place_cmp p) m → WritesThrough place_cmp (place_cmp p) m new n → kept n.entries ≡ finite.insert (kept m.entries) p new
kept-written m n p old new there writes = kept-insert m n p new (writes.3 (rw (← there) refl))

-- how many there are
apart : (p : CursorPlace) (es : Entries) → AllByRecursion (λ q. place_cmp p q ≡ Less) (keys_of es) → finite.find place_cmp p es ≡ None
apart p [] below = refl
apart p (e ∷ es) below = ap (λ r. cond (is_eq r) (Some e.1) (finite.find place_cmp p es)) below.0 ∙ apart p es below.1

pub len-kept : (es : Entries) → IsStrictlySortedBy place_cmp (keys_of es) → finite.len (kept es) ≡ length es
unfolding IsStrictlySortedBy
len-kept [] ascending = finite.len-empty place_cmp Cursor
len-kept (e ∷ es) ascending =
    finite.len-insert place_cmp_total (kept es) e.0 e.1
    ∙ ap (λ there. cond (is_some there) (finite.len (kept es)) (finite.len (kept es) + 1)) (finite.get-from_entries place_cmp_total es e.0 ∙ apart e.0 es ascending.0)
    ∙ ap (λ n. n + 1) (len-kept es ascending.1)
    ∙ add-one (length es)

-- ---- one cursor is removed, or replaced by another

if_tied : {X : Type 0} (b : Bool) (x y : X) → (b ≡ true → x ≡ y) → cond b x y ≡ y
if_tied true x y is = is refl
if_tied false x y is = refl

pub remove-none : (m : Kept) (p : CursorPlace) → finite.get m p ≡ None → finite.remove m p ≡ m
remove-none m p none =
    same_kept _ _ (λ q.
    finite.get-remove place_cmp_total m p q
    ∙ if_tied (eq_by_cmp place_cmp q p) None (finite.get m q) (λ at. sym none ∙ ap (finite.get m) (sym (same_if_tied q p at))))

pub remove-insert : (m : Kept) (p : CursorPlace) (c : Cursor) → finite.remove (finite.insert m p c) p ≡ finite.remove m p
remove-insert m p c =
    same_kept _ _ (λ q.
    finite.get-remove place_cmp_total (finite.insert m p c) p q
    ∙ ap (cond (eq_by_cmp place_cmp q p) None) (finite.get-insert place_cmp_total m p c q)
    ∙ cond-over (eq_by_cmp place_cmp q p) None (Some c) (finite.get m q)
    ∙ sym (finite.get-remove place_cmp_total m p q))

some_rows : (namespace : List ℕ) (rows : List (List Field)) → rows ≢ [] → cursor_over namespace rows ≡ Some (record { namespace = namespace; rows = rows })
some_rows namespace [] some = absurd (some refl)
some_rows namespace (row ∷ rows) some = refl

module _ (cursors : Cursors) (session id count : ℕ) where
  pub advanced-none : finite.get cursors.kept (session, id) ≡ None → cursors ≡ advanced session id count cursors
  advanced-none none = rw none (ap (λ (m : Kept). record cursors { kept = m }) (sym (remove-none cursors.kept (session, id) none)))

  pub advanced-out : (c : Cursor) → finite.get cursors.kept (session, id) ≡ Some c → drop count c.rows ≡ [] → closed session id cursors ≡ advanced session id count cursors
  advanced-out c there out = rw (there, out) refl

  pub advanced-left : (c : Cursor) → finite.get cursors.kept (session, id) ≡ Some c → drop count c.rows ≢ []
      → record cursors { kept = finite.insert cursors.kept (session, id) (record c { rows = drop count c.rows }) } ≡ advanced session id count cursors
  advanced-left c there left = rw (there, some_rows c.namespace (drop count c.rows) left) refl
