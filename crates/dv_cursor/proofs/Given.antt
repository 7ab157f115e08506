-- Ids that are given.
use Rattle.std.proofs.Common.{◌≡◌, ℕ, ◌+◌, ◌<◌, ◌≤◌, Bool, true, false, List, [], ◌∷◌, Option, Some, None, cond, refl, sym, subst, arith}
use Rattle.std.specs.Cmp.{ranks}
use Rattle.std.specs.List.{AllByRecursion}
use Rattle.std.specs.List.Sorted.{IsStrictlySortedBy}
use Rattle.std.specs.Ordering.{nat_cmp, MatchOrdering}
use Rattle.std.specs.declared.cmp.Ordering.{Ordering}
use Rattle.std.specs.declared.cmp.Ordering.TheVariants.{Less, Equal, Greater}
use Rattle.dv_value.specs.Tree.{Field}
use Rattle.dv_cursor.specs.Cursors.{Cursor, Cursors, CursorPlace, free_id, with_cursor}
use Rattle.dv_cursor.specs.Inner.Runs.{Event, add, advance, close, end, after_event, added_under, with_cursor_id, id_given, ids_given}

-- a free id is the next one
free_next : (b : Bool) (n id : ℕ) → cond b (Some n) None ≡ Some id → id ≡ n
free_next true n id is = cc
free_next false n id is = cc

pub free_id-next : (cursors : Cursors) (id : ℕ) → free_id cursors ≡ Some id → id ≡ cursors.next
free_id-next cursors id is = free_next _ cursors.next id is

-- an event that gives the next id raises it by 1, and the others leave it unchanged
next-with_cursor : (place : CursorPlace) (cursor : Option Cursor) (cursors : Cursors) → (with_cursor place cursor cursors).next ≡ cursors.next
next-with_cursor place None cursors = refl
next-with_cursor place (Some cursor) cursors = refl

goes_on : Option ℕ → ℕ → ℕ
goes_on None n = n
goes_on (Some id) n = n + 1

next-added_under : (id : Option ℕ) (session : ℕ) (namespace : List ℕ) (rows : List (List Field)) (cursors : Cursors) → (added_under id session namespace rows cursors).next ≡ goes_on id cursors.next
unfolding goes_on
next-added_under None session namespace rows cursors = refl
next-added_under (Some id) session namespace rows cursors = refl

next-after : (event : Event) (cursors : Cursors) → (after_event event cursors).next ≡ goes_on (id_given event cursors) cursors.next
unfolding goes_on
next-after (add session namespace rows) cursors = next-added_under (free_id cursors) session namespace rows cursors
next-after (advance session id count) cursors = next-with_cursor (session, id) _ cursors
next-after (close session id) cursors = refl
next-after (end session) cursors = refl

id_given-next : (event : Event) (cursors : Cursors) (id : ℕ) → id_given event cursors ≡ Some id → id ≡ cursors.next
id_given-next (add session namespace rows) cursors id is = free_id-next cursors id is
id_given-next (advance session i count) cursors id is = cc
id_given-next (close session i) cursors id is = cc
id_given-next (end session) cursors id is = cc

-- all ids are at least n
AreFrom : ℕ → List ℕ → Type 0
AreFrom n ids = AllByRecursion (λ id. n ≤ id) ids

weaker : (n m : ℕ) (ids : List ℕ) → n ≤ m → AreFrom m ids → AreFrom n ids
unfolding AreFrom
weaker n m [] le all = tt
weaker n m (id ∷ ids) le all = (omega (arith, all.0), weaker n m ids le all.1)

less : (n id : ℕ) (r : Ordering) → MatchOrdering r (n < id) (n ≡ id) (id < n) → n + 1 ≤ id → r ≡ Less
less n id Less ranked above = refl
less n id Equal ranked above = absurd (omega arith)
less n id Greater ranked above = absurd (omega arith)

all_above : (n : ℕ) (ids : List ℕ) → AreFrom (n + 1) ids → AllByRecursion (λ id. nat_cmp n id ≡ Less) ids
unfolding AreFrom
all_above n [] all = tt
all_above n (id ∷ ids) all = (less n id (nat_cmp n id) (ranks n id) (omega (arith, all.0)), all_above n ids all.1)

-- the ids of a run ascend from the next one on
abbrev Ascend : ℕ → List ℕ → Type 0
Ascend n ids = AreFrom n ids × IsStrictlySortedBy nat_cmp ids

ascend_by : (n m : ℕ) (given : Option ℕ) (ids : List ℕ) → m ≡ goes_on given n → ((id : ℕ) → given ≡ Some id → id ≡ n) → Ascend m ids → Ascend n (with_cursor_id given ids)
unfolding AreFrom goes_on IsStrictlySortedBy
ascend_by n m None ids goes is up = subst (λ k. Ascend k ids) goes up
ascend_by n m (Some id) ids goes is up =
    let own : id ≡ n = is id refl in
    let from = subst (λ k. AreFrom k ids) goes up.0 in
    ((omega (arith, own), weaker n (n + 1) ids (omega arith) from), (subst (λ k. AllByRecursion (λ i. nat_cmp k i ≡ Less) ids) (sym own) (all_above n ids from), up.1))

ids_ascend : (events : List Event) (cursors : Cursors) → Ascend cursors.next (ids_given events cursors)
unfolding AreFrom IsStrictlySortedBy
ids_ascend [] cursors = (tt, tt)
ids_ascend (event ∷ events) cursors =
    ascend_by cursors.next (after_event event cursors).next (id_given event cursors) (ids_given events (after_event event cursors)) (next-after event cursors) (id_given-next event cursors) (ids_ascend events (after_event event cursors))

pub ids_given_once : (events : List Event) (cursors : Cursors) → IsStrictlySortedBy nat_cmp (ids_given events cursors)
ids_given_once events cursors = (ids_ascend events cursors).1
