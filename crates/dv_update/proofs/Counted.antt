-- Filled arrays are in the result, and are at least as long as is counted.
use Rattle.std.proofs.Common.{◌≡◌, ◌∙◌, ap, sym, refl, ℕ, suc, ◌+◌, ◌≤◌, ◌<◌, ◌&&◌, nat_lt, Bool, true, false, IsTrue, List, [], ◌∷◌, ◌++◌, take, length, Option, Some, None, is_some, slice_get, Result, Ok, Err, ◌⊎◌, inl, inr, if◌then◌else◌, arith, subst}
use Rattle.std.specs.List.{list_any, AllByRecursion}
use Rattle.std.specs.Str.{bytes_eq}
use Rattle.std.specs.declared.cmp.Ordering.TheVariants.{Less}
use Rattle.std.proofs.lemmas.Bool.Decides.{nat_tests}
use Rattle.std.proofs.lemmas.Option.{slice_get_within}
use Rattle.std.proofs.lemmas.Bool.{or_parts}
use Rattle.dv_value.specs.Tree.{Tree, array, null, document, Field, fields_of, list_of_elements}
use Rattle.dv_candidates.specs.Path.{index_of}
use Rattle.dv_path.specs.Placing.{put}
use Rattle.dv_path.specs.Slots.{Slot, taken, free, blocked, slot_of, element_slot, next_slot, slot_behind, slot}
use Rattle.dv_candidates.specs.declared.fault.PathFault.{PathFault}
use Rattle.dv_update.specs.Apply.{Path, told, set_at, increased, appended, pull_from, edit_at, edited}
use Rattle.dv_update.specs.Inner.Collected.{Steps}
use Rattle.dv_update.specs.Inner.Filling.{Fill, fill_of, before, fills, array_of, place_of, least, leads_into_same, least_size}
use Rattle.dv_update.specs.Parsing.{conflicts, has_conflict}
use Rattle.dv_value.specs.Results.{◌>>=◌}
use Rattle.dv_update.specs.PathOrder.{path_order, begins}
use Rattle.dv_update.specs.Removals.{is_removal, other_edits}
use Rattle.dv_update.specs.Inner.StandIn.{new_value}
use Rattle.dv_update.specs.Update.{Operation, assign, take_away, increase, append, pull, Pulled, Edit}
use Rattle.dv_update.specs.declared.fault.UpdateFault.{UpdateFault}
use Rattle.dv_update.proofs.Elements.{array-long}
use Rattle.dv_update.proofs.Filled.{Fills, fills-so, has-array}
use Rattle.dv_value.specs.Inner.Spelled.{length-null}
use Rattle.dv_update.proofs.Paths.{begins-between-both, begins-itself, begins-more}
use Rattle.dv_update.proofs.Placed.{Rises}
use Rattle.dv_update.proofs.PutThere.{free-stays}
use Rattle.dv_update.proofs.Putting.{IsArray, long, put-keeps-array, put-exchanges}
use Rattle.dv_update.proofs.RemovalsLast.{SlotsStay}
use Rattle.dv_update.proofs.Stepwise.{no_conflict, rises}

-- ---- what dv_path's laws say

abbrev pub PutsAreThere : Type 0
PutsAreThere = (fields : List Field) (name : List ℕ) (path : Path) (v : Tree) (after : List Field) → put fields (name ∷ path) v ≡ Ok after → slot after (name ∷ path) ≡ taken v

abbrev pub TakenMayChange : Type 0
TakenMayChange = (fields : List Field) (name : List ℕ) (path : Path) (v there : Tree) → slot fields (name ∷ path) ≡ taken there → (after : List Field) × (put fields (name ∷ path) v ≡ Ok after)

-- ---- what an edit does if nothing is refused

told-ok : (r : Result (List Field) PathFault) (d : List Field) → told r ≡ Ok d → r ≡ Ok d
told-ok (Ok x) d e = let same : x ≡ d = cc in ap Ok same
told-ok (Err f) d e = absurd cc

pub bound-ok : {X Y : Type 0} (r : Result X UpdateFault) (f : X → Result Y UpdateFault) (y : Y) → (r >>= f) ≡ Ok y → (x : X) × (r ≡ Ok x) × (f x ≡ Ok y)
bound-ok (Ok x) f y e = (x, refl, e)
bound-ok (Err g) f y e = absurd cc

-- a value is put
abbrev pub IsPut : Path → List Field → List Field → Type 0
IsPut q d after = (v : Tree) × (put d q v ≡ Ok after)

value-put : (q : Path) (d after : List Field) (r : Result Tree UpdateFault) → (r >>= λ v. set_at q v d) ≡ Ok after → IsPut q d after
value-put q d after r e = let found = bound-ok r (λ v. set_at q v d) after e in (found.0, told-ok (put d q found.0) after found.2)

-- a value is put by an edit that puts something where there is nothing
pub new-put : (q : Path) (o : Operation) → is_some (new_value o) ≡ true → (d after : List Field) → edit_at q o d ≡ Ok after → IsPut q d after
new-put q (assign v) new d after e = (v, told-ok (put d q v) after e)
new-put q take_away new d after e = absurd cc
new-put q (increase n) new d after e = value-put q d after (increased n (slot d q)) e
new-put q (append vs) new d after e = value-put q d after (appended vs (slot d q)) e
new-put q (pull p) new d after e = absurd cc

pub not-removal : (o : Operation) → is_some (new_value o) ≡ true → is_removal o ≡ false
not-removal (assign v) e = refl
not-removal take_away e = cc
not-removal (increase n) e = refl
not-removal (append vs) e = refl
not-removal (pull p) e = refl

pull-put : (q : Path) (p : Pulled) (d after : List Field) (s : Slot) → pull_from q p d s ≡ Ok after → (d ≡ after) ⊎ IsPut q d after
pull-put q p d after (taken (array vs)) e = inr (_, told-ok _ after e)
pull-put q p d after (taken v) e = absurd cc
pull-put q p d after free e = inl cc
pull-put q p d after blocked e = inl cc

-- a value is put by any edit that changes something
edit-put : (q : Path) (o : Operation) → is_removal o ≡ false → (d after : List Field) → edit_at q o d ≡ Ok after → (d ≡ after) ⊎ IsPut q d after
edit-put q (assign v) other d after e = inr (new-put q (assign v) refl d after e)
edit-put q take_away other d after e = absurd cc
edit-put q (increase n) other d after e = inr (new-put q (increase n) refl d after e)
edit-put q (append vs) other d after e = inr (new-put q (append vs) refl d after e)
edit-put q (pull p) other d after e = pull-put q p d after (slot d q) e

-- ---- what stays

-- what is left unchanged by each value that is put is left unchanged by edits
module _ (Stays : Slot → Type 0) (a : Path) where
  edit-keeps-so : (q : Path) → ((v : Tree) (d after : List Field) → Stays (slot d a) → put d q v ≡ Ok after → Stays (slot after a))
      → (o : Operation) → is_removal o ≡ false → (d after : List Field) → edit_at q o d ≡ Ok after → Stays (slot d a) → Stays (slot after a)
  edit-keeps-so q puts o other d after e is = elim (edit-put q o other d after e) [
    | inl same ↦ subst (λ x. Stays (slot x a)) same is
    | inr made ↦ puts made.0 d after is made.1
  ]

  pub edits-keep-so : ((q : Path) → begins q a ≡ false → (v : Tree) (d after : List Field) → Stays (slot d a) → put d q v ≡ Ok after → Stays (slot after a))
      → (es : List Edit) → AllByRecursion (λ e. begins e.0 a ≡ false) es → (d after : List Field) → edited (other_edits es) d ≡ Ok after → Stays (slot d a) → Stays (slot after a)
  edits-keep-so puts [] apart d after e is = let same : d ≡ after = cc in subst (λ x. Stays (slot x a)) same is
  edits-keep-so puts (q ∷ es) apart d after e is = by (is_removal q.1) refl e (λ d. edits-keep-so puts es apart.1 d after)
    where
      by : (b : Bool) → is_removal q.1 ≡ b → edited (if b then other_edits es else q ∷ other_edits es) d ≡ Ok after → ((d : List Field) → edited (other_edits es) d ≡ Ok after → Stays (slot d a) → Stays (slot after a)) → Stays (slot after a)
      by true removal e rest = rest d e is
      by false other e rest =
          let found = bound-ok (edit_at q.0 q.1 d) (edited (other_edits es)) after e in
          rest found.0 found.2 (edit-keeps-so q.0 (puts q.0 apart.0) q.1 other d found.0 found.1 is)

module _ (slots : SlotsStay) where
  edit-keeps : (a q : Path) (o : Operation) (n : ℕ) → is_removal o ≡ false → begins q a ≡ false → (d after : List Field) → edit_at q o d ≡ Ok after → IsArray (slot d a) n → IsArray (slot after a) n
  edit-keeps a q o n other apart d after e is = edit-keeps-so (λ s. IsArray s n) a q (λ v d after. put-keeps-array slots v d a q n after apart) o other d after e is

  edits-keep : (a : Path) (n : ℕ) (es : List Edit) → AllByRecursion (λ e. begins e.0 a ≡ false) es → (d after : List Field) → edited (other_edits es) d ≡ Ok after → IsArray (slot d a) n → IsArray (slot after a) n
  edits-keep a n es apart d after e is = edits-keep-so (λ s. IsArray s n) a (λ q apart v d after. put-keeps-array slots v d a q n after apart) es apart d after e is

-- ---- the place that is filled exists

not-begun : (a : Path) (name : List ℕ) (names : Path) → begins (a ++ name ∷ names) a ≡ false
not-begun [] name names = refl
not-begun (b ∷ a) name names = by (bytes_eq b b) (not-begun a name names)
  where
    by : (c : Bool) → begins (a ++ name ∷ names) a ≡ false → (c && begins (a ++ name ∷ names) a) ≡ false
    by true rest = rest
    by false rest = refl

slot-further : (a b : Path) (s : Slot) → slot_behind (a ++ b) s ≡ slot_behind b (slot_behind a s)
slot-further [] b s = refl
slot-further (name ∷ a) b s = slot-further a b (next_slot name s)

-- if there is a value at a path through a place of an array, the array has the place
has-place : (name : List ℕ) (names : Path) (place : ℕ) (s : Slot) (v : Tree) → index_of name ≡ Some place → slot_behind (name ∷ names) s ≡ taken v → IsArray s 0 → IsArray s (suc place)
has-place name names place s v at there is = (is.0, is.1, by (slice_get vs place) refl here)
  where
    vs : List Tree
    vs = list_of_elements is.0

    here : slot_behind names (slot_of (slice_get vs place)) ≡ taken v
    here = ap (λ o. slot_behind names (element_slot o vs)) (sym at) ∙ ap (λ t. slot_behind names (next_slot name t)) (sym is.1) ∙ there

    by : (c : Option Tree) → slice_get vs place ≡ c → slot_behind names (slot_of c) ≡ taken v → suc place ≤ length vs
    by None e h = absurd (free-stays names v h)
    by (Some w) e h = omega (arith, slice_get_within vs place w e)

put-there : PutsAreThere → (path : Path) (d after : List Field) (v : Tree) (a : Path) (name : List ℕ) (names : Path) → path ≡ a ++ name ∷ names → put d path v ≡ Ok after → slot after path ≡ taken v
put-there law [] d after v [] name names is e = absurd cc
put-there law [] d after v (b ∷ a) name names is e = absurd cc
put-there law (b ∷ path) d after v a name names is e = law d b path v after e

module _ (slots : SlotsStay) (there : PutsAreThere) where
  fill-stands : (d0 d after : List Field) (e : Edit) (f : Fill) → Fills d0 e f → edit_at e.0 e.1 d ≡ Ok after → IsArray (slot d (array_of f)) 0 → IsArray (slot after (array_of f)) (suc (place_of f))
  unfolding slot
  fill-stands d0 d after e f fills made is =
      let h = has-array d0 e f fills in
      let a = array_of f in
      let new = new-put e.0 e.1 fills.new d after made in
      let other : is_removal e.1 ≡ false = not-removal e.1 fills.new in
      let apart : begins e.0 a ≡ false = ap (λ p. begins p a) h.whole ∙ not-begun a h.name h.names in
      let stays : IsArray (slot after a) 0 = edit-keeps slots a e.0 e.1 0 other apart d after made is in
      let whole : slot after e.0 ≡ taken new.0 = put-there there e.0 d after new.0 a h.name h.names h.whole new.1 in
      let split : slot_behind (h.name ∷ h.names) (slot after a) ≡ taken new.0 = sym (slot-further a (h.name ∷ h.names) (taken (document (fields_of after)))) ∙ ap (slot after) (sym h.whole) ∙ whole in
      has-place h.name h.names (place_of f) (slot after a) new.0 h.at split stays

  -- each array that is filled is in the document, with at least this many elements
  abbrev Stand : List Field → (Fill → ℕ) → List Fill → Type 0
  Stand d count fs = AllByRecursion (λ f. IsArray (slot d (array_of f)) (count f)) fs

  -- no path of an edit begins one of another
  abbrev Apart : Edit → List Edit → Type 0
  Apart e es = AllByRecursion (λ x. (begins e.0 x.0 ≡ false) × (begins x.0 e.0 ≡ false)) es

  apart-each : (e : Edit) (es : List Edit) → list_any (conflicts e) es ≡ false → Apart e es
  apart-each e [] none = tt
  apart-each e (x ∷ es) none =
      let one : conflicts e x ≡ false = (or_parts (conflicts e x) (list_any (conflicts e) es) none).0 in
      (((or_parts (begins e.0 x.0) (begins x.0 e.0) one).0, (or_parts (begins e.0 x.0) (begins x.0 e.0) one).1), apart-each e es (or_parts (conflicts e x) (list_any (conflicts e) es) none).1)

  -- what doesn't begin the path of a fill doesn't begin the path to its array
  not-begins : (p q : Path) (n : ℕ) → begins p q ≡ false → begins p (take n q) ≡ false
  not-begins p q n none = by (begins p (take n q)) refl
    where
      by : (b : Bool) → begins p (take n q) ≡ b → b ≡ false
      by true is = sym (begins-more p q n is) ∙ none
      by false is = refl

  module _ (d0 : List Field) where
    -- an edit keeps the arrays that the other edits fill
    stand-on : (e : Edit) (es : List Edit) → Apart e es → is_removal e.1 ≡ false → (d after : List Field) → edit_at e.0 e.1 d ≡ Ok after → Stand d (λ f. 0) (fills d0 es) → Stand after (λ f. 0) (fills d0 es)
    stand-on e [] apart other d after made is = tt
    stand-on e (x ∷ es) apart other d after made is = by (fill_of d0 x) refl is (stand-on e es apart.1 other d after made)
      where
        by : (o : Option Fill) → fill_of d0 x ≡ o → Stand d (λ f. 0) (before o (fills d0 es)) → (Stand d (λ f. 0) (fills d0 es) → Stand after (λ f. 0) (fills d0 es)) → Stand after (λ f. 0) (before o (fills d0 es))
        by None none is rest = rest is
        by (Some f) some is rest =
            let path = (fills-so d0 x f some).path in
            let none : begins e.0 (array_of f) ≡ false = not-begins e.0 f.0 _ (ap (begins e.0) path ∙ apart.0.0) in
            (edit-keeps slots (array_of f) e.0 e.1 0 other none d after made is.0, rest is.1)

    no-fill : (e : Edit) → is_removal e.1 ≡ true → fill_of d0 e ≡ None
    no-fill e removal = by e.1 removal
      where
        by : (o : Operation) → is_removal o ≡ true → fill_of d0 (let x : Edit = (e.0, o) in x) ≡ None
        by (assign v) h = absurd cc
        by take_away h = refl
        by (increase n) h = absurd cc
        by (append vs) h = absurd cc
        by (pull p) h = absurd cc

    stand-filled : (es : List Edit) → has_conflict es ≡ false → (d after : List Field) → edited (other_edits es) d ≡ Ok after → Stand d (λ f. 0) (fills d0 es) → Stand after (λ f. suc (place_of f)) (fills d0 es)
    stand-filled [] none d after e is = tt
    stand-filled (x ∷ es) none d after e is = by (is_removal x.1) refl e (λ d. stand-filled es (or_parts (list_any (conflicts x) es) (has_conflict es) none).1 d after)
      where
        -- what further edits make
        Rest : Type 0
        Rest = (d : List Field) → edited (other_edits es) d ≡ Ok after → Stand d (λ f. 0) (fills d0 es) → Stand after (λ f. suc (place_of f)) (fills d0 es)

        apart : Apart x es
        apart = apart-each x es (or_parts (list_any (conflicts x) es) (has_conflict es) none).0

        later : (f : Fill) → f.0 ≡ x.0 → (ys : List Edit) → Apart x ys → AllByRecursion (λ y. begins y.0 (array_of f) ≡ false) ys
        later f path [] h = tt
        later f path (y ∷ ys) h = (not-begins y.0 f.0 _ (ap (begins y.0) path ∙ h.0.1), later f path ys h.1)

        made-first : (next : List Field) → is_removal x.1 ≡ false → edit_at x.0 x.1 d ≡ Ok next → edited (other_edits es) next ≡ Ok after → Rest → (o : Option Fill) → fill_of d0 x ≡ o → Stand d (λ f. 0) (before o (fills d0 es)) → Stand after (λ f. suc (place_of f)) (before o (fills d0 es))
        made-first next other made further rest None is stand = rest next further (stand-on x es apart other d next made stand)
        made-first next other made further rest (Some f) is stand =
            let fills-here = fills-so d0 x f is in (
              edits-keep slots (array_of f) (suc (place_of f)) es (later f fills-here.path es apart) next after further (fill-stands d0 d next x f fills-here made stand.0),
              rest next further (stand-on x es apart other d next made stand.1),
            )

        by : (b : Bool) → is_removal x.1 ≡ b → edited (if b then other_edits es else x ∷ other_edits es) d ≡ Ok after → Rest → Stand after (λ f. suc (place_of f)) (fills d0 (x ∷ es))
        by true removal e rest =
            let none-here = no-fill x removal in
            rw none-here (rest d e (subst (λ o. Stand d (λ f. 0) (before o (fills d0 es))) none-here is))
        by false other e rest =
            let found = bound-ok (edit_at x.0 x.1 d) (edited (other_edits es)) after e in
            made-first found.0 other found.1 found.2 rest (fill_of d0 x) refl is

    all-stand : (es : List Edit) → Stand d0 (λ f. 0) (fills d0 es)
    all-stand [] = tt
    all-stand (e ∷ es) = by (fill_of d0 e) refl (all-stand es)
      where
        by : (o : Option Fill) → fill_of d0 e ≡ o → Stand d0 (λ f. 0) (fills d0 es) → Stand d0 (λ f. 0) (before o (fills d0 es))
        by None is rest = rest
        by (Some f) is rest = ((has-array d0 e f (fills-so d0 e f is)).there, rest)

    -- ---- fills are in the order of their paths

    abbrev Ordered : List Fill → Type 0
    Ordered [] = Unit {0}
    Ordered (f ∷ fs) = AllByRecursion (λ g. path_order f.0 g.0 ≡ Less) fs × Ordered fs

    all-behind : (p : Path) (es : List Edit) → AllByRecursion (λ e. path_order p e.0 ≡ Less) es → AllByRecursion (λ g. path_order p g.0 ≡ Less) (fills d0 es)
    all-behind p [] h = tt
    all-behind p (e ∷ es) h = by (fill_of d0 e) refl (all-behind p es h.1)
      where
        by : (o : Option Fill) → fill_of d0 e ≡ o → AllByRecursion (λ g. path_order p g.0 ≡ Less) (fills d0 es) → AllByRecursion (λ g. path_order p g.0 ≡ Less) (before o (fills d0 es))
        by None is rest = rest
        by (Some f) is rest = (ap (path_order p) (fills-so d0 e f is).path ∙ h.0, rest)

    in-order : (es : List Edit) → Rises es → Ordered (fills d0 es)
    in-order [] h = tt
    in-order (e ∷ es) h = by (fill_of d0 e) refl (in-order es h.1)
      where
        by : (o : Option Fill) → fill_of d0 e ≡ o → Ordered (fills d0 es) → Ordered (before o (fills d0 es))
        by None is rest = rest
        by (Some f) is rest = (all-behind f.0 es (subst (λ p. AllByRecursion (λ x. path_order p x.0 ≡ Less) es) (sym (fills-so d0 e f is).path) h.0), rest)

    -- ---- counting

    -- if the next fill leads into another array, all further ones do
    no-more : (f : Fill) (fs : List Fill) → Ordered (f ∷ fs) → leads_into_same f fs ≡ false → AllByRecursion (λ g. begins (array_of f) (array_of g) ≡ false) fs
    no-more f [] order none = tt
    no-more f (g ∷ fs) order none = (not-begins (array_of f) g.0 _ none, later fs order.1.0 order.0.1)
      where
        begun : begins (array_of f) f.0 ≡ true
        begun = begins-more (array_of f) f.0 _ (begins-itself (array_of f))

        later : (hs : List Fill) → AllByRecursion (λ h. path_order g.0 h.0 ≡ Less) hs → AllByRecursion (λ h. path_order f.0 h.0 ≡ Less) hs → AllByRecursion (λ h. begins (array_of f) (array_of h) ≡ false) hs
        later [] behind further = tt
        later (h ∷ hs) behind further = (not-begins (array_of f) h.0 _ (by (begins (array_of f) h.0) refl), later hs behind.1 further.1)
          where
            by : (b : Bool) → begins (array_of f) h.0 ≡ b → b ≡ false
            by true is = sym (begins-between-both (array_of f) f.0 g.0 h.0 order.0.0 behind.0 begun is) ∙ none
            by false is = refl

    -- a document with an array whose place is filled is at least this much longer than with null instead of the array
    emptied : TakenMayChange → (t : List Field) (place : ℕ) (a : Path) → IsArray (slot t a) (suc place) → (after : List Field) × (put t a null ≡ Ok after) × (long after + least place ≤ long t)
    unfolding slot
    emptied law t place [] h = absurd (let e = h.1 in cc)
    emptied law t place (name ∷ names) h =
        let changed = law t name names null (array h.0) h.1 in
        (changed.0, changed.1, omega (arith, put-exchanges t name names null (array h.0) changed.0 h.1 changed.1, length-null, array-long place h.0 h.2))

    counted : TakenMayChange → (fs : List Fill) → Ordered fs → (t : List Field) → Stand t (λ f. suc (place_of f)) fs → least_size fs ≤ long t
    counted law [] order t is = omega arith
    counted law (f ∷ fs) order t is = by (leads_into_same f fs) refl (counted law fs order.1)
      where
        on : (after : List Field) → put t (array_of f) null ≡ Ok after → (gs : List Fill) → AllByRecursion (λ g. begins (array_of f) (array_of g) ≡ false) gs → Stand t (λ g. suc (place_of g)) gs → Stand after (λ g. suc (place_of g)) gs
        on after made [] none is = tt
        on after made (g ∷ gs) none is = (put-keeps-array slots null t (array_of g) (array_of f) (suc (place_of g)) after none.0 is.0 made, on after made gs none.1 is.1)

        by : (b : Bool) → leads_into_same f fs ≡ b → ((t : List Field) → Stand t (λ g. suc (place_of g)) fs → least_size fs ≤ long t) → (if b then 0 else least (place_of f)) + least_size fs ≤ long t
        by true same rest = omega (arith, rest t is.1)
        by false none rest =
            let without = emptied law t (place_of f) (array_of f) is.0 in
            omega (arith, without.2, rest without.0 (on without.0 without.1 fs (no-more f fs order none) is.1))

    pub least_made : TakenMayChange → (es : List Edit) → Steps es → (after : List Field) → edited (other_edits es) d0 ≡ Ok after → least_size (fills d0 es) ≤ long after
    least_made law es steps after made =
        counted law (fills d0 es) (in-order es (rises es steps)) after (stand-filled es (no_conflict es steps) d0 after made (all-stand es))

pub more-made : (told counted whole : ℕ) (after : List Field) → IsTrue (nat_lt 16777216 told) → told ≤ counted → counted ≡ whole → whole ≤ long after → 16777216 < long after
more-made told counted whole after much less same all = let more : 16777216 < told = grind (arith, nat_tests, much) in omega arith
