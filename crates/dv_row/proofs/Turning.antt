-- Documents that are traversed field by field, and those around them.
use Rattle.std.proofs.Common.{◌≡◌, ◌∙◌, ap, sym, subst, refl, Bool, true, false, not, ◌&&◌, ◌==◌, List, [], ◌∷◌, ◌++◌, ℕ, zero, suc, ◌+◌, ◌*◌, ◌<◌, ◌≤◌, drop, length, Some, slice_get, arith, append_assoc, append-nil, if◌then◌else◌}
use Rattle.std.specs.List.{list_any}
use Rattle.dv_value.specs.Names.{AreNamed, value_at}
use Rattle.dv_value.specs.Tree.{Tree, document, Field, fields_of}
use Rattle.dv_value.specs.Inner.Tree.{weight, fields_weight}
use Rattle.dv_value.specs.Inner.TreeLaws.{fields_back}
use Rattle.dv_value.specs.Inner.ListLaws.{none-past}
use Rattle.dv_candidates.specs.Candidates.{Candidate}
use Rattle.dv_row.specs.declared.level.Level.{Level}
use Rattle.dv_row.specs.Expressions.{with_field_behind}
use Rattle.dv_row.specs.Projecting.{paths_behind, ends, if_it, left_at, left_of_value, left_inside, fields_left, row_left}
use Rattle.dv_row.specs.Row.{Row}
use Rattle.dv_row.specs.Inner.Turns.{left_behind, left_at_end, left_around, with_entered, fields_to_go, fields_behind, IsFresh, IsEntered}
use Rattle.dv_row.proofs.Items.{drop-found, drop-past}
use Rattle.dv_row.proofs.Left.{row-left_more}

abbrev Paths : Type 0
Paths = List (List (List ℕ))

-- ---- the fields from a place on

pub value-here : (d : Row) (i : ℕ) (f : Field) → Some f ≡ slice_get d i → value_at i d ≡ f.1
value-here [] i f here = absurd cc
value-here (g ∷ d) zero f here = let same : g ≡ f = cc in ap (λ (h : Field). h.1) same
value-here (g ∷ d) (suc i) f here = value-here d i f here

abbrev pub weighs : List Field → ℕ
weighs fs = fields_weight (fields_of fs)

pub weighs-next : (d : Row) (i : ℕ) (f : Field) → Some f ≡ slice_get d i → weighs (drop i d) ≡ weight f.1 + weighs (drop (i + 1) d)
weighs-next d i f here = ap weighs (drop-found d i f here)

pub weighs-less : (d : Row) (i j : ℕ) → i ≤ j → weighs (drop j d) ≤ weighs (drop i d)
weighs-less d zero zero h = omega arith
weighs-less [] zero (suc j) h = omega arith
weighs-less (f ∷ fs) zero (suc j) h = omega (arith, weighs-less fs zero j (omega arith))
weighs-less d (suc i) zero h = absurd (omega arith)
weighs-less [] (suc i) (suc j) h = omega arith
weighs-less (f ∷ fs) (suc i) (suc j) h = weighs-less fs i j (omega arith)

-- ---- one document

module _ (keeps : Bool) (paths : Paths) where
  left-further : (fs rest : List Field) → AreNamed (fs ++ rest) → left_behind keeps paths rest (row_left keeps paths fs) ≡ row_left keeps paths (fs ++ rest)
  unfolding left_behind
  left-further fs [] named = ap (row_left keeps paths) (sym (append-nil fs))
  left-further fs (f ∷ rest) named =
      let same : (fs ++ f ∷ []) ++ rest ≡ fs ++ f ∷ rest = append_assoc fs (f ∷ []) rest in
      ap (left_behind keeps paths rest) (row-left_more keeps paths fs f rest named) ∙ left-further (fs ++ f ∷ []) rest (subst AreNamed (sym same) named) ∙ ap (row_left keeps paths) same

  left-all : (d : Row) → AreNamed d → left_behind keeps paths d [] ≡ row_left keeps paths d
  unfolding fields_left
  left-all d named = left-further [] d named

  pub left-next : (d : Row) (i : ℕ) (f : Field) (left : Row) → Some f ≡ slice_get d i
      → left_behind keeps paths (drop i d) left ≡ left_behind keeps paths (drop (i + 1) d) (with_field_behind f.0 (left_of_value keeps (paths_behind f.0 paths) f.1) left)
  unfolding left_behind
  left-next d i f left here = ap (λ fs. left_behind keeps paths fs left) (drop-found d i f here)

  pub left-past : (d : Row) (i : ℕ) (left : Row) → length d ≤ i → left_behind keeps paths (drop i d) left ≡ left
  unfolding left_behind
  left-past d i left past = ap (λ fs. left_behind keeps paths fs left) (drop-past d i past)

  -- after the last field nothing was entered
  pub around-past : (d : Row) (i : ℕ) (left inner : Row) → length d ≤ i → left_behind keeps paths (drop i d) left ≡ left_behind keeps paths (drop (i + 1) d) (with_entered (slice_get d i) inner left)
  around-past d i left inner past =
      left-past d i left past ∙ sym (ap (λ o. left_behind keeps paths (drop (i + 1) d) (with_entered o inner left)) (none-past d i past) ∙ left-past d (i + 1) left (omega arith))

  module _ (d : Row) (l : Level) (fresh : IsFresh paths d l) where
    pub fresh-left : AreNamed l.document.now → left_at_end keeps l ≡ row_left keeps paths d
    fresh-left named =
        ap (λ ps. left_behind keeps ps (drop l.place l.document.now) l.left) fresh.same_ways
        ∙ ap (λ e. left_behind keeps paths (drop l.place e) l.left) fresh.same_document
        ∙ ap (λ i. left_behind keeps paths (drop i d) l.left) fresh.first
        ∙ ap (left_behind keeps paths d) fresh.nothing_left
        ∙ left-all d (subst AreNamed fresh.same_document named)

    -- a document that paths lead into
    pub entered-left : (v : Tree) → v ≡ document (fields_of d) → left_of_value keeps paths v ≡ left_inside keeps paths v → AreNamed l.document.now → left_of_value keeps paths v ≡ Some (document (fields_of (left_at_end keeps l)))
    unfolding left_inside
    entered-left v is inside named =
        inside ∙ ap (left_inside keeps paths) is
        ∙ ap (λ fs. Some (document fs)) (sym (fields_back (fields_left keeps paths (fields_of d))))
        ∙ ap (λ r. Some (document (fields_of r))) (sym (fresh-left named))

  pub led-inside : (v : Tree) (inside : Candidate) → (not (length paths == 0) && not (list_any ends paths)) ≡ true → left_at keeps paths v inside ≡ inside
  led-inside v inside h = led paths h
    where
      go : (a b : Bool) → (not a && not b) ≡ true → (if b then if_it keeps v else inside) ≡ inside
      go true b h = absurd cc
      go false true h = absurd cc
      go false false h = refl

      led : (ps : Paths) → (not (length ps == 0) && not (list_any ends ps)) ≡ true → left_at keeps ps v inside ≡ inside
      led [] h = absurd cc
      led (p ∷ ps) h = go (length (p ∷ ps) == 0) (list_any ends (p ∷ ps)) h

pub fresh-to_go : (paths : Paths) (d : Row) (l : Level) → IsFresh paths d l → fields_to_go l ≡ weighs d
fresh-to_go paths d l fresh = ap (λ e. weighs (drop l.place e)) fresh.same_document ∙ ap (λ i. weighs (drop i d)) fresh.first

-- a field is entered, at which the outer level is
module _ (keeps : Bool) (l outer inner : Level) (f : Field) (here : Some f ≡ slice_get outer.document.now outer.place) (inside : Row) (fresh : IsFresh (paths_behind f.0 outer.ways) inside inner) (is : f.1 ≡ document (fields_of inside)) where
  pub entered : left_at_end keeps l ≡ left_at_end keeps outer → fields_to_go outer ≤ fields_to_go l → left_of_value keeps (paths_behind f.0 outer.ways) f.1 ≡ left_inside keeps (paths_behind f.0 outer.ways) f.1 → IsEntered keeps l outer inner
  entered so-far less led = record {
    left = λ named.
        so-far ∙ left-next keeps outer.ways outer.document.now outer.place f outer.left here
        ∙ ap (λ c. left_behind keeps outer.ways (drop (outer.place + 1) outer.document.now) (with_field_behind f.0 c outer.left)) (entered-left keeps (paths_behind f.0 outer.ways) inside inner fresh f.1 is led named)
        ∙ ap (λ o. left_behind keeps outer.ways (drop (outer.place + 1) outer.document.now) (with_entered o (left_at_end keeps inner) outer.left)) here;
    further =
        let to_go = weighs-next outer.document.now outer.place f here in
        let holds : weight f.1 ≡ suc (weighs inside) = ap weight is in
        omega (arith, to_go, holds, fresh-to_go (paths_behind f.0 outer.ways) inside inner fresh, less);
  }

-- ---- documents around others, the outermost first

abbrev pub closed : Bool → List Level → Row → Row
closed keeps [] left = left
closed keeps (l ∷ ls) left = left_around keeps l (closed keeps ls left)

closed-one : (keeps : Bool) (ls : List Level) (l : Level) (left : Row) → closed keeps (ls ++ l ∷ []) left ≡ closed keeps ls (left_around keeps l left)
closed-one keeps [] l left = refl
closed-one keeps (k ∷ ls) l left = ap (left_around keeps k) (closed-one keeps ls l left)

abbrev pub to_go_around : List Level → ℕ
to_go_around [] = 0
to_go_around (l ∷ ls) = suc (2 * fields_behind l) + to_go_around ls

around-one : (ls : List Level) (l : Level) → to_go_around (ls ++ l ∷ []) ≡ to_go_around ls + suc (2 * fields_behind l)
around-one [] l = omega arith
around-one (k ∷ ls) l = omega (arith, around-one ls l)

abbrev pub to_go : List Level → Level → ℕ
to_go around l = to_go_around around + 2 * fields_to_go l

-- what is left of the outermost document is decided by the level that is traversed and those around it
pub record IsGoing (keeps : Bool) (paths : Paths) (d : Row) (around : List Level) (l : Level) : Type 0 where
  pub left : AreNamed l.document.now → row_left keeps paths d ≡ closed keeps around (left_at_end keeps l)
  pub within : to_go around l ≤ 2 * weighs d

pub going-first : (keeps : Bool) (paths : Paths) (d : Row) (l : Level) (around : List Level) → IsFresh paths d l → around ≡ [] → IsGoing keeps paths d around l
going-first keeps paths d l around fresh none = rw none (record {
  left = λ named. sym (fresh-left keeps paths d l fresh named);
  within = omega (arith, fresh-to_go paths d l fresh);
})

module _ (keeps : Bool) (paths : Paths) (d : Row) (around : List Level) (l : Level) (going : IsGoing keeps paths d around l) where
  pub going-shorter : fields_to_go l ≤ weighs d
  going-shorter = let within = going.within in omega arith

  module _ (outer inner : Level) (turn : IsEntered keeps l outer inner) (more : List Level) (pushed : more ≡ around ++ outer ∷ []) where
    pub in-smaller : to_go more inner < to_go around l
    in-smaller = let further = turn.further in omega (arith, ap to_go_around pushed, around-one around outer)

    pub going-in : AreNamed l.document.now → IsGoing keeps paths d more inner
    going-in named = record {
      left = λ inner-named. going.left named ∙ ap (closed keeps around) (turn.left inner-named) ∙ sym (ap (λ ls. closed keeps ls (left_at_end keeps inner)) pushed ∙ closed-one keeps around outer (left_at_end keeps inner));
      within = let within = going.within in omega (arith, in-smaller);
    }

  module _ (left : Row) (ended : left_at_end keeps l ≡ left) where
    pub gone : AreNamed l.document.now → around ≡ [] → left ≡ row_left keeps paths d
    gone named none = sym (going.left named ∙ ap (λ ls. closed keeps ls (left_at_end keeps l)) none ∙ ended)

    module _ (outer next : Level) (rest : List Level) (popped : around ≡ rest ++ outer ∷ []) (further : fields_to_go next ≡ fields_behind outer) where
      pub out-smaller : to_go rest next < to_go around l
      out-smaller = omega (arith, ap to_go_around popped, around-one rest outer, further)

      pub going-out : AreNamed l.document.now → left_at_end keeps next ≡ left_around keeps outer left → IsGoing keeps paths d rest next
      going-out named goes_on = record {
        left = λ next-named. going.left named ∙ ap (closed keeps around) ended ∙ ap (λ ls. closed keeps ls left) popped ∙ closed-one keeps rest outer left ∙ ap (closed keeps rest) (sym goes_on);
        within = let within = going.within in omega (arith, out-smaller);
      }
