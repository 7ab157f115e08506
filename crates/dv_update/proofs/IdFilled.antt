-- Edits that fill an array in the `_id` of a document give it another one.
use Rattle.std.proofs.Common.{◌≡◌, ◌∙◌, ap, sym, refl, ◌||◌, Bool, true, false, List, [], ◌∷◌, Option, Some, None, is_some, Ok, Err, if◌then◌else◌, codes}
use Rattle.std.specs.Bool.{⊤}
use Rattle.std.specs.List.{list_any, AllByRecursion}
use Rattle.std.specs.Str.{bytes_eq}
use Rattle.std.proofs.lemmas.Slice.Eq.{bytes_eq-Decides}
use Rattle.std.proofs.lemmas.Bool.{or_parts, and_parts}
use Rattle.dv_value.specs.Names.{value_under}
use Rattle.dv_value.specs.Results.{◌>>=◌}
use Rattle.dv_value.specs.Tree.{Tree, null, Field}
use Rattle.dv_value.specs.Inner.TreeLaws.{fields_again}
use Rattle.dv_order.specs.Same.{both_same, is_same}
use Rattle.dv_order.specs.Inner.SameLaws.{same-is}
use Rattle.dv_path.specs.Placing.{put}
use Rattle.dv_path.specs.Slots.{Slot, taken, free, slot_of, slot_behind, slot}
use Rattle.dv_update.specs.Apply.{Path, edit_at, edited, is_id, leading_id, checked}
use Rattle.dv_update.specs.Inner.Filling.{Fill, fills_id, leads_into_id, judged}
use Rattle.dv_update.specs.Parsing.{conflicts, has_conflict}
use Rattle.dv_update.specs.PathOrder.{begins}
use Rattle.dv_update.specs.Removals.{is_removal, other_edits}
use Rattle.dv_update.specs.Update.{Edit}
use Rattle.dv_update.specs.declared.fault.UpdateFault.TheVariants.{IdChanged}
use Rattle.dv_update.proofs.Counted.{PutsAreThere, bound-ok, new-put, not-removal, edits-keep-so}
use Rattle.dv_update.proofs.Filled.{Fills, some-fill}
use Rattle.dv_update.proofs.Meeting.{Met, fill-met}
use Rattle.dv_update.proofs.Putting.{Stands, put-keeps}
use Rattle.dv_update.proofs.RemovalsLast.{SlotsStay}

-- a value, whatever it is
abbrev Any : Tree → Type 0
Any v = ⊤

-- at the end of a path into `_id` there was no value, and now there is one
record IsFilled (old after : List Field) : Type 0 where
  path : Path
  begins : is_some (leading_id old) ≡ true
  leads : leads_into_id path ≡ true
  before : slot old path ≡ free
  now : Stands Any (slot after path)

module _ (slots : SlotsStay) (there : PutsAreThere) (old : List Field) where
  put-stands : (q : Path) (v : Tree) (d after : List Field) → leads_into_id q ≡ true → put d q v ≡ Ok after → slot after q ≡ taken v
  put-stands [] v d after leads put = absurd cc
  put-stands (b ∷ q) v d after leads put = there d b q v after put

  apart-from : (e : Edit) (es : List Edit) → list_any (conflicts e) es ≡ false → AllByRecursion (λ x. begins x.0 e.0 ≡ false) es
  apart-from e [] none = tt
  apart-from e (x ∷ es) none = (
    (or_parts (begins e.0 x.0) (begins x.0 e.0) (or_parts (conflicts e x) (list_any (conflicts e) es) none).0).1,
    apart-from e es (or_parts (conflicts e x) (list_any (conflicts e) es) none).1,
  )

  -- what the edit puts is there in the end
  one-fills : (d after : List Field) (e : Edit) (es : List Edit) → list_any (conflicts e) es ≡ false → (f : Fill) → Fills old e f → is_some (leading_id old) ≡ true → leads_into_id e.0 ≡ true → edited (other_edits (e ∷ es)) d ≡ Ok after → IsFilled old after
  one-fills d after e es none f fills begun leads made =
      let other : is_removal e.1 ≡ false = not-removal e.1 fills.new in
      let first : (edit_at e.0 e.1 d >>= edited (other_edits es)) ≡ Ok after = ap (λ b. edited (if b then other_edits es else e ∷ other_edits es) d) (sym other) ∙ made in
      let found = bound-ok (edit_at e.0 e.1 d) (edited (other_edits es)) after first in
      let new = new-put e.0 e.1 fills.new d found.0 found.1 in
      record {
        path = e.0;
        begins = begun;
        leads = leads;
        before = ap (λ (m : Met). m.0) (fill-met e.0 f.1 null old fills.leads);
        now = edits-keep-so (Stands Any) e.0 (λ q apart v x y is put. put-keeps slots v Any (λ b p t u h g. tt) x e.0 q y apart is put) es (apart-from e es none) found.0 after found.2
            (new.0, put-stands e.0 new.0 d found.0 leads new.1, tt);
      }

  all-fill : (es : List Edit) → has_conflict es ≡ false → list_any (fills_id old) es ≡ true → (d after : List Field) → edited (other_edits es) d ≡ Ok after → IsFilled old after
  all-fill [] none is d after made = absurd cc
  all-fill (e ∷ es) none is d after made = by (fills_id old e) refl is (all-fill es (or_parts (list_any (conflicts e) es) (has_conflict es) none).1)
    where
      Rest : Type 0
      Rest = (d after : List Field) → edited (other_edits es) d ≡ Ok after → IsFilled old after

      further : (b : Bool) → edited (if b then other_edits es else e ∷ other_edits es) d ≡ Ok after → Rest → IsFilled old after
      further true made rest = rest d after made
      further false made rest = let found = bound-ok (edit_at e.0 e.1 d) (edited (other_edits es)) after made in rest found.0 after found.2

      by : (b : Bool) → fills_id old e ≡ b → (b || list_any (fills_id old) es) ≡ true → (list_any (fills_id old) es ≡ true → Rest) → IsFilled old after
      by true here is rest =
          let fill = some-fill old e (and_parts _ _ here).1 in
          one-fills d after e es (or_parts (list_any (conflicts e) es) (has_conflict es) none).0 fill.0 fill.1 (and_parts _ _ (and_parts _ _ here).0).0 (and_parts _ _ (and_parts _ _ here).0).1 made
      by false here is rest = further (is_removal e.1) made (rest is)

-- ---- so it is another `_id`

under-id : (d : List Field) (w : Tree) → leading_id d ≡ Some w → value_under (codes "_id") d ≡ Some w
under-id [] w e = absurd cc
under-id (f ∷ fs) w e = by (is_id f) refl e
  where
    by : (b : Bool) → is_id f ≡ b → (if b then Some f.1 else None) ≡ Some w → value_under (codes "_id") (f ∷ fs) ≡ Some w
    by true is e =
        let here : bytes_eq (codes "_id") f.0 ≡ true = (bytes_eq-Decides (codes "_id") f.0).1 (sym ((bytes_eq-Decides f.0 (codes "_id")).0 is)) in
        ap (λ b. if b then Some f.1 else value_under (codes "_id") fs) here ∙ e
    by false is e = cc

abbrev behind-first : Path → Tree → Slot
behind-first [] w = taken w
behind-first (b ∷ q) w = slot_behind q (taken w)

slot-in-id : (d : List Field) (q : Path) (w : Tree) → leads_into_id q ≡ true → leading_id d ≡ Some w → slot d q ≡ behind-first q w
unfolding slot
slot-in-id d [] w leads e = absurd cc
slot-in-id d (b ∷ q) w leads e =
    ap (λ fs. slot_behind q (slot_of (value_under b fs))) (fields_again d)
    ∙ ap (λ n. slot_behind q (slot_of (value_under n d))) ((bytes_eq-Decides b (codes "_id")).0 leads)
    ∙ ap (λ o. slot_behind q (slot_of o)) (under-id d w e)

other-id : (old after : List Field) → IsFilled old after → both_same (leading_id old) (leading_id after) ≡ false
other-id old after filled = by (leading_id old) (leading_id after) refl refl filled.begins
  where
    same : (w x : Tree) (b : Bool) → leading_id old ≡ Some w → leading_id after ≡ Some x → is_same w x ≡ b → b ≡ false
    same w x true e f is =
        let one : free ≡ taken filled.now.0 = sym filled.before
        ∙ slot-in-id old filled.path w filled.leads e
        ∙ ap (behind-first filled.path) (same-is w x is)
        ∙ sym (slot-in-id after filled.path x filled.leads f)
        ∙ filled.now.1 in
        absurd cc
    same w x false e f is = refl

    by : (o p : Option Tree) → leading_id old ≡ o → leading_id after ≡ p → is_some o ≡ true → both_same o p ≡ false
    by None p e f some = absurd cc
    by (Some w) None e f some = refl
    by (Some w) (Some x) e f some = same w x (is_same w x) e f refl

pub id_changes : SlotsStay → PutsAreThere → (old d after : List Field) (es : List Edit) → has_conflict es ≡ false → list_any (fills_id old) es ≡ true → edited (other_edits es) d ≡ Ok after → judged old (edited (other_edits es) d) ≡ Err IdChanged
id_changes slots there old d after es none fill made =
    let filled = all-fill slots there old es none fill d after made in
    ap (λ r. r >>= checked old) made ∙ rw (other-id old after filled) refl
