-- What paths take away one after the other, and in groups.
use Rattle.std.proofs.Common.{◌≡◌, ◌∙◌, ap, sym, refl, subst, ℕ, zero, suc, ◌+◌, ◌<◌, ◌≤◌, List, [], ◌∷◌, ◌++◌, length, Option, Some, None, inl, inr, option_and_then, append_assoc, append-nil, true, false, map, drop, get_or, arith}
use Rattle.std.specs.Option.{unwrap_or}
use Rattle.dv_value.specs.Tree.{Tree, document, array, null, Field, fields_of, elements_of}
use Rattle.dv_value.specs.Names.{value_under}
use Rattle.dv_value.specs.Removing.{without_each}
use Rattle.dv_value.specs.View.{tree}
use Rattle.dv_value.specs.declared.value.Value.{Value}
use Rattle.dv_value.specs.Inner.TreeLaws.{fields_again, elements_again}
use Rattle.dv_value.specs.Inner.ListLaws.{positive}
use Rattle.dv_path.specs.Apart.{AreApart, IsApartFrom, AreAllApart, remove_each}
use Rattle.dv_path.specs.Inner.Apart.{fields_alone, leading_further}
use Rattle.dv_candidates.specs.Candidates.{Candidate}
use Rattle.std.proofs.lemmas.List.{drop_more}
use Rattle.dv_path.specs.Inner.GroupView.{group}
use Rattle.dv_path.specs.declared.grouping.Group as memory
use Rattle.dv_path.specs.Inner.Groups.{Group, begun, ungrouped, AreFilled, AreSome, AreLong, HasGroup, IsGrouping, with_component, begins_with_none, left_of_each, remove_each_element, with_groups, elements_with_groups}
use Rattle.dv_candidates.specs.Path.{index_of}
use Rattle.dv_path.specs.Placing.{with_field}
use Rattle.dv_path.specs.Removing.{changed_at, remove_field, remove_element, left_behind, remove}
use Rattle.dv_path.specs.Inner.Fielded.{field-missing, field-again}
use Rattle.dv_path.proofs.Parting.{left_of, field-left, field-twice, stays}
use Rattle.dv_path.proofs.Together.{fields-first}

-- ---- one field, again and again

same-by : (name : List ℕ) (fs : List Field) (c : Candidate) → value_under name fs ≡ c → with_field name (option_and_then (λ v. Some v) c) fs ≡ fs
same-by name fs None at = field-missing name fs at
same-by name fs (Some v) at = field-again name v fs at

same-field : (name : List ℕ) (fs : List Field) → remove_field (λ v. Some v) name fs ≡ fs
same-field name fs = same-by name fs (value_under name fs) refl

module _ (left : Tree → Candidate) (kept change : Tree → Tree) (total : (v : Tree) → left v ≡ Some (kept v)) (name : List ℕ) (fs : List Field) where
  then-by : (c : Candidate) → value_under name fs ≡ c → with_field name (option_and_then (λ v. Some (change v)) (option_and_then left c)) (with_field name (option_and_then left c) fs) ≡ with_field name (option_and_then (λ v. Some (change (kept v))) c) fs
  then-by None at = ap (with_field name None) (field-missing name fs at)
  then-by (Some v) at = ap (λ d. with_field name (option_and_then (λ v. Some (change v)) d) (with_field name d fs)) (total v) ∙ field-twice name (kept v) (change (kept v)) fs

  field-then : remove_field (λ v. Some (change v)) name (remove_field left name fs) ≡ remove_field (λ v. Some (change (kept v))) name fs
  field-then =
      ap (λ c. with_field name (option_and_then (λ v. Some (change v)) c) (remove_field left name fs)) (field-left left kept total name fs)
      ∙ then-by (value_under name fs) refl

nowhere : (fs : List Field) → remove fs [] ≡ fs
unfolding remove
nowhere fs = refl

-- ---- one group in a document

pub group-of-fields : (name : List ℕ) (rests : List (List (List ℕ))) (fs : List Field) → AreSome rests → remove_each fs (begun name rests) ≡ remove_field (λ v. Some (left_of_each rests v)) name fs
unfolding remove
group-of-fields name [] fs some = sym (same-field name fs)
group-of-fields name ([] ∷ rests) fs some = absurd some
group-of-fields name ((a ∷ rest) ∷ rests) fs some =
    group-of-fields name rests (remove_field (left_behind (a ∷ rest)) name fs) some
    ∙ field-then (left_behind (a ∷ rest)) (left_of (a ∷ rest)) (left_of_each rests) (stays a rest) name fs

each-joined : (ps qs : List (List (List ℕ))) (fs : List Field) → remove_each fs (ps ++ qs) ≡ remove_each (remove_each fs ps) qs
each-joined [] qs fs = refl
each-joined (p ∷ ps) qs fs = each-joined ps qs (remove fs p)

long-parts : (name : List ℕ) (rests qs : List (List (List ℕ))) → AreLong (begun name rests ++ qs) → AreSome rests × AreLong qs
long-parts name [] qs long = (tt, long)
long-parts name ([] ∷ rests) qs long = absurd long
long-parts name ((a ∷ rest) ∷ rests) qs long = long-parts name rests qs long

pub groups-of-fields : (gs : List Group) (fs : List Field) → AreLong (ungrouped gs) → with_groups fs gs ≡ remove_each fs (ungrouped gs)
groups-of-fields [] fs long = refl
groups-of-fields (g ∷ gs) fs long =
    let parts = long-parts g.0 g.1 (ungrouped gs) long in
    groups-of-fields gs (remove_field (λ v. Some (left_of_each g.1 v)) g.0 fs) parts.1
    ∙ ap (λ hs. remove_each hs (ungrouped gs)) (sym (group-of-fields g.0 g.1 fs parts.0))
    ∙ sym (each-joined (begun g.0 g.1) (ungrouped gs) fs)

pub further-long : (ps : List (List (List ℕ))) → AreLong (leading_further ps)
further-long [] = tt
further-long ([] ∷ ps) = further-long ps
further-long ((a ∷ []) ∷ ps) = further-long ps
further-long ((a ∷ b ∷ p) ∷ ps) = further-long ps

-- ---- one group in an array

changed-none : (place : ℕ) (vs : List Tree) → changed_at place (λ v. v) vs ≡ vs
changed-none place [] = refl
changed-none zero (v ∷ vs) = refl
changed-none (suc place) (v ∷ vs) = ap (λ ws. v ∷ ws) (changed-none place vs)

changed-then : (place : ℕ) (f g : Tree → Tree) (vs : List Tree) → changed_at place g (changed_at place f vs) ≡ changed_at place (λ v. g (f v)) vs
changed-then place f g [] = refl
changed-then zero f g (v ∷ vs) = refl
changed-then (suc place) f g (v ∷ vs) = ap (λ ws. v ∷ ws) (changed-then place f g vs)

element-same : (o : Option ℕ) (vs : List Tree) → remove_element (λ v. Some v) o vs ≡ vs
element-same None vs = refl
element-same (Some place) vs = changed-none place vs

element-then : (left : Tree → Candidate) (change : Tree → Tree) (o : Option ℕ) (vs : List Tree) → remove_element (λ v. Some (change v)) o (remove_element left o vs) ≡ remove_element (λ v. Some (change (unwrap_or (left v) null))) o vs
element-then left change None vs = refl
element-then left change (Some place) vs = changed-then place (λ v. unwrap_or (left v) null) change vs

group-of-elements : (name : List ℕ) (rests : List (List (List ℕ))) (vs : List Tree) → remove_each_element vs (begun name rests) ≡ remove_element (λ v. Some (left_of_each rests v)) (index_of name) vs
group-of-elements name [] vs = sym (element-same (index_of name) vs)
group-of-elements name (rest ∷ rests) vs = group-of-elements name rests (remove_element (left_behind rest) (index_of name) vs) ∙ element-then (left_behind rest) (left_of_each rests) (index_of name) vs

each-element-joined : (ps qs : List (List (List ℕ))) (vs : List Tree) → remove_each_element vs (ps ++ qs) ≡ remove_each_element (remove_each_element vs ps) qs
each-element-joined [] qs vs = refl
each-element-joined ([] ∷ ps) qs vs = each-element-joined ps qs vs
each-element-joined ((a ∷ p) ∷ ps) qs vs = each-element-joined ps qs (remove_element (left_behind p) (index_of a) vs)

pub groups-of-elements : (gs : List Group) (vs : List Tree) → elements_with_groups vs gs ≡ remove_each_element vs (ungrouped gs)
groups-of-elements [] vs = refl
groups-of-elements (g ∷ gs) vs =
    groups-of-elements gs (remove_element (λ v. Some (left_of_each g.1 v)) (index_of g.0) vs)
    ∙ ap (λ ws. remove_each_element ws (ungrouped gs)) (sym (group-of-elements g.0 g.1 vs))
    ∙ sym (each-element-joined (begun g.0 g.1) (ungrouped gs) vs)

-- ---- inside a value

pub inside-document : (ps : List (List (List ℕ))) (fs : List Field) → AreSome ps → left_of_each ps (document (fields_of fs)) ≡ document (fields_of (remove_each fs ps))
unfolding remove
inside-document [] fs some = refl
inside-document ([] ∷ ps) fs some = absurd some
inside-document ((a ∷ p) ∷ ps) fs some =
    ap (λ gs. left_of_each ps (document (fields_of (remove_field (left_behind p) a gs)))) (fields_again fs)
    ∙ inside-document ps (remove_field (left_behind p) a fs) some

pub inside-array : (ps : List (List (List ℕ))) (vs : List Tree) → AreSome ps → left_of_each ps (array (elements_of vs)) ≡ array (elements_of (remove_each_element vs ps))
inside-array [] vs some = refl
inside-array ([] ∷ ps) vs some = absurd some
inside-array ((a ∷ p) ∷ ps) vs some =
    ap (λ ws. left_of_each ps (array (elements_of (remove_element (left_behind p) (index_of a) ws)))) (elements_again vs)
    ∙ inside-array ps (remove_element (left_behind p) (index_of a) vs) some

-- ---- groups that part, and how much is in them

apart-behind : (a : List ℕ) (p q : List (List ℕ)) → AreApart (a ∷ p) (a ∷ q) → AreApart p q
apart-behind a p q (inl ne) = absurd (ne refl)
apart-behind a p q (inr h) = h.1

from-rests : (a : List ℕ) (p : List (List ℕ)) (rests qs : List (List (List ℕ))) → IsApartFrom (a ∷ p) (begun a rests ++ qs) → IsApartFrom p rests
from-rests a p [] qs h = tt
from-rests a p (r ∷ rests) qs h = (apart-behind a p r h.0, from-rests a p rests qs h.1)

rests-apart : (a : List ℕ) (rests qs : List (List (List ℕ))) → AreAllApart (begun a rests ++ qs) → AreAllApart rests × AreAllApart qs
rests-apart a [] qs h = (tt, h)
rests-apart a (r ∷ rests) qs h =
    let rest = rests-apart a rests qs h.1 in
    ((from-rests a r rests qs h.0, rest.0), rest.1)

further-from : (p : List (List ℕ)) (ps : List (List (List ℕ))) → IsApartFrom p ps → IsApartFrom p (leading_further ps)
further-from p [] h = tt
further-from p ([] ∷ ps) h = further-from p ps h.1
further-from p ((a ∷ []) ∷ ps) h = further-from p ps h.1
further-from p ((a ∷ b ∷ q) ∷ ps) h = (h.0, further-from p ps h.1)

pub further-apart : (ps : List (List (List ℕ))) → AreAllApart ps → AreAllApart (leading_further ps)
further-apart [] h = tt
further-apart ([] ∷ ps) h = further-apart ps h.1
further-apart ((a ∷ []) ∷ ps) h = further-apart ps h.1
further-apart ((a ∷ b ∷ p) ∷ ps) h = (further-from (a ∷ b ∷ p) ps h.0, further-apart ps h.1)

-- how many components there are
abbrev pub total : List (List (List ℕ)) → ℕ
total [] = 0
total (p ∷ ps) = length p + total ps

pub further-total : (ps : List (List (List ℕ))) → total (leading_further ps) ≤ total ps
further-total [] = omega arith
further-total ([] ∷ ps) = omega (arith, further-total ps)
further-total ((a ∷ []) ∷ ps) = omega (arith, further-total ps)
further-total ((a ∷ b ∷ p) ∷ ps) = omega (arith, further-total ps)

total-parts : (a : List ℕ) (rests qs : List (List (List ℕ))) → total (begun a rests ++ qs) ≡ total rests + length rests + total qs
total-parts a [] qs = omega arith
total-parts a (r ∷ rests) qs = omega (arith, total-parts a rests qs)

-- the groups that a loop has still to visit, whose paths have at most `bound` components
pub record AreOpen (bound : ℕ) (groups : List Group) : Type 0 where
  pub apart : AreAllApart (ungrouped groups)
  pub filled : AreFilled groups
  pub within : total (ungrouped groups) ≤ bound

module _ {bound : ℕ} (g : Group) (gs rest : List Group) (is : gs ≡ g ∷ rest) (so-far : AreOpen bound gs) where
  here : AreOpen bound (g ∷ rest)
  here = let P : List Group → Type 0 = λ l. AreOpen bound l in subst P is so-far

  pub open-apart : AreAllApart g.1
  open-apart = (rests-apart g.0 g.1 (ungrouped rest) here.apart).0

  pub open-less : total g.1 < bound
  open-less =
      let some = positive g.1 here.filled.0 in
      let parts = total-parts g.0 g.1 (ungrouped rest) in
      let most = here.within in
      omega arith

  pub open-on : AreOpen bound rest
  open-on = record {
    apart = (rests-apart g.0 g.1 (ungrouped rest) here.apart).1;
    filled = here.filled.1;
    within = (let parts = total-parts g.0 g.1 (ungrouped rest) in let most = here.within in omega arith);
  }

-- ---- one path more

ungrouped-joined : (gs hs : List Group) → ungrouped (gs ++ hs) ≡ ungrouped gs ++ ungrouped hs
ungrouped-joined [] hs = refl
ungrouped-joined (g ∷ gs) hs = ap (λ l. begun g.0 g.1 ++ l) (ungrouped-joined gs hs) ∙ sym (append_assoc (begun g.0 g.1) (ungrouped gs) (ungrouped hs))

begun-more : (a : List ℕ) (rests : List (List (List ℕ))) (rest : List (List ℕ)) → begun a (rests ++ rest ∷ []) ≡ begun a rests ++ (a ∷ rest) ∷ []
begun-more a [] rest = refl
begun-more a (r ∷ rests) rest = ap (λ l. (a ∷ r) ∷ l) (begun-more a rests rest)

filled-joined : (gs : List Group) (g : Group) → AreFilled gs → (g.1 ≡ [] → ⊥) → AreFilled (gs ++ g ∷ [])
filled-joined [] g filled some = (some, tt)
filled-joined (h ∷ gs) g filled some = (filled.0, filled-joined gs g filled.1 some)

filled-front : (gs : List Group) (g : Group) → AreFilled (gs ++ g ∷ []) → AreFilled gs
filled-front [] g filled = tt
filled-front (h ∷ gs) g filled = (filled.0, filled-front gs g filled.1)

-- the group that was the last one, with one path more
pub has-last : (groups before : List Group) (name : List ℕ) (g : Group) → groups ≡ before ++ g ∷ [] → g.0 ≡ name → HasGroup groups before name g
has-last groups before name g is named = record {
  named = named;
  whole = ap (λ n. ungrouped before ++ begun n g.1) (sym named) ∙ ap (λ l. ungrouped before ++ l) (sym (append-nil (begun g.0 g.1))) ∙ sym (ungrouped-joined before (g ∷ [])) ∙ ap ungrouped (sym is);
  filled = λ filled. filled-front before g (let P : List Group → Type 0 = AreFilled in subst P is filled);
}

not-empty : (rests : List (List (List ℕ))) (rest : List (List ℕ)) → rests ++ rest ∷ [] ≡ [] → ⊥
not-empty [] rest e = cc
not-empty (r ∷ rests) rest e = cc

module _ (groups before new : List Group) (name : List ℕ) (g h : Group) (rest : List (List ℕ)) (has : HasGroup groups before name g) (named : h.0 ≡ g.0) (more : h.1 ≡ g.1 ++ rest ∷ []) (is : new ≡ before ++ h ∷ []) where
  pub added-whole : ungrouped new ≡ ungrouped groups ++ (name ∷ rest) ∷ []
  added-whole =
      ap ungrouped is
      ∙ ungrouped-joined before (h ∷ [])
      ∙ ap (λ l. ungrouped before ++ l) (append-nil (begun h.0 h.1) ∙ ap (λ n. begun n h.1) (named ∙ has.named) ∙ ap (begun name) more ∙ begun-more name g.1 rest)
      ∙ sym (append_assoc (ungrouped before) (begun name g.1) ((name ∷ rest) ∷ []))
      ∙ ap (λ l. l ++ (name ∷ rest) ∷ []) has.whole

  pub added-filled : AreFilled groups → AreFilled new
  added-filled filled =
      let P : List Group → Type 0 = AreFilled in
      subst P (sym is) (filled-joined before h (has.filled filled) (λ none. not-empty g.1 rest (sym more ∙ none)))

-- ---- paths that have a component

pub with-some : (ps : List (List (List ℕ))) → AreSome ps → with_component ps ≡ ps
with-some [] some = refl
with-some ([] ∷ ps) some = absurd some
with-some ((a ∷ p) ∷ ps) some = ap (λ l. (a ∷ p) ∷ l) (with-some ps some)

pub long-some : (ps : List (List (List ℕ))) → AreLong ps → AreSome ps
long-some [] long = tt
long-some ([] ∷ ps) long = absurd long
long-some ((a ∷ []) ∷ ps) long = absurd long
long-some ((a ∷ b ∷ p) ∷ ps) long = long-some ps long

some-from : (a : List ℕ) (p : List (List ℕ)) (ps : List (List (List ℕ))) → IsApartFrom (a ∷ p) ps → AreSome ps
some-from a p [] h = tt
some-from a p ([] ∷ ps) h = absurd h.0
some-from a p ((b ∷ q) ∷ ps) h = some-from a p ps h.1

-- of paths that part, only a single one leads no further
pub apart-some : (ps : List (List (List ℕ))) → AreAllApart ps → begins_with_none ps ≡ false → AreSome ps
apart-some [] h none = tt
apart-some ([] ∷ ps) h none = cc
apart-some ((a ∷ p) ∷ ps) h none = some-from a p ps h.0

pub apart-gone : (ps : List (List (List ℕ))) (v : Tree) → AreAllApart ps → begins_with_none ps ≡ true → left_of_each ps v ≡ null
apart-gone [] v h gone = cc
apart-gone ([] ∷ []) v h gone = refl
apart-gone ([] ∷ q ∷ ps) v h gone = absurd h.0.0
apart-gone ((a ∷ p) ∷ ps) v h gone = cc

left-plain : (a : List ℕ) (p : List (List ℕ)) (v : Value) → ((d : _) → v ≡ Value.Doc d → ⊥) → ((l : _) → v ≡ Value.Array l → ⊥) → unwrap_or (left_behind (a ∷ p) (tree v)) null ≡ tree v
left-plain a p (Value.Doc d) nd na = absurd (nd d refl)
left-plain a p (Value.Array l) nd na = absurd (na l refl)
left-plain a p v nd na = refl

pub inside-other : (ps : List (List (List ℕ))) (v : Value) → AreSome ps → ((d : _) → v ≡ Value.Doc d → ⊥) → ((l : _) → v ≡ Value.Array l → ⊥) → left_of_each ps (tree v) ≡ tree v
inside-other [] v some nd na = refl
inside-other ([] ∷ ps) v some nd na = absurd some
inside-other ((a ∷ p) ∷ ps) v some nd na = ap (left_of_each ps) (left-plain a p v nd na) ∙ inside-other ps v some nd na

-- ---- the groups of a document's paths, and of an array's

module _ (ps further : List (List (List ℕ))) (gs : List Group) (is : further ≡ leading_further ps) (grouping : IsGrouping gs further) (apart : AreAllApart ps) where
  of-longer : ungrouped gs ≡ leading_further ps
  of-longer = grouping.whole ∙ ap with_component is ∙ with-some (leading_further ps) (long-some (leading_further ps) (further-long ps))

  pub open-in-document : AreOpen (total ps) gs
  open-in-document = record {
    apart = rw of-longer (further-apart ps apart);
    filled = grouping.filled;
    within = rw of-longer (further-total ps);
  }

  pub done-in-document : (start fs : List Field) → start ≡ without_each (fields_alone ps) fs → with_groups start gs ≡ remove_each fs ps
  done-in-document start fs from =
      groups-of-fields gs start (rw of-longer (further-long ps))
      ∙ ap (remove_each start) of-longer
      ∙ ap (λ hs. remove_each hs (leading_further ps)) from
      ∙ fields-first ps fs apart

from-with : (p : List (List ℕ)) (ps : List (List (List ℕ))) → IsApartFrom p ps → IsApartFrom p (with_component ps)
from-with p [] h = tt
from-with p ([] ∷ ps) h = from-with p ps h.1
from-with p ((a ∷ q) ∷ ps) h = (h.0, from-with p ps h.1)

with-apart : (ps : List (List (List ℕ))) → AreAllApart ps → AreAllApart (with_component ps)
with-apart [] h = tt
with-apart ([] ∷ ps) h = with-apart ps h.1
with-apart ((a ∷ p) ∷ ps) h = (from-with (a ∷ p) ps h.0, with-apart ps h.1)

with-total : (ps : List (List (List ℕ))) → total (with_component ps) ≤ total ps
with-total [] = omega arith
with-total ([] ∷ ps) = omega (arith, with-total ps)
with-total ((a ∷ p) ∷ ps) = omega (arith, with-total ps)

with-elements : (ps : List (List (List ℕ))) (vs : List Tree) → remove_each_element vs (with_component ps) ≡ remove_each_element vs ps
with-elements [] vs = refl
with-elements ([] ∷ ps) vs = with-elements ps vs
with-elements ((a ∷ p) ∷ ps) vs = with-elements ps (remove_element (left_behind p) (index_of a) vs)

module _ (ps : List (List (List ℕ))) (gs : List Group) (grouping : IsGrouping gs ps) (apart : AreAllApart ps) where
  pub open-in-array : AreOpen (total ps) gs
  open-in-array = record {
    apart = rw grouping.whole (with-apart ps apart);
    filled = grouping.filled;
    within = rw grouping.whole (with-total ps);
  }

  pub done-in-array : (vs : List Tree) → elements_with_groups vs gs ≡ remove_each_element vs ps
  done-in-array vs = groups-of-elements gs vs ∙ ap (remove_each_element vs) grouping.whole ∙ with-elements ps vs

pub group-drop : (groups : List memory.Group) (i : ℕ) (g : memory.Group) → i < length groups → g ≡ get_or groups i g → map group (drop i groups) ≡ group g ∷ map group (drop (i + 1) groups)
group-drop groups i g within is = ap (map group) (drop_more groups i g within ∙ ap (λ (h : memory.Group). h ∷ drop (i + 1) groups) (sym is))
