-- What is put, and what is taken away, component by component.
use Rattle.std.proofs.Common.{◌≡◌, ◌∙◌, ℕ, zero, suc, ◌<◌, Bool, true, false, ◌||◌, nat_lt, nat_le, List, [], ◌∷◌, ◌++◌, length, get_or, drop, Option, Some, None, slice_get, Result, Ok, Err, refl, ap, sym, subst, arith, append-nil, option_and_then, if◌then◌else◌}
use Rattle.std.specs.Option.{unwrap_or}
use Rattle.dv_value.specs.Tree.{Tree, document, array, null, Field, fields_of, list_of_fields, elements_of, list_of_elements}
use Rattle.dv_value.specs.Names.{value_under}
use Rattle.dv_value.specs.Inner.TreeLaws.{fields_again, elements_again, fields_back, elements_back}
use Rattle.dv_candidates.specs.declared.fault.PathFault.{PathFault}
use Rattle.dv_candidates.specs.declared.fault.PathFault.TheVariants.{NotViable, IndexTooLarge}
use Rattle.std.proofs.lemmas.Bool.{lt-ltb}
use Rattle.dv_candidates.specs.Candidates.{Candidate, candidates, whole}
use Rattle.dv_path.specs.Expression.{expression, expr}
use Rattle.dv_candidates.specs.Ways.{HasNoArray}
use Rattle.dv_candidates.specs.Path.{index_of}
use Rattle.dv_path.specs.Slots.{Slot, taken, free, blocked, slot_of, element_slot, next_slot, slot_behind, slot}
use Rattle.dv_path.specs.Placing.{field_with, put, put_behind, put_element, put_field, result_map, with_element, with_field}
use Rattle.dv_path.specs.Removing.{changed_at, remove_field, remove_element, left_behind, remove}
use Rattle.std.specs.Str.{bytes_eq}
use Rattle.dv_path.specs.Inner.Fielded.{differ, field-other, field-at, field-missing, field-again, element-at, changed-missing, changed-same}
use Rattle.dv_path.specs.Inner.ResultLaws.{made-by}

-- the field that is put has the value that is put further inside
field-put : (inner : Candidate → Result Tree PathFault) (name : List ℕ) (fs after : List Field) → put_field inner name fs ≡ Ok after → (u : Tree) × (inner (value_under name fs) ≡ Ok u) × (with_field name (Some u) fs ≡ after)
field-put inner name fs after e = made-by (λ v. with_field name (Some v) fs) (inner (value_under name fs)) after e

element-case : (within : Bool) (inner : Candidate → Result Tree PathFault) (place : ℕ) (vs after : List Tree) → (if within then result_map (λ v. with_element place v vs) (inner (slice_get vs place)) else Err IndexTooLarge) ≡ Ok after → (u : Tree) × (inner (slice_get vs place) ≡ Ok u) × (with_element place u vs ≡ after)
element-case true inner place vs after e = made-by (λ v. with_element place v vs) (inner (slice_get vs place)) after e
element-case false inner place vs after e = absurd cc

element-slotted : (inner : Candidate → Result Tree PathFault) (index : Option ℕ) (vs after : List Tree) → put_element inner index vs ≡ Ok after → (c : Candidate) × (u : Tree) × (inner c ≡ Ok u) × (element_slot index after ≡ taken u)
element-slotted inner None vs after e = absurd cc
element-slotted inner (Some place) vs after e =
    let put = element-case (nat_lt place (length vs) || nat_le place 100000) inner place vs after e in
    (slice_get vs place, put.0, put.1, ap (λ ws. slot_of (slice_get ws place)) (sym put.2) ∙ ap slot_of (element-at place put.0 vs))

field-slotted : (inner : Candidate → Result Tree PathFault) (name : List ℕ) (fs after : List Field) → put_field inner name fs ≡ Ok after → (c : Candidate) × (u : Tree) × (inner c ≡ Ok u) × (slot_of (value_under name after) ≡ taken u)
field-slotted inner name fs after e =
    let put = field-put inner name fs after e in
    (value_under name fs, put.0, put.1, ap (λ gs. slot_of (value_under name gs)) (sym put.2) ∙ ap slot_of (field-at name put.0 fs))

fields-slotted : (inner : Candidate → Result Tree PathFault) (name : List ℕ) (fs : List Field) (t : Tree) → result_map (λ gs. document (fields_of gs)) (put_field inner name fs) ≡ Ok t → (c : Candidate) × (u : Tree) × (inner c ≡ Ok u) × (next_slot name (taken t) ≡ taken u)
fields-slotted inner name fs t e =
    let made = made-by (λ gs. document (fields_of gs)) (put_field inner name fs) t e in
    let put = field-slotted inner name fs made.0 made.1 in
    (put.0, put.1, put.2, ap (λ d. next_slot name (taken d)) (sym made.2) ∙ ap (λ gs. slot_of (value_under name gs)) (fields_again made.0) ∙ put.3)

-- one component further in the value that was put is the value that was put there
step-slotted : (names : List (List ℕ)) (name : List ℕ) (v : Tree) (c : Candidate) (t : Tree) → put_behind (name ∷ names) v c ≡ Ok t → (d : Candidate) × (u : Tree) × (put_behind names v d ≡ Ok u) × (next_slot name (taken t) ≡ taken u)
step-slotted names name v None t e = fields-slotted (put_behind names v) name [] t e
step-slotted names name v (Some (document fs)) t e = fields-slotted (put_behind names v) name (list_of_fields fs) t e
step-slotted names name v (Some (array vs)) t e =
    let made = made-by (λ ws. array (elements_of ws)) (put_element (put_behind names v) (index_of name) (list_of_elements vs)) t e in
    let put = element-slotted (put_behind names v) (index_of name) (list_of_elements vs) made.0 made.1 in
    (put.0, put.1, put.2, ap (λ d. next_slot name (taken d)) (sym made.2) ∙ ap (element_slot (index_of name)) (elements_again made.0) ∙ put.3)
step-slotted names name v (Some w) t e = absurd cc

behind-slotted : (names : List (List ℕ)) (v : Tree) (c : Candidate) (t : Tree) → put_behind names v c ≡ Ok t → slot_behind names (taken t) ≡ taken v
behind-slotted [] v c t e = let same : v ≡ t = cc in ap taken (sym same)
behind-slotted (name ∷ names) v c t e =
    let step = step-slotted names name v c t e in
    ap (slot_behind names) step.3 ∙ behind-slotted names v step.0 step.1 step.2

-- the path leads to the value that was put
pub slot_put : (fields : List Field) (name : List ℕ) (names : List (List ℕ)) (v : Tree) (after : List Field) → put fields (name ∷ names) v ≡ Ok after → slot after (name ∷ names) ≡ taken v
unfolding put slot
slot_put fields name names v after e =
    let put = field-slotted (put_behind names v) name fields after e in
    ap (λ gs. slot_behind names (slot_of (value_under name gs))) (fields_again after) ∙ ap (slot_behind names) put.3 ∙ behind-slotted names v put.0 put.1 put.2

missing-plain : (names : List (List ℕ)) → HasNoArray names None
missing-plain [] = tt
missing-plain (name ∷ names) = tt

missing-stays : (names : List (List ℕ)) → candidates names None ≡ None ∷ []
missing-stays [] = refl
missing-stays (name ∷ names) = append-nil (candidates names None) ∙ missing-stays names

fields-found : (names : List (List ℕ)) (name : List ℕ) (v : Tree) (fs : List Field) (t : Tree) → result_map (λ gs. document (fields_of gs)) (put_field (put_behind names v) name fs) ≡ Ok t → ((u : Tree) → put_behind names v (value_under name fs) ≡ Ok u → candidates names (Some u) ≡ Some v ∷ []) → candidates (name ∷ names) (Some t) ≡ Some v ∷ []
fields-found names name v fs t e further =
    let made = made-by (λ gs. document (fields_of gs)) (put_field (put_behind names v) name fs) t e in
    let put = field-put (put_behind names v) name fs made.0 made.1 in
    let there : value_under name made.0 ≡ Some put.0 = ap (value_under name) (sym put.2) ∙ field-at name put.0 fs in
    ap (λ d. candidates (name ∷ names) (Some d)) (sym made.2) ∙ ap (λ gs. candidates names (value_under name gs) ++ []) (fields_again made.0) ∙ append-nil (candidates names (value_under name made.0)) ∙ ap (candidates names) there ∙ further put.0 put.1

behind-found : (names : List (List ℕ)) (v : Tree) (c : Candidate) (t : Tree) → HasNoArray names c → put_behind names v c ≡ Ok t → candidates names (Some t) ≡ Some v ∷ []
behind-found [] v c t plain e = let same : v ≡ t = cc in ap (λ w. Some w ∷ []) (sym same)
behind-found (name ∷ names) v None t plain e = fields-found names name v [] t e (λ u put. behind-found names v None u (missing-plain names) put)
behind-found (name ∷ names) v (Some (document fs)) t plain e = fields-found names name v (list_of_fields fs) t e (λ u put. behind-found names v (value_under name (list_of_fields fs)) u plain put)
behind-found (name ∷ names) v (Some (array vs)) t plain e = absurd plain
behind-found (name ∷ names) v (Some w) t plain e = absurd cc

-- and it alone is what filters find there, where the way holds no array
pub whole_put : (fields : List Field) (name : List ℕ) (names : List (List ℕ)) (v : Tree) (after : List Field) → HasNoArray (name ∷ names) (Some (document (fields_of fields))) → put fields (name ∷ names) v ≡ Ok after → whole after (name ∷ names) ≡ Some v ∷ []
unfolding put whole
whole_put fields name names v after plain e =
    let at : result_map (λ gs. document (fields_of gs)) (put_field (put_behind names v) name fields) ≡ Ok (document (fields_of after)) = ap (result_map (λ gs. document (fields_of gs))) e in
    let entered : HasNoArray names (value_under name fields) = let P : List Field → Type 0 = λ gs. HasNoArray names (value_under name gs) in subst P (fields_again fields) plain in
    fields-found names name v fields (document (fields_of after)) at (λ u put. behind-found names v (value_under name fields) u entered put)

along : (names : List (List ℕ)) (c : Candidate) → HasNoArray names c → candidates names c ≡ option_and_then (expression names) c ∷ []
along [] None plain = refl
along [] (Some v) plain = refl
along (name ∷ names) None plain = missing-stays (name ∷ names)
along (name ∷ names) (Some (document fs)) plain = append-nil (candidates names (value_under name (list_of_fields fs))) ∙ along names (value_under name (list_of_fields fs)) plain
along (name ∷ names) (Some (array vs)) plain = absurd plain
along (name ∷ names) (Some v) plain = append-nil (candidates names None) ∙ missing-stays names

-- what an expression gives is what filters find, where the way holds no array
pub whole_expr : (fields : List Field) (path : List (List ℕ)) → HasNoArray path (Some (document (fields_of fields))) → whole fields path ≡ expr fields path ∷ []
unfolding whole expr
whole_expr fields path plain = along path (Some (document (fields_of fields))) plain

free-stays : (names : List (List ℕ)) → slot_behind names free ≡ free
free-stays [] = refl
free-stays (name ∷ names) = free-stays names

blocked-stays : (names : List (List ℕ)) → slot_behind names blocked ≡ blocked
blocked-stays [] = refl
blocked-stays (name ∷ names) = blocked-stays names

not_taken : (s : Slot) → s ≡ free → (w : Tree) → s ≡ taken w → ⊥
not_taken s is w e = cc

missing-put : (names : List (List ℕ)) (v : Tree) → (t : Tree) × (put_behind names v None ≡ Ok t)
missing-put [] v = (v, refl)
missing-put (name ∷ names) v =
    let further = missing-put names v in
    (document (fields_of ((name, further.0) ∷ [])), ap (λ r. result_map (λ fs. document (fields_of fs)) (result_map (λ u. (name, u) ∷ []) r)) further.1)

pub there-within : (vs : List Tree) (place : ℕ) (w : Tree) → slice_get vs place ≡ Some w → place < length vs
there-within [] place w e = absurd cc
there-within (v ∷ vs) zero w e = omega arith
there-within (v ∷ vs) (suc place) w e = omega (arith, there-within vs place w e)

pub within-put : (inner : Candidate → Result Tree PathFault) (place : ℕ) (vs : List Tree) → place < length vs → put_element inner (Some place) vs ≡ result_map (λ v. with_element place v vs) (inner (slice_get vs place))
within-put inner place vs within = ap (λ b. if b || nat_le place 100000 then result_map (λ v. with_element place v vs) (inner (slice_get vs place)) else Err IndexTooLarge) (lt-ltb place (length vs) within)

-- where a value is, another can be put
pub element-taken : (inner : Candidate → Result Tree PathFault) (place : ℕ) (vs : List Tree) (c : Candidate) (w : Tree) → slice_get vs place ≡ c → c ≡ Some w → (r : Result Tree PathFault) → inner (Some w) ≡ r → put_element inner (Some place) vs ≡ result_map (λ v. with_element place v vs) r
element-taken inner place vs c w at is r e = within-put inner place vs (there-within vs place w (at ∙ is)) ∙ ap (λ d. result_map (λ v. with_element place v vs) (inner d)) (at ∙ is) ∙ ap (result_map (λ v. with_element place v vs)) e

kept-field : (left : Tree → Candidate) (name : List ℕ) (fs : List Field) (c : Candidate) → value_under name fs ≡ c → ((w : Tree) → c ≡ Some w → left w ≡ Some w) → remove_field left name fs ≡ fs
kept-field left name fs None at keeps = ap (λ c. with_field name (option_and_then left c) fs) at ∙ field-missing name fs at
kept-field left name fs (Some w) at keeps = ap (λ c. with_field name (option_and_then left c) fs) at ∙ ap (λ c. with_field name c fs) (keeps w refl) ∙ field-again name w fs at

kept-at : (left : Tree → Candidate) (place : ℕ) (vs : List Tree) (c : Candidate) → slice_get vs place ≡ c → ((w : Tree) → c ≡ Some w → left w ≡ Some w) → changed_at place (λ v. unwrap_or (left v) null) vs ≡ vs
kept-at left place vs None at keeps = changed-missing place (λ v. unwrap_or (left v) null) vs at
kept-at left place vs (Some w) at keeps = changed-same place (λ v. unwrap_or (left v) null) vs w at (ap (λ c. unwrap_or c null) (keeps w refl))

kept-element : (left : Tree → Candidate) (index : Option ℕ) (vs : List Tree) → ((w : Tree) → element_slot index vs ≡ taken w → left w ≡ Some w) → remove_element left index vs ≡ vs
kept-element left None vs keeps = refl
kept-element left (Some place) vs keeps = kept-at left place vs (slice_get vs place) refl (λ w at. keeps w (ap slot_of at))

kept-behind : (names : List (List ℕ)) (t : Tree) → ((w : Tree) → slot_behind names (taken t) ≡ taken w → ⊥) → left_behind names t ≡ Some t
kept-behind [] t none = absurd (none t refl)
kept-behind (name ∷ names) (document fs) none = ap (λ gs. Some (document (fields_of gs))) (kept-field (left_behind names) name (list_of_fields fs) (value_under name (list_of_fields fs)) refl (λ w at. kept-behind names w (λ u there. none u (ap (λ c. slot_behind names (slot_of c)) at ∙ there)))) ∙ ap (λ gs. Some (document gs)) (fields_back fs)
kept-behind (name ∷ names) (array vs) none = ap (λ ws. Some (array (elements_of ws))) (kept-element (left_behind names) (index_of name) (list_of_elements vs) (λ w at. kept-behind names w (λ u there. none u (ap (slot_behind names) at ∙ there)))) ∙ ap (λ ws. Some (array ws)) (elements_back vs)
kept-behind (name ∷ names) t none = refl

-- nothing is removed if the path leads to no value
pub remove_nothing : (fields : List Field) (path : List (List ℕ)) → ((w : Tree) → slot fields path ≡ taken w → ⊥) → remove fields path ≡ fields
unfolding remove slot
remove_nothing fields [] none = refl
remove_nothing fields (name ∷ names) none = kept-field (left_behind names) name fields (value_under name fields) refl (λ w at. kept-behind names w (λ u there. none u (ap (λ gs. slot_behind names (slot_of (value_under name gs))) (fields_again fields) ∙ ap (λ c. slot_behind names (slot_of c)) at ∙ there)))

pub put-first : (names : List (List ℕ)) (fs : List Field) (name : List ℕ) (v : Tree) → 0 < length names → name ≡ get_or names 0 name → put_field (put_behind (drop 1 names) v) name fs ≡ put fs names v
unfolding put
put-first [] fs name v some is = absurd (omega arith)
put-first (n ∷ names) fs name v some is = ap (λ m. put_field (put_behind names v) m fs) is

pub remove-first : (names : List (List ℕ)) (fs : List Field) (name : List ℕ) → 0 < length names → name ≡ get_or names 0 name → remove_field (left_behind (drop 1 names)) name fs ≡ remove fs names
unfolding remove
remove-first [] fs name some is = absurd (omega arith)
remove-first (n ∷ names) fs name some is = ap (λ m. remove_field (left_behind names) m fs) is

none-free : (names : List (List ℕ)) (s : Slot) → slot_behind names free ≡ s → (free ≡ s → ⊥) → ⊥
none-free names s at ne = ne (sym (free-stays names) ∙ at)

at-blocked : (names : List (List ℕ)) (v : Tree) (place : ℕ) (vs : List Tree) (c : Candidate) → slice_get vs place ≡ c → slot_behind names (slot_of c) ≡ blocked → put_behind names v c ≡ Err NotViable → put_element (put_behind names v) (Some place) vs ≡ Err NotViable
at-blocked names v place vs None at h fails = absurd (none-free names blocked h (λ e. cc))
at-blocked names v place vs (Some w) at h fails = element-taken (put_behind names v) place vs (Some w) w at refl (Err NotViable) fails

element-blocked : (names : List (List ℕ)) (v : Tree) (index : Option ℕ) (vs : List Tree) → ((c : Candidate) → slot_behind names (slot_of c) ≡ blocked → put_behind names v c ≡ Err NotViable) → slot_behind names (element_slot index vs) ≡ blocked → put_element (put_behind names v) index vs ≡ Err NotViable
element-blocked names v None vs further h = refl
element-blocked names v (Some place) vs further h = at-blocked names v place vs (slice_get vs place) refl h (further (slice_get vs place) h)

behind-blocked : (names : List (List ℕ)) (v : Tree) (c : Candidate) → slot_behind names (slot_of c) ≡ blocked → put_behind names v c ≡ Err NotViable
behind-blocked [] v None h = absurd cc
behind-blocked [] v (Some w) h = absurd cc
behind-blocked (name ∷ names) v None h = absurd (none-free names blocked h (λ e. cc))
behind-blocked (name ∷ names) v (Some (document fs)) h = ap (λ r. result_map (λ gs. document (fields_of gs)) (result_map (λ u. with_field name (Some u) (list_of_fields fs)) r)) (behind-blocked names v (value_under name (list_of_fields fs)) h)
behind-blocked (name ∷ names) v (Some (array vs)) h = ap (result_map (λ ws. array (elements_of ws))) (element-blocked names v (index_of name) (list_of_elements vs) (behind-blocked names v) h)
behind-blocked (name ∷ names) v (Some w) h = refl

-- a value is refused where the way is blocked
pub put_blocked : (fields : List Field) (path : List (List ℕ)) (v : Tree) → slot fields path ≡ blocked → put fields path v ≡ Err NotViable
unfolding put slot
put_blocked fields [] v h = absurd cc
put_blocked fields (name ∷ names) v h = ap (result_map (λ u. with_field name (Some u) fields)) (behind-blocked names v (value_under name fields) (ap (λ gs. slot_behind names (slot_of (value_under name gs))) (sym (fields_again fields)) ∙ h))

at-taken : (names : List (List ℕ)) (v : Tree) (place : ℕ) (vs : List Tree) (w : Tree) (c : Candidate) → slice_get vs place ≡ c → slot_behind names (slot_of c) ≡ taken w → (t : Tree) × (put_behind names v c ≡ Ok t) → (ws : List Tree) × (put_element (put_behind names v) (Some place) vs ≡ Ok ws)
at-taken names v place vs w None at h put = absurd (none-free names (taken w) h (λ e. cc))
at-taken names v place vs w (Some u) at h put = (with_element place put.0 vs, element-taken (put_behind names v) place vs (Some u) u at refl (Ok put.0) put.1)

element-taken-on : (names : List (List ℕ)) (v : Tree) (index : Option ℕ) (vs : List Tree) (w : Tree) → ((c : Candidate) → slot_behind names (slot_of c) ≡ taken w → (t : Tree) × (put_behind names v c ≡ Ok t)) → slot_behind names (element_slot index vs) ≡ taken w → (ws : List Tree) × (put_element (put_behind names v) index vs ≡ Ok ws)
element-taken-on names v None vs w further h = let no : blocked ≡ taken w = sym (blocked-stays names) ∙ h in absurd cc
element-taken-on names v (Some place) vs w further h = at-taken names v place vs w (slice_get vs place) refl h (further (slice_get vs place) h)

behind-taken : (names : List (List ℕ)) (v w : Tree) (c : Candidate) → slot_behind names (slot_of c) ≡ taken w → (t : Tree) × (put_behind names v c ≡ Ok t)
behind-taken [] v w c h = (v, refl)
behind-taken (name ∷ names) v w None h = missing-put (name ∷ names) v
behind-taken (name ∷ names) v w (Some (document fs)) h =
    let put = behind-taken names v w (value_under name (list_of_fields fs)) h in
    (document (fields_of (with_field name (Some put.0) (list_of_fields fs))), ap (λ r. result_map (λ gs. document (fields_of gs)) (result_map (λ u. with_field name (Some u) (list_of_fields fs)) r)) put.1)
behind-taken (name ∷ names) v w (Some (array vs)) h =
    let put = element-taken-on names v (index_of name) (list_of_elements vs) w (behind-taken names v w) h in
    (array (elements_of put.0), ap (result_map (λ ws. array (elements_of ws))) put.1)
behind-taken (name ∷ names) v w (Some t) h = let no : blocked ≡ taken w = sym (blocked-stays names) ∙ h in absurd cc

-- another value can be put where one is
pub put_taken : (fields : List Field) (name : List ℕ) (names : List (List ℕ)) (v w : Tree) → slot fields (name ∷ names) ≡ taken w → (after : List Field) × (put fields (name ∷ names) v ≡ Ok after)
unfolding put slot
put_taken fields name names v w h =
    let put = behind-taken names v w (value_under name fields) (ap (λ gs. slot_behind names (slot_of (value_under name gs))) (sym (fields_again fields)) ∙ h) in
    (with_field name (Some put.0) fields, ap (result_map (λ u. with_field name (Some u) fields)) put.1)

-- the fields of other names stay
pub put_others : (fields : List Field) (name : List ℕ) (names : List (List ℕ)) (v : Tree) (after : List Field) (other : List ℕ) → (other ≡ name → ⊥) → put fields (name ∷ names) v ≡ Ok after → value_under other after ≡ value_under other fields
unfolding put
put_others fields name names v after other ne e =
    let put = field-put (put_behind names v) name fields after e in
    ap (value_under other) (sym put.2) ∙ field-other name other (Some put.0) fields ne

pub remove_others : (fields : List Field) (name : List ℕ) (names : List (List ℕ)) (other : List ℕ) → (other ≡ name → ⊥) → value_under other (remove fields (name ∷ names)) ≡ value_under other fields
unfolding remove
remove_others fields name names other ne = field-other name other (option_and_then (left_behind names) (value_under name fields)) fields ne

first-case : (here : Bool) (v : Tree) (f : Field) (fs gs : List Field) → (g : Field) × (rest : List Field) × ((if here then field_with f.0 (Some v) ++ fs else f ∷ gs) ≡ g ∷ rest) × (g.0 ≡ f.0)
first-case true v f fs gs = ((f.0, v), fs, refl, refl)
first-case false v f fs gs = (f, gs, refl, refl)

-- the first field keeps its name and its place
pub put_first_name : (f : Field) (fs : List Field) (name : List ℕ) (names : List (List ℕ)) (v : Tree) (after : List Field) → put (f ∷ fs) (name ∷ names) v ≡ Ok after → (g : Field) × (rest : List Field) × (after ≡ g ∷ rest) × (g.0 ≡ f.0)
unfolding put
put_first_name f fs name names v after e =
    let put = field-put (put_behind names v) name (f ∷ fs) after e in
    let first = first-case (bytes_eq name f.0) put.0 f fs (with_field name (Some put.0) fs) in
    (first.0, first.1, sym put.2 ∙ first.2, first.3)

-- and stays whole where another is changed
stays-first : (name : List ℕ) (c : Candidate) (f : Field) (fs : List Field) → (name ≡ f.0 → ⊥) → with_field name c (f ∷ fs) ≡ f ∷ with_field name c fs
stays-first name c f fs ne = ap (λ b. if b then field_with f.0 c ++ fs else f ∷ with_field name c fs) (differ name f.0 ne)

pub put_behind_first : (f : Field) (fs : List Field) (name : List ℕ) (names : List (List ℕ)) (v : Tree) (after : List Field) → (name ≡ f.0 → ⊥) → put (f ∷ fs) (name ∷ names) v ≡ Ok after → (rest : List Field) × (after ≡ f ∷ rest)
unfolding put
put_behind_first f fs name names v after ne e =
    let put = field-put (put_behind names v) name (f ∷ fs) after e in
    (with_field name (Some put.0) fs, sym put.2 ∙ stays-first name (Some put.0) f fs ne)

pub remove_behind_first : (f : Field) (fs : List Field) (name : List ℕ) (names : List (List ℕ)) → (name ≡ f.0 → ⊥) → (rest : List Field) × (remove (f ∷ fs) (name ∷ names) ≡ f ∷ rest)
unfolding remove
remove_behind_first f fs name names ne =
    let c = option_and_then (left_behind names) (value_under name (f ∷ fs)) in
    (with_field name c fs, stays-first name c f fs ne)
