-- Updates that are parsed from valid documents, and their results for valid documents.
use Rattle.std.proofs.Common.{◌≡◌, refl, subst, ℕ, ℤ, ◌+ℤ◌, ◌==◌, ◌&&◌, not, nat_lt, Bool, true, false, List, [], ◌∷◌, ◌++◌, length, Option, Some, None, Result, Ok, Err, codes, if◌then◌else◌}
use Rattle.std.specs.Bool.{⊤}
use Rattle.std.specs.Int.{w32, w64}
use Rattle.std.specs.List.{AllByRecursion, list_all, list_any, slice_split}
use Rattle.std.specs.Option.{IfSome}
use Rattle.std.specs.Ordering.{is_gt}
use Rattle.std.specs.Prelude.{FitsSigned}
use Rattle.std.specs.Result.{IfOk}
use Rattle.std.specs.Str.{IsUtf8, bytes_eq}
use Rattle.std.proofs.lemmas.Bool.{and_parts}
use Rattle.dv_value.specs.Names.{begins_with_dollar, has_zero, value_under}
use Rattle.dv_value.specs.Spelling.{IsValue, AreFields, spelling, levels}
use Rattle.dv_value.specs.Tree.{Tree, int32, int64, document, array, Fields, no_fields, field, Field, fields_of, list_of_fields, elements_of, list_of_elements}
use Rattle.dv_match.specs.Filter.{Test}
use Rattle.dv_match.specs.Parsing.{lists_operators, test_in}
use Rattle.dv_match.specs.declared.fault.FilterFault.{FilterFault}
use Rattle.dv_candidates.specs.Path.{is_component, path_of}
use Rattle.dv_path.specs.Placing.{put}
use Rattle.dv_path.specs.Slots.{Slot, taken, free, blocked, slot}
use Rattle.dv_candidates.specs.declared.fault.PathFault.{PathFault}
use Rattle.dv_update.specs.Apply.{Path, told, set_at, integer, is_narrow, number_tree, sum_as, increased, appended, is_pulled, left, pull_from, edit_at, edited, chosen, leading_id, checked, changed, applied, document_limit, level_limit}
use Rattle.dv_value.specs.Widths.{fits_32, fits_64}
use Rattle.dv_path.specs.Names.{has_bad_name}
use Rattle.dv_update.specs.Parsing.{operator_named, number_to_add, members, each_alone, values_to_push, condition, values_to_pull, operation_by, plain, edit_by, edits_by, edits_under, edits_in, has_conflict, placed, sorted, in_order, replacement_of, update_of}
use Rattle.dv_value.specs.Results.{◌>>=◌}
use Rattle.dv_update.specs.PathOrder.{path_order}
use Rattle.dv_order.specs.Same.{both_same}
use Rattle.dv_update.specs.Update.{Operation, assign, take_away, increase, append, pull, Pulled, Edit, Update, replacement, operators}
use Rattle.dv_update.specs.declared.fault.UpdateFault.{UpdateFault}
use Rattle.dv_update.specs.declared.fault.UpdateFault.TheVariants.{UnknownOperator, Conflict, Overflow, IdChanged, TooLarge, TooDeep, BadName}
use Rattle.dv_update.specs.declared.number.Number.{Number}
use Rattle.dv_update.specs.declared.number.Number.TheVariants.{Int32, Int64}
use Rattle.dv_update.specs.declared.operator.Operator.{Operator}
use Rattle.dv_update.specs.declared.operator.Operator.TheVariants.{Set, Unset, Inc, Push, Pull}
use Rattle.dv_update.proofs.Texts.{IsUtf8-parts}
use Rattle.dv_value.specs.Inner.ValidLaws.{either, AreValues, listed-elements, valid-elements, fits-32, fits-64}
use Rattle.dv_update.proofs.Valid.{IsName, AreNames, AreValid, IsThere, listed-fields, fields-valid, valid-fields, value_under-valid, slot-valid, put-valid, remove-valid, with_id-valid}

-- ---- one thing after another

bound : {X Y : Type 0} (P : X → Type 0) (Q : Y → Type 0) (f : X → Result Y UpdateFault) → ((x : X) → P x → IfOk (f x) Q) → (r : Result X UpdateFault) → IfOk r P → IfOk (r >>= f) Q
bound P Q f follow (Ok x) holds = follow x holds
bound P Q f follow (Err e) holds = tt

unless : {X : Type 0} (P : X → Type 0) (b : Bool) (e : UpdateFault) (r : Result X UpdateFault) → IfOk r P → IfOk (if b then Err e else r) P
unless P b e r holds = either (λ s. IfOk s P) b (Err e) r tt holds

all-append : {X : Type 0} (P : X → Type 0) (xs ys : List X) → AllByRecursion P xs → AllByRecursion P ys → AllByRecursion P (xs ++ ys)
all-append P [] ys first second = second
all-append P (x ∷ xs) ys first second = (first.0, all-append P xs ys first.1 second)

not-true : (a : Bool) → not a ≡ true → a ≡ false
not-true true e = cc
not-true false e = refl

-- ---- what an update holds

abbrev IsSoundOperation : Operation → Type 0
IsSoundOperation (assign v) = IsValue v
IsSoundOperation take_away = ⊤
IsSoundOperation (increase n) = IsValue (number_tree n)
IsSoundOperation (append vs) = AreValues vs
IsSoundOperation (pull p) = ⊤

abbrev IsSoundEdit : Edit → Type 0
IsSoundEdit e = AreNames e.0 × IsSoundOperation e.1

abbrev AreSoundEdits : List Edit → Type 0
AreSoundEdits es = AllByRecursion IsSoundEdit es

abbrev IsSound : Update → Type 0
IsSound (replacement fields) = AreValid fields
IsSound (operators edits) = AreSoundEdits edits

-- ---- operands

number_to_add-sound : (v : Tree) → IsValue v → IfOk (number_to_add v) IsSoundOperation
number_to_add-sound (int32 n) value = value
number_to_add-sound (int64 n) value = value
number_to_add-sound v value = tt

members-sound : (v : Tree) → IsValue v → IfOk (members v) IsSoundOperation
members-sound (array vs) value = listed-elements vs value
members-sound v value = tt

each_alone-sound : (fs : Fields) → AreFields fs → IfOk (each_alone fs) IsSoundOperation
each_alone-sound (field name v no_fields) valid = either (λ r. IfOk r IsSoundOperation) (bytes_eq name (codes "$each")) (members v) (Err UnknownOperator) (members-sound v valid.3) tt
each_alone-sound fs valid = tt

values_to_push-sound : (v : Tree) → IsValue v → IfOk (values_to_push v) IsSoundOperation
values_to_push-sound (document fs) value = either (λ r. IfOk r IsSoundOperation) (lists_operators fs) (each_alone fs) (Ok (append (document fs ∷ []))) (each_alone-sound fs value) (value, tt)
values_to_push-sound v value = (value, tt)

condition-sound : (r : Result Test FilterFault) → IfOk (condition r) IsSoundOperation
condition-sound (Ok test) = tt
condition-sound (Err e) = tt

values_to_pull-sound : (v : Tree) → IfOk (values_to_pull v) IsSoundOperation
values_to_pull-sound (document fs) = condition-sound (test_in (document fs))
values_to_pull-sound v = tt

operation_by-sound : (operator : Operator) (v : Tree) → IsValue v → IfOk (operation_by operator v) IsSoundOperation
operation_by-sound Set v value = value
operation_by-sound Unset v value = tt
operation_by-sound Inc v value = number_to_add-sound v value
operation_by-sound Push v value = values_to_push-sound v value
operation_by-sound Pull v value = values_to_pull-sound v

-- ---- paths

component_whole : (name : List ℕ) → is_component name ≡ true → has_zero name ≡ false
component_whole [] e = cc
component_whole (b ∷ bs) e = not-true (has_zero (b ∷ bs)) e

components_sound : (names : List (List ℕ)) → AllByRecursion IsUtf8 names → list_all is_component names ≡ true → AreNames names
components_sound [] texts e = tt
components_sound (name ∷ names) texts e = (record { text = texts.0; whole = component_whole name (and_parts _ _ e).0 }, components_sound names texts.1 (and_parts _ _ e).1)

if_components : (names : List (List ℕ)) (b : Bool) → list_all is_component names ≡ b → AllByRecursion IsUtf8 names → IfSome (if b then Some names else None) AreNames
if_components names true is texts = components_sound names texts is
if_components names false is texts = tt

path_of-sound : (text : List ℕ) → IsUtf8 text → IfSome (path_of text) AreNames
unfolding path_of
path_of-sound text is = let names = slice_split (λ b. b == 46) text in if_components names (list_all is_component names) refl (IsUtf8-parts text is)

plain-sound : (path : Option Path) → IfSome path AreNames → IfOk (plain path) AreNames
plain-sound None named = tt
plain-sound (Some path) named = unless AreNames (list_any begins_with_dollar path) BadName (Ok path) named

-- ---- edits

edit_by-sound : (operator : Operator) (f : Field) → IsName f.0 → IsValue f.1 → IfOk (edit_by operator f) IsSoundEdit
edit_by-sound operator f named value =
    bound AreNames IsSoundEdit (λ path. operation_by operator f.1 >>= λ operation. Ok (path, operation))
    (λ path are. bound IsSoundOperation IsSoundEdit (λ operation. Ok (path, operation)) (λ operation sound. (are, sound)) (operation_by operator f.1) (operation_by-sound operator f.1 value)) (plain (path_of f.0))
    (plain-sound (path_of f.0) (path_of-sound f.0 named.text))

edits_by-sound : (operator : Operator) (fs : List Field) → AreValid fs → IfOk (edits_by operator fs) AreSoundEdits
edits_by-sound operator [] valid = tt
edits_by-sound operator (f ∷ fs) valid =
    bound IsSoundEdit AreSoundEdits (λ e. edits_by operator fs >>= λ es. Ok (e ∷ es))
    (λ e sound. bound AreSoundEdits AreSoundEdits (λ es. Ok (e ∷ es)) (λ es are. (sound, are)) (edits_by operator fs) (edits_by-sound operator fs valid.3)) (edit_by operator f) (edit_by-sound operator f valid.0 valid.2)

edits_under-sound : (operator : Option Operator) (v : Tree) → IsValue v → IfOk (edits_under operator v) AreSoundEdits
edits_under-sound None v value = tt
edits_under-sound (Some operator) (document fs) value = edits_by-sound operator (list_of_fields fs) (listed-fields fs value)
edits_under-sound (Some operator) v value = tt

edits_in-sound : (fs : List Field) → AreValid fs → IfOk (edits_in fs) AreSoundEdits
edits_in-sound [] valid = tt
edits_in-sound (f ∷ fs) valid =
    bound AreSoundEdits AreSoundEdits (λ es. edits_in fs >>= λ more. Ok (es ++ more))
    (λ es are. bound AreSoundEdits AreSoundEdits (λ more. Ok (es ++ more)) (λ more others. all-append IsSoundEdit es more are others) (edits_in fs) (edits_in-sound fs valid.3)) (edits_under (operator_named f.0) f.1)
    (edits_under-sound (operator_named f.0) f.1 valid.2)

placed-sound : (e : Edit) (ds : List Edit) → IsSoundEdit e → AreSoundEdits ds → AreSoundEdits (placed e ds)
placed-sound e [] sound are = (sound, tt)
placed-sound e (d ∷ ds) sound are = either AreSoundEdits (is_gt (path_order e.0 d.0)) (d ∷ placed e ds) (e ∷ d ∷ ds) (are.0, placed-sound e ds sound are.1) (sound, are)

sorted-sound : (es : List Edit) → AreSoundEdits es → AreSoundEdits (sorted es)
sorted-sound [] are = tt
sorted-sound (e ∷ es) are = placed-sound e (sorted es) are.0 (sorted-sound es are.1)

in_order-sound : (es : List Edit) → AreSoundEdits es → IfOk (in_order es) IsSound
in_order-sound es are = unless IsSound (has_conflict es) Conflict (Ok (operators (sorted es))) (sorted-sound es are)

update_of-sound : (fs : List Field) → AreValid fs → IfOk (update_of fs) IsSound
update_of-sound fs valid =
    either (λ r. IfOk r IsSound) (lists_operators (fields_of fs)) (edits_in fs >>= in_order) (replacement_of fs) (bound AreSoundEdits IsSound in_order in_order-sound (edits_in fs) (edits_in-sound fs valid))
    (unless IsSound (has_bad_name fs) BadName (Ok (replacement fs)) valid)

-- ---- the results of edits

told-valid : (r : Result (List Field) PathFault) → IfOk r AreValid → IfOk (told r) AreValid
told-valid (Ok d) valid = valid
told-valid (Err e) valid = tt

set_at-valid : (path : Path) (v : Tree) (d : List Field) → AreNames path → IsValue v → AreValid d → IfOk (set_at path v d) AreValid
set_at-valid path v d named value valid = told-valid (put d path v) (put-valid d path v named value valid)

sum_by : (narrow short long : Bool) (n : ℤ) → (short ≡ true → FitsSigned w32 n) → (long ≡ true → FitsSigned w64 n) → IfOk (if narrow && short then Ok (int32 n) else if long then Ok (int64 n) else Err Overflow) IsValue
sum_by true true long n few many = few refl
sum_by true false true n few many = many refl
sum_by true false false n few many = tt
sum_by false short true n few many = many refl
sum_by false short false n few many = tt

sum_as-valid : (narrow : Bool) (n : ℤ) → IfOk (sum_as narrow n) IsValue
sum_as-valid narrow n = sum_by narrow (fits_32 n) (fits_64 n) n (fits-32 n) (fits-64 n)

increased-valid : (n : Number) (s : Slot) → IsValue (number_tree n) → IfOk (increased n s) IsValue
increased-valid n free value = value
increased-valid n blocked value = tt
increased-valid n (taken (int32 m)) value = sum_as-valid (is_narrow (Int32 m) && is_narrow n) (integer (Int32 m) +ℤ integer n)
increased-valid n (taken (int64 m)) value = sum_as-valid (is_narrow (Int64 m) && is_narrow n) (integer (Int64 m) +ℤ integer n)
increased-valid n (taken v) value = tt

appended-valid : (vs : List Tree) (s : Slot) → AreValues vs → IsThere s → IfOk (appended vs s) IsValue
appended-valid vs free values there = valid-elements vs values
appended-valid vs blocked values there = tt
appended-valid vs (taken (array ws)) values there = valid-elements (list_of_elements ws ++ vs) (all-append IsValue (list_of_elements ws) vs (listed-elements ws there) values)
appended-valid vs (taken v) values there = tt

left-valid : (p : Pulled) (vs : List Tree) → AreValues vs → AreValues (left p vs)
left-valid p [] values = tt
left-valid p (v ∷ vs) values = either AreValues (not (is_pulled p v)) (v ∷ left p vs) (left p vs) (values.0, left-valid p vs values.1) (left-valid p vs values.1)

pull_from-valid : (path : Path) (p : Pulled) (d : List Field) (s : Slot) → AreNames path → AreValid d → IsThere s → IfOk (pull_from path p d s) AreValid
pull_from-valid path p d (taken (array vs)) named valid there = set_at-valid path (array (elements_of (left p (list_of_elements vs)))) d named (valid-elements (left p (list_of_elements vs)) (left-valid p (list_of_elements vs) (listed-elements vs there))) valid
pull_from-valid path p d (taken v) named valid there = tt
pull_from-valid path p d free named valid there = valid
pull_from-valid path p d blocked named valid there = valid

edit_at-valid : (path : Path) (operation : Operation) (d : List Field) → AreNames path → IsSoundOperation operation → AreValid d → IfOk (edit_at path operation d) AreValid
edit_at-valid path (assign v) d named sound valid = set_at-valid path v d named sound valid
edit_at-valid path take_away d named sound valid = remove-valid d path named valid
edit_at-valid path (increase n) d named sound valid = bound IsValue AreValid (λ v. set_at path v d) (λ v value. set_at-valid path v d named value valid) (increased n (slot d path)) (increased-valid n (slot d path) sound)
edit_at-valid path (append vs) d named sound valid = bound IsValue AreValid (λ v. set_at path v d) (λ v value. set_at-valid path v d named value valid) (appended vs (slot d path)) (appended-valid vs (slot d path) sound (slot-valid d path valid))
edit_at-valid path (pull p) d named sound valid = pull_from-valid path p d (slot d path) named valid (slot-valid d path valid)

edited-valid : (es : List Edit) (d : List Field) → AreSoundEdits es → AreValid d → IfOk (edited es d) AreValid
edited-valid [] d are valid = valid
edited-valid (e ∷ es) d are valid = bound AreValid AreValid (edited es) (λ after holds. edited-valid es after are.1 holds) (edit_at e.0 e.1 d) (edit_at-valid e.0 e.1 d are.0.0 are.0.1 valid)

-- ---- the result of an update

chosen-valid : (new old : Option Tree) → IfSome new IsValue → IfSome old IsValue → IfSome (chosen new old) IsValue
chosen-valid None old first second = second
chosen-valid (Some v) old first second = first

changed-valid : (update : Update) (d : List Field) → IsSound update → AreValid d → IfOk (changed update d) AreValid
changed-valid (replacement fields) d sound valid =
    let id = codes "_id" in
    with_id-valid (chosen (value_under id fields) (value_under id d)) fields (chosen-valid (value_under id fields) (value_under id d) (value_under-valid id fields sound) (value_under-valid id d valid)) sound
changed-valid (operators edits) d sound valid = edited-valid edits d sound valid

checked-valid : (old new : List Field) → AreValid new → IfOk (checked old new) AreValid
checked-valid old new valid =
    let deep = nat_lt level_limit (levels (document (fields_of new))) in
    let large = nat_lt document_limit (length (spelling new)) in
    unless AreValid (not (both_same (leading_id old) (leading_id new))) IdChanged (if large then Err TooLarge else if deep then Err TooDeep else Ok new)
    (unless AreValid large TooLarge (if deep then Err TooDeep else Ok new) (unless AreValid deep TooDeep (Ok new) valid))

applied-valid : (update : Update) (d : List Field) → IsSound update → AreValid d → IfOk (applied update d) AreValid
applied-valid update d sound valid = bound AreValid AreValid (checked d) (checked-valid d) (changed update d) (changed-valid update d sound valid)

of_ok : {X : Type 0} (P : X → Type 0) (r : Result X UpdateFault) (x : X) → r ≡ Ok x → IfOk r P → P x
of_ok {X} P r x is holds = subst (λ (r : Result X UpdateFault). IfOk r P) is holds

pub comes_out_valid : (fields d made : List Field) (form : Update) → AreFields (fields_of fields) → update_of fields ≡ Ok form → AreFields (fields_of d) → applied form d ≡ Ok made → AreFields (fields_of made)
comes_out_valid fields d made form asked is valid becomes =
    let sound : IsSound form = of_ok IsSound (update_of fields) form is (update_of-sound fields (fields-valid fields asked)) in
    valid-fields made (of_ok AreValid (applied form d) made becomes (applied-valid form d sound (fields-valid d valid)))
