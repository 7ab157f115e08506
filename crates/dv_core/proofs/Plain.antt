-- How statements are refused: never for a fault in bytes.
use Rattle.std.proofs.Common.{◌&&◌, Bool, true, false, cond, ℤ, pos, negsuc, List, [], ◌∷◌, length, map, not, Option, Some, None, Result, Ok, Err, is_some}
use Rattle.std.specs.List.{AllByRecursion}
use Rattle.std.specs.Prelude.{codes}
use Rattle.std.specs.Str.{bytes_eq}
use Rattle.dv_value.specs.Names.{value_under, without}
use Rattle.dv_value.specs.Tree.{Tree, int32, int64, string, boolean, document, array, no_fields, Elements, no_elements, element, Field, fields_of}
use Rattle.dv_coll.specs.Collection.{id_key, found}
use Rattle.dv_match.specs.declared.fault.FilterFault.{FilterFault}
use Rattle.dv_match.specs.declared.fault.FilterFault.TheVariants as filtering
use Rattle.dv_match.specs.Parsing.{filter_in}
use Rattle.dv_update.specs.declared.fault.UpdateFault.{UpdateFault}
use Rattle.dv_update.specs.declared.fault.UpdateFault.TheVariants as updating
use Rattle.dv_update.specs.Apply.{applied}
use Rattle.dv_update.specs.Parsing as updates
use Rattle.dv_update.specs.Update as form
use Rattle.dv_refusal.specs.declared.refusal.Refusal.{Refusal}
use Rattle.dv_refusal.specs.declared.refusal.Refusal.TheVariants.{InvalidBson, BadValue, FailedToParse, DuplicateKey, TooLarge}
use Rattle.dv_refusal.specs.Refusals.{refused_by, filter_refusal, update_refusal}
use Rattle.dv_value.specs.Results.{◌>>=◌, each}
use Rattle.dv_command.specs.Kinds.{Kind, FieldPlace}
use Rattle.dv_command.specs.Kinds as kinds
use Rattle.dv_command.specs.Fields.{Table, update_in, check_false, optional, boolean_under, update_under, text_field, boolean_in, document_in, each_document, documents_in, array_field, integer_in, not_negative, natural_in, one_or_all, only_first_in, check_batch_size, check_cursor, check_empty, check_none, check_single, integers_in, check_value, check_known, check_field, check_fields, is_ignored, kind_in, required, document_under, only_first_under}
use Rattle.dv_command.specs.Tables.{updating_table, deletion_table}
use Rattle.dv_command.specs.Forms.{filter_of, update_asked, is_replacement}
use Rattle.dv_command.specs.Entries.{Updating, deletion_of, updating_of, check_multi}
use Rattle.dv_catalog.specs.Changes.{put, Effect, Statement, breaks, done_to, unless_it_breaks}
use Rattle.dv_catalog.specs.Effects.{after, all_or_first, changed_by, delete_chosen, put_new, update_chosen}
use Rattle.dv_catalog.specs.Scan.{matching}
use Rattle.dv_catalog.specs.State.{Collection}
use Rattle.dv_path.specs.Names.{has_bad_name}
use Rattle.dv_core.specs.Storable.{id_in, is_within_limits, with_id_first, storable}
use Rattle.dv_core.specs.Writes.{insert_one, update_one, delete_one}

-- a refusal of a statement, which reports no fault in bytes
abbrev pub IsPlain : Refusal → Type 0
IsPlain (InvalidBson fault) = ⊥
IsPlain refusal = Unit {0}

abbrev pub IsPlainly : {A : Type 0} → Result A Refusal → Type 0
IsPlainly (Ok x) = Unit {0}
IsPlainly (Err refusal) = IsPlain refusal

-- a statement that is refused only in this way, whatever documents there are
pub record IsPlainStatement (statement : Statement) : Type 0 where
  pub plain : (documents : List (List Field)) → IsPlainly (statement documents)

then_plainly : {A B : Type 0} (r : Result A Refusal) (f : A → Result B Refusal) → IsPlainly r → ((x : A) → IsPlainly (f x)) → IsPlainly (r >>= f)
then_plainly (Ok x) f plain rest = rest x
then_plainly (Err refusal) f plain rest = plain

test_plainly : {A : Type 0} (b : Bool) (r s : Result A Refusal) → IsPlainly r → IsPlainly s → IsPlainly (cond b r s)
test_plainly true r s plain other = plain
test_plainly false r s plain other = other

-- and whatever unique indexes there are
pub done_plainly : (c : Collection) (statement : Statement) → IsPlainStatement statement → IsPlainly (done_to c statement)
done_plainly c statement is =
    then_plainly (statement c.documents) (unless_it_breaks c) (is.plain c.documents) (λ effect. test_plainly (breaks c.indexes effect.changes c.documents) (Err DuplicateKey) (Ok effect) tt tt)

-- ---- what is read out of an entry

text_plainly : (v : Tree) → IsPlainly (text_field v)
text_plainly (string s) = tt
text_plainly v = tt

boolean_plainly : (v : Tree) → IsPlainly (boolean_in v)
boolean_plainly (boolean b) = tt
boolean_plainly v = tt

document_plainly : (v : Tree) → IsPlainly (document_in v)
document_plainly (document fs) = tt
document_plainly v = tt

each_plainly : (vs : Elements) → IsPlainly (each_document vs)
each_plainly no_elements = tt
each_plainly (element (document fs) vs) = then_plainly (each_document vs) _ (each_plainly vs) (λ ds. tt)
each_plainly (element v vs) = tt

documents_plainly : (v : Tree) → IsPlainly (documents_in v)
documents_plainly (array vs) = each_plainly vs
documents_plainly v = tt

array_plainly : (v : Tree) → IsPlainly (array_field v)
array_plainly (array vs) = tt
array_plainly v = tt

integer_plainly : (v : Tree) → IsPlainly (integer_in v)
integer_plainly (int32 n) = tt
integer_plainly (int64 n) = tt
integer_plainly v = tt

natural_plainly : (n : ℤ) → IsPlainly (not_negative n)
natural_plainly (pos n) = tt
natural_plainly (negsuc n) = tt

first_plainly : (b c : Bool) → IsPlainly (cond b (Ok true) (cond c (Ok false) (Err BadValue)))
first_plainly true c = tt
first_plainly false true = tt
first_plainly false false = tt

only_first_plainly : (v : Tree) → IsPlainly (only_first_in v)
only_first_plainly v = then_plainly (integer_in v) one_or_all (integer_plainly v) (λ n. first_plainly _ _)

update_plainly : (v : Tree) → IsPlainly (update_in v)
update_plainly (document fs) = tt
update_plainly (array vs) = tt
update_plainly v = tt

empty_plainly : (v : Tree) → IsPlainly (check_empty v)
empty_plainly (document no_fields) = tt
empty_plainly v = tt

none_plainly : (fs : List Field) → IsPlainly (check_none fs)
none_plainly [] = tt
none_plainly (f ∷ fs) = tt

each_integer_plainly : (vs : List Tree) → IsPlainly (each integer_in vs)
each_integer_plainly [] = tt
each_integer_plainly (v ∷ vs) = then_plainly (integer_in v) _ (integer_plainly v) (λ n. then_plainly (each integer_in vs) _ (each_integer_plainly vs) (λ ns. tt))

integers_plainly : (v : Tree) → IsPlainly (integers_in v)
integers_plainly v = then_plainly (array_field v) (each integer_in) (array_plainly v) each_integer_plainly

natural_read_plainly : (v : Tree) → IsPlainly (natural_in v)
natural_read_plainly v = then_plainly (integer_in v) not_negative (integer_plainly v) natural_plainly

single_plainly : (fs : List Field) → IsPlainly (check_single fs)
single_plainly [] = tt
single_plainly (f ∷ fs) = none_plainly fs

batch_size_plainly : (f : Field) → IsPlainly (check_batch_size f)
batch_size_plainly f = test_plainly (bytes_eq f.0 (codes "batchSize")) _ _ (then_plainly (natural_in f.1) _ (natural_read_plainly f.1) (λ x. tt)) tt

cursor_plainly : (fs : List Field) → IsPlainly (check_cursor fs)
cursor_plainly [] = tt
cursor_plainly (f ∷ fs) = then_plainly (check_batch_size f) _ (batch_size_plainly f) (λ x. none_plainly fs)

value_plainly : (kind : Kind) (v : Tree) → IsPlainly (check_value kind v)
value_plainly kinds.anything v = tt
value_plainly kinds.text v = then_plainly (text_field v) _ (text_plainly v) (λ x. tt)
value_plainly kinds.boolean v = then_plainly (boolean_in v) _ (boolean_plainly v) (λ x. tt)
value_plainly kinds.document v = then_plainly (document_in v) _ (document_plainly v) (λ x. tt)
value_plainly kinds.documents v = then_plainly (documents_in v) _ (documents_plainly v) (λ x. tt)
value_plainly kinds.array v = then_plainly (array_field v) _ (array_plainly v) (λ x. tt)
value_plainly kinds.natural v = then_plainly (natural_in v) _ (then_plainly (integer_in v) not_negative (integer_plainly v) natural_plainly) (λ x. tt)
value_plainly kinds.how_many v = then_plainly (only_first_in v) _ (only_first_plainly v) (λ x. tt)
value_plainly kinds.update v = then_plainly (update_in v) _ (update_plainly v) (λ x. tt)
value_plainly kinds.only_false v = then_plainly (boolean_in v) check_false (boolean_plainly v) (λ b. test_plainly b (Err FailedToParse) (Ok tt) tt tt)
value_plainly kinds.empty_document v = empty_plainly v
value_plainly kinds.integer v = then_plainly (integer_in v) _ (integer_plainly v) (λ x. tt)
value_plainly kinds.integers v = then_plainly (integers_in v) _ (integers_plainly v) (λ x. tt)
value_plainly kinds.single v = then_plainly (document_in v) check_single (document_plainly v) single_plainly
value_plainly kinds.cursor v = then_plainly (document_in v) check_cursor (document_plainly v) cursor_plainly

known_plainly : (kind : Option Kind) (v : Tree) → IsPlainly (check_known kind v)
known_plainly None v = tt
known_plainly (Some kind) v = value_plainly kind v

fields_plainly : (place : FieldPlace) (table : Table) (fs : List Field) → IsPlainly (check_fields place table fs)
fields_plainly place table [] = tt
fields_plainly place table (f ∷ fs) =
    then_plainly (check_field place table f) _ (test_plainly (is_ignored place f.0) (Ok tt) (check_known (kind_in table f.0) f.1) tt (known_plainly (kind_in table f.0) f.1)) (λ x. fields_plainly place table fs)

required_plainly : {A : Type 0} (read : Tree → Result A Refusal) (under : Option Tree) → ((v : Tree) → IsPlainly (read v)) → IsPlainly (required read under)
required_plainly read None plain = tt
required_plainly read (Some v) plain = plain v

fault_plain : (fault : FilterFault) → IsPlain (filter_refusal fault)
fault_plain filtering.NoMemory = tt
fault_plain fault = tt

update_fault_plain : (fault : UpdateFault) → IsPlain (update_refusal fault)
update_fault_plain updating.UnknownOperator = tt
update_fault_plain updating.BadOperand = tt
update_fault_plain updating.NotNumber = tt
update_fault_plain updating.NotViable = tt
update_fault_plain updating.Conflict = tt
update_fault_plain updating.IdChanged = tt
update_fault_plain updating.Overflow = tt
update_fault_plain updating.NotArray = tt
update_fault_plain updating.TooDeep = tt
update_fault_plain updating.BadName = tt
update_fault_plain updating.TooLarge = tt
update_fault_plain updating.NoMemory = tt

updated_plainly : {A : Type 0} (r : Result A UpdateFault) → IsPlainly (refused_by update_refusal r)
updated_plainly (Ok x) = tt
updated_plainly (Err fault) = update_fault_plain fault

optional_plainly : {A : Type 0} (default : A) (read : Tree → Result A Refusal) (under : Option Tree) → ((v : Tree) → IsPlainly (read v)) → IsPlainly (optional default read under)
optional_plainly default read None plain = tt
optional_plainly default read (Some v) plain = plain v

filter_plainly : {A : Type 0} (r : Result A FilterFault) → IsPlainly (refused_by filter_refusal r)
filter_plainly (Ok x) = tt
filter_plainly (Err fault) = fault_plain fault

deletion_plainly : (entry : List Field) → IsPlainly (deletion_of entry)
deletion_plainly entry =
    then_plainly (check_fields kinds.entry deletion_table entry) _ (fields_plainly kinds.entry deletion_table entry)
    (λ x. then_plainly (document_under (codes "q") entry) _ (required_plainly document_in (value_under (codes "q") entry) document_plainly)
    (λ q. then_plainly (only_first_under (codes "limit") entry) _ (required_plainly only_first_in (value_under (codes "limit") entry) only_first_plainly)
    (λ only_first. then_plainly (filter_of q) _ (filter_plainly (filter_in (fields_of q))) (λ filter. tt))))

updating_plainly : (entry : List Field) → IsPlainly (updating_of entry)
updating_plainly entry =
    then_plainly (check_fields kinds.entry updating_table entry) _ (fields_plainly kinds.entry updating_table entry)
    (λ x. then_plainly (document_under (codes "q") entry) _ (required_plainly document_in (value_under (codes "q") entry) document_plainly)
    (λ q. then_plainly (update_under (codes "u") entry) _ (required_plainly update_in (value_under (codes "u") entry) update_plainly)
    (λ u. then_plainly (boolean_under (codes "multi") false entry) _ (optional_plainly false boolean_in (value_under (codes "multi") entry) boolean_plainly)
    (λ multi. then_plainly (check_multi multi u) _ (test_plainly (multi && is_replacement u) (Err FailedToParse) (Ok tt) tt tt)
    (λ y. then_plainly (filter_of q) _ (filter_plainly (filter_in (fields_of q)))
    (λ filter. then_plainly (update_asked u) _ (updated_plainly (updates.update_of u)) (λ update. tt)))))))

changed_plainly : (update : form.Update) (documents : List (List Field)) → IsPlainly (changed_by update documents)
changed_plainly update [] = tt
changed_plainly update (d ∷ ds) = then_plainly (after update d) _ (updated_plainly (applied update d)) (λ e. then_plainly (changed_by update ds) _ (changed_plainly update ds) (λ es. tt))

-- ---- what is stored

id_plainly : (id : Option Tree) (d : List Field) → IsPlainly (id_in id >>= λ given. Ok ((codes "_id", given) ∷ d))
id_plainly None d = tt
id_plainly (Some (array vs)) d = tt
id_plainly (Some v) d = tt

storable_plainly : (d : List Field) → IsPlainly (storable d)
storable_plainly d =
    then_plainly (with_id_first d) _ (test_plainly (has_bad_name d) (Err BadValue) _ tt (id_plainly (value_under (codes "_id") d) (without (codes "_id") d)))
    (λ stored. test_plainly (is_within_limits stored) (Ok stored) (Err TooLarge) tt tt)

-- ---- statements

pub inserts_plain : (documents : List (List Field)) → AllByRecursion IsPlainStatement (map insert_one documents)
inserts_plain [] = tt
inserts_plain (d ∷ ds) = (
  record { plain = λ documents. then_plainly (storable d) (λ stored. put_new stored documents) (storable_plainly d) (λ stored. test_plainly (is_some (found (id_key stored) documents)) (Err DuplicateKey) _ tt tt) },
  inserts_plain ds,
)

pub deletes_plain : (entries : List (List Field)) → AllByRecursion IsPlainStatement (map delete_one entries)
deletes_plain [] = tt
deletes_plain (entry ∷ entries) =
    (record { plain = λ documents. then_plainly (deletion_of entry) (λ deletion. delete_chosen deletion documents) (deletion_plainly entry) (λ deletion. tt) }, deletes_plain entries)

chosen_plainly : (asked : Updating) (documents : List (List Field)) → IsPlainly (update_chosen asked documents)
chosen_plainly asked documents =
    let chosen : List (List Field) = all_or_first (not asked.multi) (matching asked.filter documents) in
    then_plainly {B = Effect} (changed_by asked.update chosen) (λ changed. Ok (record { matched = length chosen; changes = map put changed })) (changed_plainly asked.update chosen) (λ changed. tt)

pub updates_plain : (entries : List (List Field)) → AllByRecursion IsPlainStatement (map update_one entries)
updates_plain [] = tt
updates_plain (entry ∷ entries) =
    (record { plain = λ documents. then_plainly (updating_of entry) (λ asked. update_chosen asked documents) (updating_plainly entry) (λ asked. chosen_plainly asked documents) }, updates_plain entries)
