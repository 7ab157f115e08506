-- What is read out of valid fields is valid.
use Rattle.std.proofs.Common.{◌≡◌, ◌<◌, ◌≤◌, ◌&&◌, not, nat_lt, ℕ, ℤ, pos, negsuc, zero, suc, Bool, true, false, if◌then◌else◌, List, [], ◌∷◌, length, get_or, Option, Some, None, Result, Ok, Err, refl, sym, ap, subst, ◌∙◌, arith}
use Rattle.std.proofs.lemmas.Bool.Decides.{nat_tests}
use Rattle.std.proofs.lemmas.Str.{IsUtf8-append, IsUtf8-from_ascii}
use Rattle.std.specs.Prelude.{codes, ⊤}
use Rattle.std.specs.Str.{IsUtf8, bytes_eq}
use Rattle.dv_value.specs.Names.{value_under}
use Rattle.dv_value.specs.Spelling.{IsValue, AreFields, AreElements, payload}
use Rattle.dv_value.specs.Tree.{Tree, int32, int64, string, document, array, Fields, Elements, no_elements, element, Field, fields_of, list_of_fields, elements_of, list_of_elements}
use Rattle.dv_pipe.specs.StageParsing as pipelines
use Rattle.dv_pipe.specs.declared.stage.Stage.{Stage}
use Rattle.dv_command.specs.Asked.{Find, find_in, first_batch_size, explained_by, ViewOn, ViewFields, view_fields_in, view_of, check_count, statement_limit}
use Rattle.dv_command.specs.Fields.{update_in, document_under, check_fields, first_name, text_field, document_in, array_field, integer_in, each_document, documents_in, required, text_under, boolean_under, natural_under}
use Rattle.dv_command.specs.Tables.{index_table}
use Rattle.dv_command.specs.Lists.{CommandLists, list_under, in_either}
use Rattle.dv_command.specs.Forms.{filter_under, sort_under, stages_asked}
use Rattle.dv_command.specs.Entries.{IndexAsked, index_asked, key_path, check_index_name, longest_index_name}
use Rattle.dv_command.specs.Kinds as kinds
use Rattle.dv_command.specs.Namespaces.{database_in, namespace, dotted, is_database_name, is_collection_name, longest_namespace}
use Rattle.dv_refusal.specs.Refusals.{refused_by, pipeline_refusal}
use Rattle.dv_value.specs.Results.{◌>>=◌, each}
use Rattle.dv_value.specs.Inner.TreeLaws.{fields_back, elements_back, under_valid}
use Rattle.dv_pipe.specs.Laws.{AreSpellable}
use Rattle.dv_command.specs.Sound.{IsIndexName, IsSoundPipeline}
use Rattle.dv_command.specs.Inner.Sound.{AreValidLists, AreIds, AreIndexes, IsNamespace, IsSoundViewAsked}
use Rattle.dv_command.proofs.Lengths.{array_long}
use Rattle.dv_refusal.specs.declared.refusal.Refusal.{Refusal}
use Rattle.dv_refusal.specs.declared.refusal.Refusal.TheVariants.{BadValue, CommandNotFound, LimitReached}

pub record Succeeds {A B : Type 0} (first : Result A Refusal) (rest : A → Result B Refusal) (end : B) : Type 0 where
  pub given : A
  pub first_is : first ≡ Ok given
  pub rest_is : rest given ≡ Ok end

pub succeeds : {A B : Type 0} (first : Result A Refusal) (rest : A → Result B Refusal) (end : B) → (first >>= rest) ≡ Ok end → Succeeds first rest end
succeeds (Ok x) rest end is = record { given = x; first_is = refl; rest_is = is }
succeeds (Err refusal) rest end is = absurd cc

pub ends : {A : Type 0} (x y : A) → let given : Result A Refusal = Ok x in let end : Result A Refusal = Ok y in given ≡ end → x ≡ y
ends x y is = cc

pub parsed : {A E : Type 0} (refusal : E → Refusal) (reading : Result A E) (x : A) → refused_by refusal reading ≡ Ok x → reading ≡ Ok x
parsed refusal (Ok y) x is = ap Ok (ends y x is)
parsed refusal (Err fault) x is = absurd cc

-- ---- what is read out of valid fields is valid

more_valid : (fs : Fields) (rest : Result (List (List Field)) Refusal) (ds : List (List Field)) → AreFields fs → ((es : List (List Field)) → rest ≡ Ok es → AreSpellable es)
    → (rest >>= λ es. Ok (list_of_fields fs ∷ es)) ≡ Ok ds → AreSpellable ds
more_valid fs (Ok es) ds valid others is =
    let same : list_of_fields fs ∷ es ≡ ds = cc in
    subst AreSpellable same (rw (fields_back fs) valid, others es refl)
more_valid fs (Err refusal) ds valid others is = absurd cc

each_valid : (vs : Elements) (ds : List (List Field)) → AreElements vs → each_document vs ≡ Ok ds → AreSpellable ds
each_valid no_elements ds valid is = let same : [] ≡ ds = cc in subst AreSpellable same tt
each_valid (element (document fs) vs) ds valid is = more_valid fs (each_document vs) ds valid.0 (λ es rest. each_valid vs es valid.1 rest) is
each_valid (element v vs) ds valid is = absurd cc

pub documents_valid : (under : Option Tree) (ds : List (List Field)) → ((v : Tree) → under ≡ Some v → IsValue v) → required documents_in under ≡ Ok ds → AreSpellable ds
documents_valid None ds valid is = absurd cc
documents_valid (Some (array vs)) ds valid is = each_valid vs ds (valid (array vs) refl) is
documents_valid (Some v) ds valid is = absurd cc

one_list_valid : (list others : Option (List (List Field))) (b : Bool) (ds : List (List Field)) → (list ≡ Some ds → AreSpellable ds) → (others ≡ Some ds → AreSpellable ds) → (if b then list else others) ≡ Some ds → AreSpellable ds
one_list_valid list others true ds first rest is = first is
one_list_valid list others false ds first rest is = rest is

pub beside_valid : (name : List ℕ) (lists : CommandLists) (ds : List (List Field)) → AreValidLists lists → list_under name lists ≡ Some ds → AreSpellable ds
beside_valid name [] ds valid is = absurd cc
beside_valid name (list ∷ lists) ds valid is =
    one_list_valid (Some list.1) (list_under name lists) (bytes_eq name list.0) ds (λ e. let same : list.1 ≡ ds = cc in subst AreSpellable same valid.0) (beside_valid name lists ds valid.1) is

pub either_valid : (under : Option Tree) (beside : Option (List (List Field))) (ds : List (List Field)) → ((v : Tree) → under ≡ Some v → IsValue v) → ((es : List (List Field)) → beside ≡ Some es → AreSpellable es)
    → in_either under beside ≡ Ok ds → AreSpellable ds
either_valid (Some value) None ds valid others is = documents_valid (Some value) ds valid is
either_valid None (Some documents) ds valid others is = subst AreSpellable (ends documents ds is) (others documents refl)
either_valid None None ds valid others is = absurd cc
either_valid (Some value) (Some documents) ds valid others is = absurd cc

pub text_valid : (under : Option Tree) (c : List ℕ) → ((v : Tree) → under ≡ Some v → IsValue v) → required text_field under ≡ Ok c → IsUtf8 c
text_valid None c valid is = absurd cc
text_valid (Some (string name)) c valid is = let same : name ≡ c = cc in subst IsUtf8 same (valid (string name) refl)
text_valid (Some v) c valid is = absurd cc

pub list_valid : (under : Option Tree) (list : List Tree) → ((v : Tree) → under ≡ Some v → IsValue v) → required array_field under ≡ Ok list → AreElements (elements_of list)
list_valid None list valid is = absurd cc
list_valid (Some (array vs)) list valid is =
    let elements : AreElements (elements_of (list_of_elements vs)) = rw (elements_back vs) (valid (array vs) refl) in
    subst (λ (l : List Tree). AreElements (elements_of l)) (ends (list_of_elements vs) list is) elements
list_valid (Some v) list valid is = absurd cc

pub database_valid : (under : Option Tree) (d : List ℕ) → ((v : Tree) → under ≡ Some v → IsValue v) → database_in under ≡ Ok d → IsUtf8 d
database_valid None d valid is = absurd cc
database_valid (Some (string name)) d valid is = named (is_database_name name) is
  where
    named : (b : Bool) → (if b then Ok name else Err BadValue) ≡ Ok d → IsUtf8 d
    named true e = let same : name ≡ d = cc in subst IsUtf8 same (valid (string name) refl)
    named false e = absurd cc
database_valid (Some v) d valid is = absurd cc

wider : (n : ℤ) → IsValue (int32 n) → IsValue (int64 n)
wider (pos n) fits = omega arith
wider (negsuc n) fits = omega arith

-- an integer of either width is valid with the greater one
integer_valid : (v : Tree) (n : ℤ) → IsValue v → integer_in v ≡ Ok n → IsValue (int64 n)
integer_valid (int32 m) n valid is = let same : m ≡ n = cc in subst (λ (k : ℤ). IsValue (int64 k)) same (wider m valid)
integer_valid (int64 m) n valid is = let same : m ≡ n = cc in subst (λ (k : ℤ). IsValue (int64 k)) same valid
integer_valid v n valid is = absurd cc

pub id_valid : (under : Option Tree) (n : ℤ) → ((v : Tree) → under ≡ Some v → IsValue v) → required integer_in under ≡ Ok n → IsValue (int64 n)
id_valid None n valid is = absurd cc
id_valid (Some v) n valid is = integer_valid v n (valid v refl) is

pub integers_valid : (vs : List Tree) (ns : List ℤ) → AreElements (elements_of vs) → each integer_in vs ≡ Ok ns → AreIds ns
integers_valid [] ns valid is = subst AreIds (ends [] ns is) tt
integers_valid (v ∷ vs) ns valid is =
    let first = succeeds (integer_in v) _ ns is in
    let others = succeeds (each integer_in vs) _ ns first.rest_is in
    subst AreIds (ends (first.given ∷ others.given) ns others.rest_is) (integer_valid v first.given valid.0 first.first_is, integers_valid vs others.given valid.1 others.first_is)

pub document_valid : (under : Option Tree) (d : List Field) → ((v : Tree) → under ≡ Some v → IsValue v) → required document_in under ≡ Ok d → AreFields (fields_of d)
document_valid None d valid is = absurd cc
document_valid (Some (document fs)) d valid is =
    let fields : AreFields (fields_of (list_of_fields fs)) = rw (fields_back fs) (valid (document fs) refl) in
    subst (λ (e : List Field). AreFields (fields_of e)) (ends (list_of_fields fs) d is) fields
document_valid (Some v) d valid is = absurd cc

-- an update that isn't a document is none
pub update_valid : (under : Option Tree) (d : List Field) → ((v : Tree) → under ≡ Some v → IsValue v) → required update_in under ≡ Ok d → AreFields (fields_of d)
update_valid None d valid is = absurd cc
update_valid (Some (document fs)) d valid is = document_valid (Some (document fs)) d valid is
update_valid (Some (array vs)) d valid is = absurd cc
update_valid (Some v) d valid is = absurd cc

-- ---- namespaces, and how many statements there are

dot_below : (i : ℕ) → get_or (46 ∷ []) i 0 < 128
dot_below zero = omega arith
dot_below (suc i) = omega arith

dotted_valid : (d c : List ℕ) → IsUtf8 d → IsUtf8 c → IsUtf8 (dotted d c)
dotted_valid d c h i = IsUtf8-append d (46 ∷ c) h (IsUtf8-append (46 ∷ []) c (IsUtf8-from_ascii (46 ∷ []) dot_below) i)

pub namespace_valid : (d c ns : List ℕ) → IsUtf8 d → IsUtf8 c → namespace d c ≡ Ok ns → IsNamespace ns
namespace_valid d c ns h i is = by_tests (is_collection_name c) (nat_lt longest_namespace (length (dotted d c))) refl is
  where
    by_tests : (named long : Bool) → nat_lt longest_namespace (length (dotted d c)) ≡ long → (if named && not long then Ok (dotted d c) else Err BadValue) ≡ Ok ns → IsNamespace ns
    by_tests true false test e =
        let same : dotted d c ≡ ns = cc in
        let short : length (dotted d c) ≤ 120 = grind (arith, nat_tests) in
        subst IsNamespace same (dotted_valid d c h i, short)
    by_tests true true test e = absurd cc
    by_tests false long test e = absurd cc

pub count_valid : (ds : List (List Field)) (t : ⊤) → check_count ds ≡ Ok t → length ds ≤ statement_limit
count_valid ds t is = by_test (nat_lt 100000 (length ds)) refl is
  where
    by_test : (b : Bool) → nat_lt 100000 (length ds) ≡ b → (if b then Err LimitReached else Ok tt) ≡ Ok t → length ds ≤ statement_limit
    by_test true test e = absurd cc
    by_test false test e = grind (arith, nat_tests)

-- ---- indexes

index_name_short : (name : List ℕ) (t : ⊤) → check_index_name name ≡ Ok t → length name ≤ longest_index_name
index_name_short name t is = by_test (nat_lt 120 (length name)) refl is
  where
    by_test : (b : Bool) → nat_lt 120 (length name) ≡ b → (if b then Err BadValue else Ok tt) ≡ Ok t → length name ≤ longest_index_name
    by_test true test e = absurd cc
    by_test false test e = grind (arith, nat_tests)

index_valid : (entry : List Field) (index : IndexAsked) → AreFields (fields_of entry) → index_asked entry ≡ Ok index → IsIndexName index.name
index_valid entry index valid is =
    let looked = succeeds (check_fields kinds.entry index_table entry) _ index is in
    let key = succeeds (document_under (codes "key") entry) _ index looked.rest_is in
    let name = succeeds (text_under (codes "name") entry) _ index key.rest_is in
    let unique = succeeds (boolean_under (codes "unique") false entry) _ index name.rest_is in
    let path = succeeds (key_path key.given) _ index unique.rest_is in
    let short = succeeds (check_index_name name.given) _ index path.rest_is in
    let made : IndexAsked = record { name = name.given; path = path.given; unique = unique.given } in
    subst (λ (x : IndexAsked). IsIndexName x.name) {x = made} (ends made index short.rest_is) (
      text_valid (value_under (codes "name") entry) name.given (λ v under. under_valid (codes "name") entry v valid under) name.first_is,
      index_name_short name.given short.given short.first_is,
    )

pub indexes_valid : (list : List (List Field)) (indexes : List IndexAsked) → AreSpellable list → each index_asked list ≡ Ok indexes → AreIndexes indexes
indexes_valid [] indexes valid is = subst AreIndexes (ends [] indexes is) tt
indexes_valid (entry ∷ list) indexes valid is =
    let first = succeeds (index_asked entry) _ indexes is in
    let others = succeeds (each index_asked list) _ indexes first.rest_is in
    subst AreIndexes (ends (first.given ∷ others.given) indexes others.rest_is) (index_valid entry first.given valid.0 first.first_is, indexes_valid list others.given valid.1 others.first_is)

-- ---- pipelines and views

pub pipeline_valid : (list : List Tree) (stages : List Stage) → AreElements (elements_of list) → stages_asked list ≡ Ok stages → IsSoundPipeline stages
pipeline_valid list stages valid is = record { list = list; valid = valid; is = parsed pipeline_refusal (pipelines.pipeline_of list) stages is }

abbrev pub AreViewFields : Option ViewFields → Type 0
AreViewFields None = ⊤
AreViewFields (Some fields) = IsUtf8 fields.collection × AreElements (elements_of fields.list)

pub fields_valid : (view_on pipeline : Option Tree) (fields : Option ViewFields) → ((v : Tree) → view_on ≡ Some v → IsValue v) → ((v : Tree) → pipeline ≡ Some v → IsValue v)
    → view_fields_in view_on pipeline ≡ Ok fields → AreViewFields fields
fields_valid None None fields first second is = subst AreViewFields (ends None fields is) tt
fields_valid (Some view_on) (Some pipeline) fields first second is =
    let collection = succeeds (text_field view_on) _ fields is in
    let list = succeeds (array_field pipeline) _ fields collection.rest_is in
    let both : Option ViewFields = Some (record { collection = collection.given; list = list.given }) in
    subst AreViewFields {x = both} (ends both fields list.rest_is)
    (text_valid (Some view_on) collection.given first collection.first_is, list_valid (Some pipeline) list.given second list.first_is)
fields_valid view_on pipeline fields first second is = absurd cc

pub view_valid : (d : List ℕ) (fields : Option ViewFields) (view : Option ViewOn) → IsUtf8 d → AreViewFields fields → view_of d fields ≡ Ok view → IsSoundViewAsked view
view_valid d None view named valid is = subst IsSoundViewAsked (ends None view is) tt
view_valid d (Some fields) view named valid is =
    let source = succeeds (namespace d fields.collection) _ view is in
    let stages = succeeds (stages_asked fields.list) _ view source.rest_is in
    let made : Option ViewOn = Some (record { source = source.given; stages = stages.given }) in
    subst IsSoundViewAsked {x = made} (ends made view stages.rest_is)
    (namespace_valid d fields.collection source.given named valid.0 source.first_is, pipeline_valid fields.list stages.given valid.1 stages.first_is)

-- ---- finds

pub find_valid : (d : List ℕ) (body : List Field) (asked : Find) → IsUtf8 d → AreFields (fields_of body) → find_in d body ≡ Ok asked → IsNamespace asked.namespace
find_valid d body asked named valid is =
    let collection = succeeds (text_under (codes "find") body) _ asked is in
    let from = succeeds (namespace d collection.given) _ asked collection.rest_is in
    let filter = succeeds (filter_under (codes "filter") body) _ asked from.rest_is in
    let sort = succeeds (sort_under (codes "sort") body) _ asked filter.rest_is in
    let skip = succeeds (natural_under (codes "skip") 0 body) _ asked sort.rest_is in
    let limit = succeeds (natural_under (codes "limit") 0 body) _ asked skip.rest_is in
    let size = succeeds (natural_under (codes "batchSize") first_batch_size body) _ asked limit.rest_is in
    let single = succeeds (boolean_under (codes "singleBatch") false body) _ asked size.rest_is in
    let made : Find = record { namespace = from.given; filter = filter.given; sort = sort.given; skip = skip.given; limit = limit.given; batch_size = size.given; single_batch = single.given } in
    let P : Find → Type 0 = λ f. IsNamespace f.namespace in
    subst P {x = made} (ends made asked single.rest_is)
    (namespace_valid d collection.given from.given named (text_valid (value_under (codes "find") body) collection.given (λ v under. under_valid (codes "find") body v valid under) collection.first_is) from.first_is)

pub explained_valid : (reading : Result (List Field) Refusal) (d : List Field) → ((e : List Field) → reading ≡ Ok e → AreFields (fields_of e)) → explained_by reading ≡ Ok d → AreFields (fields_of d)
explained_valid (Ok fields) d valid is = by_test (bytes_eq (first_name fields) (codes "find")) is
  where
    by_test : (b : Bool) → (if b then Ok fields else Err CommandNotFound) ≡ Ok d → AreFields (fields_of d)
    by_test true e = subst (λ (f : List Field). AreFields (fields_of f)) (ends fields d e) (valid fields refl)
    by_test false e = absurd cc
explained_valid (Err refusal) d valid is = absurd cc

-- ---- how many there are

pub each_long : {A B : Type 0} (f : A → Result B Refusal) (xs : List A) (ys : List B) → each f xs ≡ Ok ys → length ys ≡ length xs
each_long f [] ys is = ap length (sym (ends [] ys is))
each_long f (x ∷ xs) ys is =
    let first = succeeds (f x) _ ys is in
    let others = succeeds (each f xs) _ ys first.rest_is in
    ap length (sym (ends (first.given ∷ others.given) ys others.rest_is)) ∙ ap suc (each_long f xs others.given others.first_is)

pub list_long : (under : Option Tree) (list : List Tree) (most : ℕ) → ((v : Tree) → under ≡ Some v → length (payload v) ≤ most) → required array_field under ≡ Ok list → length list ≤ most
list_long None list most long is = absurd cc
list_long (Some (array vs)) list most long is = subst (λ (l : List Tree). length l ≤ most) (ends (list_of_elements vs) list is) (omega (arith, array_long vs, long (array vs) refl))
list_long (Some v) list most long is = absurd cc
