-- The indexes of each namespace keep valid names, and so the index by which a find is explained has one.
use Rattle.std.proofs.Common.{◌≡◌, inl, inr, ℕ, zero, suc, not, Bool, true, false, cond, if◌then◌else◌, List, [], ◌∷◌, ◌++◌, drop, map, take, Option, Some, None, Result, Ok, Err, nat_lt, length, refl, sym, ap, subst, ◌∙◌, arith}
use Rattle.std.proofs.lemmas.Slice.Eq.{bytes_eq-Decides}
use Rattle.std.specs.Prelude.{codes}
use Rattle.std.specs.FinMap as finite
use Rattle.std.specs.Cmp.Lexicographic.{slice_cmp}
use Rattle.std.specs.Ordering.{nat_cmp}
use Rattle.std.specs.List.{AllByRecursion, list_any, slice_get}
use Rattle.std.specs.Option.{option_map}
use Rattle.std.specs.Str.{bytes_eq}
use Rattle.dv_value.specs.Tree.{Field}
use Rattle.dv_catalog.specs.Changes.{Change, Effect, Statement, apply, changes_of, done_to}
use Rattle.dv_catalog.specs.IndexMaking.{over_view, explained, explained_at, is_alike, is_made, way_by, unless_broken, with_all as with_all_entries, with_entries, with_index, within_limit, without_named, index_limit}
use Rattle.dv_catalog.specs.State.{Collection, Standing, Namespaces, collection, collection_at, collection_of, indexes_of, with_documents, is_view}
use Rattle.dv_catalog.specs.State as stored
use Rattle.dv_catalog.specs.Inner.StateLaws.{get-insert}
use Rattle.dv_command.specs.Asked.{Asked, create_indexes, drop_indexes, asked_by}
use Rattle.dv_command.specs.Entries.{IndexAsked}
use Rattle.dv_command.specs.Sound.{IsIndexName}
use Rattle.dv_command.specs.Inner.Sound.{AreIndexes, IsSoundRequest}
use Rattle.dv_command.specs.declared.command.Command.{Command}
use Rattle.dv_core.specs.Indexes.{form_asked, index_name}
use Rattle.dv_core.specs.Sound.{AreSoundIndexes, IsSoundCommand}
use Rattle.dv_core.specs.State.{State, empty_store_state}
use Rattle.dv_core.specs.Statements.{WriteSteps, Written, nothing_written, with_all, with_next, with_result, is_due}
use Rattle.dv_core.specs.Step.{Answer}
use Rattle.dv_core.specs.declared.outcome.Outcome.{Outcome}
use Rattle.dv_core.proofs.Bare.{BareStep}
use Rattle.dv_core.proofs.Asking.{AsksSoundly, body_size, soundly_asked}
use Rattle.dv_core.proofs.Changed.{Did, MayWrite, outcome_may}
use Rattle.dv_core.proofs.Standing.{IsKeptBy, indexes_by, made_stands}
use Rattle.dv_core.proofs.Texts.{IsUtf8-ascii}
use Rattle.dv_value.specs.Results.{◌>>=◌}
use Rattle.dv_refusal.specs.declared.refusal.Refusal.{Refusal}
use Rattle.dv_refusal.specs.declared.refusal.Refusal.TheVariants.{BadValue, ConflictingUpdateOperators, DuplicateKey, IndexNotFound, LimitReached}
use Rattle.dv_keyed.specs.Index.{IndexForm, id_form}
use Rattle.dv_index.specs.Indexed.{index_chosen, is_dropped, name_at, paths_of, without_index}
use Rattle.dv_keyed.specs.Choice.{chosen}
use Rattle.dv_index.specs.Unique.{are_broken}
use Rattle.dv_match.specs.Filter.{Condition, Members}

abbrev pub Named : List IndexForm → Type 0
Named indexes = AllByRecursion (λ index. IsIndexName index.name) indexes

id_named : Named (id_form ∷ [])
id_named = ((IsUtf8-ascii (codes "_id_") refl, omega arith), tt)

-- ---- changes of documents leave indexes unchanged

abbrev with_rows : List ℕ → Namespaces → List (List Field) → Standing
with_rows namespace old documents = collection (record (collection_of namespace old) { documents = documents })

documents_put : (old : Namespaces) (namespace : List ℕ) (documents : List (List Field)) (name : List ℕ) → indexes_of name (with_documents namespace documents old) ≡ indexes_of name old
documents_put old namespace documents name =
    ap (λ (there : Option Standing). (collection_at there).indexes) (get-insert old namespace (with_rows namespace old documents) name) ∙ by_name (bytes_eq namespace name) refl
  where
    by_name : (b : Bool) → bytes_eq namespace name ≡ b → (collection_at (cond b (Some (with_rows namespace old documents)) (finite.get old name))).indexes ≡ indexes_of name old
    by_name true same = ap (λ (n : List ℕ). indexes_of n old) ((bytes_eq-Decides namespace name).0 same)
    by_name false other = refl

pub apply_leaves : (namespace : List ℕ) (changes : List Change) (old : Namespaces) (name : List ℕ) → indexes_of name (apply namespace changes old) ≡ indexes_of name old
apply_leaves namespace [] old name = refl
apply_leaves namespace (change ∷ changes) old name = documents_put old namespace _ name

module _ (namespace : List ℕ) (ordered : Bool) (name : List ℕ) where
  result_leaves : (so_far : Written) (result : Result Effect Refusal) → indexes_of name (with_result namespace ordered so_far result).namespaces ≡ indexes_of name so_far.namespaces
  result_leaves so_far (Ok effect) = apply_leaves namespace effect.changes so_far.namespaces name
  result_leaves so_far (Err refusal) = refl

  next_leaves : (so_far : Written) (statement : Statement) → indexes_of name (with_next namespace ordered so_far statement).namespaces ≡ indexes_of name so_far.namespaces
  next_leaves so_far statement = by_due (is_due ordered so_far.errors)
    where
      result : Written
      result = with_result namespace ordered so_far (done_to (collection_of namespace so_far.namespaces) statement)

      by_due : (b : Bool) → indexes_of name (cond b result so_far).namespaces ≡ indexes_of name so_far.namespaces
      by_due true = result_leaves so_far (done_to (collection_of namespace so_far.namespaces) statement)
      by_due false = refl

  all_leave : (so_far : Written) (statements : List Statement) → indexes_of name (with_all namespace ordered so_far statements).namespaces ≡ indexes_of name so_far.namespaces
  all_leave so_far [] = refl
  all_leave so_far (statement ∷ statements) = all_leave (with_next namespace ordered so_far statement) statements ∙ next_leaves so_far statement

did_leave : (write : WriteSteps) (old : State) (did : Written) → Did write old did → (name : List ℕ) → indexes_of name did.namespaces ≡ indexes_of name old.catalog.namespaces
did_leave write old did (inl whole) name = ap (λ (w : Written). indexes_of name w.namespaces) whole ∙ all_leave write.namespace write.ordered name (nothing_written old.catalog.namespaces) write.statements
did_leave write old did (inr c) name =
    let before : Written = with_all write.namespace write.ordered (nothing_written old.catalog.namespaces) c.before in
    ap (λ (w : Written). indexes_of name w.namespaces) c.left_so
    ∙ apply_leaves write.namespace (take c.made (changes_of (done_to (collection_of write.namespace before.namespaces) c.statement))) before.namespaces name
    ∙ all_leave write.namespace write.ordered name (nothing_written old.catalog.namespaces) c.before

-- ---- indexes that are made and dropped

one_more : (indexes : List IndexForm) (x : IndexForm) → Named indexes → IsIndexName x.name → Named (indexes ++ x ∷ [])
one_more [] x named is = (is, tt)
one_more (y ∷ indexes) x named is = (named.0, one_more indexes x named.1 is)

kept_or_not : (b : Bool) (x : IndexForm) (rest : List IndexForm) → IsIndexName x.name → Named rest → Named (cond b (x ∷ rest) rest)
kept_or_not true x rest is named = (is, named)
kept_or_not false x rest is named = named

some_less : (name : List ℕ) (indexes : List IndexForm) → Named indexes → Named (without_index name indexes)
some_less name [] named = tt
some_less name (x ∷ indexes) named = kept_or_not (not (is_dropped name x)) x (without_index name indexes) named.0 (some_less name indexes named.1)

-- the indexes that are made, if they are, have valid names
abbrev IfMade : Result (List IndexForm) Refusal → Type 0
IfMade (Ok indexes) = Named indexes
IfMade (Err refusal) = Unit {0}

then_made : (made : Result (List IndexForm) Refusal) (more : List IndexForm → Result (List IndexForm) Refusal) → IfMade made → ((indexes : List IndexForm) → Named indexes → IfMade (more indexes)) → IfMade (made >>= more)
then_made (Ok indexes) more named rest = rest indexes named
then_made (Err refusal) more named rest = tt

with_index_named : (x : IndexForm) (indexes : List IndexForm) → IsIndexName x.name → Named indexes → IfMade (with_index x indexes)
with_index_named x indexes is named = by_tests (is_made x indexes) (list_any (is_alike x) indexes)
  where
    by_tests : (a b : Bool) → IfMade (if a then Ok indexes else if b then Err ConflictingUpdateOperators else Ok (indexes ++ x ∷ []))
    by_tests true b = named
    by_tests false true = tt
    by_tests false false = one_more indexes x named is

entries_named : (entries indexes : List IndexForm) → Named entries → Named indexes → IfMade (with_entries entries indexes)
entries_named [] indexes are named = named
entries_named (x ∷ entries) indexes are named = then_made (with_index x indexes) (with_entries entries) (with_index_named x indexes are.0 named) (λ more also. entries_named entries more are.1 also)

limit_named : (b : Bool) (indexes : List IndexForm) → Named indexes → IfMade (if b then Err LimitReached else Ok indexes)
limit_named true indexes named = tt
limit_named false indexes named = named

unbroken_named : (b : Bool) (indexes : List IndexForm) → Named indexes → IfMade (if b then Err DuplicateKey else Ok indexes)
unbroken_named true indexes named = tt
unbroken_named false indexes named = named

all_named : (entries : List IndexForm) (c : Collection) → Named entries → Named c.indexes → IfMade (with_all_entries entries c)
all_named entries c are named =
    then_made (with_entries entries c.indexes >>= within_limit) (unless_broken c)
    (then_made (with_entries entries c.indexes) within_limit (entries_named entries c.indexes are named) (λ more also. limit_named (nat_lt index_limit (length more)) more also))
    (λ more also. unbroken_named (are_broken (drop (length c.indexes) more) c.documents) more also)

left_named : (name : List ℕ) (indexes : List IndexForm) → Named indexes → IfMade (without_named name indexes)
left_named name indexes named = by_tests (bytes_eq name (codes "*")) (bytes_eq name id_form.name) (list_any (is_dropped name) indexes)
  where
    by_tests : (a b c : Bool) → IfMade (if a then Ok (id_form ∷ []) else if b then Err BadValue else if c then Ok (without_index name indexes) else Err IndexNotFound)
    by_tests true b c = id_named
    by_tests false true c = tt
    by_tests false false true = some_less name indexes named
    by_tests false false false = tt

asked_named : (asked : List IndexAsked) → AreIndexes asked → Named (map form_asked asked)
asked_named [] sound = tt
asked_named (x ∷ asked) sound = (sound.0, asked_named asked sound.1)

-- ---- what is under namespaces

abbrev HasNames : List ℕ → Collection → Type 0
HasNames namespace c = Named c.indexes

names_kept : (size : ℕ) (what : Asked) → IsSoundRequest size what → IsKeptBy HasNames what
names_kept size what asked = record { none = λ name. id_named; emptied = λ name c named. named; indexed = λ name c indexes is named. subst IfMade is (left what asked c named) }
  where
    left : (what : Asked) → IsSoundRequest size what → (c : Collection) → Named c.indexes → IfMade (indexes_by what c)
    left (create_indexes a) asked c named = all_named (map form_asked a.indexes) c (asked_named a.indexes asked.1) named
    left (drop_indexes a) asked c named = left_named a.index c.indexes named
    left what asked c named = named

-- ---- each step

pub steps_named : AsksSoundly → (old new : State) (session : ℕ) (command : Command) (outcome : Outcome) → IsSoundCommand command → AreSoundIndexes old → BareStep old session command outcome new → AreSoundIndexes new
steps_named asks old new session command outcome sound all steps =
    let (answer, may, stands) = outcome_may old new session command outcome steps in
    subst AreSoundIndexes (sym stands) (stay answer may)
  where
    stay : (answer : Answer) → MayWrite old (asked_by command) answer → AreSoundIndexes answer.state
    stay answer (inl same) = subst AreSoundIndexes (sym same) all
    stay answer (inr (inl w)) = subst (λ (a : Answer). AreSoundIndexes a.state) (sym w.answers) (λ name. subst Named (sym (did_leave w.write old w.did w.did_so name)) (all name))
    stay answer (inr (inr m)) = made_stands HasNames old answer.state m.what (names_kept (body_size command) m.what (soundly_asked asks command m.what sound m.asks)) m.made all

-- ---- the first state

pub empty_named : AreSoundIndexes empty_store_state
empty_named name = subst (λ (there : Option Standing). Named (collection_at there).indexes) (sym (finite.get-empty (slice_cmp nat_cmp) name)) id_named

-- ---- the index by which a find is answered

-- the name is valid, if there is one
abbrev pub IsNamed : Option (List ℕ) → Type 0
IsNamed None = Unit {0}
IsNamed (Some name) = IsIndexName name

item_named : (indexes : List IndexForm) (place : ℕ) → Named indexes → IsNamed (option_map (λ x. x.name) (slice_get indexes place))
item_named [] place named = tt
item_named (x ∷ indexes) zero named = named.0
item_named (x ∷ indexes) (suc place) named = item_named indexes place named.1

plan_named : (plan : Option (ℕ × Condition)) (indexes : List IndexForm) → Named indexes → IsNamed (name_at plan indexes)
plan_named None indexes named = tt
plan_named (Some plan) indexes named = item_named indexes plan.0 named

way_named : (name : Option (List ℕ)) → IsNamed name → IsNamed (index_name (way_by name))
way_named None named = tt
way_named (Some name) named = named

pub explained_named : (namespace : List ℕ) (filter : Members) (state : State) → AreSoundIndexes state → IsNamed (index_name (explained namespace filter state.catalog).way)
explained_named namespace filter state all = by_view (is_view namespace state.catalog.views)
  where
    there_named : (there : Option Standing) → Named (collection_at there).indexes → IsNamed (index_name (explained_at filter there).way)
    there_named None named = tt
    there_named (Some (collection c)) named = way_named (index_chosen filter c.indexes) (plan_named (chosen filter (paths_of c.indexes)) c.indexes named)

    by_view : (b : Bool) → IsNamed (index_name (if b then record { way = over_view; documents = length (stored.rows_of namespace state.catalog) } else explained_at filter (finite.get state.catalog.namespaces namespace)).way)
    by_view true = tt
    by_view false = there_named (finite.get state.catalog.namespaces namespace) (all namespace)
