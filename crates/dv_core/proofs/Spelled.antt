-- Every reply can be encoded.
use Rattle.std.proofs.lemmas.Bool.{ltb-true}
use Rattle.std.proofs.Common.{◌≡◌, ◌⊎◌, inl, inr, ℤ, ◌&&◌, ℕ, suc, ◌*◌, ◌≤◌, ◌<◌, ◌^◌, ◌-◌, min, Bool, true, false, not, Option, Some, None, nat_lt, List, [], ◌∷◌, ◌++◌, length, map, pos, negsuc, Result, Ok, Err, if◌then◌else◌, refl, sym, ap, subst, arith}
use Rattle.std.proofs.lemmas.Bool.Decides.{nat_tests}
use Rattle.std.specs.List.{list_all, list_any}
use Rattle.std.specs.Prelude.{codes}
use Rattle.std.specs.Str.{bytes_eq}
use Rattle.dv_value.specs.declared.fault.BsonFault.TheVariants.{NoMemory}
use Rattle.dv_value.specs.Names.{has_name}
use Rattle.dv_value.specs.Spelling.{spelling, IsValue, AreFields, AreElements}
use Rattle.dv_value.specs.Tree.{Tree, int64, string, array, Field, fields_of, list_of_fields, elements_of}
use Rattle.dv_command.specs.Asked.{Asked, ViewOn, hello, ping, find, aggregate, get_more, kill_cursors, create, drop, create_indexes, drop_indexes, explain, view_stats, asked_by}
use Rattle.dv_command.specs.Asked as asking
use Rattle.dv_command.specs.Replies.{document_of, count, long_count, drop_reply, reply_of, first_batch_reply, kill_cursors_reply, create_indexes_reply, drop_indexes_reply, view_stats_reply}
use Rattle.dv_value.specs.Results.{◌>>=◌}
use Rattle.dv_command.specs.declared.command.Command.{Command}
use Rattle.dv_core.specs.declared.outcome.Outcome.TheVariants.{Wanting}
use Rattle.dv_refusal.specs.declared.refusal.Refusal.{Refusal}
use Rattle.dv_refusal.specs.declared.refusal.Refusal.TheVariants.{BadValue, ConflictingUpdateOperators, DuplicateKey, WantOfMemory, TooLarge, LimitReached, NamespaceNotFound, IndexNotFound, CursorNotFound, NamespaceExists, OnView, ReadByView}
use Rattle.dv_catalog.specs.Scan.{scan}
use Rattle.dv_catalog.specs.IndexMaking.{Explained, Way, over_view, by_index, over_all, explained, indexes_created, indexes_dropped, with_all as with_all_entries, unless_broken, with_entries, with_index, without_named, within_limit}
use Rattle.dv_views.specs.Forms.{ViewForm}
use Rattle.dv_views.specs.declared.fault.ViewFault.{ViewFault}
use Rattle.dv_views.specs.declared.fault.ViewFault.TheVariants.{Exists, NoMemory}
use Rattle.dv_views.specs.declared.fault.ViewFault.TheVariants as faults
use Rattle.dv_catalog.specs.State.{Collection, collection_of, indexes_of, is_collection, is_there, is_view, rows_of}
use Rattle.dv_core.specs.State.{State, marked}
use Rattle.dv_core.specs.Stats.{told_of}
use Rattle.dv_catalog.specs.Marks.{Stats, stats_of}
use Rattle.dv_cursor.specs.Batch.{batch, rows_behind, total_size}
use Rattle.dv_cursor.specs.Cursors.{Cursors, added, free_id}
use Rattle.dv_cursor.specs.Inner.Runs.{IsWithinBatch}
use Rattle.dv_keyed.specs.Index.{IndexForm, id_form}
use Rattle.dv_index.specs.Indexed.{is_dropped, without_index}
use Rattle.dv_catalog.specs.State as states
use Rattle.dv_catalog.specs.Views.{aggregated, created, dropped, made, reads_name, with_view, with_view_by, with_views}
use Rattle.dv_core.specs.Statements.{WriteSteps, Written, carry_out}
use Rattle.dv_core.specs.Step.{Answer, answered, read_answer, write_answer, on_catalog, on_cursors, answer_to, step, asked_write}
use Rattle.dv_pipe.specs.Laws.{AreSpellable}
use Rattle.dv_command.specs.Inner.Sound.{AreIds, IsNamespace, IsSoundRequest}
use Rattle.dv_core.specs.Writes.{write_by}
use Rattle.dv_core.proofs.Bare.{BareCut, BareStep, BareWriteCut}
use Rattle.dv_core.proofs.Viewed.{PipesStayValid, gathered_valid, rows_valid}
use Rattle.dv_core.proofs.Named.{IsNamed, explained_named}
use Rattle.dv_core.proofs.Asking.{AsksSoundly, body_fits, body_size, soundly_asked}
use Rattle.dv_catalog.specs.Inner.ScanLaws.{all_scanned}
use Rattle.dv_core.specs.Find.{has_too_large, reply_to_find, reply_to_aggregate, kept, kept_under, kept_by_cursor, replied}
use Rattle.dv_core.specs.Indexes.{explained_reply, form_asked, index_count, index_name}
use Rattle.dv_core.specs.More.{gone_ids, id_behind, missing_ids, next_of, cursor_number, rows_asked, rows_wanted, went_each}
use Rattle.dv_core.specs.Sound.{AreShown, AreSoundCursors, HasSpelling, IsBounded, IsSound, IsSoundCommand}
use Rattle.dv_core.specs.Storable.{is_within_limits}
use Rattle.dv_value.specs.Inner.Spelled.{length-int64, length-string}
use Rattle.dv_core.proofs.Spellings.{spelling-field, sizes, array-bound}
use Rattle.dv_core.proofs.Texts.{are_ascii, IsUtf8-ascii}
use Rattle.dv_core.proofs.SpelledRows.{first_name, id_valid, more_valid, next_name, ok_fields, ok_size, ok_valid, ping_spelled, rows_spelled, spelled}
use Rattle.dv_core.proofs.SpelledErrors.{CountsAreValid, IsTellable, count_size, cut_spelled, front_all, write_spelled, write_tellable}
use Rattle.dv_core.proofs.SpelledRefusals.{hello_spelled, refusal_spelled}

-- ---- batches

-- what holds of batches, by the laws of cursors
pub record BatchLaws : Type 0 where
  pub front : (count : ℕ) (rows : List (List Field)) → batch count rows ++ rows_behind count rows ≡ rows
  pub within : (count : ℕ) (rows : List (List Field)) → IsWithinBatch count (batch count rows)

limited : (size depth : ℕ) → (not (nat_lt 16777216 size) && not (nat_lt 100 depth)) ≡ true → size ≤ 16777216
limited size depth is = grind (arith, nat_tests)

pub both_hold : (a b : Bool) → not (a && b) ≡ false → (a ≡ true) × (b ≡ true)
both_hold true true is = (refl, refl)
both_hold true false is = absurd cc
both_hold false b is = absurd cc

-- one row that isn't too large, or rows within the limit
within_limit_by : (rows others : List (List Field)) → has_too_large (rows ++ others) ≡ false → (length rows ≤ 1) ⊎ (total_size rows ≤ 16777216) → total_size rows ≤ 16777216
within_limit_by rows others fit (inr few) = few
within_limit_by [] others fit (inl one) = omega arith
within_limit_by (row ∷ []) others fit (inl one) =
    let first = both_hold (is_within_limits row) (list_all is_within_limits others) fit in
    omega (arith, limited (length (spelling row)) _ first.0)
within_limit_by (row ∷ other ∷ rows) others fit (inl one) = absurd (omega arith)

module _ (laws : BatchLaws) (count : ℕ) (rows : List (List Field)) where
  batch_valid : AreSpellable rows → AreSpellable (batch count rows)
  batch_valid valid = front_all (λ d. AreFields (fields_of d)) (batch count rows) (rows_behind count rows) (subst AreSpellable (sym (laws.front count rows)) valid)

  batch_within : has_too_large rows ≡ false → total_size (batch count rows) ≤ 16777216
  batch_within fit = within_limit_by (batch count rows) (rows_behind count rows) (subst (λ (rs : List (List Field)). has_too_large rs ≡ false) (sym (laws.front count rows)) fit) (laws.within count rows).1

-- the reply can be encoded; or, if the command is refused, the numbers in the refusal are bounded
record IsSpelledSo {S : Type 0} (defined : Result (List Field × S) Refusal) : Type 0 where
  reply : (done : List Field × S) → defined ≡ Ok done → HasSpelling done.0
  refusal : (why : Refusal) → defined ≡ Err why → IsBounded why

cursors_spelled : (old : State) (defined : Result (List Field × Cursors) Refusal) → IsSpelledSo defined → HasSpelling (answered old (on_cursors old defined)).reply
cursors_spelled old (Ok done) so = so.reply done refl
cursors_spelled old (Err refusal) so = refusal_spelled refusal (so.refusal refusal refl)

is_refused : {S : Type 0} (why : Refusal) → IsBounded why → IsSpelledSo {S = S} (Err why)
is_refused why told = record { reply = λ done is. absurd cc; refusal = λ other is. let same : why ≡ other = cc in subst IsBounded same told }

is_told : {S : Type 0} (done : List Field × S) → HasSpelling done.0 → IsSpelledSo (Ok done)
is_told {S} done spelt = record { reply = λ other is. let same : done ≡ other = cc in subst (λ (d : List Field × S). HasSpelling d.0) same spelt; refusal = λ why is. absurd cc }

module _ (laws : BatchLaws) (namespace : List ℕ) (named : IsNamespace namespace) (count : ℕ) (rows : List (List Field)) (valid : AreSpellable rows) where
  replied_spelled : (id : ℕ × Cursors) → id.0 < 2 ^ 63 → (b : Bool) → has_too_large rows ≡ b
      → IsSpelledSo (if b then Err TooLarge else Ok (first_batch_reply namespace id.0 (map document_of (batch count rows)), id.1))
  replied_spelled id fits true is = is_refused TooLarge tt
  replied_spelled id fits false is = is_told _ (rows_spelled (codes "firstBatch") first_name namespace named.0 named.1 id.0 fits (batch count rows) (batch_valid laws count rows valid) (batch_within laws count rows is))

  under_spelled : (session : ℕ) (left : List (List Field)) (cursors : Cursors) (id : Option ℕ) → ((i : ℕ) → id ≡ Some i → i < 2 ^ 63) → IsSpelledSo (kept_under id session namespace left cursors >>= replied namespace count rows)
  under_spelled session left cursors None fits = is_refused LimitReached tt
  under_spelled session left cursors (Some id) fits = replied_spelled (id, added session namespace left cursors) (fits id refl) (has_too_large rows) refl

  free_fits : (b c : Bool) (next id : ℕ) → nat_lt next (2 ^ 63) ≡ c → (if b && c then Some next else None) ≡ Some id → id < 2 ^ 63
  free_fits true true next id small is = let same : next ≡ id = cc in subst (λ (n : ℕ). n < 2 ^ 63) same (ltb-true next (2 ^ 63) small)
  free_fits true false next id small is = absurd cc
  free_fits false c next id small is = absurd cc

  first_spelled : (session : ℕ) (left : List (List Field)) (cursors : Cursors) → IsSpelledSo (kept session namespace left cursors >>= replied namespace count rows)
  first_spelled session [] cursors = replied_spelled (0, cursors) (omega arith) (has_too_large rows) refl
  first_spelled session (row ∷ left) cursors = under_spelled session (row ∷ left) cursors (free_id cursors) (λ id is. free_fits _ _ cursors.next id refl is)

  id_fits : (id : ℕ) (left : List (List Field)) → id < 2 ^ 63 → id_behind id left < 2 ^ 63
  id_fits id [] fits = omega arith
  id_fits id (row ∷ left) fits = fits

-- an id that fits in an int64
number_small : (id : ℤ) → IsValue (int64 id) → cursor_number id < 2 ^ 63
number_small (pos n) fits = omega arith
number_small (negsuc n) fits = omega arith

next_spelled : BatchLaws → (session : ℕ) (namespace : List ℕ) → IsNamespace namespace → (id count : ℕ) → id < 2 ^ 63 → (rows : Option (List (List Field))) (cursors : Cursors) → AreShown rows → IsSpelledSo (next_of session namespace id count rows cursors)
next_spelled laws session namespace named id count fits None cursors shown = is_refused CursorNotFound tt
next_spelled laws session namespace named id count fits (Some rows) cursors shown =
    let many : ℕ = rows_wanted count rows in
    is_told _ (rows_spelled (codes "nextBatch") next_name namespace named.0 named.1 (id_behind id (rows_behind many rows)) (id_fits laws namespace named many rows shown.0 id (rows_behind many rows) fits)
    (batch many rows) (batch_valid laws many rows shown.0) (batch_within laws many rows shown.1))

asked_shown : (session : ℕ) (namespace : List ℕ) (id : ℤ) (state : State) → AreSoundCursors state → AreShown (rows_asked session namespace id state.cursors)
asked_shown session namespace (pos id) state all = all session namespace id
asked_shown session namespace (negsuc n) state all = tt

-- ---- ids of cursors

-- values of 8 bytes
record AreNumbers (most : ℕ) (vs : List Tree) : Type 0 where
  valid : AreElements (elements_of vs)
  few : length vs ≤ most
  size : sizes vs ≤ 8 * length vs

number_more : (most : ℕ) (id : ℤ) (vs : List Tree) → IsValue (int64 id) → AreNumbers most vs → AreNumbers (suc most) (int64 id ∷ vs)
number_more most id vs valid all = record { valid = (valid, all.valid); few = omega (arith, all.few); size = omega (arith, length-int64 id, all.size) }

number_less : (most : ℕ) (vs : List Tree) → AreNumbers most vs → AreNumbers (suc most) vs
number_less most vs all = record { valid = all.valid; few = omega (arith, all.few); size = all.size }

gone_numbers : (ids : List ℤ) (went : List Bool) → AreIds ids → AreNumbers (length ids) (gone_ids ids went)
gone_numbers [] went valid = record { valid = tt; few = omega arith; size = omega arith }
gone_numbers (id ∷ ids) [] valid = record { valid = tt; few = omega arith; size = omega arith }
gone_numbers (id ∷ ids) (true ∷ went) valid = number_more (length ids) id (gone_ids ids went) valid.0 (gone_numbers ids went valid.1)
gone_numbers (id ∷ ids) (false ∷ went) valid = number_less (length ids) (gone_ids ids went) (gone_numbers ids went valid.1)

missing_numbers : (ids : List ℤ) (went : List Bool) → AreIds ids → AreNumbers (length ids) (missing_ids ids went)
missing_numbers [] went valid = record { valid = tt; few = omega arith; size = omega arith }
missing_numbers (id ∷ ids) [] valid = record { valid = tt; few = omega arith; size = omega arith }
missing_numbers (id ∷ ids) (true ∷ went) valid = number_less (length ids) (missing_ids ids went) (missing_numbers ids went valid.1)
missing_numbers (id ∷ ids) (false ∷ went) valid = number_more (length ids) id (missing_ids ids went) valid.0 (missing_numbers ids went valid.1)

killed_spelled : (most : ℕ) (gone missing : List Tree) → most ≤ 16777216 → AreNumbers most gone → AreNumbers most missing → HasSpelling (kill_cursors_reply gone missing)
killed_spelled most gone missing few all others =
    let more : List Field = (codes "cursorsNotFound", array (elements_of missing)) ∷ ok_fields in
    spelled ((codes "cursorsKilled", array (elements_of gone)) ∷ more)
    (more_valid (codes "cursorsKilled") (array (elements_of gone)) more refl refl refl all.valid (more_valid (codes "cursorsNotFound") (array (elements_of missing)) ok_fields refl refl refl others.valid ok_valid))
    (omega (
      arith,
      spelling-field (codes "cursorsKilled", array (elements_of gone)) more,
      spelling-field (codes "cursorsNotFound", array (elements_of missing)) ok_fields,
      ok_size,
      array-bound gone (omega (arith, all.few)),
      array-bound missing (omega (arith, others.few)),
      all.size,
      all.few,
      others.size,
      others.few,
    ))

-- ---- writes

write_or_refusal : (old : State) (b : Bool) (write : WriteSteps) (did : Written) → HasSpelling (write.reply did.n did.changed did.errors) → HasSpelling (answered old (if b then Err OnView else Ok (write_answer old write did))).reply
write_or_refusal old true write did spelt = refusal_spelled OnView tt
write_or_refusal old false write did spelt = spelt

-- something is made, or the numbers in the refusal are bounded
abbrev IsToldOf : {A : Type 0} → Result A Refusal → Type 0
IsToldOf (Ok x) = Unit {0}
IsToldOf (Err refusal) = IsBounded refusal

catalog_spelled : (old : State) (reply : states.State → List Field) (made : Result states.State Refusal) → ((left : states.State) → HasSpelling (reply left)) → IsToldOf made
    → HasSpelling (answered old (on_catalog old (made >>= λ left. Ok (reply left, left)))).reply
catalog_spelled old reply (Ok new) spelt told = spelt new
catalog_spelled old reply (Err refusal) spelt told = refusal_spelled refusal told

view_told : (fault : Option ViewFault) (v : ViewForm) (views : List ViewForm) → IsToldOf (with_view_by v views fault)
view_told None v views = tt
view_told (Some Exists) v views = tt
view_told (Some faults.ReadByView) v views = tt
view_told (Some faults.LimitReached) v views = tt
view_told (Some NoMemory) v views = tt

with_views_told : (state : states.State) (result : Result (List ViewForm) Refusal) → IsToldOf result → IsToldOf (with_views state result)
with_views_told state (Ok views) told = tt
with_views_told state (Err refusal) told = told

made_told : (namespace : List ℕ) (view : Option ViewOn) (state : states.State) → IsToldOf (made namespace view state)
made_told namespace None state = tt
made_told namespace (Some on) state = with_views_told state (with_view (record { name = namespace; source = on.source; stages = on.stages }) state.views) (view_told _ _ _)

created_told : (b : Bool) (namespace : List ℕ) (view : Option ViewOn) (state : states.State) → IsToldOf (if b then Err NamespaceExists else made namespace view state)
created_told true namespace view state = tt
created_told false namespace view state = made_told namespace view state

dropped_told : (a b c : Bool) (one other : states.State) → IsToldOf (if a then Ok one else if b then (if c then Err ReadByView else Ok other) else Err NamespaceNotFound)
dropped_told true b c one other = tt
dropped_told false true true one other = tt
dropped_told false true false one other = tt
dropped_told false false c one other = tt

drop_spelled : (namespace : List ℕ) → IsNamespace namespace → HasSpelling (drop_reply namespace)
drop_spelled namespace named =
    spelled ((codes "ns", string namespace) ∷ ok_fields) (more_valid (codes "ns") (string namespace) ok_fields refl refl refl named.0 ok_valid)
    (omega (arith, spelling-field (codes "ns", string namespace) ok_fields, length-string namespace, named.1, ok_size))

-- ---- indexes

with_index_told : (a b : Bool) (one other : List IndexForm) → IsToldOf (if a then Ok one else if b then Err ConflictingUpdateOperators else Ok other)
with_index_told true b one other = tt
with_index_told false true one other = tt
with_index_told false false one other = tt

then_told : {A B : Type 0} (result : Result A Refusal) (more : A → Result B Refusal) → IsToldOf result → ((x : A) → IsToldOf (more x)) → IsToldOf (result >>= more)
then_told (Ok x) more told others = others x
then_told (Err refusal) more told others = told

with_entries_told : (entries indexes : List IndexForm) → IsToldOf (with_entries entries indexes)
with_entries_told [] indexes = tt
with_entries_told (x ∷ xs) indexes = then_told (with_index x indexes) _ (with_index_told _ _ indexes _) (λ more. with_entries_told xs more)

limit_told : (b : Bool) (indexes : List IndexForm) → IsToldOf (if b then Err LimitReached else Ok indexes)
limit_told true indexes = tt
limit_told false indexes = tt

broken_told : (b : Bool) (indexes : List IndexForm) → IsToldOf (if b then Err DuplicateKey else Ok indexes)
broken_told true indexes = tt
broken_told false indexes = tt

view_or : {A : Type 0} (b : Bool) (result : Result A Refusal) → IsToldOf result → IsToldOf (if b then Err OnView else result)
view_or true result told = tt
view_or false result told = told

indexed_told : (namespace : List ℕ) (entries : List IndexForm) (state : states.State) → IsToldOf (indexes_created namespace entries state)
indexed_told namespace entries state =
    let c : Collection = collection_of namespace state.namespaces in
    let within = then_told (with_entries entries c.indexes) within_limit (with_entries_told entries c.indexes) (λ made. limit_told _ made) in
    view_or (is_view namespace state.views) _
    (then_told (with_all_entries entries c) _ (then_told (with_entries entries c.indexes >>= within_limit) (unless_broken c) within (λ made. broken_told _ made)) (λ made. tt))

without_told : (a b c : Bool) (one other : List IndexForm) → IsToldOf (if a then Ok one else if b then Err BadValue else if c then Ok other else Err IndexNotFound)
without_told true b c one other = tt
without_told false true c one other = tt
without_told false false true one other = tt
without_told false false false one other = tt

there_or : {A : Type 0} (b : Bool) (result : Result A Refusal) → IsToldOf result → IsToldOf (if b then result else Err NamespaceNotFound)
there_or true result told = told
there_or false result told = tt

unindexed_told : (namespace name : List ℕ) (state : states.State) → IsToldOf (indexes_dropped namespace name state)
unindexed_told namespace name state =
    view_or (is_view namespace state.views) _
    (there_or (is_collection namespace state.namespaces) _ (then_told (without_named name (indexes_of namespace state.namespaces)) _ (without_told (bytes_eq name (codes "*")) (bytes_eq name id_form.name) (list_any (is_dropped name) (indexes_of namespace state.namespaces)) (id_form ∷ []) (without_index name (indexes_of namespace state.namespaces))) (λ made. tt)))

made_indexes_spelled : CountsAreValid → (before after : ℕ) → HasSpelling (create_indexes_reply before after)
made_indexes_spelled counts before after =
    let more : List Field = (codes "numIndexesAfter", count after) ∷ ok_fields in
    spelled ((codes "numIndexesBefore", count before) ∷ more)
    (more_valid (codes "numIndexesBefore") (count before) more refl refl refl (counts before) (more_valid (codes "numIndexesAfter") (count after) ok_fields refl refl refl (counts after) ok_valid))
    (omega (arith, spelling-field (codes "numIndexesBefore", count before) more, count_size before, spelling-field (codes "numIndexesAfter", count after) ok_fields, count_size after, ok_size))

dropped_indexes_spelled : CountsAreValid → (before : ℕ) → HasSpelling (drop_indexes_reply before)
dropped_indexes_spelled counts before =
    spelled ((codes "nIndexesWas", count before) ∷ ok_fields) (more_valid (codes "nIndexesWas") (count before) ok_fields refl refl refl (counts before) ok_valid)
    (omega (arith, spelling-field (codes "nIndexesWas", count before) ok_fields, count_size before, ok_size))

-- the stage, which is one of three words
staged : (stage : List ℕ) (rest : List Field) (n : ℕ) → are_ascii stage ≡ true → length stage ≤ 8 → has_name (codes "stage") (list_of_fields (fields_of rest)) ≡ false → AreFields (fields_of rest) → length (spelling rest) ≤ 300 → HasSpelling ((codes "stage", string stage) ∷ rest)
staged stage rest n ascii short fresh valid size =
    spelled ((codes "stage", string stage) ∷ rest) (more_valid (codes "stage") (string stage) rest refl refl fresh (IsUtf8-ascii stage ascii) valid)
    (omega (arith, spelling-field (codes "stage", string stage) rest, length-string stage))

docs_valid : (n : ℕ) → AreFields (fields_of ((codes "docs", long_count n) ∷ ok_fields))
docs_valid n = more_valid (codes "docs") (long_count n) ok_fields refl refl refl (id_valid (min n (2 ^ 63 - 1)) (omega arith)) ok_valid

docs_size : (n : ℕ) → length (spelling ((codes "docs", long_count n) ∷ ok_fields)) ≤ 40
docs_size n = omega (arith, spelling-field (codes "docs", long_count n) ok_fields, length-int64 (pos (min n (2 ^ 63 - 1))), ok_size)

explained_spelled : (way : Way) (n : ℕ) → IsNamed (index_name way) → HasSpelling (explained_reply (record { way = way; documents = n }))
explained_spelled over_view n named = staged (codes "VIEW") ((codes "docs", long_count n) ∷ ok_fields) n refl (omega arith) refl (docs_valid n) (omega (arith, docs_size n))
explained_spelled over_all n named = staged (codes "COLLSCAN") ((codes "docs", long_count n) ∷ ok_fields) n refl (omega arith) refl (docs_valid n) (omega (arith, docs_size n))
explained_spelled (by_index name) n named =
    let docs : List Field = (codes "docs", long_count n) ∷ ok_fields in
    staged (codes "IXSCAN") ((codes "index", string name) ∷ docs) n refl (omega arith) refl (more_valid (codes "index") (string name) docs refl refl refl named.0 (docs_valid n))
    (omega (arith, spelling-field (codes "index", string name) docs, length-string name, named.1, docs_size n))

-- the state of a view, which is one of two words
stated : (word : List ℕ) (rows ticks : ℕ) → are_ascii word ≡ true → length word ≤ 8 → HasSpelling ((codes "state", string word) ∷ (codes "rows", long_count rows) ∷ (codes "ticks", long_count ticks) ∷ ok_fields)
stated word rows ticks ascii short =
    let told : List Field = (codes "ticks", long_count ticks) ∷ ok_fields in
    let rest : List Field = (codes "rows", long_count rows) ∷ told in
    let ticked = more_valid (codes "ticks") (long_count ticks) ok_fields refl refl refl (id_valid (min ticks (2 ^ 63 - 1)) (omega arith)) ok_valid in
    let valid = more_valid (codes "rows") (long_count rows) told refl refl refl (id_valid (min rows (2 ^ 63 - 1)) (omega arith)) ticked in
    spelled ((codes "state", string word) ∷ rest) (more_valid (codes "state") (string word) rest refl refl refl (IsUtf8-ascii word ascii) valid)
    (omega (
      arith,
      spelling-field (codes "state", string word) rest,
      length-string word,
      spelling-field (codes "rows", long_count rows) told,
      length-int64 (pos (min rows (2 ^ 63 - 1))),
      spelling-field (codes "ticks", long_count ticks) ok_fields,
      length-int64 (pos (min ticks (2 ^ 63 - 1))),
      ok_size,
    ))

stats_spelled : (is_live : Bool) (rows ticks : ℕ) → HasSpelling (view_stats_reply is_live rows ticks)
stats_spelled true rows ticks = stated (codes "live") rows ticks refl (omega arith)
stats_spelled false rows ticks = stated (codes "stale") rows ticks refl (omega arith)

told_spelled : (state : State) (stats : Option Stats) → HasSpelling (answered state (read_answer state (told_of stats))).reply
told_spelled state None = refusal_spelled NamespaceNotFound tt
told_spelled state (Some s) = stats_spelled s.is_live s.rows s.ticks

module _ (asks : AsksSoundly) (counts : CountsAreValid) (laws : BatchLaws) (pipes : PipesStayValid) where
  asked_spelled : (state : State) (session size : ℕ) (asked : Asked) → size ≤ 16777216 → IsSoundRequest size asked → IsSound state → HasSpelling (answered state (answer_to state session asked)).reply
  asked_spelled state session size hello fits sound all = hello_spelled
  asked_spelled state session size ping fits sound all = ping_spelled
  asked_spelled state session size (asking.write w) fits sound all =
      write_or_refusal state (is_view w.namespace state.catalog.views) (write_by w) (carry_out (write_by w) state.catalog.namespaces)
      (write_spelled (write_by w) state.catalog.namespaces (write_tellable counts w sound.2))
  asked_spelled state session size (find f) fits sound all =
      let rows : List (List Field) = rows_of f.namespace state.catalog in
      let shown : List (List Field) = scan f.filter f.sort f.skip f.limit rows in
      cursors_spelled state (reply_to_find session f state.catalog state.cursors)
      (first_spelled laws f.namespace sound f.batch_size shown (all_scanned (λ d. AreFields (fields_of d)) f.filter f.sort f.skip f.limit rows (rows_valid pipes state all.documents all.views f.namespace)) session (kept_by_cursor f.batch_size f.single_batch shown) state.cursors)
  asked_spelled state session size (aggregate a) fits sound all =
      let rows : List (List Field) = aggregated a.stages a.namespace state.catalog in
      cursors_spelled state (reply_to_aggregate session a state.catalog state.cursors)
      (first_spelled laws a.namespace sound.0 a.batch_size rows (gathered_valid pipes state all.documents all.views a.stages a.namespace sound.1) session (kept_by_cursor a.batch_size false rows) state.cursors)
  asked_spelled state session size (get_more g) fits sound all =
      cursors_spelled state (next_of session g.namespace (cursor_number g.id) g.batch_size (rows_asked session g.namespace g.id state.cursors) state.cursors)
      (next_spelled laws session g.namespace sound.0 (cursor_number g.id) g.batch_size (number_small g.id sound.1) (rows_asked session g.namespace g.id state.cursors) state.cursors (asked_shown session g.namespace g.id state all.cursors))
  asked_spelled state session size (kill_cursors k) fits sound all =
      let went : List Bool = went_each session k.namespace k.ids state.cursors in
      killed_spelled (length k.ids) (gone_ids k.ids went) (missing_ids k.ids went) (omega (arith, sound.2, fits)) (gone_numbers k.ids went sound.1) (missing_numbers k.ids went sound.1)
  asked_spelled state session size (create c) fits sound all =
      catalog_spelled state (λ left. reply_of []) (created c.namespace c.view state.catalog) (λ left. ping_spelled) (created_told (is_there c.namespace state.catalog) c.namespace c.view state.catalog)
  asked_spelled state session size (drop d) fits sound all =
      catalog_spelled state (λ left. drop_reply d.namespace) (dropped d.namespace state.catalog) (λ left. drop_spelled d.namespace sound) (dropped_told (is_collection d.namespace state.catalog.namespaces) (is_view d.namespace state.catalog.views) (reads_name state.catalog.views d.namespace) _ _)
  asked_spelled state session size (create_indexes c) fits sound all =
      catalog_spelled state (λ left. create_indexes_reply (index_count c.namespace state.catalog) (index_count c.namespace left)) (indexes_created c.namespace (map form_asked c.indexes) state.catalog) (λ left. made_indexes_spelled counts _ _)
      (indexed_told c.namespace (map form_asked c.indexes) state.catalog)
  asked_spelled state session size (drop_indexes d) fits sound all =
      catalog_spelled state (λ left. drop_indexes_reply (index_count d.namespace state.catalog)) (indexes_dropped d.namespace d.index state.catalog) (λ left. dropped_indexes_spelled counts _) (unindexed_told d.namespace d.index state.catalog)
  asked_spelled state session size (explain e) fits sound all =
      let how : Explained = explained e.find.namespace e.find.filter state.catalog in
      explained_spelled how.way how.documents (explained_named e.find.namespace e.find.filter state all.indexes)
  asked_spelled state session size (view_stats v) fits sound all = told_spelled state (stats_of v.namespace (marked state))

  pub replies_spelled : (state : State) (session : ℕ) (command : Command) (asked : Asked) → IsSoundCommand command → IsSound state → asked_by command ≡ Ok asked → HasSpelling (step state session command).reply
  replies_spelled state session command asked sound all is =
      let carried : (step state session command).reply ≡ (answered state (answer_to state session asked)).reply = ap (λ (r : Result Asked Refusal). (answered state (r >>= answer_to state session)).reply) is in
      subst HasSpelling (sym carried) (asked_spelled state session (body_size command) asked (body_fits command sound) (soundly_asked asks command asked sound is) all)

-- ---- running out of memory

module _ (asks : AsksSoundly) (counts : CountsAreValid) where
  -- the reply of a write that is cut
  left_spelled : (old : State) (write : WriteSteps) (answer : Answer) → IsTellable write → BareWriteCut old (Some write) answer → HasSpelling answer.reply
  left_spelled old write answer is (on, (left, is_cut, answers)) = subst (λ (a : Answer). HasSpelling a.reply) (sym answers) (cut_spelled counts write old.catalog.namespaces left is is_cut)

  asked_cut_spelled : (old : State) (size : ℕ) (what : Asked) (answer : Answer) → IsSoundRequest size what → BareWriteCut old (asked_write what) answer → HasSpelling answer.reply
  asked_cut_spelled old size (asking.write w) answer sound cut = left_spelled old (write_by w) answer (write_tellable counts w sound.2) cut
  asked_cut_spelled old size what answer sound cut = absurd cut

  any_cut_spelled : (old : State) (command : Command) (asked : Result Asked Refusal) (answer : Answer) → asked_by command ≡ asked → IsSoundCommand command → BareCut old asked answer → HasSpelling answer.reply
  any_cut_spelled old command (Ok what) answer is sound cut = asked_cut_spelled old (body_size command) what answer (soundly_asked asks command what sound is) cut
  any_cut_spelled old command (Err refusal) answer is sound cut = absurd cut

  pub wanting_spelled : (old new : State) (session : ℕ) (command : Command) (reply : List Field) → IsSoundCommand command → BareStep old session command (Wanting reply) new → HasSpelling reply
  wanting_spelled old new session command reply sound (inl refused) = subst (λ (a : Answer). HasSpelling a.reply) (sym refused) (refusal_spelled WantOfMemory tt)
  wanting_spelled old new session command reply sound (inr cut) = any_cut_spelled old command (asked_by command) (record { reply = reply; state = new }) refl sound cut
