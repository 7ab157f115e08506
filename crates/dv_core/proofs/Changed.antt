-- What a step may change: nothing, or what a write does.
use Rattle.std.proofs.Common.{◌≡◌, ◌⊎◌, ◌≤◌, ℕ, Bool, true, false, cond, if◌then◌else◌, List, [], ◌∷◌, length, map, Option, Some, None, Result, Ok, Err, pos, inl, inr, refl, sym, ap, subst, ◌∙◌, arith}
use Rattle.std.specs.Prelude.{codes}
use Rattle.dv_value.specs.Names.{value_under}
use Rattle.dv_value.specs.Tree.{Tree, Field, int32}
use Rattle.dv_command.specs.Asked.{Asked, find, aggregate, get_more, kill_cursors, create, drop, create_indexes, drop_indexes, asked_by}
use Rattle.dv_command.specs.Asked as asking
use Rattle.dv_value.specs.Results.{◌>>=◌}
use Rattle.dv_command.specs.Replies.{reply_of, drop_reply, first_batch_reply, create_indexes_reply, drop_indexes_reply, document_of, count, errors_field}
use Rattle.dv_refusal.specs.declared.refusal.Refusal.TheVariants.{OnView, TooLarge}
use Rattle.dv_command.specs.declared.asking.WriteKind.{WriteKind}
use Rattle.dv_command.specs.declared.asking.WriteKind.TheVariants.{Insert, Update, Delete}
use Rattle.dv_command.specs.declared.command.Command.{Command}
use Rattle.dv_refusal.specs.declared.refusal.Refusal.{Refusal}
use Rattle.dv_core.specs.declared.outcome.Outcome.{Outcome}
use Rattle.dv_core.specs.declared.outcome.Outcome.TheVariants.{Reply, Wanting, NoReply}
use Rattle.dv_catalog.specs.Changes.{Effect, Statement, done_to}
use Rattle.dv_core.specs.Find.{has_too_large, replied, reply_to_find, reply_to_aggregate}
use Rattle.dv_core.specs.Indexes.{form_asked, index_count}
use Rattle.dv_core.specs.More.{next_batch, next_of, cursor_number, rows_asked}
use Rattle.dv_cursor.specs.Batch.{batch}
use Rattle.dv_cursor.specs.Cursors.{Cursors}
use Rattle.dv_catalog.specs.IndexMaking.{indexes_created, indexes_dropped}
use Rattle.dv_catalog.specs.State.{Namespaces, collection_of, is_view}
use Rattle.dv_catalog.specs.State as stored
use Rattle.dv_core.specs.State.{State}
use Rattle.dv_catalog.specs.Views.{created, dropped}
use Rattle.dv_core.specs.Statements.{WriteSteps, Written, nothing_written, carry_out, with_all, with_next, with_result, is_due, IsCutWrite}
use Rattle.dv_core.specs.Step.{Answer, answered, read_answer, write_answer, on_catalog, on_cursors, answer_to, step, asked_write, makes, moves, Task, answer_of, telling, task_of}
use Rattle.dv_core.specs.Writes.{reply_by, write_by}
use Rattle.dv_core.proofs.Bare.{BareCut, BareStep, BareWants, BareWriteCut}

-- what a write did, whether it was cut or not
abbrev pub Did : WriteSteps → State → Written → Type 0
Did write old did = (did ≡ carry_out write old.catalog.namespaces) ⊎ IsCutWrite write old.catalog.namespaces did

-- the answer of a write
pub record Writes (old : State) (asked : Result Asked Refusal) (answer : Answer) : Type 0 where
  pub what : Asked
  pub write : WriteSteps
  pub did : Written
  pub asks : asked ≡ Ok what
  pub is_write : asked_write what ≡ Some write
  pub did_so : Did write old did
  pub answers : answer ≡ write_answer old write did

-- the value under "ok"
abbrev pub told : List Field → Option Tree
told reply = value_under (codes "ok") reply

-- the collections and views after a command that creates or drops something; one on cursors leaves these unchanged
abbrev pub Made : State → Asked → State → Type 0
Made old (create c) new = (created c.namespace c.view old.catalog ≡ Ok new.catalog) × (new.cursors ≡ old.cursors)
Made old (drop d) new = (dropped d.namespace old.catalog ≡ Ok new.catalog) × (new.cursors ≡ old.cursors)
Made old (create_indexes c) new = (indexes_created c.namespace (map form_asked c.indexes) old.catalog ≡ Ok new.catalog) × (new.cursors ≡ old.cursors)
Made old (drop_indexes d) new = (indexes_dropped d.namespace d.index old.catalog ≡ Ok new.catalog) × (new.cursors ≡ old.cursors)
Made old asked new = (moves asked ≡ true) × (new.catalog ≡ old.catalog)

-- the answer of such a command
pub record Makes (old : State) (asked : Result Asked Refusal) (answer : Answer) : Type 0 where
  pub what : Asked
  pub asks : asked ≡ Ok what
  pub made : Made old what answer.state
  pub tells : told answer.reply ≡ Some (int32 (pos 1))

abbrev pub MayWrite : State → Result Asked Refusal → Answer → Type 0
MayWrite old asked answer = (answer.state ≡ old) ⊎ (Writes old asked answer ⊎ Makes old asked answer)

carried_may : (old : State) (what : Asked) (write : WriteSteps) → asked_write what ≡ Some write → (b : Bool) → MayWrite old (Ok what) (answered old (if b then Err OnView else Ok (write_answer old write (carry_out write old.catalog.namespaces))))
carried_may old what write is true = inl refl
carried_may old what write is false = inr (inl (record { what = what; write = write; did = carry_out write old.catalog.namespaces; asks = refl; is_write = is; did_so = inl refl; answers = refl }))

-- a reply that says that the command was carried out
abbrev IsTold : {S : Type 0} → Result (List Field × S) Refusal → Type 0
IsTold {S} defined = (done : List Field × S) → defined ≡ Ok done → told done.0 ≡ Some (int32 (pos 1))

catalog_may : (old : State) (what : Asked) (defined : Result (List Field × stored.State) Refusal) → IsTold defined → ((done : List Field × stored.State) → defined ≡ Ok done → Made old what (record old { catalog = done.1 }))
    → MayWrite old (Ok what) (answered old (on_catalog old defined))
catalog_may old what (Ok done) tells made = inr (inr (record { what = what; asks = refl; made = made done refl; tells = tells done refl }))
catalog_may old what (Err refusal) tells made = inl refl

cursors_may : (old : State) (what : Asked) (defined : Result (List Field × Cursors) Refusal) → IsTold defined → ((done : List Field × Cursors) → Made old what (record old { cursors = done.1 }))
    → MayWrite old (Ok what) (answered old (on_cursors old defined))
cursors_may old what (Ok done) tells made = inr (inr (record { what = what; asks = refl; made = made done; tells = tells done refl }))
cursors_may old what (Err refusal) tells made = inl refl

read_may : (old : State) (what : Asked) (result : Result (List Field) Refusal) → MayWrite old (Ok what) (answered old (read_answer old result))
read_may old what (Ok reply) = inl refl
read_may old what (Err refusal) = inl refl

-- a task that only gives a reply
abbrev OnlyTells : Task → Type 0
OnlyTells (telling result) = Unit {0}
OnlyTells work = ⊥

telling_may : (old : State) (what : Asked) (work : Task) → OnlyTells work → MayWrite old (Ok what) (answered old (answer_of old work))
telling_may old what (telling result) tells = read_may old what result
telling_may old what work tells = absurd tells

-- something that is made, with the reply to it
module _ {S : Type 0} (reply : S → List Field) where
  made_of : (made : Result S Refusal) (done : List Field × S) → (made >>= λ left. Ok (reply left, left)) ≡ Ok done → made ≡ Ok done.1
  made_of (Ok left) done is = let same : (reply left, left) ≡ done = cc in ap (λ (d : List Field × S). Ok d.1) same
  made_of (Err refusal) done is = absurd cc

  told_of : ((left : S) → told (reply left) ≡ Some (int32 (pos 1))) → (made : Result S Refusal) → IsTold (made >>= λ left. Ok (reply left, left))
  told_of tells (Ok left) done is = let same : (reply left, left) ≡ done = cc in subst (λ (d : List Field × S). told d.0 ≡ Some (int32 (pos 1))) same (tells left)
  told_of tells (Err refusal) done is = absurd cc

replied_told : (namespace : List ℕ) (count : ℕ) (rows : List (List Field)) (id : ℕ × Cursors) (b : Bool) → IsTold (if b then Err TooLarge else Ok (first_batch_reply namespace id.0 (map document_of (batch count rows)), id.1))
replied_told namespace count rows id true done is = absurd cc
replied_told namespace count rows id false done is =
    let same : (first_batch_reply namespace id.0 (map document_of (batch count rows)), id.1) ≡ done = cc in
    subst (λ (d : List Field × Cursors). told d.0 ≡ Some (int32 (pos 1))) same refl

first_told : (namespace : List ℕ) (count : ℕ) (rows : List (List Field)) (keeps : Result (ℕ × Cursors) Refusal) → IsTold (keeps >>= replied namespace count rows)
first_told namespace count rows (Ok id) = replied_told namespace count rows id (has_too_large rows)
first_told namespace count rows (Err refusal) = λ done is. absurd cc

next_told : (session : ℕ) (namespace : List ℕ) (id count : ℕ) (rows : Option (List (List Field))) (cursors : Cursors) → IsTold (next_of session namespace id count rows cursors)
next_told session namespace id count None cursors done is = absurd cc
next_told session namespace id count (Some rows) cursors done is = ap (λ (r : Result (List Field × Cursors) Refusal). told_in r) (sym is)
  where
    told_in : Result (List Field × Cursors) Refusal → Option Tree
    told_in (Ok d) = told d.0
    told_in (Err refusal) = None

step_may : (old : State) (session : ℕ) (asked : Result Asked Refusal) → MayWrite old asked (answered old (asked >>= answer_to old session))
step_may old session (Err refusal) = inl refl
step_may old session (Ok (asking.write w)) = carried_may old (asking.write w) (write_by w) refl (is_view w.namespace old.catalog.views)
step_may old session (Ok (find f)) = cursors_may old (find f) (reply_to_find session f old.catalog old.cursors) (first_told f.namespace f.batch_size _ _) (λ done. (refl, refl))
step_may old session (Ok (aggregate a)) = cursors_may old (aggregate a) (reply_to_aggregate session a old.catalog old.cursors) (first_told a.namespace a.batch_size _ _) (λ done. (refl, refl))
step_may old session (Ok (get_more g)) =
    cursors_may old (get_more g) (next_batch session g old.cursors) (next_told session g.namespace (cursor_number g.id) g.batch_size (rows_asked session g.namespace g.id old.cursors) old.cursors) (λ done. (refl, refl))
step_may old session (Ok (kill_cursors k)) = inr (inr (record { what = kill_cursors k; asks = refl; made = (refl, refl); tells = refl }))
step_may old session (Ok (create c)) =
    let made = created c.namespace c.view old.catalog in
    catalog_may old (create c) _ (told_of (λ left. reply_of []) (λ left. refl) made) (λ done is. (made_of (λ left. reply_of []) made done is, refl))
step_may old session (Ok (drop d)) =
    let made = dropped d.namespace old.catalog in
    catalog_may old (drop d) _ (told_of (λ left. drop_reply d.namespace) (λ left. refl) made) (λ done is. (made_of (λ left. drop_reply d.namespace) made done is, refl))
step_may old session (Ok (create_indexes c)) =
    let made = indexes_created c.namespace (map form_asked c.indexes) old.catalog in
    let reply : stored.State → List Field = λ left. create_indexes_reply (index_count c.namespace old.catalog) (index_count c.namespace left) in
    catalog_may old (create_indexes c) _ (told_of reply (λ left. refl) made) (λ done is. (made_of reply made done is, refl))
step_may old session (Ok (drop_indexes d)) =
    let made = indexes_dropped d.namespace d.index old.catalog in
    let reply : stored.State → List Field = λ left. drop_indexes_reply (index_count d.namespace old.catalog) in
    catalog_may old (drop_indexes d) _ (told_of reply (λ left. refl) made) (λ done is. (made_of reply made done is, refl))
step_may old session (Ok asked) = telling_may old asked (task_of old session asked) tt

write_cut_may : (old : State) (what : Asked) (write : Option WriteSteps) → asked_write what ≡ write → (answer : Answer) → BareWriteCut old write answer → MayWrite old (Ok what) answer
write_cut_may old what None is answer cut = absurd cut
write_cut_may old what (Some write) is answer (on, (left, is_cut, answers)) =
    inr (inl (record { what = what; write = write; did = left; asks = refl; is_write = is; did_so = inr is_cut; answers = answers }))

cut_may : (old : State) (asked : Result Asked Refusal) (answer : Answer) → BareCut old asked answer → MayWrite old asked answer
cut_may old (Ok what) answer cut = write_cut_may old what (asked_write what) refl answer cut
cut_may old (Err refusal) answer cut = absurd cut

wants_may : (old : State) (command : Command) (answer : Answer) → BareWants old command answer → MayWrite old (asked_by command) answer
wants_may old command answer (inl refused) = inl (rw refused refl)
wants_may old command answer (inr cut) = cut_may old (asked_by command) answer cut

-- the answer that an outcome comes from
pub outcome_may : (old new : State) (session : ℕ) (command : Command) (outcome : Outcome) → BareStep old session command outcome new
    → (answer : Answer) × MayWrite old (asked_by command) answer × (new ≡ answer.state)
outcome_may old new session command (Reply reply) is = (step old session command, step_may old session (asked_by command), ap (λ (a : Answer). a.state) (sym is))
outcome_may old new session command (Wanting reply) wants = (record { reply = reply; state = new }, wants_may old command _ wants, refl)
outcome_may old new session command NoReply (inl stands) = (step old session command, step_may old session (asked_by command), stands)
outcome_may old new session command NoReply (inr (answer, wants, stands)) = (answer, wants_may old command answer wants, stands)

-- ---- what may change

-- a command that creates and drops nothing leaves the catalog unchanged, and one that moves no cursors leaves the cursors unchanged
made_catalog : (old new : State) (what : Asked) → Made old what new → makes what ≡ false → new.catalog ≡ old.catalog
made_catalog old new (create c) made idle = absurd cc
made_catalog old new (drop d) made idle = absurd cc
made_catalog old new (create_indexes c) made idle = absurd cc
made_catalog old new (drop_indexes d) made idle = absurd cc
made_catalog old new what made idle = made.1

made_cursors : (old new : State) (what : Asked) → Made old what new → moves what ≡ false → new.cursors ≡ old.cursors
made_cursors old new (create c) made idle = made.1
made_cursors old new (drop d) made idle = made.1
made_cursors old new (create_indexes c) made idle = made.1
made_cursors old new (drop_indexes d) made idle = made.1
made_cursors old new what made idle = absurd (cc (made.0, idle))

-- a command that asks for no write, and makes nothing
pub others_leave : (old new : State) (session : ℕ) (command : Command) (asked : Asked) (outcome : Outcome) → asked_by command ≡ Ok asked → asked_write asked ≡ None → makes asked ≡ false
    → BareStep old session command outcome new → new.catalog ≡ old.catalog
others_leave old new session command asked outcome asks none idle steps =
    let (answer, may, stands) = outcome_may old new session command outcome steps in
    ap (λ (s : State). s.catalog) stands ∙ leave answer may
  where
    leave : (answer : Answer) → MayWrite old (asked_by command) answer → answer.state.catalog ≡ old.catalog
    leave answer (inl same) = ap (λ (s : State). s.catalog) same
    leave answer (inr (inl w)) = let same : w.what ≡ asked = cc (w.asks, asks) in let some : asked_write asked ≡ Some w.write = rw (← same) w.is_write in absurd cc
    leave answer (inr (inr m)) = let same : m.what ≡ asked = cc (m.asks, asks) in made_catalog old answer.state m.what m.made (rw same idle)

-- a command that moves no cursors
pub cursors_stay : (old new : State) (session : ℕ) (command : Command) (asked : Asked) (outcome : Outcome) → asked_by command ≡ Ok asked → moves asked ≡ false
    → BareStep old session command outcome new → new.cursors ≡ old.cursors
cursors_stay old new session command asked outcome asks idle steps =
    let (answer, may, stands) = outcome_may old new session command outcome steps in
    ap (λ (s : State). s.cursors) stands ∙ leave answer may
  where
    leave : (answer : Answer) → MayWrite old (asked_by command) answer → answer.state.cursors ≡ old.cursors
    leave answer (inl same) = ap (λ (s : State). s.cursors) same
    leave answer (inr (inl w)) = ap (λ (a : Answer). a.state.cursors) w.answers
    leave answer (inr (inr m)) = let same : m.what ≡ asked = cc (m.asks, asks) in made_cursors old answer.state m.what m.made (rw same idle)

pub refused_leave : (old new : State) (session : ℕ) (command : Command) (refusal : Refusal) (outcome : Outcome) → asked_by command ≡ Err refusal → BareStep old session command outcome new → new ≡ old
refused_leave old new session command refusal outcome asks steps =
    let (answer, may, stands) = outcome_may old new session command outcome steps in
    stands ∙ leave answer may
  where
    leave : (answer : Answer) → MayWrite old (asked_by command) answer → answer.state ≡ old
    leave answer (inl same) = same
    leave answer (inr (inl w)) = absurd (cc (w.asks, asks))
    leave answer (inr (inr m)) = absurd (cc (m.asks, asks))

-- a command that makes nothing leaves the views
pub views_stay : (old new : State) (session : ℕ) (command : Command) (asked : Asked) (outcome : Outcome) → asked_by command ≡ Ok asked → makes asked ≡ false → BareStep old session command outcome new
    → new.catalog.views ≡ old.catalog.views
views_stay old new session command asked outcome asks idle steps =
    let (answer, may, stands) = outcome_may old new session command outcome steps in
    ap (λ (s : State). s.catalog.views) stands ∙ leave answer may
  where
    leave : (answer : Answer) → MayWrite old (asked_by command) answer → answer.state.catalog.views ≡ old.catalog.views
    leave answer (inl same) = ap (λ (s : State). s.catalog.views) same
    leave answer (inr (inl w)) = ap (λ (a : Answer). a.state.catalog.views) w.answers
    leave answer (inr (inr m)) = let same : m.what ≡ asked = cc (m.asks, asks) in ap (λ (s : stored.State). s.views) (made_catalog old answer.state m.what m.made (rw same idle))

-- what a command leaves that isn't a write: the old state, or what it made
pub others_made : (old new : State) (session : ℕ) (command : Command) (asked : Asked) (outcome : Outcome) → asked_by command ≡ Ok asked → asked_write asked ≡ None → BareStep old session command outcome new
    → (new ≡ old) ⊎ Made old asked new
others_made old new session command asked outcome asks none steps =
    let (answer, may, stands) = outcome_may old new session command outcome steps in
    leave answer may stands
  where
    leave : (answer : Answer) → MayWrite old (asked_by command) answer → new ≡ answer.state → (new ≡ old) ⊎ Made old asked new
    leave answer (inl same) stands = inl (stands ∙ same)
    leave answer (inr (inl w)) stands = let same : w.what ≡ asked = cc (w.asks, asks) in let some : asked_write asked ≡ Some w.write = rw (← same) w.is_write in absurd cc
    leave answer (inr (inr m)) stands = let same : m.what ≡ asked = cc (m.asks, asks) in inr (rw (stands, ← same) m.made)

-- ---- replies that say that the command was refused

errors_told : (errors : List Tree) (n : Tree) → told (reply_of ((codes "n", n) ∷ errors_field errors)) ≡ Some (int32 (pos 1))
errors_told [] n = refl
errors_told (e ∷ es) n = refl

update_told : (errors : List Tree) (n changed : Tree) → told (reply_of ((codes "n", n) ∷ (codes "nModified", changed) ∷ errors_field errors)) ≡ Some (int32 (pos 1))
update_told [] n changed = refl
update_told (e ∷ es) n changed = refl

reply_told : (kind : WriteKind) (n changed : ℕ) (errors : List Tree) → told (reply_by kind n changed errors) ≡ Some (int32 (pos 1))
reply_told Insert n changed errors = errors_told errors (count n)
reply_told Update n changed errors = update_told errors (count n) (count changed)
reply_told Delete n changed errors = errors_told errors (count n)

-- a write that is carried out says so
pub write_told : (what : Asked) (write : WriteSteps) → asked_write what ≡ Some write → (n changed : ℕ) (errors : List Tree) → told (write.reply n changed errors) ≡ Some (int32 (pos 1))
write_told (asking.write w) write is n changed errors = let same : write_by w ≡ write = cc in subst (λ (made : WriteSteps). told (made.reply n changed errors) ≡ Some (int32 (pos 1))) same (reply_told w.kind n changed errors)
write_told what write is n changed errors = absurd cc

refused_may : (old : State) (asked : Result Asked Refusal) (answer : Answer) → MayWrite old asked answer → told answer.reply ≡ Some (int32 (pos 0)) → answer.state ≡ old
refused_may old asked answer (inl same) refused = same
refused_may old asked answer (inr (inl w)) refused =
    let carried : told answer.reply ≡ Some (int32 (pos 1)) = rw w.answers (write_told w.what w.write w.is_write w.did.n w.did.changed w.did.errors) in
    absurd cc
refused_may old asked answer (inr (inr m)) refused = absurd (cc (m.tells, refused))

pub refusal_leaves : (old new : State) (session : ℕ) (command : Command) (reply : List Field) → BareStep old session command (Reply reply) new → told reply ≡ Some (int32 (pos 0)) → new ≡ old
refusal_leaves old new session command reply is refused =
    let state : new ≡ (step old session command).state = ap (λ (a : Answer). a.state) (sym is) in
    let replies : told (step old session command).reply ≡ Some (int32 (pos 0)) = ap (λ (a : Answer). told a.reply) is ∙ refused in
    state ∙ refused_may old (asked_by command) (step old session command) (step_may old session (asked_by command)) replies

pub want_leaves : (old new : State) (session : ℕ) (command : Command) (reply : List Field) → BareStep old session command (Wanting reply) new → told reply ≡ Some (int32 (pos 0)) → new ≡ old
want_leaves old new session command reply wants refused = refused_may old (asked_by command) (record { reply = reply; state = new }) (wants_may old command _ wants) refused

-- ---- an ordered write

due_none : (ordered : Bool) (es : List Tree) → ordered ≡ true → is_due ordered es ≡ true → es ≡ []
due_none ordered [] is due = refl
due_none ordered (e ∷ es) is due = absurd cc

module _ (write : WriteSteps) (ordered : write.ordered ≡ true) where
  one_result : (so_far : Written) (result : Result Effect Refusal) → so_far.errors ≡ [] → length (with_result write.namespace write.ordered so_far result).errors ≤ 1
  one_result so_far (Ok effect) none = rw none (omega arith)
  one_result so_far (Err refusal) none = rw none (omega arith)

  one_next : (so_far : Written) (statement : Statement) → length so_far.errors ≤ 1 → length (with_next write.namespace write.ordered so_far statement).errors ≤ 1
  one_next so_far statement few = by_due (is_due write.ordered so_far.errors) refl
    where
      by_due : (b : Bool) → is_due write.ordered so_far.errors ≡ b → length (cond b (with_result write.namespace write.ordered so_far (done_to (collection_of write.namespace so_far.namespaces) statement)) so_far).errors ≤ 1
      by_due true due = one_result so_far _ (due_none write.ordered so_far.errors ordered due)
      by_due false due = few

  one_all : (so_far : Written) (statements : List Statement) → length so_far.errors ≤ 1 → length (with_all write.namespace write.ordered so_far statements).errors ≤ 1
  one_all so_far [] few = few
  one_all so_far (statement ∷ statements) few = one_all (with_next write.namespace write.ordered so_far statement) statements (one_next so_far statement few)

  pub one_error : (old : Namespaces) → length (carry_out write old).errors ≤ 1
  one_error old = one_all (nothing_written old) write.statements (omega arith)

  pub cut_error_alone : (old : Namespaces) (left : Written) → IsCutWrite write old left → length left.errors ≡ 1
  cut_error_alone old left c =
      let none = due_none write.ordered (with_all write.namespace write.ordered (nothing_written old) c.before).errors ordered c.reached in
      rw c.left_so (rw none refl)
