-- Only viewStats reads the marks of views: any other step is the same, whatever they are.
use Rattle.std.proofs.Common.{◌≡◌, ℕ, Bool, true, false, List, [], Result, Ok, Err, refl, if◌then◌else◌}
use Rattle.dv_value.specs.Tree.{Field}
use Rattle.dv_catalog.specs.Marks.{Marks}
use Rattle.dv_catalog.specs.State.{is_view}
use Rattle.dv_catalog.specs.State as stored
use Rattle.dv_catalog.specs.Views.{created, dropped}
use Rattle.dv_command.specs.Asked.{Asked, asked_by, aggregate, create, create_indexes, drop, drop_indexes, explain, find, get_more, hello, kill_cursors, ping, view_stats}
use Rattle.dv_command.specs.Asked as asking
use Rattle.dv_command.specs.Replies.{drop_reply, reply_of}
use Rattle.dv_command.specs.declared.command.Command.{Command}
use Rattle.dv_value.specs.Results.{◌>>=◌}
use Rattle.dv_refusal.specs.declared.refusal.Refusal.{Refusal}
use Rattle.dv_refusal.specs.declared.refusal.Refusal.TheVariants.{OnView}
use Rattle.dv_core.specs.Find.{reply_to_find, reply_to_aggregate}
use Rattle.dv_core.specs.Indexes.{find_explained, indexed, unindexed}
use Rattle.dv_core.specs.More.{killed, next_batch}
use Rattle.dv_core.specs.State.{State, standing}
use Rattle.dv_core.specs.Statements.{WriteSteps, Written, carry_out}
use Rattle.dv_core.specs.Step.{Answer, answer_to, answered, on_catalog, on_cursors, read_answer, replying, step, write_answer}
use Rattle.dv_core.specs.Writes.{write_by}
use Rattle.dv_wire.specs.Standing.{AsksNoStats, asks_stats}

-- the answer with these marks of views
abbrev pub answer_standing : Marks → Answer → Answer
answer_standing marks answer = record { reply = answer.reply; state = standing marks answer.state }

module _ (marks : Marks) (state : State) where
  read_standing : (result : Result (List Field) Refusal) → answered (standing marks state) (read_answer (standing marks state) result) ≡ answer_standing marks (answered state (read_answer state result))
  read_standing (Ok reply) = refl
  read_standing (Err refusal) = refl

  write_standing : (view : Bool) (write : WriteSteps) (did : Written)
      → answered (standing marks state) (if view then Err OnView else Ok (write_answer (standing marks state) write did)) ≡ answer_standing marks (answered state (if view then Err OnView else Ok (write_answer state write did)))
  write_standing true write did = refl
  write_standing false write did = refl

  cursors_standing : (result : _) → answered (standing marks state) (on_cursors (standing marks state) result) ≡ answer_standing marks (answered state (on_cursors state result))
  cursors_standing (Ok told) = refl
  cursors_standing (Err refusal) = refl

  catalog_standing : (result : Result (List Field × stored.State) Refusal) → answered (standing marks state) (on_catalog (standing marks state) result) ≡ answer_standing marks (answered state (on_catalog state result))
  catalog_standing (Ok told) = refl
  catalog_standing (Err refusal) = refl

  asked_standing : (session : ℕ) (asked : Result Asked Refusal) → asks_stats asked ≡ false
      → answered (standing marks state) (asked >>= answer_to (standing marks state) session) ≡ answer_standing marks (answered state (asked >>= answer_to state session))
  asked_standing session (Err refusal) none = refl
  asked_standing session (Ok hello) none = refl
  asked_standing session (Ok ping) none = refl
  asked_standing session (Ok (asking.write asked)) none =
      let write = write_by asked in write_standing (is_view write.namespace state.catalog.views) write (carry_out write state.catalog.namespaces)
  asked_standing session (Ok (find asked)) none = cursors_standing (reply_to_find session asked state.catalog state.cursors)
  asked_standing session (Ok (aggregate asked)) none = cursors_standing (reply_to_aggregate session asked state.catalog state.cursors)
  asked_standing session (Ok (get_more asked)) none = cursors_standing (next_batch session asked state.cursors)
  asked_standing session (Ok (kill_cursors asked)) none = cursors_standing (Ok (killed session asked state.cursors))
  asked_standing session (Ok (create asked)) none = catalog_standing (replying (reply_of []) (created asked.namespace asked.view state.catalog))
  asked_standing session (Ok (drop asked)) none = catalog_standing (replying (drop_reply asked.namespace) (dropped asked.namespace state.catalog))
  asked_standing session (Ok (create_indexes asked)) none = catalog_standing (indexed asked state.catalog)
  asked_standing session (Ok (drop_indexes asked)) none = catalog_standing (unindexed asked state.catalog)
  asked_standing session (Ok (explain asked)) none = read_standing (Ok (find_explained asked state.catalog))
  asked_standing session (Ok (view_stats asked)) none = absurd cc

  pub step_standing : (session : ℕ) (command : Command) → AsksNoStats command → step (standing marks state) session command ≡ answer_standing marks (step state session command)
  step_standing session command none = asked_standing session (asked_by command) none
