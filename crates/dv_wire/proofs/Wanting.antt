-- What is answered when memory runs out reports it.
use Rattle.std.proofs.Common.{◌≡◌, ℕ, ◌⊎◌, Bool, true, false, List, [], ◌∷◌, ◌++◌, map, Result, Ok, Err, sym, ap, ◌∙◌, append_assoc, inl, inr, if◌then◌else◌}
use Rattle.std.specs.List.{concat}
use Rattle.dv_value.specs.Tree.{Tree, Field}
use Rattle.dv_catalog.specs.Marks.{Marks}
use Rattle.dv_command.specs.Asked as asking
use Rattle.dv_command.specs.Asked.{Asked, asked_by}
use Rattle.dv_command.specs.Replies.{update_reply, write_reply}
use Rattle.dv_command.specs.declared.asking.WriteKind.{WriteKind}
use Rattle.dv_command.specs.declared.asking.WriteKind.TheVariants.{Insert, Update, Delete}
use Rattle.dv_command.specs.declared.command.Command.{Command}
use Rattle.dv_core.specs.State.{State}
use Rattle.dv_core.specs.Statements.{IsCutWrite, WriteSteps, Written, nothing_written, with_all}
use Rattle.dv_core.specs.Step.{Answer, Cut, Wants}
use Rattle.dv_core.specs.Writes.{reply_by, write_by}
use Rattle.dv_refusal.specs.declared.refusal.Refusal.{Refusal}
use Rattle.dv_message.specs.Message.{Message}
use Rattle.dv_wire.specs.Schedule.{reply_bytes}
use Rattle.dv_wire.specs.Wants.{HoldsWant, IsReplyOfWant, sent, with_cut}

errors_of : (old : State) (write : WriteSteps) (left : Written) → IsCutWrite write old.catalog.namespaces left → (errors : List Tree) × (place : ℕ) × (made : ℕ) × (left.errors ≡ with_cut errors place made)
errors_of old write left is =
    let so_far = with_all write.namespace write.ordered (nothing_written old.catalog.namespaces) is.before in
    (so_far.errors, so_far.statements, is.made, ap (λ (w : Written). w.errors) is.left_so)

told_by : (kind : WriteKind) (n changed : ℕ) (reply : List Field) (errors cut : List Tree) → reply ≡ reply_by kind n changed errors → errors ≡ cut → (reply ≡ write_reply n cut) ⊎ (reply ≡ update_reply n changed cut)
told_by Insert n changed reply errors cut is e = inl (is ∙ ap (write_reply n) e)
told_by Update n changed reply errors cut is e = inr (is ∙ ap (update_reply n changed) e)
told_by Delete n changed reply errors cut is e = inl (is ∙ ap (write_reply n) e)

reply_of_cut : (old new : State) (asked : Result Asked Refusal) (reply : List Field) (marks : Marks) → Cut old asked (record { reply = reply; state = new }) marks → IsReplyOfWant reply
reply_of_cut old new (Err refusal) reply marks cut = absurd cut
reply_of_cut old new (Ok (asking.write asked)) reply marks (plain, (left, is_cut, is, marked)) =
    let e = errors_of old (write_by asked) left is_cut in
    inr (e.0, e.1, e.2, left.n, left.changed, told_by asked.kind left.n left.changed reply left.errors (with_cut e.0 e.1 e.2) (ap (λ (a : Answer). a.reply) is) e.3)
reply_of_cut old new (Ok asked) reply marks cut = absurd cut

pub reply_of_want : (old new : State) (command : Command) (reply : List Field) (marks : Marks) → Wants old command (record { reply = reply; state = new }) marks → IsReplyOfWant reply
reply_of_want old new command reply marks (inl refused) = inl (ap (λ (a : Answer). a.reply) refused.0)
reply_of_want old new command reply marks (inr cut) = reply_of_cut old new (asked_by command) reply marks cut

-- the same holds with the bytes of another reply before them
pub holds_behind : (message : Message) (reply : List Field) (others : List ℕ) → HoldsWant others → HoldsWant (reply_bytes message reply ++ others)
holds_behind message reply others (before, want, behind, is, tells) = go message.more_to_come
  where
    go : (more : Bool) → HoldsWant ((if more then [] else sent (message.request_id, reply)) ++ others)
    go true = (before, want, behind, is, tells)
    go false =
        let first = sent (message.request_id, reply) in
        ((message.request_id, reply) ∷ before, want, behind, ap (λ (b : List ℕ). first ++ b) is ∙ sym (append_assoc first (concat (map sent before)) (sent want ++ behind)), tells)
