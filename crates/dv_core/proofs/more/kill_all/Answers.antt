use Rattle.std.proofs.Common.{◌≡◌, ◌∙◌, ap, sym, ℤ, Bool, List, length, Ok, IfOk}
use Rattle.dv_command.specs.Replies.{kill_cursors_reply}
use Rattle.dv_command.specs.Inner.View.{kill_cursors_seen}
use Rattle.dv_core.specs.More.{gone_ids, killed, missing_ids, went_each, without_cursors}
use Rattle.dv_core.proofs.Endings.{done_ends, killed_so, wanting_ends, went_each-length}
use Rattle.dv_core.proofs.more.kill_all.Goals as goal

pub kill_reply-requires : goal.kill_reply-requires
kill_reply-requires c =
    ap (λ (bs : List Bool). length bs) (c.deref-in-Ok-2.ensures.value ∙ c.in-Ok.ensures.went)
    ∙ went_each-length c.args.session c.deref.result.now c.deref-2.result.now c.args.cursors.now
    ∙ ap (λ (is : List ℤ). length is) (c.deref-2.ensures.value ∙ sym c.deref-in-Ok.ensures.value)

pub returns-in-Ok : goal.returns-in-Ok
returns-in-Ok c =
    let asked = kill_cursors_seen c.args.asked in
    let old = c.args.cursors.now in
    let new = c.kill_each.new.cursors in
    let flags = c.in-Ok.went.items in
    let went : flags ≡ went_each c.args.session asked.namespace asked.ids old = rw (← c.deref.ensures, ← c.deref-2.ensures.value) c.in-Ok.ensures.went in
    let left : new ≡ without_cursors c.args.session asked.namespace asked.ids old = rw (← c.deref.ensures, ← c.deref-2.ensures.value) c.in-Ok.ensures.left in
    let replied : IfOk c.kill_reply.result (λ reply. reply ≡ kill_cursors_reply (gone_ids asked.ids flags) (missing_ids asked.ids flags)) = rw (← c.deref-in-Ok.ensures.value, ← c.deref-in-Ok-2.ensures.value) c.kill_reply.ensures in
    done_ends (Ok (killed c.args.session asked old)) old new (kill_cursors_reply (gone_ids asked.ids flags) (missing_ids asked.ids flags)) (ap Ok (killed_so c.args.session asked old new flags went left))
    c.kill_reply.result replied c.told.result c.told.ensures.ok c.told.ensures.err

pub returns : goal.returns
returns c = wanting_ends (Ok (killed c.args.session (kill_cursors_seen c.args.asked) c.args.cursors.now)) c.args.cursors.now c.kill_each.new.cursors c.refuse.result c.refuse.ensures c.in-Err.ensures.err
