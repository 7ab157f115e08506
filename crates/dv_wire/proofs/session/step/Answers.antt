use Rattle.std.proofs.Common.{sym}
use Rattle.dv_command.specs.Inner.Needed.{needed}
use Rattle.dv_core.specs.Told.{outcome_told}
use Rattle.dv_message.specs.Commands.{command_of}
use Rattle.dv_message.specs.Inner.View.{message_seen}
use Rattle.dv_wire.proofs.Replies.{steps_alike, steps_as}
use Rattle.dv_wire.proofs.session.step.Goals as goal

pub returns : goal.returns
returns c =
    let meant = command_of (message_seen c.args.message.now) in
    steps_alike c.args.session c.args.store.now c.carry_out.new.self meant (needed meant) (outcome_told c.carry_out.result) (sym (c.a_command_needs_no_more.ensures meant))
    (steps_as c.args.session c.args.store.now c.carry_out.new.self (needed meant) c.read-command.result (outcome_told c.carry_out.result) c.read-command.ensures.command
    (rw c.read-command.ensures.store at c.carry_out.ensures.step) c.carry_out.ensures.unread)
