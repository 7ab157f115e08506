use Rattle.std.proofs.Common.{map, sym, ap, ◌∙◌, inl}
use Rattle.dv_command.specs.declared.command.Command.{Command}
use Rattle.dv_command.specs.declared.command.Command.TheVariants.{Sections}
use Rattle.dv_command.specs.Lists.{CommandLists}
use Rattle.dv_message.specs.Commands.{read_in}
use Rattle.dv_message.specs.Inner.SectionsView.{section_seen}
use Rattle.dv_message.proofs.Brought.{needed_from, invalid_from}
use Rattle.dv_message.proofs.commands.command_in.Goals as goal

pub returns-in-Ok : goal.returns-in-Ok
returns-in-Ok c =
    let read = read_in (map section_seen c.args.sections.now) in
    inl (needed_from read _ c.in-Ok.ensures ∙ ap (λ (lists : CommandLists). let command : Command = Sections c.in-Ok.read.body lists in command) (sym c.of.ensures))

pub returns-in-Err : goal.returns-in-Err
returns-in-Err c = invalid_from (read_in (map section_seen c.args.sections.now)) c.in-Err.fault c.in-Err.ensures
