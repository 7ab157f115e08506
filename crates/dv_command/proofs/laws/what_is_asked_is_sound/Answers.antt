use Rattle.dv_command.specs.Asked.{command_name}
use Rattle.dv_command.proofs.Sounding.{asked_sound}
use Rattle.dv_command.proofs.laws.what_is_asked_is_sound.Goals as goal

pub returns : goal.returns
returns c = λ body lists asked valid beside is. asked_sound c.what_a_field_adds.ensures.more body lists valid beside (command_name body) asked is
