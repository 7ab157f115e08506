use Rattle.dv_command.proofs.Sounding.{updating_sound}
use Rattle.dv_command.proofs.laws.the_update_of_an_entry_is_sound.Goals as goal

pub returns : goal.returns
returns c = λ entry asked valid is. updating_sound entry asked valid is
