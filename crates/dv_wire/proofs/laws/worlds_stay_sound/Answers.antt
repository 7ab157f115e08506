use Rattle.dv_wire.proofs.Soundness.{spelled_sound, first_sound, opened_sound, fed_sound, ended_sound}
use Rattle.dv_wire.proofs.laws.worlds_stay_sound.Goals as goal

pub returns-clause-before : goal.returns-clause-before
returns-clause-before c = first_sound

pub returns-clause-opened : goal.returns-clause-opened
returns-clause-opened c = opened_sound

pub returns-clause-fed : goal.returns-clause-fed
returns-clause-fed c = fed_sound c.bytes_bring_bytes.ensures c.states_stay_sound.ensures.after (spelled_sound c.what_is_read_is_spelled.ensures)

pub returns-clause-ended : goal.returns-clause-ended
returns-clause-ended c = ended_sound c.states_stay_sound.ensures.ended
