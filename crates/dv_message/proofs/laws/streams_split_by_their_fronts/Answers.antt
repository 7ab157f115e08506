use Rattle.dv_message.proofs.Streams.{behind_message, split_step}
use Rattle.dv_message.proofs.laws.streams_split_by_their_fronts.Goals as goal

pub returns-clause-front : goal.returns-clause-front
returns-clause-front c = split_step

pub returns-clause-whole : goal.returns-clause-whole
returns-clause-whole c = behind_message
