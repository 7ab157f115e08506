use Rattle.dv_message.proofs.Streams.{messages_few}
use Rattle.dv_message.proofs.laws.messages_are_no_more_than_bytes.Goals as goal

pub returns : goal.returns
returns c = messages_few
