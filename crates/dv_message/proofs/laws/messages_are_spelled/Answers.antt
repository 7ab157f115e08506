use Rattle.dv_message.proofs.Spelled.{front_spelled, is_shown}
use Rattle.dv_message.proofs.laws.messages_are_spelled.Goals as goal

pub returns : goal.returns
returns c = λ bytes following message fits. (front_spelled bytes following message fits, λ found. is_shown bytes following found.0 message found.1 found.2)
