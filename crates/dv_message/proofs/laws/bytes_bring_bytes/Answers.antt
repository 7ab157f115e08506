use Rattle.dv_message.proofs.Bring.{split_bytes}
use Rattle.dv_message.proofs.laws.bytes_bring_bytes.Goals as goal

pub returns : goal.returns
returns c = split_bytes
