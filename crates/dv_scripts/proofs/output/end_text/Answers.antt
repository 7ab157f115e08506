use Rattle.std.proofs.Common.{append_assoc, rules}
use Rattle.dv_scripts.proofs.output.end_text.Goals as goal

pub returns : goal.returns
returns c = search (rules, append_assoc)
