use Rattle.std.proofs.Common.{arith}
use Rattle.std.proofs.lemmas.Str.Pattern.{strip_prefix_char}
use Rattle.dv_row.proofs.Dollars.{behind_dollar-from}
use Rattle.dv_row.proofs.field_path.behind_dollar.Goals as goal

pub returns : goal.returns
returns c = behind_dollar-from c.args.text.now c.strip_prefix.result (strip_prefix_char 36 c.args.text.now c.strip_prefix.result c.strip_prefix.ensures.cases (omega arith))
