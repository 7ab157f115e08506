use Rattle.std.proofs.Common.{◌∙◌}
use Rattle.dv_pipe.proofs.Through.{front_nothing}
use Rattle.dv_pipe.proofs.run.sorted.Goals as goal

pub documents-init : goal.documents-init
documents-init c = c.new-sorter.ensures ∙ front_nothing c.args.spec.now c.args.most
