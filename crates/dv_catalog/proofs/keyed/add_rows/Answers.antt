use Rattle.std.proofs.Common.{Bor, List, ap, ◌∙◌}
use Rattle.std.proofs.lemmas.List.{map-append}
use Rattle.std.proofs.lemmas.Result.{on_ok_weaker}
use Rattle.dv_value.specs.Tree.{Field}
use Rattle.dv_pipe.specs.Sources.{rows_referred}
use Rattle.dv_catalog.proofs.Lent.{appended}
use Rattle.dv_catalog.proofs.keyed.add_rows.Goals as goal

pub returns : goal.returns
returns c = on_ok_weaker c.append.result (λ items. ap rows_referred items ∙ map-append (λ (r : Bor (List Field)). r.now) c.args.rows.now.items c.args.more.items) (appended c.append.result c.append.new.self.items _ _ c.append.ensures.items)
