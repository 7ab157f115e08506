use Rattle.std.proofs.Common.{List, drop, ap, ◌∙◌}
use Rattle.dv_value.specs.Tree.{Field}
use Rattle.dv_catalog.specs.Scan as scans
use Rattle.dv_catalog.proofs.Scanned.{window_enough}
use Rattle.dv_catalog.proofs.scan.scan.Goals as goal

pub returns : goal.returns
returns c =
    let find = c.args.find.now in
    c.window.ensures ∙ ap (λ (rows : List (List Field)). scans.limited find.limit (drop find.skip rows)) c.in_ok-found.ensures ∙ window_enough find.skip find.limit c.most_of-most.result _ c.most_of-most.ensures
