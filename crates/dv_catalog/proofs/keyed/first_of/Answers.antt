use Rattle.std.proofs.Common.{None, Some, ap, sym, take, ◌≡◌, ◌∙◌}
use Rattle.std.proofs.lemmas.List.{take-map}
use Rattle.dv_match.specs.Match.{matches}
use Rattle.dv_pipe.specs.Sources.{rows_referred}
use Rattle.dv_sort.specs.Sorting.{front}
use Rattle.dv_catalog.specs.Scan.{matching}
use Rattle.dv_catalog.proofs.Lent.{referred_kept}
use Rattle.dv_catalog.proofs.keyed.first_of.Goals as goal

pub returns-in-Some : goal.returns-in-Some
returns-in-Some c =
    let rows = matching c.args.filter.now (rows_referred c.args.rows.items) in
    ap rows_referred c.truncate.ensures.items
    ∙ sym (take-map _ c.in-Some.most c.all_matching-found.result.items)
    ∙ ap (take c.in-Some.most) (ap rows_referred c.all_matching-found.ensures ∙ referred_kept (matches c.args.filter.now) c.args.rows.items)
    ∙ (λ i. front (sym c.in-Some.is i) rows)

pub returns-in_default : goal.returns-in_default
returns-in_default c =
    let rows = matching c.args.filter.now (rows_referred c.args.rows.items) in
    let none : c.args.most ≡ None = c.in_default.is in
    ap rows_referred c.all_matching-found.ensures ∙ referred_kept (matches c.args.filter.now) c.args.rows.items ∙ (λ i. front (sym none i) rows)
