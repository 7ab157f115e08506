use Rattle.std.proofs.Common.{◌∙◌, ap, map, ℕ}
use Rattle.std.specs.BTreeSet.{contains}
use Rattle.std.specs.Ordering.{nat_cmp}
use Rattle.dv_gather.specs.Joining.{as_value}
use Rattle.dv_gather.specs.View.{referred}
use Rattle.dv_gather.proofs.Grouped.{if-ok}
use Rattle.dv_gather.proofs.Placed.{matches-by_places}
use Rattle.dv_gather.proofs.joining.matches_of.Goals as goal

pub returns : goal.returns
returns c =
    let found = c.in_ok-found.found in
    if-ok (λ list h foreign are. h ∙ ap (map as_value) (matches-by_places c.keys_stand_as_their_values.ensures c.args.places.now c.in_ok-keys.keys.keys (λ (i : ℕ). contains nat_cmp found i) c.args.lookup.now.local foreign c.args.row.now (referred c.args.documents.now) c.in_ok-keys.ensures c.in_ok-found.ensures are)) c.documents_at.result c.documents_at.ensures
