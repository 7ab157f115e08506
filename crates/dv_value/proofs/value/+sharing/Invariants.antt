use Rattle.std.proofs.Common.{◌≡◌, ◌+◌, ◌*◌, map}
use Rattle.dv_value.specs.View.{tree}
use Rattle.dv_value.proofs.value.+sharing.Given as goal

abbrev pub decreases-Document::share_names_within : goal.decreases-Document::share_names_within
decreases-Document::share_names_within l = 4 * l.levels + 3

abbrev pub decreases-Measured::share_names : goal.decreases-Measured::share_names
decreases-Measured::share_names l = 4 * l.levels + 2

abbrev pub decreases-Fields::share_names : goal.decreases-Fields::share_names
decreases-Fields::share_names l = 4 * l.levels + 1

abbrev pub decreases-sharing::share_inner_names : goal.decreases-sharing::share_inner_names
decreases-sharing::share_inner_names l = 4 * l.levels

abbrev pub invariant-sharing::share_inner_names-loop-place : goal.invariant-sharing::share_inner_names-loop-place
invariant-sharing::share_inner_names-loop-place l = map tree l.values ≡ map tree l.initial.values
