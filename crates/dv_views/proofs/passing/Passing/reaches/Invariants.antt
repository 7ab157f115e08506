-- None of the names so far is reached.
use Rattle.std.proofs.Common.{◌≡◌, drop, is_some}
use Rattle.std.specs.List.{list_any}
use Rattle.dv_views.specs.Inner.Passing.{told_to}
use Rattle.dv_views.proofs.passing.Passing.reaches.Given as goal

abbrev pub invariant-names : goal.invariant-names
invariant-names l =
    let told = told_to l.self in
    list_any (λ name. is_some (told name)) l.names ≡ list_any (λ name. is_some (told name)) (drop l.name-index l.names)
