-- None of the names so far is the name that is looked for.
use Rattle.std.proofs.Common.{◌≡◌, drop}
use Rattle.dv_views.specs.Forms.{is_name_among}
use Rattle.dv_views.proofs.lookups.is_listed.Given as goal

abbrev pub invariant-names : goal.invariant-names
invariant-names l = is_name_among l.name l.names ≡ is_name_among l.name (drop l.other-index l.names)
