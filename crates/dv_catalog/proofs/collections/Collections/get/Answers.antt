use Rattle.std.proofs.Common.{◌≡◌, Bor, Option, Some, None, refl}
use Rattle.std.specs.Option.{option_map, option_copied}
use Rattle.dv_catalog.specs.State.{Collection}
use Rattle.dv_catalog.specs.Inner.View.{standing_seen}
use Rattle.dv_catalog.proofs.ByNamespace.{get-standing}
use Rattle.dv_catalog.proofs.collections.Collections.get.Goals as goal

seen_copied : (there : Option (Bor Collection)) → option_map (λ c. standing_seen c.now) there ≡ option_map standing_seen (option_copied there)
seen_copied None = refl
seen_copied (Some c) = refl

pub returns : goal.returns
returns c =
    let seen = get-standing c.self.inside.collections c.args.namespace.now in
    rw (← c.self.view_is, seen, ← c.get.ensures.value) (seen_copied c.get.result)
