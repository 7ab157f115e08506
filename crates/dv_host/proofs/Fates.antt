-- How the connections of examples do not end.
use Rattle.std.proofs.Common.{[], ◌∷◌, Some, None}
use Rattle.dv_host.specs.Host.{Settles}
use Rattle.dv_host.specs.Inner.Examples.{link_with}
use Rattle.dv_host.specs.declared.link.Fate.TheVariants as fates

pub not_read : Settles fates.Ended (link_with (1 ∷ []) [] None) → ⊥
not_read settles = absurd (let some = settles.0 in cc)

pub not_taken : Settles fates.Ended (link_with [] (8 ∷ []) None) → ⊥
not_taken settles = absurd (let none = settles.1 in cc)

pub not_told : Settles fates.Ended (link_with [] [] (Some 6)) → ⊥
not_told settles = absurd (let told = settles.3 in cc)

pub other_fault : Settles (fates.Closed 5) (link_with [] [] (Some 6)) → ⊥
other_fault settles = absurd (let fault = settles.1 in cc)

pub no_fault : Settles (fates.Closed 6) (link_with [] [] None) → ⊥
no_fault settles = absurd (let fault = settles.1 in cc)
