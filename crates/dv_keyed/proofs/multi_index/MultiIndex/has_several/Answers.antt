use Rattle.std.proofs.Common.{◌≡◌, ap, Bool, false, not, refl, subst, true}
use Rattle.dv_keyed.specs.Inner.Keys.{has_key}
use Rattle.dv_keyed.specs.Inner.Pairs.{AreNoted}
use Rattle.dv_keyed.proofs.multi_index.MultiIndex.has_several.Goals as goal

so : (b : Bool) → not b ≡ false → b ≡ true
so true e = refl
so false e = absurd cc

pub returns : goal.returns
returns c none k i there =
    let empty = c.is_empty.ensures.0 (so c.is_empty.result none) in
    subst (AreNoted c.self.inside.several) c.self.view_is c.self.invariant i (ap (has_key i) empty) k there
