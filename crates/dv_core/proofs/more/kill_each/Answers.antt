use mir.Syntax.{w64}
use mir.Val.{SFits}
use Rattle.std.proofs.lemmas.Int.{to_z-of_z}
use Rattle.std.proofs.Common.{◌≡◌, ◌+◌, ◌<◌, ◌∷◌, ◌∙◌, pos, drop, get_or, length, refl, sym, add-one, arith, rules}
use Rattle.std.proofs.lemmas.List.{length-set}
use Rattle.std.proofs.Math.Seq.{drop-cons}
use Rattle.dv_core.proofs.Mores.{went_more, without_more}
use Rattle.dv_core.proofs.more.kill_each.Goals as goal

pub ids-init : goal.ids-init
ids-init c = record { long = sym c.in_ok-went.went.ok.0 ∙ c.in_ok-went.ensures.len; told = refl; left = refl }

pub ids-preserved : goal.ids-preserved
ids-preserved c =
    let ids = c.args.ids.now in
    let place = c.ids.place in
    let within : place < length ids = omega arith in
    let next : drop place ids ≡ get_or ids place (pos 0) ∷ drop (place + 1) ids = rw add-one (drop-cons ids place (pos 0) within) in
    let fits : SFits w64 (get_or ids place (pos 0)) = search rules in
    let found = simp to_z-of_z at c.kill_one.ensures.found in
    let left = simp to_z-of_z at c.kill_one.ensures.left in
    let room : place < length c.ids.went.items = omega (arith, c.ids.invariant.long) in
    record {
      long = length-set c.ids.went.items place c.kill_one.result ∙ c.ids.invariant.long;
      told = went_more c.args.session c.args.namespace.now ids place (get_or ids place (pos 0)) next c.ids.cursors c.kill_one.new.cursors left c.ids.went.items _ c.kill_one.result room found c.ids.invariant.told;
      left = without_more c.args.session c.args.namespace.now ids place (get_or ids place (pos 0)) next c.ids.cursors c.kill_one.new.cursors left _ c.ids.invariant.left;
    }
