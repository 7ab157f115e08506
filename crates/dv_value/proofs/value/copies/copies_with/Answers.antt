use Rattle.std.proofs.Common.{◌≡◌, ◌++◌, [], ◌∷◌, map, arith}
use Rattle.std.proofs.lemmas.Grind.{common_steps}
use Rattle.std.proofs.lemmas.List.{map-append}
use Rattle.dv_value.specs.View.{tree}
use Rattle.dv_value.proofs.Changed.{around}
use Rattle.dv_value.proofs.value.copies.copies_with.Goals as goal

pub returns : goal.returns
returns c =
    let set = around (tree c.args.value) c.args.place c.args.values.now.items c.requires in
    let pushed : map tree c.push.new.self.items ≡ map tree c.put_copies.new.copies.items ++ tree c.args.value ∷ [] = rw c.in_ok-push.ensures.items (map-append tree c.put_copies.new.copies.items _) in
    grind (arith, common_steps)
