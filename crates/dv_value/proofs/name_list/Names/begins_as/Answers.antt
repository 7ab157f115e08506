use Rattle.std.proofs.Common.{◌≡◌, Some, ◌++◌, [], ◌∷◌, sym, ap, ◌∙◌, arith}
use Rattle.std.specs.List.{slice_get}
use Rattle.std.proofs.lemmas.Option.{slice_get_within}
use Rattle.dv_value.proofs.Zipped.{take_next}
use Rattle.dv_value.proofs.name_list.Names.begins_as.Goals as goal

pub loop-place-preserved : goal.loop-place-preserved
loop-place-preserved c =
    let place = c.loop-place.place in
    let name = c.in-Some.name.now in
    let own : slice_get c.args.self.now place ≡ Some name = sym c.in-Some.ensures in
    let others : slice_get c.args.other.now place ≡ Some name = c.is_at.ensures.0 c.if-is_at.true in
    record {
      within = omega (arith, slice_get_within c.args.other.now place name others);
      same = take_next c.args.self.now place name own ∙ ap (λ front. front ++ name ∷ []) c.loop-place.invariant.same ∙ sym (take_next c.args.other.now place name others);
    }
