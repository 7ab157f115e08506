use Rattle.std.proofs.Common.{◌≡◌, ℕ, List, take, map, arith, subst}
use Rattle.std.proofs.lemmas.Grind.{common_steps}
use Rattle.std.specs.Option.{IfSome}
use Rattle.dv_value.specs.Names.{bare}
use Rattle.dv_value.specs.Inner.Places.{IsNameIndexOf}
use Rattle.dv_value.proofs.Named.{AreNamed-take}
use Rattle.dv_value.proofs.name_list.Names.front.Goals as goal

pub index_of-requires : goal.index_of-requires
index_of-requires c =
    let front : c.deref-2.result.now ≡ take c.args.count c.self.inside.names.items = grind (arith, common_steps) in
    rw front (AreNamed-take c.args.count _ c.self.invariant.0)

pub invariant_of-result : goal.invariant_of-result
invariant_of-result c =
    let front : c.put_copies.new.copies.items ≡ take c.args.count c.self.inside.names.items = grind (arith, common_steps) in
    let same : c.deref-2.result.now ≡ c.put_copies.new.copies.items = c.deref-2.ensures.value in
    let IsIndexed : List (List ℕ) → Type 0 = λ ns. IfSome c.in_ok-index.index (λ index. IsNameIndexOf (map bare ns) index.value) in
    (rw front (AreNamed-take c.args.count _ c.self.invariant.0), subst IsIndexed same c.in_ok-index.ensures)
