use Rattle.std.proofs.Common.{◌≡◌, ℕ, List, take, map, arith, subst}
use Rattle.std.specs.Prelude.{remove}
use Rattle.std.proofs.lemmas.Grind.{common_steps}
use Rattle.std.specs.Option.{IfSome}
use Rattle.dv_value.specs.Names.{bare}
use Rattle.dv_value.specs.Inner.Places.{IsNameIndexOf}
use Rattle.dv_value.proofs.Named.{AreNamed-take}
use Rattle.dv_value.proofs.Changed.{AreNamed-remove, remove_front}
use Rattle.dv_value.proofs.name_list.Names.front_without.Goals as goal

pub index_of-requires : goal.index_of-requires
index_of-requires c =
    let copied = remove_front c.args.place c.args.count c.self.inside.names.items c.requires.there in
    let front : c.deref-3.result.now ≡ remove (take c.args.count c.self.inside.names.items) c.args.place = grind (arith, common_steps) in
    rw front (AreNamed-remove c.args.place _ (AreNamed-take c.args.count _ c.self.invariant.0))

pub invariant_of-result : goal.invariant_of-result
invariant_of-result c =
    let copied = remove_front c.args.place c.args.count c.self.inside.names.items c.requires.there in
    let front : c.put_copies-2.new.copies.items ≡ remove (take c.args.count c.self.inside.names.items) c.args.place = grind (arith, common_steps) in
    let same : c.deref-3.result.now ≡ c.put_copies-2.new.copies.items = c.deref-3.ensures.value in
    let IsIndexed : List (List ℕ) → Type 0 = λ ns. IfSome c.in_ok-index.index (λ index. IsNameIndexOf (map bare ns) index.value) in
    (rw front (AreNamed-remove c.args.place _ (AreNamed-take c.args.count _ c.self.invariant.0)), subst IsIndexed same c.in_ok-index.ensures)

pub returns : goal.returns
returns c =
    let copied = remove_front c.args.place c.args.count c.self.inside.names.items c.requires.there in
    grind (arith, common_steps)
