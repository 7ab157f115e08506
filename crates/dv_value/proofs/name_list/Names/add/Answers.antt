use Rattle.std.proofs.Common.{◌≡◌, List, ◌++◌, [], ◌∷◌, arith, map, subst}
use Rattle.std.proofs.lemmas.Grind.{common_steps}
use Rattle.std.specs.Option.{IfSome}
use Rattle.dv_value.specs.Tree.{Field}
use Rattle.dv_value.specs.Names.{bare}
use Rattle.dv_value.specs.Inner.Places.{IsNameIndexOf}
use Rattle.dv_value.proofs.Named.{AreNamed-push}
use Rattle.dv_value.proofs.name_list.Names.add.Goals as goal

pub invariant_of-self-2 : goal.invariant_of-self-2
invariant_of-self-2 c =
    let fields = map bare c.self.inside.names.items in
    let field : Field = bare c.args.name.now in
    let more : map bare c.push.new.self.items ≡ fields ++ field ∷ [] = grind (arith, common_steps) in
    let known : map bare c.deref.result.now ++ bare c.as_str.result.now ∷ [] ≡ fields ++ field ∷ [] = grind (arith, common_steps) in
    let IsIndexed : List Field → Type 0 = λ fs. IfSome c.index_next.new.index (λ index. IsNameIndexOf fs index.value) in
    rw more (AreNamed-push fields field c.self.invariant.0 c.requires.whole (rw c.self.view_is c.requires.fresh), subst IsIndexed known c.in_ok-index_next.ensures.ok)
