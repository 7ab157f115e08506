use Rattle.std.proofs.Common.{◌≡◌, ◌∙◌, List, ap, sym, subst, IfOk}
use Rattle.dv_value.specs.Tree.{Field}
use Rattle.dv_path.specs.Apart.{AreAllApart, remove_each}
use Rattle.dv_path.specs.Inner.Apart.{leads_to_value}
use Rattle.dv_path.proofs.Together.{lent}
use Rattle.dv_path.proofs.Taken.{taken-alone, taken-apart}
use Rattle.dv_path.proofs.removing_each.remove_each.Goals as goal

pub remove_from_document-requires : goal.remove_from_document-requires
remove_from_document-requires c =
    let seen = ap lent c.deref.ensures.value ∙ c.in_ok-there.ensures in
    subst AreAllApart (sym seen) (taken-apart (leads_to_value c.args.document) (lent c.args.paths.now) c.requires)

pub returns : goal.returns
returns c =
    let seen = ap lent c.deref.ensures.value ∙ c.in_ok-there.ensures in
    let P : List Field → Type 0 = λ fs. IfOk c.remove_from_document.result (λ changed. changed ≡ fs) in
    subst P (ap (remove_each c.args.document) seen ∙ taken-alone (lent c.args.paths.now) c.args.document c.requires) c.remove_from_document.ensures
