use Rattle.std.proofs.Common.{◌≡◌, ◌∙◌, ◌∷◌, [], ap, sym, Ok, Err, if◌then◌else◌, rules}
use Rattle.dv_value.specs.Tree.{Field}
use Rattle.dv_value.specs.View.{tree}
use Rattle.dv_row.specs.declared.fault.PipelineFault.TheVariants.{Conflict}
use Rattle.dv_row.specs.Inner.AskedView.{asked}
use Rattle.dv_row.proofs.Taken.{so-far-all, so-far-refused, so-far-more}
use Rattle.dv_row.proofs.asked.members_of.Goals as goal

pub returns-in-Err : goal.returns-in-Err
returns-in-Err c =
    let f : Field = (c.in-Some.name.now, tree c.in-Some.value.now) in
    let step : c.members.name-iterator ≡ f ∷ c.next.new.self = search rules in
    so-far-refused c.args.document.now c.members.name-iterator (asked c.members.asked) c.members.paths.items c.members.invariant f c.next.new.self step c.in-Err.fault c.first_fault.result c.first_fault.ensures c.in-Err.ensures

pub members-preserved : goal.members-preserved
members-preserved c =
    let f : Field = (c.in-Some.name.now, tree c.in-Some.value.now) in
    let step : c.members.name-iterator ≡ f ∷ c.next.new.self = search rules in
    so-far-more c.args.document.now c.members.name-iterator (asked c.members.asked) c.members.paths.items c.members.invariant f c.next.new.self step c.in-Ok.path (asked c.take.new.self) c.push.new.self.items c.in-Ok.ensures c.in_ok-push-in-Ok.ensures.items

pub returns : goal.returns
returns c =
    let over : c.members.name-iterator ≡ [] = search rules in
    so-far-all c.args.document.now c.members.name-iterator (asked c.members.asked) c.members.paths.items c.members.invariant over ∙ ap (λ b. if b then Err Conflict else Ok (asked c.members.asked)) (sym c.has_conflict.ensures ∙ c.if-has_conflict.false)
