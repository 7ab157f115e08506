use Rattle.std.proofs.Common.{◌∙◌, ◌∷◌, [], ap, map, refl}
use Rattle.std.proofs.lemmas.List.{map-append}
use Rattle.dv_path.specs.Inner.GroupView.{group}
use Rattle.dv_path.specs.Inner.Groups.{Group}
use Rattle.dv_path.proofs.Grouped.{added-whole, added-filled}
use Rattle.dv_path.proofs.grouping.add.Goals as goal

pub returns-clause-whole : goal.returns-clause-whole
returns-clause-whole c =
    let old = c.in_ok-group.group in
    let h : Group = (old.component.now, map (λ rest. rest.now) c.push.new.self.items) in
    added-whole (map group c.args.groups.now.items) (map group c.group_of.new.groups.items) (map group c.push-2.new.self.items) c.args.component.now (group old) h c.args.rest.now c.in_ok-group.ensures refl
    (ap (map (λ rest. rest.now)) c.in_ok-push.ensures.items ∙ map-append (λ rest. rest.now) old.rests.items (c.args.rest ∷ []))
    (ap (map group) c.in_ok-push-2.ensures.items ∙ map-append group c.group_of.new.groups.items _)

pub returns-clause-filled : goal.returns-clause-filled
returns-clause-filled c =
    let old = c.in_ok-group.group in
    let h : Group = (old.component.now, map (λ rest. rest.now) c.push.new.self.items) in
    added-filled (map group c.args.groups.now.items) (map group c.group_of.new.groups.items) (map group c.push-2.new.self.items) c.args.component.now (group old) h c.args.rest.now c.in_ok-group.ensures refl
    (ap (map (λ rest. rest.now)) c.in_ok-push.ensures.items ∙ map-append (λ rest. rest.now) old.rests.items (c.args.rest ∷ []))
    (ap (map group) c.in_ok-push-2.ensures.items ∙ map-append group c.group_of.new.groups.items _)
