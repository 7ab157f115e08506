use Rattle.std.proofs.Common.{◌≡◌, ◌∙◌, ◌∷◌, [], ap, map, arith}
use Rattle.std.proofs.lemmas.List.{map-append}
use Rattle.std.proofs.lemmas.Slice.Eq.{bytes_eq-Decides}
use Rattle.dv_path.specs.Inner.GroupView.{group}
use Rattle.dv_path.proofs.Grouped.{has-last}
use Rattle.dv_path.proofs.grouping.group_of.Goals as goal

pub returns-then-eq : goal.returns-then-eq
returns-then-eq c =
    let last = c.in-Some.last in
    let same : c.as_str.result.now ≡ c.as_str-in-Some.result.now = grind (arith, c.if-eq.ensures, c.eq.ensures, c.if-eq.true, (bytes_eq-Decides c.as_str.result.now c.as_str-in-Some.result.now).0, (bytes_eq-Decides c.as_str-in-Some.result.now c.as_str.result.now).0) in
    let named : last.component.now ≡ c.args.component.now = cc (same, c.as_str.ensures.name, c.as_str-in-Some.ensures.name) in
    has-last (map group c.args.groups.now.items) (map group c.pop.new.self.items) c.args.component.now (group last) (ap (map group) c.in-Some.ensures.items ∙ map-append group c.pop.new.self.items (last ∷ [])) named
