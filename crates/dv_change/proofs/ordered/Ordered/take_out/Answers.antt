-- The first one stays, since another one is removed.
use Rattle.std.proofs.Common.{rules, ◌≡◌, Some, false}
use Rattle.std.specs.Ordering.{is_eq}
use Rattle.dv_change.specs.Positions.{pos_order}
use Rattle.dv_change.specs.Inner.RowLaws.{positioned-tail}
use Rattle.dv_change.proofs.Fronts.{in-order-popped, some-there, positioned-other}
use Rattle.dv_change.proofs.ordered.Ordered.take_out.Goals as goal

pub invariant_of-result-else-eq : goal.invariant_of-result-else-eq
invariant_of-result-else-eq g c =
    let first : c.self.inside.first ≡ Some (c.in-Some.at, c.in-Some.there) = search rules in
    let are = some-there c.self.inside.first (c.in-Some.at, c.in-Some.there) c.self.inside.others.entries first c.self.invariant in
    let other : is_eq (pos_order c.args.pos.now c.in-Some.at) ≡ false = search rules in
    positioned-other c.args.pos.now c.in-Some.at c.in-Some.there c.self.inside.others.entries c.remove-stood.new.self.entries are other c.remove-stood.ensures.entries

pub invariant_of-result-then-eq : goal.invariant_of-result-then-eq
invariant_of-result-then-eq g c =
    let first : c.self.inside.first ≡ Some (c.in-Some.at, c.in-Some.there) = search rules in
    let are = some-there c.self.inside.first (c.in-Some.at, c.in-Some.there) c.self.inside.others.entries first c.self.invariant in
    let popped = c.pop_first-first.ensures in
    in-order-popped c.pop_first-first.result c.self.inside.others.entries c.pop_first-first.new.self.entries (positioned-tail (c.in-Some.at, c.in-Some.there) c.self.inside.others.entries are) popped.removal popped.unchanged popped.variant.1
