-- The first of the others follows the front.
use Rattle.std.proofs.Common.{rules, ◌≡◌, ◌∙◌, ◌∷◌, ◌<◌, ap, arith, length, subst, sym}
use Rattle.dv_change.specs.Changes.{Positioned}
use Rattle.dv_change.specs.Inner.Changes.{IsPositioned}
use Rattle.dv_flow.proofs.Fronts.{cut-full, pulled, pulled-length}
use Rattle.dv_flow.proofs.limit.LimitOperator.pull.Goals as goal

pub returns-in_ok-insert : goal.returns-in_ok-insert
returns-in_ok-insert c =
    let xs = c.args.self.now.front.entries in
    let ys = c.args.self.now.rest.entries in
    let first : ys ≡ (c.in-Some.pos, c.in-Some.row) ∷ c.pop_first.new.self.entries = search rules in
    let some : 0 < length ys = omega (arith, ap length first) in
    let left = pulled c.in-Some.pos c.in-Some.row xs ys c.insert.new.self.entries c.pop_first.new.self.entries c.requires.positioned first c.in_ok-insert.ensures.entries in
    let long = pulled-length c.in-Some.pos c.in-Some.row xs ys c.insert.new.self.entries c.pop_first.new.self.entries c.requires.positioned first c.in_ok-insert.ensures.entries in
    record {
      sound = record {
        positioned = subst (λ (rows : Positioned). IsPositioned rows) (sym left) c.requires.positioned;
        front = cut-full c.args.self.now.count c.insert.new.self.entries c.pop_first.new.self.entries (long ∙ c.requires.least some);
      };
      count = search rules;
      left = left;
    }
