-- The last of the front is before all others.
use Rattle.std.proofs.Common.{rules, ◌≡◌, ◌∙◌, ◌∷◌, ◌++◌, [], ap, arith, length, subst, sym}
use Rattle.std.proofs.lemmas.List.{length_push}
use Rattle.dv_change.specs.Changes.{Positioned}
use Rattle.dv_change.specs.Inner.Changes.{IsPositioned}
use Rattle.dv_flow.proofs.Fronts.{cut-full, spilled}
use Rattle.dv_flow.proofs.limit.LimitOperator.spill.Goals as goal

pub returns-in_ok-insert : goal.returns-in_ok-insert
returns-in_ok-insert c =
    let xs = c.args.self.now.front.entries in
    let front = c.pop_last.new.self.entries in
    let last : xs ≡ front ++ (c.in-Some.pos, c.in-Some.row) ∷ [] = search rules in
    let left = spilled c.in-Some.pos c.in-Some.row xs c.args.self.now.rest.entries front c.insert.new.self.entries c.requires.positioned last c.in_ok-insert.ensures.entries in
    let long : length front ≡ c.args.self.now.count = omega (arith, ap length last ∙ length_push front (c.in-Some.pos, c.in-Some.row)) in
    record {
      sound = record {
        positioned = subst (λ (rows : Positioned). IsPositioned rows) (sym left) c.requires.positioned;
        front = cut-full c.args.self.now.count front c.insert.new.self.entries long;
      };
      count = search rules;
      left = left;
    }
