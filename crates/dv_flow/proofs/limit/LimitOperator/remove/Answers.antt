-- Removing a row of the front leaves room there; removing another one leaves the front unchanged.
use Rattle.std.proofs.Common.{rules, ◌≡◌, ◌∙◌, ◌++◌, ◌+◌, ap, arith, cond, false, is_some, length, subst, sym, true}
use Rattle.dv_change.specs.Changes.{Positioned, at}
use Rattle.dv_change.specs.Inner.Changes.{IsPositioned}
use Rattle.dv_change.specs.Inner.Ordered.{gone}
use Rattle.dv_change.specs.Inner.RowLaws.{positioned-gone}
use Rattle.dv_flow.specs.Placed.{front_at}
use Rattle.dv_change.specs.Inner.Answered.{ok-one}
use Rattle.dv_flow.proofs.Fronts.{cut-length, cut-others, gone-behind, gone-front, gone-none}
use Rattle.dv_flow.proofs.limit.LimitOperator.remove.Goals as goal

pub pull-requires : goal.pull-requires
pull-requires c =
    let p = c.args.pos.now in
    let xs = c.args.self.now.front.entries in
    let ys = c.args.self.now.rest.entries in
    let found : is_some (at p xs) ≡ true = search rules in
    let left : c.remove.new.self.entries ++ ys ≡ gone p (xs ++ ys) = ap (λ es. es ++ ys) c.remove.ensures.entries ∙ gone-front p xs ys found in
    let long : length c.remove.new.self.entries + 1 ≡ length xs = ap (λ b. length c.remove.new.self.entries + cond b 1 0) c.if-is_some.ensures ∙ c.remove.ensures.len in
    let cut = cut-length c.args.self.now.count xs ys c.requires.front in
    record {
      positioned = subst (λ (rows : Positioned). IsPositioned rows) (sym left) (positioned-gone p (xs ++ ys) c.requires.positioned);
      most = omega (arith, cut.0, long);
      least = λ h. long ∙ cut.1 h;
    }

pub returns-then-is_some-clause-left : goal.returns-then-is_some-clause-left
returns-then-is_some-clause-left c =
    let p = c.args.pos.now in
    let xs = c.args.self.now.front.entries in
    let ys = c.args.self.now.rest.entries in
    let found : is_some (at p xs) ≡ true = search rules in
    ok-one c.pull.result c.pull.ensures.left (λ left. left ∙ ap (λ es. es ++ ys) c.remove.ensures.entries ∙ gone-front p xs ys found)

pub returns-else-is_some-clause-sound : goal.returns-else-is_some-clause-sound
returns-else-is_some-clause-sound c =
    let p = c.args.pos.now in
    let xs = c.args.self.now.front.entries in
    let ys = c.args.self.now.rest.entries in
    let found : is_some (at p xs) ≡ false = search rules in
    let same : c.remove.new.self.entries ≡ xs = c.remove.ensures.entries ∙ gone-none p xs found in
    let zs = c.remove-else-is_some.new.self.entries in
    let left : c.remove.new.self.entries ++ zs ≡ gone p (xs ++ ys) = (λ i. same i ++ c.remove-else-is_some.ensures.entries i) ∙ gone-behind p xs ys found in
    record {
      positioned = subst (λ (rows : Positioned). IsPositioned rows) (sym left) (positioned-gone p (xs ++ ys) c.requires.positioned);
      front = same ∙ cut-others c.args.self.now.count xs ys zs c.requires.front (λ h. omega (arith, c.remove-else-is_some.ensures.len)) ∙ ap (λ es. front_at c.args.self.now.count (es ++ zs)) (sym same);
    }

pub returns-else-is_some-clause-left : goal.returns-else-is_some-clause-left
returns-else-is_some-clause-left c =
    let p = c.args.pos.now in
    let xs = c.args.self.now.front.entries in
    let ys = c.args.self.now.rest.entries in
    let found : is_some (at p xs) ≡ false = search rules in
    (λ i. (c.remove.ensures.entries ∙ gone-none p xs found) i ++ c.remove-else-is_some.ensures.entries i) ∙ gone-behind p xs ys found
