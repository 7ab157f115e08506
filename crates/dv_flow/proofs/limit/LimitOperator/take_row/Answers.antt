-- After a full front, no shown row changes; otherwise the changes are at the position of the change and at the edge.
use Rattle.std.proofs.Common.{append-nil, arith, rules, subst, sym, true, ◌≡◌, ◌∙◌, ◌++◌, ◌+◌, ap, length}
use Rattle.dv_change.specs.Inner.Answered.{ok-one}
use Rattle.dv_change.specs.Changes.{Positioned, with_change}
use Rattle.dv_change.specs.Inner.Changes.{IsPositioned, position_changed}
use Rattle.dv_change.specs.Inner.DiffLaws.{positioned-changed}
use Rattle.dv_change.specs.Difference.{diff}
use Rattle.dv_change.specs.Raised.{raised}
use Rattle.dv_change.specs.Inner.Told.{change_to, told_along}
use Rattle.dv_change.specs.Inner.ToldLaws.{length-told}
use Rattle.dv_flow.specs.Inner.Limiting.{is_past, limit_rows}
use Rattle.dv_flow.specs.Placed.{front_at}
use Rattle.dv_flow.proofs.Fronts.{changed-past, cut-full, cut-length, nothing-owed}
use Rattle.dv_flow.proofs.Limits.{exact-to, limit-told, place-to}
use Rattle.dv_flow.proofs.limit.LimitOperator.take_row.Goals as goal

pub returns-then-is_behind : goal.returns-then-is_behind
returns-then-is_behind c =
    let n = c.args.self.now.count in
    let xs = c.args.self.now.front.entries in
    let ys = c.args.self.now.rest.entries in
    let change = change_to c.args.pos c.args.row in
    let behind = c.is_behind.ensures.behind c.if-is_behind.true in
    let past : is_past (position_changed change) xs ≡ true = ap (λ p. is_past p xs) (place-to c.args.pos c.args.row) ∙ behind.past in
    let most = (cut-length n xs ys c.requires.front).0 in
    let full = behind.full in
    let long : length xs ≡ n = omega (arith, full, most) in
    let rest = c.in_ok-change_rest.ensures in
    let zs = c.change_rest.new.self.rest.entries in
    let same : c.change_rest.new.self.front.entries ≡ xs = λ i. (rest.front i).entries in
    let left : limit_rows c.change_rest.new.self ≡ with_change (xs ++ ys) change = (λ i. same i ++ rest.rest i) ∙ sym (changed-past change xs ys past) in
    let none = nothing-owed n change xs ys c.requires.positioned long past in
    record {
      sound = record {
        positioned = subst (λ (rows : Positioned). IsPositioned rows) (sym left) (positioned-changed (xs ++ ys) change c.requires.positioned (exact-to c.args.pos c.args.row c.law_exact.ensures));
        front = same ∙ cut-full n xs zs long ∙ (λ i. front_at (sym rest.count i) (sym same i ++ zs));
      };
      count = rest.count;
      left = left;
      out = sym (ap (λ changes. c.args.out.now.items ++ told_along (front_at n (xs ++ ys)) changes) none ∙ append-nil c.args.out.now.items);
      ticks = c.add.ensures ∙ sym (ap (λ changes. raised c.args.ticks.now (1 + length changes)) none);
      begins = search rules;
      no_fewer = search rules;
    }

pub returns : goal.returns
returns c =
    let n = c.args.self.now.count in
    let rows = limit_rows c.args.self.now in
    let change = change_to c.args.pos c.args.row in
    let sound = c.in_ok-change_front.ensures.sound in
    let shown : c.change_front.new.self.front.entries ≡ front_at n _ = sound.front ∙ (λ i. front_at (c.in_ok-change_front.ensures.count i) (c.in_ok-change_front.ensures.left i)) in
    let same = limit-told n rows c.args.pos c.args.row c.requires.positioned c.law_exact.ensures c.in_ok-edge.edge c.args.self.now.front.entries c.change_front.new.self.front.entries c.in_ok-old.old c.in_ok-new.new
    c.in_ok-edge.ensures c.requires.front shown c.in_ok-old.ensures c.in_ok-new.ensures in
    record {
      sound = search rules;
      count = ok-one c.hand_over.result c.hand_over.ensures.ticks (λ ticks. c.in_ok-change_front.ensures.count);
      left = ok-one c.hand_over.result c.hand_over.ensures.ticks (λ ticks. c.in_ok-change_front.ensures.left);
      out = ok-one c.hand_over.result c.hand_over.ensures.out (λ out. out ∙ ap (λ all. c.args.out.now.items ++ all) same);
      ticks = ok-one c.hand_over.result c.hand_over.ensures.ticks (λ ticks. ticks ∙ ap (λ m. raised c.args.ticks.now (1 + m)) (ap length same ∙ length-told (front_at n rows) (diff (front_at n rows) (front_at n (with_change rows change)))));
      begins = c.hand_over.ensures.begins;
      no_fewer = c.hand_over.ensures.no_fewer;
    }
