-- What is put so far, and what is left, are together all that is put.
use Rattle.std.proofs.Common.{rules, arith, ◌≡◌, ◌++◌, ◌∷◌, ap, sym, ◌∙◌, append_assoc, append-nil, drop, slice_get, List, Some, None}
use Rattle.std.proofs.lemmas.Grind.{common_steps}
use Rattle.dv_value.specs.Tree.{Field}
use Rattle.dv_change.specs.Inner.Told.{puts_told}
use Rattle.dv_change.specs.Positions.{PosTree}
use Rattle.dv_change.proofs.Coming.{puts_more}
use Rattle.dv_change.proofs.Fronts.{nothing, something}
use Rattle.dv_change.proofs.handing.push_puts.Goals as goal

pub returns-in_default-clause-out : goal.returns-in_default-clause-out
returns-in_default-clause-out c =
    let none : slice_get c.args.new.now 0 ≡ None = search rules in
    sym (append-nil c.args.out.now.items) ∙ ap (λ es. c.args.out.now.items ++ puts_told c.args.old.now es) (sym (nothing c.args.new.now none))

pub others-init : goal.others-init
others-init c =
    let old = c.args.old.now in
    let row : PosTree × List Field = (c.in-Some.pos.now, c.in-Some.row.now) in
    let first : slice_get c.args.new.now 0 ≡ Some row = search rules in
    let rest : c.into_iter-pos-iterator.result ≡ drop 1 c.args.new.now = search rules in
    record {
      out =
          ap (λ out. out ++ puts_told old c.into_iter-pos-iterator.result) c.in_ok-push_put.ensures.out
          ∙ append_assoc c.args.out.now.items _ (puts_told old c.into_iter-pos-iterator.result)
          ∙ ap (λ es. c.args.out.now.items ++ es) (sym (puts_more old row c.into_iter-pos-iterator.result) ∙ ap (λ es. puts_told old (row ∷ es)) rest ∙ ap (puts_told old) (sym (something c.args.new.now row first)));
      begins = grind (arith, common_steps);
    }

pub others-preserved : goal.others-preserved
others-preserved c =
    let old = c.args.old.now in
    let row : PosTree × List Field = (c.in-Some-2.pos.now, c.in-Some-2.row.now) in
    let step : c.others.pos-iterator ≡ row ∷ c.next.new.self = search rules in
    record {
      out =
          ap (λ out. out ++ puts_told old c.next.new.self) c.in_ok-push_put-2.ensures.out
          ∙ append_assoc c.others.out.items _ (puts_told old c.next.new.self)
          ∙ ap (λ es. c.others.out.items ++ es) (sym (puts_more old row c.next.new.self) ∙ ap (puts_told old) (sym step))
          ∙ c.others.invariant.out;
      begins = grind (arith, common_steps);
    }
