-- Nothing changes, or the row at the position does.
use Rattle.std.proofs.Common.{rules, ◌≡◌, ◌∙◌, ◌+◌, ◌++◌, ◌∷◌, [], List, ap, append-nil, false, length, sym, true}
use Rattle.dv_change.specs.declared.taking.Taken.{Taken}
use Rattle.dv_change.specs.Inner.Told.{is_kept}
use Rattle.dv_change.specs.Inner.ToldLaws.{told-changed, told-kept}
use Rattle.dv_change.specs.Raised.{raised}
use Rattle.dv_change.proofs.Linking.{raised-twice}
use Rattle.dv_change.proofs.handing.hand_over_at.Goals as goal

pub returns-then-is_kept-clause-out : goal.returns-then-is_kept-clause-out
returns-then-is_kept-clause-out c =
    let kept : is_kept c.args.old.now c.args.new.now ≡ true = search rules in
    sym (append-nil c.args.out.now.items) ∙ ap (λ ts. c.args.out.now.items ++ ts) (told-kept c.args.pos.now c.args.old.now c.args.new.now kept)

pub returns-then-is_kept-clause-ticks : goal.returns-then-is_kept-clause-ticks
returns-then-is_kept-clause-ticks c =
    let kept : is_kept c.args.old.now c.args.new.now ≡ true = search rules in
    c.add.ensures ∙ ap (λ (ts : List Taken). raised c.args.ticks.now (1 + length ts)) (told-kept c.args.pos.now c.args.old.now c.args.new.now kept)

pub returns-clause-out : goal.returns-clause-out
returns-clause-out c =
    let differs : is_kept c.args.old.now c.args.new.now ≡ false = search rules in
    let pushed : c.push.new.self.items ≡ c.args.out.now.items ++ record { pos = c.args.pos.now; old = c.args.old.now; new = c.args.new.now } ∷ [] = search rules in
    pushed ∙ ap (λ ts. c.args.out.now.items ++ ts) (told-changed c.args.pos.now c.args.old.now c.args.new.now differs)

pub returns-clause-ticks : goal.returns-clause-ticks
returns-clause-ticks c =
    let differs : is_kept c.args.old.now c.args.new.now ≡ false = search rules in
    c.add-2.ensures ∙ ap (λ n. raised n 1) c.add.ensures ∙ raised-twice c.args.ticks.now 1 1
    ∙ ap (λ (ts : List Taken). raised c.args.ticks.now (1 + length ts)) (told-changed c.args.pos.now c.args.old.now c.args.new.now differs)
