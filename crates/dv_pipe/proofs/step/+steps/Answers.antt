use Rattle.std.proofs.Common.{◌≡◌, ◌++◌, ◌+◌, subst, List, drop, take}
use Rattle.std.proofs.lemmas.List.{take-append-drop}
use Rattle.dv_sort.specs.Sorting.{front}
use Rattle.dv_pipe.specs.Sources.{Row}
use Rattle.dv_pipe.proofs.Items.{take-next}
use Rattle.dv_pipe.proofs.Steps.{front_full, front_more}
use Rattle.dv_pipe.proofs.step.+steps.Goals as goal

pub push_each-made-preserved : goal.push_each-made-preserved
push_each-made-preserved n c =
    let made = c.args.made.now in
    let i = c.made.place in
    front_more c.args.later.now c.args.most c.args.rows.now.items c.made.rows.items (take i made) c.made.invariant c.push_made.new.rows.items (take (i + 1) made) c.in_ok-row.field-0 (take-next made i c.in_ok-row.field-0 c.in_ok-row.ensures) c.in_ok-push_made.ensures

pub push_each-returns-then-is_full : goal.push_each-returns-then-is_full
push_each-returns-then-is_full n c =
    let most = c.args.most in
    let made = c.args.made.now in
    let i = c.made.place in
    front_full c.args.later.now most c.args.rows.now.items c.made.rows.items (take i made) c.made.invariant (drop i made) made (take-append-drop i made)
    (subst (λ l. (more : List Row) → front most (l ++ more) ≡ front most l) c.deref.ensures.value (c.is_full.ensures c.if-is_full.true))
