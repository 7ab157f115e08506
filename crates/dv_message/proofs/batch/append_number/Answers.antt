use Rattle.std.proofs.Common.{ℕ, List, [], ◌∷◌, ◌++◌, ◌<◌, ◌∙◌, ap, sym, arith}
use Rattle.std.proofs.lemmas.Fmt.{decimal_digit}
use Rattle.dv_message.proofs.batch.append_number.Goals as goal

pub returns-then-place-lt10-clause-ok : goal.returns-then-place-lt10-clause-ok
returns-then-place-lt10-clause-ok c =
    let few : c.args.place < 10 = omega arith in
    c.in_ok-extend_from_slice.ensures.items ∙ ap (λ (digits : List ℕ). c.args.out.now.items ++ ((3 ∷ [] ++ digits) ++ 0 ∷ [])) (sym (decimal_digit c.args.place few))

pub returns-clause-ok : goal.returns-clause-ok
returns-clause-ok c = rw (c.as_bytes.ensures.value, c.format.ensures.text) at c.append_three.ensures.ok
