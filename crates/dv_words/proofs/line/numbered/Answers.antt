use Rattle.std.proofs.Common.{sym, ◌∙◌, rules}
use Rattle.dv_words.proofs.Numbers.{at_first_space, position-decimal, take-decimal}
use Rattle.dv_words.proofs.line.numbered.Goals as goal

pub returns-in_default : goal.returns-in_default
returns-in_default c n rest small e =
    let there = position-decimal n rest c.args.bytes.now small e in
    cc (there, c.first_space.ensures, c.in_default.is)

pub returns-in_default-number : goal.returns-in_default-number
returns-in_default-number c n rest small e =
    let front = take-decimal n c.in-Some.space rest c.args.bytes.now small e (sym c.first_space.ensures ∙ c.in-Some.is) in
    c.in_default-number.ensures n small (search rules)

pub returns : goal.returns
returns c =
    let found = sym c.first_space.ensures ∙ c.in-Some.is in
    (c.in-Some-number.ensures.0, at_first_space c.in-Some-number.number c.in-Some.space c.args.bytes.now found (search rules))
