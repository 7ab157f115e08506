use Rattle.std.proofs.Common.{sym, subst}
use Rattle.dv_words.specs.Inner.Reading.{IsPlain}
use Rattle.dv_words.proofs.Numbers.{IsPlain-decimal}
use Rattle.dv_words.proofs.line.number.Goals as goal

pub returns-then-not-is_plain : goal.returns-then-not-is_plain
returns-then-not-is_plain c n small e =
    let yes = c.is_plain.ensures.1 (subst IsPlain (sym e) (IsPlain-decimal n small)) in
    cc (yes, c.if-not-is_plain.true)

pub returns-in-Some : goal.returns-in-Some
returns-in-Some c = (c.if-number-lt-NUMBERS.true, c.in-Some.ensures.plain (c.is_plain.ensures.0 c.if-not-is_plain.false))
