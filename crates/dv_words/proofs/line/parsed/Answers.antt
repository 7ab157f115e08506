use Rattle.std.proofs.Common.{sym, subst, ap, ◌∙◌, IsUtf8, arith}
use Rattle.std.specs.Result.{result_ok}
use Rattle.std.proofs.lemmas.Fmt.{parse-decimal}
use Rattle.dv_words.proofs.Numbers.{IsUtf8-decimal, decimal-parsed}
use Rattle.dv_words.proofs.line.parsed.Goals as goal

pub returns-in_default-clause-decimal : goal.returns-in_default-clause-decimal
returns-in_default-clause-decimal c n small e = absurd (c.in_default.ensures.cases.0 (subst IsUtf8 (sym e) (IsUtf8-decimal n small)))

pub returns-clause-decimal : goal.returns-clause-decimal
returns-clause-decimal c n small e =
    let read = parse-decimal 32 n _ _ (omega arith) (omega arith) (c.in-Ok.ensures.cases.0 ∙ e) c.parse.ensures.value.0 in
    c.ok.ensures.value ∙ ap result_ok read

pub returns-clause-plain : goal.returns-clause-plain
returns-clause-plain c =
    rw (c.ok.ensures.value, ← c.in-Ok.ensures.cases.0) (decimal-parsed c.in-Ok.text.now c.parse.result c.parse.ensures.value.0)
