use Rattle.std.proofs.Common.{◌≡◌, ◌≢◌, ◌∙◌, Err, ap, codes, rules, subst, sym}
use Rattle.std.proofs.lemmas.Result.{err_from_is_err_and}
use Rattle.dv_words.proofs.Lines.{Answers, answers_bytes, answers_end, answers_fault, answers_skip, numbered}
use Rattle.dv_words.proofs.line.line.Goals as goal

pub returns-then-is_skipped : goal.returns-then-is_skipped
returns-then-is_skipped c =
    let a = answers_skip c.args.bytes.now (c.is_skipped.ensures.yes c.if-is_skipped.true) c.if-bytes-gt-LONGEST_LINE.false in
    record { read = a.read; only = a.only; refused = a.refused }

pub returns-then-eq : goal.returns-then-eq
returns-then-eq c =
    let n = numbered c.in-Some.number c.in-Some.rest.now c.args.bytes.now c.in-Some.ensures c.if-bytes-gt-LONGEST_LINE.false in
    let same : c.in-Some.rest.now ≡ codes "end" = search rules in
    let a = answers_end _ _ _ n same in
    record { read = a.read; only = a.only; refused = a.refused }

pub returns-in_err-decoded : goal.returns-in_err-decoded
returns-in_err-decoded c =
    let n = numbered c.in-Some.number c.in-Some.rest.now c.args.bytes.now c.in-Some.ensures c.if-bytes-gt-LONGEST_LINE.false in
    let other : c.in-Some.rest.now ≢ codes "end" = search rules in
    let p = err_from_is_err_and c.from_residual.result c.from_residual.ensures.1 in
    let a = subst (Answers c.args.bytes.now) (sym (p.1 ∙ ap Err p.2)) (answers_fault _ _ _ _ n other c.in_err-decoded.ensures) in
    record { read = a.read; only = a.only; refused = a.refused }

pub returns : goal.returns
returns c =
    let n = numbered c.in-Some.number c.in-Some.rest.now c.args.bytes.now c.in-Some.ensures c.if-bytes-gt-LONGEST_LINE.false in
    let a = answers_bytes _ _ _ _ n c.in_ok-decoded.ensures in
    record { read = a.read; only = a.only; refused = a.refused }
