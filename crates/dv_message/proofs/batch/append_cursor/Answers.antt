use Rattle.std.proofs.Common.{ℕ, List, [], ◌∷◌, ◌++◌, ◌∙◌, arith}
use Rattle.std.proofs.lemmas.Result.{err_from_is_err_and}
use Rattle.dv_value.specs.Spelling.{framed}
use Rattle.dv_message.specs.Inner.Batches.{id_spelling, rows_spelling}
use Rattle.dv_message.proofs.Batches.{cursor_closed, grown, grown_behind_three, longer, two_appended}
use Rattle.dv_message.proofs.batch.append_cursor.Goals as goal

pub close-requires : goal.close-requires
close-requires c =
    let front : List ℕ = 0 ∷ 0 ∷ 0 ∷ 0 ∷ 4 ∷ (c.as_bytes.result.now ++ 0 ∷ []) in
    let array : List ℕ = framed (rows_spelling 0 c.args.rows.now) in
    let rest = id_spelling c.args.id c.args.namespace.now in
    omega (
      arith,
      c.len-start.ensures,
      c.args.out.now.ok.0,
      c.append_id.new.out.ok.0,
      longer c.args.out.now.items front c.append_three.new.out.items c.in_ok-append_three.ensures.ok,
      longer c.append_three.new.out.items array c.append_array.new.out.items c.in_ok-append_array.ensures.ok,
      longer c.append_array.new.out.items rest c.append_id.new.out.items c.in_ok-append_id.ensures.ok,
    )

pub returns-clause-ok : goal.returns-clause-ok
returns-clause-ok c =
    c.in_ok-close.ensures.ok
    ∙ cursor_closed c.args.name.now c.args.namespace.now c.args.id c.args.rows.now _ _ _ _ c.len-start.result (c.len-start.ensures ∙ c.args.out.now.ok.0) (rw c.as_bytes.ensures.value at c.in_ok-append_three.ensures.ok) c.in_ok-append_array.ensures.ok c.in_ok-append_id.ensures.ok

pub returns-in_err-append_array-clause-err : goal.returns-in_err-append_array-clause-err
returns-in_err-append_array-clause-err c =
    let p = err_from_is_err_and c.from_residual-in_err-append_array.result c.from_residual-in_err-append_array.ensures.1 in
    rw p.1 (grown _ _ _ _ c.in_ok-append_three.ensures.ok c.in_err-append_array.ensures.err)

pub returns-in_err-append_id-clause-err : goal.returns-in_err-append_id-clause-err
returns-in_err-append_id-clause-err c =
    let front : List ℕ = 0 ∷ 0 ∷ 0 ∷ 0 ∷ 4 ∷ (c.as_bytes.result.now ++ 0 ∷ []) in
    let array : List ℕ = framed (rows_spelling 0 c.args.rows.now) in
    let p = err_from_is_err_and c.from_residual-in_err-append_id.result c.from_residual-in_err-append_id.ensures.1 in
    rw p.1
    (grown c.args.out.now.items (front ++ array) c.append_array.new.out.items _ (two_appended c.args.out.now.items front array c.append_three.new.out.items c.append_array.new.out.items c.in_ok-append_three.ensures.ok c.in_ok-append_array.ensures.ok)
    c.in_err-append_id.ensures.err)

pub returns-in_err-close-clause-err : goal.returns-in_err-close-clause-err
returns-in_err-close-clause-err c =
    let front : List ℕ = 0 ∷ 0 ∷ 0 ∷ 0 ∷ 4 ∷ (c.as_bytes.result.now ++ 0 ∷ []) in
    let p = err_from_is_err_and c.from_residual-in_err-close.result c.from_residual-in_err-close.ensures.1 in
    rw p.1
    (grown_behind_three c.args.out.now.items front (framed (rows_spelling 0 c.args.rows.now)) (id_spelling c.args.id c.args.namespace.now) _ _ _ _ c.in_ok-append_three.ensures.ok c.in_ok-append_array.ensures.ok c.in_ok-append_id.ensures.ok
    c.in_err-close.ensures.err)
