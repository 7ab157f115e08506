use Rattle.std.proofs.Common.{ℕ, List, [], ◌∷◌, ◌∙◌, arith}
use Rattle.std.proofs.lemmas.Result.{err_from_is_err_and}
use Rattle.dv_message.specs.Inner.Batches.{cursor_spelling}
use Rattle.dv_message.proofs.Batches.{batch_closed, batch-within, grown, grown_behind_two, grown_behind_three, longer}
use Rattle.dv_message.proofs.batch.append_reply_with.Goals as goal

abbrev front : List ℕ
front = 0 ∷ 0 ∷ 0 ∷ 0 ∷ 3 ∷ 99 ∷ 117 ∷ 114 ∷ 115 ∷ 111 ∷ 114 ∷ 0 ∷ []

pub close-requires : goal.close-requires
close-requires c =
    let cursor = cursor_spelling c.args.name.now c.args.namespace.now c.args.id c.args.rows.now in
    omega (
      arith,
      c.len-start.ensures,
      c.in_ok-extend_from_slice.ensures.len,
      c.extend_from_slice.new.self.ok.0,
      longer c.extend_from_slice.new.self.items cursor c.append_cursor.new.out.items c.in_ok-append_cursor.ensures.ok,
      c.append_cursor.new.out.ok.0,
      c.in_ok-extend_from_slice-2.ensures.len,
    )

pub returns-clause-ok : goal.returns-clause-ok
returns-clause-ok c =
    c.in_ok-close.ensures.ok
    ∙ batch_closed c.args.name.now c.args.namespace.now c.args.id c.args.rows.now _ _ _ _ c.len-start.result (c.len-start.ensures ∙ c.args.out.now.ok.0) c.in_ok-extend_from_slice.ensures.items c.in_ok-append_cursor.ensures.ok c.in_ok-extend_from_slice-2.ensures.items

pub returns-clause-within : goal.returns-clause-within
returns-clause-within c =
    let appended =
    c.in_ok-close.ensures.ok
    ∙ batch_closed c.args.name.now c.args.namespace.now c.args.id c.args.rows.now _ _ _ _ c.len-start.result (c.len-start.ensures ∙ c.args.out.now.ok.0) c.in_ok-extend_from_slice.ensures.items c.in_ok-append_cursor.ensures.ok c.in_ok-extend_from_slice-2.ensures.items in
    batch-within c.args.name.now c.args.namespace.now c.args.id c.args.rows.now _ _ c.len-start.result c.close.new.out.len (c.len-start.ensures ∙ c.args.out.now.ok.0) c.close.new.out.ok.0 appended c.in_ok-close.ensures.within

pub returns-in_err-append_cursor-clause-err : goal.returns-in_err-append_cursor-clause-err
returns-in_err-append_cursor-clause-err c =
    let p = err_from_is_err_and c.from_residual-in_err-append_cursor.result c.from_residual-in_err-append_cursor.ensures.1 in
    rw p.1 (grown _ _ _ _ c.in_ok-extend_from_slice.ensures.items c.in_err-append_cursor.ensures.err)

pub returns-in_err-extend_from_slice-2-clause-err : goal.returns-in_err-extend_from_slice-2-clause-err
returns-in_err-extend_from_slice-2-clause-err c =
    let cursor = cursor_spelling c.args.name.now c.args.namespace.now c.args.id c.args.rows.now in
    let p = err_from_is_err_and c.from_residual-in_err-extend_from_slice-2.result c.from_residual-in_err-extend_from_slice-2.ensures.1 in
    rw p.1 (grown_behind_two c.args.out.now.items front cursor _ _ _ c.in_ok-extend_from_slice.ensures.items c.in_ok-append_cursor.ensures.ok c.in_err-extend_from_slice-2.ensures.items)

pub returns-in_err-close-clause-err : goal.returns-in_err-close-clause-err
returns-in_err-close-clause-err c =
    let cursor = cursor_spelling c.args.name.now c.args.namespace.now c.args.id c.args.rows.now in
    let p = err_from_is_err_and c.from_residual-in_err-close.result c.from_residual-in_err-close.ensures.1 in
    rw p.1
    (grown_behind_three c.args.out.now.items front cursor (16 ∷ 111 ∷ 107 ∷ 0 ∷ 1 ∷ 0 ∷ 0 ∷ 0 ∷ []) _ _ _ _ c.in_ok-extend_from_slice.ensures.items c.in_ok-append_cursor.ensures.ok c.in_ok-extend_from_slice-2.ensures.items
    c.in_err-close.ensures.err)
