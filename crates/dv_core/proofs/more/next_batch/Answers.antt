use mir.Syntax.{w64}
use mir.Val.{SFits}
use Rattle.std.proofs.lemmas.Int.{to_z-of_z}
use Rattle.std.proofs.Common.{◌≡◌, ◌∙◌, ap, sym, arith, rules, length, map, nat_lt, cond, Some}
use Rattle.std.specs.String.{string_bytes}
use Rattle.dv_command.specs.Replies.{document_of, next_batch_reply}
use Rattle.dv_cursor.specs.Batch.{batch}
use Rattle.dv_cursor.specs.Cursors.{advanced}
use Rattle.dv_core.specs.More.{cursor_number, rows_asked, rows_wanted}
use Rattle.dv_core.proofs.Mores.{Rows, more_given, told_some, told_none}
use Rattle.dv_core.proofs.more.next_batch.Goals as goal
use Rattle.dv_core.proofs.more.next_batch.Goals.{then-taken-len, else-taken-len}

pub returns-clause-reply : goal.returns-clause-reply
returns-clause-reply c =
    let asked = c.args.asked in
    let rows : Rows = c.in-Some.rows.now in
    let taken : Rows = batch (rows_wanted asked.batch_size rows) rows in
    let fits : SFits w64 asked.id = search rules in
    let there : rows_asked c.args.session (string_bytes asked.namespace) asked.id c.args.cursors.now ≡ Some rows = sym (simp to_z-of_z at (rw c.deref.ensures at c.in-Some.ensures)) in
    let items : c.in_ok-batch.batch.items ≡ taken = cc (c.in_ok-batch.ensures, c.wanted.ensures) in
    let many : c.len-taken.result ≡ length taken = c.len-taken.ensures ∙ c.in_ok-batch.batch.ok.0 ∙ ap (λ (rs : Rows). length rs) items in
    let long : c.len.result ≡ length rows = c.len.ensures in
    let number : c.number_of-id.result ≡ cursor_number asked.id = simp to_z-of_z at c.number_of-id.ensures.number in
    let told : c.if-taken-len.told ≡ cond (nat_lt (length taken) (length rows)) (cursor_number asked.id) 0 =
    elim c.if-taken-len.branch [
      | then-taken-len w ↦ told_some (length taken) (length rows) c.len-taken.result c.len.result (cursor_number asked.id) c.if-taken-len.told many long w.if-taken-len.true (w.told-is ∙ number)
      | else-taken-len w ↦ told_none (length taken) (length rows) c.len-taken.result c.len.result (cursor_number asked.id) c.if-taken-len.told many long w.if-taken-len.false w.told-is
    ] in
    let reply = ap (λ (rs : Rows). next_batch_reply (string_bytes asked.namespace) c.if-taken-len.told (map document_of rs)) items in
    let left : c.advance.new.self ≡ advanced c.args.session (cursor_number asked.id) (length taken) c.args.cursors.now = cc (c.advance.ensures, number, many) in
    more_given c.args.session (string_bytes asked.namespace) asked.id asked.batch_size rows c.args.cursors.now there c.if-taken-len.told told _ reply c.advance.new.self left

pub returns-clause-id : goal.returns-clause-id
returns-clause-id c =
    elim c.if-taken-len.branch [
      | then-taken-len w ↦ omega (arith, w.told-is, c.number_of-id.ensures.fits)
      | else-taken-len w ↦ omega (arith, w.told-is)
    ]
