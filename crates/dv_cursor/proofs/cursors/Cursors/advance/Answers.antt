use Rattle.std.proofs.Common.{◌≡◌, ◌≢◌, [], drop, true≢false, ap, sym, ◌∙◌}
use Rattle.std.specs.FinMap as finite
use Rattle.dv_cursor.specs.Cursors.{Cursor, Cursors, CursorPlace}
use Rattle.dv_cursor.proofs.Kept.{Kept, kept, get-kept, kept-written, remove-insert, advanced-none, advanced-out, advanced-left}
use Rattle.dv_cursor.proofs.cursors.Cursors.advance.Goals as goal

pub returns-in_default : goal.returns-in_default
returns-in_default c =
    let none = get-kept c.self.inside.cursors.entries (c.args.session, c.args.id) ∙ sym c.in_default.ensures.value in
    rw (← c.self.view_is) (rw c.get_mut.follows.holds-at-none (advanced-none _ c.args.session c.args.id c.args.count none))

pub returns-then-skip : goal.returns-then-skip
returns-then-skip c =
    let place : CursorPlace = (c.args.session, c.args.id) in
    let there = get-kept c.self.inside.cursors.entries place ∙ sym c.in-Some.ensures.value in
    let written = kept-written c.self.inside.cursors (c.get_mut.follows.lender c.skip.new.self) place _ c.skip.new.self c.in-Some.ensures.value (c.get_mut.follows.holds c.skip.new.self) in
    let out : drop c.args.count c.in-Some.cursor.now.rows ≡ [] = rw c.skip.ensures.skipped at (c.skip.ensures.out.0 c.if-skip.true) in
    let as_view : Kept → Cursors = λ m. record { kept = m; next = c.self.inside.next } in
    rw (c.close.ensures, ← c.self.view_is)
    (ap as_view (ap (λ (m : Kept). finite.remove m place) written ∙ remove-insert _ place c.skip.new.self)
    ∙ advanced-out _ c.args.session c.args.id c.args.count c.in-Some.cursor.now there out)

pub returns-else-skip : goal.returns-else-skip
returns-else-skip c =
    let place : CursorPlace = (c.args.session, c.args.id) in
    let there = get-kept c.self.inside.cursors.entries place ∙ sym c.in-Some.ensures.value in
    let written = kept-written c.self.inside.cursors (c.get_mut.follows.lender c.skip.new.self) place _ c.skip.new.self c.in-Some.ensures.value (c.get_mut.follows.holds c.skip.new.self) in
    let left : drop c.args.count c.in-Some.cursor.now.rows ≢ [] = λ out. true≢false (sym (c.skip.ensures.out.1 (rw c.skip.ensures.skipped out)) ∙ c.if-skip.false) in
    let as_view : Kept → Cursors = λ m. record { kept = m; next = c.self.inside.next } in
    rw (← c.self.view_is)
    (ap as_view (written ∙ ap (λ (w : Cursor). finite.insert (kept c.self.inside.cursors.entries) place w) c.skip.ensures.skipped)
    ∙ advanced-left _ c.args.session c.args.id c.args.count c.in-Some.cursor.now there left)
