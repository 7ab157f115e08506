use Rattle.std.proofs.Common.{◌≡◌, ◌∙◌, ◌-◌, ◌+◌, ap, ap₂, sym, arith, true, refl, length, slice_get}
use Rattle.std.proofs.lemmas.Option.{slice_get_read}
use Rattle.dv_row.specs.ProjectParsing.{one_begins}
use Rattle.dv_row.proofs.Conflicting.{none-near, near-conflicts}
use Rattle.dv_row.proofs.conflict.neighbours_conflict.Goals as goal

pub returns-then-one_begins : goal.returns-then-one_begins
returns-then-one_begins c =
    let ps = c.args.paths.now in
    let later = c.paths.later in
    let before = c.index-paths-later.result in
    let behind = c.index-paths-later-in-paths.result in
    let begins : one_begins before behind ≡ true = ap₂ (λ p q. one_begins p q) (sym c.components.ensures.components) (sym c.components-in-paths.ensures.components) ∙ sym c.one_begins.ensures ∙ c.if-one_begins.true in
    let place : later - 1 + 1 ≡ later = omega (arith, c.paths.invariant.0) in
    sym (near-conflicts ps (later - 1) before behind (slice_get_read ps (length ps) (later - 1) before refl (omega (arith, c.paths-test.true, c.paths.invariant.0)) c.index-paths-later.is)
    (ap (slice_get ps) place ∙ slice_get_read ps (length ps) later behind refl c.paths-test.true c.index-paths-later-in-paths.is) begins)

pub returns : goal.returns
returns c = sym (none-near c.args.paths.now c.requires.far (λ k d l. c.paths.invariant.1 k d (omega (arith, l, c.paths-test.false))))
