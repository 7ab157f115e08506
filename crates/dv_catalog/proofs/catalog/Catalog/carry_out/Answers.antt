use Rattle.std.proofs.Common.{◌≡◌, inr, Ok, List, take, refl, sym, ap, ◌∙◌, arith}
use Rattle.std.proofs.lemmas.List.{take_all}
use Rattle.std.proofs.lemmas.Result.{err_from_is_err_and}
use Rattle.dv_catalog.specs.Changes.{Change, apply}
use Rattle.dv_catalog.specs.Inner.EffectView.{changes_seen, effect_seen}
use Rattle.dv_catalog.specs.declared.failure.Stopped.{Stopped}
use Rattle.dv_catalog.proofs.Marking.{stands_before}
use Rattle.dv_catalog.proofs.catalog.Catalog.carry_out.Goals as goal

pub returns-then-done-changed-clause-made : goal.returns-then-done-changed-clause-made
returns-then-done-changed-clause-made c =
    inr (record { so = refl; fewer = inr (omega (arith, c.if-done-changed.true, c.len-changed.ensures)); made = c.in_ok-done.ensures.made })

pub returns-clause-made : goal.returns-clause-made
returns-clause-made c =
    let changes = changes_seen c.args.effect.changes in
    let all : take c.in_ok-done.done changes ≡ changes = take_all c.in_ok-done.done changes (omega (arith, c.if-done-changed.false, c.len-changed.ensures)) in
    (changes, refl, sym c.len-changed.ensures, c.in_ok-done.ensures.made ∙ ap (λ (cs : List Change). apply c.args.namespace.now cs c.args.self.now.state.namespaces) all)

pub returns-in_err-done-clause-marks : goal.returns-in_err-done-clause-marks
returns-in_err-done-clause-marks c =
    let p = err_from_is_err_and c.from_residual.result c.from_residual.ensures.1 in
    rw c.in_err-done.ensures.kept (stands_before c.args.namespace.now (Ok (effect_seen c.args.effect)) c.args.self.now c.from_residual.result p.0 p.1 (ap (λ (s : Stopped). s.done) p.2))
