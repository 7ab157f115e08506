use Rattle.std.proofs.Common.{◌≡◌, ◌∙◌, ◌++◌, ℕ, List, inr, refl, rules, subst, sym}
use Rattle.std.proofs.lemmas.Result.{err_from_is_err_and}
use Rattle.std.specs.Io.KnownBytes.{Appends}
use Rattle.dv_scripts.specs.Script.{DoesLine, standing_of}
use Rattle.dv_words.specs.declared.fault.ScriptFault.TheVariants.{Write}
use Rattle.dv_scripts.proofs.script.Progress.finish_line.Goals as goal

pub returns-in_err-map_err-clause-stopped : goal.returns-in_err-map_err-clause-stopped
returns-in_err-map_err-clause-stopped g c =
    let p = err_from_is_err_and c.from_residual-in_err-map_err.result c.from_residual-in_err-map_err.ensures.1 in
    let given : (part : List ℕ) × (rest : List ℕ) × (c.as_bytes.result.now ≡ part ++ rest) × Appends (g.W.ByteOut.contents c.args.writer.now) (g.W.ByteOut.contents c.give_all.new.writer) part = search rules in
    let fault : c.in_err-map_err.field-0.0 ≡ Write = search rules in
    let old = standing_of c.args.self.now.sessions c.args.hub.now in
    let end = standing_of c.do_line.new.self.sessions c.do_line.new.hub in
    let does = subst (λ text. DoesLine old c.args.self.now.line.items text end) (sym c.as_bytes.ensures.value ∙ given.2) c.in_ok-text.ensures.done in
    rw (p.1, p.2, fault) (given.0, given.3, inr (given.1, end, does, refl))
