use Rattle.std.proofs.Common.{List, [], ◌∷◌, ap, subst, ◌∙◌}
use Rattle.dv_change.specs.declared.taking.Taken as taking
use Rattle.dv_views.specs.Inner.Changed.{gones_of}
use Rattle.dv_views.specs.Inner.Turned.{HaveTaken, known_at}
use Rattle.dv_views.proofs.told_registry.ToldRegistry.take_gone.Goals as goal

pub returns-in-Ok-clause-taken : goal.returns-in-Ok-clause-taken
returns-in-Ok-clause-taken c =
    subst (λ (ts : List taking.Taken). HaveTaken (known_at c.args.namespace.now ts) c.args.self.now c.take.new.self) (c.from_ref.ensures.value ∙ ap (λ (t : taking.Taken). t ∷ []) c.in-Ok.ensures) c.take.ensures.taken

pub returns-in-Err-clause-taken : goal.returns-in-Err-clause-taken
returns-in-Err-clause-taken c = c.lose.ensures.taken (gones_of (c.args.document.now ∷ []))
