use Rattle.std.proofs.Common.{◌≡◌, ◌+◌, ◌||◌, Bool, true, false, drop, is_some, ap, sym, ◌∙◌}
use Rattle.std.specs.List.{list_any}
use Rattle.dv_views.specs.Inner.Passing.{told_to}
use Rattle.dv_views.proofs.Marked.{any_next}
use Rattle.dv_views.proofs.passing.Passing.reaches.Goals as goal

pub names-preserved : goal.names-preserved
names-preserved c =
    let told = told_to c.args.self.now in
    let away : is_some (told c.name-item.result) ≡ false = cc in
    c.names.invariant ∙ any_next (λ name. is_some (told name)) c.name-item.result c.args.names.now c.names.name-index c.names-test.true c.name-item.is
    ∙ ap (λ (b : Bool). b || list_any (λ name. is_some (told name)) (drop (c.names.name-index + 1) c.args.names.now)) away

pub returns-then-comes_to : goal.returns-then-comes_to
returns-then-comes_to c =
    let told = told_to c.args.self.now in
    let here : is_some (told c.name-item.result) ≡ true = cc in
    sym (c.names.invariant ∙ any_next (λ name. is_some (told name)) c.name-item.result c.args.names.now c.names.name-index c.names-test.true c.name-item.is
    ∙ ap (λ (b : Bool). b || list_any (λ name. is_some (told name)) (drop (c.names.name-index + 1) c.args.names.now)) here)
