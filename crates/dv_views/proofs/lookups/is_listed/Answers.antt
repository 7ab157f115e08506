use Rattle.std.proofs.Common.{◌≡◌, ◌+◌, ◌||◌, Bool, true, false, drop, ap, sym, ◌∙◌}
use Rattle.std.specs.Str.{bytes_eq}
use Rattle.dv_views.specs.Forms.{is_name_among}
use Rattle.dv_views.proofs.Heights.{among_next}
use Rattle.dv_views.proofs.lookups.is_listed.Goals as goal

pub returns-then-eq : goal.returns-then-eq
returns-then-eq c =
    let name = c.args.name.now in
    let same : bytes_eq c.other-item.result c.args.name.now ≡ true = cc in
    sym (c.names.invariant ∙ among_next name c.other-item.result c.args.names.now c.names.other-index c.names-test.true c.other-item.is ∙ ap (λ (b : Bool). b || is_name_among name (drop (c.names.other-index + 1) c.args.names.now)) same)

pub names-preserved : goal.names-preserved
names-preserved c =
    let name = c.args.name.now in
    let other : bytes_eq c.other-item.result c.args.name.now ≡ false = cc in
    c.names.invariant ∙ among_next name c.other-item.result c.args.names.now c.names.other-index c.names-test.true c.other-item.is ∙ ap (λ (b : Bool). b || is_name_among name (drop (c.names.other-index + 1) c.args.names.now)) other
