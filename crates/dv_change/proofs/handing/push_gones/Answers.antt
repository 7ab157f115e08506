-- If there is no row, nothing is appended.
use Rattle.std.proofs.Common.{rules, ◌≡◌, ◌++◌, ap, sym, ◌∙◌, append-nil, slice_get, None}
use Rattle.dv_change.specs.Inner.Told.{gones_told}
use Rattle.dv_change.proofs.Fronts.{nothing}
use Rattle.dv_change.proofs.handing.push_gones.Goals as goal

pub returns-in_default-clause-out : goal.returns-in_default-clause-out
returns-in_default-clause-out c =
    let none : slice_get c.args.old.now 0 ≡ None = search rules in
    sym (append-nil c.args.out.now.items) ∙ ap (λ es. c.args.out.now.items ++ gones_told es c.args.new.now) (sym (nothing c.args.old.now none))
