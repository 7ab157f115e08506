use Rattle.std.proofs.Common.{length, refl, sym, ap, ◌∙◌}
use Rattle.std.proofs.lemmas.Option.{slice_get_read}
use Rattle.dv_catalog.specs.IndexMaking.{is_same}
use Rattle.dv_catalog.proofs.Found.{any_at}
use Rattle.dv_keyed.specs.Inner.View.{form_of_new}
use Rattle.dv_catalog.proofs.pending_indexes.is_at.Goals as goal

pub returns-in-Some : goal.returns-in-Some
returns-in-Some c = λ is.
    let x = form_of_new c.args.index.now in
    let there = c.in-Some.there.now in
    let others = c.args.others.now in
    let lookup = c.in-Some.ensures.lookup in
    any_at (λ y. is_same x (form_of_new y)) others c.args.place there (sym (slice_get_read others (length others) c.args.place there refl lookup.3.0 lookup.1))
    (ap (λ name. is_same x (record { name = name; path = there.path; unique = there.unique })) (sym c.as_str.ensures) ∙ sym c.is_same.ensures ∙ is)
