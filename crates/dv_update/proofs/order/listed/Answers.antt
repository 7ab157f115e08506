use Rattle.std.proofs.Common.{◌≡◌, ◌∙◌, ap, map, ◌∷◌, sym, inr, Ok, Err, if◌then◌else◌}
use Rattle.std.proofs.lemmas.List.{map-append}
use Rattle.dv_update.specs.Inner.Collected.{last_begins}
use Rattle.dv_update.specs.Update.{Edit}
use Rattle.dv_update.specs.View.{edit, entry, operation}
use Rattle.dv_update.specs.declared.fault.UpdateFault.TheVariants.{Conflict}
use Rattle.dv_update.proofs.Placed.{entries-rise, one_taken, not_taken}
use Rattle.dv_update.proofs.order.listed.Goals as goal

pub returns-then-follows_its_beginning : goal.returns-then-follows_its_beginning
returns-then-follows_its_beginning c =
    let all = map entry c.args.places.entries in
    let x : Edit = (c.into_path-path.result, operation c.in-Some.operation) in
    let rest = map entry c.pop_first.new.self.entries in
    let is : map entry c.edits.places.entries ≡ x ∷ rest = ap (map entry) c.in-Some.ensures.removal ∙ ap (λ k. let e : Edit = (k, operation c.in-Some.operation) in e ∷ rest) (sym c.into_path-path.ensures) in
    let last = c.if-follows_its_beginning.ensures ∙ ap (λ es. last_begins x.0 (map edit es)) c.deref.ensures.value in
    inr (ap (λ b. if b then Err Conflict else Ok all) (not_taken c.edits.invariant (entries-rise c.args.places.entries c.requires) x rest is (sym last)))

pub edits-preserved : goal.edits-preserved
edits-preserved c =
    let x : Edit = (c.into_path-path.result, operation c.in-Some.operation) in
    let rest = map entry c.pop_first.new.self.entries in
    let is : map entry c.edits.places.entries ≡ x ∷ rest = ap (map entry) c.in-Some.ensures.removal ∙ ap (λ k. let e : Edit = (k, operation c.in-Some.operation) in e ∷ rest) (sym c.into_path-path.ensures) in
    let last = c.if-follows_its_beginning.ensures ∙ ap (λ es. last_begins x.0 (map edit es)) c.deref.ensures.value in
    rw (c.in_ok-push.ensures.items, map-append) (one_taken c.edits.invariant (entries-rise c.args.places.entries c.requires) x rest is (sym last))
