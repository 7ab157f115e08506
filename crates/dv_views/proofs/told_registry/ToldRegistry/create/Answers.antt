use Rattle.std.proofs.Common.{◌≡◌, ◌||◌, ℕ, false, List, map, None, ap, subst, sym, ◌∙◌}
use Rattle.dv_pipe.specs.Sources.{lists_of}
use Rattle.dv_pipe.specs.Stages.{is_read}
use Rattle.dv_views.specs.Forms.{ViewForm, fault_of_new, is_read_by, names_read, needed}
use Rattle.dv_views.specs.Inner.Made.{AreAlike}
use Rattle.dv_views.specs.Inner.Views.{AreRefreshed, AreRight, view_form}
use Rattle.dv_views.proofs.Needed.{asked_needed}
use Rattle.dv_views.proofs.Refreshing.{alike_reads, fresh_reads, no_fault, none_refreshed, ordered_reads, refused_with, same_called, where_refused}
use Rattle.dv_views.proofs.told_registry.ToldRegistry.create.Goals as goal
use Rattle.dv_views.specs.Inner.FormLaws.{same_forms}

pub returns-in-Some-clause-fault : goal.returns-in-Some-clause-fault
returns-in-Some-clause-fault c = refused_with (Unit {0}) (fault_of_new (map view_form c.args.self.now) c.args.name.now c.args.source.now c.args.pipeline) c.in-Some.fault (sym c.fault_of_new.ensures ∙ c.in-Some.is)

pub returns-in-Some-clause-err : goal.returns-in-Some-clause-err
returns-in-Some-clause-err c = none_refreshed (needed (map view_form c.args.self.now) (names_read c.args.pipeline c.args.source.now)) c.args.self.now

pub returns-in_err-names-clause-err : goal.returns-in_err-names-clause-err
returns-in_err-names-clause-err c = where_refused (Unit {0}) _ c.from_residual.result (none_refreshed (needed (map view_form c.args.self.now) (names_read c.args.pipeline c.args.source.now)) c.args.self.now)

pub returns-in_err-needed-clause-err : goal.returns-in_err-needed-clause-err
returns-in_err-needed-clause-err c = where_refused (Unit {0}) _ c.from_residual-in_err-needed.result (none_refreshed (needed (map view_form c.args.self.now) (names_read c.args.pipeline c.args.source.now)) c.args.self.now)

pub add-requires-clause-new : goal.add-requires-clause-new
add-requires-clause-new c =
    let asked = names_read c.args.pipeline c.args.source.now in
    let all = needed (map view_form c.args.self.now) asked in
    let these : c.deref.result.now ≡ all = c.deref.ensures.value ∙ c.in_ok-needed.ensures.needed ∙ ap (needed (map view_form c.args.self.now)) c.in_ok-names.ensures in
    let refreshed = subst (λ (ns : List (List ℕ)). AreRefreshed ns c.args.self.now c.refresh.new.self) these c.in_ok-refresh.ensures.ok in
    let none : fault_of_new (map view_form c.args.self.now) c.args.name.now c.args.source.now c.args.pipeline ≡ None = sym c.fault_of_new.ensures ∙ c.in_default.is in
    same_called c.args.name.now c.args.self.now c.refresh.new.self (same_forms all c.args.self.now c.refresh.new.self refreshed.0) ∙ (no_fault c.args.self.now c.args.name.now c.args.source.now c.args.pipeline none).0

pub add-requires-clause-unread : goal.add-requires-clause-unread
add-requires-clause-unread c =
    let asked = names_read c.args.pipeline c.args.source.now in
    let all = needed (map view_form c.args.self.now) asked in
    let these : c.deref.result.now ≡ all = c.deref.ensures.value ∙ c.in_ok-needed.ensures.needed ∙ ap (needed (map view_form c.args.self.now)) c.in_ok-names.ensures in
    let refreshed = subst (λ (ns : List (List ℕ)). AreRefreshed ns c.args.self.now c.refresh.new.self) these c.in_ok-refresh.ensures.ok in
    let none : fault_of_new (map view_form c.args.self.now) c.args.name.now c.args.source.now c.args.pipeline ≡ None = sym c.fault_of_new.ensures ∙ c.in_default.is in
    subst (λ (fs : List ViewForm). is_read_by fs c.args.name.now || is_read c.args.pipeline c.args.source.now c.args.name.now ≡ false) (sym (same_forms all c.args.self.now c.refresh.new.self refreshed.0))
    (no_fault c.args.self.now c.args.name.now c.args.source.now c.args.pipeline none).1

pub add-requires-clause-read : goal.add-requires-clause-read
add-requires-clause-read c =
    let asked = names_read c.args.pipeline c.args.source.now in
    ordered_reads (needed (map view_form c.args.self.now) asked) (lists_of c.args.sources.now) asked c.requires (asked_needed (map view_form c.args.self.now) asked)

pub add-requires-clause-live : goal.add-requires-clause-live
add-requires-clause-live c =
    let asked = names_read c.args.pipeline c.args.source.now in
    let all = needed (map view_form c.args.self.now) asked in
    let these : c.deref.result.now ≡ all = c.deref.ensures.value ∙ c.in_ok-needed.ensures.needed ∙ ap (needed (map view_form c.args.self.now)) c.in_ok-names.ensures in
    let refreshed = subst (λ (ns : List (List ℕ)). AreRefreshed ns c.args.self.now c.refresh.new.self) these c.in_ok-refresh.ensures.ok in
    fresh_reads all c.refresh.new.self asked refreshed.1 (asked_needed (map view_form c.args.self.now) asked)

pub returns-clause-ok : goal.returns-clause-ok
returns-clause-ok c =
    let asked = names_read c.args.pipeline c.args.source.now in
    let all = needed (map view_form c.args.self.now) asked in
    let these : c.deref.result.now ≡ all = c.deref.ensures.value ∙ c.in_ok-needed.ensures.needed ∙ ap (needed (map view_form c.args.self.now)) c.in_ok-names.ensures in
    record {
      refreshed = c.refresh.new.self;
      read = subst (λ (ns : List (List ℕ)). AreRefreshed ns c.args.self.now c.refresh.new.self) these c.in_ok-refresh.ensures.ok;
      added = c.in_ok-add.ensures.ok;
    }

pub returns-clause-right : goal.returns-clause-right
returns-clause-right c = λ others alike right.
    let asked = names_read c.args.pipeline c.args.source.now in
    let all = needed (map view_form c.args.self.now) asked in
    let these : c.deref.result.now ≡ all = c.deref.ensures.value ∙ c.in_ok-needed.ensures.needed ∙ ap (needed (map view_form c.args.self.now)) c.in_ok-names.ensures in
    let now : AreRight others c.refresh.new.self = c.refresh.ensures.right others (subst (λ (ns : List (List ℕ)). AreAlike ns (lists_of c.args.sources.now) others) (sym these) alike) right in
    c.add.ensures.right others (alike_reads all (lists_of c.args.sources.now) others asked alike (asked_needed (map view_form c.args.self.now) asked)) now
