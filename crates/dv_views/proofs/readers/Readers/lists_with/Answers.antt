use Rattle.std.proofs.Common.{◌∙◌, subst, sym}
use Rattle.std.specs.String.{string_bytes}
use Rattle.dv_views.specs.Inner.Readers.{listing_seen, places_with}
use Rattle.dv_views.specs.Inner.Seen.{view_seen}
use Rattle.dv_views.specs.Inner.Views.{view_form}
use Rattle.dv_views.proofs.Heights.{forms_of}
use Rattle.dv_views.proofs.Listed.{HaveView, Kept, view_done, view_next}
use Rattle.dv_views.proofs.readers.Readers.lists_with.Goals as goal

pub lists-preserved-in_ok-insert : goal.lists-preserved-in_ok-insert
lists-preserved-in_ok-insert c name =
    let es = c.args.views.now.entries in
    let more = view_form (view_seen name c.args.view.now) in
    let have = subst (λ (left : Kept _ _). HaveView (forms_of es) more (listing_seen left) (listing_seen c.lists.lists.entries)) c.in-Some.ensures.steps (c.lists.invariant name) in
    subst (λ (all : Kept _ _). HaveView (forms_of es) more (listing_seen c.next.new.self) (listing_seen all)) (sym c.in_ok-insert.ensures.entries)
    (view_next es more (string_bytes c.in-Some.namespace.now) c.in-Some.places.now.items (listing_seen c.next.new.self) c.lists.lists.entries c.in_ok-from_str.field-0 c.in_ok-more.more have (c.in_ok-from_str.ensures.ok ∙ c.as_str-in-lists.ensures.value)
    (c.in_ok-more.ensures ∙ (λ i. places_with (c.as_str.ensures.value i) c.args.view.now.stages c.args.view.now.source es (c.as_slice.ensures.value i))))

pub lists-preserved : goal.lists-preserved
lists-preserved c name =
    let es = c.args.views.now.entries in
    let more = view_form (view_seen name c.args.view.now) in
    let have = subst (λ (left : Kept _ _). HaveView (forms_of es) more (listing_seen left) (listing_seen c.lists.lists.entries)) c.in-Some.ensures.steps (c.lists.invariant name) in
    subst (λ (all : Kept _ _). HaveView (forms_of es) more (listing_seen c.next.new.self) (listing_seen all)) (sym c.in_ok-insert.ensures.entries)
    (view_next es more (string_bytes c.in-Some.namespace.now) c.in-Some.places.now.items (listing_seen c.next.new.self) c.lists.lists.entries c.in_ok-from_str.field-0 c.in_ok-more.more have (c.in_ok-from_str.ensures.ok ∙ c.as_str-in-lists.ensures.value)
    (c.in_ok-more.ensures ∙ (λ i. places_with (c.as_str.ensures.value i) c.args.view.now.stages c.args.view.now.source es (c.as_slice.ensures.value i))))

pub returns : goal.returns
returns c name =
    let es = c.args.views.now.entries in
    let more = view_form (view_seen name c.args.view.now) in
    view_done (forms_of es) more (listing_seen c.lists.lists.entries) (subst (λ (left : Kept _ _). HaveView (forms_of es) more (listing_seen left) (listing_seen c.lists.lists.entries)) c.in-None.ensures.steps.0 (c.lists.invariant name))
