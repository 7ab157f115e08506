use Rattle.std.proofs.Common.{◌≡◌, ◌∙◌, ◌+◌, ◌∷◌, [], List, ℕ, Some, length, slice_get, subst, sym, take}
use Rattle.std.proofs.lemmas.List.{take_all}
use Rattle.dv_views.specs.Inner.Readers.{AreListed, Listing, listing_seen, with_list}
use Rattle.dv_views.specs.Inner.Seen.{view_seen}
use Rattle.dv_views.specs.Inner.Views.{view_form}
use Rattle.dv_views.proofs.Heights.{forms_of}
use Rattle.dv_views.proofs.Marked.{take_last, there_at}
use Rattle.dv_views.proofs.ReadBy.{all_listed, listed_more, lookup_read, source_read}
use Rattle.dv_views.proofs.readers.Readers.with.Goals as goal

pub names-init : goal.names-init
names-init c name =
    let es = c.args.views.now.entries in
    let b = c.args.view.now in
    let more = view_form (view_seen name b) in
    let listing = listing_seen c.in_ok-lists.lists.entries in
    subst (λ (all : Listing). AreListed (forms_of es) more (b.source ∷ []) all) (sym (c.in_ok-list_under.ensures ∙ (λ i. with_list (c.source.ensures i) (c.len.ensures.len i) listing)))
    (listed_more es more [] b.source listing (c.in_ok-lists.ensures name) (source_read b.stages b.source))

pub names-preserved : goal.names-preserved
names-preserved c name =
    let es = c.args.views.now.entries in
    let b = c.args.view.now in
    let more = view_form (view_seen name b) in
    let listing = listing_seen c.names.lists.entries in
    let i = c.names.name-index in
    let names = c.lookups-name-items.result.now in
    let n = c.name-item.result in
    let there : slice_get names i ≡ Some n = there_at n names i c.names-test.true c.name-item.is in
    let read = lookup_read b.stages b.source i n (subst (λ (ns : List (List ℕ)). slice_get ns i ≡ Some n) c.lookups-name-items.ensures there) in
    subst (λ (all : Listing). AreListed (forms_of es) more (b.source ∷ take (i + 1) names) all) (sym (c.in_ok-list_under-2.ensures ∙ (λ k. with_list (c.as_str.ensures k) (c.len-in-names.ensures.len k) listing)))
    (subst (λ (ns : List (List ℕ)). AreListed (forms_of es) more (b.source ∷ ns) (with_list n (length es) listing)) (sym (take_last names i n there))
    (listed_more es more (b.source ∷ take i names) n listing (c.names.invariant name) read))

pub returns : goal.returns
returns c name =
    let es = c.args.views.now.entries in
    let b = c.args.view.now in
    let more = view_form (view_seen name b) in
    let listing = listing_seen c.names.lists.entries in
    let whole = take_all c.names.name-index c.lookups-name-items.result.now c.names-test.false ∙ c.lookups-name-items.ensures in
    all_listed es more listing (subst (λ (ns : List (List ℕ)). AreListed (forms_of es) more (b.source ∷ ns) listing) whole (c.names.invariant name))
