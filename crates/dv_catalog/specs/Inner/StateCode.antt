-- A state as a ghost value, one to one, so that a proof can distinguish two states.
use Rattle.std.specs.Prelude.{◌≡◌, ℕ, List, Option, Some, None, refl}
use Rattle.std.specs.Coded.{Coded, code_by, coded_list, coded_option, coded×, coded_ℕ}
use Rattle.std.specs.FinMap as finite
use Rattle.dv_index.specs.Inner.Indexed.{coded_indexed}
use Rattle.dv_pipe.specs.contracts.pipeline.Pipeline as pipelines
use Rattle.dv_pipe.specs.declared.stage.Stage.{Stage}
use Rattle.dv_catalog.specs.Marks.{Mark, Marked, live, stale}
use Rattle.dv_views.specs.Forms.{ViewForm}
use Rattle.dv_catalog.specs.State.{Collection, Standing, collection, Namespaces, State}

abbrev collection_in : Standing → Collection
collection_in (collection c) = c

pub same_standing : (s : Standing) → collection (collection_in s) ≡ s
same_standing (collection c) = refl

abbrev pub coded_standing : Coded Standing
coded_standing = code_by Collection coded_indexed collection_in collection same_standing

abbrev pub coded_namespaces : Coded Namespaces
coded_namespaces = finite.code (coded_list coded_ℕ) coded_standing

abbrev pub coded_view : Coded ViewForm
coded_view =
    code_by (List ℕ × (List ℕ × List Stage)) (coded× (coded_list coded_ℕ) (coded× (coded_list coded_ℕ) pipelines.the_row.coded))
    (λ v. (v.name, (v.source, v.stages))) (λ parts. record { name = parts.0; source = parts.1.0; stages = parts.1.1 }) (λ _. refl)

abbrev pub coded_state : Coded State
coded_state =
    code_by (Namespaces × List ViewForm) (coded× coded_namespaces (coded_list coded_view))
    (λ s. (s.namespaces, s.views)) (λ parts. record { namespaces = parts.0; views = parts.1 }) (λ _. refl)

abbrev pub ticks_in : Mark → Option ℕ
ticks_in (live ticks) = Some ticks
ticks_in stale = None

abbrev pub mark_with : Option ℕ → Mark
mark_with (Some ticks) = live ticks
mark_with None = stale

pub mark_back : (mark : Mark) → mark_with (ticks_in mark) ≡ mark
mark_back (live ticks) = refl
mark_back stale = refl

abbrev pub coded_mark : Coded Mark
coded_mark = code_by (Option ℕ) (coded_option coded_ℕ) ticks_in mark_with mark_back

abbrev pub coded_marked : Coded Marked
coded_marked =
    code_by (State × List Mark) (coded× coded_state (coded_list coded_mark))
    (λ m. (m.state, m.marks)) (λ parts. record { state = parts.0; marks = parts.1 }) (λ _. refl)
