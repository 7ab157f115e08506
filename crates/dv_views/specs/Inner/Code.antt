-- Views as ghost values, one to one, so that a proof can distinguish two of them.
use Rattle.std.specs.Prelude.{◌≡◌, ℕ, List, Option, Some, None, refl}
use Rattle.std.specs.Coded.{Coded, coded_ℕ, coded_list, coded_option, coded×, code_by}
use Rattle.dv_value.specs.Inner.TreeCode.{coded_tree}
use Rattle.dv_pipe.specs.Sources.{Row}
use Rattle.dv_pipe.specs.contracts.pipeline.Pipeline as pipelines
use Rattle.dv_pipe.specs.declared.stage.Stage.{Stage}
use Rattle.dv_change.specs.contracts.position.Pos as positions
use Rattle.dv_change.specs.declared.taking.Taken as taking
use Rattle.dv_change.specs.Changes.{Positioned}
use Rattle.dv_change.specs.Positions.{PosTree}
use Rattle.dv_views.specs.contracts.stage_operator.StageOperator as operators
use Rattle.dv_views.specs.declared.stage_operator.StageOperator.{StageOperator}
use Rattle.dv_views.specs.Inner.Body.{Body}
use Rattle.dv_views.specs.Views.{Kept, ViewMark, View, live, stale}
use Rattle.dv_views.specs.Inner.Views.{Views}

abbrev pub coded_name : Coded (List ℕ)
coded_name = coded_list coded_ℕ

abbrev pub coded_view_rows : Coded (List Row)
coded_view_rows = coded_list (coded_list (coded× coded_name coded_tree))

-- rows at positions
abbrev pub coded_positioned : Coded Positioned
coded_positioned = coded_list (coded× positions.the_row.coded (coded_list (coded× coded_name coded_tree)))

abbrev pub coded_kept : Coded Kept
coded_kept =
    code_by (List StageOperator × (Positioned × ℕ)) (coded× (coded_list operators.the_row.coded) (coded× coded_positioned coded_ℕ)) (λ k. (k.operators, (k.rows, k.ticks))) (λ p. record { operators = p.0; rows = p.1.0; ticks = p.1.1 }) (λ _. refl)

-- what is kept, if anything is
abbrev pub mark_of : Option Kept → ViewMark
mark_of None = stale
mark_of (Some kept) = live kept

abbrev pub mark_parts : ViewMark → Option Kept
mark_parts (live kept) = Some kept
mark_parts stale = None

pub mark-back : (m : ViewMark) → mark_of (mark_parts m) ≡ m
mark-back (live kept) = refl
mark-back stale = refl

abbrev pub coded_view_mark : Coded ViewMark
coded_view_mark = code_by (Option Kept) (coded_option coded_kept) mark_parts mark_of mark-back

abbrev coded_row : Coded Row
coded_row = coded_list (coded× coded_name coded_tree)

abbrev pub coded_told : Coded taking.Taken
coded_told =
    code_by (PosTree × (Option Row × Option Row)) (coded× positions.the_row.coded (coded× (coded_option coded_row) (coded_option coded_row))) (λ t. (t.pos, (t.old, t.new))) (λ p. record { pos = p.0; old = p.1.0; new = p.1.1 }) (λ _. refl)

abbrev pub coded_body : Coded Body
coded_body =
    code_by (List ℕ × (List Stage × (ℕ × (ViewMark × Option (List taking.Taken))))) (coded× coded_name (coded× pipelines.the_row.coded (coded× coded_ℕ (coded× coded_view_mark (coded_option (coded_list coded_told))))))
    (λ b. (b.source, (b.stages, (b.height, (b.mark, b.told))))) (λ p. record { source = p.0; stages = p.1.0; height = p.1.1.0; mark = p.1.1.1.0; told = p.1.1.1.1 }) (λ _. refl)

abbrev pub coded_kept_view : Coded View
coded_kept_view = code_by (List ℕ × (List ℕ × (List Stage × ViewMark))) (coded× coded_name (coded× coded_name (coded× pipelines.the_row.coded coded_view_mark))) (λ v. (v.name, (v.source, (v.stages, v.mark)))) (λ p. record { name = p.0; source = p.1.0; stages = p.1.1.0; mark = p.1.1.1 }) (λ _. refl)

abbrev pub coded_views : Coded Views
coded_views = coded_list coded_kept_view
