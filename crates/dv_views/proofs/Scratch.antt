-- The rows that stages return at positions are, without the positions, the rows of these stages.
use Rattle.std.proofs.Common.{◌≡◌, ◌||◌, ℕ, Bool, true, false, List, [], ◌∷◌, map, length, take, drop, Option, Some, None, refl, ap, ◌∙◌}
use Rattle.std.specs.Prelude.{filter}
use Rattle.std.proofs.lemmas.Slice.Eq.{bytes_eq-Decides}
use Rattle.std.specs.Str.{bytes_eq}
use Rattle.std.specs.List.{AllByRecursion, flat_map}
use Rattle.std.specs.Map.{keys_of}
use Rattle.std.specs.Option.{option_map}
use Rattle.dv_change.specs.Changes.{Positioned, forget}
use Rattle.dv_change.specs.Inner.Changes.{HaveOneLength, IsPositioned}
use Rattle.dv_change.specs.Positions.{PosTree}
use Rattle.dv_change.specs.Work as work
use Rattle.dv_flow.specs.Inner.Limiting.{limit_even, limit_ordered}
use Rattle.dv_flow.specs.Inner.Matching.{match_even, match_ordered}
use Rattle.dv_flow.specs.Placed.{front_at, matched_at, shown_at, sorted_at, unwound_at}
use Rattle.dv_flow.specs.Inner.Projecting.{project_even, project_ordered}
use Rattle.dv_flow.specs.Inner.Sorting.{sort_even, sort_ordered}
use Rattle.dv_flow.specs.Inner.Unwinding.{unwind_even, unwind_ordered}
use Rattle.dv_gather.specs.declared.lookup.Lookup as lookups
use Rattle.dv_gather.specs.Grouping.{Grouping, grouped}
use Rattle.dv_gather.specs.Lookups.{looked_up}
use Rattle.dv_group.specs.Inner.Grouped.{group_even, group_ordered}
use Rattle.dv_group.specs.Placed.{grouped_at}
use Rattle.dv_join.specs.Placed.{looked_up_at}
use Rattle.dv_join.specs.Inner.Placed.{looked_up_even, looked_up_ordered}
use Rattle.dv_join.specs.Turning.{first_input}
use Rattle.dv_match.specs.Filter.{Members}
use Rattle.dv_match.specs.Match.{matches}
use Rattle.dv_path.specs.SortSpec as sorts
use Rattle.dv_pipe.specs.declared.stage.Stage.{Stage}
use Rattle.dv_pipe.specs.declared.stage.Stage.TheVariants.{Match, Project, Unwind, Sort, Limit, Group, Lookup}
use Rattle.dv_pipe.specs.Sources.{Row}
use Rattle.dv_pipe.specs.Stages as pipes
use Rattle.dv_pipe.specs.Stages.{Lists, beside, evaluated, from_of, looked_into, rows_at, stage}
use Rattle.dv_row.specs.declared.project.Project as projects
use Rattle.dv_row.specs.declared.unwind.Unwind as unwinds
use Rattle.dv_row.specs.Projecting.{projected}
use Rattle.dv_row.specs.Unwinding.{unwound}
use Rattle.dv_sort.specs.Sorting.{stable}
use Rattle.dv_views.specs.Forms.{is_name_among, names_read, outs_of}
use Rattle.dv_views.specs.Placed.{ListPlaces, forms, listed_under, lists_in, lookups_of, positioned, stage_at, names_with}

-- what the crates of the stages say
pub record StageLaws : Type 0 where
  pub matched : (form : Members) (rows : Positioned) → forget (matched_at form rows) ≡ filter (matches form) (forget rows)
  pub shown : (project : projects.Project) (rows : Positioned) → forget (shown_at project rows) ≡ map (projected project) (forget rows)
  pub unwinds : (unwind : unwinds.Unwind) (rows : Positioned) → IsPositioned rows → HaveOneLength rows → forget (unwound_at unwind rows) ≡ flat_map (unwound unwind) (forget rows)
  pub sorted : (parts : List sorts.Part) (rows : Positioned) → IsPositioned rows → forget (sorted_at parts rows) ≡ stable parts (forget rows)
  pub first : (count : ℕ) (rows : Positioned) → forget (front_at count rows) ≡ take count (forget rows)
  pub groups : (group : Grouping) (rows : Positioned) → forget (grouped_at group rows) ≡ grouped group (forget rows)
  pub joined : (lookup : lookups.Lookup) (rows foreign : Positioned) → forget (looked_up_at lookup rows foreign) ≡ looked_up lookup (forget rows) (forget foreign)

-- ---- one stage

ordered_stage : (s : Stage) (named : List Positioned) (rows : Positioned) → IsPositioned rows → IsPositioned (stage_at s named rows)
unfolding stage_at
ordered_stage (Match form) named rows are = match_ordered form rows are
ordered_stage (Project p) named rows are = project_ordered p rows are
ordered_stage (Unwind u) named rows are = unwind_ordered u rows are
ordered_stage (Sort parts) named rows are = sort_ordered parts rows are
ordered_stage (Limit count) named rows are = limit_ordered count rows are
ordered_stage (Group g) named rows are = group_ordered g rows are
ordered_stage (Lookup l) named rows are = looked_up_ordered l (first_input named) rows are

even_stage : (s : Stage) (named : List Positioned) (rows : Positioned) → IsPositioned rows → HaveOneLength rows → HaveOneLength (stage_at s named rows)
unfolding stage_at
even_stage (Match form) named rows are one = match_even form rows are one
even_stage (Project p) named rows are one = project_even p rows are one
even_stage (Unwind u) named rows are one = unwind_even u rows are one
even_stage (Sort parts) named rows are one = sort_even parts rows are one
even_stage (Limit count) named rows are one = limit_even count rows one
even_stage (Group g) named rows are one = group_even g rows are one
even_stage (Lookup l) named rows are one = looked_up_even l (first_input named) rows one

pub even_outs : (stages : List Stage) (named : List Positioned) (rows : Positioned) → IsPositioned rows → HaveOneLength rows → HaveOneLength (work.through_forms (forms stages named) rows)
even_outs [] named rows are one = one
even_outs (s ∷ ss) named rows are one =
    let own = take (lists_in s) named in
    even_outs ss (drop (lists_in s) named) (stage_at s own rows) (ordered_stage s own rows are) (even_stage s own rows are one)

own_length : (ds : List Row) → AllByRecursion (λ (pos : PosTree). length pos ≡ 1) (keys_of (positioned ds))
own_length [] = tt
own_length (d ∷ ds) = (refl, own_length ds)

pub one_length : (ds : List Row) → HaveOneLength (positioned ds)
one_length ds = (1, own_length ds)

-- ---- the lists that stages read by `$lookup`

among-first : (name : List ℕ) (names : List (List ℕ)) → is_name_among name (name ∷ names) ≡ true
among-first name names = ap (λ b. b || is_name_among name names) ((bytes_eq-Decides name name).1 refl)

among-next : (name other : List ℕ) (names : List (List ℕ)) → is_name_among name names ≡ true → is_name_among name (other ∷ names) ≡ true
among-next name other names is = by (bytes_eq name other)
  where
    by : (b : Bool) → b || is_name_among name names ≡ true
    by true = refl
    by false = is

among-more : (name : List ℕ) (o : Option (List ℕ)) (names : List (List ℕ)) → is_name_among name names ≡ true → is_name_among name (names_with o names) ≡ true
among-more name None names is = is
among-more name (Some other) names is = among-next name other names is

other_lists : (places : ListPlaces) (source : List ℕ) (o : Option (List ℕ)) (names : List (List ℕ)) → drop (listed_under o) (map places (names_with (option_map (beside source) o) names)) ≡ map places names
other_lists places source None names = refl
other_lists places source (Some collection) names = refl

own_list : (places : ListPlaces) (lists : Lists) (source : List ℕ) (o : Option (List ℕ)) (names : List (List ℕ)) → ((name : List ℕ) → is_name_among name (names_with (option_map (beside source) o) names) ≡ true → forget (places name) ≡ lists name)
    → forget (first_input (take (listed_under o) (map places (names_with (option_map (beside source) o) names)))) ≡ rows_at (option_map (beside source) o) lists
own_list places lists source None names same = refl
own_list places lists source (Some collection) names same = same (beside source collection) (among-first (beside source collection) names)

module _ (laws : StageLaws) where
  forget_stage : (s : Stage) (named : List Positioned) (rows : Positioned) → IsPositioned rows → HaveOneLength rows → forget (stage_at s named rows) ≡ stage s (forget rows) (forget (first_input named))
  unfolding stage_at stage
  forget_stage (Match form) named rows are one = laws.matched form rows
  forget_stage (Project p) named rows are one = laws.shown p rows
  forget_stage (Unwind u) named rows are one = laws.unwinds u rows are one
  forget_stage (Sort parts) named rows are one = laws.sorted parts rows are
  forget_stage (Limit count) named rows are one = laws.first count rows
  forget_stage (Group g) named rows are one = laws.groups g rows
  forget_stage (Lookup l) named rows are one = laws.joined l rows (first_input named)

  -- ---- all stages

  forget_through : (ss : List Stage) (source : List ℕ) (places : ListPlaces) (lists : Lists) (rows : Positioned) → IsPositioned rows → HaveOneLength rows
      → ((name : List ℕ) → is_name_among name (lookups_of ss source) ≡ true → forget (places name) ≡ lists name) → forget (work.through_forms (forms ss (map places (lookups_of ss source))) rows) ≡ pipes.through ss source lists (forget rows)
  unfolding pipes.through
  forget_through [] source places lists rows are one same = refl
  forget_through (s ∷ ss) source places lists rows are one same =
      let named = map places (names_with (looked_into s source) (lookups_of ss source)) in
      let own = take (lists_in s) named in
      ap (λ (others : List Positioned). forget (work.through_forms (forms ss others) (stage_at s own rows))) (other_lists places source (from_of s) (lookups_of ss source))
      ∙ forget_through ss source places lists (stage_at s own rows) (ordered_stage s own rows are) (even_stage s own rows are one) (λ name is. same name (among-more name (looked_into s source) (lookups_of ss source) is))
      ∙ ap (pipes.through ss source lists) (forget_stage s own rows are one ∙ ap (stage s (forget rows)) (own_list places lists source (from_of s) (lookups_of ss source) same))

  pub from_scratch : (stages : List Stage) (source : List ℕ) (places : ListPlaces) (lists : Lists) → IsPositioned (places source) → HaveOneLength (places source) → ((name : List ℕ) → is_name_among name (names_read stages source) ≡ true → forget (places name) ≡ lists name)
      → forget (outs_of stages source places) ≡ evaluated stages source lists
  from_scratch stages source places lists are one same =
      forget_through stages source places lists (places source) are one (λ name is. same name (among-next name source (lookups_of stages source) is)) ∙ ap (pipes.through stages source lists) (same source (among-first source (lookups_of stages source)))
