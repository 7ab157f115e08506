-- The changes under names reach the inputs of a view, each with the row that was there before.
use Rattle.std.proofs.Common.{◌≡◌, ◌+◌, ◌<◌, ℕ, zero, suc, true, List, [], ◌∷◌, ◌++◌, map, length, Option, Some, None, refl, ap, sym, ◌∙◌, append_assoc, arith}
use Rattle.std.specs.List.{AllByRecursion}
use Rattle.std.specs.Option.{option_map}
use Rattle.std.specs.Str.{bytes_eq}
use Rattle.std.proofs.lemmas.List.{length-map}
use Rattle.std.proofs.lemmas.List.Sums.{fold-append}
use Rattle.dv_value.specs.Tree.{Field}
use Rattle.dv_change.specs.declared.change.Change.{Change}
use Rattle.dv_change.specs.declared.change.Change.TheVariants.{Put, Gone}
use Rattle.dv_change.specs.declared.input.Input.{Input}
use Rattle.dv_change.specs.declared.input.Input.TheVariants.{Left, Named}
use Rattle.dv_change.specs.declared.taking.Taken as taking
use Rattle.dv_change.specs.Changes.{Positioned, at, with_change, with_changes}
use Rattle.dv_change.specs.Inner.Told.{change_to, change_told, changes_told, input_rows, list_at, told_along, with_old}
use Rattle.dv_change.specs.Inputs.{HasInput}
use Rattle.dv_change.specs.Positions.{PosTree}
use Rattle.dv_pipe.specs.declared.stage.Stage.{Stage}
use Rattle.dv_views.specs.Flow.{Arrival, Told, arrivals, arriving, arriving_at_lists, inputs_after}
use Rattle.dv_views.specs.Forms.{is_name_among, names_read}
use Rattle.dv_views.specs.Inner.Changed.{AreToldOf}
use Rattle.dv_views.specs.Inner.Turned.{Come, Known, come_along, coming, coming_to, coming_to_lists, taken_by}
use Rattle.dv_views.specs.Placed.{ListPlaces, lookups_of}
use Rattle.dv_views.specs.Views.{Inputs, inputs_from}
use Rattle.dv_views.proofs.Filling.{changed_mid, longer}
use Rattle.dv_views.proofs.Right.{itself, or-left, or-right}

-- ---- changes that are passed on with the rows that were there before

abbrev taken_of : PosTree → Option (List Field) → Option (List Field) → taking.Taken
taken_of pos old new = record { pos = pos; old = old; new = new }

pub told_is : (rows : Positioned) (t : taking.Taken) → t.old ≡ at t.pos rows → t ≡ with_old rows (change_told t)
told_is rows t same = by t.pos t.old t.new same
  where
    by : (pos : PosTree) (old new : Option (List Field)) → old ≡ at pos rows → taken_of pos old new ≡ with_old rows (change_to pos new)
    by pos old None same = λ i. record { pos = pos; old = same i; new = None }
    by pos old (Some row) same = λ i. record { pos = pos; old = same i; new = Some row }

-- they are what `told_along` returns, and what `told_along` returns are such changes
pub along_told : (rows : Positioned) (all : List taking.Taken) → AreToldOf rows all → all ≡ told_along rows (changes_told all)
along_told rows [] told = refl
along_told rows (t ∷ ts) told =
    let first = told_is rows t told.0 in
    let rest = along_told (with_change rows (change_told t)) ts told.1 in
    λ i. first i ∷ rest i

pub told_of_along : (rows : Positioned) (changes : List Change) → AreToldOf rows (told_along rows changes)
told_of_along rows [] = tt
told_of_along rows (Put pos row ∷ cs) = (refl, told_of_along (with_change rows (Put pos row)) cs)
told_of_along rows (Gone pos ∷ cs) = (refl, told_of_along (with_change rows (Gone pos)) cs)

-- ---- one input

along-both : (xs ys : List Arrival) (t : Inputs) → come_along (xs ++ ys) t ≡ come_along xs t ++ come_along ys (taken_by t xs)
along-both [] ys t = refl
along-both (x ∷ xs) ys t = ap (λ (cs : List Come). record { input = x.input; taken = with_old (input_rows x.input t.named t.left) x.change } ∷ cs) (along-both xs ys (inputs_after x.input x.change t))

lefts-come : (changes : List Change) (left : Positioned) (named : List Positioned) → coming Left (Some (told_along left changes)) ≡ come_along (arriving Left (Some changes)) (record { left = left; named = named })
lefts-come [] left named = refl
lefts-come (c ∷ cs) left named = ap (λ (all : List Come). record { input = Left; taken = with_old left c } ∷ all) (lefts-come cs (with_change left c) named)

left-come : (o : Option (List Change)) (left : Positioned) (named : List Positioned) → coming Left (option_map (told_along left) o) ≡ come_along (arriving Left o) (record { left = left; named = named })
left-come None left named = refl
left-come (Some changes) left named = lefts-come changes left named

-- the rows after the changes
abbrev pub rows_behind : Option (List Change) → Positioned → Positioned
rows_behind None rows = rows
rows_behind (Some changes) rows = with_changes rows changes

lefts-taken : (changes : List Change) (left : Positioned) (named : List Positioned) → taken_by (record { left = left; named = named }) (arriving Left (Some changes)) ≡ record { left = with_changes left changes; named = named }
lefts-taken [] left named = refl
lefts-taken (c ∷ cs) left named = lefts-taken cs (with_change left c) named

left-taken : (o : Option (List Change)) (left : Positioned) (named : List Positioned) → taken_by (record { left = left; named = named }) (arriving Left o) ≡ record { left = rows_behind o left; named = named }
left-taken None left named = refl
left-taken (Some changes) left named = lefts-taken changes left named

at-mid : (i : ℕ) (front back : List Positioned) (rows : Positioned) → i ≡ length front → list_at i (front ++ rows ∷ back) ≡ rows
at-mid i [] back rows e = ap (λ n. list_at n (rows ∷ back)) e
at-mid zero (x ∷ front) back rows e = absurd cc
at-mid (suc i) (x ∷ front) back rows e = at-mid i front back rows cc

module _ (i : ℕ) (front back : List Positioned) (e : i ≡ length front) (left : Positioned) where
  abbrev there : Positioned → Inputs
  there rows = record { left = left; named = front ++ rows ∷ back }

  pub list_comes : (changes : List Change) (rows : Positioned) → coming (Named i) (Some (told_along rows changes)) ≡ come_along (arriving (Named i) (Some changes)) (there rows)
  list_comes [] rows = refl
  list_comes (c ∷ cs) rows =
      let here = at-mid i front back rows e in
      let next = changed_mid i c front back rows e in
      let rest : coming (Named i) (Some (told_along (with_change rows c) cs)) ≡ come_along (arriving (Named i) (Some cs)) (inputs_after (Named i) c (there rows)) =
      list_comes cs (with_change rows c) ∙ ap (λ (ls : List Positioned). come_along (arriving (Named i) (Some cs)) (record { left = left; named = ls })) (sym next) in
      λ j. record { input = Named i; taken = with_old (sym here j) c } ∷ rest j

  list-come : (o : Option (List Change)) (rows : Positioned) → coming (Named i) (option_map (told_along rows) o) ≡ come_along (arriving (Named i) o) (there rows)
  list-come None rows = refl
  list-come (Some changes) rows = list_comes changes rows

  pub list_takes : (changes : List Change) (rows : Positioned) → taken_by (there rows) (arriving (Named i) (Some changes)) ≡ there (with_changes rows changes)
  list_takes [] rows = refl
  list_takes (c ∷ cs) rows = ap (λ (ls : List Positioned). taken_by (record { left = left; named = ls }) (arriving (Named i) (Some cs))) (changed_mid i c front back rows e) ∙ list_takes cs (with_change rows c)

  list-taken : (o : Option (List Change)) (rows : Positioned) → taken_by (there rows) (arriving (Named i) o) ≡ there (rows_behind o rows)
  list-taken None rows = refl
  list-taken (Some changes) rows = list_takes changes rows

-- ---- all inputs

-- what is known under a name are its changes, each with the row that was there before
abbrev pub Knows : Known → Told → ListPlaces → List ℕ → Type 0
Knows known told places name = known name ≡ option_map (told_along (places name)) (told name)

taken-both : (t : Inputs) (xs ys : List Arrival) → taken_by t (xs ++ ys) ≡ taken_by (taken_by t xs) ys
taken-both t xs ys = fold-append (λ (t : Inputs) (a : Arrival). inputs_after a.input a.change t) t xs ys

module _ (told : Told) (places : ListPlaces) where
  abbrev behind : ListPlaces
  behind name = rows_behind (told name) (places name)

  next-list : (i : ℕ) (name : List ℕ) (names : List (List ℕ)) (front : List Positioned) (left : Positioned) → i ≡ length front
      → taken_by (record { left = left; named = front ++ places name ∷ map places names }) (arriving (Named i) (told name)) ≡ record { left = left; named = (front ++ behind name ∷ []) ++ map places names }
  next-list i name names front left e =
      list-taken i front (map places names) e left (told name) (places name)
      ∙ ap (λ (ls : List Positioned). record { left = left; named = ls }) (sym (append_assoc front (behind name ∷ []) (map places names)))

  -- each list that is read by `$lookup` takes in the changes under its name
  lists-taken : (i : ℕ) (names : List (List ℕ)) (front : List Positioned) (left : Positioned) → i ≡ length front
      → taken_by (record { left = left; named = front ++ map places names }) (arriving_at_lists i names told) ≡ record { left = left; named = front ++ map behind names }
  lists-taken i [] front left e = refl
  lists-taken i (name ∷ names) front left e =
      taken-both (record { left = left; named = front ++ places name ∷ map places names }) (arriving (Named i) (told name)) (arriving_at_lists (suc i) names told)
      ∙ ap (λ (t : Inputs). taken_by t (arriving_at_lists (suc i) names told)) (next-list i name names front left e)
      ∙ lists-taken (suc i) names (front ++ behind name ∷ []) left (longer i front (behind name) e)
      ∙ ap (λ (ls : List Positioned). record { left = left; named = ls }) (append_assoc front (behind name ∷ []) (map behind names))

  pub all_taken : (stages : List Stage) (source : List ℕ) → taken_by (inputs_from stages source places) (arrivals stages source told) ≡ inputs_from stages source behind
  all_taken stages source =
      taken-both (inputs_from stages source places) (arriving Left (told source)) (arriving_at_lists 0 (lookups_of stages source) told)
      ∙ ap (λ (t : Inputs). taken_by t (arriving_at_lists 0 (lookups_of stages source) told)) (left-taken (told source) (places source) (map places (lookups_of stages source)))
      ∙ lists-taken 0 (lookups_of stages source) [] (behind source) refl

  module _ (known : Known) where
    lists-come : (i : ℕ) (names : List (List ℕ)) (front : List Positioned) (left : Positioned) → i ≡ length front → ((name : List ℕ) → is_name_among name names ≡ true → Knows known told places name)
        → coming_to_lists i names known ≡ come_along (arriving_at_lists i names told) (record { left = left; named = front ++ map places names })
    lists-come i [] front left e knows = refl
    lists-come i (name ∷ names) front left e knows =
        let t : Inputs = record { left = left; named = front ++ places name ∷ map places names } in
        let here : coming (Named i) (known name) ≡ come_along (arriving (Named i) (told name)) t =
        ap (coming (Named i)) (knows name (or-left (bytes_eq name name) (is_name_among name names) (itself name))) ∙ list-come i front (map places names) e left (told name) (places name) in
        let rest = lists-come (suc i) names (front ++ behind name ∷ []) left (longer i front (behind name) e) (λ other among. knows other (or-right (bytes_eq other name) (is_name_among other names) among)) in
        let next = rest ∙ ap (come_along (arriving_at_lists (suc i) names told)) (sym (next-list i name names front left e)) in
        (λ j. here j ++ next j) ∙ sym (along-both (arriving (Named i) (told name)) (arriving_at_lists (suc i) names told) t)

    -- the changes under names reach the inputs with the rows that are there
    pub all_come : (stages : List Stage) (source : List ℕ) → ((name : List ℕ) → is_name_among name (names_read stages source) ≡ true → Knows known told places name)
        → coming_to stages source known ≡ come_along (arrivals stages source told) (inputs_from stages source places)
    all_come stages source knows =
        let t = inputs_from stages source places in
        let lookups = lookups_of stages source in
        let here : coming Left (known source) ≡ come_along (arriving Left (told source)) t =
        ap (coming Left) (knows source (or-left (bytes_eq source source) (is_name_among source lookups) (itself source))) ∙ left-come (told source) (places source) (map places lookups) in
        let rest = lists-come 0 lookups [] (behind source) refl (λ name among. knows name (or-right (bytes_eq name source) (is_name_among name lookups) among)) in
        let next = rest ∙ ap (come_along (arriving_at_lists 0 lookups told)) (sym (left-taken (told source) (places source) (map places lookups))) in
        (λ j. here j ++ next j) ∙ sym (along-both (arriving Left (told source)) (arriving_at_lists 0 lookups told) t)

-- ---- each input exists

all-both : (P : Arrival → Type 0) (xs ys : List Arrival) → AllByRecursion P xs → AllByRecursion P ys → AllByRecursion P (xs ++ ys)
all-both P [] ys all others = others
all-both P (x ∷ xs) ys all others = (all.0, all-both P xs ys all.1 others)

module _ (named : List Positioned) where
  abbrev IsThere : Arrival → Type 0
  IsThere a = HasInput a.input named

  pub each_there : (input : Input) (changes : List Change) → HasInput input named → AllByRecursion IsThere (arriving input (Some changes))
  each_there input [] has = tt
  each_there input (c ∷ cs) has = (has, each_there input cs has)

  one-there : (input : Input) (o : Option (List Change)) → HasInput input named → AllByRecursion IsThere (arriving input o)
  one-there input None has = tt
  one-there input (Some changes) has = each_there input changes has

  lists-there : (i : ℕ) (names : List (List ℕ)) (told : Told) → i + length names ≡ length named → AllByRecursion IsThere (arriving_at_lists i names told)
  lists-there i [] told count = tt
  lists-there i (name ∷ names) told count =
      let more : i + suc (length names) ≡ length named = count in
      all-both IsThere (arriving (Named i) (told name)) (arriving_at_lists (suc i) names told) (one-there (Named i) (told name) (let here : i < length named = omega (arith, more) in here)) (lists-there (suc i) names told (omega (arith, more)))

pub all_there : (stages : List Stage) (source : List ℕ) (told : Told) (places : ListPlaces) → AllByRecursion (λ (a : Arrival). HasInput a.input (inputs_from stages source places).named) (arrivals stages source told)
all_there stages source told places =
    let named = map places (lookups_of stages source) in
    let same = length-map (lookups_of stages source) places in
    all-both (IsThere named) (arriving Left (told source)) (arriving_at_lists 0 (lookups_of stages source) told) (one-there named Left (told source) tt) (lists-there named 0 (lookups_of stages source) told (omega (arith, same)))
