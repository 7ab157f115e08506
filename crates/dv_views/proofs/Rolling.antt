-- Rows that are updated by changes: operators remain those of their stages, and return what these are defined to return.
use Rattle.std.proofs.Common.{◌≡◌, ◌+◌, ◌-◌, ℕ, zero, suc, false, if◌then◌else◌, List, [], ◌∷◌, ◌++◌, map, length, take, drop, Option, Some, None, refl, ap, sym, subst, ◌∙◌, arith, append_assoc, append-nil}
use Rattle.std.specs.Prelude.{nat_lt}
use Rattle.std.proofs.lemmas.Bool.{le-ltb}
use Rattle.std.proofs.lemmas.List.{map_push}
use Rattle.std.proofs.lemmas.List.Sums.{fold-append}
use Rattle.std.specs.List.{AllByRecursion}
use Rattle.std.specs.Option.{option_map}
use Rattle.dv_change.specs.declared.change.Change.{Change}
use Rattle.dv_change.specs.declared.input.Input.{Input}
use Rattle.dv_change.specs.declared.input.Input.TheVariants.{Left, Named}
use Rattle.dv_change.specs.declared.taking.Taken as taking
use Rattle.dv_change.specs.declared.told_rows.ToldRows.{ToldRows}
use Rattle.dv_change.specs.Changes.{Positioned, with_changes}
use Rattle.dv_change.specs.Inner.DiffLaws.{with_changes-both}
use Rattle.dv_change.specs.Inner.Fed as fed
use Rattle.dv_change.specs.Inner.Told.{input_rows, told_along, with_old}
use Rattle.dv_change.specs.Inner.ToldLaws.{told-both}
use Rattle.dv_change.specs.Inner.ToldRows.{HaveMade, TakesTold}
use Rattle.dv_change.specs.Inputs.{HasInput, input_changed_at, left_after, others_after}
use Rattle.dv_change.specs.Raised.{raised}
use Rattle.dv_change.specs.Work.{Transform, pass_in, work_in}
use Rattle.dv_change.specs.Inner.Work.{forms_after, forms_named, lists_of}
use Rattle.dv_pipe.specs.declared.stage.Stage.{Stage}
use Rattle.dv_pipe.specs.Stages.{beside, from_of}
use Rattle.dv_views.specs.declared.stage_operator.StageOperator.{StageOperator}
use Rattle.dv_views.specs.Flow.{Arrival, handed_by, inputs_after, work_by}
use Rattle.dv_views.specs.Inner.Holding.{HasMade, lists_of_all}
use Rattle.dv_views.specs.Inner.Keeping.{kept_seen}
use Rattle.dv_views.specs.Inner.Operating.{AreFresh, HoldsStage, IsFreshStage, IsSoundStage, empty_lists, stage_makes}
use Rattle.dv_views.specs.Inner.Turned.{Come, HasTurned, Known, Turns, come_along, coming, coming_to_lists, taken_by}
use Rattle.dv_views.specs.Views.{Kept, Inputs}
use Rattle.dv_views.specs.Placed.{forms, listed_under, lookups_of, stage_at, names_with}

-- ---- the lists of stages

none-below : (i : ℕ) → nat_lt i 0 ≡ false
none-below i = le-ltb i 0 (omega arith)

less-none : (i : ℕ) → i - 0 ≡ i
less-none i = omega arith

-- a change of one of the lists
forms-changed : (i : ℕ) (c : Change) (ss : List Stage) (named : List Positioned) → forms_named i c (forms ss named) ≡ forms ss (input_changed_at i c named)
forms-changed i c [] named = refl
forms-changed i c (s ∷ ss) named = by (from_of s) i named (λ j others. forms-changed j c ss others)
  where
    by : (o : Option (List ℕ)) (i : ℕ) (named : List Positioned) → ((j : ℕ) (others : List Positioned) → forms_named j c (forms ss others) ≡ forms ss (input_changed_at j c others))
        → (if nat_lt i (length (take (listed_under o) named)) then record { makes = stage_at s; named = input_changed_at i c (take (listed_under o) named) } ∷ forms ss (drop (listed_under o) named)
        else record { makes = stage_at s; named = take (listed_under o) named } ∷ forms_named (i - length (take (listed_under o) named)) c (forms ss (drop (listed_under o) named)))
        ≡ record { makes = stage_at s; named = take (listed_under o) (input_changed_at i c named) } ∷ forms ss (drop (listed_under o) (input_changed_at i c named))
    by None i named rest = rw (none-below i, less-none i) (ap (λ (fs : List Transform). record { makes = stage_at s; named = [] } ∷ fs) (rest i named))
    by (Some collection) i [] rest = rw (none-below i, less-none i) (ap (λ (fs : List Transform). record { makes = stage_at s; named = [] } ∷ fs) (rest i []))
    by (Some collection) zero (n ∷ ns) rest = refl
    by (Some collection) (suc i) (n ∷ ns) rest =
        let past : nat_lt (suc i) 1 ≡ false = le-ltb (suc i) 1 (omega arith) in
        let back : suc i - 1 ≡ i = omega arith in
        rw (past, back) (ap (λ (fs : List Transform). record { makes = stage_at s; named = n ∷ [] } ∷ fs) (rest i ns))

forms-after : (input : Input) (c : Change) (ss : List Stage) (named : List Positioned) → forms_after input c (forms ss named) ≡ forms ss (others_after input c named)
forms-after Left c ss named = refl
forms-after (Named i) c ss named = forms-changed i c ss named

same-length : (i : ℕ) (c : Change) (named : List Positioned) → length (input_changed_at i c named) ≡ length named
same-length i c [] = refl
same-length zero c (n ∷ ns) = refl
same-length (suc i) c (n ∷ ns) = ap suc (same-length i c ns)

pub same_count : (input : Input) (c : Change) (named : List Positioned) → length (others_after input c named) ≡ length named
same_count Left c named = refl
same_count (Named i) c named = same-length i c named

-- as many as the stages read by `$lookup`
pub lookups_count : (ss : List Stage) (source : List ℕ) → length (lookups_of ss source) ≡ lists_of_all ss
lookups_count [] source = refl
lookups_count (s ∷ ss) source = by (from_of s) (lookups_count ss source)
  where
    by : (o : Option (List ℕ)) → length (lookups_of ss source) ≡ lists_of_all ss → length (names_with (option_map (beside source) o) (lookups_of ss source)) ≡ listed_under o + lists_of_all ss
    by None rest = omega (arith, rest)
    by (Some collection) rest = let goal : suc (length (lookups_of ss source)) ≡ 1 + lists_of_all ss = omega (arith, rest) in goal

-- ---- the lists that were taken in

-- the lists of all stages are those that were taken in
lists-there : (ss : List Stage) (named : List Positioned) → length named ≡ lists_of_all ss → lists_of (forms ss named) ≡ named
lists-there [] [] e = refl
lists-there [] (n ∷ ns) e = absurd cc
lists-there (s ∷ ss) named e = by (from_of s) named e (lists-there ss)
  where
    by : (o : Option (List ℕ)) (named : List Positioned) → length named ≡ listed_under o + lists_of_all ss → ((others : List Positioned) → length others ≡ lists_of_all ss → lists_of (forms ss others) ≡ others)
        → take (listed_under o) named ++ lists_of (forms ss (drop (listed_under o) named)) ≡ named
    by None named e rest = rest named (omega (arith, e))
    by (Some collection) [] e rest = let no : 0 ≡ 1 + lists_of_all ss = e in absurd (omega arith)
    by (Some collection) (n ∷ ns) e rest =
        let more : suc (length ns) ≡ 1 + lists_of_all ss = e in
        ap (λ (all : List Positioned). n ∷ all) (rest ns (omega arith))

-- ---- a change of an input

abbrev come_of : Input → taking.Taken → Come
come_of input taken = record { input = input; taken = taken }

none-more : (n : ℕ) → n ≡ n + 0
none-more n = omega arith

module _ (input : Input) (taken : taking.Taken) (before after : ToldRows StageOperator) (first now : List taking.Taken) where
  module _ (stages : List Stage) (t : Inputs) (made : HasMade stages (kept_seen before) t) where
    one-turned : (change : Change) → TakesTold stage_makes HoldsStage input taken before after first now → HasInput input t.named → taken ≡ with_old (input_rows input t.named t.left) change
        → HasTurned stages t (record { input = input; change = change } ∷ []) (kept_seen before) first (kept_seen after) now
    one-turned change takes has told =
        let fs = forms stages t.named in
        let lists : lists_of fs ≡ t.named = lists-there stages t.named made.count in
        let taken_in = takes fs t.left change made.made (subst (λ (ls : List Positioned). HasInput input ls) (sym lists) has) (told ∙ ap (λ (ls : List Positioned). with_old (input_rows input ls t.left) change) (sym lists)) in
        let passed = pass_in input change fs t.left in
        record {
          made = record {
            made = subst (λ (gs : List Transform). HaveMade stage_makes HoldsStage after.operators after.rows.entries gs (left_after input change t.left)) (forms-after input change stages t.named) taken_in.made;
            count = same_count input change t.named ∙ made.count;
          };
          tells = taken_in.told ∙ ap (λ (cs : List Change). first ++ told_along before.rows.entries cs) (sym (append-nil passed));
          ticks = taken_in.ticks ∙ ap (raised before.ticks) (none-more (work_in input change fs t.left));
          leads = taken_in.leads ∙ ap (with_changes before.rows.entries) (sym (append-nil passed));
        }

    once : TakesTold stage_makes HoldsStage input taken before after first now → (all : List Arrival) → AllByRecursion (λ a. HasInput a.input t.named) all → come_of input taken ∷ [] ≡ come_along all t
        → HasTurned stages t all (kept_seen before) first (kept_seen after) now
    once takes [] there come = absurd cc
    once takes (a ∷ []) there come =
        let is : come_of input taken ≡ come_of a.input (with_old (input_rows a.input t.named t.left) a.change) = cc in
        let same : a.input ≡ input = ap (λ (c : Come). c.input) (sym is) in
        let told : taken ≡ with_old (input_rows input t.named t.left) a.change = ap (λ (c : Come). c.taken) is ∙ ap (λ (i : Input). with_old (input_rows i t.named t.left) a.change) same in
        subst (λ (i : Input). HasTurned stages t (record { input = i; change = a.change } ∷ []) (kept_seen before) first (kept_seen after) now) (sym same)
        (one-turned a.change takes (subst (λ (i : Input). HasInput i t.named) same there.0) told)
    once takes (a ∷ b ∷ all) there come = absurd cc

  pub turns_once : TakesTold stage_makes HoldsStage input taken before after first now → Turns (record { input = input; taken = taken } ∷ []) (kept_seen before) first (kept_seen after) now
  turns_once takes stages t all made there come = once stages t made takes all there come

-- ---- one after the other

handed-both : (stages : List Stage) (xs ys : List Arrival) (t : Inputs) → handed_by stages (xs ++ ys) t ≡ handed_by stages xs t ++ handed_by stages ys (taken_by t xs)
handed-both stages [] ys t = refl
handed-both stages (x ∷ xs) ys t =
    let one = pass_in x.input x.change (forms stages t.named) t.left in
    let next = inputs_after x.input x.change t in
    ap (λ (cs : List Change). one ++ cs) (handed-both stages xs ys next) ∙ sym (append_assoc one (handed_by stages xs next) (handed_by stages ys (taken_by next xs)))

work-both : (stages : List Stage) (xs ys : List Arrival) (t : Inputs) → work_by stages (xs ++ ys) t ≡ work_by stages xs t + work_by stages ys (taken_by t xs)
work-both stages [] ys t = let n = work_by stages ys t in let e : n ≡ 0 + n = omega arith in e
work-both stages (x ∷ xs) ys t =
    let next = inputs_after x.input x.change t in
    let one = work_in x.input x.change (forms stages t.named) t.left in
    let some = work_by stages xs next in
    let others = work_by stages ys (taken_by next xs) in
    let rest = work-both stages xs ys next in
    ap (λ (n : ℕ). one + n) rest ∙ (let e : one + (some + others) ≡ (one + some) + others = omega arith in e)

pub raised_twice : (n a b : ℕ) → raised (raised n a) b ≡ raised n (a + b)
raised_twice n a b = omega arith

pub raised_none : (n : ℕ) → n ≡ raised n 0
raised_none n = omega arith

taken-count : (t : Inputs) (all : List Arrival) → length (taken_by t all).named ≡ length t.named
taken-count t [] = refl
taken-count t (a ∷ all) = taken-count (inputs_after a.input a.change t) all ∙ same_count a.input a.change t.named

still-there : (input : Input) (some others : List Positioned) → length others ≡ length some → HasInput input some → HasInput input others
still-there Left some others same has = tt
still-there (Named i) some others same has = omega (arith, same, has)

all-there : (some others : List Positioned) → length others ≡ length some → (all : List Arrival) → AllByRecursion (λ a. HasInput a.input some) all → AllByRecursion (λ a. HasInput a.input others) all
all-there some others same [] there = tt
all-there some others same (a ∷ all) there = (still-there a.input some others same there.0, all-there some others same all there.1)

parts-there : (P : Arrival → Type 0) (xs ys : List Arrival) → AllByRecursion P (xs ++ ys) → AllByRecursion P xs × AllByRecursion P ys
parts-there P [] ys all = (tt, all)
parts-there P (x ∷ xs) ys all = let rest = parts-there P xs ys all.1 in ((all.0, rest.0), rest.1)

-- changes that come in two parts
pub record AreParts (xs ys : List Come) (all : List Arrival) (t : Inputs) : Type 0 where
  pub some : List Arrival
  pub others : List Arrival
  pub whole : all ≡ some ++ others
  pub first : xs ≡ come_along some t
  pub second : ys ≡ come_along others (taken_by t some)

parts : (xs ys : List Come) (all : List Arrival) (t : Inputs) → xs ++ ys ≡ come_along all t → AreParts xs ys all t
parts [] ys all t come = record { some = []; others = all; whole = refl; first = refl; second = come }
parts (x ∷ xs) ys [] t come = absurd cc
parts (x ∷ xs) ys (a ∷ all) t come =
    let head : x ≡ come_of a.input (with_old (input_rows a.input t.named t.left) a.change) = cc in
    let tail : xs ++ ys ≡ come_along all (inputs_after a.input a.change t) = cc in
    let rest = parts xs ys all (inputs_after a.input a.change t) tail in
    record { some = a ∷ rest.some; others = rest.others; whole = ap (λ (arrived : List Arrival). a ∷ arrived) rest.whole; first = (let behind = rest.first in λ i. head i ∷ behind i); second = rest.second }

pub turns_none : (kept : Kept) (first : List taking.Taken) → Turns [] kept first kept first
turns_none kept first stages t [] made there come = record { made = made; tells = sym (append-nil first); ticks = raised_none kept.ticks; leads = refl }
turns_none kept first stages t (a ∷ all) made there come = absurd cc

module _ (xs ys : List Come) (before mid after : Kept) (first told now : List taking.Taken) where
  both-turned : (stages : List Stage) (t : Inputs) (some others : List Arrival) → HasTurned stages t some before first mid told → HasTurned stages (taken_by t some) others mid told after now → HasTurned stages t (some ++ others) before first after now
  both-turned stages t some others one two =
      let hx = handed_by stages some t in
      let hy = handed_by stages others (taken_by t some) in
      let handed = handed-both stages some others t in
      record {
        made = subst (λ (u : Inputs). HasMade stages after u) (sym (fold-append (λ (t : Inputs) (a : Arrival). inputs_after a.input a.change t) t some others)) two.made;
        tells =
            two.tells
            ∙ (λ i. one.tells i ++ told_along (one.leads i) hy)
            ∙ append_assoc first (told_along before.rows hx) (told_along (with_changes before.rows hx) hy)
            ∙ ap (λ (ts : List taking.Taken). first ++ ts) (sym (told-both before.rows hx hy) ∙ ap (told_along before.rows) (sym handed));
        ticks =
            two.ticks
            ∙ ap (λ (n : ℕ). raised n (work_by stages others (taken_by t some))) one.ticks
            ∙ raised_twice before.ticks (work_by stages some t) (work_by stages others (taken_by t some))
            ∙ ap (raised before.ticks) (sym (work-both stages some others t));
        leads =
            two.leads
            ∙ ap (λ (rows : Positioned). with_changes rows hy) one.leads
            ∙ sym (with_changes-both before.rows hx hy)
            ∙ ap (with_changes before.rows) (sym handed);
      }

  pub turns_then : Turns xs before first mid told → Turns ys mid told after now → Turns (xs ++ ys) before first after now
  turns_then one two stages t all made there come =
      let p = parts xs ys all t come in
      let each = parts-there (λ (a : Arrival). HasInput a.input t.named) p.some p.others (subst (λ (arrived : List Arrival). AllByRecursion (λ a. HasInput a.input t.named) arrived) p.whole there) in
      let first_part = one stages t p.some made each.0 p.first in
      let second_part = two stages (taken_by t p.some) p.others first_part.made (all-there t.named (taken_by t p.some).named (taken-count t p.some) p.others each.1) p.second in
      subst (λ (arrived : List Arrival). HasTurned stages t arrived before first after now) (sym p.whole) (both-turned stages t p.some p.others first_part second_part)

module _ (before mid after : Kept) (first told now : List taking.Taken) where
  pub turns_more : (input : Input) (some more : List taking.Taken) (taken : taking.Taken) → more ≡ some ++ taken ∷ [] → Turns (coming input (Some some)) before first mid told → Turns (record { input = input; taken = taken } ∷ []) mid told after now
      → Turns (coming input (Some more)) before first after now
  turns_more input some more taken is one two =
      let tells : taking.Taken → Come = λ u. record { input = input; taken = u } in
      subst (λ (all : List Come). Turns all before first after now) (sym (ap (map tells) is ∙ map_push tells some taken)) (turns_then (map tells some) (tells taken ∷ []) before mid after first told now one two)

lists-last : (i : ℕ) (names : List (List ℕ)) (name : List ℕ) (known : Known) → coming_to_lists i (names ++ name ∷ []) known ≡ coming_to_lists i names known ++ coming (Named (i + length names)) (known name)
lists-last i [] name known = append-nil (coming (Named i) (known name)) ∙ ap (λ n. coming (Named n) (known name)) (none-more i)
lists-last i (n ∷ names) name known =
    let one = coming (Named i) (known n) in
    let more : suc i + length names ≡ i + suc (length names) = omega arith in
    ap (λ (all : List Come). one ++ all) (lists-last (suc i) names name known ∙ ap (λ m. coming_to_lists (suc i) names known ++ coming (Named m) (known name)) more)
    ∙ sym (append_assoc one (coming_to_lists (suc i) names known) (coming (Named (i + suc (length names))) (known name)))

module _ (before mid after : Kept) (first now next : List taking.Taken) where
  pub turns_list : (known : Known) (names more : List (List ℕ)) (name : List ℕ) (place : ℕ) → more ≡ names ++ name ∷ [] → length names ≡ place → Turns (coming_to_lists 0 names known) before first mid now
      → Turns (coming (Named place) (known name)) mid now after next → Turns (coming_to_lists 0 more known) before first after next
  turns_list known names more name place is count one two =
      let all : coming_to_lists 0 more known ≡ coming_to_lists 0 names known ++ coming (Named place) (known name) =
      ap (λ (ns : List (List ℕ)). coming_to_lists 0 ns known) is ∙ lists-last 0 names name known ∙ ap (λ n. coming_to_lists 0 names known ++ coming (Named n) (known name)) (let e : 0 + length names ≡ place = omega (arith, count) in e) in
      subst (λ (come : List Come). Turns come before first after next) (sym all) (turns_then (coming_to_lists 0 names known) (coming (Named place) (known name)) before mid after first now next one two)

-- ---- operators that have taken in nothing

more-lists : (n : ℕ) → empty_lists (1 + n) ≡ [] ∷ empty_lists n
more-lists n = ap empty_lists (let e : 1 + n ≡ suc n = omega arith in e)

first-lists : (o : Option (List ℕ)) (n : ℕ) → take (listed_under o) (empty_lists (listed_under o + n)) ≡ empty_lists (listed_under o)
first-lists None n = refl
first-lists (Some collection) n = ap (take 1) (more-lists n)

later-lists : (o : Option (List ℕ)) (n : ℕ) → drop (listed_under o) (empty_lists (listed_under o + n)) ≡ empty_lists n
later-lists None n = ap empty_lists (let e : 0 + n ≡ n = omega arith in e)
later-lists (Some collection) n = ap (drop 1) (more-lists n)

pub fresh_operators : (ss : List Stage) (os : List StageOperator) → AreFresh ss os → fed.AreFresh stage_makes HoldsStage os (forms ss (empty_lists (lists_of_all ss)))
fresh_operators [] [] fresh = tt
fresh_operators [] (o ∷ os) fresh = absurd fresh
fresh_operators (s ∷ ss) [] fresh = absurd fresh
fresh_operators (s ∷ ss) (o ∷ os) fresh = (
  fresh.0.makes,
  subst (λ (ns : List Positioned). HoldsStage o ns []) (sym (first-lists (from_of s) (lists_of_all ss))) fresh.0.holds,
  subst (λ (ns : List Positioned). fed.AreFresh stage_makes HoldsStage os (forms ss ns)) (sym (later-lists (from_of s) (lists_of_all ss))) (fresh_operators ss os fresh.1),
)

pub sound_operators : (ss : List Stage) (os : List StageOperator) → AreFresh ss os → AllByRecursion IsSoundStage os
sound_operators [] [] fresh = tt
sound_operators [] (o ∷ os) fresh = absurd fresh
sound_operators (s ∷ ss) [] fresh = absurd fresh
sound_operators (s ∷ ss) (o ∷ os) fresh = (fresh.0.sound, sound_operators ss os fresh.1)

pub empty_count : (n : ℕ) → length (empty_lists n) ≡ n
empty_count zero = refl
empty_count (suc n) = ap suc (empty_count n)

pub fresh_more : (ss : List Stage) (os : List StageOperator) (s : Stage) (o : StageOperator) → AreFresh ss os → IsFreshStage s o → AreFresh (ss ++ s ∷ []) (os ++ o ∷ [])
fresh_more [] [] s o all one = (one, tt)
fresh_more [] (p ∷ os) s o all one = absurd all
fresh_more (r ∷ ss) [] s o all one = absurd all
fresh_more (r ∷ ss) (p ∷ os) s o all one = (all.0, fresh_more ss os s o all.1 one)
