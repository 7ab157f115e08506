-- One view after a change.
use Rattle.std.proofs.Common.{◌≡◌, ◌≤◌, inl, inr, ◌||◌, ℕ, Bool, true, false, List, [], ◌∷◌, map, Option, Some, None, is_some, refl, ap, sym, subst, ◌∙◌, arith}
use Rattle.std.specs.Bool.{if◌then◌else◌}
use Rattle.std.specs.List.{list_any}
use Rattle.std.specs.Option.{option_map}
use Rattle.std.specs.Str.{bytes_eq}
use Rattle.std.proofs.lemmas.Slice.Eq.{bytes_eq-Decides}
use Rattle.std.proofs.lemmas.Bool.{or_parts}
use Rattle.dv_change.specs.declared.taking.Taken as taking
use Rattle.dv_change.specs.Changes.{Positioned, forget, with_changes}
use Rattle.dv_change.specs.Inner.Told.{changes_told, told_along}
use Rattle.dv_change.specs.Inner.ToldLaws.{changes-told}
use Rattle.dv_pipe.specs.Stages.{Lists, evaluated, is_read}
use Rattle.dv_pipe.specs.declared.stage.Stage.{Stage}
use Rattle.dv_views.specs.Flow.{Arrival, Told, arrivals, handed_by}
use Rattle.dv_views.specs.Forms.{AreFounded, ViewForm, is_name_among, names_read, outs_of, with_places, with_rows}
use Rattle.dv_views.specs.Placed.{ListPlaces, lookups_of}
use Rattle.dv_views.specs.Inner.Changed.{AreToldOf}
use Rattle.dv_views.specs.Inner.Holding.{HasMade}
use Rattle.dv_views.specs.Inner.Turned.{AreTakenBy, HasTurned, HaveTaken, IsTakenBy, IsTurned, Known, Telling, Turns, come_along, comes_to, coming_to, taken_by, with_known}
use Rattle.dv_views.specs.Views.{Kept, ViewMark, Inputs, live, stale, View, inputs_from}
use Rattle.dv_views.specs.Inner.Views.{AreKept, AreOverLive, IsRight, Views, distance, view_form, is_stale, no_distance, reads, with_distance}
use Rattle.dv_views.proofs.Agree.{Agrees, FromScratch, agree_over}
use Rattle.dv_views.proofs.Coming.{all_come, all_taken, all_there, along_told, rows_behind, told_of_along}
use Rattle.dv_views.proofs.Right.{UnreadDoesNotMatter, itself, or-left, read_among, same_outs, same_taken}

pub none_of : {A : Type 0} (o : Option A) → is_some o ≡ false → o ≡ None
none_of None e = refl
none_of (Some all) e = absurd cc

-- if a change doesn't reach a pipeline, there are no changes under the names that it reads
nothing-told : (names : List (List ℕ)) (told : Known) (name : List ℕ) → list_any (λ n. is_some (told n)) names ≡ false → is_name_among name names ≡ true → told name ≡ None
nothing-told [] told name away among = absurd cc
nothing-told (n ∷ ns) told name away among =
    let both = or_parts (is_some (told n)) (list_any (λ n. is_some (told n)) ns) away in
    by (bytes_eq name n) refl (none_of (told n) both.0) (λ among. nothing-told ns told name both.1 among) among
  where
    by : (b : Bool) → bytes_eq name n ≡ b → told n ≡ None → (is_name_among name ns ≡ true → told name ≡ None) → b || is_name_among name ns ≡ true → told name ≡ None
    by true is here rest among = ap told ((bytes_eq-Decides name n).0 is) ∙ here
    by false is here rest among = rest among

pub unreached_read : (stages : List Stage) (source : List ℕ) (told : Known) (name : List ℕ) → comes_to stages source told ≡ false → is_read stages source name ≡ true → told name ≡ None
unreached_read stages source told name away read = nothing-told (names_read stages source) told name away (sym (read_among stages source name) ∙ read)

-- ---- how far views are from being live

near : (m : ViewMark) (n : ℕ) → n ≤ 1 → (is_stale m ≡ false → n ≡ 0) → n ≤ distance m
near (live kept) n most zero = let e : n ≡ 0 = zero refl in omega arith
near stale n most zero = most

at-most : (m : ViewMark) → distance m ≤ 1
at-most (live kept) = omega arith
at-most stale = omega arith

module _ (told : Known) (distances others : List ℕ → ℕ) (v : View) (w : Telling) (taken : IsTakenBy told others v w) where
  reads-alike : (name : List ℕ) → reads w.view name ≡ reads v name
  reads-alike name = ap (λ (f : ViewForm). is_read f.stages f.source name) taken.form

  pub silent : w.told ≡ None → comes_to v.stages v.source told ≡ false
  silent none = sym taken.tells ∙ ap is_some none

  with-same : ((name : List ℕ) → told name ≡ None → others name ≡ distances name) → (name : List ℕ) → with_known v.name w.told told name ≡ None → with_distance w.view others name ≡ with_distance v distances name
  with-same same name none =
      ap (λ (f : ViewForm). if bytes_eq name f.name then distance w.view.mark else others name) taken.form ∙ by (bytes_eq name v.name) none
    where
      by : (b : Bool) → (if b then w.told else told name) ≡ None → (if b then distance w.view.mark else others name) ≡ (if b then distance v.mark else distances name)
      by true none = ap (λ (x : View). distance x.mark) (taken.unread (silent none))
      by false none = same name none

  with-most : ((name : List ℕ) → others name ≤ 1) → (name : List ℕ) → with_distance w.view others name ≤ 1
  with-most most name = by (bytes_eq name w.view.name)
    where
      by : (b : Bool) → (if b then distance w.view.mark else others name) ≤ 1
      by true = at-most w.view.mark
      by false = most name

  over-one : ((name : List ℕ) → told name ≡ None → others name ≡ distances name) → ((name : List ℕ) → others name ≤ 1) → ((name : List ℕ) → reads v name ≡ true → distances name ≤ distance v.mark)
      → (name : List ℕ) → reads w.view name ≡ true → others name ≤ distance w.view.mark
  over-one same most over name read = by (comes_to v.stages v.source told) refl (sym (reads-alike name) ∙ read)
    where
      by : (b : Bool) → comes_to v.stages v.source told ≡ b → reads v name ≡ true → others name ≤ distance w.view.mark
      by true reached read = near w.view.mark (others name) (most name) (λ has. taken.live reached has name (sym (read_among v.stages v.source name) ∙ read))
      by false away read =
          let here : others name ≡ distances name = same name (unreached_read v.stages v.source told name away read) in
          let mark : distance w.view.mark ≡ distance v.mark = ap (λ (x : View). distance x.mark) (taken.unread away) in
          let h : distances name ≤ distance v.mark = over name read in
          omega arith

over-from : (told : Known) (distances others : List ℕ → ℕ) (before : Views) (after : List Telling) → ((name : List ℕ) → told name ≡ None → others name ≡ distances name) → ((name : List ℕ) → others name ≤ 1)
    → AreOverLive distances before → AreTakenBy told others before after → AreOverLive others (map (λ t. t.view) after)
over-from told distances others [] [] same most over taken = tt
over-from told distances others [] (w ∷ ws) same most over taken = absurd taken
over-from told distances others (v ∷ vs) [] same most over taken = absurd taken
over-from told distances others (v ∷ vs) (w ∷ ws) same most over taken = (
  over-one told distances others v w taken.0 same most over.0,
  over-from (with_known v.name w.told told) (with_distance v distances) (with_distance w.view others) vs ws
      (with-same told distances others v w taken.0 same) (with-most told distances others v w taken.0 most) over.1 taken.1,
)

pub over_after : (come : Known) (before after : Views) → AreOverLive no_distance before → HaveTaken come before after → AreOverLive no_distance after
over_after come before after over taken =
    subst (λ (vs : Views). AreOverLive no_distance vs) taken.views (over-from come no_distance no_distance before taken.tellings (λ name none. refl) (λ name. omega arith) over taken.taken)

-- ---- each view keeps its form

forms-from : (told : Known) (distances : List ℕ → ℕ) (before : Views) (after : List Telling) → AreTakenBy told distances before after → map view_form (map (λ t. t.view) after) ≡ map view_form before
forms-from told distances [] [] taken = refl
forms-from told distances [] (w ∷ ws) taken = absurd taken
forms-from told distances (v ∷ vs) [] taken = absurd taken
forms-from told distances (v ∷ vs) (w ∷ ws) taken =
    let rest = forms-from (with_known v.name w.told told) (with_distance w.view distances) vs ws taken.1 in
    λ i. taken.0.form i ∷ rest i

pub forms_after : (come : Known) (before after : Views) → HaveTaken come before after → map view_form after ≡ map view_form before
forms_after come before after taken = ap (map view_form) (sym taken.views) ∙ forms-from come no_distance before taken.tellings taken.taken

pub founded_after : (come : Known) (before after : Views) → AreFounded (map view_form before) → HaveTaken come before after → AreFounded (map view_form after)
founded_after come before after founded taken = subst AreFounded (sym (forms_after come before after taken)) founded

-- ---- changes lead from the rows that were there before to those that are there now

-- changes come with the rows that were there before and lead to those that are there now; if there are no changes, these are the
-- same
abbrev pub Leads : Option (List taking.Taken) → Positioned → Positioned → Type 0
Leads None rows now = now ≡ rows
Leads (Some all) rows now = AreToldOf rows all × (now ≡ with_changes rows (changes_told all))

-- the changes alone
abbrev pub changes_known : Known → Told
changes_known known name = option_map changes_told (known name)

leads-known : (o : Option (List taking.Taken)) (rows now : Positioned) → Leads o rows now → o ≡ option_map (told_along rows) (option_map changes_told o)
leads-known None rows now leads = refl
leads-known (Some all) rows now leads = ap Some (along_told rows all leads.0)

leads-behind : (o : Option (List taking.Taken)) (rows now : Positioned) → Leads o rows now → rows_behind (option_map changes_told o) rows ≡ now
leads-behind None rows now leads = sym leads
leads-behind (Some all) rows now leads = sym leads.1

-- ---- one view after the change

no-more : (n : ℕ) → n ≤ 0 → n ≡ 0
no-more n h = omega arith

-- a view of another one's form
alike : (v w : View) → view_form w ≡ view_form v → (places : ListPlaces) (lists : Lists) → AreKept v.stages w.mark (inputs_from v.stages v.source places) (evaluated v.stages v.source lists) → IsRight places lists w
alike v w form places lists right = subst (λ (f : ViewForm). AreKept f.stages w.mark (inputs_from f.stages f.source places) (evaluated f.stages f.source lists)) (sym form) right

module _ (scratch : FromScratch) (unread : UnreadDoesNotMatter) (known : Known) (distances : List ℕ → ℕ) (places others : ListPlaces) (lists rows : Lists)
    (leads : (name : List ℕ) → distances name ≡ 0 → Leads (known name) (places name) (others name)) (agreed : (name : List ℕ) → distances name ≡ 0 → Agrees (others name) (rows name))
    (same : (name : List ℕ) → known name ≡ None → rows name ≡ lists name) where
  module _ (stages : List Stage) (source : List ℕ) (over : (name : List ℕ) → is_name_among name (names_read stages source) ≡ true → distances name ≡ 0) where
    abbrev all : List Arrival
    all = arrivals stages source (changes_known known)

    abbrev before : Inputs
    before = inputs_from stages source places

    -- if all that is read is live, the changes come with the rows that were taken in
    comes : coming_to stages source known ≡ come_along all before
    comes = all_come (changes_known known) places known stages source (λ name among. leads-known (known name) (places name) (others name) (leads name (over name among)))

    -- and lead to the rows that are there now
    takes : taken_by before all ≡ inputs_from stages source others
    takes =
        all_taken (changes_known known) places stages source
        ∙ same_taken source (λ name. rows_behind (changes_known known name) (places name)) others stages (λ name read. leads-behind (known name) (places name) (others name) (leads name (over name (sym (read_among stages source name) ∙ read))))

    module _ (old new : Kept) (told : List taking.Taken) (made : HasMade stages old before) (turns : Turns (coming_to stages source known) old [] new told) where
      turned : HasTurned stages before all old [] new told
      turned = turns stages before all made (all_there stages source (changes_known known) places) comes

      made-now : HasMade stages new (inputs_from stages source others)
      made-now = subst (λ (t : Inputs). HasMade stages new t) takes turned.made

      turned-right : AreKept stages (live new) (inputs_from stages source others) (evaluated stages source rows)
      turned-right =
          let own = agreed source (over source (or-left (bytes_eq source source) (is_name_among source (lookups_of stages source)) (itself source))) in
          (made-now, ap forget made-now.made.made ∙ scratch stages source others rows made-now.made.positioned own.0 (λ name among. (agreed name (over name among)).1))

      turned-leads : Leads (Some told) (outs_of stages source places) (outs_of stages source others)
      turned-leads =
          let changes = handed_by stages all before in
          let outs = made.made.made in
          let along : told ≡ told_along (outs_of stages source places) changes = turned.tells ∙ ap (λ (r : Positioned). told_along r changes) outs in
          let alone : changes_told told ≡ changes = ap changes_told along ∙ changes-told (outs_of stages source places) changes in (
            subst (λ (ts : List taking.Taken). AreToldOf (outs_of stages source places) ts) (sym along) (told_of_along (outs_of stages source places) changes),
            sym made-now.made.made ∙ turned.leads ∙ (λ i. with_changes (outs i) (sym alone i)),
          )

  unread-rows : (stages : List Stage) (source : List ℕ) → comes_to stages source known ≡ false → evaluated stages source lists ≡ evaluated stages source rows
  unread-rows stages source away = unread stages source lists rows (λ name read. sym (same name (unreached_read stages source known name away read)))

  -- what is read and live is unchanged if the change doesn't reach it
  unread-places : (stages : List Stage) (source : List ℕ) → comes_to stages source known ≡ false → ((name : List ℕ) → is_read stages source name ≡ true → distances name ≡ 0) → (name : List ℕ) → is_read stages source name ≡ true → places name ≡ others name
  unread-places stages source away over name read =
      sym (subst (λ (o : Option (List taking.Taken)). Leads o (places name) (others name)) (unreached_read stages source known name away read) (leads name (over name read)))

  unread-right : (m : ViewMark) (stages : List Stage) (source : List ℕ) → comes_to stages source known ≡ false → ((name : List ℕ) → is_read stages source name ≡ true → distances name ≤ distance m)
      → AreKept stages m (inputs_from stages source places) (evaluated stages source lists) → AreKept stages m (inputs_from stages source others) (evaluated stages source rows)
  unread-right (live kept) stages source away over right = (
    subst (λ (t : Inputs). HasMade stages kept t) (same_taken source places others stages (unread-places stages source away (λ name read. no-more (distances name) (over name read)))) right.0,
    right.1 ∙ unread-rows stages source away,
  )
  unread-right stale stages source away over right = tt

  module _ (stages : List Stage) (source : List ℕ) (m n : ViewMark) (o : Option (List taking.Taken)) (over : is_stale n ≡ false → (name : List ℕ) → is_name_among name (names_read stages source) ≡ true → distances name ≡ 0)
      (right : AreKept stages m (inputs_from stages source places) (evaluated stages source lists)) where
    kept-right : IsTurned (coming_to stages source known) m n o → AreKept stages n (inputs_from stages source others) (evaluated stages source rows)
    kept-right (inl is) = subst (λ (k : ViewMark). AreKept stages k (inputs_from stages source others) (evaluated stages source rows)) (sym is) tt
    kept-right (inr t) =
        let was = subst (λ (k : ViewMark). AreKept stages k (inputs_from stages source places) (evaluated stages source lists)) t.was right in
        subst (λ (k : ViewMark). AreKept stages k (inputs_from stages source others) (evaluated stages source rows)) (sym t.is) (turned-right stages source (over (ap is_stale t.is)) t.old t.new t.all was.0 t.turns)

    kept-leads : IsTurned (coming_to stages source known) m n o → distance n ≡ 0 → Leads o (outs_of stages source places) (outs_of stages source others)
    kept-leads (inl is) zero = absurd (let e : 1 ≡ 0 = sym (ap distance is) ∙ zero in omega arith)
    kept-leads (inr t) zero =
        let was = subst (λ (k : ViewMark). AreKept stages k (inputs_from stages source places) (evaluated stages source lists)) t.was right in
        subst (λ (p : Option (List taking.Taken)). Leads p (outs_of stages source places) (outs_of stages source others)) (sym t.tells) (turned-leads stages source (over (ap is_stale t.is)) t.old t.new t.all was.0 t.turns)

  module _ (v : View) (w : Telling) (taken : IsTakenBy known distances v w) (over : (name : List ℕ) → reads w.view name ≡ true → distances name ≤ distance w.view.mark) (right : IsRight places lists v) where
    over-read : (name : List ℕ) → is_read v.stages v.source name ≡ true → distances name ≤ distance w.view.mark
    over-read name read = over name (reads-alike known distances distances v w taken name ∙ read)

    pub right-one : IsRight others rows w.view
    right-one = alike v w.view taken.form others rows (by (comes_to v.stages v.source known) refl)
      where
        by : (b : Bool) → comes_to v.stages v.source known ≡ b → AreKept v.stages w.view.mark (inputs_from v.stages v.source others) (evaluated v.stages v.source rows)
        by true reached = kept-right v.stages v.source v.mark w.view.mark w.told (taken.live reached) right (taken.turned reached)
        by false away =
            subst (λ (x : View). AreKept v.stages x.mark (inputs_from v.stages v.source others) (evaluated v.stages v.source rows)) (sym (taken.unread away))
            (unread-right v.mark v.stages v.source away (λ name read. subst (λ (x : View). distances name ≤ distance x.mark) (taken.unread away) (over-read name read)) right)

    own-leads : distance w.view.mark ≡ 0 → Leads w.told (outs_of v.stages v.source places) (outs_of v.stages v.source others)
    own-leads zero = by (comes_to v.stages v.source known) refl
      where
        by : (b : Bool) → comes_to v.stages v.source known ≡ b → Leads w.told (outs_of v.stages v.source places) (outs_of v.stages v.source others)
        by true reached = kept-leads v.stages v.source v.mark w.view.mark w.told (taken.live reached) right (taken.turned reached) zero
        by false away =
            subst (λ (o : Option (List taking.Taken)). Leads o (outs_of v.stages v.source places) (outs_of v.stages v.source others)) (sym (none_of w.told (taken.tells ∙ away)))
            (sym (same_outs v.source places others v.stages (unread-places v.stages v.source away (λ name read. no-more (distances name) (subst (λ (n : ℕ). distances name ≤ n) zero (over-read name read))))))

    pub next-leads : (name : List ℕ) → with_distance w.view distances name ≡ 0 → Leads (with_known v.name w.told known name) (with_places (view_form v) places name) (with_places (view_form w.view) others name)
    next-leads name zero =
        subst (λ (f : ViewForm). Leads (with_known v.name w.told known name) (with_places (view_form v) places name) (with_places f others name)) (sym taken.form)
        (by (bytes_eq name v.name) (subst (λ (f : ViewForm). (if bytes_eq name f.name then distance w.view.mark else distances name) ≡ 0) taken.form zero))
      where
        by : (b : Bool) → (if b then distance w.view.mark else distances name) ≡ 0 → Leads (if b then w.told else known name) (if b then outs_of v.stages v.source places else places name) (if b then outs_of v.stages v.source others else others name)
        by true zero = own-leads zero
        by false zero = leads name zero

    pub next-same : (name : List ℕ) → with_known v.name w.told known name ≡ None → with_rows (view_form w.view) rows name ≡ with_rows (view_form v) lists name
    next-same name none = ap (λ (f : ViewForm). with_rows f rows name) taken.form ∙ by (bytes_eq name v.name) none
      where
        by : (b : Bool) → (if b then w.told else known name) ≡ None → (if b then evaluated v.stages v.source rows else rows name) ≡ (if b then evaluated v.stages v.source lists else lists name)
        by true none = sym (unread-rows v.stages v.source (silent known distances distances v w taken none))
        by false none = same name none

    pub next-agreed : (name : List ℕ) → with_distance w.view distances name ≡ 0 → Agrees (with_places (view_form w.view) others name) (with_rows (view_form w.view) rows name)
    next-agreed name zero = agree_over scratch distances others rows (w.view ∷ []) agreed (over, tt) (right-one, tt) name zero
