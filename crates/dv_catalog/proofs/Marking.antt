-- The marks of views after changes.
use Rattle.std.proofs.Common.{◌≡◌, ◌⊎◌, ◌<◌, inl, inr, is_some, take, arith, ℕ, Bool, true, false, if◌then◌else◌, List, [], ◌∷◌, not, map, length, Result, Ok, Err, refl, sym, ap, subst, ◌∙◌}
use Rattle.dv_change.specs.declared.change.Change as flow
use Rattle.dv_change.specs.declared.taking.Taken as taking
use Rattle.dv_change.specs.Inner.Told.{changes_told}
use Rattle.dv_pipe.specs.Stages.{Lists}
use Rattle.dv_views.specs.Inner.Applied.{CountsWork}
use Rattle.dv_views.specs.Inner.Changed.{AreMade, AreToldOf}
use Rattle.dv_views.specs.Placed.{positioned}
use Rattle.dv_views.specs.Inner.Counted.{AreCounted, HasCountedShare}
use Rattle.dv_views.specs.Flow.{Share, nothing, shares}
use Rattle.dv_views.specs.Forms.{ViewForm, is_read_by}
use Rattle.dv_views.specs.Views.{View}
use Rattle.dv_views.specs.Inner.Views.{AreRight, Views, view_form, is_view_named, is_stale, mark_ticks, views_without}
use Rattle.dv_views.specs.Views as views
use Rattle.dv_catalog.specs.Inner.CatalogParts.{mark_of, marks_of}
use Rattle.dv_value.specs.Tree.{Field}
use Rattle.dv_coll.specs.Collection.{found, id_key}
use Rattle.dv_command.specs.Entries.{Deletion, Updating}
use Rattle.dv_value.specs.Results.{◌>>=◌}
use Rattle.dv_refusal.specs.declared.refusal.Refusal.{Refusal}
use Rattle.dv_refusal.specs.declared.refusal.Refusal.TheVariants.{DuplicateKey}
use Rattle.dv_catalog.specs.declared.failure.Stopped.{Stopped}
use Rattle.dv_catalog.specs.Changes.{Change, Effect, Statement, changes_of, done_to, put}
use Rattle.dv_catalog.specs.Inner.EffectLaws.{done_changes}
use Rattle.dv_catalog.specs.Inner.EffectView.{AreAble}
use Rattle.dv_catalog.specs.Effects.{all_or_first, changed_by, delete_chosen, put_new, update_chosen, without as all_going}
use Rattle.dv_catalog.specs.Inner.Parts.{IsCut, IsRefused, StandBy, changes_made}
use Rattle.dv_catalog.specs.Marks.{AreMarkedBy, AreMarkedByDrop, AreMarkedSo, AreMarkedWhere, IsMarkedBy, Mark, Marked, Marks, live, marks_without, stale}
use Rattle.dv_catalog.specs.State.{AreOrdered, Collection, Namespaces, State, is_collection, lists_of}
use Rattle.dv_catalog.specs.Told.{told}
use Rattle.dv_catalog.specs.Inner.Told.{AreTold}
use Rattle.dv_catalog.proofs.Breaking.{idle_done}
use Rattle.dv_catalog.proofs.Keeping.{MadeAsTold, reads_forms}
use Rattle.dv_catalog.proofs.Stopping.{take_none}
use Rattle.dv_catalog.specs.Inner.MarkLaws.{nothing_counted, one_unmarked}

-- ---- after changes

shown_mark : (m : views.ViewMark) → mark_of m ≡ (if is_stale m then stale else live (mark_ticks m))
shown_mark (views.live kept) = refl
shown_mark views.stale = refl

-- a view
module _ (share : Share) (v w : View) (counts : HasCountedShare share v w) where
  abbrev before : Bool → Mark
  before b = if b then stale else live (mark_ticks v.mark)

  abbrev after : Bool → Mark
  after b = if b then stale else live (mark_ticks w.mark)

  is_reached : is_stale v.mark ≡ false → is_stale w.mark ≡ true → (b : Bool) → share.reached ≡ b → b ≡ true
  is_reached was is true reached = refl
  is_reached was is false reached = let same = ap (λ (u : View). is_stale u.mark) (counts.unread reached) in absurd (cc (was, is, same))

  by_marks : (a b : Bool) → is_stale v.mark ≡ a → is_stale w.mark ≡ b → IsMarkedBy share (before a) (after b)
  by_marks true true was is = inl refl
  by_marks true false was is = let still = counts.stale was in absurd (cc (still, is))
  by_marks false true was is = inr (record { stale = refl; reached = is_reached was is share.reached refl })
  by_marks false false was is = inl (ap live (counts.ticks is))

  marked_one : IsMarkedBy share (mark_of v.mark) (mark_of w.mark)
  marked_one =
      subst (λ (m : Mark). IsMarkedBy share m (mark_of w.mark)) (sym (shown_mark v.mark))
      (subst (λ (m : Mark). IsMarkedBy share (before (is_stale v.mark)) m) (sym (shown_mark w.mark)) (by_marks (is_stale v.mark) (is_stale w.mark) refl refl))

marked_each : (all : List Share) (vs ws : Views) → AreCounted all vs ws → AreMarkedSo all (marks_of vs) (marks_of ws)
marked_each [] [] [] counts = refl
marked_each [] [] (w ∷ ws) counts = absurd counts
marked_each [] (v ∷ vs) ws counts = absurd counts
marked_each (s ∷ all) [] ws counts = absurd counts
marked_each (s ∷ all) (v ∷ vs) [] counts = absurd counts
marked_each (s ∷ all) (v ∷ vs) (w ∷ ws) counts = (marked_one s v w counts.0, marked_each all vs ws counts.1)

-- what dv_views's law says of what isn't read
abbrev pub UnreadIsNotCounted : Type 0
UnreadIsNotCounted = (namespace : List ℕ) (changes : List flow.Change) (lists : Lists) (forms : List ViewForm) → is_read_by forms namespace ≡ false → shares namespace changes lists forms ≡ map (λ v. nothing) forms

module _ (made : MadeAsTold) (unread : UnreadIsNotCounted) (lists : Lists) (namespace : List ℕ) (changes : List Change) (tell : List flow.Change) (told_all : List taking.Taken) (tells : changes_told told_all ≡ tell) (vs ws : Views) (ordered : AreOrdered (lists namespace)) where
  -- the marks of views after changes that were passed to them
  pub are_marked : AreAble (lists namespace) changes → AreTold namespace vs (lists namespace) changes told_all → AreRight lists vs → CountsWork namespace tell told_all vs ws → AreMarkedBy namespace changes lists (map view_form vs) (marks_of vs) (marks_of ws)
  are_marked able (inl so) right counts =
      let is : tell ≡ map told changes = sym tells ∙ so.changes_are in
      let all = subst (λ (cs : List flow.Change). AreMade cs (lists namespace)) (sym is) (made (lists namespace) changes ordered able).0 in
      marked_each (shares namespace (map told changes) lists (map view_form vs)) vs ws (subst (λ (cs : List flow.Change). AreCounted (shares namespace cs lists (map view_form vs)) vs ws) is (counts lists all so.olds right))
  are_marked able (inr (nothing_told, not_read)) right counts =
      let is : tell ≡ [] = sym tells ∙ ap changes_told nothing_told in
      let olds = subst (λ (ts : List taking.Taken). AreToldOf (positioned (lists namespace)) ts) (sym nothing_told) tt in
      let none : is_read_by (map view_form vs) namespace ≡ false = reads_forms vs namespace ∙ not_read in
      let all = subst (λ (cs : List flow.Change). AreMade cs (lists namespace)) (sym is) (made (lists namespace) [] ordered tt).0 in
      let same = unread namespace tell lists (map view_form vs) none ∙ sym (unread namespace (map told changes) lists (map view_form vs) none) in
      marked_each (shares namespace (map told changes) lists (map view_form vs)) vs ws (subst (λ (ss : List Share). AreCounted ss vs ws) same (counts lists all olds right))

-- without changes the marks may stay as they were
no_shares : (namespace : List ℕ) (lists : Lists) (forms : List ViewForm) → shares namespace [] lists forms ≡ map (λ v. nothing) forms
unfolding shares
no_shares namespace lists forms = refl

unmarked_by : (forms : List ViewForm) (marks : Marks) → AreMarkedSo (map (λ v. nothing) forms) marks marks
unmarked_by [] marks = refl
unmarked_by (v ∷ forms) [] = refl
unmarked_by (v ∷ forms) (mark ∷ marks) = (inl (sym (nothing_counted mark)), unmarked_by forms marks)

unmarked : (namespace : List ℕ) (changes : List Change) (lists : Lists) (forms : List ViewForm) (marks : Marks) → changes ≡ [] → AreMarkedBy namespace changes lists forms marks marks
unmarked namespace changes lists forms marks none =
    subst (λ (all : List Share). AreMarkedSo all marks marks) (sym (ap (λ (cs : List Change). shares namespace (map told cs) lists forms) none ∙ no_shares namespace lists forms)) (unmarked_by forms marks)

-- and without changes no other marks are possible
unmarked_after : (forms : List ViewForm) (before after : Marks) → AreMarkedSo (map (λ v. nothing) forms) before after → after ≡ before
unmarked_after [] before after are = are
unmarked_after (v ∷ forms) [] after are = are
unmarked_after (v ∷ forms) (mark ∷ before) [] are = absurd are
unmarked_after (v ∷ forms) (mark ∷ before) (now ∷ after) are = λ i. one_unmarked mark now are.0 i ∷ unmarked_after forms before after are.1 i

pub still_marked : (namespace : List ℕ) (changes : List Change) (lists : Lists) (forms : List ViewForm) (before after : Marks) → changes ≡ [] → AreMarkedBy namespace changes lists forms before after → after ≡ before
still_marked namespace changes lists forms before after none are =
    unmarked_after forms before after
    (subst (λ (all : List Share). AreMarkedSo all before after) (ap (λ (cs : List Change). shares namespace (map told cs) lists forms) none ∙ no_shares namespace lists forms) are)

-- ---- with one view less

less_one : (b : Bool) (v : View) (vs : Views) (rest : List Mark) → marks_of vs ≡ rest → marks_of (if not b then v ∷ vs else vs) ≡ (if b then rest else mark_of v.mark ∷ rest)
less_one true v vs rest is = is
less_one false v vs rest is = ap (λ (marks : List Mark). mark_of v.mark ∷ marks) is

pub marks_less : (name : List ℕ) (vs : Views) → marks_of (views_without name vs) ≡ marks_without name (map view_form vs) (marks_of vs)
marks_less name [] = refl
marks_less name (v ∷ vs) = less_one (is_view_named name v) v (views_without name vs) (marks_without name (map view_form vs) (marks_of vs)) (marks_less name vs)

pub marked_dropped : (name : List ℕ) (state : State) (before after : Marks) → is_collection name state.namespaces ≡ false → after ≡ marks_without name state.views before → AreMarkedByDrop name state before after
marked_dropped name state before after none is = subst (λ (b : Bool). AreMarkedWhere b name state before after) (sym none) is

-- ---- after a statement

module _ {B : Type 0} (namespace : List ℕ) (does : Result Effect Refusal) (old : Marked) where
  -- that stops before its first change
  pub stands_before : (result : Result B Stopped) (stopped : Stopped) → result ≡ Err stopped → stopped.done ≡ 0 → StandBy namespace does old result old.marks
  stands_before result stopped is none =
      let nothing : changes_made does result ≡ [] = ap (changes_made does) is ∙ ap (λ (n : ℕ). take n (changes_of does)) none ∙ take_none (changes_of does) in
      unmarked namespace (changes_made does result) (lists_of old.state.namespaces) old.state.views old.marks nothing

  -- that makes these changes
  pub stands_done : (x : B) (changes : List Change) → changes_of does ≡ changes → (after : Marks) → AreMarkedBy namespace changes (lists_of old.state.namespaces) old.state.views old.marks after → StandBy namespace does old (Ok x) after
  stands_done x changes is after are = subst (λ (cs : List Change). AreMarkedBy namespace cs (lists_of old.state.namespaces) old.state.views old.marks after) (sym is) are

  -- that makes none
  pub stands_idle : (x : B) → changes_of does ≡ [] → StandBy namespace does old (Ok x) old.marks
  stands_idle x none = unmarked namespace (changes_of does) (lists_of old.state.namespaces) old.state.views old.marks none

one_more : (n : ℕ) (d : List Field) (documents : List (List Field)) → n < length (changes_of (put_new d documents)) → n ≡ 0
one_more n d documents fewer = by_found (is_some (found (id_key d) documents)) fewer
  where
    by_found : (b : Bool) → (let result : Result Effect Refusal = if b then Err DuplicateKey else Ok (record { matched = 1; changes = put d ∷ [] }) in n < length (changes_of result)) → n ≡ 0
    by_found true fewer = absurd (omega (arith, fewer))
    by_found false fewer = omega (arith, fewer)

no_more : (n : ℕ) (d : List Field) (c : Collection) → (n ≡ 0) ⊎ (n < length (changes_of (done_to c (put_new d)))) → n ≡ 0
no_more n d c (inl none) = none
no_more n d c (inr fewer) = by_changes (done_changes c (put_new d))
  where
    by_changes : (changes_of (done_to c (put_new d)) ≡ changes_of (put_new d c.documents)) ⊎ (changes_of (done_to c (put_new d)) ≡ []) → n ≡ 0
    by_changes (inl same) = one_more n d c.documents (subst (λ (changes : List Change). n < length changes) same fewer)
    by_changes (inr none) = let nothing : n < length {A = Change} [] = subst (λ (changes : List Change). n < length changes) none fewer in absurd (omega (arith, nothing))

-- a document that isn't put changes nothing, as a single change isn't made in part
pub put_stops : (d : List Field) (c : Collection) (namespace : List ℕ) (old new : Namespaces) (stopped : Stopped)
    → IsRefused (done_to c (put_new d)) old stopped new ⊎ IsCut namespace (done_to c (put_new d)) old stopped new → stopped.done ≡ 0
put_stops d c namespace old new stopped (inl refused) = refused.none
put_stops d c namespace old new stopped (inr cut) = no_more stopped.done d c cut.fewer

-- ---- if there is no document, nothing is done

abbrev none_done : Result Effect Refusal
none_done = Ok (record { matched = 0; changes = [] })

idle : (statement : Statement) (c : Collection) → c.documents ≡ [] → statement [] ≡ none_done → done_to c statement ≡ none_done
idle statement c none so = idle_done c statement (ap statement none ∙ so)

pub nothing_updated : (asked : Updating) (c : Collection) → c.documents ≡ [] → done_to c (update_chosen asked) ≡ none_done
nothing_updated asked c none = idle (update_chosen asked) c none (by_number (not asked.multi))
  where
    by_number : (b : Bool) → (changed_by asked.update (all_or_first b []) >>= λ changed. Ok (record { matched = length (all_or_first b []); changes = map put changed })) ≡ none_done
    by_number true = refl
    by_number false = refl

pub nothing_deleted : (asked : Deletion) (c : Collection) → c.documents ≡ [] → done_to c (delete_chosen asked) ≡ none_done
nothing_deleted asked c none = idle (delete_chosen asked) c none (by_number asked.only_first)
  where
    by_number : (b : Bool) → (let r : Result Effect Refusal = Ok (all_going (all_or_first b [])) in r) ≡ none_done
    by_number true = refl
    by_number false = refl
