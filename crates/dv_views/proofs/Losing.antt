-- Views after changes for which memory may run out.
use Rattle.std.proofs.Common.{◌≡◌, ℕ, Bool, true, false, List, [], ◌∷◌, ◌++◌, map, take, Option, Some, None, is_some, append_assoc, append-nil, refl, ap, sym, subst, ◌∙◌}
use Rattle.std.proofs.lemmas.List.{map_push}
use Rattle.std.proofs.lemmas.Slice.Eq.{bytes_eq-Decides}
use Rattle.std.specs.Bool.{if◌then◌else◌}
use Rattle.std.specs.List.{AllByRecursion, list_any}
use Rattle.std.specs.Str.{bytes_eq}
use Rattle.dv_change.specs.declared.change.Change.{Change}
use Rattle.dv_change.specs.declared.change.Change.TheVariants.{Gone}
use Rattle.dv_change.specs.declared.taking.Taken as taking
use Rattle.dv_change.specs.Inner.Told.{changes_told}
use Rattle.dv_coll.specs.Collection.{HasId}
use Rattle.dv_pipe.specs.Sources.{Row}
use Rattle.dv_pipe.specs.Stages.{Lists}
use Rattle.dv_pipe.specs.declared.stage.Stage.{Stage}
use Rattle.dv_views.specs.Changed.{documents_changed, with_changed}
use Rattle.dv_views.specs.Inner.Changed.{gone_each, gones_of}
use Rattle.dv_views.specs.Inner.Counted.{AreCounted}
use Rattle.dv_views.specs.Flow.{Share}
use Rattle.dv_views.specs.Forms.{names_read}
use Rattle.dv_views.specs.Inner.Older.{Entries, told_else, told_found, told_named}
use Rattle.dv_views.specs.Placed.{own_position}
use Rattle.dv_views.specs.Inner.Turned.{HaveTaken, comes_to, known_at}
use Rattle.dv_views.specs.Inner.Views.{AreOverLive, AreRight, Views, view_form, no_distance, reads_name}
use Rattle.dv_views.proofs.Agree.{FromScratch}
use Rattle.dv_views.proofs.Behind.{AreToldIn, HaveFollowed, follow_told}
use Rattle.dv_views.proofs.CountedMore.{counted_none}
use Rattle.dv_views.proofs.Heights.{read_forms}
use Rattle.dv_views.proofs.Right.{UnreadDoesNotMatter}
use Rattle.dv_views.proofs.Unread.{no_shares}
use Rattle.dv_order.specs.Inner.KeyLaws.{EqualKeysAreOne}

-- ---- what a change reaches, whatever the change is

else-known : (o : Option (Option (List taking.Taken))) (a b : Option (List taking.Taken)) → is_some a ≡ is_some b → is_some (told_else o a) ≡ is_some (told_else o b)
else-known None a b same = same
else-known (Some told) a b same = refl

at-known : (b : Bool) (xs ys : List taking.Taken) → is_some (if b then Some xs else None) ≡ is_some (if b then Some ys else None)
at-known true xs ys = refl
at-known false xs ys = refl

pub reached_whatever : {Y : Type 0} (namespace : List ℕ) (xs ys : List taking.Taken) (n : ℕ) (es : Entries Y) (stages : List Stage) (source : List ℕ)
    → comes_to stages source (told_found namespace xs n es) ≡ comes_to stages source (told_found namespace ys n es)
reached_whatever namespace xs ys n es stages source = λ i. list_any (λ name. known name i) (names_read stages source)
  where
    known : (name : List ℕ) → is_some (told_found namespace xs n es name) ≡ is_some (told_found namespace ys n es name)
    known name = else-known (told_named name (take n es)) (known_at namespace xs name) (known_at namespace ys name) (at-known (bytes_eq namespace name) xs ys)

-- ---- changes of what no view reads

abbrev pub UnreadViewsDoNotMatter : Type 0
UnreadViewsDoNotMatter = (views : Views) (lists others : Lists) → ((name : List ℕ) → reads_name views name ≡ true → lists name ≡ others name) → AreRight lists views → AreRight others views

unread-same : (namespace : List ℕ) (cs : List Change) (vs : Views) → reads_name vs namespace ≡ false → (lists : Lists) (name : List ℕ) → reads_name vs name ≡ true → lists name ≡ with_changed namespace cs lists name
unread-same namespace cs vs away lists name is = by (bytes_eq namespace name) refl
  where
    by : (b : Bool) → bytes_eq namespace name ≡ b → lists name ≡ (if b then documents_changed cs (lists name) else lists name)
    by true here = let no : true ≡ false = sym is ∙ ap (reads_name vs) (sym ((bytes_eq-Decides namespace name).0 here)) ∙ away in absurd cc
    by false here = refl

pub follow_unread : UnreadViewsDoNotMatter → (namespace : List ℕ) (cs : List Change) (AreTold : List Row → Type 0) (vs : Views) → reads_name vs namespace ≡ false → HaveFollowed namespace cs AreTold vs vs
follow_unread unread namespace cs AreTold vs away = record {
  forms = refl;
  right = λ lists made told right. unread vs lists (with_changed namespace cs lists) (unread-same namespace cs vs away lists) right;
  counted = λ lists made told right. subst (λ (all : List Share). AreCounted all vs vs) (sym (no_shares namespace cs lists (map view_form vs) (read_forms namespace vs ∙ away))) (counted_none vs);
}

-- ---- documents that are removed one after the other

gones-told : (ds : List Row) → changes_told (gones_of ds) ≡ gone_each ds
gones-told [] = refl
gones-told (d ∷ ds) = ap (λ (cs : List Change). Gone (own_position d) ∷ cs) (gones-told ds)

-- a document that is removed
abbrev gone_of : Row → taking.Taken
gone_of d = record { pos = own_position d; old = Some d; new = None }

-- views after the removal of some documents, and the documents that are left
pub record HaveGone (namespace : List ℕ) (all left : List Row) (before now : Views) : Type 0 where
  pub came : List Row
  pub whole : came ++ left ≡ all
  pub followed : HaveFollowed namespace (changes_told (gones_of came)) (AreToldIn (gones_of came)) before now
  pub identified : AllByRecursion HasId left

pub gone_more : FromScratch → UnreadDoesNotMatter → EqualKeysAreOne → (namespace : List ℕ) (all : List Row) (d : Row) (left : List Row) (before now after : Views) → HaveGone namespace all (d ∷ left) before now
    → HaveTaken (known_at namespace (gones_of (d ∷ []))) now after → AreOverLive no_distance after → HaveGone namespace all left before after
gone_more scratch unread one namespace all d left before now after so_far taken over = record {
  came = so_far.came ++ d ∷ [];
  whole = append_assoc so_far.came (d ∷ []) left ∙ so_far.whole;
  followed =
      subst (λ (ts : List taking.Taken). HaveFollowed namespace (changes_told ts) (AreToldIn ts) before after) (sym (map_push gone_of so_far.came d))
      (follow_told scratch unread one namespace (gones_of so_far.came) (gone_of d) before now after so_far.followed taken over);
  identified = so_far.identified.1;
}

pub gone_all : (namespace : List ℕ) (all : List Row) (before now : Views) → HaveGone namespace all [] before now → HaveFollowed namespace (gone_each all) (AreToldIn (gones_of all)) before now
gone_all namespace all before now so_far =
    subst (λ (cs : List Change). HaveFollowed namespace cs (AreToldIn (gones_of all)) before now) (gones-told all)
    (subst (λ (ds : List Row). HaveFollowed namespace (changes_told (gones_of ds)) (AreToldIn (gones_of ds)) before now) (sym (append-nil so_far.came) ∙ so_far.whole) so_far.followed)
