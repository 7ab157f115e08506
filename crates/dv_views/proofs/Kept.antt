-- Views after changes, and what is kept for them.
use Rattle.std.proofs.Common.{◌≡◌, ℕ, Bool, true, false, List, [], ◌∷◌, ◌++◌, Option, Some, None, Result, Ok, Err, OnErr, refl, ap, sym, subst, ◌∙◌}
use Rattle.std.proofs.lemmas.Slice.Eq.{bytes_eq-Decides}
use Rattle.std.specs.Bool.{if◌then◌else◌}
use Rattle.std.specs.List.{AllByRecursion}
use Rattle.std.specs.Str.{bytes_eq}
use Rattle.dv_change.specs.declared.change.Change.{Change}
use Rattle.dv_change.specs.declared.taking.Taken as taking
use Rattle.dv_change.specs.Changes.{Positioned, with_change}
use Rattle.dv_change.specs.Inner.Told.{with_old}
use Rattle.dv_coll.specs.Collection.{HasId}
use Rattle.dv_pipe.specs.Sources.{Row}
use Rattle.dv_pipe.specs.Stages.{Lists}
use Rattle.dv_views.specs.Changed.{documents_changed, with_changed}
use Rattle.dv_views.specs.Forms.{ViewForm, is_read_by}
use Rattle.dv_views.specs.Inner.Changed.{AreMade, AreMadeInTurn}
use Rattle.dv_views.specs.Inner.Copies.{AreCopies, AreCopiesRead, AreKeptRight, HaveCopiesRead, HaveHeard, HaveTakenChange, HaveTold, IsCopy, KeptViews, NamedCopies, copy_under}
use Rattle.dv_views.specs.Inner.Turned.{HaveTaken, known_at}
use Rattle.dv_views.specs.Inner.Views.{AreOverLive, AreRight, Views, no_distance, reads_name}
use Rattle.dv_views.specs.Placed.{positioned}
use Rattle.dv_views.proofs.Agree.{FromScratch}
use Rattle.dv_views.proofs.Behind.{HaveFollowed, follow_more, follow_none, made_front, made_last, told_of}
use Rattle.dv_views.proofs.Copied.{copies_left, other_copy, own_copy, read_left}
use Rattle.dv_views.proofs.Heights.{read_forms}
use Rattle.dv_views.proofs.Made.{forgotten}
use Rattle.dv_views.proofs.OneBehind.{forms_after}
use Rattle.dv_views.proofs.Right.{UnreadDoesNotMatter}
use Rattle.dv_views.proofs.Turns.{changed_parts, one-own}
use Rattle.dv_order.specs.Inner.KeyLaws.{EqualKeysAreOne}

-- what is kept of a namespace, if anything is, are these documents
abbrev pub AreKeptIn : List ℕ → KeptViews → List Row → Type 0
AreKeptIn namespace kept documents = IsCopy (copy_under namespace kept.copies) documents

-- views after changes of a namespace, and what is kept for them
pub record HaveKept (namespace : List ℕ) (changes : List Change) (before after : KeptViews) : Type 0 where
  pub followed : HaveFollowed namespace changes (AreKeptIn namespace before) before.views after.views
  pub copy : (documents : List Row) → AllByRecursion HasId documents → AreMadeInTurn changes documents → AreKeptIn namespace before documents → AreKeptIn namespace after (documents_changed changes documents)
  pub none : copy_under namespace before.copies ≡ None → copy_under namespace after.copies ≡ None
  pub others : (name : List ℕ) → bytes_eq namespace name ≡ false → copy_under name after.copies ≡ copy_under name before.copies

pub kept_none : (namespace : List ℕ) (kept : KeptViews) → HaveKept namespace [] kept kept
kept_none namespace kept = record {
  followed = follow_none namespace (AreKeptIn namespace kept) kept.views;
  copy = λ documents all made are. subst (AreKeptIn namespace kept) (sym (forgotten documents)) are;
  none = λ none. none;
  others = λ name away. refl;
}

-- the rows there, if a copy of them is kept
are-there : (copy : Option Positioned) (rows : Positioned) (documents : List Row) → copy ≡ Some rows → IsCopy copy documents → rows ≡ positioned documents
are-there None rows documents there are = absurd cc
are-there (Some others) rows documents there are = let same : rows ≡ others = cc in same ∙ are

module _ (scratch : FromScratch) (unread : UnreadDoesNotMatter) (one : EqualKeysAreOne) (namespace : List ℕ) (cs : List Change) (c : Change) (before now after : KeptViews) (first : HaveKept namespace cs before now) where
  more : (told : Option taking.Taken) → HaveTold namespace c now.copies after.copies told → HaveHeard namespace told now.views after.views → AreOverLive no_distance after.views → HaveKept namespace (cs ++ c ∷ []) before after
  more None have lost over = record {
    followed =
        follow_more scratch unread one namespace cs c (AreKeptIn namespace before) (AreKeptIn namespace before) before.views now.views after.views first.followed (λ documents are. are) (forms_after (known_at namespace []) now.views after.views (lost []))
        (λ documents all made are. lost (told_of (documents_changed cs documents) c)) over;
    copy = λ documents all made are. subst (λ (copy : Option Positioned). IsCopy copy (documents_changed (cs ++ c ∷ []) documents)) (sym (own_copy namespace None now.copies after.copies have)) tt;
    none = λ none. own_copy namespace None now.copies after.copies have;
    others = λ name away. other_copy namespace None now.copies after.copies have name away ∙ first.others name away;
  }
  more (Some taken) told heard over = record {
    followed =
        follow_more scratch unread one namespace cs c (AreKeptIn namespace before) (AreKeptIn namespace before) before.views now.views after.views first.followed (λ documents are. are) (forms_after (known_at namespace (taken ∷ [])) now.views after.views heard)
        (λ documents all made are.
        let there = are-there (copy_under namespace now.copies) told.rows (documents_changed cs documents) told.there (first.copy documents all made are) in
        subst (λ (t : taking.Taken). HaveTaken (known_at namespace (t ∷ [])) now.views after.views) (told.told ∙ ap (λ (rows : Positioned). with_old rows c) there) heard)
        over;
    copy = λ documents all made are.
        let front = made_front cs c documents made in
        let last = made_last one cs c documents all made in
        let there = are-there (copy_under namespace now.copies) told.rows (documents_changed cs documents) told.there (first.copy documents all front are) in
        subst (λ (copy : Option Positioned). IsCopy copy (documents_changed (cs ++ c ∷ []) documents)) (sym own)
        (ap (λ (rows : Positioned). with_change rows c) there ∙ one-own one c (documents_changed cs documents) last.0 last.1 ∙ ap positioned (sym (changed_parts one cs (c ∷ []) documents all front)));
    none = λ none. let no : Some told.rows ≡ None = sym told.there ∙ first.none none in absurd cc;
    others = λ name away. other_copy namespace (Some (with_change told.rows c)) now.copies after.copies told.copies name away ∙ first.others name away;
  }
    where
      own : copy_under namespace after.copies ≡ Some (with_change told.rows c)
      own = own_copy namespace (Some (with_change told.rows c)) now.copies after.copies told.copies

  pub kept_more : HaveTakenChange namespace c now after → HaveKept namespace (cs ++ c ∷ []) before after
  kept_more step = more step.told step.copies step.views step.live

-- ---- what holds after all changes

module _ (namespace : List ℕ) (cs : List Change) (before after : KeptViews) (all : HaveKept namespace cs before after) (lists : Lists) (made : AreMade cs (lists namespace)) where
  copies-after : AreCopies lists before.copies → AreCopies (with_changed namespace cs lists) after.copies
  copies-after are name = by (bytes_eq namespace name) refl
    where
      by : (b : Bool) → bytes_eq namespace name ≡ b → IsCopy (copy_under name after.copies) (if b then documents_changed cs (lists name) else lists name)
      by true is =
          subst (λ (n : List ℕ). IsCopy (copy_under n after.copies) (documents_changed cs (lists n))) ((bytes_eq-Decides namespace name).0 is)
          (all.copy (lists namespace) made.identified made.in_turn (are namespace))
      by false away = subst (λ (copy : Option Positioned). IsCopy copy (lists name)) (sym (all.others name away)) (are name)

  read-after : AreCopiesRead before.views before.copies → AreCopiesRead after.views after.copies
  read-after are name away = by (bytes_eq namespace name) refl
    where
      was : copy_under name before.copies ≡ None
      was = are name (sym (read_forms name before.views) ∙ ap (λ (fs : List ViewForm). is_read_by fs name) (sym all.followed.forms) ∙ read_forms name after.views ∙ away)

      by : (b : Bool) → bytes_eq namespace name ≡ b → copy_under name after.copies ≡ None
      by true is =
          let same = (bytes_eq-Decides namespace name).0 is in
          subst (λ (n : List ℕ). copy_under n before.copies ≡ None → copy_under n after.copies ≡ None) same all.none was
      by false here = all.others name here ∙ was

  pub kept_right : AreKeptRight lists before → AreKeptRight (with_changed namespace cs lists) after
  kept_right right = record {
    views = all.followed.right lists made (right.copies namespace) right.views;
    copies = copies-after right.copies;
    read = read-after right.read;
  }

-- ---- what is left if only what views read is kept

pub left_right : (lists : Lists) (views : Views) (before after : NamedCopies) → HaveCopiesRead views before after → AreRight lists views → AreCopies lists before → AreKeptRight lists (record { views = views; copies = after })
left_right lists views before after have right are = record { views = right; copies = copies_left views before after have lists are; read = read_left views before after have }

-- what holds in any case also holds if memory runs out
pub where_wanting : {T E : Type 0} (P : Type 0) (r : Result T E) → P → OnErr r P
where_wanting P (Ok done) holds = tt
where_wanting P (Err fault) holds = holds

-- ---- lists that are the same wherever a view reads

module _ (kept : KeptViews) (lists others : Lists) (same : (name : List ℕ) → reads_name kept.views name ≡ true → lists name ≡ others name) where
  copies-over-others : AreCopies lists kept.copies → AreCopiesRead kept.views kept.copies → AreCopies others kept.copies
  copies-over-others are read name = by (reads_name kept.views name) refl
    where
      by : (b : Bool) → reads_name kept.views name ≡ b → IsCopy (copy_under name kept.copies) (others name)
      by true is = subst (λ (documents : List Row). IsCopy (copy_under name kept.copies) documents) (same name is) (are name)
      by false away = subst (λ (copy : Option Positioned). IsCopy copy (others name)) (sym (read name away)) tt

  pub kept_over_others : AreRight others kept.views → AreKeptRight lists kept → AreKeptRight others kept
  kept_over_others views right = record { views = views; copies = copies-over-others right.copies right.read; read = right.read }
