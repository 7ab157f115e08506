-- Views that are right stay right.
use Rattle.std.proofs.Common.{◌≡◌, ◌||◌, ℕ, Bool, true, false, not, List, [], ◌∷◌, ◌++◌, map, Option, Some, None, cond, refl, ap, sym, subst, ◌∙◌}
use Rattle.std.specs.Bool.{if◌then◌else◌}
use Rattle.std.specs.List.{list_any}
use Rattle.std.specs.Str.{bytes_eq}
use Rattle.std.proofs.lemmas.Slice.Eq.{bytes_eq-Decides}
use Rattle.std.proofs.lemmas.Bool.{or_parts}
use Rattle.dv_change.specs.Work.{through_forms}
use Rattle.dv_pipe.specs.Sources.{Row}
use Rattle.dv_pipe.specs.Stages.{Lists, evaluated, is_source_named, is_read, looked_into}
use Rattle.dv_pipe.specs.declared.stage.Stage.{Stage}
use Rattle.dv_views.specs.Forms.{is_name_among, names_read, outs_of, places_over, rows_over, with_places, with_rows}
use Rattle.dv_views.specs.Inner.Holding.{HasMade}
use Rattle.dv_views.specs.Placed.{ListPlaces, forms, lookups_of, list_places, positioned, names_with}
use Rattle.dv_views.specs.Views.{ViewMark, Inputs, live, stale, View, inputs_from}
use Rattle.dv_views.specs.Inner.Views.{AreKept, AreRight, AreRightOver, IsRight, Views, view_form, reads, reads_name, views_without}
use Rattle.dv_value.specs.Inner.ByteLaws.{bytes_eq-symmetric}

-- what dv_pipe's law says of pipelines
abbrev pub UnreadDoesNotMatter : Type 0
UnreadDoesNotMatter = (stages : List Stage) (source : List ℕ) (lists others : Lists) → ((name : List ℕ) → is_read stages source name ≡ true → lists name ≡ others name) → evaluated stages source lists ≡ evaluated stages source others

pub or-left : (a b : Bool) → a ≡ true → a || b ≡ true
or-left true b e = refl
or-left false b e = absurd cc

pub or-right : (a b : Bool) → b ≡ true → a || b ≡ true
or-right true b e = refl
or-right false b e = e

-- ---- names

pub itself : (name : List ℕ) → bytes_eq name name ≡ true
itself name = (bytes_eq-Decides name name).1 refl

lookups-among : (ss : List Stage) (source name : List ℕ) → list_any (λ s. is_source_named name (looked_into s source)) ss ≡ is_name_among name (lookups_of ss source)
lookups-among [] source name = refl
lookups-among (s ∷ ss) source name = by (looked_into s source) (lookups-among ss source name)
  where
    by : (o : Option (List ℕ)) → list_any (λ t. is_source_named name (looked_into t source)) ss ≡ is_name_among name (lookups_of ss source) → is_source_named name o || list_any (λ t. is_source_named name (looked_into t source)) ss ≡ is_name_among name (names_with o (lookups_of ss source))
    by None rest = rest
    by (Some other) rest = ap (λ (b : Bool). bytes_eq name other || b) rest

-- what is read is among the names that are read
pub read_among : (stages : List Stage) (source name : List ℕ) → is_read stages source name ≡ is_name_among name (names_read stages source)
read_among stages source name = λ i. bytes_eq-symmetric source name i || lookups-among stages source name i

-- ---- what is read at places

module _ (source : List ℕ) (places others : ListPlaces) where
  same-lookups : (ss : List Stage) → ((name : List ℕ) → list_any (λ s. is_source_named name (looked_into s source)) ss ≡ true → places name ≡ others name) → map places (lookups_of ss source) ≡ map others (lookups_of ss source)
  same-lookups [] same = refl
  same-lookups (s ∷ ss) same =
      by (looked_into s source)
      (λ name h. same name (or-left (is_source_named name (looked_into s source)) (list_any (λ t. is_source_named name (looked_into t source)) ss) h))
      (same-lookups ss (λ name h. same name (or-right (is_source_named name (looked_into s source)) (list_any (λ t. is_source_named name (looked_into t source)) ss) h)))
    where
      by : (o : Option (List ℕ)) → ((name : List ℕ) → is_source_named name o ≡ true → places name ≡ others name) → map places (lookups_of ss source) ≡ map others (lookups_of ss source)
          → map places (names_with o (lookups_of ss source)) ≡ map others (names_with o (lookups_of ss source))
      by None here rest = rest
      by (Some name) here rest = λ i. here name (itself name) i ∷ rest i

  pub same_taken : (stages : List Stage) → ((name : List ℕ) → is_read stages source name ≡ true → places name ≡ others name) → inputs_from stages source places ≡ inputs_from stages source others
  same_taken stages same =
      let left = same source (or-left (bytes_eq source source) (list_any (λ s. is_source_named source (looked_into s source)) stages) (itself source)) in
      let named = same-lookups stages (λ name h. same name (or-right (bytes_eq source name) (list_any (λ s. is_source_named name (looked_into s source)) stages) h)) in
      λ i. record { left = left i; named = named i }

  pub same_outs : (stages : List Stage) → ((name : List ℕ) → is_read stages source name ≡ true → places name ≡ others name) → outs_of stages source places ≡ outs_of stages source others
  same_outs stages same = ap (λ (t : Inputs). through_forms (forms stages t.named) t.left) (same_taken stages same)

pub kept_same : (stages : List Stage) (m : ViewMark) (t u : Inputs) (rows others : List Row) → t ≡ u → rows ≡ others → AreKept stages m t rows → AreKept stages m u others
kept_same stages (live kept) t u rows others taken same h = (subst (λ (x : Inputs). HasMade stages kept x) taken h.0, h.1 ∙ same)
kept_same stages stale t u rows others taken same h = tt

-- the same rows are under a name in both
abbrev pub IsSame : ListPlaces → ListPlaces → Lists → Lists → List ℕ → Type 0
IsSame places others lists rows name = (places name ≡ others name) × (lists name ≡ rows name)

module _ (unread : UnreadDoesNotMatter) (places others : ListPlaces) (lists rows : Lists) where
  right-same : (v : View) → ((name : List ℕ) → reads v name ≡ true → IsSame places others lists rows name) → IsRight places lists v → IsRight others rows v
  right-same v same right =
      kept_same v.stages v.mark (inputs_from v.stages v.source places) (inputs_from v.stages v.source others) (evaluated v.stages v.source lists) (evaluated v.stages v.source rows)
      (same_taken v.source places others v.stages (λ name h. (same name h).0)) (unread v.stages v.source lists rows (λ name h. (same name h).1)) right

  -- with the view, the same rows are under its name in both, and under other names if they were before
  with-same : (v : View) → ((name : List ℕ) → reads v name ≡ true → IsSame places others lists rows name) → (name : List ℕ) → (bytes_eq name v.name ≡ false → IsSame places others lists rows name)
      → IsSame (with_places (view_form v) places) (with_places (view_form v) others) (with_rows (view_form v) lists) (with_rows (view_form v) rows) name
  with-same v same name here = by (bytes_eq name v.name) here
    where
      by : (b : Bool) → (b ≡ false → IsSame places others lists rows name)
          → ((if b then outs_of v.stages v.source places else places name) ≡ (if b then outs_of v.stages v.source others else others name))
          × ((if b then evaluated v.stages v.source lists else lists name) ≡ (if b then evaluated v.stages v.source rows else rows name))
      by true here = (same_outs v.source places others v.stages (λ name h. (same name h).0), unread v.stages v.source lists rows (λ name h. (same name h).1))
      by false here = here refl

-- ---- all views

module _ (unread : UnreadDoesNotMatter) where
  pub right_same : (vs : Views) (places others : ListPlaces) (lists rows : Lists) → ((name : List ℕ) → reads_name vs name ≡ true → IsSame places others lists rows name) → AreRightOver places lists vs → AreRightOver others rows vs
  right_same [] places others lists rows same right = tt
  right_same (v ∷ vs) places others lists rows same right =
      let here : (name : List ℕ) → reads v name ≡ true → IsSame places others lists rows name = λ name h. same name (or-left (reads v name) (reads_name vs name) h) in (
        right-same unread places others lists rows v here right.0,
        right_same vs (with_places (view_form v) places) (with_places (view_form v) others) (with_rows (view_form v) lists) (with_rows (view_form v) rows)
            (λ name h. with-same unread places others lists rows v here name (λ _. same name (or-right (reads v name) (reads_name vs name) h))) right.1,
      )

  pub right_over_others : (views : Views) (lists others : Lists) → ((name : List ℕ) → reads_name views name ≡ true → lists name ≡ others name) → AreRight lists views → AreRight others views
  right_over_others views lists others same = right_same views (list_places lists) (list_places others) lists others (λ name h. (ap positioned (same name h), same name h))

  -- ---- one is removed

  right-without : (gone : List ℕ) (vs : Views) (places others : ListPlaces) (lists rows : Lists) → ((name : List ℕ) → bytes_eq name gone ≡ false → IsSame places others lists rows name) → reads_name vs gone ≡ false
      → AreRightOver places lists vs → AreRightOver others rows (views_without gone vs)
  right-without gone [] places others lists rows same away right = tt
  right-without gone (v ∷ vs) places others lists rows same away right =
      let both = or_parts (reads v gone) (reads_name vs gone) away in
      by (bytes_eq gone v.name) refl
      (λ name h. read-elsewhere name both.0 h (bytes_eq name gone) refl)
      (λ places others lists rows same right. right-without gone vs places others lists rows same both.1 right)
    where
      read-elsewhere : (name : List ℕ) → reads v gone ≡ false → reads v name ≡ true → (b : Bool) → bytes_eq name gone ≡ b → IsSame places others lists rows name
      read-elsewhere name here h true is = let same : name ≡ gone = (bytes_eq-Decides name gone).0 is in absurd (cc (ap (reads v) same))
      read-elsewhere name here h false is = same name is

      past : bytes_eq gone v.name ≡ true → (name : List ℕ) → bytes_eq name gone ≡ false → IsSame (with_places (view_form v) places) others (with_rows (view_form v) lists) rows name
      past is name off =
          let other : bytes_eq name v.name ≡ false = ap (bytes_eq name) (sym ((bytes_eq-Decides gone v.name).0 is)) ∙ off in
          (ap (λ (b : Bool). if b then outs_of v.stages v.source places else places name) other ∙ (same name off).0, ap (λ (b : Bool). if b then evaluated v.stages v.source lists else lists name) other ∙ (same name off).1)

      by : (b : Bool) → bytes_eq gone v.name ≡ b → ((name : List ℕ) → reads v name ≡ true → IsSame places others lists rows name)
          → ((places others : ListPlaces) (lists rows : Lists) → ((name : List ℕ) → bytes_eq name gone ≡ false → IsSame places others lists rows name) → AreRightOver places lists vs → AreRightOver others rows (views_without gone vs))
          → AreRightOver others rows (cond (not b) (v ∷ views_without gone vs) (views_without gone vs))
      by true is here rest = rest (with_places (view_form v) places) others (with_rows (view_form v) lists) rows (past is) right.1
      by false is here rest = (
        right-same unread places others lists rows v here right.0,
        rest (with_places (view_form v) places) (with_places (view_form v) others) (with_rows (view_form v) lists) (with_rows (view_form v) rows) (λ name off. with-same unread places others lists rows v here name (λ _. same name off)) right.1,
      )

  pub right_without : (name : List ℕ) (lists : Lists) (views : Views) → reads_name views name ≡ false → AreRight lists views → AreRight lists (views_without name views)
  right_without name lists views away right = right-without name views (list_places lists) (list_places lists) lists lists (λ other off. (refl, refl)) away right

-- ---- one is added

pub right_append : (places : ListPlaces) (lists : Lists) (vs : Views) (w : View) → AreRightOver places lists vs → IsRight (places_over (map view_form vs) places) (rows_over (map view_form vs) lists) w → AreRightOver places lists (vs ++ w ∷ [])
right_append places lists [] w right here = (here, tt)
right_append places lists (v ∷ vs) w right here = (right.0, right_append (with_places (view_form v) places) (with_rows (view_form v) lists) vs w right.1 here)
