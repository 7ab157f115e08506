-- A live view reads no stale one.
use Rattle.std.proofs.Common.{◌≡◌, ◌≤◌, ℕ, Bool, true, false, List, [], ◌∷◌, map, Some, None, refl, sym, ap, ◌∙◌, arith}
use Rattle.std.proofs.lemmas.Slice.Eq.{bytes_eq-Decides}
use Rattle.std.specs.List.{AllByRecursion, AllZip}
use Rattle.std.specs.Option.{option_map}
use Rattle.std.specs.Str.{bytes_eq}
use Rattle.dv_pipe.specs.Stages.{is_read}
use Rattle.dv_views.specs.Forms.{AreFounded, ViewForm}
use Rattle.dv_views.specs.Views.{View, ViewMark}
use Rattle.dv_views.specs.Views as views
use Rattle.dv_views.specs.Inner.Seen.{IsSoundRegistry}
use Rattle.dv_views.specs.Inner.Views.{AreOverLive, Views, distance, no_distance, reads, view_form, view_under, with_distance}
use Rattle.dv_catalog.specs.Inner.CatalogParts.{mark_of, marks_of}
use Rattle.dv_catalog.specs.Marks.{LiveReadNoStale, Marks, ReadsNoStale, mark_named, live, stale}
use Rattle.dv_catalog.proofs.Stale.{AreFound, found_each}
use Rattle.dv_catalog.proofs.StatsTold.{mark_shown}

-- a name that none of the views has
abbrev IsNew : List ℕ → Views → Type 0
IsNew name vs = AllByRecursion (λ v. bytes_eq name v.name ≡ false) vs

-- a name that a view reads is not the name of a view that it doesn't read
new_where_read : (w : View) (name : List ℕ) → reads w name ≡ true → (vs : Views) → AllByRecursion (λ (other : ViewForm). is_read w.stages w.source other.name ≡ false) (map view_form vs) → IsNew name vs
new_where_read w name read [] unread = tt
new_where_read w name read (v ∷ vs) unread = (by (bytes_eq name v.name) refl, new_where_read w name read vs unread.1)
  where
    by : (b : Bool) → bytes_eq name v.name ≡ b → b ≡ false
    by false same = refl
    by true same =
        let is : name ≡ v.name = (bytes_eq-Decides name v.name).0 same in
        let both : true ≡ false = sym read ∙ ap (reads w) is ∙ unread.0 in
        absurd cc

stale_is_far : (m : ViewMark) → Some (mark_of m) ≡ Some stale → distance m ≡ 1
stale_is_far (views.live kept) is = absurd cc
stale_is_far views.stale is = refl

module _ (all : Views) where
  abbrev forms : List ViewForm
  forms = map view_form all

  abbrev marks : Marks
  marks = marks_of all

  -- what is stale under a name that none of the views has is at distance 1
  abbrev AreFar : (List ℕ → ℕ) → Views → Type 0
  AreFar distances vs = (name : List ℕ) → IsNew name vs → mark_named name forms marks ≡ Some stale → distances name ≡ 1

  one_farther : (w : View) (distances : List ℕ → ℕ) (vs : Views) → view_under w.name all ≡ Some w → AreFar distances (w ∷ vs) → AreFar (with_distance w distances) vs
  one_farther w distances vs found far name new is = by (bytes_eq name w.name) refl
    where
      by : (b : Bool) → bytes_eq name w.name ≡ b → with_distance w distances name ≡ 1
      by true same =
          let named : name ≡ w.name = (bytes_eq-Decides name w.name).0 same in
          let marked : mark_named name forms marks ≡ Some (mark_of w.mark) = ap (λ n. mark_named n forms marks) named ∙ mark_shown w.name all ∙ ap (option_map (λ (v : View). mark_of v.mark)) found in
          rw same (stale_is_far w.mark (sym marked ∙ is))
      by false other = rw other (far name (other, new) is)

  reads_none : (w : View) (distances : List ℕ → ℕ) (vs : Views) → AreFar distances vs → AllByRecursion (λ (other : ViewForm). is_read w.stages w.source other.name ≡ false) (map view_form vs)
      → ((name : List ℕ) → reads w name ≡ true → distances name ≤ distance w.mark) → (m : ViewMark) → w.mark ≡ m → ReadsNoStale forms marks (view_form w) (mark_of m)
  reads_none w distances vs far unread over views.stale is = tt
  reads_none w distances vs far unread over (views.live kept) is = λ name read marked.
      let one = far name (new_where_read w name read vs unread) marked in
      let most = over name read in
      let zero = ap distance is in
      absurd (omega (arith, one, most, zero))

  pub over_live : (distances : List ℕ → ℕ) (vs : Views) → AreFar distances vs → AreFound all vs → AreOverLive distances vs → AreFounded (map view_form vs) → AllZip (ReadsNoStale forms marks) (map view_form vs) (marks_of vs)
  over_live distances [] far found over founded = tt
  over_live distances (w ∷ vs) far found over founded = (
    reads_none w distances (w ∷ vs) far founded.0 over.0 w.mark refl,
    over_live (with_distance w distances) vs (one_farther w distances vs found.0 far) found.1 over.1 founded.1,
  )

none_new : (all vs : Views) (name : List ℕ) → IsNew name vs → mark_named name (map view_form vs) (marks_of vs) ≡ None
none_new all [] name new = refl
none_new all (v ∷ vs) name new = rw new.0 (none_new all vs name new.1)

pub live_read_no_stale : (vs : Views) → IsSoundRegistry vs → LiveReadNoStale (map view_form vs) (marks_of vs)
live_read_no_stale vs sound =
    over_live vs no_distance vs (λ name new is. let none : None ≡ Some stale = sym (none_new vs vs name new) ∙ is in absurd cc) (found_each vs sound.apart) sound.live sound.founded
