-- Views that are recomputed in their place, and views that are added after the others.
use Rattle.std.proofs.Common.{◌≡◌, ◌<◌, ◌+◌, arith, ◌||◌, inl, inr, ℕ, zero, suc, Bool, true, false, List, [], ◌∷◌, ◌++◌, map, take, length, Option, Some, None, Result, Ok, Err, OnErr, slice_get, refl, ap, sym, subst, ◌∙◌}
use Rattle.std.specs.List.{AllByRecursion, IsDistinct, list_any}
use Rattle.std.specs.Bool.{if◌then◌else◌}
use Rattle.std.specs.Str.{bytes_eq}
use Rattle.std.proofs.lemmas.Slice.Eq.{bytes_eq-Decides}
use Rattle.dv_pipe.specs.Stages.{Lists, is_read}
use Rattle.dv_pipe.specs.declared.stage.Stage.{Stage}
use Rattle.std.specs.Prelude.{nat_lt}
use Rattle.std.specs.declared.string.String.{String}
use Rattle.std.specs.String.{string_bytes}
use Rattle.std.specs.Map.{values_of}
use Rattle.std.proofs.lemmas.Bool.{or_parts}
use Rattle.std.proofs.lemmas.List.{map-append}
use Rattle.indexmap.specs.IndexMap.{set_value_at}
use Rattle.dv_views.specs.declared.fault.ViewFault.{ViewFault}
use Rattle.dv_views.specs.Inner.Body.{Body}
use Rattle.dv_views.specs.Inner.Older.{Entries, views, views_before}
use Rattle.dv_views.specs.Forms.{AreFounded, IsClosed, ViewForm, fault_of_new, height_over, heights, is_name_among, is_read_by, most_height, most_views, names_read, with_places, with_rows}
use Rattle.dv_views.specs.Inner.Ground.{IsBuilt}
use Rattle.dv_views.specs.Inner.Made.{AreAlike, IsAdded, IsNoStale, IsRefreshedAt}
use Rattle.dv_views.specs.Placed.{ListPlaces, list_places}
use Rattle.dv_views.specs.Inner.Seen.{IsSoundRegistry, view_seen, entry_view}
use Rattle.dv_views.specs.Views.{ViewMark, View}
use Rattle.dv_views.specs.Inner.Views.{AreInOrder, AreNamedApart, AreOverLive, ArePartlyRefreshed, AreRight, AreRightOver, IsJustMade, IsMadeAnew, IsPartlyRefreshed, IsRefusedFor, Views, view_form, has_view, is_stale, no_distance, view_under, with_distance}
use Rattle.dv_views.proofs.Agree.{FromScratch}
use Rattle.dv_views.proofs.Heights.{called_forms, first_fault}
use Rattle.dv_views.proofs.Joining.{Replaces, each_among, fresh_built, over_append, over_built, over_set, right_built, right_set, set_view}
use Rattle.dv_views.proofs.Right.{UnreadDoesNotMatter, read_among, right_append}
use Rattle.dv_views.specs.Inner.FormLaws.{same_form}

-- ---- the first of views

right_take : (n : ℕ) (places : ListPlaces) (lists : Lists) (vs : Views) → AreRightOver places lists vs → AreRightOver places lists (take n vs)
right_take zero places lists vs right = tt
right_take (suc n) places lists [] right = tt
right_take (suc n) places lists (v ∷ vs) right = (right.0, right_take n (with_places (view_form v) places) (with_rows (view_form v) lists) vs right.1)

over_take : (n : ℕ) (distances : List ℕ → ℕ) (vs : Views) → AreOverLive distances vs → AreOverLive distances (take n vs)
over_take zero distances vs over = tt
over_take (suc n) distances [] over = tt
over_take (suc n) distances (v ∷ vs) over = (over.0, over_take n (with_distance v distances) vs over.1)

apart_take : (n : ℕ) (vs : Views) → AreNamedApart vs → AreNamedApart (take n vs)
unfolding IsDistinct
apart_take zero vs apart = tt
apart_take (suc n) [] apart = tt
apart_take (suc n) (v ∷ vs) apart = (some n vs apart.0, apart_take n vs apart.1)
  where
    some : (n : ℕ) (ws : Views) → AllByRecursion (λ m. bytes_eq v.name m ≡ false) (map (λ (w : View). w.name) ws) → AllByRecursion (λ m. bytes_eq v.name m ≡ false) (map (λ (w : View). w.name) (take n ws))
    some zero ws all = tt
    some (suc n) [] all = tt
    some (suc n) (w ∷ ws) all = (all.0, some n ws all.1)

-- ---- what a view reads, if names include it

module _ (names : List (List ℕ)) where
  pub reads_listed : (n : ℕ) (vs : Views) (v : View) → IsClosed names (map view_form vs) → slice_get vs n ≡ Some v → is_name_among v.name names ≡ true → AllByRecursion (λ name. is_name_among name names ≡ true) (names_read v.stages v.source)
  reads_listed n [] v closed there among = absurd cc
  reads_listed zero (u ∷ vs) v closed there among = let same : u ≡ v = cc in subst (λ (w : View). is_name_among w.name names ≡ true → AllByRecursion (λ name. is_name_among name names ≡ true) (names_read w.stages w.source)) same closed.0 among
  reads_listed (suc n) (u ∷ vs) v closed there among = reads_listed n vs v closed.1 there among

  pub ordered_reads : (lists : Lists) (some : List (List ℕ)) → AllByRecursion (λ name. AreInOrder (lists name)) names → AllByRecursion (λ name. is_name_among name names ≡ true) some → AllByRecursion (λ name. AreInOrder (lists name)) some
  ordered_reads lists [] all listed = tt
  ordered_reads lists (name ∷ some) all listed = (each_among (λ m. AreInOrder (lists m)) names name all listed.0, ordered_reads lists some all listed.1)

  view-fresh : (older : Views) (name : List ℕ) → AllByRecursion (λ v. is_name_among v.name names ≡ true → is_stale v.mark ≡ false) older → is_name_among name names ≡ true → IsNoStale (view_under name older)
  view-fresh [] name all among = tt
  view-fresh (v ∷ older) name all among = by (bytes_eq name v.name) refl (view-fresh older name all.1 among)
    where
      by : (b : Bool) → bytes_eq name v.name ≡ b → IsNoStale (view_under name older) → IsNoStale (if b then Some v else view_under name older)
      by true is rest = all.0 (subst (λ (n : List ℕ). is_name_among n names ≡ true) ((bytes_eq-Decides name v.name).0 is) among)
      by false is rest = rest

  pub fresh_reads : (older : Views) (some : List (List ℕ)) → AllByRecursion (λ v. is_name_among v.name names ≡ true → is_stale v.mark ≡ false) older → AllByRecursion (λ name. is_name_among name names ≡ true) some
      → AllByRecursion (λ name. IsNoStale (view_under name older)) some
  fresh_reads older [] all listed = tt
  fresh_reads older (name ∷ some) all listed = (view-fresh older name all listed.0, fresh_reads older some all listed.1)

  pub alike_reads : (lists others : Lists) (some : List (List ℕ)) → AreAlike names lists others → AllByRecursion (λ name. is_name_among name names ≡ true) some → AreAlike some lists others
  alike_reads lists others some alike listed = λ name among. alike name (each_among (λ m. is_name_among m names ≡ true) some name listed among)

-- ---- a view recomputed in its place

-- the view at a place, with what it keeps now
abbrev pub keeping : View → ViewMark → View
keeping v mark = record { name = v.name; source = v.source; stages = v.stages; mark = mark }

module _ (mark : ViewMark) (v : View) (is : is_stale v.mark ≡ true) where
  pub replaces : (n : ℕ) (vs : Views) → slice_get vs n ≡ Some v → Replaces (keeping v mark) n vs
  replaces n [] there = absurd cc
  replaces zero (u ∷ vs) there = let same : u ≡ v = cc in subst (λ (w : View). (view_form (keeping v mark) ≡ view_form w) × (is_stale w.mark ≡ true)) (sym same) (refl, is)
  replaces (suc n) (u ∷ vs) there = replaces n vs there

module _ (w : View) where
  pub forms_set : (n : ℕ) (vs : Views) → Replaces w n vs → map view_form (set_view n w vs) ≡ map view_form vs
  forms_set n [] in_place = absurd in_place
  forms_set zero (v ∷ vs) in_place = ap (λ (f : ViewForm). f ∷ map view_form vs) in_place.0
  forms_set (suc n) (v ∷ vs) in_place = ap (λ (fs : List ViewForm). view_form v ∷ fs) (forms_set n vs in_place)

pub names_of_forms : (vs : Views) → map (λ (v : View). v.name) vs ≡ map (λ (f : ViewForm). f.name) (map view_form vs)
names_of_forms [] = refl
names_of_forms (v ∷ vs) = ap (λ (ns : List (List ℕ)). v.name ∷ ns) (names_of_forms vs)

pub apart_by_forms : (vs ws : Views) → map view_form ws ≡ map view_form vs → AreNamedApart vs → AreNamedApart ws
apart_by_forms vs ws same apart =
    subst (λ (ns : List (List ℕ)). IsDistinct bytes_eq ns) (names_of_forms vs ∙ ap (map (λ (f : ViewForm). f.name)) (sym same) ∙ sym (names_of_forms ws)) apart

module _ (names : List (List ℕ)) where
  pub left_at : (n : ℕ) (vs : Views) (v : View) → slice_get vs n ≡ Some v → (is_name_among v.name names ≡ true → is_stale v.mark ≡ false) → IsRefreshedAt n names vs vs
  left_at n [] v there fresh = absurd cc
  left_at zero (u ∷ vs) v there fresh = let same : u ≡ v = cc in (inl refl, subst (λ (w : View). is_name_among w.name names ≡ true → is_stale w.mark ≡ false) (sym same) fresh, refl)
  left_at (suc n) (u ∷ vs) v there fresh = (refl, left_at n vs v there fresh)

  module _ (mark : ViewMark) (v : View) (stale : is_stale v.mark ≡ true) (listed : is_name_among v.name names ≡ true) (fresh : IsJustMade mark) where
    pub refreshed_at : (n : ℕ) (vs : Views) → slice_get vs n ≡ Some v → IsRefreshedAt n names vs (set_view n (keeping v mark) vs)
    refreshed_at n [] there = absurd cc
    refreshed_at zero (u ∷ vs) there =
        let same : u ≡ v = cc in (
          inr (subst (λ (w : View). is_name_among w.name names ≡ true) (sym same) listed, subst (λ (w : View). IsMadeAnew w (keeping v mark)) (sym same) (record { stale = stale; form = refl; fresh = fresh })),
          (λ _. fresh.live),
          refl,
        )
    refreshed_at (suc n) (u ∷ vs) there = (refl, refreshed_at n vs there)

-- the registry with it stays sound, and right
module _ (names : List (List ℕ)) (mark : ViewMark) (v : View) (stale : is_stale v.mark ≡ true) (listed : is_name_among v.name names ≡ true) (n : ℕ) (vs : Views) (there : slice_get vs n ≡ Some v) (sound : IsSoundRegistry vs)
    (closed : IsClosed names (map view_form vs)) (lists : Lists) (built : IsBuilt v.stages v.source (take n vs) lists mark) where
  abbrev some : AllByRecursion (λ name. is_name_among name names ≡ true) (names_read v.stages v.source)
  some = reads_listed names n vs v closed there listed

  abbrev now : Views
  now = set_view n (keeping v mark) vs

  pub sound_set : IsSoundRegistry now
  sound_set =
      let in_place = replaces mark v stale n vs there in
      record {
        apart = apart_by_forms vs now (forms_set (keeping v mark) n vs in_place) sound.apart;
        live = over_set (keeping v mark) n no_distance vs in_place sound.live (λ name read.
            over_built (take n vs) (apart_take n vs sound.apart) lists v.stages v.source mark built name
            (sym (read_among v.stages v.source name) ∙ read));
        founded = subst AreFounded (sym (forms_set (keeping v mark) n vs in_place)) sound.founded;
      }

  pub right_refreshed : FromScratch → UnreadDoesNotMatter → (others : Lists) → AreAlike names lists others → AreRight others vs → AreRight others now
  right_refreshed scratch unread others alike right =
      right_set (keeping v mark) n (list_places others) others vs (replaces mark v stale n vs there) right
      (right_built scratch unread others lists (take n vs) (apart_take n vs sound.apart) (right_take n (list_places others) others vs right) v.stages v.source (alike_reads names lists others (names_read v.stages v.source) alike some)
      (over_take n no_distance vs sound.live) mark built)

-- ---- a view after the others

founded-last : (vs : List ViewForm) (w : ViewForm) → AreFounded vs → is_read_by vs w.name ≡ false → is_read w.stages w.source w.name ≡ false → AreFounded (vs ++ w ∷ [])
founded-last [] w founded unread own = ((own, tt), tt)
founded-last (v ∷ vs) w founded unread own =
    let both = or_parts (is_read v.stages v.source w.name) (is_read_by vs w.name) unread in
    ((founded.0.0, more vs founded.0.1 both.0), founded-last vs w founded.1 both.1 own)
  where
    more : (us : List ViewForm) → AllByRecursion (λ other. is_read v.stages v.source other.name ≡ false) us → is_read v.stages v.source w.name ≡ false → AllByRecursion (λ other. is_read v.stages v.source other.name ≡ false) (us ++ w ∷ [])
    more [] all one = (one, tt)
    more (u ∷ us) all one = (all.0, more us all.1 one)

module _ (vs : Views) (w : View) (sound : IsSoundRegistry vs) (lists : Lists) (built : IsBuilt w.stages w.source vs lists w.mark) where
  pub sound_last : AreNamedApart (vs ++ w ∷ []) → is_read_by (map view_form vs) w.name ≡ false → is_read w.stages w.source w.name ≡ false → IsSoundRegistry (vs ++ w ∷ [])
  sound_last apart unread own = record {
    apart = apart;
    live = over_append no_distance vs w sound.live (λ name read. over_built vs sound.apart lists w.stages w.source w.mark built name (sym (read_among w.stages w.source name) ∙ read));
    founded = subst AreFounded (sym (map-append view_form vs (w ∷ []))) (founded-last (map view_form vs) (view_form w) sound.founded unread own);
  }

  pub right_last : FromScratch → UnreadDoesNotMatter → (others : Lists) → AreAlike (names_read w.stages w.source) lists others → AreRight others vs → AreRight others (vs ++ w ∷ [])
  right_last scratch unread others alike right =
      right_append (list_places others) others vs w right (right_built scratch unread others lists vs sound.apart right w.stages w.source alike sound.live w.mark built)

-- ---- views recomputed one after the other

module _ (names : List (List ℕ)) where
  pub none_refreshed : (vs : Views) → ArePartlyRefreshed names vs vs
  none_refreshed [] = tt
  none_refreshed (v ∷ vs) = (inl refl, none_refreshed vs)

  one-more : (u v w : View) → IsPartlyRefreshed names u v → IsPartlyRefreshed names v w → IsPartlyRefreshed names u w
  one-more u v w (inl first) second = subst (λ (x : View). IsPartlyRefreshed names x w) first second
  one-more u v w (inr first) (inl second) = subst (λ (x : View). IsPartlyRefreshed names u x) (sym second) (inr first)
  one-more u v w (inr first) (inr second) = absurd (cc (sym first.1.fresh.live ∙ second.1.stale))

  pub more_refreshed : (n : ℕ) (us vs ws : Views) → ArePartlyRefreshed names us vs → IsRefreshedAt n names vs ws → ArePartlyRefreshed names us ws
  more_refreshed n [] [] ws first at = subst (λ (xs : Views). ArePartlyRefreshed names [] xs) (sym at) tt
  more_refreshed n [] (v ∷ vs) ws first at = absurd first
  more_refreshed n (u ∷ us) [] ws first at = absurd first
  more_refreshed n (u ∷ us) (v ∷ vs) [] first at = absurd at
  more_refreshed zero (u ∷ us) (v ∷ vs) (w ∷ ws) first at = (one-more u v w first.0 at.0, subst (λ (xs : Views). ArePartlyRefreshed names us xs) (sym at.2) first.1)
  more_refreshed (suc n) (u ∷ us) (v ∷ vs) (w ∷ ws) first at = (subst (λ (x : View). IsPartlyRefreshed names u x) (sym at.0) first.0, more_refreshed n us vs ws first.1 at.1)

  pub more_fresh : (n : ℕ) (vs ws : Views) → AllByRecursion (λ v. is_name_among v.name names ≡ true → is_stale v.mark ≡ false) (take n vs) → IsRefreshedAt n names vs ws → n < length vs
      → AllByRecursion (λ v. is_name_among v.name names ≡ true → is_stale v.mark ≡ false) (take (n + 1) ws)
  more_fresh n vs ws fresh at more = let next : suc n ≡ n + 1 = omega arith in subst (λ (m : ℕ). AllByRecursion (λ v. is_name_among v.name names ≡ true → is_stale v.mark ≡ false) (take m ws)) next (by n vs ws fresh at)
    where
      by : (n : ℕ) (vs ws : Views) → AllByRecursion (λ v. is_name_among v.name names ≡ true → is_stale v.mark ≡ false) (take n vs) → IsRefreshedAt n names vs ws → AllByRecursion (λ v. is_name_among v.name names ≡ true → is_stale v.mark ≡ false) (take (suc n) ws)
      by n [] ws fresh at = subst (λ (xs : Views). AllByRecursion (λ v. is_name_among v.name names ≡ true → is_stale v.mark ≡ false) (take (suc n) xs)) (sym at) tt
      by n (v ∷ vs) [] fresh at = tt
      by zero (v ∷ vs) (w ∷ ws) fresh at = ((λ among. at.1 (subst (λ (n : List ℕ). is_name_among n names ≡ true) (ap (λ f. f.name) (same_form names v w at.0)) among)), tt)
      by (suc n) (v ∷ vs) (w ∷ ws) fresh at = (subst (λ (x : View). is_name_among x.name names ≡ true → is_stale x.mark ≡ false) (sym at.0) fresh.0, by n vs ws fresh.1 at.1)

-- ---- views in memory

module _ {Y : Type 0} where
  pub view_there : (n : ℕ) (es : Entries Y) (k : String Y) (b : Body) → slice_get es n ≡ Some (k, b) → slice_get (views es) n ≡ Some (view_seen (string_bytes k) b)
  view_there n [] k b there = absurd cc
  view_there zero (e ∷ es) k b there = let same : e ≡ (k, b) = cc in ap (λ (f : String Y × Body). Some (entry_view f)) same
  view_there (suc n) (e ∷ es) k b there = view_there n es k b there

  pub views_set : (n : ℕ) (es : Entries Y) (k : String Y) (old new : Body) → slice_get es n ≡ Some (k, old) → views (set_value_at es n new) ≡ set_view n (view_seen (string_bytes k) new) (views es)
  views_set n [] k old new there = absurd cc
  views_set zero (e ∷ es) k old new there = let same : e ≡ (k, old) = cc in ap (λ (f : String Y × Body). view_seen (string_bytes f.0) new ∷ views es) same
  views_set (suc n) (e ∷ es) k old new there = ap (λ (vs : Views). entry_view e ∷ vs) (views_set n es k old new there)

  pub same_there : (n : ℕ) (es : Entries Y) (k : String Y) (b x : Body) → slice_get es n ≡ Some (k, b) → slice_get (values_of es) n ≡ Some x → x ≡ b
  same_there n [] k b x there is = absurd cc
  same_there zero (e ∷ es) k b x there is = let same : e ≡ (k, b) = cc in let here : e.1 ≡ x = cc in sym here ∙ ap (λ (f : String Y × Body). f.1) same
  same_there (suc n) (e ∷ es) k b x there is = same_there n es k b x there is

  pub views_kept : (n : ℕ) (es : Entries Y) (k : String Y) (b x new : Body) (mark : ViewMark) → slice_get es n ≡ Some (k, b) → x ≡ b → new ≡ record x { mark = mark }
      → views (set_value_at es n new) ≡ set_view n (keeping (view_seen (string_bytes k) b) mark) (views es)
  views_kept n es k b x new mark there same is =
      views_set n es k b new there ∙ ap (λ (v : View). set_view n v (views es)) (ap (view_seen (string_bytes k)) is ∙ ap (λ (y : Body). keeping (view_seen (string_bytes k) y) mark) same)

  pub views_take : (n : ℕ) (es : Entries Y) → views_before n es ≡ take n (views es)
  views_take zero es = refl
  views_take (suc n) [] = refl
  views_take (suc n) (e ∷ es) = ap (λ (vs : Views). entry_view e ∷ vs) (views_take n es)

  pub views_all : (n : ℕ) (es : Entries Y) → n ≡ length es → views_before n es ≡ views es
  views_all n es is = subst (λ (m : ℕ). views_before m es ≡ views es) (sym is) (all es)
    where
      all : (es : Entries Y) → views_before (length es) es ≡ views es
      all [] = refl
      all (e ∷ es) = ap (λ (vs : Views). entry_view e ∷ vs) (all es)

pub length_at : (names : List (List ℕ)) (n : ℕ) (vs ws : Views) → IsRefreshedAt n names vs ws → length ws ≡ length vs
length_at names n [] ws at = ap length at
length_at names n (v ∷ vs) [] at = absurd at
length_at names zero (v ∷ vs) (w ∷ ws) at = ap (λ (us : Views). suc (length us)) at.2
length_at names (suc n) (v ∷ vs) (w ∷ ws) at = ap suc (length_at names n vs ws at.1)

-- ---- if there is no reason against a view

none-holds : (called read few near : Bool) → first_fault called read few near ≡ None → (called ≡ false) × (read ≡ false)
none-holds true read few near is = absurd cc
none-holds false true few near is = absurd cc
none-holds false false few near is = (refl, refl)

pub no_fault : (vs : Views) (name source : List ℕ) (stages : List Stage) → fault_of_new (map view_form vs) name source stages ≡ None → (has_view name vs ≡ false) × (is_read_by (map view_form vs) name || is_read stages source name ≡ false)
no_fault vs name source stages is =
    let both = none-holds (list_any (λ (f : ViewForm). bytes_eq name f.name) (map view_form vs)) (is_read_by (map view_form vs) name || is_read stages source name)
    (nat_lt (length (map view_form vs)) most_views) (nat_lt (height_over (heights (map view_form vs)) stages source) (suc most_height)) is in
    (sym (called_forms name vs) ∙ both.0, both.1)

pub same_called : (name : List ℕ) (vs ws : Views) → map view_form ws ≡ map view_form vs → has_view name ws ≡ has_view name vs
same_called name vs ws same = sym (called_forms name ws) ∙ ap (λ (fs : List ViewForm). list_any (λ f. bytes_eq name f.name) fs) same ∙ called_forms name vs

-- ---- a new view

module _ (vs : Views) (name source : List ℕ) (stages : List Stage) (mark : ViewMark) (lists : Lists) (built : IsBuilt stages source vs lists mark) where
  abbrev pub new_view : View
  new_view = record { name = name; source = source; stages = stages; mark = mark }

  pub is_added : IsAdded name source stages vs (vs ++ new_view ∷ [])
  is_added = record { view = new_view; form = refl; fresh = fresh_built stages source vs lists mark built; last = refl }

  module _ (sound : IsSoundRegistry vs) where
    pub sound_added : AreNamedApart (vs ++ new_view ∷ []) → is_read_by (map view_form vs) name || is_read stages source name ≡ false → IsSoundRegistry (vs ++ new_view ∷ [])
    sound_added apart unread =
        let both = or_parts (is_read_by (map view_form vs) name) (is_read stages source name) unread in
        sound_last vs new_view sound lists built apart both.0 both.1

    pub right_added : FromScratch → UnreadDoesNotMatter → (others : Lists) → AreAlike (names_read stages source) lists others → AreRight others vs → AreRight others (vs ++ new_view ∷ [])
    right_added scratch unread others alike right = right_last vs new_view sound lists built scratch unread others alike right

-- a refusal
module _ (T : Type 0) where
  pub refused_with : (fault : Option ViewFault) (f : ViewFault) → fault ≡ Some f → IsRefusedFor {T = T} fault (Err f)
  refused_with fault f is = subst (λ (o : Option ViewFault). IsRefusedFor {T = T} o (Err f)) (sym is) refl

  pub where_refused : (P : Type 0) (r : Result T ViewFault) → P → OnErr r P
  where_refused P (Ok done) holds = tt
  where_refused P (Err f) holds = holds
