-- Views that are recomputed, and what they show.
use Rattle.std.proofs.Common.{◌≡◌, inl, inr, ◌||◌, ℕ, Bool, true, false, if◌then◌else◌, List, [], ◌∷◌, map, Option, Some, None, Result, Ok, Err, OnOk, OnErr, refl, sym, ap, subst, ◌∙◌}
use Rattle.std.proofs.lemmas.Slice.Eq.{bytes_eq-Decides}
use Rattle.std.specs.List.{list_any}
use Rattle.std.specs.Option.{option_and_then}
use Rattle.std.specs.Result.{IsErr}
use Rattle.std.specs.Str.{bytes_eq}
use Rattle.std.proofs.lemmas.Bool.{or_parts}
use Rattle.dv_value.specs.Tree.{Field}
use Rattle.dv_pipe.specs.Stages.{Lists}
use Rattle.dv_views.specs.Forms.{ViewForm, is_name_among, needed, rows_over}
use Rattle.dv_views.specs.Inner.Made.{AreAlike}
use Rattle.dv_views.specs.Views.{View}
use Rattle.dv_views.specs.Inner.Views.{AreNamedApart, ArePartlyRefreshed, AreRefreshed, AreRight, IsJustMade, IsPartlyRefreshed, Views, view_form, is_view_named, has_view, is_stale, kept_rows, rows_shown, view_under}
use Rattle.dv_views.specs.Views as views
use Rattle.dv_views.specs.Inner.Views as views_inner
use Rattle.dv_views.specs.Inner.FormLaws.{same_forms}
use Rattle.dv_catalog.specs.Inner.CatalogParts.{AreLive, mark_of, marked_of, marks_of, rows_kept, rows_or, state_of}
use Rattle.dv_catalog.specs.Marks.{ArePartlyNamed, ArePartlyRead, IsPartlyRead, Marked, Marks, live, mark_read, marks_named, marks_read, stale}
use Rattle.dv_catalog.specs.Inner.Parts.{Reads}
use Rattle.dv_catalog.specs.State.{Namespaces, State, documents_of, lists_of, rows_of}
use Rattle.dv_catalog.proofs.Keeping.{view_forms}

pub same_state : (namespaces : Namespaces) (before after : Views) → map view_form after ≡ map view_form before → state_of namespaces after ≡ state_of namespaces before
same_state namespaces before after forms = λ i. record { namespaces = namespaces; views = forms i }

-- ---- marks

pub fresh_mark : (m : views.ViewMark) → IsJustMade m → mark_of m ≡ live 0
fresh_mark (views.live kept) fresh = ap live fresh.ticks
fresh_mark views.stale fresh = absurd (cc (fresh.live))

stale_mark : (m : views.ViewMark) → is_stale m ≡ true → mark_of m ≡ stale
stale_mark (views.live kept) is = absurd cc
stale_mark views.stale is = refl

live_mark : (m : views.ViewMark) → is_stale m ≡ false → mark_read (mark_of m) ≡ mark_of m
live_mark (views.live kept) is = refl
live_mark views.stale is = absurd cc

stands_one : (v : View) (b : Bool) → (b ≡ true → is_stale v.mark ≡ false) → (if b then mark_read (mark_of v.mark) else mark_of v.mark) ≡ mark_of v.mark
stands_one v true live_now = live_mark v.mark (live_now refl)
stands_one v false live_now = refl

module _ (names : List (List ℕ)) where
  -- a view that was stale has its rows now
  made_mark : (v w : View) → views_inner.IsMadeAnew v w → mark_of w.mark ≡ mark_read (mark_of v.mark)
  made_mark v w made = fresh_mark w.mark made.fresh ∙ sym (ap mark_read (stale_mark v.mark made.stale))

  mark_one : (v w : View) → IsPartlyRefreshed names v w → (is_name_among w.name names ≡ true → is_stale w.mark ≡ false) → mark_of w.mark ≡ (if is_name_among v.name names then mark_read (mark_of v.mark) else mark_of v.mark)
  mark_one v w (inl same) live_now =
      ap (λ (u : View). mark_of u.mark) same ∙ sym (stands_one v (is_name_among v.name names) (subst (λ (u : View). is_name_among u.name names ≡ true → is_stale u.mark ≡ false) same live_now))
  mark_one v w (inr (named, made)) live_now = made_mark v w made ∙ ap (λ (b : Bool). if b then mark_read (mark_of v.mark) else mark_of v.mark) (sym named)

  pub refreshed_marks : (vs ws : Views) → ArePartlyRefreshed names vs ws → AreLive names ws → marks_of ws ≡ marks_named names (map view_form vs) (marks_of vs)
  refreshed_marks [] [] all live_now = refl
  refreshed_marks [] (w ∷ ws) all live_now = absurd all
  refreshed_marks (v ∷ vs) [] all live_now = absurd all
  refreshed_marks (v ∷ vs) (w ∷ ws) all live_now = λ i. mark_one v w all.0 live_now.0 i ∷ refreshed_marks vs ws all.1 live_now.1 i

  partly_one : (v w : View) → IsPartlyRefreshed names v w → IsPartlyRead (is_name_among v.name names) (mark_of v.mark) (mark_of w.mark)
  partly_one v w (inl same) = inl (ap (λ (u : View). mark_of u.mark) same)
  partly_one v w (inr (named, made)) = inr (named, made_mark v w made)

  pub partly_marks : (vs ws : Views) → ArePartlyRefreshed names vs ws → ArePartlyNamed names (map view_form vs) (marks_of vs) (marks_of ws)
  partly_marks [] [] all = refl
  partly_marks [] (w ∷ ws) all = absurd all
  partly_marks (v ∷ vs) [] all = absurd all
  partly_marks (v ∷ vs) (w ∷ ws) all = (partly_one v w all.0, partly_marks vs ws all.1)

  -- if none is recomputed
  pub unread_marks : (forms : List ViewForm) (marks : Marks) → ArePartlyNamed names forms marks marks
  unread_marks [] marks = refl
  unread_marks (v ∷ forms) [] = refl
  unread_marks (v ∷ forms) (mark ∷ marks) = (inl refl, unread_marks forms marks)

  -- if all are
  read_marks : (forms : List ViewForm) (marks : Marks) → ArePartlyNamed names forms marks (marks_named names forms marks)
  read_marks [] marks = refl
  read_marks (v ∷ forms) [] = refl
  read_marks (v ∷ forms) (mark ∷ marks) = (by_name (is_name_among v.name names), read_marks forms marks)
    where
      by_name : (b : Bool) → IsPartlyRead b mark (if b then mark_read mark else mark)
      by_name true = inr (refl, refl)
      by_name false = inl refl

  -- if none is stale
  live_marks : (vs : Views) → AreLive names vs → marks_named names (map view_form vs) (marks_of vs) ≡ marks_of vs
  live_marks [] all = refl
  live_marks (v ∷ vs) all = λ i. stands_one v (is_name_among v.name names) all.0 i ∷ live_marks vs all.1 i

  pub none_stale : (vs : Views) → list_any (λ v. is_stale v.mark) vs ≡ false → AreLive names vs
  none_stale [] none = tt
  none_stale (v ∷ vs) none = let both = or_parts (is_stale v.mark) (list_any (λ w. is_stale w.mark) vs) none in ((λ _. both.0), none_stale vs both.1)

  pub fewer_live : (others : List (List ℕ)) → ((name : List ℕ) → is_name_among name names ≡ true → is_name_among name others ≡ true) → (vs : Views) → AreLive others vs → AreLive names vs
  fewer_live others among [] all = tt
  fewer_live others among (v ∷ vs) all = ((λ named. all.0 (among v.name named)), fewer_live others among vs all.1)

-- ---- a read

abbrev pub AskedIsNeeded : Type 0
AskedIsNeeded = (forms : List ViewForm) (names : List (List ℕ)) (name : List ℕ) → is_name_among name names ≡ true → is_name_among name (needed forms names) ≡ true

module _ (names : List (List ℕ)) where
  module _ (namespaces : Namespaces) (vs : Views) where
    -- if no view that is needed is stale
    pub read_live : AreLive (needed (map view_form vs) names) vs → marked_of namespaces vs ≡ record (marked_of namespaces vs) { marks = marks_read names (map view_form vs) (marks_of vs) }
    read_live all = λ i. record { state = state_of namespaces vs; marks = sym (live_marks (needed (map view_form vs) names) vs all) i }

    -- if no view is stale
    pub read_none_stale : list_any (λ v. is_stale v.mark) vs ≡ false → marked_of namespaces vs ≡ record (marked_of namespaces vs) { marks = marks_read names (map view_form vs) (marks_of vs) }
    read_none_stale none = read_live (none_stale (needed (map view_form vs) names) vs none)

    pub live_needed : AskedIsNeeded → AreLive (needed (map view_form vs) names) vs → AreLive names vs
    live_needed law all = fewer_live names (needed (map view_form vs) names) (law (map view_form vs) names) vs all

    -- if memory runs out before any view is recomputed
    pub reads_nothing : {B E : Type 0} (result : Result B E) → IsErr result → Reads names (marked_of namespaces vs) result (marked_of namespaces vs)
    reads_nothing (Ok x) is = absurd cc
    reads_nothing (Err e) is = (refl, unread_marks (needed (map view_form vs) names) (map view_form vs) (marks_of vs))

    module _ (those : List (List ℕ)) (are : those ≡ needed (map view_form vs) names) (ws : Views) where
      pub reads_refreshed : {B E : Type 0} (result : Result B E) → OnOk result (AreRefreshed those vs ws) → OnErr result (ArePartlyRefreshed those vs ws) → Reads names (marked_of namespaces vs) result (marked_of namespaces ws)
      reads_refreshed (Ok x) ok err =
          let all : AreRefreshed (needed (map view_form vs) names) vs ws = subst (λ (ns : List (List ℕ)). AreRefreshed ns vs ws) are ok in
          λ i. record { state = same_state namespaces vs ws (same_forms those vs ws ok.0) i; marks = refreshed_marks (needed (map view_form vs) names) vs ws all.0 all.1 i }
      reads_refreshed (Err e) ok err =
          (same_state namespaces vs ws (same_forms those vs ws err), partly_marks (needed (map view_form vs) names) vs ws (subst (λ (ns : List (List ℕ)). ArePartlyRefreshed ns vs ws) are err))

      pub live_refreshed : {B E : Type 0} → AskedIsNeeded → (result : Result B E) → OnOk result (AreRefreshed those vs ws) → OnOk result (AreLive names ws)
      live_refreshed law (Ok x) ok = fewer_live names those (λ name among. subst (λ (ns : List (List ℕ)). is_name_among name ns ≡ true) (sym are) (law (map view_form vs) names name among)) ws ok.1
      live_refreshed law (Err e) ok = tt

  -- what follows the read changes nothing
  pub reads_on : {A B E : Type 0} (old new : Marked) (x : A) → Reads {E = E} names old (Ok x) new → (result : Result B E) → Reads names old result new
  reads_on old new x is (Ok y) = is
  reads_on old new x is (Err e) =
      (ap (λ (m : Marked). m.state) is, subst (λ (marks : Marks). ArePartlyRead names old.state.views old.marks marks) (sym (ap (λ (m : Marked). m.marks) is)) (read_marks (needed old.state.views names) old.state.views old.marks))

-- ---- the rows under a name

abbrev pub ShownIsRight : Type 0
ShownIsRight = (name : List ℕ) (lists : Lists) (vs : Views) (rows : List (List Field)) → AreNamedApart vs → AreRight lists vs → rows_shown name vs ≡ Some rows → rows ≡ rows_over (map view_form vs) lists name

abbrev pub UnnamedIsLeft : Type 0
UnnamedIsLeft = (name : List ℕ) (lists : Lists) (forms : List ViewForm) → list_any (λ v. bytes_eq name v.name) forms ≡ false → rows_over forms lists name ≡ lists name

live_is_shown : (m : views.ViewMark) → is_stale m ≡ false → kept_rows m ≡ None → ⊥
live_is_shown (views.live kept) is none = cc
live_is_shown views.stale is none = cc

pub none_shown : (name : List ℕ) (vs : Views) → AreLive (name ∷ []) vs → rows_shown name vs ≡ None → has_view name vs ≡ false
none_shown name [] all none = refl
none_shown name (v ∷ vs) all none = by_name (is_view_named name v) refl (none_shown name vs all.1) none
  where
    by_name : (b : Bool) → is_view_named name v ≡ b → (rows_shown name vs ≡ None → has_view name vs ≡ false) → option_and_then (λ (w : View). kept_rows w.mark) (if b then Some v else view_under name vs) ≡ None → b || has_view name vs ≡ false
    by_name true named rest none =
        let same : is_name_among v.name (name ∷ []) ≡ true = subst (λ (n : List ℕ). is_name_among n (name ∷ []) ≡ true) ((bytes_eq-Decides name v.name).0 named) (ap (λ (b : Bool). b || false) ((bytes_eq-Decides name name).1 refl)) in
        absurd (live_is_shown v.mark (all.0 same) none)
    by_name false named rest none = rest none

pub kept_is_right : ShownIsRight → UnnamedIsLeft → (name : List ℕ) (namespaces : Namespaces) (vs : Views) → AreNamedApart vs → AreRight (lists_of namespaces) vs → AreLive (name ∷ []) vs → rows_kept name namespaces vs ≡ rows_of name (state_of namespaces vs)
kept_is_right shown unnamed name namespaces vs apart right all = by_rows (rows_shown name vs) refl
  where
    by_rows : (there : Option (List (List Field))) → rows_shown name vs ≡ there → rows_or there (documents_of name namespaces) ≡ rows_of name (state_of namespaces vs)
    by_rows None is = sym (unnamed name (lists_of namespaces) (map view_form vs) (view_forms vs name ∙ none_shown name vs all is))
    by_rows (Some rows) is = shown name (lists_of namespaces) vs rows apart right is

-- the rows that are kept under names whose views are live
pub kept_alike : (names : List (List ℕ)) (lists : Lists) (namespaces : Namespaces) (vs : Views) (state : State) → ((name : List ℕ) → AreLive (name ∷ []) vs → rows_kept name namespaces vs ≡ rows_of name (state_of namespaces vs))
    → state_of namespaces vs ≡ state → AreLive names vs → AreAlike names lists (λ name. rows_kept name namespaces vs) → AreAlike names lists (λ name. rows_of name state)
kept_alike names lists namespaces vs state right is all alike = λ name among. alike name among ∙ right name (fewer_live (name ∷ []) names (λ n e. by_name n name e among) vs all) ∙ ap (rows_of name) is
  where
    first : (b : Bool) → b || false ≡ true → b ≡ true
    first true e = refl
    first false e = absurd cc

    by_name : (n name : List ℕ) → is_name_among n (name ∷ []) ≡ true → is_name_among name names ≡ true → is_name_among n names ≡ true
    by_name n name e among = subst (λ (m : List ℕ). is_name_among m names ≡ true) (sym ((bytes_eq-Decides n name).0 (first (bytes_eq n name) e))) among
