-- All views after changes.
use Rattle.std.proofs.Common.{◌≡◌, inl, inr, ◌||◌, ℕ, Bool, true, false, List, [], ◌∷◌, ◌++◌, map, Option, Some, None, is_some, refl, ap, sym, subst, ◌∙◌, arith}
use Rattle.std.specs.Bool.{if◌then◌else◌}
use Rattle.std.specs.List.{AllByRecursion, list_any}
use Rattle.std.specs.Option.{option_map}
use Rattle.std.proofs.lemmas.List.{map_push}
use Rattle.std.specs.Str.{bytes_eq}
use Rattle.std.proofs.lemmas.Slice.Eq.{bytes_eq-Decides}
use Rattle.dv_change.specs.declared.change.Change.{Change}
use Rattle.dv_change.specs.declared.taking.Taken as taking
use Rattle.dv_change.specs.Changes.{Positioned, at, with_change, with_changes}
use Rattle.dv_change.specs.Inner.Told.{change_told, changes_told, told_along, with_old}
use Rattle.dv_change.specs.Inner.ToldLaws.{changes-told}
use Rattle.dv_change.specs.Raised.{raised}
use Rattle.dv_coll.specs.Collection.{HasId}
use Rattle.dv_pipe.specs.Sources.{Row}
use Rattle.dv_pipe.specs.Stages.{Lists, evaluated}
use Rattle.dv_pipe.specs.declared.stage.Stage.{Stage}
use Rattle.dv_views.specs.Changed.{documents_changed, with_changed}
use Rattle.dv_views.specs.Inner.Changed.{AreMade, AreMadeInTurn, AreToldOf, IsMade}
use Rattle.dv_views.specs.Inner.Counted.{AreCounted, HasCountedShare}
use Rattle.dv_views.specs.Flow.{Arrival, Flow, Share, Told, all_together, arrivals, handed_by, is_reached, shares, shares_of, told_at, flow_told, flow_with_told, work_by}
use Rattle.dv_views.specs.Forms.{ViewForm, is_name_among, names_read, outs_of, with_places, with_rows}
use Rattle.dv_views.specs.Inner.Holding.{HasMade}
use Rattle.dv_views.specs.Placed.{ListPlaces, list_places, positioned}
use Rattle.dv_views.specs.Inner.Turned.{AreTakenBy, Come, HasTurned, HaveTaken, IsTakenBy, IsTurned, KeepsOn, Known, Telling, comes_to, coming_to, known_at, with_known}
use Rattle.dv_views.specs.Views.{Kept, Inputs, ViewMark, live, View, inputs_from}
use Rattle.dv_views.specs.Inner.Views.{AreKept, AreOverLive, AreRight, AreRightOver, IsRight, Views, distance, view_form, is_stale, no_distance, mark_ticks, with_distance}
use Rattle.dv_views.proofs.Agree.{Agrees, FromScratch}
use Rattle.dv_views.proofs.Made.{forgotten}
use Rattle.dv_views.proofs.CountedMore.{all_counted_more, counted_none}
use Rattle.dv_views.proofs.Coming.{Knows, all_come, all_there, told_is, told_of_along}
use Rattle.dv_views.proofs.Right.{UnreadDoesNotMatter, itself}
use Rattle.dv_views.proofs.Rolling.{raised_none}
use Rattle.dv_views.proofs.Scratch.{one_length}
use Rattle.dv_views.proofs.Unread.{lists_behind, no_arrivals, one_change, shares_more}
use Rattle.dv_views.proofs.Turns.{changed_parts, first-change, one-identified, one-own}
use Rattle.dv_views.proofs.OneBehind.{Leads, forms_after, next-agreed, next-leads, next-same, none_of, right-one}
use Rattle.dv_order.specs.Inner.KeyLaws.{EqualKeysAreOne}

-- ---- all views after the change

module _ (scratch : FromScratch) (unread : UnreadDoesNotMatter) where
  right-from : (known : Known) (distances : List ℕ → ℕ) (places others : ListPlaces) (lists rows : Lists) (before : Views) (after : List Telling) → ((name : List ℕ) → distances name ≡ 0 → Leads (known name) (places name) (others name))
      → ((name : List ℕ) → distances name ≡ 0 → Agrees (others name) (rows name)) → ((name : List ℕ) → known name ≡ None → rows name ≡ lists name) → AreRightOver places lists before → AreOverLive distances (map (λ t. t.view) after)
      → AreTakenBy known distances before after → AreRightOver others rows (map (λ t. t.view) after)
  right-from known distances places others lists rows [] [] leads agreed same right over taken = tt
  right-from known distances places others lists rows [] (w ∷ ws) leads agreed same right over taken = absurd taken
  right-from known distances places others lists rows (v ∷ vs) [] leads agreed same right over taken = absurd taken
  right-from known distances places others lists rows (v ∷ vs) (w ∷ ws) leads agreed same right over taken = (
    right-one scratch unread known distances places others lists rows leads agreed same v w taken.0 over.0 right.0,
    right-from (with_known v.name w.told known) (with_distance w.view distances) (with_places (view_form v) places) (with_places (view_form w.view) others) (with_rows (view_form v) lists) (with_rows (view_form w.view) rows) vs ws
        (next-leads scratch unread known distances places others lists rows leads agreed same v w taken.0 over.0 right.0) (next-agreed scratch unread known distances places others lists rows leads agreed same v w taken.0 over.0 right.0)
        (next-same scratch unread known distances places others lists rows leads agreed same v w taken.0 over.0 right.0) right.1 over.1 taken.1,
  )

-- ---- changes that a collection makes

pub own_changed : (namespace : List ℕ) (cs : List Change) (lists : Lists) → with_changed namespace cs lists namespace ≡ documents_changed cs (lists namespace)
own_changed namespace cs lists = ap (λ (b : Bool). if b then documents_changed cs (lists namespace) else lists namespace) (itself namespace)

pub none_changed : (namespace : List ℕ) (lists : Lists) (name : List ℕ) → lists name ≡ with_changed namespace [] lists name
none_changed namespace lists name = by (bytes_eq namespace name)
  where
    by : (b : Bool) → lists name ≡ (if b then documents_changed [] (lists name) else lists name)
    by true = sym (forgotten (lists name))
    by false = refl

first-same : (namespace : List ℕ) (cs : List Change) (all : List taking.Taken) (lists : Lists) (name : List ℕ) → known_at namespace all name ≡ None → with_changed namespace cs lists name ≡ lists name
first-same namespace cs all lists name none = by (bytes_eq namespace name) none
  where
    by : (b : Bool) → (if b then Some all else None) ≡ None → (if b then documents_changed cs (lists name) else lists name) ≡ lists name
    by true none = absurd cc
    by false none = refl

-- a change, with the document of a list that is at its position
abbrev pub told_of : List Row → Change → List taking.Taken
told_of documents c = told_along (positioned documents) (c ∷ [])

module _ (one : EqualKeysAreOne) (namespace : List ℕ) where
  first-leads : (c : Change) (lists : Lists) → AllByRecursion HasId (lists namespace) → IsMade c (lists namespace) → (name : List ℕ)
      → Leads (known_at namespace (told_of (lists namespace) c) name) (list_places lists name) (list_places (with_changed namespace (c ∷ []) lists) name)
  first-leads c lists all made name = by (bytes_eq namespace name) refl
    where
      by : (b : Bool) → bytes_eq namespace name ≡ b → Leads (if b then Some (told_of (lists namespace) c) else None) (positioned (lists name)) (positioned (if b then documents_changed (c ∷ []) (lists name) else lists name))
      by true is =
          let same : namespace ≡ name = (bytes_eq-Decides namespace name).0 is in
          let own = one-own one c (lists namespace) all made in
          let alone = changes-told (positioned (lists namespace)) (c ∷ []) in
          subst (λ (n : List ℕ). Leads (Some (told_of (lists namespace) c)) (positioned (lists n)) (positioned (documents_changed (c ∷ []) (lists n)))) same
          (told_of_along (positioned (lists namespace)) (c ∷ []), sym own ∙ ap (with_changes (positioned (lists namespace))) (sym alone))
      by false is = refl

  pub first_lists : (c : Change) (cs : List Change) (lists : Lists) → AllByRecursion HasId (lists namespace) → IsMade c (lists namespace) → (name : List ℕ) → with_changed namespace cs (with_changed namespace (c ∷ []) lists) name ≡ with_changed namespace (c ∷ cs) lists name
  first_lists c cs lists all made name = by (bytes_eq namespace name) refl
    where
      by : (b : Bool) → bytes_eq namespace name ≡ b → (if b then documents_changed cs (if b then documents_changed (c ∷ []) (lists name) else lists name) else (if b then documents_changed (c ∷ []) (lists name) else lists name)) ≡ (if b then documents_changed (c ∷ cs) (lists name) else lists name)
      by true is =
          let same : namespace ≡ name = (bytes_eq-Decides namespace name).0 is in
          sym (first-change one c cs (lists name) (subst (λ (n : List ℕ). AllByRecursion HasId (lists n)) same all) (subst (λ (n : List ℕ). IsMade c (lists n)) same made))
      by false is = refl

  -- after the first change the others are made, one after the other
  pub made_next : (c : Change) (cs : List Change) (lists : Lists) → AllByRecursion HasId (lists namespace) → AreMadeInTurn (c ∷ cs) (lists namespace)
      → AllByRecursion HasId (with_changed namespace (c ∷ []) lists namespace) × AreMadeInTurn cs (with_changed namespace (c ∷ []) lists namespace)
  made_next c cs lists all made =
      let own = own_changed namespace (c ∷ []) lists in
      (subst (AllByRecursion HasId) (sym own) (one-identified one c (lists namespace) all made.0), subst (AreMadeInTurn cs) (sym own) made.1)

-- one change, which views pass on
pub right_after : FromScratch → UnreadDoesNotMatter → EqualKeysAreOne → (namespace : List ℕ) (c : Change) (lists : Lists) (before after : Views) → AllByRecursion HasId (lists namespace) → IsMade c (lists namespace) → AreRight lists before → AreOverLive no_distance after
    → HaveTaken (known_at namespace (told_of (lists namespace) c)) before after → AreRight (with_changed namespace (c ∷ []) lists) after
right_after scratch unread one namespace c lists before after all made right over taken =
    let now = with_changed namespace (c ∷ []) lists in
    let told = told_of (lists namespace) c in
    subst (λ (vs : Views). AreRight now vs) taken.views
    (right-from scratch unread (known_at namespace told) no_distance (list_places lists) (list_places now) lists now before taken.tellings (λ name zero. first-leads one namespace c lists all made name)
    (λ name zero. (one_length (now name), forgotten (now name))) (first-same namespace (c ∷ []) told lists) right (subst (λ (vs : Views). AreOverLive no_distance vs) (sym taken.views) over) taken.taken)

-- ---- the work that it takes

told-where : (b : Bool) (changes : List Change) → is_some (if b then Some changes else None) ≡ b
told-where true changes = refl
told-where false changes = refl

stale-still : (come : List Come) (m n : ViewMark) (o : Option (List taking.Taken)) → IsTurned come m n o → is_stale m ≡ true → is_stale n ≡ true
stale-still come m n o (inl is) was = ap is_stale is
stale-still come m n o (inr t) was = absurd (let e : false ≡ true = sym (ap is_stale t.was) ∙ was in cc)

-- under each name there are changes in memory exactly if there are by definition, and under a live name these are the same
module _ (known : Known) (now : Told) (distances : List ℕ → ℕ) (places : ListPlaces) (lists : Lists) (told : (name : List ℕ) → is_some (known name) ≡ is_some (now name)) (knows : (name : List ℕ) → distances name ≡ 0 → Knows known now places name) where
  told-any : (names : List (List ℕ)) → list_any (λ name. is_some (known name)) names ≡ list_any (λ name. is_some (now name)) names
  told-any [] = refl
  told-any (name ∷ names) = λ i. told name i || told-any names i

  reached-alike : (stages : List Stage) (source : List ℕ) → comes_to stages source known ≡ is_reached stages source now
  reached-alike stages source = told-any (names_read stages source)

  module _ (stages : List Stage) (source : List ℕ) (m n : ViewMark) (o : Option (List taking.Taken)) (over : is_stale n ≡ false → (name : List ℕ) → is_name_among name (names_read stages source) ≡ true → distances name ≡ 0)
      (right : AreKept stages m (inputs_from stages source places) (evaluated stages source lists)) where
    abbrev all : List Arrival
    all = arrivals stages source now

    abbrev before : Inputs
    before = inputs_from stages source places

    was-made : (old : Kept) → m ≡ live old → HasMade stages old before
    was-made old is = (subst (λ (k : ViewMark). AreKept stages k before (evaluated stages source lists)) is right).0

    turned : (t : KeepsOn (coming_to stages source known) m n o) → HasTurned stages before all t.old [] t.new t.all
    turned t =
        t.turns stages before all (was-made t.old t.was) (all_there stages source now places)
        (all_come now places known stages source (λ name among. knows name (over (ap is_stale t.is) name among)))

    turned-ticks : IsTurned (coming_to stages source known) m n o → is_stale n ≡ false → mark_ticks n ≡ raised (mark_ticks m) (work_by stages all before)
    turned-ticks (inl is) has = absurd (let e : false ≡ true = sym has ∙ ap is_stale is in cc)
    turned-ticks (inr t) has = ap mark_ticks t.is ∙ (turned t).ticks ∙ ap (λ (k : ViewMark). raised (mark_ticks k) (work_by stages all before)) (sym t.was)

    turned-told : IsTurned (coming_to stages source known) m n o → distance n ≡ 0 → o ≡ Some (told_along (outs_of stages source places) (handed_by stages all before))
    turned-told (inl is) zero = absurd (let e : 1 ≡ 0 = sym (ap distance is) ∙ zero in omega arith)
    turned-told (inr t) zero = t.tells ∙ ap Some ((turned t).tells ∙ ap (λ (r : Positioned). told_along r (handed_by stages all before)) (was-made t.old t.was).made.made)

  module _ (v : View) (w : Telling) (taken : IsTakenBy known distances v w) (right : IsRight places lists v) where
    abbrev share : Share
    share = record { reached = is_reached v.stages v.source now; work = work_by v.stages (arrivals v.stages v.source now) (inputs_from v.stages v.source places) }

    abbrev tells : Option (List Change)
    tells = flow_told v.stages v.source (record { places = places; told = now })

    counted-one : HasCountedShare share v w.view
    counted-one = record {
      form = taken.form;
      unread = λ away. taken.unread (reached-alike v.stages v.source ∙ away);
      stale = stays (comes_to v.stages v.source known) refl;
      ticks = counts (comes_to v.stages v.source known) refl;
    }
      where
        stays : (b : Bool) → comes_to v.stages v.source known ≡ b → is_stale v.mark ≡ true → is_stale w.view.mark ≡ true
        stays true reached = stale-still (coming_to v.stages v.source known) v.mark w.view.mark w.told (taken.turned reached)
        stays false away = λ was. ap (λ (x : View). is_stale x.mark) (taken.unread away) ∙ was

        counts : (b : Bool) → comes_to v.stages v.source known ≡ b → is_stale w.view.mark ≡ false → mark_ticks w.view.mark ≡ raised (mark_ticks v.mark) share.work
        counts true reached = turned-ticks v.stages v.source v.mark w.view.mark w.told (taken.live reached) right (taken.turned reached)
        counts false away = λ has.
            ap (λ (x : View). mark_ticks x.mark) (taken.unread away)
            ∙ raised_none (mark_ticks v.mark)
            ∙ ap (λ (all : List Arrival). raised (mark_ticks v.mark) (work_by v.stages all (inputs_from v.stages v.source places))) (sym (no_arrivals v.stages v.source now (sym (reached-alike v.stages v.source) ∙ away)))

    own-known : is_some w.told ≡ is_some tells
    own-known = taken.tells ∙ reached-alike v.stages v.source ∙ sym (told-where (is_reached v.stages v.source now) (handed_by v.stages (arrivals v.stages v.source now) (inputs_from v.stages v.source places)))

    -- the changes that the view passes on
    abbrev own : Bool → Option (List taking.Taken)
    own b = option_map (told_along (outs_of v.stages v.source places)) (if b then Some (handed_by v.stages (arrivals v.stages v.source now) (inputs_from v.stages v.source places)) else None)

    own-told : distance w.view.mark ≡ 0 → w.told ≡ option_map (told_along (outs_of v.stages v.source places)) tells
    own-told zero = by (comes_to v.stages v.source known) refl
      where
        by : (b : Bool) → comes_to v.stages v.source known ≡ b → w.told ≡ own (is_reached v.stages v.source now)
        by true reached = turned-told v.stages v.source v.mark w.view.mark w.told (taken.live reached) right (taken.turned reached) zero ∙ ap own (sym reached ∙ reached-alike v.stages v.source)
        by false away = none_of w.told (taken.tells ∙ away) ∙ ap own (sym away ∙ reached-alike v.stages v.source)

    next-told : (name : List ℕ) → is_some (with_known v.name w.told known name) ≡ is_some (flow_with_told v.name tells now name)
    next-told name = by (bytes_eq name v.name)
      where
        by : (b : Bool) → is_some (if b then w.told else known name) ≡ is_some (if b then tells else now name)
        by true = own-known
        by false = told name

    next-knows : (name : List ℕ) → with_distance w.view distances name ≡ 0 → Knows (with_known v.name w.told known) (flow_with_told v.name tells now) (with_places (view_form v) places) name
    next-knows name zero = by (bytes_eq name v.name) (subst (λ (f : ViewForm). (if bytes_eq name f.name then distance w.view.mark else distances name) ≡ 0) taken.form zero)
      where
        by : (b : Bool) → (if b then distance w.view.mark else distances name) ≡ 0 → (if b then w.told else known name) ≡ option_map (told_along (if b then outs_of v.stages v.source places else places name)) (if b then tells else now name)
        by true zero = own-told zero
        by false zero = knows name zero

counted-from : (known : Known) (now : Told) (distances : List ℕ → ℕ) (places : ListPlaces) (lists : Lists) (before : Views) (after : List Telling) → ((name : List ℕ) → is_some (known name) ≡ is_some (now name))
    → ((name : List ℕ) → distances name ≡ 0 → Knows known now places name) → AreRightOver places lists before → AreTakenBy known distances before after
    → AreCounted (shares_of (record { places = places; told = now }) (map view_form before)) before (map (λ t. t.view) after)
counted-from known now distances places lists [] [] told knows right taken = tt
counted-from known now distances places lists [] (w ∷ ws) told knows right taken = absurd taken
counted-from known now distances places lists (v ∷ vs) [] told knows right taken = absurd taken
counted-from known now distances places lists (v ∷ vs) (w ∷ ws) told knows right taken = (
  counted-one known now distances places lists told knows v w taken.0 right.0,
  counted-from (with_known v.name w.told known) (flow_with_told v.name (tells known now distances places lists told knows v w taken.0 right.0) now) (with_distance w.view distances) (with_places (view_form v) places) (with_rows (view_form v) lists) vs ws
      (next-told known now distances places lists told knows v w taken.0 right.0) (next-knows known now distances places lists told knows v w taken.0 right.0) right.1 taken.1,
)

-- a change of the documents under a namespace, over lists
abbrev pub flow_of : List ℕ → Change → Lists → Flow
flow_of namespace c lists = record { places = list_places lists; told = told_at namespace (c ∷ []) }

first-told : (namespace : List ℕ) (c : Change) (all : List taking.Taken) (name : List ℕ) → is_some (known_at namespace all name) ≡ is_some (told_at namespace (c ∷ []) name)
first-told namespace c all name = by (bytes_eq namespace name)
  where
    by : (b : Bool) → is_some (if b then Some all else None) ≡ is_some (if b then Some (c ∷ []) else None)
    by true = refl
    by false = refl

first-knows : (namespace : List ℕ) (c : Change) (lists : Lists) (name : List ℕ) → Knows (known_at namespace (told_of (lists namespace) c)) (told_at namespace (c ∷ [])) (list_places lists) name
first-knows namespace c lists name = by (bytes_eq namespace name) refl
  where
    by : (b : Bool) → bytes_eq namespace name ≡ b → (if b then Some (told_of (lists namespace) c) else None) ≡ option_map (told_along (positioned (lists name))) (if b then Some (c ∷ []) else None)
    by true is = ap (λ (n : List ℕ). Some (told_of (lists n) c)) ((bytes_eq-Decides namespace name).0 is)
    by false is = refl

pub counted_after : (namespace : List ℕ) (c : Change) (lists : Lists) (before after : Views) → AreRight lists before → HaveTaken (known_at namespace (told_of (lists namespace) c)) before after
    → AreCounted (shares_of (flow_of namespace c lists) (map view_form before)) before after
counted_after namespace c lists before after right taken =
    let told = told_of (lists namespace) c in
    subst (λ (vs : Views). AreCounted (shares_of (flow_of namespace c lists) (map view_form before)) before vs) taken.views
    (counted-from (known_at namespace told) (told_at namespace (c ∷ [])) no_distance (list_places lists) lists before taken.tellings (first-told namespace c told) (λ name zero. first-knows namespace c lists name) right taken.taken)

-- ---- changes that views pass on, one after the other

-- views after changes that a collection made, if these were passed on as `AreTold` says
pub record HaveFollowed (namespace : List ℕ) (changes : List Change) (AreTold : List Row → Type 0) (before after : Views) : Type 0 where
  pub forms : map view_form after ≡ map view_form before
  pub right : (lists : Lists) → AreMade changes (lists namespace) → AreTold (lists namespace) → AreRight lists before → AreRight (with_changed namespace changes lists) after
  pub counted : (lists : Lists) → AreMade changes (lists namespace) → AreTold (lists namespace) → AreRight lists before → AreCounted (shares namespace changes lists (map view_form before)) before after

pub made_front : (cs : List Change) (c : Change) (ds : List Row) → AreMadeInTurn (cs ++ c ∷ []) ds → AreMadeInTurn cs ds
made_front [] c ds made = tt
made_front (x ∷ xs) c ds made = (made.0, made_front xs c (documents_changed (x ∷ []) ds) made.1)

pub made_last : EqualKeysAreOne → (cs : List Change) (c : Change) (ds : List Row) → AllByRecursion HasId ds → AreMadeInTurn (cs ++ c ∷ []) ds → AllByRecursion HasId (documents_changed cs ds) × IsMade c (documents_changed cs ds)
made_last one [] c ds all made = (subst (AllByRecursion HasId) (sym (forgotten ds)) all, subst (IsMade c) (sym (forgotten ds)) made.0)
made_last one (x ∷ xs) c ds all made =
    let rest = made_last one xs c (documents_changed (x ∷ []) ds) (one-identified one x ds all made.0) made.1 in
    let same = first-change one x xs ds all made.0 in
    (subst (AllByRecursion HasId) (sym same) rest.0, subst (IsMade c) (sym same) rest.1)

module _ (one : EqualKeysAreOne) (namespace : List ℕ) (lists : Lists) where
  lists-more : (cs : List Change) (c : Change) → AllByRecursion HasId (lists namespace) → AreMadeInTurn cs (lists namespace) → (name : List ℕ) → with_changed namespace (c ∷ []) (with_changed namespace cs lists) name ≡ with_changed namespace (cs ++ c ∷ []) lists name
  lists-more cs c all made name = by (bytes_eq namespace name) refl
    where
      by : (b : Bool) → bytes_eq namespace name ≡ b → (if b then documents_changed (c ∷ []) (if b then documents_changed cs (lists name) else lists name) else (if b then documents_changed cs (lists name) else lists name)) ≡ (if b then documents_changed (cs ++ c ∷ []) (lists name) else lists name)
      by true is =
          let same : namespace ≡ name = (bytes_eq-Decides namespace name).0 is in
          sym (changed_parts one cs (c ∷ []) (lists name) (subst (λ (n : List ℕ). AllByRecursion HasId (lists n)) same all) (subst (λ (n : List ℕ). AreMadeInTurn cs (lists n)) same made))
      by false is = refl

lists-behind : EqualKeysAreOne → (namespace : List ℕ) (cs : List Change) (lists : Lists) → AllByRecursion HasId (lists namespace) → AreMadeInTurn cs (lists namespace) → (name : List ℕ) → lists_behind namespace cs lists name ≡ with_changed namespace cs lists name
lists-behind one namespace [] lists all made name = none_changed namespace lists name
lists-behind one namespace (c ∷ cs) lists all made name =
    let next = made_next one namespace c cs lists all made in
    lists-behind one namespace cs (with_changed namespace (c ∷ []) lists) next.0 next.1 name ∙ first_lists one namespace c cs lists all made.0 name

shares-more : EqualKeysAreOne → (namespace : List ℕ) (cs : List Change) (c : Change) (lists : Lists) (views : List ViewForm) → AllByRecursion HasId (lists namespace) → AreMadeInTurn cs (lists namespace)
    → shares namespace (cs ++ c ∷ []) lists views ≡ all_together (shares namespace cs lists views) (shares_of (flow_of namespace c (with_changed namespace cs lists)) views)
shares-more one namespace cs c lists views all made =
    shares_more namespace cs c lists views
    ∙ (λ i. all_together (shares namespace cs lists views) (shares namespace (c ∷ []) (λ name. lists-behind one namespace cs lists all made name i) views))
    ∙ ap (all_together (shares namespace cs lists views)) (one_change namespace c (with_changed namespace cs lists) views)

pub follow_none : (namespace : List ℕ) (AreTold : List Row → Type 0) (vs : Views) → HaveFollowed namespace [] AreTold vs vs
unfolding shares
follow_none namespace AreTold vs = record {
  forms = refl;
  right = λ lists made told right. subst (λ (ls : Lists). AreRight ls vs) (λ i name. none_changed namespace lists name i) right;
  counted = λ lists made told right. counted_none vs;
}

-- one change more
pub follow_more : FromScratch → UnreadDoesNotMatter → EqualKeysAreOne → (namespace : List ℕ) (cs : List Change) (c : Change) (some all : List Row → Type 0) (before now after : Views) → HaveFollowed namespace cs some before now
    → ((documents : List Row) → all documents → some documents) → map view_form after ≡ map view_form now
    → ((documents : List Row) → AllByRecursion HasId documents → AreMadeInTurn cs documents → all documents → HaveTaken (known_at namespace (told_of (documents_changed cs documents) c)) now after)
    → AreOverLive no_distance after → HaveFollowed namespace (cs ++ c ∷ []) all before after
follow_more scratch unread one namespace cs c some all before now after first front forms taken over = record {
  forms = forms ∙ first.forms;
  right = λ lists made told right.
      let last = last-made lists made in
      subst (λ (ls : Lists). AreRight ls after) (λ i name. lists-more one namespace lists cs c made.identified (made_front cs c (lists namespace) made.in_turn) name i)
      (right_after scratch unread one namespace c (with_changed namespace cs lists) now after last.0 last.1 (first.right lists (front-made lists made) (front (lists namespace) told) right) over (last-taken lists made told));
  counted = λ lists made told right.
      subst (λ (all : List Share). AreCounted all before after) (sym (shares-more one namespace cs c lists (map view_form before) made.identified (made_front cs c (lists namespace) made.in_turn)))
      (all_counted_more (shares namespace cs lists (map view_form before)) (shares_of (flow_of namespace c (with_changed namespace cs lists)) (map view_form before)) before now after (first.counted lists (front-made lists made) (front (lists namespace) told) right)
      (subst (λ (forms : List ViewForm). AreCounted (shares_of (flow_of namespace c (with_changed namespace cs lists)) forms) now after) first.forms
      (counted_after namespace c (with_changed namespace cs lists) now after (first.right lists (front-made lists made) (front (lists namespace) told) right) (last-taken lists made told))));
}
  where
    front-made : (lists : Lists) → AreMade (cs ++ c ∷ []) (lists namespace) → AreMade cs (lists namespace)
    front-made lists made = record { ascending = made.ascending; identified = made.identified; in_turn = made_front cs c (lists namespace) made.in_turn }

    last-made : (lists : Lists) → AreMade (cs ++ c ∷ []) (lists namespace) → AllByRecursion HasId (with_changed namespace cs lists namespace) × IsMade c (with_changed namespace cs lists namespace)
    last-made lists made =
        let own = own_changed namespace cs lists in
        let last = made_last one cs c (lists namespace) made.identified made.in_turn in
        (subst (AllByRecursion HasId) (sym own) last.0, subst (IsMade c) (sym own) last.1)

    last-taken : (lists : Lists) → AreMade (cs ++ c ∷ []) (lists namespace) → all (lists namespace) → HaveTaken (known_at namespace (told_of (with_changed namespace cs lists namespace) c)) now after
    last-taken lists made told =
        subst (λ (documents : List Row). HaveTaken (known_at namespace (told_of documents c)) now after) (sym (own_changed namespace cs lists)) (taken (lists namespace) made.identified (made_front cs c (lists namespace) made.in_turn) told)

-- ---- changes that are passed on with the rows that were there before

abbrev pub AreToldIn : List taking.Taken → List Row → Type 0
AreToldIn all documents = AreToldOf (positioned documents) all

told-front : (rows : Positioned) (some : List taking.Taken) (t : taking.Taken) → AreToldOf rows (some ++ t ∷ []) → AreToldOf rows some
told-front rows [] t told = tt
told-front rows (u ∷ us) t told = (told.0, told-front (with_change rows (change_told u)) us t told.1)

told-last : (rows : Positioned) (some : List taking.Taken) (t : taking.Taken) → AreToldOf rows (some ++ t ∷ []) → t.old ≡ at t.pos (with_changes rows (changes_told some))
told-last rows [] t told = told.0
told-last rows (u ∷ us) t told = told-last (with_change rows (change_told u)) us t told.1

-- the rows after changes are at their own positions
all-own : EqualKeysAreOne → (cs : List Change) (ds : List Row) → AllByRecursion HasId ds → AreMadeInTurn cs ds → with_changes (positioned ds) cs ≡ positioned (documents_changed cs ds)
all-own one [] ds all made = ap positioned (sym (forgotten ds))
all-own one (c ∷ cs) ds all made =
    ap (λ (rows : Positioned). with_changes rows cs) (one-own one c ds all made.0)
    ∙ all-own one cs (documents_changed (c ∷ []) ds) (one-identified one c ds all made.0) made.1
    ∙ ap positioned (sym (first-change one c cs ds all made.0))

-- one more change that is passed on with the row that was there before
pub follow_told : FromScratch → UnreadDoesNotMatter → EqualKeysAreOne → (namespace : List ℕ) (some : List taking.Taken) (t : taking.Taken) (before now after : Views) → HaveFollowed namespace (changes_told some) (AreToldIn some) before now
    → HaveTaken (known_at namespace (t ∷ [])) now after → AreOverLive no_distance after → HaveFollowed namespace (changes_told (some ++ t ∷ [])) (AreToldIn (some ++ t ∷ [])) before after
follow_told scratch unread one namespace some t before now after first taken over =
    subst (λ (cs : List Change). HaveFollowed namespace cs (AreToldIn (some ++ t ∷ [])) before after) (sym (map_push change_told some t))
    (follow_more scratch unread one namespace (changes_told some) (change_told t) (AreToldIn some) (AreToldIn (some ++ t ∷ [])) before now after first (λ documents told. told-front (positioned documents) some t told) (forms_after (known_at namespace (t ∷ [])) now after taken)
    (λ documents all made told.
    let rows = all-own one (changes_told some) documents all made in
    let is : t ≡ with_old (positioned (documents_changed (changes_told some) documents)) (change_told t) = told_is (positioned (documents_changed (changes_told some) documents)) t (told-last (positioned documents) some t told ∙ ap (at t.pos) rows) in
    subst (λ (u : taking.Taken). HaveTaken (known_at namespace (u ∷ [])) now after) is taken)
    over)
