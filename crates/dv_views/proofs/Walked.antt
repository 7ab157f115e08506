-- A change is passed to all views that it reaches, and to no others.
use Rattle.std.proofs.Common.{◌≡◌, ◌≤◌, ◌<◌, ◌+◌, ◌||◌, inl, inr, ℕ, zero, suc, Bool, true, false, List, [], ◌∷◌, map, drop, get_or, length, Option, Some, None, is_some, slice_get, refl, ap, sym, subst, ◌∙◌, arith}
use Rattle.std.specs.Prelude.{◌==◌, ◌⊎◌, ⊤}
use Rattle.std.specs.Bool.{if◌then◌else◌}
use Rattle.std.specs.List.{AllByRecursion, list_any}
use Rattle.std.specs.Map.{values_of}
use Rattle.std.specs.Str.{bytes_eq}
use Rattle.std.specs.declared.string.String.{String}
use Rattle.std.proofs.lemmas.Bool.Decides.{nat_tests}
use Rattle.std.proofs.lemmas.List.{drop_all}
use Rattle.std.proofs.lemmas.Slice.Eq.{bytes_eq-Decides}
use Rattle.std.proofs.lemmas.Bool.{or_parts}
use Rattle.indexmap.specs.IndexMap.{set_value_at}
use Rattle.dv_change.specs.declared.taking.Taken as taking
use Rattle.dv_pipe.specs.Stages.{is_read}
use Rattle.dv_views.specs.Forms.{ViewForm, heights, is_name_among, names_read}
use Rattle.dv_views.specs.Inner.Body.{Body}
use Rattle.dv_views.specs.Inner.Handing.{AreSilentBut, IsHandedOn, is_place_among, silenced}
use Rattle.dv_views.specs.Inner.Older.{Entries, views}
use Rattle.dv_views.specs.Inner.Passing.{IsTakenAt}
use Rattle.dv_views.specs.Inner.Readers.{AreReaders, Listing, readers_from, readers_of, reads_any}
use Rattle.dv_views.specs.Inner.Seen.{AreSilent, AreSoundEntries, HaveHeights, entry_view, telling}
use Rattle.dv_views.specs.Inner.Turned.{HaveTaken, IsTakenBy, Known, comes_to, known_at, with_known}
use Rattle.dv_views.specs.Inner.Views.{AreNamedApart, Views, view_form, no_distance, with_distance}
use Rattle.dv_views.specs.Views.{View}
use Rattle.dv_views.proofs.Heights.{heights_written}
use Rattle.dv_views.proofs.Marked.{HaveFirst, all_taken, apart_written, length_views, length_written, taken_next}
use Rattle.dv_views.proofs.OneBehind.{forms_after, founded_after, none_of, over_after}
use Rattle.dv_views.proofs.Right.{itself, or-left, or-right, read_among}
use Rattle.dv_value.specs.Inner.ByteLaws.{bytes_eq-symmetric}

-- ---- a change reaches no view that reads none of the names that it reached

-- only these names have changes
abbrev pub AreToldAlone : List (List ℕ) → Known → Type 0
AreToldAlone names told = (name : List ℕ) → is_name_among name names ≡ false → told name ≡ None

none-among : (v : ViewForm) (names : List (List ℕ)) → reads_any names v ≡ false → (name : List ℕ) → is_read v.stages v.source name ≡ true → is_name_among name names ≡ false
none-among v [] away name read = refl
none-among v (n ∷ names) away name read =
    let both = or_parts (is_read v.stages v.source n) (reads_any names v) away in
    by (bytes_eq name n) refl both.0 (none-among v names both.1 name read)
  where
    by : (b : Bool) → bytes_eq name n ≡ b → is_read v.stages v.source n ≡ false → is_name_among name names ≡ false → b || is_name_among name names ≡ false
    by true is off rest = let no : true ≡ false = sym read ∙ ap (is_read v.stages v.source) ((bytes_eq-Decides name n).0 is) ∙ off in absurd cc
    by false is off rest = rest

none-told : (told : Known) (names : List (List ℕ)) → ((name : List ℕ) → is_name_among name names ≡ true → told name ≡ None) → list_any (λ name. is_some (told name)) names ≡ false
none-told told [] none = refl
none-told told (n ∷ names) none =
    let here = none n (or-left (bytes_eq n n) (is_name_among n names) (itself n)) in
    let rest = none-told told names (λ name among. none name (or-right (bytes_eq name n) (is_name_among name names) among)) in
    λ i. is_some (here i) || rest i

unreached : (names : List (List ℕ)) (told : Known) (v : ViewForm) → AreToldAlone names told → reads_any names v ≡ false → comes_to v.stages v.source told ≡ false
unreached names told v alone away = none-told told (names_read v.stages v.source) (λ name among. alone name (none-among v names away name (read_among v.stages v.source name ∙ among)))

told-first : (namespace : List ℕ) (all : List taking.Taken) → AreToldAlone (namespace ∷ []) (known_at namespace all)
told-first namespace all name off =
    let both = or_parts (bytes_eq name namespace) false off in
    let away : bytes_eq namespace name ≡ false = bytes_eq-symmetric namespace name ∙ both.0 in
    ap (λ (b : Bool). if b then Some all else None) away

told-unlisted : (names : List (List ℕ)) (told : Known) (name : List ℕ) (all : Option (List taking.Taken)) → all ≡ None → AreToldAlone names told → AreToldAlone names (with_known name all told)
told-unlisted names told name all none alone other off = by (bytes_eq other name)
  where
    by : (b : Bool) → (if b then all else told other) ≡ None
    by true = none
    by false = alone other off

told-listed : (names : List (List ℕ)) (told : Known) (name : List ℕ) (all : Option (List taking.Taken)) → AreToldAlone names told → AreToldAlone (name ∷ names) (with_known name all told)
told-listed names told name all alone other off =
    let both = or_parts (bytes_eq other name) (is_name_among other names) off in
    ap (λ (b : Bool). if b then all else told other) both.0 ∙ alone other both.1

-- ---- places of readers

-- ascending, and none below a given number
abbrev IsFrom : ℕ → List ℕ → Type 0
IsFrom k [] = ⊤
IsFrom k (p ∷ ps) = (k ≤ p) × IsFrom (suc p) ps

from-lower : (k m : ℕ) (ps : List ℕ) → k ≤ m → IsFrom m ps → IsFrom k ps
from-lower k m [] h from = tt
from-lower k m (p ∷ ps) h from = let first : m ≤ p = from.0 in (omega (arith, h, first), from.1)

readers-from : (names : List (List ℕ)) (k : ℕ) (vs : List ViewForm) → IsFrom k (readers_from names k vs)
readers-from names k [] = tt
readers-from names k (v ∷ vs) = by (reads_any names v) (λ others. readers-from others (suc k) vs)
  where
    by : (b : Bool) → ((others : List (List ℕ)) → IsFrom (suc k) (readers_from others (suc k) vs)) → IsFrom k (if b then k ∷ readers_from (v.name ∷ names) (suc k) vs else readers_from names (suc k) vs)
    by true rest = (omega arith, rest (v.name ∷ names))
    by false rest = from-lower k (suc k) (readers_from names (suc k) vs) (omega arith) (rest names)

readers-below : (end : ℕ) (names : List (List ℕ)) (k : ℕ) (vs : List ViewForm) → k + length vs ≤ end → AllByRecursion (λ p. p < end) (readers_from names k vs)
readers-below end names k [] h = tt
readers-below end names k (v ∷ vs) h = by (reads_any names v) (λ others. readers-below end others (suc k) vs far)
  where
    far : suc k + length vs ≤ end
    far = let more : k + suc (length vs) ≤ end = h in omega (arith, more)

    by : (b : Bool) → ((others : List (List ℕ)) → AllByRecursion (λ p. p < end) (readers_from others (suc k) vs)) → AllByRecursion (λ p. p < end) (if b then k ∷ readers_from (v.name ∷ names) (suc k) vs else readers_from names (suc k) vs)
    by true rest = (omega (arith, far), rest (v.name ∷ names))
    by false rest = rest names

-- the place that is next, or the end
abbrev pub next_of : ℕ → List ℕ → ℕ
next_of end [] = end
next_of end (p ∷ ps) = p

next-at : (end i p : ℕ) (ps : List ℕ) → slice_get ps i ≡ Some p → next_of end (drop i ps) ≡ p
next-at end i p [] there = absurd cc
next-at end zero p (q ∷ ps) there = let same : q ≡ p = cc in same
next-at end (suc i) p (q ∷ ps) there = next-at end i p ps there

pub there_place : (p d : ℕ) (ps : List ℕ) (i : ℕ) → i < length ps → p ≡ get_or ps i d → slice_get ps i ≡ Some p
there_place p d [] i h is = absurd (omega arith)
there_place p d (q ∷ ps) zero h is = ap (λ (r : ℕ). Some r) (sym is)
there_place p d (q ∷ ps) (suc i) h is = there_place p d ps i (omega arith) is

pub all_at : (P : ℕ → Type 0) (i p : ℕ) (ps : List ℕ) → AllByRecursion P ps → slice_get ps i ≡ Some p → P p
all_at P i p [] all there = absurd cc
all_at P zero p (q ∷ ps) all there = let same : q ≡ p = cc in subst P same all.0
all_at P (suc i) p (q ∷ ps) all there = all_at P i p ps all.1 there

-- a place is before a range or after it
abbrev IsOutside : ℕ → ℕ → ℕ → Type 0
IsOutside low high p = (p < low) ⊎ (high ≤ p)

all-behind : (low high k : ℕ) (ps : List ℕ) → high ≤ k → IsFrom k ps → AllByRecursion (IsOutside low high) ps
all-behind low high k [] h from = tt
all-behind low high k (p ∷ ps) h from = let first : k ≤ p = from.0 in (inr (omega (arith, h, first)), all-behind low high (suc p) ps (omega (arith, h, first)) from.1)

next-behind : (low end k : ℕ) (ps : List ℕ) → IsFrom k ps → AllByRecursion (IsOutside low (next_of end ps)) ps
next-behind low end k [] from = tt
next-behind low end k (p ∷ ps) from = (inr (omega arith), all-behind low p (suc p) ps (omega arith) from.1)

at-least : (k i p : ℕ) (ps : List ℕ) → IsFrom k ps → slice_get ps i ≡ Some p → k ≤ p
at-least k i p [] from there = absurd cc
at-least k zero p (q ∷ ps) from there = let same : q ≡ p = cc in let first : k ≤ q = from.0 in omega (arith, same, first)
at-least k (suc i) p (q ∷ ps) from there = let first : k ≤ q = from.0 in let rest : suc q ≤ p = at-least (suc q) i p ps from.1 there in omega (arith, first, rest)

-- between a place and the next one there is none
between : (end k i p : ℕ) (ps : List ℕ) → IsFrom k ps → slice_get ps i ≡ Some p → AllByRecursion (IsOutside (suc p) (next_of end (drop (suc i) ps))) ps
between end k i p [] from there = absurd cc
between end k zero p (q ∷ ps) from there = let same : q ≡ p = cc in (inl (omega (arith, same)), next-behind (suc p) end (suc q) ps from.1)
between end k (suc i) p (q ∷ ps) from there = let rest : suc q ≤ p = at-least (suc q) i p ps from.1 there in (inl (omega (arith, rest)), between end (suc q) i p ps from.1 there)

behind-at : (end k i p : ℕ) (ps : List ℕ) → IsFrom k ps → p < end → slice_get ps i ≡ Some p → suc p ≤ next_of end (drop (suc i) ps)
behind-at end k i p [] from h there = absurd cc
behind-at end k zero p (q ∷ []) from h there = omega (arith, h)
behind-at end k zero p (q ∷ r ∷ ps) from h there = let same : q ≡ p = cc in let rest : suc q ≤ r = from.1.0 in omega (arith, same, rest)
behind-at end k (suc i) p (q ∷ ps) from h there = behind-at end (suc q) i p ps from.1 h there

-- ---- views that a change doesn't reach

no-entries : {Y : Type 0} (es : Entries Y) → views es ≡ [] → es ≡ []
no-entries [] is = refl
no-entries (e ∷ es) is = absurd cc

module _ {Y : Type 0} where
  untouched : (come : Known) (distances : List ℕ → ℕ) (v : View) (e : String Y × Body) → entry_view e ≡ v → e.1.told ≡ None → comes_to v.stages v.source come ≡ false → IsTakenBy come distances v (telling e)
  untouched come distances v e same silent away = record {
    form = ap view_form same;
    tells = ap is_some silent ∙ sym away;
    unread = λ _. same;
    turned = λ reached. absurd (cc (sym away ∙ reached));
    live = λ reached. absurd (cc (sym away ∙ reached));
  }

  -- from the first n views to the next one that is listed
  skip : (low high n m k : ℕ) (names : List (List ℕ)) (come : Known) (distances : List ℕ → ℕ) (before : Views) (es : Entries Y) → AreToldAlone names come → low ≤ k + n → k + m ≤ high → n ≤ m
      → AllByRecursion (IsOutside low high) (readers_from names k (map view_form before)) → HaveFirst n come distances before es → HaveFirst m come distances before es
  skip low high zero zero k names come distances before es alone l h le outside first = first
  skip low high (suc n) zero k names come distances before es alone l h le outside first = absurd (omega (arith, le))
  skip low high zero (suc m) k names come distances [] es alone l h le outside first = no-entries es first.0
  skip low high zero (suc m) k names come distances (v ∷ before) [] alone l h le outside first = let same : views {Y = Y} [] ≡ v ∷ before = first.0 in absurd cc
  skip low high zero (suc m) k names come distances (v ∷ before) (e ∷ es) alone l h le outside first =
      by (reads_any names (view_form v)) refl outside
      (λ out. skip low high zero m (suc k) names (with_known v.name e.1.told come) (with_distance (entry_view e) distances) before es (told-unlisted names come v.name e.1.told first.1.0 alone) (let a : low ≤ k + 0 = l in omega (arith, a))
      (let a : k + suc m ≤ high = h in omega (arith, a)) (omega arith) out ((let all : views (e ∷ es) ≡ v ∷ before = first.0 in cc), first.1.1))
    where
      by : (b : Bool) → reads_any names (view_form v) ≡ b
          → AllByRecursion (IsOutside low high) (if b then k ∷ readers_from (v.name ∷ names) (suc k) (map view_form before) else readers_from names (suc k) (map view_form before))
          → (AllByRecursion (IsOutside low high) (readers_from names (suc k) (map view_form before)) → HaveFirst m (with_known v.name e.1.told come) (with_distance (entry_view e) distances) before es) → HaveFirst (suc m) come distances (v ∷ before) (e ∷ es)
      by true is out rest = absurd (no out.0)
        where
          no : IsOutside low high k → ⊥
          no (inl less) = let a : low ≤ k + 0 = l in omega (arith, a, less)
          no (inr more) = let a : k + suc m ≤ high = h in omega (arith, a, more)
      by false is out rest =
          let all : views (e ∷ es) ≡ v ∷ before = first.0 in
          let same : entry_view e ≡ v = cc in
          (untouched come distances v e same first.1.0 (unreached names come (view_form v) alone is), rest out)
  skip low high (suc n) (suc m) k names come distances [] es alone l h le outside first = first
  skip low high (suc n) (suc m) k names come distances (v ∷ before) [] alone l h le outside first = absurd first
  skip low high (suc n) (suc m) k names come distances (v ∷ before) (e ∷ es) alone l h le outside first = (
    first.0,
    by (reads_any names (view_form v)) refl outside
        (λ others known out. skip low high n m (suc k) others (with_known v.name e.1.told come) (with_distance (entry_view e) distances) before es known (let a : low ≤ k + suc n = l in omega (arith, a)) (let a : k + suc m ≤ high = h in omega (arith, a)) (omega (arith, le)) out first.1),
  )
    where
      by : (b : Bool) → reads_any names (view_form v) ≡ b
          → AllByRecursion (IsOutside low high) (if b then k ∷ readers_from (v.name ∷ names) (suc k) (map view_form before) else readers_from names (suc k) (map view_form before))
          → ((others : List (List ℕ)) → AreToldAlone others (with_known v.name e.1.told come) → AllByRecursion (IsOutside low high) (readers_from others (suc k) (map view_form before))
          → HaveFirst m (with_known v.name e.1.told come) (with_distance (entry_view e) distances) before es)
          → HaveFirst m (with_known v.name e.1.told come) (with_distance (entry_view e) distances) before es
      by true is out rest = rest (v.name ∷ names) (told-listed names come v.name e.1.told alone) out.1
      by false is out rest = rest names (told-unlisted names come v.name e.1.told (none_of e.1.told (first.0.tells ∙ unreached names come (view_form v) alone is)) alone) out

  -- views that aren't listed have no changes to pass on
  quiet : (ps : List ℕ) (k : ℕ) (names : List (List ℕ)) (come : Known) (distances : List ℕ → ℕ) (before : Views) (es : Entries Y) → AreToldAlone names come
      → ((p : ℕ) → is_place_among p (readers_from names k (map view_form before)) ≡ true → is_place_among p ps ≡ true) → HaveFirst (length before) come distances before es → AreSilentBut ps k es
  quiet ps k names come distances [] es alone among first = subst (AreSilentBut ps k) (sym (no-entries es first.0)) tt
  quiet ps k names come distances (v ∷ before) [] alone among first = absurd first
  quiet ps k names come distances (v ∷ before) (e ∷ es) alone among first =
      by (reads_any names (view_form v)) refl among (λ others known there. quiet ps (suc k) others (with_known v.name e.1.told come) (with_distance (entry_view e) distances) before es known there first.1)
    where
      by : (b : Bool) → reads_any names (view_form v) ≡ b
          → ((p : ℕ) → is_place_among p (if b then k ∷ readers_from (v.name ∷ names) (suc k) (map view_form before) else readers_from names (suc k) (map view_form before)) ≡ true → is_place_among p ps ≡ true)
          → ((others : List (List ℕ)) → AreToldAlone others (with_known v.name e.1.told come) → ((p : ℕ) → is_place_among p (readers_from others (suc k) (map view_form before)) ≡ true → is_place_among p ps ≡ true) → AreSilentBut ps (suc k) es)
          → AreSilentBut ps k (e ∷ es)
      by true is listed rest =
          let behind = readers_from (v.name ∷ names) (suc k) (map view_form before) in
          let here : (k == k) ≡ true = grind (arith, nat_tests) in
          let own : is_place_among k ps ≡ true = listed k (or-left (k == k) (is_place_among k behind) here) in
          (λ off. absurd (let no : true ≡ false = sym own ∙ off in cc), rest (v.name ∷ names) (told-listed names come v.name e.1.told alone) (λ p there. listed p (or-right (k == p) (is_place_among p behind) there)))
      by false is listed rest =
          let silent : e.1.told ≡ None = none_of e.1.told (first.0.tells ∙ unreached names come (view_form v) alone is) in
          (λ off. silent, rest names (told-unlisted names come v.name e.1.told silent alone) listed)

  -- ---- dropped changes

  silenced-same : (e : String Y × Body) → e.1.told ≡ None → silenced e ≡ e
  silenced-same e silent = ap (λ (t : Option (List taking.Taken)). (e.0, record e.1 { told = t })) (sym silent)

  pub all_silent : (k : ℕ) (es : Entries Y) → AreSilentBut [] k es → map silenced es ≡ es
  all_silent k [] silent = refl
  all_silent k (e ∷ es) silent = λ i. silenced-same e (silent.0 refl) i ∷ all_silent (suc k) es silent.1 i

  pub silenced_written : (n : ℕ) (es : Entries Y) (old new : Body) → slice_get (values_of es) n ≡ Some old → new ≡ record old { told = None } → map silenced (set_value_at es n new) ≡ map silenced es
  silenced_written n [] old new there is = refl
  silenced_written zero (e ∷ es) old new there is = let was : e.1 ≡ old = cc in λ i. (e.0, record ((is ∙ ap (λ (b : Body). record b { told = None }) (sym was)) i) { told = None }) ∷ map silenced es
  silenced_written (suc n) (e ∷ es) old new there is = ap (λ (fs : Entries Y). silenced e ∷ fs) (silenced_written n es old new there is)

  silent-behind : (p : ℕ) (ps : List ℕ) (k : ℕ) (es : Entries Y) → p < k → AreSilentBut (p ∷ ps) k es → AreSilentBut ps k es
  silent-behind p ps k [] h silent = tt
  silent-behind p ps k (e ∷ es) h silent = (
    λ off. silent.0 (ap (λ (b : Bool). b || is_place_among k ps) (let no : (p == k) ≡ false = grind (arith, nat_tests) in no) ∙ off),
    silent-behind p ps (suc k) es (omega (arith, h)) silent.1,
  )

  silent-at : (p : ℕ) (ps : List ℕ) (k n : ℕ) (es : Entries Y) (new : Body) → p ≡ k + n → new.told ≡ None → AreSilentBut (p ∷ ps) k es → AreSilentBut ps k (set_value_at es n new)
  silent-at p ps k n [] new is none silent = tt
  silent-at p ps k zero (e ∷ es) new is none silent = (λ off. none, silent-behind p ps (suc k) es (omega (arith, is)) silent.1)
  silent-at p ps k (suc n) (e ∷ es) new is none silent = (
    λ off. silent.0 (ap (λ (b : Bool). b || is_place_among k ps) (let no : (p == k) ≡ false = grind (arith, nat_tests, is) in no) ∙ off),
    silent-at p ps (suc k) n es new (omega (arith, is)) none silent.1,
  )

  -- the changes at the next place are dropped
  pub silent_next : (ps : List ℕ) (i p : ℕ) (es : Entries Y) (new : Body) → slice_get ps i ≡ Some p → new.told ≡ None → AreSilentBut (drop i ps) 0 es → AreSilentBut (drop (i + 1) ps) 0 (set_value_at es p new)
  silent_next ps i p es new there none silent =
      let more : suc i ≡ i + 1 = omega arith in
      subst (λ (n : ℕ). AreSilentBut (drop n ps) 0 (set_value_at es p new)) more
      (silent-at p (drop (suc i) ps) 0 p es new (omega arith) none (subst (λ (qs : List ℕ). AreSilentBut qs 0 es) (dropped ps i there) silent))
    where
      dropped : (ps : List ℕ) (i : ℕ) → slice_get ps i ≡ Some p → drop i ps ≡ p ∷ drop (suc i) ps
      dropped [] i there = absurd cc
      dropped (q ∷ ps) zero there = let same : q ≡ p = cc in ap (λ (r : ℕ). r ∷ ps) same
      dropped (q ∷ ps) (suc i) there = dropped ps i there

  views-silenced : (es : Entries Y) → views (map silenced es) ≡ views es
  views-silenced [] = refl
  views-silenced (e ∷ es) = ap (λ (vs : Views). entry_view e ∷ vs) (views-silenced es)

  heights-silenced : (high : List ℕ → ℕ) (es : Entries Y) → HaveHeights high es → HaveHeights high (map silenced es)
  heights-silenced high [] kept = tt
  heights-silenced high (e ∷ es) kept = (kept.0, heights-silenced high es kept.1)

  silent-silenced : (es : Entries Y) → AreSilent (map silenced es)
  silent-silenced [] = tt
  silent-silenced (e ∷ es) = (refl, silent-silenced es)

  -- ---- the walk over the places

  -- views of which those before the next place have taken in a change
  pub record HaveWalked (namespace : List ℕ) (all : List taking.Taken) (left : List ℕ) (before now : Entries Y) : Type 0 where
    pub taken : HaveFirst (next_of (length before) left) (known_at namespace all) no_distance (views before) now
    pub apart : AreNamedApart (views now)
    pub heights : (high : List ℕ → ℕ) → HaveHeights high before → HaveHeights high now
    pub count : length now ≡ length before

  module _ (namespace : List ℕ) (all : List taking.Taken) (places : List ℕ) (before : Entries Y) (are : places ≡ readers_of namespace (map view_form (views before))) where
    ascend : IsFrom 0 places
    ascend = subst (IsFrom 0) (sym are) (readers-from (namespace ∷ []) 0 (map view_form (views before)))

    pub walk_begins : AreNamedApart (views before) → AreSilent before → HaveWalked namespace all (drop 0 places) before before
    walk_begins apart silent =
        let end = next_of (length before) places in
        let first : HaveFirst 0 (known_at namespace all) no_distance (views before) before = (refl, silent) in
        record {
          taken =
              skip 0 end 0 end 0 (namespace ∷ []) (known_at namespace all) no_distance (views before) before (told-first namespace all) (omega arith) (omega arith) (omega arith)
              (subst (AllByRecursion (IsOutside 0 end)) are (next-behind 0 (length before) 0 places ascend)) first;
          apart = apart;
          heights = λ high kept. kept;
          count = refl;
        }

    pub places_below : AllByRecursion (λ p. p < length before) places
    places_below = subst (AllByRecursion (λ p. p < length before)) (sym are) (readers-below (length before) (namespace ∷ []) 0 (map view_form (views before)) (let many = length-forms before in omega (arith, many)))
      where
        length-forms : (es : Entries Y) → length (map view_form (views es)) ≡ length es
        length-forms [] = refl
        length-forms (e ∷ es) = ap suc (length-forms es)

    module _ (i p : ℕ) (now : Entries Y) (there : slice_get places i ≡ Some p) (walked : HaveWalked namespace all (drop i places) before now) where
      pub place_within : p < length now
      place_within = let less : p < length before = all_at (λ q. q < length before) i p places places_below there in let many = walked.count in omega (arith, less, many)

      pub walk_goes : (left : Entries Y) → IsTakenAt namespace all p now left → HaveWalked namespace all (drop (i + 1) places) before left
      walk_goes left at =
          let come = known_at namespace all in
          let more : suc i ≡ i + 1 = omega arith in
          let end = next_of (length before) (drop (suc i) places) in
          let here : HaveFirst p come no_distance (views before) now = subst (λ (n : ℕ). HaveFirst n come no_distance (views before) now) (next-at (length before) i p places there) walked.taken in
          let one : p + 1 ≡ suc p = omega arith in
          let next : HaveFirst (suc p) come no_distance (views before) left = subst (λ (n : ℕ). HaveFirst n come no_distance (views before) left) one (taken_next namespace all p (views before) now left here at) in
          let less : p < length before = all_at (λ q. q < length before) i p places places_below there in
          subst (λ (n : ℕ). HaveWalked namespace all (drop n places) before left) more (record {
            taken =
                skip (suc p) end (suc p) end 0 (namespace ∷ []) come no_distance (views before) left (told-first namespace all) (omega arith) (omega arith) (behind-at (length before) 0 i p places ascend less there)
                (subst (AllByRecursion (IsOutside (suc p) end)) are (between (length before) 0 i p places ascend there)) next;
            apart = apart_written p now left at.new at.left walked.apart;
            heights = λ high kept. subst (HaveHeights high) (sym at.left) (heights_written high p now at.old at.new at.there at.height (walked.heights high kept));
            count = ap length at.left ∙ length_written p now at.new ∙ walked.count;
          })

    module _ (i : ℕ) (now : Entries Y) (stop : length places ≤ i) (walked : HaveWalked namespace all (drop i places) before now) where
      whole : HaveFirst (length (views before)) (known_at namespace all) no_distance (views before) now
      whole =
          subst (λ (n : ℕ). HaveFirst n (known_at namespace all) no_distance (views before) now) (ap (next_of (length before)) (drop_all i places stop) ∙ sym (length_views before)) walked.taken

      pub walk_below : AllByRecursion (λ p. p < length now) places
      walk_below = subst (λ (n : ℕ). AllByRecursion (λ p. p < n) places) (sym walked.count) places_below

      pub walk_quiet : AreSilentBut places 0 now
      walk_quiet =
          quiet places 0 (namespace ∷ []) (known_at namespace all) no_distance (views before) now (told-first namespace all) (λ p there. ap (is_place_among p) are ∙ there) whole

      pub walk_ends : (after : Entries Y) → after ≡ map silenced now → IsHandedOn namespace all before after
      walk_ends after is = subst (IsHandedOn namespace all before) (sym is) (record {
        taken =
            subst (HaveTaken (known_at namespace all) (views before)) (sym (views-silenced now))
            (all_taken (known_at namespace all) (length (views before)) (length (views before)) (views before) now refl (omega arith) (omega arith) whole);
        apart = subst AreNamedApart (sym (views-silenced now)) walked.apart;
        heights = λ high kept. heights-silenced high now (walked.heights high kept);
        silent = silent-silenced now;
      })

-- what holds of views in memory holds after a change
pub sound_behind : {Y : Type 0} (namespace : List ℕ) (all : List taking.Taken) (before after : Entries Y) (listing : Listing) → AreSoundEntries before listing → IsHandedOn namespace all before after → AreSoundEntries after listing
sound_behind namespace all before after listing sound on =
    let come = known_at namespace all in
    let forms = forms_after come (views before) (views after) on.taken in
    record {
      views = record {
        apart = on.apart;
        live = over_after come (views before) (views after) sound.views.live on.taken;
        founded = founded_after come (views before) (views after) sound.views.founded on.taken;
      };
      heights = subst (λ (fs : List ViewForm). HaveHeights (heights fs) after) (sym forms) (on.heights (heights (map view_form (views before))) sound.heights);
      silent = on.silent;
      readers = subst (λ (fs : List ViewForm). AreReaders fs listing) (sym forms) sound.readers;
    }
