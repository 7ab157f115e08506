-- Views in memory, the first of which have taken in a change.
use Rattle.std.proofs.Common.{◌≡◌, ◌≤◌, ◌<◌, ◌+◌, ◌||◌, ◌++◌, drop, get_or, ℕ, zero, suc, Bool, true, false, List, [], ◌∷◌, map, take, fold, length, Option, Some, None, slice_get, refl, ap, sym, subst, ◌∙◌, arith, inl, inr}
use Rattle.std.specs.Prelude.{Result, Ok, Err, IfErr, IfOk}
use Rattle.std.specs.List.{AllByRecursion, IsDistinct, list_any}
use Rattle.std.specs.Map.{values_of}
use Rattle.std.specs.Str.{bytes_eq}
use Rattle.std.specs.String.{string_bytes}
use Rattle.indexmap.specs.IndexMap.{set_value_at}
use Rattle.dv_change.specs.declared.taking.Taken as taking
use Rattle.dv_change.specs.declared.told_rows.ToldRows.{ToldRows}
use Rattle.dv_views.specs.declared.stage_operator.StageOperator.{StageOperator}
use Rattle.dv_views.specs.Inner.Body.{Body}
use Rattle.dv_views.specs.Forms.{names_read}
use Rattle.dv_views.specs.Inner.Ground.{IsLive, IsLiveView}
use Rattle.dv_views.specs.Inner.Keeping.{kept_seen}
use Rattle.dv_views.specs.Inner.Older.{Entries, told_before, told_else, told_found, told_named, told_over, views, views_before}
use Rattle.dv_views.specs.Inner.Passing.{IsTakenAt}
use Rattle.dv_views.specs.Inner.Seen.{AreSilent, view_seen, entry_view, telling}
use Rattle.dv_views.specs.Inner.Turned.{AreTakenBy, HaveTaken, IsTakenBy, Known, Turns, comes_to, coming_to, coming_under, known_at, with_known}
use Rattle.dv_views.specs.Placed.{lookups_of}
use Rattle.dv_views.specs.Views.{ViewMark, View, live, stale}
use Rattle.dv_views.specs.Inner.Views.{AreNamedApart, Views, distance, distances_of, no_distance, view_under, with_distance}
use Rattle.dv_views.proofs.Before.{found_is_before}
use Rattle.dv_views.proofs.Joining.{each_among}
use Rattle.dv_views.proofs.Shown.{distance_at, distance_named}

-- ---- what is no view, or a live one

near : (m : ViewMark) → IsLive m → distance m ≡ 0
near (live k) is = refl
near stale is = absurd is

nearest : (o : Option View) → IsLiveView o → distance_named o ≡ 0
nearest None is = refl
nearest (Some v) is = near v.mark is

-- ---- any of several names, from one to the next

pub any_next : (p : List ℕ → Bool) (name : List ℕ) (names : List (List ℕ)) (i : ℕ) → i < length names → name ≡ get_or names i name → list_any p (drop i names) ≡ (p name || list_any p (drop (i + 1) names))
any_next p name names i h is = at names i h is ∙ (let more : suc i ≡ i + 1 = omega arith in ap (λ (n : ℕ). p name || list_any p (drop n names)) more)
  where
    at : (names : List (List ℕ)) (i : ℕ) → i < length names → name ≡ get_or names i name → list_any p (drop i names) ≡ (p name || list_any p (drop (suc i) names))
    at [] i h is = absurd (omega arith)
    at (n ∷ ns) zero h is = ap (λ (m : List ℕ). p m || list_any p ns) (sym is)
    at (n ∷ ns) (suc i) h is = at ns i (omega arith) is

pub there_at : (name : List ℕ) (names : List (List ℕ)) (i : ℕ) → i < length names → name ≡ get_or names i name → slice_get names i ≡ Some name
there_at name [] i h is = absurd (omega arith)
there_at name (n ∷ ns) zero h is = ap (λ (m : List ℕ). Some m) (sym is)
there_at name (n ∷ ns) (suc i) h is = there_at name ns i (omega arith) is

pub take_last : (names : List (List ℕ)) (i : ℕ) (name : List ℕ) → slice_get names i ≡ Some name → take (i + 1) names ≡ take i names ++ name ∷ []
take_last names i name there = (let more : i + 1 ≡ suc i = omega arith in ap (λ (n : ℕ). take n names) more) ∙ at names i there
  where
    at : (names : List (List ℕ)) (i : ℕ) → slice_get names i ≡ Some name → take (suc i) names ≡ take i names ++ name ∷ []
    at [] i there = absurd cc
    at (n ∷ ns) zero there = let same : n ≡ name = cc in ap (λ (m : List ℕ). m ∷ []) same
    at (n ∷ ns) (suc i) there = ap (λ (ms : List (List ℕ)). n ∷ ms) (at ns i there)

pub take_count : (names : List (List ℕ)) (i : ℕ) → i < length names → length (take i names) ≡ i
take_count names zero h = refl
take_count [] (suc i) h = let no : suc i < 0 = h in absurd (omega arith)
take_count (n ∷ ns) (suc i) h = let less : suc i < suc (length ns) = h in ap suc (take_count ns i (omega arith))

module _ {Y : Type 0} where
  -- ---- one after the other

  -- the first n views have taken in the change, and the others are unchanged and have no changes to pass on
  abbrev pub HaveFirst : ℕ → Known → (List ℕ → ℕ) → Views → Entries Y → Type 0
  HaveFirst zero come distances before es = (views es ≡ before) × AreSilent es
  HaveFirst (suc n) come distances [] es = es ≡ []
  HaveFirst (suc n) come distances (v ∷ before) [] = ⊥
  HaveFirst (suc n) come distances (v ∷ before) (e ∷ es) = IsTakenBy come distances v (telling e) × HaveFirst n (with_known v.name e.1.told come) (with_distance (entry_view e) distances) before es

  module _ (old new : Body) where
    next : (n : ℕ) (come : Known) (distances : List ℕ → ℕ) (before : Views) (es : Entries Y) → HaveFirst n come distances before es → slice_get (values_of es) n ≡ Some old
        → ((name : List ℕ) → IsTakenBy (told_over come (take n es)) (fold (λ below v. with_distance v below) distances (views (take n es))) (view_seen name old) (record { view = view_seen name new; told = new.told }))
        → HaveFirst (suc n) come distances before (set_value_at es n new)
    next zero come distances before [] first there taken = absurd cc
    next zero come distances [] (e ∷ es) first there taken = let same : views (e ∷ es) ≡ [] = first.0 in absurd cc
    next zero come distances (v ∷ before) (e ∷ es) first there taken =
        let was : e.1 ≡ old = cc in
        let all : views (e ∷ es) ≡ v ∷ before = first.0 in
        let same : entry_view e ≡ v = cc in
        let rest : views es ≡ before = cc in
        (subst (λ (u : View). IsTakenBy come distances u (record { view = view_seen (string_bytes e.0) new; told = new.told })) (ap (view_seen (string_bytes e.0)) (sym was) ∙ same) (taken (string_bytes e.0)), (rest, first.1.1))
    next (suc n) come distances [] es first there taken = absurd (none es first there)
      where
        none : (es : Entries Y) → es ≡ [] → slice_get (values_of es) (suc n) ≡ Some old → ⊥
        none [] is there = cc
        none (e ∷ es) is there = cc
    next (suc n) come distances (v ∷ before) [] first there taken = absurd first
    next (suc n) come distances (v ∷ before) (e ∷ es) first there taken =
        let called : string_bytes e.0 ≡ v.name = ap (λ f. f.name) first.0.form in (
          first.0,
          next n (with_known v.name e.1.told come) (with_distance (entry_view e) distances) before es first.1 there
              (subst
              (λ (name : List ℕ). (m : List ℕ) → IsTakenBy (told_over (with_known name e.1.told come) (take n es)) (fold (λ below v. with_distance v below) (with_distance (entry_view e) distances) (views (take n es))) (view_seen m old) (record { view = view_seen m new; told = new.told }))
              called taken),
        )

  pub taken_next : (namespace : List ℕ) (all : List taking.Taken) (n : ℕ) (before : Views) (es left : Entries Y) → HaveFirst n (known_at namespace all) no_distance before es → IsTakenAt namespace all n es left
      → HaveFirst (n + 1) (known_at namespace all) no_distance before left
  taken_next namespace all n before es left first at =
      let more : suc n ≡ n + 1 = omega arith in
      subst (λ (fs : Entries Y). HaveFirst (n + 1) (known_at namespace all) no_distance before fs) (sym at.left)
      (subst (λ (m : ℕ). HaveFirst m (known_at namespace all) no_distance before (set_value_at es n at.new)) more (next at.old at.new n (known_at namespace all) no_distance before es first at.there at.taken))

  all-taken : (come : Known) (distances : List ℕ → ℕ) (before : Views) (es : Entries Y) → HaveFirst (length before) come distances before es → AreTakenBy come distances before (map telling es)
  all-taken come distances [] es first = subst (λ (fs : Entries Y). AreTakenBy come distances [] (map telling fs)) (sym (none es first.0)) tt
    where
      none : (es : Entries Y) → views es ≡ [] → es ≡ []
      none [] is = refl
      none (e ∷ es) is = absurd cc
  all-taken come distances (v ∷ before) [] first = absurd first
  all-taken come distances (v ∷ before) (e ∷ es) first = (first.0, all-taken (with_known v.name e.1.told come) (with_distance (entry_view e) distances) before es first.1)

  told-views : (es : Entries Y) → map (λ t. t.view) (map telling es) ≡ views es
  told-views [] = refl
  told-views (e ∷ es) = ap (λ (vs : Views). entry_view e ∷ vs) (told-views es)

  pub all_taken : (come : Known) (n end : ℕ) (before : Views) (es : Entries Y) → length before ≡ end → n ≤ end → end ≤ n → HaveFirst n come no_distance before es → HaveTaken come before (views es)
  all_taken come n end before es all within stop first =
      let is : n ≡ length before = omega arith in
      record { tellings = map telling es; views = told-views es; taken = all-taken come no_distance before es (subst (λ (m : ℕ). HaveFirst m come no_distance before es) is first) }

  -- ---- entries written at a place

  pub take_written : (n : ℕ) (es : Entries Y) (b : Body) → take n (set_value_at es n b) ≡ take n es
  take_written zero es b = refl
  take_written (suc n) [] b = refl
  take_written (suc n) (e ∷ es) b = ap (λ (fs : Entries Y). e ∷ fs) (take_written n es b)

  pub length_written : (n : ℕ) (es : Entries Y) (b : Body) → length (set_value_at es n b) ≡ length es
  length_written n [] b = refl
  length_written zero (e ∷ es) b = refl
  length_written (suc n) (e ∷ es) b = ap suc (length_written n es b)

  pub written_twice : (n : ℕ) (es : Entries Y) (a b : Body) → set_value_at (set_value_at es n a) n b ≡ set_value_at es n b
  written_twice n [] a b = refl
  written_twice zero (e ∷ es) a b = refl
  written_twice (suc n) (e ∷ es) a b = ap (λ (fs : Entries Y). e ∷ fs) (written_twice n es a b)

  pub there_written : (n : ℕ) (es : Entries Y) (a old : Body) → slice_get (values_of es) n ≡ Some old → slice_get (values_of (set_value_at es n a)) n ≡ Some a
  there_written n [] a old there = absurd cc
  there_written zero (e ∷ es) a old there = refl
  there_written (suc n) (e ∷ es) a old there = there_written n es a old there

  -- the changes that are passed on are no part of a view
  pub views_silent : (n : ℕ) (es : Entries Y) (old new : Body) → slice_get (values_of es) n ≡ Some old → ((name : List ℕ) → view_seen name new ≡ view_seen name old) → views (set_value_at es n new) ≡ views es
  views_silent n [] old new there same = refl
  views_silent zero (e ∷ es) old new there same = let was : e.1 ≡ old = cc in ap (λ (v : View). v ∷ views es) (same (string_bytes e.0) ∙ ap (view_seen (string_bytes e.0)) (sym was))
  views_silent (suc n) (e ∷ es) old new there same = ap (λ (vs : Views). entry_view e ∷ vs) (views_silent n es old new there same)

  apart-take : (n : ℕ) (es : Entries Y) → AreNamedApart (views es) → AreNamedApart (views_before n es)
  unfolding IsDistinct
  apart-take zero es apart = tt
  apart-take (suc n) [] apart = tt
  apart-take (suc n) (e ∷ es) apart = (some n es apart.0, apart-take n es apart.1)
    where
      some : (n : ℕ) (fs : Entries Y) → AllByRecursion (λ m. bytes_eq (string_bytes e.0) m ≡ false) (map (λ (v : View). v.name) (views fs)) → AllByRecursion (λ m. bytes_eq (string_bytes e.0) m ≡ false) (map (λ (v : View). v.name) (views_before n fs))
      some zero fs all = tt
      some (suc n) [] all = tt
      some (suc n) (f ∷ fs) all = (all.0, some n fs all.1)

  names-written : (n : ℕ) (es : Entries Y) (b : Body) → map (λ (v : View). v.name) (views (set_value_at es n b)) ≡ map (λ (v : View). v.name) (views es)
  names-written n [] b = refl
  names-written zero (e ∷ es) b = refl
  names-written (suc n) (e ∷ es) b = ap (λ (ns : List (List ℕ)). string_bytes e.0 ∷ ns) (names-written n es b)

  pub apart_written : (n : ℕ) (es left : Entries Y) (b : Body) → left ≡ set_value_at es n b → AreNamedApart (views es) → AreNamedApart (views left)
  apart_written n es left b is apart = subst (λ (ns : List (List ℕ)). IsDistinct bytes_eq ns) (sym (ap (λ (fs : Entries Y). map (λ (v : View). v.name) (views fs)) is ∙ names-written n es b)) apart

  -- ---- the view at a place after a change

  module _ (namespace : List ℕ) (all : List taking.Taken) (n : ℕ) (es left : Entries Y) (old new : Body) (there : slice_get (values_of es) n ≡ Some old) (written : left ≡ set_value_at es n new) where
    abbrev come : Known
    come = told_before namespace all n es

    pub left_alone : comes_to old.stages old.source come ≡ false → new ≡ record old { told = None } → IsTakenAt namespace all n es left
    left_alone away is = record {
      old = old;
      new = new;
      there = there;
      left = written;
      taken = λ name. subst (λ (b : Body). IsTakenBy come (distances_of (views_before n es)) (view_seen name old) (record { view = view_seen name b; told = b.told })) (sym is) (record {
        form = refl;
        tells = sym away;
        unread = λ _. refl;
        turned = λ reached. absurd (cc (sym away ∙ reached));
        live = λ reached. absurd (cc (sym away ∙ reached));
      });
      height = ap (λ (b : Body). b.height) is;
    }

    pub made_stale : comes_to old.stages old.source come ≡ true → new ≡ record old { mark = stale; told = Some [] } → IsTakenAt namespace all n es left
    made_stale reached is = record {
      old = old;
      new = new;
      there = there;
      left = written;
      taken = λ name. subst (λ (b : Body). IsTakenBy come (distances_of (views_before n es)) (view_seen name old) (record { view = view_seen name b; told = b.told })) (sym is) (record {
        form = refl;
        tells = sym reached;
        unread = λ away. absurd (cc (sym away ∙ reached));
        turned = λ _. inl refl;
        live = λ _ fresh. absurd cc;
      });
      height = ap (λ (b : Body). b.height) is;
    }

    module _ (before after : ToldRows StageOperator) (told : List taking.Taken) (apart : AreNamedApart (views es)) (turns : Turns (coming_to old.stages old.source come) (kept_seen before) [] (kept_seen after) told)
        (lives : AllByRecursion (λ name. IsLiveView (view_under name (views_before n es))) (names_read old.stages old.source)) where
      pub turned_on : comes_to old.stages old.source come ≡ true → old.mark ≡ live (kept_seen before) → new ≡ record old { mark = live (kept_seen after); told = Some told } → IsTakenAt namespace all n es left
      turned_on reached was is = record {
        old = old;
        new = new;
        there = there;
        left = written;
        taken = λ name. subst (λ (b : Body). IsTakenBy come (distances_of (views_before n es)) (view_seen name old) (record { view = view_seen name b; told = b.told })) (sym is) (record {
          form = refl;
          tells = sym reached;
          unread = λ away. absurd (cc (sym away ∙ reached));
          turned = λ _. inr (record { old = kept_seen before; new = kept_seen after; all = told; was = was; is = refl; tells = refl; turns = turns });
          live = λ _ _ other among.
              distance_at other (views_before n es) (apart-take n es apart) ∙ nearest (view_under other (views_before n es)) (each_among (λ m. IsLiveView (view_under m (views_before n es))) (names_read old.stages old.source) other lives among);
        });
        height = ap (λ (b : Body). b.height) is;
      }

  -- the view that is read at a place is the one that was written there
  pub read_written : (n : ℕ) (es : Entries Y) (a old now : Body) → slice_get (values_of es) n ≡ Some old → slice_get (values_of (set_value_at es n a)) n ≡ Some now → now ≡ a
  read_written n es a old now there is = let both : Some now ≡ Some a = sym is ∙ there_written n es a old there in cc

  module _ (namespace : List ℕ) (all : List taking.Taken) (n : ℕ) (es : Entries Y) (apart : AreNamedApart (views es)) where
    found-is : told_found namespace all n es ≡ told_before namespace all n es
    found-is = found_is_before namespace all n es (apart-take n es apart)

    found-written : (a : Body) → told_found namespace all n (set_value_at es n a) ≡ told_before namespace all n es
    found-written a = (λ i name. told_else (told_named name (take_written n es a i)) (known_at namespace all name)) ∙ found-is

    module _ (old : Body) (there : slice_get (values_of es) n ≡ Some old) where
      pub alone_at : (new : Body) → false ≡ comes_to old.stages old.source (told_found namespace all n es) → new ≡ record old { told = None } → IsTakenAt namespace all n es (set_value_at es n new)
      alone_at new away is = left_alone namespace all n es (set_value_at es n new) old new there refl (sym (away ∙ ap (comes_to old.stages old.source) found-is)) is

      pub stale_at : (new : Body) → true ≡ comes_to old.stages old.source (told_found namespace all n es) → new ≡ record old { mark = stale; told = Some [] } → IsTakenAt namespace all n es (set_value_at es n new)
      stale_at new reached is = made_stale namespace all n es (set_value_at es n new) old new there refl (sym (reached ∙ ap (comes_to old.stages old.source) found-is)) is

      pub turned_at : (a b : Body) (before after : ToldRows StageOperator) (told : List taking.Taken) (source : List ℕ) (lookups : List (List ℕ)) → true ≡ comes_to old.stages old.source (told_found namespace all n es) → a ≡ record old { mark = stale; told = Some [] }
          → source ≡ a.source → lookups ≡ lookups_of a.stages a.source → old.mark ≡ live (kept_seen before) → Turns (coming_under source lookups (told_found namespace all n (set_value_at es n a))) (kept_seen before) [] (kept_seen after) told
          → AllByRecursion (λ name. IsLiveView (view_under name (views_before n (set_value_at es n a)))) (source ∷ lookups) → b ≡ record a { mark = live (kept_seen after); told = Some told }
          → IsTakenAt namespace all n es (set_value_at (set_value_at es n a) n b)
      turned_at a b before after told source lookups reached was same_source same_lookups kept turns lives is =
          let source_is : source ≡ old.source = same_source ∙ ap (λ (x : Body). x.source) was in
          let lookups_are : lookups ≡ lookups_of old.stages old.source = same_lookups ∙ ap (λ (x : Body). lookups_of x.stages x.source) was in
          let come = told_before namespace all n es in
          let turned : Turns (coming_to old.stages old.source come) (kept_seen before) [] (kept_seen after) told =
          subst (λ (ls : List (List ℕ)). Turns (coming_under old.source ls come) (kept_seen before) [] (kept_seen after) told) lookups_are
          (subst (λ (s : List ℕ). Turns (coming_under s lookups come) (kept_seen before) [] (kept_seen after) told) source_is
          (subst (λ (c : Known). Turns (coming_under source lookups c) (kept_seen before) [] (kept_seen after) told) (found-written a) turns)) in
          let live_ones : AllByRecursion (λ name. IsLiveView (view_under name (views_before n es))) (names_read old.stages old.source) =
          subst (λ (ls : List (List ℕ)). AllByRecursion (λ name. IsLiveView (view_under name (views_before n es))) (old.source ∷ ls)) lookups_are
          (subst (λ (s : List ℕ). AllByRecursion (λ name. IsLiveView (view_under name (views_before n es))) (s ∷ lookups)) source_is
          (subst (λ (fs : Entries Y). AllByRecursion (λ name. IsLiveView (view_under name (views fs))) (source ∷ lookups)) (take_written n es a) lives)) in
          turned_on namespace all n es (set_value_at (set_value_at es n a) n b) old b there (written_twice n es a b) before after told apart turned live_ones (sym (reached ∙ ap (comes_to old.stages old.source) found-is)) kept
          (is ∙ ap (λ (x : Body). record x { mark = live (kept_seen after); told = Some told }) was)

      left_at : (a b : Body) → true ≡ comes_to old.stages old.source (told_found namespace all n es) → a ≡ record old { mark = stale; told = Some [] } → b ≡ a → IsTakenAt namespace all n es (set_value_at (set_value_at es n a) n b)
      left_at a b reached was same =
          made_stale namespace all n es (set_value_at (set_value_at es n a) n b) old b there (written_twice n es a b) (sym (reached ∙ ap (comes_to old.stages old.source) found-is)) (same ∙ was)

      -- what the view keeps is put back if the result is `Ok`; otherwise the view stays stale
      pub settled_at : {P E : Type 0} (r : Result P E) (rows : P → ToldRows StageOperator) (told : P → List taking.Taken) (a b : Body) (before : ToldRows StageOperator) (source : List ℕ) (lookups : List (List ℕ)) → true ≡ comes_to old.stages old.source (told_found namespace all n es)
          → a ≡ record old { mark = stale; told = Some [] } → source ≡ a.source → lookups ≡ lookups_of a.stages a.source → old.mark ≡ live (kept_seen before)
          → IfOk r (λ p. Turns (coming_under source lookups (told_found namespace all n (set_value_at es n a))) (kept_seen before) [] (kept_seen (rows p)) (told p))
          → IfOk r (λ _. AllByRecursion (λ name. IsLiveView (view_under name (views_before n (set_value_at es n a)))) (source ∷ lookups)) → IfOk r (λ p. b ≡ record a { mark = live (kept_seen (rows p)); told = Some (told p) }) → IfErr r (λ _. b ≡ a)
          → IsTakenAt namespace all n es (set_value_at (set_value_at es n a) n b)
      settled_at (Ok p) rows told a b before source lookups reached was same_source same_lookups kept turns lives is same = turned_at a b before (rows p) (told p) source lookups reached was same_source same_lookups kept turns lives is
      settled_at (Err e) rows told a b before source lookups reached was same_source same_lookups kept turns lives is same = left_at a b reached was same

pub length_views : {Y : Type 0} (es : Entries Y) → length (views es) ≡ length es
length_views [] = refl
length_views (e ∷ es) = ap suc (length_views es)
