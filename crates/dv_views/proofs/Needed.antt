-- What is needed for some names.
use Rattle.std.proofs.Common.{◌≡◌, ◌||◌, ℕ, Bool, true, false, List, [], ◌∷◌, ◌++◌, refl, ap, sym, ◌∙◌}
use Rattle.std.specs.Bool.{if◌then◌else◌}
use Rattle.std.specs.List.{AllByRecursion}
use Rattle.std.specs.Str.{bytes_eq}
use Rattle.std.proofs.lemmas.List.Folds.{list_any-append}
use Rattle.dv_pipe.specs.Stages.{is_read}
use Rattle.dv_views.specs.Forms.{AreFounded, IsClosed, ViewForm, is_name_among, names_read, needed}
use Rattle.dv_views.proofs.Right.{itself, or-left, or-right, read_among}

-- ---- among names and others

among-append : (name : List ℕ) (names others : List (List ℕ)) → is_name_among name (names ++ others) ≡ (is_name_among name names || is_name_among name others)
among-append name names others = list_any-append (λ other. bytes_eq name other) names others

pub among_left : (name : List ℕ) (names others : List (List ℕ)) → is_name_among name names ≡ true → is_name_among name (names ++ others) ≡ true
among_left name names others is = among-append name names others ∙ or-left (is_name_among name names) (is_name_among name others) is

pub among_right : (name : List ℕ) (names others : List (List ℕ)) → is_name_among name others ≡ true → is_name_among name (names ++ others) ≡ true
among_right name names others is = among-append name names others ∙ or-right (is_name_among name names) (is_name_among name others) is

-- each of some names is among these names
abbrev pub AreAmong : List (List ℕ) → List (List ℕ) → Type 0
AreAmong names some = AllByRecursion (λ name. is_name_among name names ≡ true) some

all-moved : (some names others : List (List ℕ)) → ((name : List ℕ) → is_name_among name names ≡ true → is_name_among name others ≡ true) → AreAmong names some → AreAmong others some
all-moved [] names others move are = tt
all-moved (name ∷ some) names others move are = (move name are.0, all-moved some names others move are.1)

all-themselves : (names : List (List ℕ)) → AreAmong names names
all-themselves [] = tt
all-themselves (name ∷ names) =
    (or-left (bytes_eq name name) (is_name_among name names) (itself name), all-moved names names (name ∷ names) (λ other is. or-right (bytes_eq other name) (is_name_among other names) is) (all-themselves names))

-- ---- requested names

pub asked : (views : List ViewForm) (names : List (List ℕ)) (name : List ℕ) → is_name_among name names ≡ true → is_name_among name (needed views names) ≡ true
asked [] names name is = is
asked (v ∷ views) names name is = by (is_name_among v.name (needed views names)) (asked views names name is)
  where
    by : (b : Bool) → is_name_among name (needed views names) ≡ true → is_name_among name (if b then needed views names ++ names_read v.stages v.source else needed views names) ≡ true
    by true rest = among_left name (needed views names) (names_read v.stages v.source) rest
    by false rest = rest

pub none_needed : (views : List ViewForm) → needed views [] ≡ []
none_needed [] = refl
none_needed (v ∷ views) = ap (λ (names : List (List ℕ)). if is_name_among v.name names then names ++ names_read v.stages v.source else names) (none_needed views)

-- ---- what is needed is closed

-- names stay closed with more names that are no view's
closed-more : (vs : List ViewForm) (names others : List (List ℕ)) → AllByRecursion (λ (v : ViewForm). is_name_among v.name others ≡ false) vs → IsClosed names vs → IsClosed (names ++ others) vs
closed-more [] names others away are = tt
closed-more (v ∷ vs) names others away are = (
  λ is. all-moved (names_read v.stages v.source) names (names ++ others) (λ name. among_left name names others)
      (are.0 (left-alone (is_name_among v.name names) (is_name_among v.name others) away.0 (sym (among-append v.name names others) ∙ is))),
  closed-more vs names others away.1 are.1,
)
  where
    left-alone : (a b : Bool) → b ≡ false → a || b ≡ true → a ≡ true
    left-alone true b off is = refl
    left-alone false b off is = absurd cc

not-read : (v : ViewForm) (vs : List ViewForm) → AllByRecursion (λ (other : ViewForm). is_read v.stages v.source other.name ≡ false) vs → AllByRecursion (λ (other : ViewForm). is_name_among other.name (names_read v.stages v.source) ≡ false) vs
not-read v [] away = tt
not-read v (w ∷ ws) away = (sym (read_among v.stages v.source w.name) ∙ away.0, not-read v ws away.1)

pub closed : (views : List ViewForm) (names : List (List ℕ)) → AreFounded views → IsClosed (needed views names) views
closed [] names founded = tt
closed (v ∷ views) names founded = by (is_name_among v.name (needed views names)) refl (closed views names founded.1)
  where
    by : (b : Bool) → is_name_among v.name (needed views names) ≡ b → IsClosed (needed views names) views → IsClosed (if b then needed views names ++ names_read v.stages v.source else needed views names) (v ∷ views)
    by true has rest = (
      λ is. all-moved (names_read v.stages v.source) (names_read v.stages v.source) (needed views names ++ names_read v.stages v.source) (λ name. among_right name (needed views names) (names_read v.stages v.source)) (all-themselves (names_read v.stages v.source)),
      closed-more views (needed views names) (names_read v.stages v.source) (not-read v views founded.0.1) rest,
    )
    by false has rest = (λ is. absurd (cc (sym has ∙ is)), rest)

pub asked_needed : (views : List ViewForm) (names : List (List ℕ)) → AllByRecursion (λ name. is_name_among name (needed views names) ≡ true) names
asked_needed views names = all-moved names names (needed views names) (λ name. asked views names name) (all-themselves names)
