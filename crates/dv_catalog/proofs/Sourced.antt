-- The lists of names, one after the other.
use Rattle.std.proofs.Common.{◌≡◌, ◌⊎◌, inl, inr, ◌||◌, ℕ, Bool, true, false, if◌then◌else◌, List, [], ◌∷◌, ◌++◌, Option, Some, None, refl, sym, ap, subst, ◌∙◌}
use Rattle.std.proofs.lemmas.Slice.Eq.{bytes_eq-Decides}
use Rattle.std.specs.List.{AllByRecursion, list_any}
use Rattle.std.specs.Str.{bytes_eq}
use Rattle.dv_value.specs.Tree.{Field}
use Rattle.dv_pipe.specs.Sources.{Source, rows_under}
use Rattle.dv_pipe.specs.Sources as pipes
use Rattle.dv_pipe.specs.Stages.{Lists, evaluated, is_source_named, is_read, looked_into}
use Rattle.dv_pipe.specs.declared.stage.Stage.{Stage}
use Rattle.dv_views.specs.Forms.{is_name_among, names_read}
use Rattle.dv_views.specs.Inner.Made.{AreAlike}
use Rattle.dv_views.specs.Placed.{lookups_of, names_with}
use Rattle.dv_catalog.specs.Inner.SourceParts.{with_list, with_list_where}
use Rattle.dv_catalog.specs.State.{AreOrdered}
use Rattle.dv_value.specs.Inner.ByteLaws.{bytes_eq-symmetric}
use Rattle.dv_catalog.proofs.Keys.{none_ordered}

abbrev pub is_listed : List ℕ → List Source → Bool
is_listed name sources = list_any (λ s. bytes_eq name s.0) sources

module _ (name m : List ℕ) (rows : List (List Field)) where
  -- rows that are added under a name, if the name is listed already, and if it isn't
  rows_more : (sources : List Source) → rows_under name (sources ++ (m, rows) ∷ []) ≡ (if is_listed name sources then rows_under name sources else if bytes_eq name m then rows else [])
  rows_more [] = refl
  rows_more (s ∷ ss) = by_name (bytes_eq name s.0) (rows_more ss)
    where
      by_name : (b : Bool) → rows_under name (ss ++ (m, rows) ∷ []) ≡ (if is_listed name ss then rows_under name ss else if bytes_eq name m then rows else [])
          → (if b then s.1 else rows_under name (ss ++ (m, rows) ∷ [])) ≡ (if b || is_listed name ss then (if b then s.1 else rows_under name ss) else if bytes_eq name m then rows else [])
      by_name true rest = refl
      by_name false rest = rest

  listed_more : (sources : List Source) → is_listed name (sources ++ (m, rows) ∷ []) ≡ is_listed name sources || bytes_eq name m
  listed_more [] = by_name (bytes_eq name m)
    where
      by_name : (b : Bool) → b || false ≡ b
      by_name true = refl
      by_name false = refl
  listed_more (s ∷ ss) = by_name (bytes_eq name s.0) (listed_more ss)
    where
      by_name : (b : Bool) → is_listed name (ss ++ (m, rows) ∷ []) ≡ is_listed name ss || bytes_eq name m → b || is_listed name (ss ++ (m, rows) ∷ []) ≡ (b || is_listed name ss) || bytes_eq name m
      by_name true rest = refl
      by_name false rest = rest

none_listed : (name : List ℕ) (sources : List Source) → is_listed name sources ≡ false → rows_under name sources ≡ []
none_listed name [] none = refl
none_listed name (s ∷ ss) none = by_name (bytes_eq name s.0) (none_listed name ss) none
  where
    by_name : (b : Bool) → (is_listed name ss ≡ false → rows_under name ss ≡ []) → b || is_listed name ss ≡ false → (if b then s.1 else rows_under name ss) ≡ []
    by_name true rest none = absurd cc
    by_name false rest none = rest none

module _ (names : List (List ℕ)) (lists : Lists) where
  -- the lists so far, and the names that are still to be looked up
  pub record AreListed (sources : List Source) (rest : List (List ℕ)) : Type 0 where
    pub right : (name : List ℕ) → is_listed name sources ≡ true → rows_under name sources ≡ lists name
    pub all : (name : List ℕ) → is_name_among name names ≡ true → (is_listed name sources ≡ true) ⊎ (is_name_among name rest ≡ true)

  -- one name more
  module _ (sources : List Source) (m : List ℕ) (rest : List (List ℕ)) (listed : AreListed sources (m ∷ rest)) (rows : List (List Field)) (are : rows ≡ lists m) where
    abbrev more : List Source
    more = sources ++ (m, rows) ∷ []

    added_right : (name : List ℕ) (a b : Bool) → is_listed name sources ≡ a → bytes_eq name m ≡ b → a || b ≡ true → (if a then rows_under name sources else if b then rows else []) ≡ lists name
    added_right name true b there same is = listed.right name there
    added_right name false true there same is = are ∙ ap lists (sym ((bytes_eq-Decides name m).0 same))
    added_right name false false there same is = absurd cc

    added_all : (name : List ℕ) (b : Bool) → bytes_eq name m ≡ b → (is_listed name sources ≡ true) ⊎ (b || is_name_among name rest ≡ true) → (is_listed name sources || bytes_eq name m ≡ true) ⊎ (is_name_among name rest ≡ true)
    added_all name b same (inl there) = inl (ap (λ (x : Bool). x || bytes_eq name m) there)
    added_all name true same (inr is) = inl (either (is_listed name sources) (bytes_eq name m) same)
      where
        either : (x y : Bool) → y ≡ true → x || y ≡ true
        either true y is = refl
        either false y is = is
    added_all name false same (inr is) = inr is

    added : AreListed more rest
    added = record {
      right = λ name is. rows_more name m rows sources ∙ added_right name (is_listed name sources) (bytes_eq name m) refl refl (sym (listed_more name m rows sources) ∙ is);
      all = λ name among. by_side name (added_all name (bytes_eq name m) refl (listed.all name among));
    }
      where
        by_side : (name : List ℕ) → (is_listed name sources || bytes_eq name m ≡ true) ⊎ (is_name_among name rest ≡ true) → (is_listed name more ≡ true) ⊎ (is_name_among name rest ≡ true)
        by_side name (inl is) = inl (listed_more name m rows sources ∙ is)
        by_side name (inr is) = inr is

    -- the name has rows already
    there_all : (row : List Field) (others : List (List Field)) → rows_under m sources ≡ row ∷ others → AreListed sources rest
    there_all row others there = record {
      right = listed.right;
      all = λ name among. by_side name (bytes_eq name m) refl (listed.all name among);
    }
      where
        by_listed : (b : Bool) → is_listed m sources ≡ b → b ≡ true
        by_listed true is = refl
        by_listed false is = let none = none_listed m sources is in absurd (cc (none, there))

        by_side : (name : List ℕ) (b : Bool) → bytes_eq name m ≡ b → (is_listed name sources ≡ true) ⊎ (b || is_name_among name rest ≡ true) → (is_listed name sources ≡ true) ⊎ (is_name_among name rest ≡ true)
        by_side name b same (inl is) = inl is
        by_side name true same (inr is) = inl (subst (λ (n : List ℕ). is_listed n sources ≡ true) (sym ((bytes_eq-Decides name m).0 same)) (by_listed (is_listed m sources) refl))
        by_side name false same (inr is) = inr is

    pub next_listed : AreListed (with_list m rows sources) rest
    next_listed = by_rows (rows_under m sources) refl
      where
        by_rows : (there : List (List Field)) → rows_under m sources ≡ there → AreListed (with_list_where there m rows sources) rest
        by_rows [] is = added
        by_rows (row ∷ others) is = there_all row others is

  pub all_listed : (sources : List Source) → AreListed sources [] → AreAlike names (pipes.lists_of sources) lists
  all_listed sources listed = λ name among. by_side name (listed.all name among)
    where
      by_side : (name : List ℕ) → (is_listed name sources ≡ true) ⊎ (false ≡ true) → rows_under name sources ≡ lists name
      by_side name (inl is) = listed.right name is
      by_side name (inr is) = absurd cc

-- ---- lists in order

abbrev pub AreInOrder : List Source → Type 0
AreInOrder sources = AllByRecursion (λ s. AreOrdered s.1) sources

pub next_ordered : (m : List ℕ) (rows : List (List Field)) (sources : List Source) → AreInOrder sources → AreOrdered rows → AreInOrder (with_list m rows sources)
next_ordered m rows sources all one = by_rows (rows_under m sources)
  where
    behind : (ss : List Source) → AreInOrder ss → AreInOrder (ss ++ (m, rows) ∷ [])
    behind [] all = (one, tt)
    behind (s ∷ ss) all = (all.0, behind ss all.1)

    by_rows : (there : List (List Field)) → AreInOrder (with_list_where there m rows sources)
    by_rows [] = behind sources all
    by_rows (row ∷ others) = all

ordered_under : (name : List ℕ) (sources : List Source) → AreInOrder sources → AreOrdered (rows_under name sources)
ordered_under name [] all = none_ordered
ordered_under name (s ∷ ss) all = by_name (bytes_eq name s.0) (ordered_under name ss all.1)
  where
    by_name : (b : Bool) → AreOrdered (rows_under name ss) → AreOrdered (if b then s.1 else rows_under name ss)
    by_name true rest = all.0
    by_name false rest = rest

pub each_ordered : (names : List (List ℕ)) (sources : List Source) → AreInOrder sources → AllByRecursion (λ name. AreOrdered (pipes.lists_of sources name)) names
each_ordered [] sources all = tt
each_ordered (name ∷ names) sources all = (ordered_under name sources all, each_ordered names sources all)

-- ---- what a pipeline reads

abbrev pub Agreeing : Type 0
Agreeing = (stages : List Stage) (source : List ℕ) (lists others : Lists) → ((name : List ℕ) → is_read stages source name ≡ true → lists name ≡ others name) → evaluated stages source lists ≡ evaluated stages source others

module _ (source name : List ℕ) where
  pub looked_among : (stages : List Stage) → list_any (λ s. is_source_named name (looked_into s source)) stages ≡ is_name_among name (lookups_of stages source)
  looked_among [] = refl
  looked_among (s ∷ ss) = by_name (looked_into s source) (looked_among ss)
    where
      by_name : (looked : Option (List ℕ)) → list_any (λ t. is_source_named name (looked_into t source)) ss ≡ is_name_among name (lookups_of ss source) → is_source_named name looked || list_any (λ t. is_source_named name (looked_into t source)) ss ≡ is_name_among name (names_with looked (lookups_of ss source))
      by_name None rest = rest
      by_name (Some n) rest = ap (λ (b : Bool). bytes_eq name n || b) rest

  read_among : (stages : List Stage) → is_read stages source name ≡ is_name_among name (names_read stages source)
  read_among stages = λ i. bytes_eq-symmetric source name i || looked_among stages i

pub evaluated_alike : Agreeing → (stages : List Stage) (source : List ℕ) (lists others : Lists) → AreAlike (names_read stages source) lists others → evaluated stages source lists ≡ evaluated stages source others
evaluated_alike agree stages source lists others alike = agree stages source lists others (λ name read. alike name (sym (read_among source name stages) ∙ read))
