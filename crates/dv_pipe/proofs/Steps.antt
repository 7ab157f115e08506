-- Rows through steps.
use Rattle.std.proofs.Common.{◌≡◌, ◌∙◌, ap, ap₂, sym, refl, List, [], ◌∷◌, ◌++◌, ℕ, zero, suc, Option, Some, None, length, append-nil, append_assoc, take, drop}
use Rattle.std.proofs.lemmas.List.{flat_map_more, map-append, take-append-drop}
use denote.Ref.{Bor}
use Rattle.dv_sort.specs.Sorting.{front}
use Rattle.dv_pipe.specs.declared.run.End.{End}
use Rattle.dv_pipe.specs.declared.stage.Stage.{Stage}
use Rattle.std.specs.List.{flat_map}
use Rattle.std.proofs.lemmas.Grind.{flat_map-append}
use Rattle.dv_pipe.specs.declared.step.Step.{Step}
use Rattle.dv_pipe.specs.Inner.Parts.{rows_of_step, passed, ended}
use Rattle.dv_pipe.specs.Sources.{Row, rows_referred}
use Rattle.dv_pipe.specs.Stages.{Lists, through}

module _ {X Y Z : Type 0} where
  one-by-one : (g : Y → List Z) (f : X → List Y) (xs : List X) → flat_map g (flat_map f xs) ≡ flat_map (λ x. flat_map g (f x)) xs
  one-by-one g f [] = refl
  one-by-one g f (x ∷ xs) = flat_map-append g (f x) (flat_map f xs) ∙ ap (λ l. flat_map g (f x) ++ l) (one-by-one g f xs)

same-each : {X Y : Type 0} (f g : X → List Y) → ((x : X) → f x ≡ g x) → (xs : List X) → flat_map f xs ≡ flat_map g xs
same-each f g same [] = refl
same-each f g same (x ∷ xs) = ap₂ (λ a b. a ++ b) (same x) (same-each f g same xs)

-- without steps rows stay as they are
pub through-none : (ds : List Row) → flat_map (passed []) ds ≡ ds
through-none [] = refl
through-none (d ∷ ds) = ap (λ l. d ∷ l) (through-none ds)

pub no-steps : (ss : List Step) (ds : List Row) → length ss ≡ 0 → flat_map (passed ss) ds ≡ ds
no-steps [] ds e = through-none ds
no-steps (s ∷ ss) ds e = absurd cc

passed-more : (ss : List Step) (s : Step) (d : Row) → passed (ss ++ s ∷ []) d ≡ flat_map (rows_of_step s) (passed ss d)
passed-more [] s d = through-none (rows_of_step s d) ∙ sym (append-nil (rows_of_step s d))
passed-more (t ∷ ss) s d =
    same-each (passed (ss ++ s ∷ [])) (λ e. flat_map (rows_of_step s) (passed ss e)) (passed-more ss s) (rows_of_step t d)
    ∙ sym (one-by-one (rows_of_step s) (passed ss) (rows_of_step t d))

-- one more step, after the others
pub through-more : (ss all : List Step) (s : Step) (ds : List Row) → all ≡ ss ++ s ∷ [] → flat_map (passed all) ds ≡ flat_map (rows_of_step s) (flat_map (passed ss) ds)
through-more ss all s ds is =
    ap (λ l. flat_map (passed l) ds) is
    ∙ same-each (passed (ss ++ s ∷ [])) (λ d. flat_map (rows_of_step s) (passed ss d)) (passed-more ss s) ds
    ∙ sym (one-by-one (rows_of_step s) (passed ss) ds)

-- ---- rows of which the first are wanted

take-behind : {X : Type 0} (n : ℕ) (xs ys : List X) → take n (take n xs ++ ys) ≡ take n (xs ++ ys)
take-behind zero xs ys = refl
take-behind (suc n) [] ys = refl
take-behind (suc n) (x ∷ xs) ys = ap (λ l. x ∷ l) (take-behind n xs ys)

front-behind : (most : Option ℕ) (xs zs ys : List Row) → front most xs ≡ front most zs → front most (xs ++ ys) ≡ front most (zs ++ ys)
front-behind None xs zs ys same = ap (λ l. l ++ ys) same
front-behind (Some n) xs zs ys same = sym (take-behind n xs ys) ∙ ap (λ l. take n (l ++ ys)) same ∙ take-behind n zs ys

module _ (ss : List Step) (most : Option ℕ) (before so-far : List Row) (ds : List Row) (is : front most so-far ≡ front most (before ++ flat_map (passed ss) ds)) where
  -- what the steps return for one more row
  pub front_more : (after more : List Row) (d : Row) → more ≡ ds ++ d ∷ [] → front most after ≡ front most (so-far ++ passed ss d) → front most after ≡ front most (before ++ flat_map (passed ss) more)
  front_more after more d one made =
      made ∙ front-behind most so-far (before ++ flat_map (passed ss) ds) (passed ss d) is ∙ ap (front most) (flat_map_more (passed ss) before ds d ∙ ap (λ l. before ++ flat_map (passed ss) l) (sym one))

  -- if no row after these is wanted
  pub front_full : (rest all : List Row) → ds ++ rest ≡ all → ((more : List Row) → front most (so-far ++ more) ≡ front most so-far) → front most so-far ≡ front most (before ++ flat_map (passed ss) all)
  front_full rest all parts full =
      let behind = flat_map (passed ss) rest in
      sym (full behind)
      ∙ front-behind most so-far (before ++ flat_map (passed ss) ds) behind is
      ∙ ap (front most) (append_assoc before (flat_map (passed ss) ds) behind ∙ ap (λ l. before ++ l) (sym (flat_map-append (passed ss) ds rest) ∙ ap (flat_map (passed ss)) parts))

-- documents up to one, and from it on
pub referred_parts : (documents : List (Bor Row)) (i : ℕ) → rows_referred (take i documents) ++ rows_referred (drop i documents) ≡ rows_referred documents
referred_parts documents i = sym (map-append (λ r. r.now) (take i documents) (drop i documents)) ∙ ap rows_referred (take-append-drop i documents)

-- ---- stages turned into steps one by one

module _ (source : List ℕ) (lists : Lists) (all stages later : List Stage) (s : Stage) (ss : List Step)
    (split : stages ≡ s ∷ later) (so-far : (rows : List Row) → through stages source lists (flat_map (passed ss) rows) ≡ through all source lists rows) where
  here : (rows : List Row) → through (s ∷ later) source lists (flat_map (passed ss) rows) ≡ through all source lists rows
  here rows = ap (λ l. through l source lists (flat_map (passed ss) rows)) (sym split) ∙ so-far rows

  pub step_more : (st : Step) (more : List Step) → more ≡ ss ++ st ∷ [] → ((rows : List Row) → through later source lists (flat_map (rows_of_step st) rows) ≡ through (s ∷ later) source lists rows)
      → (rows : List Row) → through later source lists (flat_map (passed more) rows) ≡ through all source lists rows
  step_more st more is part rows = ap (through later source lists) (through-more ss more st rows is) ∙ part (flat_map (passed ss) rows) ∙ here rows

  pub end_behind : (e : End) → ((rows : List Row) → through later source lists (ended e rows) ≡ through (s ∷ later) source lists rows)
      → (rows : List Row) → through later source lists (ended e (flat_map (passed ss) rows)) ≡ through all source lists rows
  end_behind e part rows = part (flat_map (passed ss) rows) ∙ here rows
