-- A candidate that is an array.
use Rattle.std.proofs.Common.{Bor, ◌≡◌, ◌∙◌, ◌∷◌, ap, ap₂, sym, map, Some, List}
use Rattle.dv_value.specs.declared.value.Value.{Value}
use Rattle.dv_value.specs.Tree.{Tree, array, elements_of}
use Rattle.dv_value.specs.View.{tree}
use Rattle.dv_value.specs.Inner.TreeLaws.{elements_again}
use Rattle.dv_candidates.specs.declared.candidate.Candidate as memory
use Rattle.dv_candidates.specs.declared.candidate.Candidate.TheVariants.{Found}
use Rattle.dv_candidates.specs.Candidates.{with_elements}
use Rattle.dv_candidates.specs.View.{seen}
use Rattle.dv_match.specs.Match.{has_size, elements_in}
use Rattle.std.specs.Prelude.{ℕ, length, ◌==◌}

module _ (c : memory.Candidate) (value : Bor Value) (at : c ≡ Found value) (l : List Tree) (is : value.now ≡ Value.Array l) where
  array-seen : seen c ≡ Some (array (elements_of l))
  array-seen = ap seen at ∙ ap (λ v. Some (tree v)) is

  pub array-elements : elements_in (seen c) ≡ l
  array-elements = ap elements_in array-seen ∙ elements_again l

  pub array-size : (n : ℕ) → has_size n (seen c) ≡ (length l == n)
  array-size n = ap (has_size n) array-seen ∙ ap (λ vs. length vs == n) (elements_again l)

  pub array-parts : with_elements (seen c) ≡ seen c ∷ map Some l
  array-parts = ap with_elements array-seen ∙ ap₂ (λ d vs. d ∷ map Some vs) (sym array-seen) (elements_again l)
