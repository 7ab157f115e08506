-- The value at a path in a document, component by component.
use Rattle.std.proofs.Common.{◌≡◌, ◌∙◌, ap, sym, subst, refl, List, [], ◌∷◌, ◌++◌, ℕ, ◌+◌, ◌<◌, ◌≤◌, length, drop, get_or, Option, Some, None, IfSome, option_and_then}
use Rattle.dv_value.specs.Tree.{Tree, Field, document, fields_of}
use Rattle.dv_value.specs.Names.{value_under, value_at}
use Rattle.dv_value.specs.View.{tree}
use Rattle.dv_value.specs.declared.value.Value.{Value}
use Rattle.dv_value.specs.Inner.TreeLaws.{fields_again}
use Rattle.dv_candidates.specs.Candidates.{Candidate}
use Rattle.dv_path.specs.Expression.{expression, expr}
use Rattle.dv_row.specs.Row.{Row}
use Rattle.dv_row.specs.Unwinding.{in_document, reached}
use Rattle.dv_row.proofs.Items.{drop-read, drop-past}
use Rattle.dv_row.proofs.Unwound.{reached-none, reached-more}

-- what is left of a path leads on from a document in the one from which the path starts
pub record IsLeft (path : List (List ℕ)) (d : Row) (rest : List (List ℕ)) (inner : Row) : Type 0 where
  pub expressed : expr d path ≡ expr inner rest
  pub reaches : reached path d ≡ reached rest inner

pub left-whole : (path rest : List (List ℕ)) (d : Row) → path ≡ rest → IsLeft path d rest d
left-whole path rest d is = record { expressed = ap (expr d) is; reaches = ap (λ p. reached p d) is }

-- a path does not lead through what is no document
not-through : (look : List Field → Candidate) (v : Value) → ((fs : List Field) → v ≡ Value.Doc fs → ⊥) → in_document look (Some (tree v)) ≡ None
not-through look (Value.Doc fs) plain = absurd (plain fs refl)
not-through look v plain = refl

module _ (path : List (List ℕ)) (d : Row) (name : List ℕ) (rest : List (List ℕ)) (inner : Row) (left : IsLeft path d (name ∷ rest) inner) where
  enters : (found : Candidate) → value_under name inner ≡ found → expr d path ≡ option_and_then (expression rest) found
  unfolding expr
  enters found is = left.expressed ∙ ap (λ fs. option_and_then (expression rest) (value_under name fs)) (fields_again inner) ∙ ap (option_and_then (expression rest)) is

  pub nothing-there : value_under name inner ≡ None → (None ≡ expr d path) × (None ≡ reached path d)
  nothing-there is = (sym (enters None is), sym (left.reaches ∙ reached-none name inner rest is))

  pub last-there : (found : Candidate) → rest ≡ [] → found ≡ value_under name inner → (found ≡ expr d path) × (found ≡ reached path d)
  last-there found none is =
      (itself found ∙ sym (enters found (sym is) ∙ ap (λ r. option_and_then (expression r) found) none), is ∙ sym (left.reaches ∙ ap (λ r. reached (name ∷ r) inner) none))
    where
      itself : (c : Candidate) → c ≡ option_and_then (expression []) c
      itself None = refl
      itself (Some v) = refl

  module _ (more : rest ≡ [] → ⊥) where
    pub goes-on : (next : Row) → value_under name inner ≡ Some (document (fields_of next)) → IsLeft path d rest next
    unfolding expr
    goes-on next is = record {
      expressed = enters (Some (document (fields_of next))) is;
      reaches = left.reaches ∙ reached-more name inner rest (Some (document (fields_of next))) more is ∙ ap (reached rest) (fields_again next);
    }

    module _ (v : Value) (is : value_under name inner ≡ Some (tree v)) (plain : (fs : List Field) → v ≡ Value.Doc fs → ⊥) where
      pub not-reached : None ≡ reached path d
      not-reached = sym (left.reaches ∙ reached-more name inner rest (Some (tree v)) more is ∙ not-through (reached rest) v plain)

      pub stops : ((vs : List Tree) → v ≡ Value.Array vs → ⊥) → None ≡ expr d path
      stops single = sym (enters (Some (tree v)) is ∙ go rest v more plain single)
        where
          go : (names : List (List ℕ)) (v : Value) → (names ≡ [] → ⊥) → ((fs : List Field) → v ≡ Value.Doc fs → ⊥) → ((vs : List Tree) → v ≡ Value.Array vs → ⊥) → expression names (tree v) ≡ None
          go [] v more plain single = absurd (more refl)
          go (n ∷ names) (Value.Doc fs) more plain single = absurd (plain fs refl)
          go (n ∷ names) (Value.Array vs) more plain single = absurd (single vs refl)
          go (n ∷ names) v more plain single = refl

-- a path of one name leads to what the document has there
pub alone-leads : (name : List ℕ) (d : Row) → value_under name d ≡ expr d (name ∷ [])
alone-leads name d = (last-there (name ∷ []) d name [] d (left-whole (name ∷ []) (name ∷ []) d refl) (value_under name d) refl refl).0

pub shown-at : (place : Option ℕ) (found leads : Candidate) (d : Row) → IfSome place (λ i. found ≡ Some (value_at i d)) → found ≡ leads → IfSome place (λ i. Some (value_at i d) ≡ leads)
shown-at None found leads d shown is = tt
shown-at (Some i) found leads d shown is = sym shown ∙ is

pub last-is_some : {X : Type 0} (xs : List X) (x : X) → xs ++ x ∷ [] ≡ [] → ⊥
last-is_some [] x e = cc
last-is_some (z ∷ xs) x e = cc

module _ (path way : List (List ℕ)) (d inner : Row) (last : List ℕ) (i : ℕ) (left : IsLeft path d (drop i way ++ last ∷ []) inner) where
  pub left-read : (name : List ℕ) → i < length way → name ≡ get_or way i name → IsLeft path d (name ∷ (drop (i + 1) way ++ last ∷ [])) inner
  left-read name within is = subst (λ names. IsLeft path d names inner) (ap (λ names. names ++ last ∷ []) (drop-read way i name within is)) left

  pub left-last : length way ≤ i → IsLeft path d (last ∷ []) inner
  left-last past = subst (λ names. IsLeft path d names inner) (ap (λ names. names ++ last ∷ []) (drop-past way i past)) left
