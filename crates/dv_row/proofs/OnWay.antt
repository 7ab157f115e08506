-- Ways through documents, one in another.
use Rattle.std.proofs.Common.{◌≡◌, ◌∙◌, ap, sym, refl, List, [], ◌∷◌, ◌++◌, ℕ, Option, Some, None, IsSome}
use Rattle.dv_value.specs.Names.{value_under}
use Rattle.dv_value.specs.Tree.{Tree, document, Field, fields_of, list_of_fields}
use Rattle.dv_value.specs.Inner.TreeLaws.{fields_again}
use Rattle.dv_candidates.specs.Candidates.{Candidate}
use Rattle.dv_row.specs.Inner.Crossings.{set_inward}
use Rattle.dv_row.specs.declared.way.Crossing.{Crossing}
use Rattle.dv_row.specs.Row.{Row}
use Rattle.dv_row.specs.Unwinding.{in_document, reached, set_under, changed_under, set_through}
use Rattle.dv_row.proofs.Unwound.{gone-through}

pub set-innermost : (cs : List Crossing) (c : Crossing) (v : Candidate) → set_inward (cs ++ c ∷ []) v ≡ set_inward cs (Some (document (fields_of (set_under c.component.now v c.document))))
set-innermost [] c v = refl
set-innermost (k ∷ cs) c v = ap (λ w. Some (document (fields_of (set_under k.component.now w k.document)))) (set-innermost cs c v)

-- what the rest of a path leads to from a candidate, and the result of setting a value there
abbrev reached_from : List (List ℕ) → Candidate → Candidate
reached_from [] c = c
reached_from (name ∷ names) c = in_document (reached (name ∷ names)) c

abbrev set_from : List (List ℕ) → Candidate → Candidate → Candidate
set_from [] v c = v
set_from (name ∷ names) v (Some (document fs)) = Some (document (fields_of (set_through (name ∷ names) v (list_of_fields fs))))
set_from (name ∷ names) v c = c

reached-first : (name : List ℕ) (rest : List (List ℕ)) (d : Row) → reached (name ∷ rest) d ≡ reached_from rest (value_under name d)
reached-first name [] d = refl
reached-first name (next ∷ names) d = refl

set-first : (name : List ℕ) (rest : List (List ℕ)) (d : Row) (w : Tree) → reached (name ∷ rest) d ≡ Some w → (v : Candidate) → set_through (name ∷ rest) v d ≡ set_under name (set_from rest v (value_under name d)) d
set-first name [] d w there v = refl
set-first name (next ∷ names) d w there v =
    let through = gone-through (reached (next ∷ names)) (value_under name d) w there in
    ap (λ c. changed_under name (set_through (next ∷ names) v) c d) through.1 ∙ ap (λ c. set_under name (set_from (next ∷ names) v c) d) (sym through.1)

-- a path leads through these documents, and on from what was found in the last of them
pub record IsOnWay (path : List (List ℕ)) (row : Row) (first : List ℕ) (inner : List Crossing) (rest : List (List ℕ)) (found : Candidate) : Type 0 where
  pub leads : reached path row ≡ reached_from rest found
  pub sets : (v : Candidate) → set_through path v row ≡ set_under first (set_inward inner (set_from rest v found)) row

pub some-of : {X : Type 0} (o : Option X) → IsSome o → (x : X) × (o ≡ Some x)
some-of None h = absurd cc
some-of (Some x) h = (x, refl)

module _ (path : List (List ℕ)) (row : Row) (w : Tree) (there : reached path row ≡ Some w) (first : List ℕ) where
  pub on-way_first : (rest : List (List ℕ)) (inner : List Crossing) → path ≡ first ∷ rest → inner ≡ [] → IsOnWay path row first inner rest (value_under first row)
  on-way_first rest inner is none = rw none (record {
    leads = ap (λ p. reached p row) is ∙ reached-first first rest row;
    sets = λ v. ap (λ p. set_through p v row) is ∙ set-first first rest row w (sym (ap (λ p. reached p row) is) ∙ there) v;
  })

  module _ (inner : List Crossing) (name : List ℕ) (rest : List (List ℕ)) (found : Candidate) (on_way : IsOnWay path row first inner (name ∷ rest) found) where
    pub never-none : ((look : List Field → Candidate) → in_document look found ≡ None) → ⊥
    never-none none = let no : None ≡ Some w = sym (none (reached (name ∷ rest))) ∙ sym on_way.leads ∙ there in cc

    pub on-way_next : (more : List Crossing) (c : Crossing) → more ≡ inner ++ c ∷ [] → found ≡ Some (document (fields_of c.document)) → c.component.now ≡ name → IsOnWay path row first more rest (value_under name c.document)
    on-way_next more c pushed is named = rw pushed (record {
      leads = on_way.leads ∙ from_here ∙ reached-first name rest d;
      sets = λ v.
          on_way.sets v
          ∙ ap (λ x. set_under first (set_inward inner x) row) (ap (set_from (name ∷ rest) v) is ∙ ap (λ e. Some (document (fields_of (set_through (name ∷ rest) v e)))) (fields_again d) ∙ ap (λ e. Some (document (fields_of e))) (set-first name rest d w (sym from_here ∙ sym on_way.leads ∙ there) v) ∙ ap (λ n. Some (document (fields_of (set_under n (set_from rest v (value_under name d)) d)))) (sym named))
          ∙ ap (λ x. set_under first x row) (sym (set-innermost inner c (set_from rest v (value_under name d))));
    })
      where
        d : Row
        d = c.document

        from_here : reached_from (name ∷ rest) found ≡ reached (name ∷ rest) d
        from_here = ap (in_document (reached (name ∷ rest))) is ∙ ap (reached (name ∷ rest)) (fields_again d)
