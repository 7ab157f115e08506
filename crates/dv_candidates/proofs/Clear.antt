-- Ways without an array, component by component.
use Rattle.std.proofs.Common.{◌≡◌, ◌∙◌, ℕ, suc, ◌+◌, ◌<◌, List, [], ◌∷◌, length, drop, get_or, Some, None, ap, sym, subst, arith, add-one}
use Rattle.std.proofs.Math.Seq.{drop-cons}
use Rattle.dv_value.specs.Names.{value_under}
use Rattle.dv_value.specs.Tree.{document, Field, fields_of}
use Rattle.dv_value.specs.Inner.TreeLaws.{fields_again}
use Rattle.dv_candidates.specs.Candidates.{Candidate}
use Rattle.dv_candidates.specs.Ways.{HasNoArray}

-- after a missing value there is no array
pub nothing-stands : (names : List (List ℕ)) → HasNoArray names None
nothing-stands [] = tt
nothing-stands (name ∷ names) = tt

pub clear-entered : (names : List (List ℕ)) (name : List ℕ) (fs : List Field) → HasNoArray (name ∷ names) (Some (document (fields_of fs))) → HasNoArray names (value_under name fs)
clear-entered names name fs clear = subst (λ gs. HasNoArray names (value_under name gs)) (fields_again fs) clear

pub clear-first : (names : List (List ℕ)) (name : List ℕ) (fs : List Field) → 0 < length names → name ≡ get_or names 0 name → HasNoArray names (Some (document (fields_of fs))) → HasNoArray (drop 1 names) (value_under name fs)
clear-first [] name fs some is clear = absurd (omega arith)
clear-first (n ∷ names) name fs some is clear = subst (λ m. HasNoArray names (value_under m fs)) (sym is) (clear-entered names n fs clear)

pub clear-more : (names : List (List ℕ)) (i : ℕ) (name : List ℕ) (c : Candidate) → i < length names → name ≡ get_or names i name → HasNoArray (drop i names) c → HasNoArray (name ∷ drop (i + 1) names) c
clear-more names i name c within is clear =
    let here : drop i names ≡ name ∷ drop (i + 1) names = rw add-one (drop-cons names i name within ∙ ap (λ n. n ∷ drop (suc i) names) (sym is)) in
    subst (λ ns. HasNoArray ns c) here clear
