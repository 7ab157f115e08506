-- Arrays in memory of which an element is exchanged or added.
use Rattle.std.proofs.Common.{◌≡◌, ◌∙◌, ℕ, zero, suc, ◌+◌, ◌<◌, ◌≤◌, ◌||◌, nat_lt, nat_le, Bool, true, false, List, [], ◌∷◌, ◌++◌, length, map, Option, Some, None, slice_get, slice_set, Result, Ok, Err, refl, ap, sym, subst, arith, ◌⊎◌, inl, inr, if◌then◌else◌}
use Rattle.std.proofs.lemmas.Bool.Decides.{nat_tests}
use Rattle.std.proofs.lemmas.List.{length-map, map-append, length-append}
use Rattle.dv_value.specs.declared.value.Value.{Value}
use Rattle.dv_value.specs.Tree.{Tree, null}
use Rattle.dv_value.specs.View.{tree}
use Rattle.dv_value.specs.Results.{Gives}
use Rattle.dv_value.specs.Inner.ListLaws.{none-past}
use Rattle.dv_candidates.specs.declared.fault.PathFault.{PathFault}
use Rattle.dv_candidates.specs.declared.fault.PathFault.TheVariants.{IndexTooLarge, NoMemory}
use Rattle.dv_candidates.specs.Candidates.{Candidate}
use Rattle.dv_path.specs.Placing.{result_map, with_element, put_element}
use Rattle.dv_path.specs.Removing.{remove_element}
use Rattle.dv_path.specs.Inner.Fielded.{changed-missing}
use Rattle.dv_path.proofs.Placed.{element-taken}
use Rattle.dv_path.proofs.Exchanged.{null-before, element-last, element-twice, changed-there}
use Rattle.std.specs.Option.{unwrap_or}

pub map_set : (xs : List Value) (place : ℕ) (x : Value) → place < length xs → map tree (slice_set xs place x) ≡ with_element place (tree x) (map tree xs)
map_set [] place x h = absurd (omega arith)
map_set (y ∷ ys) zero x h = refl
map_set (y ∷ ys) (suc place) x h = ap (λ vs. tree y ∷ vs) (map_set ys place x (omega arith))

pub null-pushed : (place : ℕ) (v : Tree) (xs ys : List Value) (start : List Tree) → length xs < place → ys ≡ xs ++ Value.Null ∷ [] → with_element place v (map tree xs) ≡ start → (length ys ≤ place) × (with_element place v (map tree ys) ≡ start)
null-pushed place v xs ys start h pushed before =
    let longer : length ys ≡ length xs + 1 = ap length pushed ∙ length-append xs (Value.Null ∷ []) in
    (omega arith, ap (λ zs. with_element place v (map tree zs)) pushed ∙ ap (with_element place v) (map-append tree xs (Value.Null ∷ [])) ∙ null-before place v (map tree xs) (rw length-map h) ∙ before)

pub element-pushed : (place : ℕ) (x : Value) (xs ys : List Value) (start : List Tree) → length xs ≤ place → place ≤ length xs → ys ≡ xs ++ x ∷ [] → with_element place (tree x) (map tree xs) ≡ start → map tree ys ≡ start
element-pushed place x xs ys start h g pushed before =
    let same : length xs ≡ place = omega arith in
    ap (map tree) pushed ∙ map-append tree xs (x ∷ []) ∙ sym (element-last place (tree x) (map tree xs) (rw length-map same)) ∙ before

-- an element put in place of another
pub list-there : (inner : Candidate → Result Tree PathFault) (o : Option ℕ) (place : ℕ) (vs out back : List Tree) (w u : Tree) → Some place ≡ o → slice_get vs place ≡ Some w → out ≡ with_element place null vs → inner (Some w) ≡ Ok u → back ≡ with_element place u out → put_element inner o vs ≡ Ok back
list-there inner o place vs out back w u index there left put is =
    ap (λ i. put_element inner i vs) (sym index) ∙ element-taken inner place vs (Some w) w there refl (Ok u) put ∙ ap Ok (sym (is ∙ ap (with_element place u) left ∙ element-twice place null u vs))

beyond-case : (before : Bool) (inner : Candidate → Result Tree PathFault) (place : ℕ) (vs : List Tree) → nat_le place 100000 ≡ true → (if before || nat_le place 100000 then result_map (λ v. with_element place v vs) (inner (slice_get vs place)) else Err IndexTooLarge) ≡ result_map (λ v. with_element place v vs) (inner (slice_get vs place))
beyond-case true inner place vs h = refl
beyond-case false inner place vs h = rw h refl

le-test : (n m : ℕ) → n ≤ m → nat_le n m ≡ true
le-test n m h = grind (arith, nat_tests)

-- an element put beyond the end
pub list-new : (inner : Candidate → Result Tree PathFault) (o : Option ℕ) (place : ℕ) (vs back : List Tree) (u : Tree) → Some place ≡ o → length vs ≤ place → place ≤ 100000 → inner None ≡ Ok u → back ≡ with_element place u vs → put_element inner o vs ≡ Ok back
list-new inner o place vs back u index past within put is =
    ap (λ i. put_element inner i vs) (sym index) ∙ beyond-case (nat_lt place (length vs)) inner place vs (le-test place 100000 within) ∙ ap (λ c. result_map (λ v. with_element place v vs) (inner c)) (none-past vs place past) ∙ ap (result_map (λ v. with_element place v vs)) put ∙ ap Ok (sym is)

-- what is left of an element put in its place
pub remove-some : (left : Tree → Candidate) (o : Option ℕ) (place : ℕ) (vs out back : List Tree) (w u : Tree) → Some place ≡ o → slice_get vs place ≡ Some w → out ≡ with_element place null vs → Some u ≡ left w → back ≡ with_element place u out → back ≡ remove_element left o vs
remove-some left o place vs out back w u index there out-is some is =
    is ∙ ap (with_element place u) out-is ∙ element-twice place null u vs ∙ ap (λ c. with_element place (unwrap_or c null) vs) some ∙ sym (changed-there place (λ v. unwrap_or (left v) null) w vs there) ∙ ap (λ i. remove_element left i vs) index

pub remove-none : (left : Tree → Candidate) (o : Option ℕ) (place : ℕ) (vs out : List Tree) (w : Tree) → Some place ≡ o → slice_get vs place ≡ Some w → out ≡ with_element place null vs → None ≡ left w → out ≡ remove_element left o vs
remove-none left o place vs out w index there out-is none =
    out-is ∙ ap (λ c. with_element place (unwrap_or c null) vs) none ∙ sym (changed-there place (λ v. unwrap_or (left v) null) w vs there) ∙ ap (λ i. remove_element left i vs) index

pub remove-past : (left : Tree → Candidate) (o : Option ℕ) (place : ℕ) (vs : List Tree) → Some place ≡ o → length vs ≤ place → vs ≡ remove_element left o vs
remove-past left o place vs index past = sym (changed-missing place (λ v. unwrap_or (left v) null) vs (none-past vs place past)) ∙ ap (λ i. remove_element left i vs) index

refused-map : {X Y : Type 0} (f : X → Y) (e : PathFault) (r : Result X PathFault) (s : Result Y PathFault) → s ≡ result_map f r → (e ≡ NoMemory) ⊎ (r ≡ Err e) → (e ≡ NoMemory) ⊎ (s ≡ Err e)
refused-map f e r s is (inl memory) = inl memory
refused-map f e r s is (inr fault) = inr (is ∙ ap (result_map f) fault)

-- what is refused further inside is refused
pub gives-refused : {X Y Z : Type 0} (f : X → Y) (view : Z → Y) (made : Result Z PathFault) (e : PathFault) (r : Result X PathFault) (s : Result Y PathFault) → made ≡ Err e → s ≡ result_map f r → (e ≡ NoMemory) ⊎ (r ≡ Err e) → Gives NoMemory view made s
gives-refused {Z = Z} f view made e r s told is h =
    let P : Result Z PathFault → Type 0 = λ m. Gives NoMemory view m s in
    subst P (sym told) (refused-map f e r s is h)
