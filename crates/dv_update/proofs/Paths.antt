-- The order of paths, and paths that begin others.
use Rattle.std.proofs.Common.{◌≡◌, ◌∙◌, ap, ap₂, sym, refl, List, [], ◌∷◌, take, ℕ, zero, suc, Bool, true, ◌&&◌}
use Rattle.std.specs.Cmp.{tied_itself}
use Rattle.std.specs.Cmp.Lexicographic.{slice_cmp}
use Rattle.std.specs.Ordering.{ordering_then, ordering_reverse, nat_cmp, bool_cmp}
use Rattle.std.specs.Str.{bytes_eq}
use Rattle.std.specs.declared.cmp.Ordering.{Ordering}
use Rattle.std.specs.declared.cmp.Ordering.TheVariants.{Less, Equal, Greater}
use Rattle.std.proofs.lemmas.Map.Lookups.{exact_bytes}
use Rattle.std.proofs.lemmas.Slice.Eq.{bytes_eq-Decides}
use Rattle.std.proofs.lemmas.Bool.{and_parts}
use Rattle.dv_update.specs.PathOrder.{is_name, number_of, component_order, path_order, begins}
use Rattle.dv_update.specs.Inner.PathOrderLaws.{component_order_total}

abbrev Path : Type 0
Path = List (List ℕ)

first-equal : (o p : Ordering) → ordering_then o p ≡ Equal → o ≡ Equal
first-equal Less p e = cc
first-equal Equal p e = refl
first-equal Greater p e = cc

second-equal : (o p : Ordering) → ordering_then o p ≡ Equal → p ≡ Equal
second-equal Less p e = cc
second-equal Equal p e = e
second-equal Greater p e = cc

pub component-exact : (a b : List ℕ) → component_order a b ≡ Equal → a ≡ b
component-exact a b e =
    let numbers = nat_cmp (number_of a) (number_of b) in
    let bytes = slice_cmp nat_cmp a b in
    exact_bytes a b (second-equal numbers bytes (second-equal (bool_cmp (is_name a) (is_name b)) (ordering_then numbers bytes) e))

-- paths that are equal in the order are the same
pub path-exact : (p q : Path) → path_order p q ≡ Equal → p ≡ q
path-exact [] [] e = refl
path-exact [] (b ∷ q) e = cc
path-exact (a ∷ p) [] e = cc
path-exact (a ∷ p) (b ∷ q) e =
    ap₂ (λ (c : List ℕ) (r : Path). c ∷ r) (component-exact a b (first-equal (component_order a b) (path_order p q) e)) (path-exact p q (second-equal (component_order a b) (path_order p q) e))

pub begins-itself : (p : Path) → begins p p ≡ true
begins-itself [] = refl
begins-itself (a ∷ p) = ap₂ (λ b c. b && c) ((bytes_eq-Decides a a).1 refl) (begins-itself p)

same-component : (a b : List ℕ) (p q : Path) → begins (a ∷ p) (b ∷ q) ≡ true → a ≡ b
same-component a b p q e = (bytes_eq-Decides a b).0 (and_parts (bytes_eq a b) (begins p q) e).0

not-less : (o : Ordering) → o ≡ Equal → (p : Ordering) → ordering_then o p ≡ p
not-less o e p = ap (λ r. ordering_then r p) e

-- what begins a path doesn't come after it
pub begins-first : (p q : Path) → begins p q ≡ true → path_order q p ≡ Less → ⊥
begins-first [] [] e l = cc
begins-first [] (b ∷ q) e l = cc
begins-first (a ∷ p) [] e l = cc
begins-first (a ∷ p) (b ∷ q) e l =
    let same : component_order b a ≡ Equal = ap (component_order b) (same-component a b p q e) ∙ tied_itself component_order_total b in
    begins-first p q (and_parts (bytes_eq a b) (begins p q) e).1 (sym (not-less (component_order b a) same (path_order q p)) ∙ l)

both-less : (o s t : Ordering) → ordering_then o s ≡ Less → ordering_then (ordering_reverse o) t ≡ Less → (o ≡ Equal) × (s ≡ Less) × (t ≡ Less)
both-less Less s t e f = cc
both-less Equal s t e f = (refl, e, f)
both-less Greater s t e f = cc

-- what begins two paths begins each path between them
pub begins-between-both : (e p q r : Path) → path_order p q ≡ Less → path_order q r ≡ Less → begins e p ≡ true → begins e r ≡ true → begins e q ≡ true
begins-between-both [] p q r l m h g = refl
begins-between-both (e ∷ es) [] q r l m h g = cc
begins-between-both (e ∷ es) (a ∷ p) [] r l m h g = cc
begins-between-both (e ∷ es) (a ∷ p) (b ∷ q) [] l m h g = cc
begins-between-both (e ∷ es) (a ∷ p) (b ∷ q) (c ∷ r) l m h g =
    let here : e ≡ a = same-component e a es p h in
    let same : a ≡ c = sym here ∙ same-component e c es r g in
    let back : component_order b c ≡ ordering_reverse (component_order a b) = ap (component_order b) (sym same) ∙ component_order_total.antisymm b a in
    let split = both-less (component_order a b) (path_order p q) (path_order q r) l (ap (λ o. ordering_then o (path_order q r)) (sym back) ∙ m) in
    ap₂ (λ x y. x && y) ((bytes_eq-Decides e b).1 (here ∙ component-exact a b split.0)) (begins-between-both es p q r split.1 split.2 (and_parts (bytes_eq e a) (begins es p) h).1 (and_parts (bytes_eq e c) (begins es r) g).1)

-- what begins a path begins each path between the two
pub begins-between : (p q r : Path) → path_order p q ≡ Less → path_order q r ≡ Less → begins p r ≡ true → begins p q ≡ true
begins-between p q r l m e = begins-between-both p p q r l m (begins-itself p) e

-- what begins the beginning of a path begins the path
pub begins-more : (p q : Path) (n : ℕ) → begins p (take n q) ≡ true → begins p q ≡ true
begins-more [] q n e = refl
begins-more (a ∷ p) q zero e = cc
begins-more (a ∷ p) [] (suc n) e = cc
begins-more (a ∷ p) (b ∷ q) (suc n) e = ap₂ (λ x y. x && y) (and_parts (bytes_eq a b) (begins p (take n q)) e).0 (begins-more p q n (and_parts (bytes_eq a b) (begins p (take n q)) e).1)
