-- Open connections in the order of their sessions.
use Rattle.std.proofs.Common.{◌≡◌, ◌≢◌, ℕ, zero, suc, ◌+◌, ◌<◌, ◌≤◌, List, [], ◌∷◌, ◌++◌, length, get_or, set, map, refl, sym, ap, subst, arith}
use Rattle.std.specs.List.{AllByRecursion, remove}
use Rattle.dv_host.specs.View.{Seen}
use Rattle.dv_host.specs.Inner.Hosting.{AreNumbered}

pub numbered_lower : (low first : ℕ) (links : List Seen) (next : ℕ) → low ≤ first → AreNumbered first links next → AreNumbered low links next
numbered_lower low first [] next le numbered = omega (arith, le, numbered)
numbered_lower low first (l ∷ ls) next le numbered = (omega (arith, le, numbered.0), numbered.1)

pub numbered_more : (first : ℕ) (links : List Seen) (next : ℕ) (link : Seen) → link.session ≡ next → AreNumbered first links next → AreNumbered first (links ++ link ∷ []) (next + 1)
numbered_more first [] next link is numbered = (omega (arith, is, numbered), omega (arith, is))
numbered_more first (l ∷ ls) next link is numbered = (numbered.0, numbered_more (suc l.session) ls next link is numbered.1)

pub number_least : (first : ℕ) (links : List Seen) (next k : ℕ) (d : Seen) → AreNumbered first links next → k < length links → first ≤ (get_or links k d).session
number_least first [] next k d numbered lt = absurd (omega arith)
number_least first (l ∷ ls) next zero d numbered lt = numbered.0
number_least first (l ∷ ls) next (suc k) d numbered lt = omega (arith, numbered.0, number_least (suc l.session) ls next k d numbered.1 (omega arith))

pub number_below : (first : ℕ) (links : List Seen) (next k : ℕ) (d : Seen) → AreNumbered first links next → k < length links → (get_or links k d).session < next
number_below first [] next k d numbered lt = absurd (omega arith)
number_below first (l ∷ []) next zero d numbered lt = omega (arith, numbered.1)
number_below first (l ∷ m ∷ ls) next zero d numbered lt = omega (arith, numbered.1.0, number_below (suc l.session) (m ∷ ls) next zero d numbered.1 (omega arith))
number_below first (l ∷ ls) next (suc k) d numbered lt = number_below (suc l.session) ls next k d numbered.1 (omega arith)

pub numbered_set : (first : ℕ) (links : List Seen) (next k : ℕ) (d now : Seen) → now.session ≡ (get_or links k d).session → AreNumbered first links next → AreNumbered first (set links k now) next
numbered_set first [] next k d now is numbered = numbered
numbered_set first (l ∷ ls) next zero d now is numbered = (omega (arith, is, numbered.0), subst (λ (n : ℕ). AreNumbered (suc n) ls next) (sym is) numbered.1)
numbered_set first (l ∷ ls) next (suc k) d now is numbered = (numbered.0, numbered_set (suc l.session) ls next k d now is numbered.1)

pub numbered_removed : (first : ℕ) (links : List Seen) (next k : ℕ) → AreNumbered first links next → AreNumbered first (remove links k) next
numbered_removed first [] next zero numbered = numbered
numbered_removed first [] next (suc k) numbered = numbered
numbered_removed first (l ∷ ls) next zero numbered = numbered_lower first (suc l.session) ls next (omega (arith, numbered.0)) numbered.1
numbered_removed first (l ∷ ls) next (suc k) numbered = (numbered.0, numbered_removed (suc l.session) ls next k numbered.1)

-- ---- all of them

pub all_removed : {A : Type 0} (P : A → Type 0) (xs : List A) (k : ℕ) → AllByRecursion P xs → AllByRecursion P (remove xs k)
all_removed P [] zero all = all
all_removed P [] (suc k) all = all
all_removed P (x ∷ xs) zero all = all.1
all_removed P (x ∷ xs) (suc k) all = (all.0, all_removed P xs k all.1)

pub all_at : {A : Type 0} (P : A → Type 0) (xs : List A) (k : ℕ) (d : A) → k < length xs → AllByRecursion P xs → P (get_or xs k d)
all_at P [] k d lt all = absurd (omega arith)
all_at P (x ∷ xs) zero d lt all = all.0
all_at P (x ∷ xs) (suc k) d lt all = all_at P xs k d (omega arith) all.1

-- what holds of sessions alone
pub apart_set : (P : ℕ → Type 0) (links : List Seen) (k : ℕ) (d now : Seen) → now.session ≡ (get_or links k d).session → AllByRecursion (λ l. P l.session) links → AllByRecursion (λ l. P l.session) (set links k now)
apart_set P [] k d now is all = all
apart_set P (l ∷ ls) zero d now is all = (subst P (sym is) all.0, all.1)
apart_set P (l ∷ ls) (suc k) d now is all = (all.0, apart_set P ls k d now is all.1)

above_all : (t first : ℕ) (links : List Seen) (next : ℕ) → t < first → AreNumbered first links next → AllByRecursion (λ l. t ≢ l.session) links
above_all t first [] next lt numbered = tt
above_all t first (l ∷ ls) next lt numbered = ((λ e. omega (arith, lt, numbered.0, e)), above_all t (suc l.session) ls next (omega (arith, lt, numbered.0)) numbered.1)

-- the session of a removed connection is not that of another one
pub apart_removed : (first : ℕ) (links : List Seen) (next k : ℕ) (d : Seen) → AreNumbered first links next → k < length links → AllByRecursion (λ l. (get_or links k d).session ≢ l.session) (remove links k)
apart_removed first [] next k d numbered lt = absurd (omega arith)
apart_removed first (l ∷ ls) next zero d numbered lt = above_all l.session (suc l.session) ls next (omega arith) numbered.1
apart_removed first (l ∷ ls) next (suc k) d numbered lt =
    ((λ e. omega (arith, number_least (suc l.session) ls next k d numbered.1 (omega arith), e)), apart_removed (suc l.session) ls next k d numbered.1 (omega arith))

-- ---- what is seen

pub map_removed : {A B : Type 0} (f : A → B) (xs : List A) (k : ℕ) → map f (remove xs k) ≡ remove (map f xs) k
map_removed f [] zero = refl
map_removed f [] (suc k) = refl
map_removed f (x ∷ xs) zero = refl
map_removed f (x ∷ xs) (suc k) = ap (λ ys. f x ∷ ys) (map_removed f xs k)

pub map_at : {A B : Type 0} (f : A → B) (xs : List A) (k : ℕ) (d : A) → get_or (map f xs) k (f d) ≡ f (get_or xs k d)
map_at f [] k d = refl
map_at f (x ∷ xs) zero d = refl
map_at f (x ∷ xs) (suc k) d = map_at f xs k d

pub length_removed : {A : Type 0} (xs : List A) (k : ℕ) → k < length xs → length (remove xs k) + 1 ≡ length xs
length_removed [] k lt = absurd (omega arith)
length_removed (x ∷ xs) zero lt = omega arith
length_removed (x ∷ xs) (suc k) lt = omega (arith, length_removed xs k (omega arith))
