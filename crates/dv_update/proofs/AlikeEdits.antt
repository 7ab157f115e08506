-- Edits of documents that are the same down to a level.
use Rattle.std.proofs.Common.{◌≡◌, ◌∙◌, ap, ap₂, sym, refl, subst, List, [], ◌∷◌, ◌++◌, ℕ, zero, suc, ◌-◌, ◌<◌, ◌≤◌, map, Bool, true, false, length, Option, Result, Ok, Err, arith}
use Rattle.dv_value.specs.Names.{value_under}
use Rattle.dv_value.specs.Spelling.{levels}
use Rattle.dv_value.specs.Tree.{Tree, document, array, Field, Elements, elements_of, list_of_elements}
use Rattle.dv_path.specs.Placing.{result_map, put_field, put_behind, put}
use Rattle.dv_candidates.specs.declared.fault.PathFault.{PathFault}
use Rattle.dv_path.specs.Slots.{Slot, taken, free, blocked, slot_of, slot_behind, slot}
use Rattle.dv_update.specs.Apply.{told, set_at, increased, appended, left, pull_from, edit_at}
use Rattle.dv_value.specs.Results.{◌>>=◌}
use Rattle.dv_value.specs.Inner.TreeLaws.{elements_again, fields_again}
use Rattle.dv_update.specs.Removals.{is_removal}
use Rattle.dv_update.specs.Inner.StandIn.{in_one_piece, down_to, fields_down_to, Alike, most_levels, IsShallow, PullsShallow}
use Rattle.dv_update.specs.Update.{Operation, assign, take_away, increase, append, pull, Pulled}
use Rattle.dv_update.specs.declared.number.Number.{Number}
use Rattle.dv_update.specs.declared.fault.UpdateFault.{UpdateFault}
use Rattle.dv_update.specs.declared.fault.UpdateFault.TheVariants as faults
use Rattle.dv_update.proofs.AlikeDown.{slot_down_to, slot-of, slot-marked, equal-shallow}
use Rattle.dv_update.proofs.DownTo.{Path, below, below-sum, value-marked, put-field-marked, behind-marked, array-marked, elements-opened}

-- ---- results that are the same down to a level

abbrev pub marked : ℕ → Result (List Field) UpdateFault → Result (List Field) UpdateFault
marked n (Ok d) = Ok (fields_down_to n d)
marked n (Err e) = Err e

abbrev value_marked : ℕ → Result Tree UpdateFault → Result Tree UpdateFault
value_marked m (Ok v) = Ok (down_to m v)
value_marked m (Err e) = Err e

told-marked : (n : ℕ) (r : Result (List Field) PathFault) → marked n (told r) ≡ told (result_map (fields_down_to n) r)
told-marked n (Ok d) = refl
told-marked n (Err e) = refl

-- the result for one document, if there is a result for the other
pub alike_made : (r s : Result (List Field) UpdateFault) (e : List Field) → marked most_levels r ≡ marked most_levels s → s ≡ Ok e → (d : List Field) × (r ≡ Ok d) × Alike d e
unfolding Alike
alike_made (Ok d) (Ok f) e same is = let there : f ≡ e = cc in let here : fields_down_to most_levels d ≡ fields_down_to most_levels f = cc in (d, refl, here ∙ ap (fields_down_to most_levels) there)
alike_made (Ok d) (Err g) e same is = absurd cc
alike_made (Err g) (Ok f) e same is = absurd cc
alike_made (Err g) (Err h) e same is = absurd cc

pub alike_refused : (r s : Result (List Field) UpdateFault) (e : UpdateFault) → marked most_levels r ≡ marked most_levels s → s ≡ Err e → r ≡ Err e
alike_refused (Ok d) (Ok f) e same is = absurd cc
alike_refused (Ok d) (Err g) e same is = absurd cc
alike_refused (Err g) (Ok f) e same is = absurd cc
alike_refused (Err g) (Err h) e same is = let there : g ≡ h = cc in ap Err there ∙ is

-- ---- what is put, and what is there

module _ (m : ℕ) (name : List ℕ) (names : Path) (d e : List Field) where
  put-below : (v w : Tree) → down_to m v ≡ down_to m w → fields_down_to (below names m) d ≡ fields_down_to (below names m) e → result_map (fields_down_to (below names m)) (put d (name ∷ names) v) ≡ result_map (fields_down_to (below names m)) (put e (name ∷ names) w)
  unfolding put
  put-below v w same alike =
      let n = below names m in
      let inner : Tree → Option Tree → Result Tree PathFault = λ u. put_behind names u in
      put-field-marked n (inner v) (inner (down_to m v)) name d (behind-marked m v names (value_under name d))
      ∙ ap₂ (λ u fs. put_field (put_behind names u) name fs) same alike
      ∙ sym (put-field-marked n (inner w) (inner (down_to m w)) name e (behind-marked m w names (value_under name e)))

  slot-from : (fs : List Field) → slot_down_to m (slot fs (name ∷ names)) ≡ slot_behind names (slot_of (value_under name (fields_down_to (below names m) fs)))
  unfolding slot
  slot-from fs =
      let n = below names m in
      ap (λ gs. slot_down_to m (slot_behind names (slot_of (value_under name gs)))) (fields_again fs)
      ∙ sym (slot-marked m names (slot_of (value_under name fs)))
      ∙ ap (slot_behind names) (sym (slot-of n (value_under name fs)) ∙ ap slot_of (sym (value-marked n name fs)))

  slot-below : fields_down_to (below names m) d ≡ fields_down_to (below names m) e → slot_down_to m (slot d (name ∷ names)) ≡ slot_down_to m (slot e (name ∷ names))
  slot-below alike = slot-from d ∙ ap (λ fs. slot_behind names (slot_of (value_under name fs))) alike ∙ sym (slot-from e)

-- how many levels are left after a path
abbrev Reaches : ℕ → Path → Type 0
Reaches m names = below names m ≡ most_levels

reach : (names : Path) → length names ≤ 299 → Reaches (299 - length names) names
reach names h = omega (arith, below-sum names (299 - length names))

module _ (m : ℕ) (name : List ℕ) (names : Path) (is : Reaches m names) (d e : List Field) (alike : fields_down_to most_levels d ≡ fields_down_to most_levels e) where
  alike-below : fields_down_to (below names m) d ≡ fields_down_to (below names m) e
  alike-below = subst (λ n. fields_down_to n d ≡ fields_down_to n e) (sym is) alike

  pub slots-alike : slot_down_to m (slot d (name ∷ names)) ≡ slot_down_to m (slot e (name ∷ names))
  slots-alike = slot-below m name names d e alike-below

  pub sets-alike : (v w : Tree) → down_to m v ≡ down_to m w → marked most_levels (set_at (name ∷ names) v d) ≡ marked most_levels (set_at (name ∷ names) w e)
  sets-alike v w same =
      let n = below names m in
      let puts : result_map (fields_down_to most_levels) (put d (name ∷ names) v) ≡ result_map (fields_down_to most_levels) (put e (name ∷ names) w) =
      subst (λ n. result_map (fields_down_to n) (put d (name ∷ names) v) ≡ result_map (fields_down_to n) (put e (name ∷ names) w)) is (put-below m name names d e v w same alike-below) in
      told-marked most_levels (put d (name ∷ names) v) ∙ ap told puts ∙ sym (told-marked most_levels (put e (name ∷ names) w))

  then-sets : (r s : Result Tree UpdateFault) → value_marked m r ≡ value_marked m s → marked most_levels (r >>= λ v. set_at (name ∷ names) v d) ≡ marked most_levels (s >>= λ w. set_at (name ∷ names) w e)
  then-sets (Ok v) (Ok w) same = let here : down_to m v ≡ down_to m w = cc in sets-alike v w here
  then-sets (Ok v) (Err g) same = absurd cc
  then-sets (Err g) (Ok w) same = absurd cc
  then-sets (Err g) (Err h) same = let here : g ≡ h = cc in ap Err here

-- ---- values that operators make

increased-marked : (m : ℕ) (n : Number) (s : Slot) → increased n (slot_down_to m s) ≡ increased n s
unfolding down_to
increased-marked m n free = refl
increased-marked m n blocked = refl
increased-marked zero n (taken v) = at v
  where
    at : (v : Tree) → increased n (taken (in_one_piece v)) ≡ increased n (taken v)
    at (document fs) = refl
    at v = refl
increased-marked (suc m) n (taken (document fs)) = refl
increased-marked (suc m) n (taken (array vs)) = refl
increased-marked (suc m) n (taken v) = refl

appended-piece : (vs : List Tree) (s : Slot) → value_marked 0 (appended vs s) ≡ appended vs (slot_down_to 0 s)
unfolding down_to
appended-piece vs free = refl
appended-piece vs blocked = refl
appended-piece vs (taken (document fs)) = refl
appended-piece vs (taken (array ws)) = refl
appended-piece vs (taken v) = refl

map-joined : (f : Tree → Tree) (vs ws : List Tree) → map f (vs ++ ws) ≡ map f vs ++ map f ws
map-joined f [] ws = refl
map-joined f (v ∷ vs) ws = ap (λ us. f v ∷ us) (map-joined f vs ws)

appended-marked : (m : ℕ) (vs : List Tree) (s : Slot) → value_marked (suc m) (appended vs s) ≡ appended (map (down_to m) vs) (slot_down_to (suc m) s)
unfolding down_to
appended-marked m vs free = ap Ok (array-marked m vs)
appended-marked m vs blocked = refl
appended-marked m vs (taken (document fs)) = refl
appended-marked m vs (taken (array ws)) =
    ap Ok (array-marked m (list_of_elements ws ++ vs))
    ∙ ap (λ us. Ok (array (elements_of us))) (map-joined (down_to m) (list_of_elements ws) vs)
    ∙ ap (λ us. Ok (array (elements_of (us ++ map (down_to m) vs)))) (sym (elements_again (map (down_to m) (list_of_elements ws))))
    ∙ ap (λ t. appended (map (down_to m) vs) (taken t)) (sym (elements-opened m ws))
appended-marked m vs (taken v) = refl

appends-alike : (m : ℕ) (vs : List Tree) (s t : Slot) → slot_down_to m s ≡ slot_down_to m t → value_marked m (appended vs s) ≡ value_marked m (appended vs t)
appends-alike zero vs s t same = appended-piece vs s ∙ ap (appended vs) same ∙ sym (appended-piece vs t)
appends-alike (suc m) vs s t same = appended-marked m vs s ∙ ap (appended (map (down_to m) vs)) same ∙ sym (appended-marked m vs t)

-- ---- $pull

abbrev is_array : Tree → Bool
is_array (array vs) = true
is_array v = false

array-stays : (m : ℕ) (v : Tree) → is_array (down_to m v) ≡ is_array v
unfolding down_to
array-stays zero (document fs) = refl
array-stays zero v = refl
array-stays (suc m) (document fs) = refl
array-stays (suc m) (array vs) = refl
array-stays (suc m) v = refl

module _ (m : ℕ) (name : List ℕ) (names : Path) (is : Reaches m names) (d e : List Field) (alike : fields_down_to most_levels d ≡ fields_down_to most_levels e) (p : Pulled) where
  pulls-array : (v : Tree) (ws : Elements) → down_to m v ≡ down_to m (array ws) → levels (array ws) < m
      → marked most_levels (pull_from (name ∷ names) p d (taken v)) ≡ marked most_levels (pull_from (name ∷ names) p e (taken (array ws)))
  pulls-array v ws same shallow =
      let here : v ≡ array ws = equal-shallow m v (array ws) same shallow in
      ap (λ u. marked most_levels (pull_from (name ∷ names) p d (taken u))) here
      ∙ sets-alike m name names is d e alike (array (elements_of (left p (list_of_elements ws)))) (array (elements_of (left p (list_of_elements ws)))) refl

  pulls-none : (v : Tree) → is_array v ≡ false → (c : List Field) → marked most_levels (pull_from (name ∷ names) p c (taken v)) ≡ Err faults.NotArray
  pulls-none (array vs) other c = absurd cc
  pulls-none v other c = refl

  pulls-value : (v w : Tree) → down_to m v ≡ down_to m w → IsShallow m (taken w) → marked most_levels (pull_from (name ∷ names) p d (taken v)) ≡ marked most_levels (pull_from (name ∷ names) p e (taken w))
  pulls-value v (array ws) same shallow = pulls-array v ws same (shallow ws refl)
  pulls-value v w same shallow =
      by (is_array w) refl
    where
      by : (b : Bool) → is_array w ≡ b → marked most_levels (pull_from (name ∷ names) p d (taken v)) ≡ marked most_levels (pull_from (name ∷ names) p e (taken w))
      by true one = absurd cc
      by false other = pulls-none v (sym (array-stays m v) ∙ ap is_array same ∙ array-stays m w ∙ other) d ∙ sym (pulls-none w other e)

  pulls-alike : (s t : Slot) → slot_down_to m s ≡ slot_down_to m t → IsShallow m t → marked most_levels (pull_from (name ∷ names) p d s) ≡ marked most_levels (pull_from (name ∷ names) p e t)
  pulls-alike (taken v) (taken w) same shallow = let here : down_to m v ≡ down_to m w = cc in pulls-value v w here shallow
  pulls-alike (taken v) free same shallow = absurd cc
  pulls-alike (taken v) blocked same shallow = absurd cc
  pulls-alike free (taken w) same shallow = absurd cc
  pulls-alike free free same shallow = ap Ok alike
  pulls-alike free blocked same shallow = absurd cc
  pulls-alike blocked (taken w) same shallow = absurd cc
  pulls-alike blocked free same shallow = absurd cc
  pulls-alike blocked blocked same shallow = ap Ok alike

-- ---- each operator

module _ (m : ℕ) (name : List ℕ) (names : Path) (is : Reaches m names) (d e : List Field) (alike : fields_down_to most_levels d ≡ fields_down_to most_levels e) where
  edits-alike : (o : Operation) → is_removal o ≡ false → PullsShallow m o (slot e (name ∷ names)) → marked most_levels (edit_at (name ∷ names) o d) ≡ marked most_levels (edit_at (name ∷ names) o e)
  edits-alike (assign v) other shallow = sets-alike m name names is d e alike v v refl
  edits-alike take_away other shallow = absurd cc
  edits-alike (increase n) other shallow =
      let same : increased n (slot d (name ∷ names)) ≡ increased n (slot e (name ∷ names)) =
      sym (increased-marked m n (slot d (name ∷ names))) ∙ ap (increased n) (slots-alike m name names is d e alike) ∙ increased-marked m n (slot e (name ∷ names)) in
      then-sets m name names is d e alike (increased n (slot d (name ∷ names))) (increased n (slot e (name ∷ names))) (ap (value_marked m) same)
  edits-alike (append vs) other shallow =
      then-sets m name names is d e alike (appended vs (slot d (name ∷ names))) (appended vs (slot e (name ∷ names)))
      (appends-alike m vs (slot d (name ∷ names)) (slot e (name ∷ names)) (slots-alike m name names is d e alike))
  edits-alike (pull p) other shallow = pulls-alike m name names is d e alike p (slot d (name ∷ names)) (slot e (name ∷ names)) (slots-alike m name names is d e alike) shallow

-- an edit whose path has few components
pub short_edit : (path : Path) (o : Operation) (d e : List Field) → (path ≡ [] → ⊥) → length path ≤ 300 → is_removal o ≡ false → PullsShallow (300 - length path) o (slot e path) → Alike d e → marked most_levels (edit_at path o d) ≡ marked most_levels (edit_at path o e)
unfolding Alike
short_edit [] o d e some short other shallow alike = absurd (some refl)
short_edit (name ∷ names) o d e some short other shallow alike =
    let left : 300 - length (name ∷ names) ≡ 299 - length names = omega arith in
    edits-alike (299 - length names) name names (reach names (omega arith)) d e alike o other (subst (λ m. PullsShallow m o (slot e (name ∷ names))) left shallow)
