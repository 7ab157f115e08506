-- Removals after all other edits.
use Rattle.std.proofs.Common.{◌≡◌, ◌∙◌, ap, sym, refl, List, [], ◌∷◌, ℕ, Bool, true, false, ◌&&◌, ◌⊎◌, inl, inr, Result, Ok, Err, if◌then◌else◌}
use Rattle.std.specs.List.{list_any}
use Rattle.std.specs.Str.{bytes_eq}
use Rattle.std.proofs.lemmas.Slice.Eq.{bytes_eq-Decides}
use Rattle.std.proofs.lemmas.Bool.{or_parts}
use Rattle.dv_value.specs.Tree.{Tree, array, Field}
use Rattle.dv_candidates.specs.declared.fault.PathFault.{PathFault}
use Rattle.dv_path.specs.Apart.{AreApart, IsApartFrom, AreAllApart, remove_each}
use Rattle.dv_path.specs.Placing.{put, result_map}
use Rattle.dv_path.specs.Removing.{remove}
use Rattle.dv_path.specs.Slots.{Slot, taken, free, blocked, slot}
use Rattle.dv_update.specs.declared.fault.UpdateFault.{UpdateFault}
use Rattle.dv_update.specs.Apply.{Path, told, set_at, increased, appended, pull_from, edit_at, edited}
use Rattle.dv_update.specs.Parsing.{conflicts, has_conflict}
use Rattle.dv_value.specs.Results.{◌>>=◌}
use Rattle.dv_update.specs.PathOrder.{begins}
use Rattle.dv_update.specs.Removals.{is_removal, removals, other_edits}
use Rattle.dv_update.specs.Update.{Operation, assign, take_away, increase, append, pull, Pulled, Edit}

-- ---- the paths of edits without a conflict are apart

pub part : (p q : Path) → begins p q ≡ false → begins q p ≡ false → AreApart p q
part [] q h g = cc
part (a ∷ p) [] h g = cc
part (a ∷ p) (b ∷ q) h g = by (bytes_eq a b) refl (part p q)
  where
    by : (same : Bool) → bytes_eq a b ≡ same → (begins p q ≡ false → begins q p ≡ false → AreApart p q) → (a ≡ b → ⊥) ⊎ ((a ≡ b) × AreApart p q)
    by true is rest =
        let e : a ≡ b = (bytes_eq-Decides a b).0 is in
        let back : bytes_eq b a ≡ true = (bytes_eq-Decides b a).1 (sym e) in
        inr (e, rest (ap (λ c. c && begins p q) (sym is) ∙ h) (ap (λ c. c && begins q p) (sym back) ∙ g))
    by false is rest = inl (λ e. let same : bytes_eq a b ≡ true = (bytes_eq-Decides a b).1 e in cc)

pub apart : (d e : Edit) → conflicts d e ≡ false → AreApart d.0 e.0
apart d e none = part d.0 e.0 (or_parts (begins d.0 e.0) (begins e.0 d.0) none).0 (or_parts (begins d.0 e.0) (begins e.0 d.0) none).1

apart-from : (e : Edit) (es : List Edit) → list_any (conflicts e) es ≡ false → IsApartFrom e.0 (removals es)
apart-from e [] none = tt
apart-from e (d ∷ es) none = by (is_removal d.1) (apart-from e es (or_parts (conflicts e d) (list_any (conflicts e) es) none).1)
  where
    by : (b : Bool) → IsApartFrom e.0 (removals es) → IsApartFrom e.0 (if b then d.0 ∷ removals es else removals es)
    by true rest = (apart e d (or_parts (conflicts e d) (list_any (conflicts e) es) none).0, rest)
    by false rest = rest

pub removals_apart : (es : List Edit) → has_conflict es ≡ false → AreAllApart (removals es)
removals_apart [] none = tt
removals_apart (e ∷ es) none = by (is_removal e.1) (removals_apart es (or_parts (list_any (conflicts e) es) (has_conflict es) none).1)
  where
    by : (b : Bool) → AreAllApart (removals es) → AreAllApart (if b then e.0 ∷ removals es else removals es)
    by true rest = (apart-from e es (or_parts (list_any (conflicts e) es) (has_conflict es) none).0, rest)
    by false rest = rest

-- ---- an edit before a removal

told-then : (f : List Field → List Field) (r : Result (List Field) PathFault) → told (result_map f r) ≡ (told r >>= λ after. Ok (f after))
told-then f (Ok after) = refl
told-then f (Err e) = refl

removal-is : (o : Operation) → is_removal o ≡ true → o ≡ take_away
removal-is (assign v) h = cc
removal-is take_away h = refl
removal-is (increase n) h = cc
removal-is (append vs) h = cc
removal-is (pull p) h = cc

-- each of these paths is apart from the other one
abbrev pub AllPart : List Path → Path → Type 0
AllPart [] q = Unit {0}
AllPart (p ∷ ps) q = AreApart p q × AllPart ps q

-- what dv_path's law says
abbrev pub SlotsStay : Type 0
SlotsStay = (fields : List Field) (p q : List (List ℕ)) → AreApart p q → slot (remove fields p) q ≡ slot fields q

abbrev pub PutsStay : Type 0
PutsStay = (fields : List Field) (p q : List (List ℕ)) (v : Tree) → AreApart p q → put (remove fields p) q v ≡ result_map (λ after. remove after p) (put fields q v)

module _ (slots : SlotsStay) (puts : PutsStay) where
  module _ (p q : Path) (h : AreApart p q) (d : List Field) where
    set-apart : (v : Tree) → set_at q v (remove d p) ≡ (set_at q v d >>= λ after. Ok (remove after p))
    set-apart v = ap told (puts d p q v h) ∙ told-then (λ after. remove after p) (put d q v)

    value-apart : (r : Result Tree UpdateFault) → (r >>= λ v. set_at q v (remove d p)) ≡ ((r >>= λ v. set_at q v d) >>= λ after. Ok (remove after p))
    value-apart (Ok v) = set-apart v
    value-apart (Err e) = refl

    pull-apart : (x : Pulled) (s : Slot) → pull_from q x (remove d p) s ≡ (pull_from q x d s >>= λ after. Ok (remove after p))
    pull-apart x (taken (array vs)) = set-apart _
    pull-apart x (taken v) = refl
    pull-apart x free = refl
    pull-apart x blocked = refl

    pub edit-apart : (o : Operation) → is_removal o ≡ false → edit_at q o (remove d p) ≡ (edit_at q o d >>= λ after. Ok (remove after p))
    edit-apart (assign v) none = set-apart v
    edit-apart take_away none = cc
    edit-apart (increase n) none = ap (λ s. increased n s >>= λ v. set_at q v (remove d p)) (slots d p q h) ∙ value-apart (increased n (slot d q))
    edit-apart (append vs) none = ap (λ s. appended vs s >>= λ v. set_at q v (remove d p)) (slots d p q h) ∙ value-apart (appended vs (slot d q))
    edit-apart (pull x) none = ap (pull_from q x (remove d p)) (slots d p q h) ∙ pull-apart x (slot d q)

  removed-later : (e : Edit) (es : List Edit) → list_any (conflicts e) es ≡ false → (d : List Field) → edited (other_edits es) (remove d e.0) ≡ (edited (other_edits es) d >>= λ after. Ok (remove after e.0))
  removed-later e [] none d = refl
  removed-later e (x ∷ es) none d = by (is_removal x.1) refl (removed-later e es (or_parts (conflicts e x) (list_any (conflicts e) es) none).1)
    where
      one : (r : Result (List Field) UpdateFault) → ((a : List Field) → edited (other_edits es) (remove a e.0) ≡ (edited (other_edits es) a >>= λ after. Ok (remove after e.0))) → ((r >>= λ after. Ok (remove after e.0)) >>= edited (other_edits es)) ≡ ((r >>= edited (other_edits es)) >>= λ after. Ok (remove after e.0))
      one (Ok a) rest = rest a
      one (Err f) rest = refl

      by : (b : Bool) → is_removal x.1 ≡ b → ((a : List Field) → edited (other_edits es) (remove a e.0) ≡ (edited (other_edits es) a >>= λ after. Ok (remove after e.0)))
          → edited (if b then other_edits es else x ∷ other_edits es) (remove d e.0) ≡ (edited (if b then other_edits es else x ∷ other_edits es) d >>= λ after. Ok (remove after e.0))
      by true is rest = rest d
      by false is rest =
          ap (λ r. r >>= edited (other_edits es)) (edit-apart e.0 x.0 (apart e x (or_parts (conflicts e x) (list_any (conflicts e) es) none).0) d x.1 is)
          ∙ one (edit_at x.0 x.1 d) rest

  pub removals_last : (es : List Edit) (d : List Field) → has_conflict es ≡ false → edited es d ≡ (edited (other_edits es) d >>= λ after. Ok (remove_each after (removals es)))
  removals_last [] d none = refl
  removals_last (e ∷ es) d none = by (is_removal e.1) refl (λ a. removals_last es a (or_parts (list_any (conflicts e) es) (has_conflict es) none).1)
    where
      first : (r : Result (List Field) UpdateFault) → ((r >>= λ after. Ok (remove after e.0)) >>= λ after. Ok (remove_each after (removals es))) ≡ (r >>= λ after. Ok (remove_each (remove after e.0) (removals es)))
      first (Ok a) = refl
      first (Err f) = refl

      one : (r : Result (List Field) UpdateFault) → ((a : List Field) → edited es a ≡ (edited (other_edits es) a >>= λ after. Ok (remove_each after (removals es)))) → (r >>= edited es) ≡ ((r >>= edited (other_edits es)) >>= λ after. Ok (remove_each after (removals es)))
      one (Ok a) rest = rest a
      one (Err f) rest = refl

      by : (b : Bool) → is_removal e.1 ≡ b → ((a : List Field) → edited es a ≡ (edited (other_edits es) a >>= λ after. Ok (remove_each after (removals es))))
          → edited (e ∷ es) d ≡ (edited (if b then other_edits es else e ∷ other_edits es) d >>= λ after. Ok (remove_each after (if b then e.0 ∷ removals es else removals es)))
      by true is rest =
          ap (λ o. edit_at e.0 o d >>= edited es) (removal-is e.1 is)
          ∙ rest (remove d e.0)
          ∙ ap (λ r. r >>= λ after. Ok (remove_each after (removals es))) (removed-later e es (or_parts (list_any (conflicts e) es) (has_conflict es) none).0 d)
          ∙ first (edited (other_edits es) d)
      by false is rest = one (edit_at e.0 e.1 d) rest

  -- ---- removals before all other edits

  all-part : (e : Edit) (es : List Edit) → list_any (conflicts e) es ≡ false → AllPart (removals es) e.0
  all-part e [] none = tt
  all-part e (x ∷ es) none = by (is_removal x.1) (all-part e es (or_parts (conflicts e x) (list_any (conflicts e) es) none).1)
    where
      parts : AreApart x.0 e.0
      parts =
          let both : conflicts e x ≡ false = (or_parts (conflicts e x) (list_any (conflicts e) es) none).0 in
          part x.0 e.0 (or_parts (begins e.0 x.0) (begins x.0 e.0) both).1 (or_parts (begins e.0 x.0) (begins x.0 e.0) both).0

      by : (b : Bool) → AllPart (removals es) e.0 → AllPart (if b then x.0 ∷ removals es else removals es) e.0
      by true rest = (parts, rest)
      by false rest = rest

  pub edit-passes : (q : Path) (o : Operation) → is_removal o ≡ false → (ps : List Path) → AllPart ps q → (d : List Field) → edit_at q o (remove_each d ps) ≡ (edit_at q o d >>= λ after. Ok (remove_each after ps))
  edit-passes q o other [] parts d = alone (edit_at q o d)
    where
      alone : (r : Result (List Field) UpdateFault) → r ≡ (r >>= λ after. Ok after)
      alone (Ok a) = refl
      alone (Err f) = refl
  edit-passes q o other (p ∷ ps) parts d =
      edit-passes q o other ps parts.1 (remove d p) ∙ ap (λ r. r >>= λ after. Ok (remove_each after ps)) (edit-apart p q parts.0 d o other) ∙ joined (edit_at q o d)
    where
      joined : (r : Result (List Field) UpdateFault) → ((r >>= λ after. Ok (remove after p)) >>= λ after. Ok (remove_each after ps)) ≡ (r >>= λ after. Ok (remove_each (remove after p) ps))
      joined (Ok a) = refl
      joined (Err f) = refl

  pub removals_first : (es : List Edit) (d : List Field) → has_conflict es ≡ false → edited es d ≡ edited (other_edits es) (remove_each d (removals es))
  removals_first [] d none = refl
  removals_first (e ∷ es) d none = by (is_removal e.1) refl (λ a. removals_first es a (or_parts (list_any (conflicts e) es) (has_conflict es) none).1)
    where
      one : (r : Result (List Field) UpdateFault) → ((a : List Field) → edited es a ≡ edited (other_edits es) (remove_each a (removals es))) → (r >>= edited es) ≡ ((r >>= λ after. Ok (remove_each after (removals es))) >>= edited (other_edits es))
      one (Ok a) rest = rest a
      one (Err f) rest = refl

      by : (b : Bool) → is_removal e.1 ≡ b → ((a : List Field) → edited es a ≡ edited (other_edits es) (remove_each a (removals es)))
          → edited (e ∷ es) d ≡ edited (if b then other_edits es else e ∷ other_edits es) (remove_each d (if b then e.0 ∷ removals es else removals es))
      by true is rest = ap (λ o. edit_at e.0 o d >>= edited es) (removal-is e.1 is) ∙ rest (remove d e.0)
      by false is rest =
          one (edit_at e.0 e.1 d) rest
          ∙ ap (λ r. r >>= edited (other_edits es)) (sym (edit-passes e.0 e.1 is (removals es) (all-part e es (or_parts (list_any (conflicts e) es) (has_conflict es) none).0) d))
