-- What a fold over candidates gathers that puts keys into a set: what loops and folds of other crates go by too.
use Rattle.std.proofs.Common.{◌≡◌, ◌∙◌, ◌||◌, ap, sym, Bool, List, [], ◌∷◌, Result, Ok}
use Rattle.std.proofs.Math.Bool.{or-false, or_assoc}
use Rattle.std.specs.BTreeSet.{BTreeSet, contains}
use Rattle.std.specs.List.{list_any, flat_map, FoldsTo}
use Rattle.std.specs.Ordering.{is_eq}
use Rattle.dv_value.specs.Tree.{Tree}
use Rattle.dv_value.specs.Inner.ListLaws.{same-truth, any-flat_map}
use Rattle.dv_order.specs.Key.{KeyTree, key_order}
use Rattle.dv_candidates.specs.Candidates.{Candidate}
use Rattle.dv_candidates.specs.Inner.Fold.{Takes, FoldsOver, PassesOne}
use Rattle.dv_path.specs.LeafKeys.{is_some_key}

-- a set of keys with those of these values
abbrev pub AddsKeysOf : List Tree → BTreeSet KeyTree → BTreeSet KeyTree → Type 0
AddsKeysOf vs old new = (k : KeyTree) → contains key_order new k ≡ (contains key_order old k || is_some_key k vs)

module _ {X E Y : Type 0} (seen : X → Candidate) (call : BTreeSet KeyTree → X → Result (BTreeSet KeyTree) E → Type 0) (test : KeyTree → Y → Bool) (given : Candidate → List Y)
    (steps : (t : BTreeSet KeyTree) (x : X) (u : BTreeSet KeyTree) → call t x (Ok u) → (k : KeyTree) → contains key_order u k ≡ contains key_order t k || list_any (test k) (given (seen x))) where
  folded : (t u : BTreeSet KeyTree) (cs : List Candidate) → FoldsTo (Takes seen call) t cs u → (k : KeyTree) → contains key_order u k ≡ contains key_order t k || list_any (λ c. list_any (test k) (given c)) cs
  folded t u [] h k = ap (λ s. contains key_order s k) (sym h) ∙ sym (or-false (contains key_order t k))
  folded t u (c ∷ cs) h k =
      let rest = list_any (λ c. list_any (test k) (given c)) cs in
      folded h.0 u cs h.2 k
      ∙ ap (λ b. b || rest) (steps t h.1.at h.0 h.1.gives k ∙ ap (λ d. contains key_order t k || list_any (test k) (given d)) h.1.is)
      ∙ or_assoc (contains key_order t k) (list_any (test k) (given c)) rest

  -- from no key on: where some item passes that a candidate gives
  pub gathered-keys : (cs : List Candidate) (t u : BTreeSet KeyTree) → t.keys ≡ [] → FoldsOver seen call (PassesOne cs) (PassesOne cs) t u → (k : KeyTree) → contains key_order u k ≡ list_any (test k) (flat_map given cs)
  gathered-keys cs t u empty h k =
      let some = λ (c : Candidate). list_any (test k) (given c) in
      folded t u h.taken h.calls k
      ∙ ap (λ ks. list_any (λ l. is_eq (key_order k l)) ks || list_any some h.taken) empty
      ∙ same-truth (list_any some h.taken) (list_any some cs) (λ e. (h.only some e).passes) (λ e. h.every some (record { passes = e }))
      ∙ sym (any-flat_map (test k) given cs)
