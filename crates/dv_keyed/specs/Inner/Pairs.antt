-- Indexes as finite sets of pairs: a key, and the key of the `_id` of a document that has it.
use Rattle.std.specs.Prelude.{◌≡◌, Bool, true, false, List, map, not, ◌&&◌, ◌||◌}
use Rattle.std.specs.List.{filter, flat_map, list_any}
use Rattle.std.specs.Ordering.{is_eq}
use denote.Ref.{Bor}
use Rattle.dv_order.specs.Key.{KeyTree, key_order}
use Rattle.dv_keyed.specs.Inner.Keys.{has_key, refers_to}

abbrev pub Pair : Type 0
Pair = KeyTree × KeyTree

-- whether a pair is that of a key and an `_id`
abbrev pub is_pair_of : KeyTree → KeyTree → Pair → Bool
is_pair_of k id p = is_eq (key_order k p.0) && is_eq (key_order id p.1)

-- whether a set, as its list of pairs, has the pair of a key and an `_id`
abbrev pub has_pair : KeyTree → KeyTree → List Pair → Bool
has_pair k id ps = list_any (is_pair_of k id) ps

-- whether some of these pairs have an `_id`
abbrev pub has_id : KeyTree → List Pair → Bool
has_id id ps = list_any (λ p. is_eq (key_order id p.1)) ps

-- whether a key that passes a test is under another `_id`
abbrev pub is_under_another : (KeyTree → Bool) → KeyTree → List Pair → Bool
is_under_another test id ps = list_any (λ p. test p.0 && not (is_eq (key_order id p.1))) ps

-- whether another `_id` is under a key, in a pair that is not in `gone`
abbrev pub has_another_at : KeyTree → KeyTree → List Pair → List Pair → Bool
has_another_at k id gone ps = list_any (λ p. is_eq (key_order k p.0) && (not (is_eq (key_order id p.1)) && not (has_pair k p.1 gone))) ps

-- the pairs except those in `gone`
abbrev pub pairs_without : List Pair → List Pair → List Pair
pairs_without gone ps = filter (λ p. not (has_pair p.0 p.1 gone)) ps

-- the pairs of keys, each with the `_id`s under it
abbrev pub pairs_of : List (KeyTree × List KeyTree) → List Pair
pairs_of es = flat_map (λ e. map (λ id. (e.0, id)) e.1) es

-- a key is equal to each key that an `_id` has
abbrev pub IsOnlyKey : KeyTree → KeyTree → List Pair → Type 0
IsOnlyKey k id ps = (l : KeyTree) → has_pair l id ps ≡ true → is_eq (key_order l k) ≡ true

-- every `_id` that has several keys is among these
abbrev pub AreNoted : List KeyTree → List Pair → Type 0
AreNoted several ps = (id : KeyTree) → has_key id several ≡ false → (k : KeyTree) → has_pair k id ps ≡ true → IsOnlyKey k id ps

-- the new pairs are the old ones and those of an `_id` with each key that passes a test
abbrev pub AddsPairs : (KeyTree → Bool) → KeyTree → List Pair → List Pair → Type 0
AddsPairs test id old new = (k i : KeyTree) → has_pair k i new ≡ (has_pair k i old || (test k && is_eq (key_order i id)))

-- the pairs are the same, except those of an `_id` whose keys pass a test
abbrev pub AreSameBut : (KeyTree → Bool) → KeyTree → List Pair → List Pair → Type 0
AreSameBut test id old new = (k i : KeyTree) → (has_pair k i new && not (test k && is_eq (key_order i id))) ≡ (has_pair k i old && not (test k && is_eq (key_order i id)))

-- the references lead to an `_id` if it has a key
abbrev pub LeadFrom : KeyTree → KeyTree → List Pair → List (Bor KeyTree) → Type 0
LeadFrom k id ps ids = has_pair k id ps ≡ true → refers_to ids id ≡ true

-- the references lead to each `_id` that has a key that passes
abbrev pub HaveAll : (KeyTree → Bool) → List Pair → List (Bor KeyTree) → Type 0
HaveAll test ps ids = (k i : KeyTree) → test k ≡ true → LeadFrom k i ps ids

-- the same, except that an `_id` whose only key doesn't pass another test may be left out
abbrev pub HaveTried : (KeyTree → Bool) → (KeyTree → Bool) → List Pair → List (Bor KeyTree) → Type 0
HaveTried test alone ps ids = (k i : KeyTree) → test k ≡ true → has_pair k i ps ≡ true → (IsOnlyKey k i ps → alone k ≡ true) → refers_to ids i ≡ true
