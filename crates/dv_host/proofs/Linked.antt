-- Connections as they are in memory.
use Rattle.std.proofs.Common.{◌≡◌, ℕ, zero, suc, ◌+◌, ◌<◌, List, [], ◌∷◌, ◌++◌, Option, Some, None, length, get_or, set, map, refl, sym, ap, subst, ◌∙◌, arith}
use Rattle.std.proofs.lemmas.List.{map-set, map-append}
use Rattle.std.specs.List.{remove, slice_get}
use Rattle.dv_host.specs.declared.link.Fate.{Fate}
use Rattle.dv_host.specs.Outside.{Accepts, Closed, Closes, HasTaken}
use Rattle.dv_host.specs.Schedule.{Step, opened, ended, PlaysBy}
use Rattle.dv_host.specs.View.{Seen}
use Rattle.dv_host.specs.Host.{Settles}
use Rattle.dv_host.specs.Inner.Moving.{Moves}
use Rattle.dv_host.specs.Inner.Hosting.{Hosts}
use Rattle.dv_host.proofs.Links.{map_at, map_removed}
use Rattle.dv_host.proofs.All.{moved, closed_at, opened_for}

length_seen : {A B : Type 0} (f : A → B) (xs : List A) → length (map f xs) ≡ length xs
length_seen f [] = refl
length_seen f (x ∷ xs) = ap (λ (n : ℕ). suc n) (length_seen f xs)

pub set_there : {A : Type 0} (xs : List A) (k : ℕ) (v x : A) → k < length xs → slice_get (set xs k v) k ≡ Some x → v ≡ x
set_there [] k v x lt is = absurd (omega arith)
set_there (y ∷ xs) zero v x lt is = cc
set_there (y ∷ xs) (suc k) v x lt is = set_there xs k v x (omega arith) is

pub read_there : {A : Type 0} (xs : List A) (k : ℕ) (x : A) → k < length xs → x ≡ get_or xs k x → slice_get xs k ≡ Some x
read_there [] k x lt is = absurd (omega arith)
read_there (y ∷ xs) zero x lt is = ap (λ z. Some z) (sym is)
read_there (y ∷ xs) (suc k) x lt is = read_there xs k x (omega arith) is

pub fresh_so : (link : Seen) (session next : ℕ) (left taken : Option (List ℕ)) → link ≡ record { session = session; left = left; taken = taken; unsent = []; pending = []; closing = None } → session ≡ next
    → link ≡ record { session = next; left = link.left; taken = link.taken; unsent = []; pending = []; closing = None }
fresh_so link session next left taken is same =
    is ∙ ap (λ (n : ℕ). record { session = n; left = left; taken = taken; unsent = []; pending = []; closing = None }) same
    ∙ ap (λ (l : Option (List ℕ)). record { session = next; left = l; taken = taken; unsent = []; pending = []; closing = None }) (sym (ap (λ (s : Seen). s.left) is))
    ∙ ap (λ (t : Option (List ℕ)). record { session = next; left = link.left; taken = t; unsent = []; pending = []; closing = None }) (sym (ap (λ (s : Seen). s.taken) is))

module _ {W L : Type 0} (Happens : W → Step → W → Type 0) (seen : L → Seen) (coming_old coming : Option (List (List ℕ))) (closed_old closed : Option (List Closed)) (old now new : W) (next next_new count : ℕ) (links : List L) where
  pub link_moved : (k : ℕ) (was link : L) → k < length links → was ≡ get_or links k was → next_new ≡ next → Moves (PlaysBy Happens) now new (seen was) (seen link)
      → Hosts (PlaysBy Happens) coming_old coming closed_old closed old now next count (map seen links)
      → Hosts (PlaysBy Happens) coming_old coming closed_old closed old new next_new count (map seen (set links k link))
  link_moved k was link lt is same moves hosts =
      subst (Hosts (PlaysBy Happens) coming_old coming closed_old closed old new next_new count) (sym (map-set seen links k link))
      (moved Happens coming_old coming closed_old closed old now next count (map seen links) hosts new next_new k (seen was) (seen was) (seen link) (omega (arith, lt, length_seen seen links))
      (ap seen is ∙ sym (map_at seen links k was)) same moves)

  pub link_closed : (coming_new : Option (List (List ℕ))) (closed_new : Option (List Closed)) (k : ℕ) (was : L) (fate : Fate) → k < length links → was ≡ get_or links k was → next_new ≡ next
      → Happens now (ended (seen was).session) new → Settles fate (seen was) → coming_new ≡ coming → Closes closed (seen was).left (seen was).taken fate closed_new
      → Hosts (PlaysBy Happens) coming_old coming closed_old closed old now next count (map seen links)
      → Hosts (PlaysBy Happens) coming_old coming_new closed_old closed_new old new next_new count (map seen (remove links k))
  link_closed coming_new closed_new k was fate lt is same happens settles same_coming closes hosts =
      subst (Hosts (PlaysBy Happens) coming_old coming_new closed_old closed_new old new next_new count) (sym (map_removed seen links k))
      (closed_at Happens coming_old coming closed_old closed old now next count (map seen links) hosts new next_new coming_new closed_new k (seen was) (seen was) fate (omega (arith, lt, length_seen seen links))
      (ap seen is ∙ sym (map_at seen links k was)) same happens settles same_coming closes)

  pub link_opened : (coming_new : Option (List (List ℕ))) (closed_new : Option (List Closed)) (link : L) → length links < 1000 → next_new ≡ next + 1
      → Happens now (opened (Some next)) new → Accepts coming (seen link).left coming_new → HasTaken (seen link).taken []
      → seen link ≡ record { session = next; left = (seen link).left; taken = (seen link).taken; unsent = []; pending = []; closing = None } → closed_new ≡ closed
      → Hosts (PlaysBy Happens) coming_old coming closed_old closed old now next count (map seen links)
      → Hosts (PlaysBy Happens) coming_old coming_new closed_old closed_new old new next_new (count + 1) (map seen (links ++ link ∷ []))
  link_opened coming_new closed_new link room same happens accepts has fresh same_closed hosts =
      subst (Hosts (PlaysBy Happens) coming_old coming_new closed_old closed_new old new next_new (count + 1)) (sym (map-append seen links (link ∷ [])))
      (opened_for Happens coming_old coming closed_old closed old now next count (map seen links) hosts new next_new coming_new closed_new (seen link) (omega (arith, room, length_seen seen links)) same happens accepts has fresh same_closed)
