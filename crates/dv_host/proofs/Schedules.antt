-- Schedules, and what belongs to one session in them.
use Rattle.std.proofs.Common.{◌≡◌, ◌≢◌, ℕ, ◌+◌, ◌<◌, ◌≤◌, Bool, true, false, eqb, List, [], ◌∷◌, ◌++◌, Some, None, refl, sym, ap, subst, ◌∙◌, append_assoc, append-nil, arith, if◌then◌else◌}
use Rattle.std.specs.List.{AllByRecursion}
use Rattle.std.proofs.lemmas.Bool.{eq-eqb, ne_eqb}
use Rattle.dv_host.specs.declared.sessions.Fed.{Fed}
use Rattle.dv_host.specs.Schedule.{Step, opened, fed, ended, PlaysBy, heard, heard_in, answers, answers_in, behind, behind_step, unsent_behind, may_wait, IsPieceOf, IsFair, StayFew, open_in, open_behind}
use Rattle.dv_host.specs.Inner.Hosting.{IsBelow}

module _ {A : Type 0} (P : A → Type 0) where
  pub all_joined : (xs ys : List A) → AllByRecursion P xs → AllByRecursion P ys → AllByRecursion P (xs ++ ys)
  all_joined [] ys first second = second
  all_joined (x ∷ xs) ys first second = (first.0, all_joined xs ys first.1 second)

pub all_weaker : {A : Type 0} (P Q : A → Type 0) → ((x : A) → P x → Q x) → (xs : List A) → AllByRecursion P xs → AllByRecursion Q xs
all_weaker P Q weaker [] all = all
all_weaker P Q weaker (x ∷ xs) all = (weaker x all.0, all_weaker P Q weaker xs all.1)

pub plays_joined : {W : Type 0} (Happens : W → Step → W → Type 0) (old mid new : W) (first second : List Step) → PlaysBy Happens old first mid → PlaysBy Happens mid second new → PlaysBy Happens old (first ++ second) new
plays_joined Happens old mid new [] second one two = subst (λ w. PlaysBy Happens w second new) one two
plays_joined Happens old mid new (step ∷ first) second one two = (one.0, one.1, plays_joined Happens one.0 mid new first second one.2 two)

-- ---- what belongs to one session in two schedules

module _ (session : ℕ) where
  pub heard_joined : (first second : List Step) → heard session (first ++ second) ≡ heard session first ++ heard session second
  heard_joined [] second = refl
  heard_joined (step ∷ first) second = ap (λ (b : List ℕ). heard_in session step ++ b) (heard_joined first second) ∙ sym (append_assoc (heard_in session step) (heard session first) (heard session second))

  pub answers_joined : (first second : List Step) → answers session (first ++ second) ≡ answers session first ++ answers session second
  answers_joined [] second = refl
  answers_joined (step ∷ first) second = ap (λ (b : List ℕ). answers_in session step ++ b) (answers_joined first second) ∙ sym (append_assoc (answers_in session step) (answers session first) (answers session second))

  pub heard_one : (piece bytes : List ℕ) (told : Fed) → heard session (fed session piece bytes told ∷ []) ≡ piece
  heard_one piece bytes told = rw (eq-eqb session session refl) (append-nil piece)

  pub answers_one : (piece bytes : List ℕ) (told : Fed) → answers session (fed session piece bytes told ∷ []) ≡ bytes
  answers_one piece bytes told = rw (eq-eqb session session refl) (append-nil bytes)

module _ {A : Type 0} (next : A → List ℕ → Fed → A) (session : ℕ) where
  pub behind_joined : (before : A) (first second : List Step) → behind next session before (first ++ second) ≡ behind next session (behind next session before first) second
  behind_joined before [] second = refl
  behind_joined before (step ∷ first) second = behind_joined (behind_step next session before step) first second

  pub behind_one : (before : A) (piece bytes : List ℕ) (told : Fed) → behind next session before (fed session piece bytes told ∷ []) ≡ next before bytes told
  behind_one before piece bytes told = rw (eq-eqb session session refl) refl

  -- the pieces of another session change nothing
  pub behind_other : (other : ℕ) → other ≢ session → (steps : List Step) → AllByRecursion (IsPieceOf other) steps → (before : A) → behind next session before steps ≡ before
  behind_other other apart [] own before = refl
  behind_other other apart (opened result ∷ steps) own before = absurd own.0
  behind_other other apart (fed s piece bytes told ∷ steps) own before = let ne : s ≢ session = (λ e. apart (sym own.0.0 ∙ e)) in rw (ne_eqb s session ne) (behind_other other apart steps own.1 before)
  behind_other other apart (ended s ∷ steps) own before = absurd own.0

  -- nor do steps before the session is opened
  pub behind_none : (steps : List Step) → AllByRecursion (IsBelow session) steps → (before : A) → behind next session before steps ≡ before
  behind_none [] below before = refl
  behind_none (opened result ∷ steps) below before = behind_none steps below.1 before
  behind_none (fed s piece bytes told ∷ steps) below before = let lt : s < session = below.0 in let ne : s ≢ session = (λ e. omega (arith, e, lt)) in rw (ne_eqb s session ne) (behind_none steps below.1 before)
  behind_none (ended s ∷ steps) below before = behind_none steps below.1 before

-- if no fewer bytes may wait before, no fewer may wait afterwards
either_le : (b : Bool) (now less more : ℕ) → less ≤ more → (if b then now else less) ≤ (if b then now else more)
either_le true now less more le = omega arith
either_le false now less more le = le

wait_in_le : (session less more : ℕ) (step : Step) → less ≤ more → behind_step unsent_behind session less step ≤ behind_step unsent_behind session more step
wait_in_le session less more (opened result) le = le
wait_in_le session less more (fed other piece bytes told) le = either_le (eqb other session) (unsent_behind less bytes told) less more le
wait_in_le session less more (ended other) le = le

pub may_wait_le : (session less more : ℕ) (steps : List Step) → less ≤ more → may_wait session less steps ≤ may_wait session more steps
may_wait_le session less more [] le = le
may_wait_le session less more (step ∷ steps) le =
    may_wait_le session (behind_step unsent_behind session less step) (behind_step unsent_behind session more step) steps (wait_in_le session less more step le)

-- the pieces of another session have nothing of this one
module _ (session other : ℕ) (apart : other ≢ session) where
  pub heard_other : (steps : List Step) → AllByRecursion (IsPieceOf other) steps → heard session steps ≡ []
  heard_other [] own = refl
  heard_other (opened result ∷ steps) own = absurd own.0
  heard_other (fed s piece bytes told ∷ steps) own = let ne : s ≢ session = (λ e. apart (sym own.0.0 ∙ e)) in rw (ne_eqb s session ne) (heard_other steps own.1)
  heard_other (ended s ∷ steps) own = absurd own.0

  pub answers_other : (steps : List Step) → AllByRecursion (IsPieceOf other) steps → answers session steps ≡ []
  answers_other [] own = refl
  answers_other (opened result ∷ steps) own = absurd own.0
  answers_other (fed s piece bytes told ∷ steps) own = let ne : s ≢ session = (λ e. apart (sym own.0.0 ∙ e)) in rw (ne_eqb s session ne) (answers_other steps own.1)
  answers_other (ended s ∷ steps) own = absurd own.0

-- nor have steps before the session is opened
module _ (next : ℕ) where
  pub heard_none : (steps : List Step) → AllByRecursion (IsBelow next) steps → heard next steps ≡ []
  heard_none [] below = refl
  heard_none (opened result ∷ steps) below = heard_none steps below.1
  heard_none (fed s piece bytes told ∷ steps) below = let lt : s < next = below.0 in let ne : s ≢ next = (λ e. omega (arith, e, lt)) in rw (ne_eqb s next ne) (heard_none steps below.1)
  heard_none (ended s ∷ steps) below = heard_none steps below.1

  pub answers_none : (steps : List Step) → AllByRecursion (IsBelow next) steps → answers next steps ≡ []
  answers_none [] below = refl
  answers_none (opened result ∷ steps) below = answers_none steps below.1
  answers_none (fed s piece bytes told ∷ steps) below = let lt : s < next = below.0 in let ne : s ≢ next = (λ e. omega (arith, e, lt)) in rw (ne_eqb s next ne) (answers_none steps below.1)
  answers_none (ended s ∷ steps) below = answers_none steps below.1

-- ---- what holds of pieces, and of numbers

pub pieces_below : (session next : ℕ) → session < next → (steps : List Step) → AllByRecursion (IsPieceOf session) steps → AllByRecursion (IsBelow next) steps
pieces_below session next lt [] own = own
pieces_below session next lt (opened result ∷ steps) own = absurd own.0
pieces_below session next lt (fed s piece bytes told ∷ steps) own = (omega (arith, lt, own.0.0), pieces_below session next lt steps own.1)
pieces_below session next lt (ended s ∷ steps) own = absurd own.0

pub pieces_fair : (session : ℕ) (steps : List Step) → AllByRecursion (IsPieceOf session) steps → AllByRecursion IsFair steps
pieces_fair session [] own = own
pieces_fair session (opened result ∷ steps) own = absurd own.0
pieces_fair session (fed s piece bytes told ∷ steps) own = (own.0.1, pieces_fair session steps own.1)
pieces_fair session (ended s ∷ steps) own = absurd own.0

-- the same for a greater next number
pub below_more : (next : ℕ) (steps : List Step) → AllByRecursion (IsBelow next) steps → AllByRecursion (IsBelow (next + 1)) steps
below_more next [] below = below
below_more next (opened None ∷ steps) below = (tt, below_more next steps below.1)
below_more next (opened (Some s) ∷ steps) below = (omega (arith, below.0), below_more next steps below.1)
below_more next (fed s piece bytes told ∷ steps) below = (omega (arith, below.0), below_more next steps below.1)
below_more next (ended s ∷ steps) below = (omega (arith, below.0), below_more next steps below.1)

-- ---- how many are open

pub open_joined : (count : ℕ) (first second : List Step) → open_behind count (first ++ second) ≡ open_behind (open_behind count first) second
open_joined count [] second = refl
open_joined count (step ∷ first) second = open_joined (open_in count step) first second

pub few_joined : (most count : ℕ) (first second : List Step) → StayFew most count first → StayFew most (open_behind count first) second → StayFew most count (first ++ second)
few_joined most count [] second one two = two
few_joined most count (step ∷ first) second one two = (one.0, few_joined most (open_in count step) first second one.1 two)

pub few_behind : (most count : ℕ) (steps : List Step) → StayFew most count steps → open_behind count steps ≤ most
few_behind most count [] few = few
few_behind most count (step ∷ steps) few = few_behind most (open_in count step) steps few.1

pub pieces_open : (session count : ℕ) (steps : List Step) → AllByRecursion (IsPieceOf session) steps → open_behind count steps ≡ count
pieces_open session count [] own = refl
pieces_open session count (opened result ∷ steps) own = absurd own.0
pieces_open session count (fed s piece bytes told ∷ steps) own = pieces_open session count steps own.1
pieces_open session count (ended s ∷ steps) own = absurd own.0

pub pieces_few : (session most count : ℕ) (steps : List Step) → count ≤ most → AllByRecursion (IsPieceOf session) steps → StayFew most count steps
pieces_few session most count [] le own = le
pieces_few session most count (opened result ∷ steps) le own = absurd own.0
pieces_few session most count (fed s piece bytes told ∷ steps) le own = (le, pieces_few session most count steps le own.1)
pieces_few session most count (ended s ∷ steps) le own = absurd own.0
