-- What stays the same for one connection while others have turns.
use Rattle.std.proofs.Common.{◌≡◌, ◌≢◌, ℕ, zero, suc, ◌<◌, List, [], ◌∷◌, ◌++◌, Option, None, length, get_or, set, refl, sym, ap, ◌∙◌, append-nil, arith, inl, inr}
use Rattle.std.specs.Bool.{⊤}
use Rattle.std.specs.List.{AllByRecursion}
use Rattle.dv_host.specs.Schedule.{Step, opened, ended, steps_of, heard, answers, may_wait, closing, unsent_behind, closing_behind, IsPieceOf}
use Rattle.dv_host.specs.View.{Seen}
use Rattle.dv_host.specs.Host.{Accepted, Finished, refused, served, Follows, IsIn, WasServed}
use Rattle.dv_host.specs.Inner.Hosting.{AreNumbered, IsApart, IsBelow}
use Rattle.dv_host.proofs.Schedules.{all_weaker, heard_joined, answers_joined, heard_other, answers_other, behind_joined, behind_other, behind_none, heard_none, answers_none}
use Rattle.dv_host.proofs.Lives.{ended_still, other_steps}
use Rattle.dv_host.proofs.Links.{number_least, all_at}

pub in_left : {A : Type 0} (x : A) (xs ys : List A) → IsIn x xs → IsIn x (xs ++ ys)
in_left x [] ys h = absurd h
in_left x (y ∷ xs) ys (inl e) = inl e
in_left x (y ∷ xs) ys (inr h) = inr (in_left x xs ys h)

pub in_last : {A : Type 0} (x : A) (xs : List A) → IsIn x (xs ++ x ∷ [])
in_last x [] = inl refl
in_last x (y ∷ xs) = inr (in_last x xs)

-- these steps change nothing for a session
pub record IsSilent (session : ℕ) (steps : List Step) : Type 0 where
  pub no_bytes : heard session steps ≡ []
  pub no_answers : answers session steps ≡ []
  pub no_waits : (n : ℕ) → may_wait session n steps ≡ n
  pub no_fault : (shut : Option ℕ) → closing session shut steps ≡ shut

pub silent_other : (session other : ℕ) → other ≢ session → (steps : List Step) → AllByRecursion (IsPieceOf other) steps → IsSilent session steps
silent_other session other apart steps own = record {
  no_bytes = heard_other session other apart steps own;
  no_answers = answers_other session other apart steps own;
  no_waits = λ n. behind_other unsent_behind session other apart steps own n;
  no_fault = λ shut. behind_other closing_behind session other apart steps own shut;
}

pub silent_none : (session : ℕ) (steps : List Step) → AllByRecursion (IsBelow session) steps → IsSilent session steps
silent_none session steps below = record {
  no_bytes = heard_none session steps below;
  no_answers = answers_none session steps below;
  no_waits = λ n. behind_none unsent_behind session steps below n;
  no_fault = λ shut. behind_none closing_behind session steps below shut;
}

pub silent_opened : (session : ℕ) (number : Option ℕ) → IsSilent session (opened number ∷ [])
silent_opened session number = record { no_bytes = refl; no_answers = refl; no_waits = λ n. refl; no_fault = λ shut. refl }

pub silent_ended : (session other : ℕ) → IsSilent session (ended other ∷ [])
silent_ended session other = record { no_bytes = refl; no_answers = refl; no_waits = λ n. refl; no_fault = λ shut. refl }

pub follows_still : (steps more : List Step) (accepted among : List Accepted) (link : Seen) → IsSilent link.session more → ((x : Accepted) → IsIn x accepted → IsIn x among)
    → Follows steps accepted link → Follows (steps ++ more) among link
follows_still steps more accepted among link silent within f =
    let n = link.session in
    let no_bytes : heard n (steps ++ more) ≡ heard n steps = heard_joined n steps more ∙ ap (λ (b : List ℕ). heard n steps ++ b) silent.no_bytes ∙ append-nil (heard n steps) in
    let no_answers : answers n (steps ++ more) ≡ answers n steps = answers_joined n steps more ∙ ap (λ (b : List ℕ). answers n steps ++ b) silent.no_answers ∙ append-nil (answers n steps) in
    let no_waits : may_wait n 0 (steps ++ more) ≡ may_wait n 0 steps = behind_joined unsent_behind n 0 steps more ∙ silent.no_waits (may_wait n 0 steps) in
    record {
      input = f.input;
      known = within _ f.known;
      read = f.read;
      consumed = f.consumed;
      fed_so = f.fed_so ∙ ap (λ (b : List ℕ). b ++ link.pending) (sym no_bytes);
      given = f.given;
      took = f.took;
      answered = no_answers ∙ f.answered;
      few = omega (arith, f.few, no_waits);
      shut = f.shut ∙ sym (behind_joined closing_behind n None steps more ∙ silent.no_fault (closing n None steps));
    }

-- none of these steps is of a closed connection's session
abbrev pub IsQuiet : List Step → Finished → Type 0
IsQuiet more (refused left taken) = ⊤
IsQuiet more (served link fate) = IsSilent link.session more × (steps_of link.session more ≡ [])

pub served_still : (steps more : List Step) (accepted among : List Accepted) (f : Finished) → IsQuiet more f → ((x : Accepted) → IsIn x accepted → IsIn x among) → WasServed steps accepted f → WasServed (steps ++ more) among f
served_still steps more accepted among (refused left taken) quiet within was = (was.0, within _ was.1, was.2, was.3)
served_still steps more accepted among (served link fate) quiet within was =
    (follows_still steps more accepted among link quiet.0 within was.0, was.1, ended_still link.session steps more quiet.1 was.2)

-- steps without bytes of any session
module _ (steps more : List Step) (silent : (s : ℕ) → IsSilent s more) (accepted among : List Accepted) (within : (x : Accepted) → IsIn x accepted → IsIn x among) where
  pub all_live_still : (links : List Seen) → AllByRecursion (Follows steps accepted) links → AllByRecursion (Follows (steps ++ more) among) links
  all_live_still links live = all_weaker (Follows steps accepted) (Follows (steps ++ more) among) (λ l f. follows_still steps more accepted among l (silent l.session) within f) links live

  pub all_served_still : (finished : List Finished) → AllByRecursion (IsQuiet more) finished → AllByRecursion (WasServed steps accepted) finished → AllByRecursion (WasServed (steps ++ more) among) finished
  all_served_still [] quiet were = were
  all_served_still (f ∷ fs) quiet were = (served_still steps more accepted among f quiet.0 within were.0, all_served_still fs quiet.1 were.1)

-- pieces of one session
module _ (steps more : List Step) (accepted : List Accepted) (now : Seen) (own : AllByRecursion (IsPieceOf now.session) more) (follows : Follows (steps ++ more) accepted now) where
  pub live_still : (l : Seen) → now.session ≢ l.session → Follows steps accepted l → Follows (steps ++ more) accepted l
  live_still l apart f = follows_still steps more accepted accepted l (silent_other l.session now.session apart more own) (λ x h. h) f

  pub live_behind : (first : ℕ) (links : List Seen) (next : ℕ) → AreNumbered first links next → now.session < first → AllByRecursion (Follows steps accepted) links → AllByRecursion (Follows (steps ++ more) accepted) links
  live_behind first [] next numbered lt live = live
  live_behind first (l ∷ ls) next numbered lt live =
      let ne : now.session ≢ l.session = (λ e. omega (arith, e, lt, numbered.0)) in
      (live_still l ne live.0, live_behind (suc l.session) ls next numbered.1 (omega (arith, lt, numbered.0)) live.1)

  pub live_moved : (first : ℕ) (links : List Seen) (next k : ℕ) (d : Seen) → AreNumbered first links next → k < length links → now.session ≡ (get_or links k d).session
      → AllByRecursion (Follows steps accepted) links → AllByRecursion (Follows (steps ++ more) accepted) (set links k now)
  live_moved first [] next k d numbered lt is live = absurd (omega arith)
  live_moved first (l ∷ ls) next zero d numbered lt is live = (follows, live_behind (suc l.session) ls next numbered.1 (omega (arith, is)) live.1)
  live_moved first (l ∷ ls) next (suc k) d numbered lt is live =
      let least = number_least (suc l.session) ls next k d numbered.1 (omega arith) in
      let ne : now.session ≢ l.session = (λ e. omega (arith, e, is, least)) in
      (live_still l ne live.0, live_moved (suc l.session) ls next k d numbered.1 (omega arith) is live.1)

  pub one_served : (links : List Seen) (k : ℕ) (d : Seen) → k < length links → now.session ≡ (get_or links k d).session → (f : Finished) → IsApart links f → WasServed steps accepted f → WasServed (steps ++ more) accepted f
  one_served links k d lt is (refused left taken) apart was = was
  one_served links k d lt is (served link fate) apart was =
      let other : now.session ≢ link.session = (λ e. all_at (λ l. link.session ≢ l.session) links k d lt apart (sym e ∙ is)) in (
        follows_still steps more accepted accepted link (silent_other link.session now.session other more own) (λ x h. h) was.0,
        was.1,
        ended_still link.session steps more (other_steps link.session now.session other more own) was.2,
      )

  pub served_moved : (links : List Seen) (k : ℕ) (d : Seen) → k < length links → now.session ≡ (get_or links k d).session → (finished : List Finished) → AllByRecursion (IsApart links) finished
      → AllByRecursion (WasServed steps accepted) finished → AllByRecursion (WasServed (steps ++ more) accepted) finished
  served_moved links k d lt is [] apart were = were
  served_moved links k d lt is (f ∷ fs) apart were = (one_served links k d lt is f apart.0 were.0, served_moved links k d lt is fs apart.1 were.1)
