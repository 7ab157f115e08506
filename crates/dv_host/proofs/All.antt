-- Connections that are served at once: one arrives, one has a turn, one is closed.
use Rattle.std.proofs.Common.{◌≡◌, ◌≢◌, ℕ, suc, ◌+◌, ◌<◌, ◌≤◌, List, [], ◌∷◌, ◌++◌, Option, Some, None, length, get_or, map, set, refl, sym, ap, subst, ◌∙◌, append_assoc, append-nil, arith, length-append, length-set}
use Rattle.std.proofs.KnownBytes.{Consumes-nil, Consumes-trans, Keeps-refl}
use Rattle.std.proofs.lemmas.List.Sorted.{IsPermutation-refl}
use Rattle.std.specs.List.{AllByRecursion, remove}
use Rattle.std.specs.List.Sorted.{IsPermutation}
use Rattle.dv_host.specs.Channel.{Gains}
use Rattle.dv_host.specs.declared.link.Fate.{Fate}
use Rattle.dv_host.specs.declared.link.Fate.TheVariants.{Failed}
use Rattle.dv_host.specs.Outside.{Accepts, Closed, Closes, HasTaken}
use Rattle.dv_host.specs.Schedule.{Step, opened, ended, PlaysBy, session_in, openings, heard, answers, may_wait, closing, unsent_behind, closing_behind, IsPieceOf, IsFair, open_behind}
use Rattle.dv_host.specs.View.{Seen}
use Rattle.dv_host.specs.Host.{Accepted, AreBelow, Close, Come, Finished, refused, served, sessions_of, session_at, left_of, taken_of, fate_of, Follows, IsIn, Served, Settles, WasServed}
use Rattle.dv_host.specs.Inner.Moving.{Moves}
use Rattle.dv_host.specs.Inner.Hosting.{AreNumbered, Hosts, IsApart, IsBehind, IsBelow, IsOpen}
use Rattle.dv_host.proofs.Schedules.{all_joined, all_weaker, plays_joined, heard_joined, answers_joined, behind_joined, may_wait_le, pieces_below, pieces_fair, below_more, open_joined, few_joined, few_behind, pieces_open, pieces_few}
use Rattle.dv_host.proofs.Lives.{accepted_low, all_fed, all_open_still, ascend_more, ascend_still, end_of_one, ends_so, opened_of_one, openings_more, openings_pieces, openings_same, opens_so, other_end, other_start, pieces_of_one, sessions_within, shared_closed, shared_opened, shared_refused, shared_set}
use Rattle.dv_host.proofs.Links.{numbered_more, number_below, numbered_set, numbered_removed, all_removed, all_at, apart_set, apart_removed, length_removed}
use Rattle.dv_host.proofs.Silent.{in_left, in_last, IsSilent, silent_none, silent_opened, silent_ended, follows_still, IsQuiet, all_live_still, all_served_still, live_moved, served_moved}

-- ---- lists that grow

come_more : (old mid new : Option (List (List ℕ))) (all : List Accepted) (next : Accepted) → Come old all mid → Accepts mid next.input new → Come old (all ++ next ∷ []) new
come_more old mid new [] next come accepts = (new, subst (λ c. Accepts c next.input new) come accepts, refl)
come_more old mid new (first ∷ others) next come accepts = (come.0, come.1, come_more come.0 mid new others next come.2 accepts)

close_more : (old mid new : Option (List Closed)) (all : List Finished) (next : Finished) → Close old all mid → Closes mid (left_of next) (taken_of next) (fate_of next) new → Close old (all ++ next ∷ []) new
close_more old mid new [] next close closes = (new, subst (λ c. Closes c (left_of next) (taken_of next) (fate_of next) new) close closes, refl)
close_more old mid new (first ∷ others) next close closes = (close.0, close.1, close_more close.0 mid new others next close.2 closes)

plays_more : {W : Type 0} (Happens : W → Step → W → Type 0) (old mid new : W) (steps : List Step) (step : Step) → PlaysBy Happens old steps mid → Happens mid step new → PlaysBy Happens old (steps ++ step ∷ []) new
plays_more Happens old mid new steps step plays happens = plays_joined Happens old mid new steps (step ∷ []) plays (new, happens, refl)

-- ---- one connection has a turn

taken_more : (before after : Option (List ℕ)) (first more : List ℕ) → HasTaken before first → Gains before after more → HasTaken after (first ++ more)
taken_more None None first more has gains = tt
taken_more None (Some y) first more has gains = absurd gains
taken_more (Some x) None first more has gains = absurd gains
taken_more (Some x) (Some y) first more has gains = gains ∙ ap (λ (b : List ℕ). b ++ more) has

follows_moved : {W : Type 0} (Happens : W → Step → W → Type 0) (mid new : W) (steps : List Step) (accepted : List Accepted) (was now : Seen) → Follows steps accepted was → (moves : Moves (PlaysBy Happens) mid new was now)
    → Follows (steps ++ moves.steps) accepted now
follows_moved Happens mid new steps accepted was now f moves =
    let n = was.session in
    let more = moves.steps in
    let heard_now : heard now.session (steps ++ more) ≡ heard n steps ++ heard n more = ap (λ (s : ℕ). heard s (steps ++ more)) moves.same ∙ heard_joined n steps more in
    let answers_now : answers now.session (steps ++ more) ≡ answers n steps ++ answers n more = ap (λ (s : ℕ). answers s (steps ++ more)) moves.same ∙ answers_joined n steps more in
    let waits_now : may_wait now.session 0 (steps ++ more) ≡ may_wait n (may_wait n 0 steps) more = ap (λ (s : ℕ). may_wait s 0 (steps ++ more)) moves.same ∙ behind_joined unsent_behind n 0 steps more in
    let shut_now : closing now.session None (steps ++ more) ≡ closing n (closing n None steps) more = ap (λ (s : ℕ). closing s None (steps ++ more)) moves.same ∙ behind_joined closing_behind n None steps more in
    record {
      input = f.input;
      known = subst (λ (s : ℕ). IsIn (record { session = Some s; input = f.input }) accepted) (sym moves.same) f.known;
      read = f.read ++ moves.read;
      consumed = Consumes-trans f.input was.left now.left f.read moves.read f.consumed moves.consumed;
      fed_so = ap (λ (b : List ℕ). b ++ moves.read) f.fed_so ∙ append_assoc (heard n steps) was.pending moves.read ∙ ap (λ (b : List ℕ). heard n steps ++ b) moves.fed_so
          ∙ sym (append_assoc (heard n steps) (heard n more) now.pending) ∙ ap (λ (b : List ℕ). b ++ now.pending) (sym heard_now);
      given = f.given ++ moves.given;
      took = taken_more was.taken now.taken f.given moves.given f.took moves.taken;
      answered = answers_now ∙ ap (λ (b : List ℕ). b ++ answers n more) f.answered ∙ append_assoc f.given was.unsent (answers n more)
          ∙ ap (λ (b : List ℕ). f.given ++ b) moves.kept ∙ sym (append_assoc f.given moves.given now.unsent);
      few = omega (arith, moves.few, waits_now, may_wait_le n (length was.unsent) (may_wait n 0 steps) more f.few);
      shut = moves.shut ∙ ap (λ (c : Option ℕ). closing n c more) f.shut ∙ sym shut_now;
    }

behind_more : (next : ℕ) (f : Finished) → IsBehind next f → IsBehind (next + 1) f
behind_more next (refused left taken) h = tt
behind_more next (served link fate) h = omega (arith, h)

apart_more : (links : List Seen) (link : Seen) (next : ℕ) → link.session ≡ next → (f : Finished) → IsApart links f → IsBehind next f → IsApart (links ++ link ∷ []) f
apart_more links link next is (refused left taken) apart gone = tt
apart_more links link next is (served was fate) apart gone = all_joined (λ l. was.session ≢ l.session) links (link ∷ []) apart ((λ e. omega (arith, is, gone, e)), tt)

all_apart : (links : List Seen) (link : Seen) (next : ℕ) → link.session ≡ next → (finished : List Finished) → AllByRecursion (IsApart links) finished → AllByRecursion (IsBehind next) finished
    → AllByRecursion (IsApart (links ++ link ∷ [])) finished
all_apart links link next is [] apart gone = tt
all_apart links link next is (f ∷ fs) apart gone = (apart_more links link next is f apart.0 gone.0, all_apart links link next is fs apart.1 gone.1)

apart_without : (links : List Seen) (k : ℕ) (f : Finished) → IsApart links f → IsApart (remove links k) f
apart_without links k (refused left taken) apart = tt
apart_without links k (served was fate) apart = all_removed (λ l. was.session ≢ l.session) links k apart

apart_with : (links : List Seen) (k : ℕ) (d now : Seen) → now.session ≡ (get_or links k d).session → (f : Finished) → IsApart links f → IsApart (set links k now) f
apart_with links k d now is (refused left taken) apart = tt
apart_with links k d now is (served was fate) apart = apart_set (λ n. was.session ≢ n) links k d now is apart

-- a session that ends, is opened or is refused is not that of a connection that was closed before
quiet_end : (links : List Seen) (k : ℕ) (d : Seen) → k < length links → (session : ℕ) → session ≡ (get_or links k d).session → (f : Finished) → IsApart links f → IsQuiet (ended session ∷ []) f
quiet_end links k d lt session is (refused left taken) apart = tt
quiet_end links k d lt session is (served link fate) apart =
    let other : session ≢ link.session = (λ e. all_at (λ l. link.session ≢ l.session) links k d lt apart (sym e ∙ is)) in (silent_ended link.session session, other_end link.session session other)

quiet_start : (next : ℕ) (f : Finished) → IsBehind next f → IsQuiet (opened (Some next) ∷ []) f
quiet_start next (refused left taken) gone = tt
quiet_start next (served link fate) gone =
    let other : next ≢ link.session = (λ e. omega (arith, e, gone)) in (silent_opened link.session (Some next), other_start link.session next other)

quiet_refusal : (next : ℕ) (f : Finished) → IsBehind next f → IsQuiet (opened None ∷ []) f
quiet_refusal next (refused left taken) gone = tt
quiet_refusal next (served link fate) gone = (silent_opened link.session None, refl)

numbered_low : (first : ℕ) (links : List Seen) (next : ℕ) → AreNumbered first links next → AllByRecursion (λ l. l.session < next) links
numbered_low first [] next numbered = tt
numbered_low first (l ∷ ls) next numbered = (number_below first (l ∷ ls) next 0 l numbered (omega arith), numbered_low (suc l.session) ls next numbered.1)

-- at the beginning no connection has arrived
pub begins : {W : Type 0} (Happens : W → Step → W → Type 0) (coming : Option (List (List ℕ))) (closed : Option (List Closed)) (world : W) (next : ℕ) → Hosts (PlaysBy Happens) coming coming closed closed world world next 0 []
begins Happens coming closed world next = record {
  steps = [];
  played = refl;
  fair = tt;
  few = omega arith;
  open_are = refl;
  accepted = [];
  many = refl;
  come = refl;
  finished = [];
  close = refl;
  sessions = record { opened_so = refl; ascend = λ i j d lt le. absurd (omega (arith, le)); once_each = IsPermutation-refl []; no_others = tt };
  counted = refl;
  live = tt;
  stay_open = tt;
  were_served = tt;
  numbered = omega arith;
  below = tt;
  gone = tt;
  apart = tt;
}

-- ---- all of them

module _ {W : Type 0} (Happens : W → Step → W → Type 0) (coming_old coming : Option (List (List ℕ))) (closed_old closed : Option (List Closed)) (old now : W) (next count : ℕ) (links : List Seen)
    (hosts : Hosts (PlaysBy Happens) coming_old coming closed_old closed old now next count links) where
  -- the same number, written in another way
  pub recounted : (again : ℕ) → count ≡ again → Hosts (PlaysBy Happens) coming_old coming closed_old closed old now next again links
  recounted again same = subst (λ (n : ℕ). Hosts (PlaysBy Happens) coming_old coming closed_old closed old now next n links) same hosts

  -- another outside, with the same connections to come and the same closed ones
  pub same_outside : (coming_new : Option (List (List ℕ))) (closed_new : Option (List Closed)) → coming_new ≡ coming → closed_new ≡ closed → Hosts (PlaysBy Happens) coming_old coming_new closed_old closed_new old now next count links
  same_outside coming_new closed_new same_coming same_closed =
      subst (λ (c : Option (List (List ℕ))). Hosts (PlaysBy Happens) coming_old c closed_old closed_new old now next count links) (sym same_coming)
      (subst (λ (c : Option (List Closed)). Hosts (PlaysBy Happens) coming_old coming closed_old c old now next count links) (sym same_closed) hosts)

  open_few : length links ≤ 1000
  open_few = omega (arith, few_behind 1000 0 hosts.steps hosts.few, hosts.open_are)

  -- the connection at a place has a turn
  pub moved : (new : W) (next_new : ℕ) (k : ℕ) (d was link : Seen) → k < length links → was ≡ get_or links k d → next_new ≡ next → Moves (PlaysBy Happens) now new was link
      → Hosts (PlaysBy Happens) coming_old coming closed_old closed old new next_new count (set links k link)
  moved new next_new k d was link lt is same moves =
      let session_is : link.session ≡ (get_or links k d).session = moves.same ∙ ap (λ (s : Seen). s.session) is in
      let own : AllByRecursion (IsPieceOf link.session) moves.steps = subst (λ (n : ℕ). AllByRecursion (IsPieceOf n) moves.steps) (sym moves.same) moves.own in
      let follows : Follows hosts.steps hosts.accepted was = subst (Follows hosts.steps hosts.accepted) (sym is) (all_at (Follows hosts.steps hosts.accepted) links k d lt hosts.live) in
      let follows_now = follows_moved Happens now new hosts.steps hosts.accepted was link follows moves in
      let below : link.session < next = subst (λ (n : ℕ). n < next) (sym session_is) (number_below 0 links next k d hosts.numbered lt) in
      subst (λ (n : ℕ). Hosts (PlaysBy Happens) coming_old coming closed_old closed old new n count (set links k link)) (sym same) (record {
        steps = hosts.steps ++ moves.steps;
        played = plays_joined Happens old now new hosts.steps moves.steps hosts.played moves.played;
        fair = all_joined IsFair hosts.steps moves.steps hosts.fair (pieces_fair link.session moves.steps own);
        few = few_joined 1000 0 hosts.steps moves.steps hosts.few (pieces_few link.session 1000 (open_behind 0 hosts.steps) moves.steps (few_behind 1000 0 hosts.steps hosts.few) own);
        open_are = open_joined 0 hosts.steps moves.steps ∙ pieces_open link.session (open_behind 0 hosts.steps) moves.steps own ∙ hosts.open_are ∙ sym (length-set links k link);
        accepted = hosts.accepted;
        many = hosts.many;
        come = hosts.come;
        finished = hosts.finished;
        close = hosts.close;
        sessions = record {
          opened_so = openings_same hosts.steps moves.steps hosts.accepted (openings_pieces link.session moves.steps own) hosts.sessions.opened_so;
          ascend = hosts.sessions.ascend;
          once_each = shared_set (sessions_of hosts.accepted) hosts.finished links k d link session_is hosts.sessions.once_each;
          no_others = all_joined (λ step. IsIn (session_in step) (sessions_of hosts.accepted)) hosts.steps moves.steps hosts.sessions.no_others
              (pieces_of_one link.session follows_now.input hosts.accepted follows_now.known moves.steps own);
        };
        counted = hosts.counted ∙ ap (λ (n : ℕ). length hosts.finished + n) (sym (length-set links k link));
        live = live_moved hosts.steps moves.steps hosts.accepted link own follows_now 0 links next k d hosts.numbered lt session_is hosts.live;
        stay_open = apart_set (λ n. IsOpen (hosts.steps ++ moves.steps) n) links k d link session_is (all_fed link.session hosts.steps moves.steps links own hosts.stay_open);
        were_served = served_moved hosts.steps moves.steps hosts.accepted link own follows_now links k d lt session_is hosts.finished hosts.apart hosts.were_served;
        numbered = numbered_set 0 links next k d link session_is hosts.numbered;
        below = all_joined (IsBelow next) hosts.steps moves.steps hosts.below (pieces_below link.session next below moves.steps own);
        gone = hosts.gone;
        apart = all_weaker (IsApart links) (IsApart (set links k link)) (λ f a. apart_with links k d link session_is f a) hosts.finished hosts.apart;
      })

  -- the connection at a place is closed, and its session ended
  pub closed_at : (new : W) (next_new : ℕ) (coming_new : Option (List (List ℕ))) (closed_new : Option (List Closed)) (k : ℕ) (d was : Seen) (fate : Fate) → k < length links → was ≡ get_or links k d → next_new ≡ next
      → Happens now (ended was.session) new → Settles fate was → coming_new ≡ coming → Closes closed was.left was.taken fate closed_new
      → Hosts (PlaysBy Happens) coming_old coming_new closed_old closed_new old new next_new count (remove links k)
  closed_at new next_new coming_new closed_new k d was fate lt is same happens settles same_coming closes =
      let last : Finished = served was fate in
      let more : List Step = ended was.session ∷ [] in
      let silent : (s : ℕ) → IsSilent s more = (λ s. silent_ended s was.session) in
      let follows : Follows hosts.steps hosts.accepted was = subst (Follows hosts.steps hosts.accepted) (sym is) (all_at (Follows hosts.steps hosts.accepted) links k d lt hosts.live) in
      let session_is : was.session ≡ (get_or links k d).session = ap (λ (s : Seen). s.session) is in
      let below : was.session < next = subst (λ (n : ℕ). n < next) (sym session_is) (number_below 0 links next k d hosts.numbered lt) in
      let others = subst (λ (n : ℕ). AllByRecursion (λ l. n ≢ l.session) (remove links k)) (sym session_is) (apart_removed 0 links next k d hosts.numbered lt) in
      let was_open : IsOpen hosts.steps was.session = subst (λ (n : ℕ). IsOpen hosts.steps n) (sym session_is) (all_at (λ l. IsOpen hosts.steps l.session) links k d lt hosts.stay_open) in
      let shorter = length_removed links k lt in
      subst (λ (n : ℕ). Hosts (PlaysBy Happens) coming_old coming_new closed_old closed_new old new n count (remove links k)) (sym same) (record {
        steps = hosts.steps ++ more;
        played = plays_more Happens old now new hosts.steps (ended was.session) hosts.played happens;
        fair = all_joined IsFair hosts.steps more hosts.fair (tt, tt);
        few = few_joined 1000 0 hosts.steps more hosts.few (few_behind 1000 0 hosts.steps hosts.few, omega (arith, few_behind 1000 0 hosts.steps hosts.few));
        open_are = omega (arith, open_joined 0 hosts.steps more, hosts.open_are, shorter);
        accepted = hosts.accepted;
        many = hosts.many;
        come = subst (Come coming_old hosts.accepted) (sym same_coming) hosts.come;
        finished = hosts.finished ++ last ∷ [];
        close = close_more closed_old closed closed_new hosts.finished last hosts.close closes;
        sessions = record {
          opened_so = openings_same hosts.steps more hosts.accepted refl hosts.sessions.opened_so;
          ascend = hosts.sessions.ascend;
          once_each = shared_closed (sessions_of hosts.accepted) hosts.finished links k d was fate lt is hosts.sessions.once_each;
          no_others = all_joined (λ step. IsIn (session_in step) (sessions_of hosts.accepted)) hosts.steps more hosts.sessions.no_others (end_of_one was.session follows.input hosts.accepted follows.known, tt);
        };
        counted = omega (arith, hosts.counted, length-append hosts.finished (last ∷ []), shorter);
        live = all_removed (Follows (hosts.steps ++ more) hosts.accepted) links k (all_live_still hosts.steps more silent hosts.accepted hosts.accepted (λ x h. h) links hosts.live);
        stay_open = all_open_still (λ n. was.session ≢ n) hosts.steps more (λ s other. other_end s was.session other) (remove links k) others (all_removed (λ l. IsOpen hosts.steps l.session) links k hosts.stay_open);
        were_served = all_joined (WasServed (hosts.steps ++ more) hosts.accepted) hosts.finished (last ∷ [])
            (all_served_still hosts.steps more silent hosts.accepted hosts.accepted (λ x h. h) hosts.finished
            (all_weaker (IsApart links) (IsQuiet more) (λ f a. quiet_end links k d lt was.session session_is f a) hosts.finished hosts.apart) hosts.were_served)
            ((follows_still hosts.steps more hosts.accepted hosts.accepted was (silent was.session) (λ x h. h) follows, settles, ends_so was.session hosts.steps was_open), tt);
        numbered = numbered_removed 0 links next k hosts.numbered;
        below = all_joined (IsBelow next) hosts.steps more hosts.below (below, tt);
        gone = all_joined (IsBehind next) hosts.finished (last ∷ []) hosts.gone (below, tt);
        apart = all_joined (IsApart (remove links k)) hosts.finished (last ∷ [])
            (all_weaker (IsApart links) (IsApart (remove links k)) (λ f a. apart_without links k f a) hosts.finished hosts.apart) (others, tt);
      })

  -- a connection arrives, and its session is opened
  pub opened_for : (new : W) (next_new : ℕ) (coming_new : Option (List (List ℕ))) (closed_new : Option (List Closed)) (link : Seen) → length links < 1000 → next_new ≡ next + 1
      → Happens now (opened (Some next)) new → Accepts coming link.left coming_new → HasTaken link.taken [] → link ≡ record { session = next; left = link.left; taken = link.taken; unsent = []; pending = []; closing = None } → closed_new ≡ closed
      → Hosts (PlaysBy Happens) coming_old coming_new closed_old closed_new old new next_new (count + 1) (links ++ link ∷ [])
  opened_for new next_new coming_new closed_new link room same happens accepts has fresh same_closed =
      let is : link.session ≡ next = ap (λ (s : Seen). s.session) fresh in
      let last : Accepted = record { session = Some link.session; input = link.left } in
      let more : List Step = opened (Some next) ∷ [] in
      let silent : (s : ℕ) → IsSilent s more = (λ s. silent_opened s (Some next)) in
      let n = link.session in
      let nothing : IsSilent n hosts.steps = subst (λ (m : ℕ). IsSilent m hosts.steps) (sym is) (silent_none next hosts.steps hosts.below) in
      let within : (x : Accepted) → IsIn x hosts.accepted → IsIn x (hosts.accepted ++ last ∷ []) = (λ x h. in_left x hosts.accepted (last ∷ []) h) in
      let follows : Follows hosts.steps (hosts.accepted ++ last ∷ []) link = record {
        input = link.left;
        known = in_last last hosts.accepted;
        read = [];
        consumed = Consumes-nil link.left;
        fed_so = sym (ap (λ (b : List ℕ). b ++ link.pending) nothing.no_bytes ∙ ap (λ (s : Seen). s.pending) fresh);
        given = [];
        took = has;
        answered = nothing.no_answers ∙ sym (ap (λ (s : Seen). s.unsent) fresh);
        few = omega (arith, ap (λ (s : Seen). length s.unsent) fresh);
        shut = ap (λ (s : Seen). s.closing) fresh ∙ sym (nothing.no_fault None);
      } in
      subst (λ (m : ℕ). Hosts (PlaysBy Happens) coming_old coming_new closed_old closed_new old new m (count + 1) (links ++ link ∷ [])) (sym same) (record {
        steps = hosts.steps ++ more;
        played = plays_more Happens old now new hosts.steps (opened (Some next)) hosts.played happens;
        fair = all_joined IsFair hosts.steps more hosts.fair (tt, tt);
        few = few_joined 1000 0 hosts.steps more hosts.few (few_behind 1000 0 hosts.steps hosts.few, omega (arith, hosts.open_are, room));
        open_are = omega (arith, open_joined 0 hosts.steps more, hosts.open_are, length-append links (link ∷ []));
        accepted = hosts.accepted ++ last ∷ [];
        many = omega (arith, hosts.many, length-append hosts.accepted (last ∷ []));
        come = come_more coming_old coming coming_new hosts.accepted last hosts.come accepts;
        finished = hosts.finished;
        close = subst (Close closed_old hosts.finished) (sym same_closed) hosts.close;
        sessions = record {
          opened_so = subst (λ (n : ℕ). openings (hosts.steps ++ opened (Some n) ∷ []) ≡ sessions_of (hosts.accepted ++ last ∷ [])) is (openings_more hosts.steps hosts.accepted last hosts.sessions.opened_so);
          ascend = ascend_more hosts.steps next hosts.accepted last (ap (λ (n : ℕ). Some n) is) hosts.below hosts.sessions.opened_so hosts.sessions.ascend;
          once_each = shared_opened hosts.accepted last hosts.finished links link refl hosts.sessions.once_each;
          no_others = subst (λ (n : ℕ). AllByRecursion (λ step. IsIn (session_in step) (sessions_of (hosts.accepted ++ last ∷ []))) (hosts.steps ++ opened (Some n) ∷ [])) is
              (opened_of_one hosts.steps hosts.accepted (hosts.accepted ++ last ∷ []) last (sessions_within hosts.accepted (last ∷ [])) (in_last last hosts.accepted) hosts.sessions.no_others);
        };
        counted = omega (arith, hosts.counted, length-append hosts.accepted (last ∷ []), length-append links (link ∷ []));
        live = all_joined (Follows (hosts.steps ++ more) (hosts.accepted ++ last ∷ [])) links (link ∷ []) (all_live_still hosts.steps more silent hosts.accepted (hosts.accepted ++ last ∷ []) within links hosts.live)
            (follows_still hosts.steps more (hosts.accepted ++ last ∷ []) (hosts.accepted ++ last ∷ []) link (silent n) (λ x h. h) follows, tt);
        stay_open = all_joined (λ l. IsOpen (hosts.steps ++ more) l.session) links (link ∷ [])
            (all_open_still (λ n. n < next) hosts.steps more (λ s lt. other_start s next (λ e. omega (arith, e, lt))) links (numbered_low 0 links next hosts.numbered) hosts.stay_open)
            (subst (λ (m : ℕ). IsOpen (hosts.steps ++ more) m) (sym is) (opens_so next hosts.steps hosts.below), tt);
        were_served = all_served_still hosts.steps more silent hosts.accepted (hosts.accepted ++ last ∷ []) within hosts.finished
            (all_weaker (IsBehind next) (IsQuiet more) (λ f h. quiet_start next f h) hosts.finished hosts.gone) hosts.were_served;
        numbered = numbered_more 0 links next link is hosts.numbered;
        below = all_joined (IsBelow (next + 1)) hosts.steps more (below_more next hosts.steps hosts.below) (omega arith, tt);
        gone = all_weaker (IsBehind next) (IsBehind (next + 1)) (λ f h. behind_more next f h) hosts.finished hosts.gone;
        apart = all_apart links link next is hosts.finished hosts.apart hosts.gone;
      })

  -- a connection arrives, no session is opened, and it is closed
  pub refused_for : (new : W) (next_new : ℕ) (coming_new : Option (List (List ℕ))) (closed_new : Option (List Closed)) (left taken : Option (List ℕ)) → next_new ≡ next
      → Happens now (opened None) new → Accepts coming left coming_new → HasTaken taken [] → Closes closed left taken Failed closed_new
      → Hosts (PlaysBy Happens) coming_old coming_new closed_old closed_new old new next_new (count + 1) links
  refused_for new next_new coming_new closed_new left taken same happens accepts has closes =
      let last : Accepted = record { session = None; input = left } in
      let gone_one : Finished = refused left taken in
      let more : List Step = opened None ∷ [] in
      let silent : (s : ℕ) → IsSilent s more = (λ s. silent_opened s None) in
      let within : (x : Accepted) → IsIn x hosts.accepted → IsIn x (hosts.accepted ++ last ∷ []) = (λ x h. in_left x hosts.accepted (last ∷ []) h) in
      let most = few_behind 1000 0 hosts.steps hosts.few in
      subst (λ (n : ℕ). Hosts (PlaysBy Happens) coming_old coming_new closed_old closed_new old new n (count + 1) links) (sym same) (record {
        steps = hosts.steps ++ more;
        played = plays_more Happens old now new hosts.steps (opened None) hosts.played happens;
        fair = all_joined IsFair hosts.steps more hosts.fair (tt, tt);
        few = few_joined 1000 0 hosts.steps more hosts.few (most, most);
        open_are = open_joined 0 hosts.steps more ∙ hosts.open_are;
        accepted = hosts.accepted ++ last ∷ [];
        many = omega (arith, hosts.many, length-append hosts.accepted (last ∷ []));
        come = come_more coming_old coming coming_new hosts.accepted last hosts.come accepts;
        finished = hosts.finished ++ gone_one ∷ [];
        close = close_more closed_old closed closed_new hosts.finished gone_one hosts.close closes;
        sessions = record {
          opened_so = openings_more hosts.steps hosts.accepted last hosts.sessions.opened_so;
          ascend = ascend_still hosts.accepted last refl hosts.sessions.ascend;
          once_each = shared_refused hosts.accepted last hosts.finished left taken links refl hosts.sessions.once_each;
          no_others = opened_of_one hosts.steps hosts.accepted (hosts.accepted ++ last ∷ []) last (sessions_within hosts.accepted (last ∷ [])) (in_last last hosts.accepted) hosts.sessions.no_others;
        };
        counted = omega (arith, hosts.counted, length-append hosts.accepted (last ∷ []), length-append hosts.finished (gone_one ∷ []));
        live = all_live_still hosts.steps more silent hosts.accepted (hosts.accepted ++ last ∷ []) within links hosts.live;
        stay_open = all_open_still (λ n. n < next) hosts.steps more (λ s lt. refl) links (numbered_low 0 links next hosts.numbered) hosts.stay_open;
        were_served = all_joined (WasServed (hosts.steps ++ more) (hosts.accepted ++ last ∷ [])) hosts.finished (gone_one ∷ [])
            (all_served_still hosts.steps more silent hosts.accepted (hosts.accepted ++ last ∷ []) within hosts.finished
            (all_weaker (IsBehind next) (IsQuiet more) (λ f h. quiet_refusal next f h) hosts.finished hosts.gone) hosts.were_served)
            ((left, in_last last hosts.accepted, Keeps-refl left, has), tt);
        numbered = hosts.numbered;
        below = all_joined (IsBelow next) hosts.steps more hosts.below (tt, tt);
        gone = all_joined (IsBehind next) hosts.finished (gone_one ∷ []) hosts.gone (tt, tt);
        apart = all_joined (IsApart links) hosts.finished (gone_one ∷ []) hosts.apart (tt, tt);
      })

-- if none is open, all were served
pub all_served : {W : Type 0} (Happens : W → Step → W → Type 0) (coming_old coming : Option (List (List ℕ))) (closed_old closed : Option (List Closed)) (old now : W) (next count : ℕ)
    → Hosts (PlaysBy Happens) coming_old coming closed_old closed old now next count []
    → (served : Served (PlaysBy Happens) coming_old coming closed_old closed old now count) × AreBelow next served.accepted
all_served Happens coming_old coming closed_old closed old now next count hosts = (
  record {
    steps = hosts.steps;
    played = hosts.played;
    fair = hosts.fair;
    few = hosts.few;
    none_open = hosts.open_are;
    accepted = hosts.accepted;
    many = hosts.many;
    come = hosts.come;
    finished = hosts.finished;
    close = hosts.close;
    sessions = record {
      opened_so = hosts.sessions.opened_so;
      ascend = hosts.sessions.ascend;
      once_each = subst (IsPermutation (sessions_of hosts.accepted)) (append-nil (map session_at hosts.finished)) hosts.sessions.once_each;
      no_others = hosts.sessions.no_others;
    };
    were_served = hosts.were_served;
  },
  accepted_low next hosts.steps hosts.accepted hosts.below hosts.sessions.opened_so,
)
