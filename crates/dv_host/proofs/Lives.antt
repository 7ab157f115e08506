-- What happens to each session: it is opened, receives pieces of its bytes, and ends.
use Rattle.std.proofs.Common.{◌≡◌, ◌≢◌, ℕ, ◌<◌, List, [], ◌∷◌, ◌++◌, Option, Some, None, map, length, get_or, set, refl, sym, ap, subst, ◌∙◌, append_assoc, append-nil, arith, inl, inr, IfSome}
use Rattle.std.proofs.lemmas.Bool.{eq-eqb, ne_eqb}
use Rattle.std.proofs.lemmas.Bool.Decides.{eqb_tells}
use Rattle.std.proofs.lemmas.List.{get_or_default, length-map, map-append}
use Rattle.std.proofs.lemmas.List.Elements.{filter-append, filter_map-append}
use Rattle.std.proofs.lemmas.List.Quantifiers.{all_pairs_push}
use Rattle.std.proofs.lemmas.List.Sorted.{IsPermutation-append_left, IsPermutation-middle, IsPermutation-more, IsPermutation-push_more, IsPermutation-sym}
use Rattle.std.proofs.Math.Seq.{map-set_same}
use Rattle.std.specs.List.{AllByRecursion, AllPairs, cons_option, filter_map, remove}
use Rattle.std.specs.List.Sorted.{IsPermutation}
use Rattle.dv_host.specs.declared.link.Fate.{Fate}
use Rattle.dv_host.specs.Schedule.{Step, opened, fed, ended, session_in, is_step_of, steps_of, openings, HasEnded, IsPieceOf}
use Rattle.dv_host.specs.View.{Seen}
use Rattle.dv_host.specs.Host.{Accepted, AreBelow, Finished, refused, served, sessions_of, session_at, IsIn}
use Rattle.dv_host.specs.Inner.Hosting.{IsOpen, IsBelow}
use Rattle.dv_host.proofs.Schedules.{all_joined}
use Rattle.dv_host.proofs.Links.{all_at, map_at, map_removed}

-- ---- the steps of one session

module _ (session : ℕ) where
  steps_joined : (first second : List Step) → steps_of session (first ++ second) ≡ steps_of session first ++ steps_of session second
  steps_joined first second = filter-append (is_step_of session) first second

  -- pieces of it are its steps
  own_steps : (steps : List Step) → AllByRecursion (IsPieceOf session) steps → steps_of session steps ≡ steps
  own_steps [] own = refl
  own_steps (opened result ∷ steps) own = absurd own.0
  own_steps (fed s piece bytes told ∷ steps) own = rw (eq-eqb s session own.0.0) (ap (λ (b : List Step). fed s piece bytes told ∷ b) (own_steps steps own.1))
  own_steps (ended s ∷ steps) own = absurd own.0

  -- pieces of another are not
  pub other_steps : (other : ℕ) → other ≢ session → (steps : List Step) → AllByRecursion (IsPieceOf other) steps → steps_of session steps ≡ []
  other_steps other apart [] own = refl
  other_steps other apart (opened result ∷ steps) own = absurd own.0
  other_steps other apart (fed s piece bytes told ∷ steps) own = let ne : s ≢ session = (λ e. apart (sym own.0.0 ∙ e)) in rw (ne_eqb s session ne) (other_steps other apart steps own.1)
  other_steps other apart (ended s ∷ steps) own = absurd own.0

  -- nor are the end and the opening of another
  pub other_end : (other : ℕ) → other ≢ session → steps_of session (ended other ∷ []) ≡ []
  other_end other apart = rw (ne_eqb other session apart) refl

  pub other_start : (other : ℕ) → other ≢ session → steps_of session (opened (Some other) ∷ []) ≡ []
  other_start other apart = rw (ne_eqb other session apart) refl

  -- a session that wasn't opened yet has none
  none_yet : (steps : List Step) → AllByRecursion (IsBelow session) steps → steps_of session steps ≡ []
  none_yet [] below = refl
  none_yet (opened None ∷ steps) below = none_yet steps below.1
  none_yet (opened (Some s) ∷ steps) below = let lt : s < session = below.0 in let ne : s ≢ session = (λ e. omega (arith, e, lt)) in rw (ne_eqb s session ne) (none_yet steps below.1)
  none_yet (fed s piece bytes told ∷ steps) below = let lt : s < session = below.0 in let ne : s ≢ session = (λ e. omega (arith, e, lt)) in rw (ne_eqb s session ne) (none_yet steps below.1)
  none_yet (ended s ∷ steps) below = let lt : s < session = below.0 in let ne : s ≢ session = (λ e. omega (arith, e, lt)) in rw (ne_eqb s session ne) (none_yet steps below.1)

  -- ---- sessions that are open, or have ended

  pub opens_so : (steps : List Step) → AllByRecursion (IsBelow session) steps → IsOpen (steps ++ opened (Some session) ∷ []) session
  opens_so steps below = record {
    pieces = [];
    are_pieces = tt;
    in_order = steps_joined steps (opened (Some session) ∷ []) ∙ ap (λ (b : List Step). b ++ steps_of session (opened (Some session) ∷ [])) (none_yet steps below) ∙ rw (eq-eqb session session refl) refl;
  }

  pub ends_so : (steps : List Step) → IsOpen steps session → HasEnded (steps ++ ended session ∷ []) session
  ends_so steps was = record {
    pieces = was.pieces;
    are_pieces = was.are_pieces;
    in_order = steps_joined steps (ended session ∷ []) ∙ ap (λ (b : List Step). b ++ steps_of session (ended session ∷ [])) was.in_order ∙ rw (eq-eqb session session refl) refl;
  }

  joined_none : (steps more : List Step) → steps_of session more ≡ [] → steps_of session (steps ++ more) ≡ steps_of session steps
  joined_none steps more none = steps_joined steps more ∙ ap (λ (b : List Step). steps_of session steps ++ b) none ∙ append-nil (steps_of session steps)

  pub open_still : (steps more : List Step) → steps_of session more ≡ [] → IsOpen steps session → IsOpen (steps ++ more) session
  open_still steps more none was = record { pieces = was.pieces; are_pieces = was.are_pieces; in_order = joined_none steps more none ∙ was.in_order }

  pub ended_still : (steps more : List Step) → steps_of session more ≡ [] → HasEnded steps session → HasEnded (steps ++ more) session
  ended_still steps more none was = record { pieces = was.pieces; are_pieces = was.are_pieces; in_order = joined_none steps more none ∙ was.in_order }

  open_fed : (steps more : List Step) → AllByRecursion (IsPieceOf session) more → IsOpen steps session → IsOpen (steps ++ more) session
  open_fed steps more own was = record {
    pieces = was.pieces ++ more;
    are_pieces = all_joined (IsPieceOf session) was.pieces more was.are_pieces own;
    in_order = steps_joined steps more ∙ ap (λ (b : List Step). b ++ steps_of session more) was.in_order ∙ ap (λ (b : List Step). opened (Some session) ∷ was.pieces ++ b) (own_steps more own);
  }

-- whatever session these pieces are of
pub open_more : (session other : ℕ) (steps more : List Step) → AllByRecursion (IsPieceOf other) more → IsOpen steps session → IsOpen (steps ++ more) session
open_more session other steps more own was =
    elim (eqb_tells other session) [
      | inl same ↦ open_fed session steps more (subst (λ (s : ℕ). AllByRecursion (IsPieceOf s) more) same.1 own) was
      | inr apart ↦ open_still session steps more (other_steps session other apart.1 more own) was
    ]

-- the sessions of open connections stay open, if one of them has a turn, or none of them has a step
pub all_fed : (other : ℕ) (steps more : List Step) (links : List Seen) → AllByRecursion (IsPieceOf other) more → AllByRecursion (λ l. IsOpen steps l.session) links → AllByRecursion (λ l. IsOpen (steps ++ more) l.session) links
all_fed other steps more [] own were = were
all_fed other steps more (l ∷ ls) own were = (open_more l.session other steps more own were.0, all_fed other steps more ls own were.1)

pub all_open_still : (P : ℕ → Type 0) (steps more : List Step) (none : (s : ℕ) → P s → steps_of s more ≡ []) (links : List Seen) → AllByRecursion (λ l. P l.session) links → AllByRecursion (λ l. IsOpen steps l.session) links
    → AllByRecursion (λ l. IsOpen (steps ++ more) l.session) links
all_open_still P steps more none [] those were = were
all_open_still P steps more none (l ∷ ls) those were = (open_still l.session steps more (none l.session those.0) were.0, all_open_still P steps more none ls those.1 were.1)

-- ---- what was opened

pub openings_joined : (first second : List Step) → openings (first ++ second) ≡ openings first ++ openings second
openings_joined [] second = refl
openings_joined (opened result ∷ first) second = ap (λ (b : List (Option ℕ)). result ∷ b) (openings_joined first second)
openings_joined (fed s piece bytes told ∷ first) second = openings_joined first second
openings_joined (ended s ∷ first) second = openings_joined first second

-- pieces open nothing
pub openings_pieces : (session : ℕ) (steps : List Step) → AllByRecursion (IsPieceOf session) steps → openings steps ≡ []
openings_pieces session [] own = refl
openings_pieces session (opened result ∷ steps) own = absurd own.0
openings_pieces session (fed s piece bytes told ∷ steps) own = openings_pieces session steps own.1
openings_pieces session (ended s ∷ steps) own = absurd own.0

pub openings_same : (steps more : List Step) (accepted : List Accepted) → openings more ≡ [] → openings steps ≡ sessions_of accepted → openings (steps ++ more) ≡ sessions_of accepted
openings_same steps more accepted none are = openings_joined steps more ∙ ap (λ (b : List (Option ℕ)). openings steps ++ b) none ∙ append-nil (openings steps) ∙ are

sessions_more : (accepted : List Accepted) (last : Accepted) → sessions_of (accepted ++ last ∷ []) ≡ sessions_of accepted ++ last.session ∷ []
sessions_more accepted last = map-append (λ (one : Accepted). one.session) accepted (last ∷ [])

pub openings_more : (steps : List Step) (accepted : List Accepted) (last : Accepted) → openings steps ≡ sessions_of accepted → openings (steps ++ opened last.session ∷ []) ≡ sessions_of (accepted ++ last ∷ [])
openings_more steps accepted last are = openings_joined steps (opened last.session ∷ []) ∙ ap (λ (b : List (Option ℕ)). b ++ last.session ∷ []) are ∙ sym (sessions_more accepted last)

-- ---- numbers that ascend

abbrev numbers_of : List Accepted → List ℕ
numbers_of accepted = filter_map (λ (one : Accepted). one.session) accepted

abbrev are_low : ℕ → List (Option ℕ) → Type 0
are_low next all = AllByRecursion (λ one. IfSome one (λ s. s < next)) all

openings_low : (next : ℕ) (steps : List Step) → AllByRecursion (IsBelow next) steps → are_low next (openings steps)
openings_low next [] below = tt
openings_low next (opened result ∷ steps) below = (below.0, openings_low next steps below.1)
openings_low next (fed s piece bytes told ∷ steps) below = openings_low next steps below.1
openings_low next (ended s ∷ steps) below = openings_low next steps below.1

low_with : (next : ℕ) (one : Option ℕ) (others : List (Option ℕ)) (numbers : List ℕ) → are_low next (one ∷ others) → (are_low next others → AllByRecursion (λ s. s < next) numbers)
    → AllByRecursion (λ s. s < next) (cons_option one numbers)
low_with next None others numbers low more = more low.1
low_with next (Some s) others numbers low more = (low.0, more low.1)

numbers_low : (next : ℕ) (accepted : List Accepted) → are_low next (sessions_of accepted) → AllByRecursion (λ s. s < next) (numbers_of accepted)
numbers_low next [] low = tt
numbers_low next (one ∷ others) low = low_with next one.session (sessions_of others) (numbers_of others) low (numbers_low next others)

pub accepted_low : (next : ℕ) (steps : List Step) (accepted : List Accepted) → AllByRecursion (IsBelow next) steps → openings steps ≡ sessions_of accepted → AreBelow next accepted
accepted_low next steps accepted below are = subst (are_low next) are (openings_low next steps below)

-- the numbers of accepted connections ascend; one more arrives with the next number
pub ascend_more : (steps : List Step) (next : ℕ) (accepted : List Accepted) (last : Accepted) → last.session ≡ Some next → AllByRecursion (IsBelow next) steps → openings steps ≡ sessions_of accepted
    → AllPairs (λ before later. before < later) (filter_map (λ (one : Accepted). one.session) accepted)
    → AllPairs (λ before later. before < later) (filter_map (λ (one : Accepted). one.session) (accepted ++ last ∷ []))
ascend_more steps next accepted last is below are ascend =
    let low = numbers_low next accepted (accepted_low next steps accepted below are) in
    let grown : numbers_of (accepted ++ last ∷ []) ≡ numbers_of accepted ++ next ∷ [] = filter_map-append (λ (one : Accepted). one.session) accepted (last ∷ [])
    ∙ rw is refl in
    subst (AllPairs (λ before later. before < later)) (sym grown) (all_pairs_push (λ (a b : ℕ). a < b) (numbers_of accepted) next ascend (λ k d lt. all_at (λ s. s < next) (numbers_of accepted) k d lt low))

pub ascend_still : (accepted : List Accepted) (last : Accepted) → last.session ≡ None → AllPairs (λ before later. before < later) (filter_map (λ (one : Accepted). one.session) accepted)
    → AllPairs (λ before later. before < later) (filter_map (λ (one : Accepted). one.session) (accepted ++ last ∷ []))
ascend_still accepted last is ascend =
    let same : numbers_of (accepted ++ last ∷ []) ≡ numbers_of accepted = filter_map-append (λ (one : Accepted). one.session) accepted (last ∷ []) ∙ rw is (append-nil (numbers_of accepted)) in
    subst (AllPairs (λ before later. before < later)) (sym same) ascend

-- ---- each session once

abbrev linked : Seen → Option ℕ
linked link = Some link.session

pub shared_set : (all : List (Option ℕ)) (finished : List Finished) (links : List Seen) (k : ℕ) (d now : Seen) → now.session ≡ (get_or links k d).session
    → IsPermutation all (map session_at finished ++ map (λ l. Some l.session) links) → IsPermutation all (map session_at finished ++ map (λ l. Some l.session) (set links k now))
shared_set all finished links k d now is shared =
    subst (λ (b : List (Option ℕ)). IsPermutation all (map session_at finished ++ b)) (sym (map-set_same linked links k now d (ap (λ (n : ℕ). Some n) is))) shared

pub shared_closed : (all : List (Option ℕ)) (finished : List Finished) (links : List Seen) (k : ℕ) (d was : Seen) (fate : Fate) → k < length links → was ≡ get_or links k d
    → IsPermutation all (map session_at finished ++ map (λ l. Some l.session) links) → IsPermutation all (map session_at (finished ++ served was fate ∷ []) ++ map (λ l. Some l.session) (remove links k))
shared_closed all finished links k d was fate lt is shared =
    let there : Some was.session ≡ get_or (map linked links) k (Some was.session) = ap linked (is ∙ get_or_default links k d was lt) ∙ sym (map_at linked links k was) in
    subst (λ (b : List (Option ℕ)). IsPermutation all (b ++ map linked (remove links k))) (sym (map-append session_at finished (served was fate ∷ [])))
    (subst (λ (b : List (Option ℕ)). IsPermutation all ((map session_at finished ++ Some was.session ∷ []) ++ b)) (sym (map_removed linked links k))
    (IsPermutation-more all (map session_at finished) (map linked links) k (Some was.session) (omega (arith, lt, length-map links linked)) there shared))

pub shared_opened : (accepted : List Accepted) (last : Accepted) (finished : List Finished) (links : List Seen) (link : Seen) → last.session ≡ Some link.session
    → IsPermutation (sessions_of accepted) (map session_at finished ++ map (λ l. Some l.session) links)
    → IsPermutation (sessions_of (accepted ++ last ∷ [])) (map session_at finished ++ map (λ l. Some l.session) (links ++ link ∷ []))
shared_opened accepted last finished links link is shared =
    let ends : map session_at finished ++ map linked (links ++ link ∷ []) ≡ (map session_at finished ++ map linked links) ++ last.session ∷ [] =
    ap (λ (b : List (Option ℕ)). map session_at finished ++ b) (map-append linked links (link ∷ [])) ∙ sym (append_assoc (map session_at finished) (map linked links) (Some link.session ∷ []))
    ∙ ap (λ (o : Option ℕ). (map session_at finished ++ map linked links) ++ o ∷ []) (sym is) in
    subst (λ (b : List (Option ℕ)). IsPermutation b (map session_at finished ++ map linked (links ++ link ∷ []))) (sym (sessions_more accepted last))
    (subst (IsPermutation (sessions_of accepted ++ last.session ∷ [])) (sym ends) (IsPermutation-append_left (last.session ∷ []) (sessions_of accepted) (map session_at finished ++ map linked links) shared))

pub shared_refused : (accepted : List Accepted) (last : Accepted) (finished : List Finished) (left taken : Option (List ℕ)) (links : List Seen) → last.session ≡ None
    → IsPermutation (sessions_of accepted) (map session_at finished ++ map (λ l. Some l.session) links)
    → IsPermutation (sessions_of (accepted ++ last ∷ [])) (map session_at (finished ++ refused left taken ∷ []) ++ map (λ l. Some l.session) links)
shared_refused accepted last finished left taken links is shared =
    let ends : map session_at (finished ++ refused left taken ∷ []) ++ map linked links ≡ map session_at finished ++ last.session ∷ map linked links =
    ap (λ (b : List (Option ℕ)). b ++ map linked links) (map-append session_at finished (refused left taken ∷ [])) ∙ append_assoc (map session_at finished) (None ∷ []) (map linked links)
    ∙ ap (λ (o : Option ℕ). map session_at finished ++ o ∷ map linked links) (sym is) in
    subst (λ (b : List (Option ℕ)). IsPermutation b (map session_at (finished ++ refused left taken ∷ []) ++ map linked links)) (sym (sessions_more accepted last))
    (subst (IsPermutation (sessions_of accepted ++ last.session ∷ [])) (sym ends)
    (IsPermutation-push_more (sessions_of accepted) (map session_at finished ++ map linked links) (map session_at finished ++ last.session ∷ map linked links) last.session shared
    (IsPermutation-sym _ _ (IsPermutation-middle (map session_at finished) last.session (map linked links)))))

-- ---- no others

in_sessions : (x : Accepted) (accepted : List Accepted) → IsIn x accepted → IsIn x.session (sessions_of accepted)
in_sessions x [] h = absurd h
in_sessions x (y ∷ ys) (inl e) = inl (ap (λ (one : Accepted). one.session) e)
in_sessions x (y ∷ ys) (inr h) = inr (in_sessions x ys h)

pub pieces_of_one : (session : ℕ) (input : Option (List ℕ)) (accepted : List Accepted) → IsIn (record { session = Some session; input = input }) accepted → (steps : List Step) → AllByRecursion (IsPieceOf session) steps
    → AllByRecursion (λ step. IsIn (session_in step) (sessions_of accepted)) steps
pieces_of_one session input accepted known [] own = own
pieces_of_one session input accepted known (opened result ∷ steps) own = absurd own.0
pieces_of_one session input accepted known (fed s piece bytes told ∷ steps) own =
    (subst (λ (n : ℕ). IsIn (Some n) (sessions_of accepted)) (sym own.0.0) (in_sessions (record { session = Some session; input = input }) accepted known), pieces_of_one session input accepted known steps own.1)
pieces_of_one session input accepted known (ended s ∷ steps) own = absurd own.0

pub end_of_one : (session : ℕ) (input : Option (List ℕ)) (accepted : List Accepted) → IsIn (record { session = Some session; input = input }) accepted → IsIn (Some session) (sessions_of accepted)
end_of_one session input accepted known = in_sessions (record { session = Some session; input = input }) accepted known

pub opened_of_one : (steps : List Step) (accepted among : List Accepted) (last : Accepted) → ((x : Option ℕ) → IsIn x (sessions_of accepted) → IsIn x (sessions_of among)) → IsIn last among
    → AllByRecursion (λ step. IsIn (session_in step) (sessions_of accepted)) steps → AllByRecursion (λ step. IsIn (session_in step) (sessions_of among)) (steps ++ opened last.session ∷ [])
opened_of_one [] accepted among last within known those = (in_sessions last among known, tt)
opened_of_one (step ∷ steps) accepted among last within known those = (within (session_in step) those.0, opened_of_one steps accepted among last within known those.1)

pub sessions_within : (accepted more : List Accepted) (x : Option ℕ) → IsIn x (sessions_of accepted) → IsIn x (sessions_of (accepted ++ more))
sessions_within [] more x h = absurd h
sessions_within (one ∷ others) more x (inl e) = inl e
sessions_within (one ∷ others) more x (inr h) = inr (sessions_within others more x h)
