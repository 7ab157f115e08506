-- What one connection does.
use Rattle.std.proofs.Common.{◌≡◌, ℕ, ◌+◌, ◌<◌, ◌≤◌, List, [], ◌∷◌, ◌++◌, Option, length, take, drop, refl, sym, ap, subst, ◌∙◌, append_assoc, append-nil, arith, length-append, length-drop}
use Rattle.std.proofs.KnownBytes.{Consumes-kept, Consumes-nil, Consumes-trans}
use Rattle.std.proofs.lemmas.List.{drop-append-le, take-append-drop, drop-drop, length-take-le}
use Rattle.std.specs.List.{AllByRecursion}
use Rattle.std.specs.Io.KnownBytes.{Consumes, Keeps}
use Rattle.dv_host.specs.Channel.{Gains}
use Rattle.dv_host.specs.declared.sessions.Fed.{Fed}
use Rattle.dv_host.specs.Schedule.{Step, fed, HappensBy, PlaysBy, IsPieceOf, heard, answers, may_wait, unsent_behind, closed_by, closing, closing_behind}
use Rattle.dv_host.specs.View.{Seen}
use Rattle.dv_host.specs.Inner.Moving.{Fills, Gives, Moves}
use Rattle.dv_host.proofs.Giving.{Gains-nil, Gains-trans}
use Rattle.dv_host.proofs.Schedules.{all_joined, plays_joined, heard_joined, answers_joined, heard_one, answers_one, behind_joined, behind_one, may_wait_le}

-- ---- replies are sent

pub gives_none : (link : Seen) → Gives link link
gives_none link = record { given = []; taken = Gains-nil link.taken; kept = refl; still = refl }

same_left : (was now : Seen) → now.session ≡ was.session → now.left ≡ was.left → now.pending ≡ was.pending → now.closing ≡ was.closing → now ≡ record was { taken = now.taken; unsent = now.unsent }
same_left was now session left pending closing = made now.session was.session now.left was.left now.pending was.pending now.closing was.closing session left pending closing
  where
    made : (s s' : ℕ) (l l' : Option (List ℕ)) (p p' : List ℕ) (c c' : Option ℕ) → s ≡ s' → l ≡ l' → p ≡ p' → c ≡ c'
        → ◌≡◌ {A = Seen} (record { session = s; left = l; taken = now.taken; unsent = now.unsent; pending = p; closing = c })
        (record { session = s'; left = l'; taken = now.taken; unsent = now.unsent; pending = p'; closing = c' })
    made s s' l l' p p' c c' a b d e = cc

-- the first of the unsent bytes are taken
pub gives_some : (was now : Seen) (out : List ℕ) (sent count : ℕ) → was.unsent ≡ drop sent out → now.unsent ≡ drop (sent + count) out
    → now.session ≡ was.session → now.left ≡ was.left → now.pending ≡ was.pending → now.closing ≡ was.closing → Gains was.taken now.taken (take count (drop sent out)) → Gives was now
gives_some was now out sent count is is_now session left pending closing taken = record {
  given = take count (drop sent out);
  taken = taken;
  kept = is ∙ sym (take-append-drop count (drop sent out)) ∙ ap (λ (b : List ℕ). take count (drop sent out) ++ b) (drop-drop count sent out ∙ sym is_now);
  still = same_left was now session left pending closing;
}

-- ---- bytes are read

same_given : (was now : Seen) (pending : List ℕ) → now.session ≡ was.session → now.taken ≡ was.taken → now.unsent ≡ was.unsent → now.pending ≡ pending → now.closing ≡ was.closing
    → now ≡ record was { left = now.left; pending = pending }
same_given was now pending session taken unsent pending_is closing =
    made now.session was.session now.taken was.taken now.unsent was.unsent now.pending pending now.closing was.closing session taken unsent pending_is closing
  where
    made : (s s' : ℕ) (t t' : Option (List ℕ)) (u u' p p' : List ℕ) (c c' : Option ℕ) → s ≡ s' → t ≡ t' → u ≡ u' → p ≡ p' → c ≡ c'
        → ◌≡◌ {A = Seen} (record { session = s; left = now.left; taken = t; unsent = u; pending = p; closing = c })
        (record { session = s'; left = now.left; taken = t'; unsent = u'; pending = p'; closing = c' })
    made s s' t t' u u' p p' c c' a b d e f = cc

pub fills_some : (was now : Seen) (read : List ℕ) → Consumes was.left now.left read → now.session ≡ was.session → now.taken ≡ was.taken → now.unsent ≡ was.unsent → now.pending ≡ was.pending ++ read
    → now.closing ≡ was.closing → Fills was now
fills_some was now read consumed session taken unsent pending closing =
    record { read = read; consumed = consumed; still = same_given was now (was.pending ++ read) session taken unsent pending closing }

-- if nothing is read
pub fills_none : (was now : Seen) → Consumes was.left now.left [] → now.session ≡ was.session → now.taken ≡ was.taken → now.unsent ≡ was.unsent → now.pending ≡ was.pending → now.closing ≡ was.closing → Fills was now
fills_none was now consumed session taken unsent pending closing = fills_some was now [] consumed session taken unsent (pending ∙ sym (append-nil was.pending)) closing

pub keeps_nothing : (from to : Option (List ℕ)) → Keeps from to → Consumes from to []
keeps_nothing from to keeps = Consumes-kept from from to [] (Consumes-nil from) keeps

module _ {W : Type 0} (Happens : W → Step → W → Type 0) where
  pub moves_given : (world : W) (was now : Seen) → Gives was now → Moves (PlaysBy Happens) world world was now
  moves_given world was now gives = record {
    steps = [];
    played = refl;
    own = tt;
    same = ap (λ (s : Seen). s.session) gives.still;
    read = [];
    consumed = subst (λ (left : Option (List ℕ)). Consumes was.left left []) (sym (ap (λ (s : Seen). s.left) gives.still)) (Consumes-nil was.left);
    fed_so = append-nil was.pending ∙ sym (ap (λ (s : Seen). s.pending) gives.still);
    given = gives.given;
    taken = gives.taken;
    kept = append-nil was.unsent ∙ gives.kept;
    few = omega (arith, ap length gives.kept, length-append gives.given now.unsent);
    shut = ap (λ (s : Seen). s.closing) gives.still;
  }

  -- bytes are read
  pub moves_filled : (world : W) (was now : Seen) → Fills was now → Moves (PlaysBy Happens) world world was now
  moves_filled world was now fills = record {
    steps = [];
    played = refl;
    own = tt;
    same = ap (λ (s : Seen). s.session) fills.still;
    read = fills.read;
    consumed = fills.consumed;
    fed_so = sym (ap (λ (s : Seen). s.pending) fills.still);
    given = [];
    taken = subst (λ (taken : Option (List ℕ)). Gains was.taken taken []) (sym (ap (λ (s : Seen). s.taken) fills.still)) (Gains-nil was.taken);
    kept = append-nil was.unsent ∙ sym (ap (λ (s : Seen). s.unsent) fills.still);
    few = omega (arith, ap (λ (s : Seen). length s.unsent) fills.still);
    shut = ap (λ (s : Seen). s.closing) fills.still;
  }

  -- nothing changes
  pub moves_still : (world : W) (was now : Seen) → now ≡ was → Moves (PlaysBy Happens) world world was now
  moves_still world was now same = subst (λ (s : Seen). Moves (PlaysBy Happens) world world was s) (sym same) (moves_given world was was (gives_none was))

  -- two moves, one after the other
  pub moves_joined : (old mid new : W) (was between now : Seen) → Moves (PlaysBy Happens) old mid was between → Moves (PlaysBy Happens) mid new between now → Moves (PlaysBy Happens) old new was now
  moves_joined old mid new was between now one two =
      let n = was.session in
      let heard_more : heard between.session two.steps ≡ heard n two.steps = ap (λ (s : ℕ). heard s two.steps) one.same in
      let answers_more : answers between.session two.steps ≡ answers n two.steps = ap (λ (s : ℕ). answers s two.steps) one.same in
      record {
        steps = one.steps ++ two.steps;
        played = plays_joined Happens old mid new one.steps two.steps one.played two.played;
        own = all_joined (IsPieceOf n) one.steps two.steps one.own (subst (λ (s : ℕ). AllByRecursion (IsPieceOf s) two.steps) one.same two.own);
        same = two.same ∙ one.same;
        read = one.read ++ two.read;
        consumed = Consumes-trans was.left between.left now.left one.read two.read one.consumed two.consumed;
        fed_so = sym (append_assoc was.pending one.read two.read) ∙ ap (λ (b : List ℕ). b ++ two.read) one.fed_so ∙ append_assoc (heard n one.steps) between.pending two.read
            ∙ ap (λ (b : List ℕ). heard n one.steps ++ b) (two.fed_so ∙ ap (λ (b : List ℕ). b ++ now.pending) heard_more)
            ∙ sym (append_assoc (heard n one.steps) (heard n two.steps) now.pending) ∙ ap (λ (b : List ℕ). b ++ now.pending) (sym (heard_joined n one.steps two.steps));
        given = one.given ++ two.given;
        taken = Gains-trans was.taken between.taken now.taken one.given two.given one.taken two.taken;
        kept = ap (λ (b : List ℕ). was.unsent ++ b) (answers_joined n one.steps two.steps) ∙ sym (append_assoc was.unsent (answers n one.steps) (answers n two.steps))
            ∙ ap (λ (b : List ℕ). b ++ answers n two.steps) one.kept ∙ append_assoc one.given between.unsent (answers n two.steps)
            ∙ ap (λ (b : List ℕ). one.given ++ b) (ap (λ (b : List ℕ). between.unsent ++ b) (sym answers_more) ∙ two.kept) ∙ sym (append_assoc one.given two.given now.unsent);
        few = few_joined;
        shut = two.shut ∙ ap (λ (s : ℕ). closing s between.closing two.steps) one.same ∙ ap (λ (c : Option ℕ). closing n c two.steps) one.shut ∙ sym (behind_joined closing_behind n was.closing one.steps two.steps);
      }
    where
      few_joined : length now.unsent ≤ may_wait was.session (length was.unsent) (one.steps ++ two.steps)
      few_joined =
          let n = was.session in
          let here : length now.unsent ≤ may_wait n (length between.unsent) two.steps = subst (λ (s : ℕ). length now.unsent ≤ may_wait s (length between.unsent) two.steps) one.same two.few in
          let more = may_wait_le n (length between.unsent) (may_wait n (length was.unsent) one.steps) two.steps one.few in
          omega (arith, here, more, behind_joined unsent_behind n (length was.unsent) one.steps two.steps)

-- a piece is fed
pub moves_fed : {W : Type 0} (Opens : W → Option ℕ → W → Type 0) (Feeds : W → ℕ → List ℕ → List ℕ → Fed → W → Type 0) (Ends : W → ℕ → W → Type 0)
    → (old new : W) (was now : Seen) (piece bytes : List ℕ) (told : Fed) → length piece ≤ 65536 → length was.unsent < 65536 → Feeds old was.session piece bytes told new
    → was.pending ≡ piece ++ now.pending → now.unsent ≡ was.unsent ++ bytes → now.session ≡ was.session → now.left ≡ was.left → now.taken ≡ was.taken → now.closing ≡ closed_by told was.closing
    → Moves (PlaysBy (HappensBy Opens Feeds Ends)) old new was now
moves_fed Opens Feeds Ends old new was now piece bytes told short few feeds parts grown session left taken closing = record {
  steps = fed was.session piece bytes told ∷ [];
  played = (new, feeds, refl);
  own = ((refl, short), tt);
  same = session;
  read = [];
  consumed = subst (λ (to : Option (List ℕ)). Consumes was.left to []) (sym left) (Consumes-nil was.left);
  fed_so = append-nil was.pending ∙ parts ∙ ap (λ (b : List ℕ). b ++ now.pending) (sym (heard_one was.session piece bytes told));
  given = [];
  taken = subst (λ (to : Option (List ℕ)). Gains was.taken to []) (sym taken) (Gains-nil was.taken);
  kept = ap (λ (b : List ℕ). was.unsent ++ b) (answers_one was.session piece bytes told) ∙ sym grown;
  few = omega (arith, few, ap length grown, length-append was.unsent bytes, behind_one unsent_behind was.session (length was.unsent) piece bytes told);
  shut = closing ∙ sym (behind_one closing_behind was.session was.closing piece bytes told);
}

-- the first of the bytes that are kept are fed
pub moves_front : {W : Type 0} (Opens : W → Option ℕ → W → Type 0) (Feeds : W → ℕ → List ℕ → List ℕ → Fed → W → Type 0) (Ends : W → ℕ → W → Type 0)
    → (old new : W) (was now : Seen) (items rest out grown bytes : List ℕ) (heard_so count sent : ℕ) (told : Fed) → rest ≡ drop heard_so items → length items ≤ 65536 → count ≤ length rest → sent ≤ length out
    → was.pending ≡ drop heard_so items → now.pending ≡ drop (heard_so + count) items → was.unsent ≡ drop sent out → grown ≡ out ++ bytes → now.unsent ≡ drop sent grown → length was.unsent < 65536
    → now.session ≡ was.session → now.left ≡ was.left → now.taken ≡ was.taken → now.closing ≡ closed_by told was.closing → Feeds old was.session (take count rest) bytes told new
    → Moves (PlaysBy (HappensBy Opens Feeds Ends)) old new was now
moves_front Opens Feeds Ends old new was now items rest out grown bytes heard_so count sent told rest_is short within sent_within pending pending_now unsent grown_is unsent_now few session left taken closing feeds =
    let piece = take count rest in
    let parts : was.pending ≡ piece ++ now.pending =
    pending ∙ sym rest_is ∙ sym (take-append-drop count rest) ∙ ap (λ (b : List ℕ). piece ++ b) (ap (drop count) rest_is ∙ drop-drop count heard_so items ∙ sym pending_now) in
    let more : now.unsent ≡ was.unsent ++ bytes = unsent_now ∙ ap (drop sent) grown_is ∙ drop-append-le sent out bytes sent_within ∙ ap (λ (b : List ℕ). b ++ bytes) (sym unsent) in
    let size : length piece ≤ 65536 = omega (arith, length-take-le count rest within, within, ap length rest_is, length-drop heard_so items, short) in
    moves_fed Opens Feeds Ends old new was now piece bytes told size few feeds parts more session left taken closing
