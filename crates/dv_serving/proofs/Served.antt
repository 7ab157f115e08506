-- Connections that are served one after the other.
use Rattle.std.proofs.Common.{◌≡◌, ℕ, ◌+◌, ◌<◌, ◌≤◌, List, [], ◌∷◌, ◌++◌, ◌∙◌, Option, Some, None, Result, Ok, Err, refl, sym, ap, subst, length, length-append, arith, append_assoc, append-nil}
use Rattle.std.proofs.KnownBytes.{Appends-nil, Appends-trans}
use Rattle.std.specs.Io.KnownBytes.{Appends}
use Rattle.dv_host.specs.Outside.{Accepts, HasTaken}
use Rattle.dv_wire.specs.Schedule.{Run, World}
use Rattle.dv_wire.specs.Service.{ComesTo, Serves}
use Rattle.dv_streams.specs.Stream.{MoreBy}
use Rattle.dv_wire.specs.declared.fault.RunFault.{RunFault}
use Rattle.dv_wire.specs.declared.fault.RunFault.TheVariants.{Read, Write, TooManyReads, Hub}
use Rattle.dv_wire.specs.declared.service.Done.{Done}
use Rattle.dv_serving.specs.Serve.{Close, ClosesConnection, Come, Connection, Ended, HasSession, IsFresh, Served, ServesEach, connection_line}

-- so many connections are served, and the writer has taken and flushed what is written for them
pub record ServedSoFar (connections count : ℕ) (coming_old coming_now : Option (List (List ℕ))) (closed_old closed_now : Option (List Ended)) (old now : World) (taken_old taken_now : Option (List ℕ)) (flushes_old flushes_now : ℕ) : Type 0 where
  pub text : List ℕ
  pub served : Served count coming_old coming_now closed_old closed_now old text now
  pub appended : Appends taken_old taken_now text
  pub flushed : MoreBy count flushes_old flushes_now
  pub within : count ≤ connections

pub none_served : (connections : ℕ) (coming : Option (List (List ℕ))) (closed : Option (List Ended)) (old : World) (taken : Option (List ℕ)) (flushes : ℕ)
    → ServedSoFar connections 0 coming coming closed closed old old taken taken flushes flushes
none_served connections coming closed old taken flushes = record {
  text = [];
  served = record { connections = []; counted = refl; come = refl; close = refl; each = (refl, refl) };
  appended = Appends-nil taken;
  flushed = omega arith;
  within = omega arith;
}

-- ---- one connection more

Come-more : (old mid new : Option (List (List ℕ))) (connections : List Connection) (next : Connection) → Come old connections mid → Accepts mid next.input new → Come old (connections ++ next ∷ []) new
Come-more old mid new [] next come accepts = (new, subst (λ c. Accepts c next.input new) come accepts, refl)
Come-more old mid new (first ∷ others) next come accepts = (come.0, come.1, Come-more come.0 mid new others next come.2 accepts)

Close-more : (old mid new : Option (List Ended)) (connections : List Connection) (next : Connection) → Close old connections mid → ClosesConnection mid next.left next.taken new → Close old (connections ++ next ∷ []) new
Close-more old mid new [] next close closes = (new, subst (λ c. ClosesConnection c next.left next.taken new) close closes, refl)
Close-more old mid new (first ∷ others) next close closes = (close.0, close.1, Close-more close.0 mid new others next close.2 closes)

line_nil : (first number : ℕ) (told : Result Done RunFault) (text : List ℕ) → text ≡ [] → number ≡ first → text ++ connection_line number told ≡ connection_line first told ++ []
line_nil first number told text none same =
    ap (λ xs. xs ++ connection_line number told) none ∙ ap (λ n. connection_line n told) same ∙ sym (append-nil (connection_line first told))

ServesEach-more : (first number : ℕ) (connections : List Connection) (known : Connection) (old mid new : World) (text : List ℕ) (told : Result Done RunFault) → number ≡ first + length connections
    → ServesEach first connections old text mid → HasSession known mid told new → ServesEach first (connections ++ known ∷ []) old (text ++ connection_line number told) new
ServesEach-more first number [] known old mid new text told at each this =
    (told, new, [], subst (λ world. HasSession known world told new) each.1 this, (refl, refl), line_nil first number told text each.0 (omega (arith, at)))
ServesEach-more first number (next ∷ others) known old mid new text told at each this = (
  each.0,
  each.1,
  each.2 ++ connection_line number told,
  each.3,
  ServesEach-more (first + 1) number others known each.1 mid new each.2 told (omega (arith, at)) each.4 this,
  ap (λ xs. xs ++ connection_line number told) each.5 ∙ append_assoc (connection_line first each.0) each.2 (connection_line number told),
)

module _ (connections count : ℕ) (coming_old coming_mid : Option (List (List ℕ))) (closed_old closed_mid : Option (List Ended)) (old mid : World) (taken_old taken_mid : Option (List ℕ)) (flushes_old flushes_mid : ℕ)
    (so_far : ServedSoFar connections count coming_old coming_mid closed_old closed_mid old mid taken_old taken_mid flushes_old flushes_mid) where
  module _ (coming_new : Option (List (List ℕ))) (closed_new : Option (List Ended)) (new : World) (told : Result Done RunFault) (next : Connection)
      (accepts : Accepts coming_mid next.input coming_new) (closes : ClosesConnection closed_mid next.left next.taken closed_new) (this : HasSession next mid told new) where
    one_served : Served (count + 1) coming_old coming_new closed_old closed_new old (so_far.text ++ connection_line (count + 1) told) new
    one_served = record {
      connections = so_far.served.connections ++ next ∷ [];
      counted = omega (arith, so_far.served.counted, length-append so_far.served.connections (next ∷ []));
      come = Come-more coming_old coming_mid coming_new so_far.served.connections next so_far.served.come accepts;
      close = Close-more closed_old closed_mid closed_new so_far.served.connections next so_far.served.close closes;
      each = ServesEach-more 1 (count + 1) so_far.served.connections next old mid new so_far.text told (omega (arith, so_far.served.counted)) so_far.served.each this;
    }

    pub more_served : (taken_new : Option (List ℕ)) (flushes_new : ℕ) → Appends taken_mid taken_new (connection_line (count + 1) told) → MoreBy 1 flushes_mid flushes_new → count < connections
        → ServedSoFar connections (count + 1) coming_old coming_new closed_old closed_new old new taken_old taken_new flushes_old flushes_new
    more_served taken_new flushes_new written flushed more = record {
      text = so_far.text ++ connection_line (count + 1) told;
      served = one_served;
      appended = Appends-trans taken_old taken_mid taken_new so_far.text (connection_line (count + 1) told) so_far.appended written;
      flushed = omega (arith, so_far.flushed, flushed);
      within = omega (arith, more);
    }

    pub not_written : (flushes_new : ℕ) → flushes_new ≡ flushes_mid → count < connections
        → (n : ℕ) × (n < connections) × ((text : List ℕ) × Served (n + 1) coming_old coming_new closed_old closed_new old text new × MoreBy n flushes_old flushes_new)
    not_written flushes_new same more = (count, more, (so_far.text ++ connection_line (count + 1) told, one_served, omega (arith, so_far.flushed, same)))

  -- ---- where serving ends

  pub all_served : connections ≤ count
      → (text : List ℕ) × Served connections coming_old coming_mid closed_old closed_mid old text mid × Appends taken_old taken_mid text × MoreBy connections flushes_old flushes_mid
  all_served all =
      let same : count ≡ connections = omega (arith, all, so_far.within) in
      (so_far.text, subst (λ n. Served n coming_old coming_mid closed_old closed_mid old so_far.text mid) same so_far.served, so_far.appended, subst (λ n. MoreBy n flushes_old flushes_mid) same so_far.flushed)

  pub none_accepted : (coming_new : Option (List (List ℕ))) (closed_new : Option (List Ended)) (new : World) → count < connections → coming_new ≡ coming_mid → closed_new ≡ closed_mid → new ≡ mid
      → (n : ℕ) × (n < connections) × ((text : List ℕ) × Served n coming_old coming_new closed_old closed_new old text new × Appends taken_old taken_mid text × MoreBy n flushes_old flushes_mid)
  none_accepted coming_new closed_new new more same_coming same_closed same = (
    count,
    more,
    (
      so_far.text,
      subst (λ c. Served count coming_old c closed_old closed_new old so_far.text new) (sym same_coming)
          (subst (λ c. Served count coming_old coming_mid closed_old c old so_far.text new) (sym same_closed) (subst (λ w. Served count coming_old coming_mid closed_old closed_mid old so_far.text w) (sym same) so_far.served)),
      so_far.appended,
      so_far.flushed,
    ),
  )

-- ---- a session

-- what an output took that had taken nothing is what was given to it, where that is known
took : (old new : World) (told : Result Done RunFault) (from to after : Option (List ℕ)) → ComesTo told old new from to (Some []) after
    → (given : List ℕ) × (after ≡ Some given) × ComesTo told old new from to (Some []) (Some given)
took old new (Ok done) from to None (run, serves, is, end) = absurd serves.appended
took old new (Ok done) from to (Some given) comes = (given, refl, comes)
took old new (Err Read) from to None (run, serves) = absurd serves.appended
took old new (Err Read) from to (Some given) comes = (given, refl, comes)
took old new (Err Write) from to None (run, unwritten, serves) = absurd serves.appended
took old new (Err Write) from to (Some given) comes = (given, refl, comes)
took old new (Err TooManyReads) from to None (run, serves, many) = absurd serves.appended
took old new (Err TooManyReads) from to (Some given) comes = (given, refl, comes)
took old new (Err (Hub fault)) from to None (refused, read, kept) = absurd kept
took old new (Err (Hub fault)) from to (Some given) comes = (given, refl, comes)

-- what is given to an output of which nothing is known
abbrev served_from : (old new : World) (from to before after : Option (List ℕ)) (run : Run) (unwritten : List ℕ) → (serves : Serves old from to before after run unwritten new)
    → Serves old from to (Some []) (Some serves.written) run unwritten new
served_from old new from to before after run unwritten serves =
    record { read = serves.read; session = serves.session; consumed = serves.consumed; written = serves.written; answers = serves.answers; appended = refl }

unknown : (old new : World) (told : Result Done RunFault) (from to before after : Option (List ℕ)) → ComesTo told old new from to before after
    → (given : List ℕ) × ComesTo told old new from to (Some []) (Some given)
unknown old new (Ok done) from to before after (run, serves, is, end) = (serves.written, (run, served_from old new from to before after run [] serves, is, end))
unknown old new (Err Read) from to before after (run, serves) = (serves.written, (run, served_from old new from to before after run [] serves))
unknown old new (Err Write) from to before after (run, unwritten, serves) = (serves.written, (run, unwritten, served_from old new from to before after run unwritten serves))
unknown old new (Err TooManyReads) from to before after (run, serves, many) = (serves.written, (run, served_from old new from to before after run [] serves, many))
unknown old new (Err (Hub fault)) from to before after (refused, read, kept) = ([], (refused, read, refl))

-- a connection has its session, and is closed
pub session_had : (closed closed_new : Option (List Ended)) (old new : World) (told : Result Done RunFault) (input left before after : Option (List ℕ)) → IsFresh closed before
    → ComesTo told old new input left before after → ClosesConnection closed left after closed_new
    → (connection : Connection) × (connection.input ≡ input) × ClosesConnection closed connection.left connection.taken closed_new × HasSession connection old told new
session_had None closed_new old new told input left before after fresh comes closes =
    let (given, all) = unknown old new told input left before after comes in
    (record { input = input; left = left; taken = None }, refl, tt, record { given = given; comes = all; taken = tt })
session_had (Some closed) closed_new old new told input left before after fresh comes closes =
    let (given, is, all) = took old new told input left after (subst (λ b. ComesTo told old new input left b after) fresh comes) in
    (record { input = input; left = left; taken = after }, refl, closes, record { given = given; comes = all; taken = subst (λ (known : Option (List ℕ)). HasTaken known given) (sym is) refl })
