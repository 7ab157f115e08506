-- Lines that end a script.
use Rattle.std.proofs.Common.{◌≡◌, ℕ, zero, suc, ◌<◌, inl, inr, List, [], ◌∷◌, Some, None, Result, Ok, Err, refl, length, take, drop, arith}
use Rattle.std.specs.Prelude.{IfErr, slice_get}
use Rattle.dv_wire.specs.Schedule.{World, Opens}
use Rattle.dv_wire.specs.declared.fault.HubFault.{HubFault}
use Rattle.dv_wire.specs.declared.fault.HubFault.TheVariants as hub
use Rattle.dv_words.specs.Line.{IsLine}
use Rattle.dv_scripts.specs.Output.{AreReplies, first_length}
use Rattle.dv_scripts.specs.Script.{DoesOneLine, OpenSessions, open_fault}
use Rattle.dv_scripts.specs.Stops.{EndsAt, number_in, script_read_failed, script_write_failed}
use Rattle.dv_scripts.specs.Inner.Lines.{OpensNone, StopsLine}
use Rattle.dv_streams.specs.Failures.{failures_told}
use Rattle.dv_words.specs.declared.said.Line.{Line}
use Rattle.dv_words.specs.declared.fault.ScriptFault.{ScriptFault}
use Rattle.dv_words.specs.declared.fault.ScriptFault.TheVariants.{BadLine, Read, TooManyReads, Write, NoMemory, Sessions}
use Rattle.dv_scripts.proofs.Replies.{fewer_behind, one_more_reply}

-- ---- sessions that aren't opened

pub opens_none : (fault : HubFault) (old : OpenSessions) (number : ℕ) (new : World) → slice_get old.sessions number ≡ Some None → Opens old.hub (Err fault) new → OpensNone (open_fault fault) old number new
opens_none hub.TooManySessions old number new there opens = (there, opens)
opens_none hub.NoMemory old number new there opens = opens

pub stops_unopened : (fault : ScriptFault) (old : OpenSessions) (meant : Line) (number : ℕ) (new : World) → number_in meant ≡ Some number → OpensNone fault old number new → StopsLine fault old meant new
stops_unopened (BadLine n) old meant number new named none = none
stops_unopened Read old meant number new named none = none
stops_unopened TooManyReads old meant number new named none = none
stops_unopened Write old meant number new named none = none
stops_unopened NoMemory old meant number new named none = inl none
stops_unopened Sessions old meant number new named none = (number, named, none.0, none.1)

-- ---- lines that are done, and whose answers aren't made

pub stops_untold : (old : OpenSessions) (meant : Line) (answer : List ℕ) (end : OpenSessions) → DoesOneLine old meant answer end → StopsLine NoMemory old meant end.hub
stops_untold old meant answer end does = inr (answer, end, does, refl)

-- whatever was answered are replies
replies_in : (steps : ℕ) (bytes : List ℕ) → length bytes < steps → (replies : List (List ℕ)) × AreReplies replies bytes
replies_in zero bytes few = absurd (omega (arith, few))
replies_in (suc steps) [] few = ([], refl)
replies_in (suc steps) (b ∷ bytes) few =
    let some : 0 < length (b ∷ bytes) = omega arith in
    let others = replies_in steps (drop (first_length (b ∷ bytes)) (b ∷ bytes)) (omega (arith, few, fewer_behind (b ∷ bytes) some)) in
    (take (first_length (b ∷ bytes)) (b ∷ bytes) ∷ others.0, one_more_reply (b ∷ bytes) _ _ others.0 some refl refl others.1)

pub are_replies : (bytes : List ℕ) → (replies : List (List ℕ)) × AreReplies replies bytes
are_replies bytes = replies_in (suc (length bytes)) bytes (omega arith)

-- ---- as a line of the script

pub ends_at : (fault : ScriptFault) (old : OpenSessions) (meant : Line) (number : ℕ) (line : List ℕ) (new : World) → IsLine meant line → StopsLine fault old meant new → EndsAt fault old number line [] new
ends_at (BadLine n) old meant number line new is stops = absurd stops
ends_at Read old meant number line new is stops = stops
ends_at TooManyReads old meant number line new is stops = stops
ends_at Write old meant number line new is stops = absurd stops
ends_at NoMemory old meant number line new is (inl none) = (refl, inl (refl, none))
ends_at NoMemory old meant number line new is (inr done) = (refl, inr (done.0, done.1, (meant, is, done.2), done.3))
ends_at Sessions old meant number line new is stops = (refl, (meant, is, stops))

pub streams_still : {A : Type 0} (result : Result A ScriptFault) (old : OpenSessions) (meant : Line) (new : World) → IfErr result (λ fault. StopsLine fault old meant new)
    → (n : ℕ) → (failures_told script_read_failed result n ≡ n) × (failures_told script_write_failed result n ≡ n)
streams_still (Ok done) old meant new stops n = (refl, refl)
streams_still (Err (BadLine m)) old meant new stops n = absurd stops
streams_still (Err Read) old meant new stops n = absurd stops
streams_still (Err TooManyReads) old meant new stops n = (refl, refl)
streams_still (Err Write) old meant new stops n = absurd stops
streams_still (Err NoMemory) old meant new stops n = (refl, refl)
streams_still (Err Sessions) old meant new stops n = (refl, refl)
