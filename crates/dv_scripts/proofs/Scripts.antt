-- Scripts that are read to their end, or to the line that ends them.
use Rattle.std.proofs.Common.{◌≡◌, ℕ, suc, ◌+◌, ◌*◌, ◌^◌, ◌<◌, ◌≤◌, inl, inr, List, [], ◌∷◌, ◌++◌, Option, Some, None, Result, Ok, Err, IfSome, length, refl, sym, ap, subst, ◌∙◌, append_assoc, append-nil, length-append, arith}
use Rattle.std.proofs.KnownBytes.{Appends-kept, Appends-nil, Appends-trans, Consumes-kept, Consumes-nil, Consumes-trans, Consumes-whole}
use Rattle.std.proofs.lemmas.List.Elements.{All-nil}
use Rattle.std.proofs.lemmas.List.Splits.{slice_split_none}
use Rattle.std.specs.Io.KnownBytes.{Appends, Consumes, IsAtEnd, Keeps}
use Rattle.std.specs.Prelude.{IfErr, OnOk, replicate}
use Rattle.std.specs.List.{slice_split}
use Rattle.dv_wire.specs.Schedule.{World}
use Rattle.dv_wire.specs.Service.{AsksFew}
use Rattle.dv_wire.specs.Inner.CountLaws.{no_more}
use Rattle.dv_streams.specs.Stream.{MoreBy, once_more}
use Rattle.dv_scripts.specs.Inner.Pieces.{StopsIn, TakesPiece}
use Rattle.dv_scripts.specs.Script.{DoesLine, DoesLines, HasNoLf, Runs, OpenSessions, no_sessions, is_lf, standing_of}
use Rattle.dv_scripts.specs.Stops.{AsksForScript, DoesWhole, EndsAt, FailsWriting, OfScript, RunsTo, StopsScript, StopsBy, script_read_failed, script_write_failed}
use Rattle.dv_streams.specs.Failures.{failures_behind, failures_told}
use Rattle.dv_words.specs.declared.fault.ScriptFault.{ScriptFault}
use Rattle.dv_scripts.specs.declared.sessions.Sessions as table
use Rattle.dv_words.specs.declared.fault.ScriptFault.TheVariants.{BadLine, Read, TooManyReads, Write, NoMemory, Sessions}
use Rattle.dv_scripts.proofs.Pieces.{DoesLines-append, NoLf, Takes-append, Takes-nothing, has_first, one_line}

-- ---- all that a reader has

-- what it has left, as far as that is known
abbrev unread : Option (List ℕ) → List ℕ
unread None = []
unread (Some bytes) = bytes

all_known : (from to : Option (List ℕ)) (read : List ℕ) → Consumes from to read → IfSome from (λ known. read ++ unread to ≡ known)
all_known None to read consumed = tt
all_known (Some bytes) None read consumed = absurd consumed
all_known (Some bytes) (Some left) read consumed = sym consumed

at_end_known : (from to : Option (List ℕ)) (read : List ℕ) → Consumes from to read → IsAtEnd to → IfSome from (λ known. read ≡ known)
at_end_known from to read consumed end = Consumes-whole from to read (λ known. read ≡ known) consumed end refl

-- a script that ends at a line
stops_by : (fault : ScriptFault) (old : OpenSessions) (from to before after : Option (List ℕ)) (new : World) → OfScript (λ script text. StopsScript fault old script text new) from before after
    → StopsBy fault old from to before after new
stops_by (BadLine n) old from to before after new h = h
stops_by Read old from to before after new h = absurd h.4.why
stops_by TooManyReads old from to before after new h = absurd h.4.why
stops_by Write old from to before after new h = (h.0, h.1, h.2, h.3, inl h.4)
stops_by NoMemory old from to before after new h = h
stops_by Sessions old from to before after new h = h

-- ---- a script of which a front was read

pub record ReadSoFar (old : OpenSessions) (reads : ℕ) (from to before after : Option (List ℕ)) (now : OpenSessions) (number : ℕ) (line : List ℕ) : Type 0 where
  pub read : List ℕ
  pub said : List ℕ
  pub consumed : Consumes from to read
  pub appended : Appends before after said
  pub taken : TakesPiece old [] read said now line
  pub number_is : number ≡ suc (length taken.lines)
  pub clean : HasNoLf line
  pub most : length read ≤ reads * 65536

pub nothing_read : (old : OpenSessions) (from before : Option (List ℕ)) (number : ℕ) (line : List ℕ) → number ≡ 1 → line ≡ [] → ReadSoFar old 0 from from before before old number line
nothing_read old from before number line first none = subst (λ l. ReadSoFar old 0 from from before before old number l) (sym none) (record {
  read = [];
  said = [];
  consumed = Consumes-nil from;
  appended = Appends-nil before;
  taken = Takes-nothing old [];
  number_is = first;
  clean = All-nil NoLf;
  most = omega arith;
})

-- no memory for the first read
pub never_read : (old : OpenSessions) (from before : Option (List ℕ)) → StopsBy NoMemory old from from before before old.hub
never_read old from before =
    let next = has_first (unread from) in (
      unread from,
      [],
      all_known from from [] (Consumes-nil from),
      Appends-nil before,
      record {
        lines = [];
        line = next.first;
        others = next.others;
        split = next.split;
        said = [];
        mid = old;
        done = (refl, refl);
        part = [];
        written = refl;
        why = (refl, inl (refl, refl));
      },
    )

module _ (old now : OpenSessions) (reads number : ℕ) (from mid before middle : Option (List ℕ)) (line : List ℕ) (so_far : ReadSoFar old reads from mid before middle now number line) where
  pub numbers_left : (count : ℕ) → reads < 2 ^ 32 → count ≤ 65536 → number + count < 2 ^ 64
  numbers_left count few small = omega (arith, few, small, so_far.number_is, so_far.taken.few, so_far.most)

  pub line_left : reads < 2 ^ 32 → suc number < 2 ^ 64
  line_left few = omega (arith, few, so_far.number_is, so_far.taken.few, so_far.most)

  -- each line whose LF was read is done
  abbrev does_whole : DoesWhole old so_far.read so_far.said now.hub
  does_whole = record {
    lines = so_far.taken.lines;
    kept = line;
    split = ap (slice_split is_lf) (sym (append-nil so_far.read)) ∙ so_far.taken.split []
        ∙ ap (λ bytes. so_far.taken.lines ++ slice_split is_lf bytes) (append-nil line) ∙ ap (λ others. so_far.taken.lines ++ others) (slice_split_none is_lf line so_far.clean);
    end = now;
    done = so_far.taken.done;
    left = refl;
  }

  pub at_limit : StopsBy TooManyReads old from mid before middle now.hub
  at_limit = (so_far.read, so_far.said, so_far.consumed, so_far.appended, does_whole)

  module _ (to after : Option (List ℕ)) where
    -- what was written is flushed, and then the reader fails
    pub at_failure : Keeps mid to → Keeps middle after → StopsBy Read old from to before after now.hub
    at_failure kept handed = (so_far.read, so_far.said, Consumes-kept from mid to so_far.read so_far.consumed kept, Appends-kept before middle after so_far.said so_far.appended handed, does_whole)

    -- another piece is taken
    pub read_more : (piece said : List ℕ) (new : OpenSessions) (number_new : ℕ) (line_new : List ℕ) (flushed : Option (List ℕ)) → Keeps middle flushed → Consumes mid to piece → length piece ≤ 65536
        → Appends flushed after said → (takes : TakesPiece now line piece said new line_new) → number_new ≡ number + length takes.lines → HasNoLf line_new
        → ReadSoFar old (reads + 1) from to before after new number_new line_new
    read_more piece said new number_new line_new flushed handed consumed small appended takes number_is clean =
        let both : TakesPiece old [] (so_far.read ++ piece) (so_far.said ++ said) new line_new = Takes-append so_far.read piece old now new [] line line_new so_far.said said so_far.taken takes in
        let lines : length both.lines ≡ length (so_far.taken.lines ++ takes.lines) = refl in
        record {
          read = so_far.read ++ piece;
          said = so_far.said ++ said;
          consumed = Consumes-trans from mid to so_far.read piece so_far.consumed consumed;
          appended = Appends-trans before flushed after so_far.said said (Appends-kept before middle flushed so_far.said so_far.appended handed) appended;
          taken = both;
          number_is = omega (arith, lines, number_is, so_far.number_is, length-append so_far.taken.lines takes.lines);
          clean = clean;
          most = omega (arith, small, so_far.most, length-append so_far.read piece);
        }

    -- or a line in it ends the script
    pub read_stops : (fault : ScriptFault) (piece said : List ℕ) (new : World) (flushed : Option (List ℕ)) → Keeps middle flushed → Consumes mid to piece → Appends flushed after said
        → StopsIn fault now number line piece said new → StopsBy fault old from to before after new
    read_stops fault piece said new flushed handed consumed appended stops =
        let last = stops.ends (unread to) in
        stops_by fault old from to before after new (
          (so_far.read ++ piece) ++ unread to,
          so_far.said ++ said,
          all_known from to (so_far.read ++ piece) (Consumes-trans from mid to so_far.read piece so_far.consumed consumed),
          Appends-trans before flushed after so_far.said said (Appends-kept before middle flushed so_far.said so_far.appended handed) appended,
          record {
            lines = so_far.taken.lines ++ stops.lines;
            line = last.0;
            others = last.1;
            split = ap (slice_split is_lf) (append_assoc so_far.read piece (unread to)) ∙ so_far.taken.split (piece ++ unread to)
                ∙ ap (λ others. so_far.taken.lines ++ others) last.2 ∙ sym (append_assoc so_far.taken.lines stops.lines (last.0 ∷ last.1));
            said = so_far.said ++ stops.said;
            mid = stops.mid;
            done = DoesLines-append so_far.taken.lines stops.lines old now stops.mid so_far.said stops.said so_far.taken.done stops.done;
            part = stops.part;
            written = ap (λ text. so_far.said ++ text) stops.written ∙ sym (append_assoc so_far.said stops.said stops.part);
            why = subst (λ n. EndsAt fault stops.mid n last.0 stops.part new) (omega (arith, so_far.number_is, length-append so_far.taken.lines stops.lines)) last.3;
          },
        )

    -- the script is at its end, and its last line is done
    module _ (flushed : Option (List ℕ)) (handed : Keeps middle flushed) (consumed : Consumes mid to []) (end : IsAtEnd to) where
      all_read : Consumes from to so_far.read
      all_read = subst (Consumes from to) (append-nil so_far.read) (Consumes-trans from mid to so_far.read [] so_far.consumed consumed)

      whole : slice_split is_lf so_far.read ≡ so_far.taken.lines ++ line ∷ []
      whole = does_whole.split

      pub at_end : (said : List ℕ) (new : OpenSessions) → Appends flushed after said → DoesLine now line said new → OfScript (λ script text. Runs old script text new) from before after
      at_end said new appended does = (
        so_far.read,
        so_far.said ++ said,
        at_end_known from to so_far.read all_read end,
        Appends-trans before flushed after so_far.said said (Appends-kept before middle flushed so_far.said so_far.appended handed) appended,
        subst (λ lines. DoesLines old lines (so_far.said ++ said) new) (sym whole) (DoesLines-append so_far.taken.lines (line ∷ []) old now new so_far.said said so_far.taken.done (one_line now new line said does)),
      )

      -- or ends the script
      pub last_stops : (fault : ScriptFault) (part : List ℕ) (new : World) → Appends flushed after part → EndsAt fault now number line part new → StopsBy fault old from to before after new
      last_stops fault part new appended why = stops_by fault old from to before after new (
        so_far.read,
        so_far.said ++ part,
        at_end_known from to so_far.read all_read end,
        Appends-trans before flushed after so_far.said part (Appends-kept before middle flushed so_far.said so_far.appended handed) appended,
        record {
          lines = so_far.taken.lines;
          line = line;
          others = [];
          split = whole;
          said = so_far.said;
          mid = now;
          done = so_far.taken.done;
          part = part;
          written = refl;
          why = subst (λ n. EndsAt fault now n line part new) so_far.number_is why;
        },
      )

  -- what was written isn't flushed
  pub not_flushed : (after : Option (List ℕ)) → Keeps middle after → StopsBy Write old from mid before after now.hub
  not_flushed after kept =
      let next = has_first (line ++ unread mid) in
      stops_by Write old from mid before after now.hub (
        so_far.read ++ unread mid,
        so_far.said,
        all_known from mid so_far.read so_far.consumed,
        Appends-kept before middle after so_far.said so_far.appended kept,
        record {
          lines = so_far.taken.lines;
          line = next.first;
          others = next.others;
          split = so_far.taken.split (unread mid) ∙ ap (λ others. so_far.taken.lines ++ others) next.split;
          said = so_far.said;
          mid = now;
          done = so_far.taken.done;
          part = [];
          written = sym (append-nil so_far.said);
          why = inl (refl, refl);
        },
      )

-- ---- a line's fault is none of the reads'

few_by : (A : Type 0) (fault : ScriptFault) (mid : OpenSessions) (number : ℕ) (line part : List ℕ) (end : World) (old new : ℕ) → EndsAt fault mid number line part end → AsksFew old new → AsksForScript {A = A} (Err fault) old new
few_by A (BadLine n) mid number line part end old new why few = few
few_by A Read mid number line part end old new why few = few
few_by A TooManyReads mid number line part end old new why few = absurd why
few_by A Write mid number line part end old new why few = few
few_by A NoMemory mid number line part end old new why few = few
few_by A Sessions mid number line part end old new why few = few

pub few_asked : (A : Type 0) (result : Result A ScriptFault) (fault : ScriptFault) (mid : OpenSessions) (number : ℕ) (line part : List ℕ) (end : World) (old new : ℕ) → result ≡ Err fault
    → EndsAt fault mid number line part end → AsksFew old new → AsksForScript result old new
few_asked A result fault mid number line part end old new is why few = subst (λ r. AsksForScript r old new) (sym is) (few_by A fault mid number line part end old new why few)

-- ---- the number of reads

pub none_asked : (count : ℕ) → AsksFew count count
none_asked count = (0, omega arith, no_more count)

pub asked : (reads old new : ℕ) → reads ≤ 2 ^ 32 → MoreBy reads old new → AsksFew old new
asked reads old new few more = (reads, omega (arith, few), more)

-- ---- after the last flush

pub ran_whole : (from before after : Option (List ℕ)) (old new : OpenSessions) → OfScript (λ script text. Runs old script text new) from before after
    → OfScript (λ script text. RunsTo old script text new.hub) from before after
ran_whole from before after old new ran = (ran.0, ran.1, ran.2, ran.3, (new, ran.4, refl))

pub ran_kept : (from before middle after : Option (List ℕ)) (old new : OpenSessions) → OfScript (λ script text. Runs old script text new) from before middle → Keeps middle after
    → OfScript (λ script text. Runs old script text new) from before after
ran_kept from before middle after old new ran kept = (ran.0, ran.1, ran.2, Appends-kept before middle after ran.1 ran.3 kept, ran.4)

-- what was written after the last line isn't flushed
pub ran_unflushed : (from to before after : Option (List ℕ)) (old new : OpenSessions) → OfScript (λ script text. Runs old script text new) from before after → StopsBy Write old from to before after new.hub
ran_unflushed from to before after old new ran = (ran.0, ran.1, ran.2, ran.3, inr (new, ran.4, refl))

pub stops_kept : (fault : ScriptFault) (old : OpenSessions) (from to before middle after : Option (List ℕ)) (new : World) → StopsBy fault old from to before middle new → Keeps middle after → StopsBy fault old from to before after new
stops_kept (BadLine n) old from to before middle after new h kept = (h.0, h.1, h.2, Appends-kept before middle after h.1 h.3 kept, h.4)
stops_kept Read old from to before middle after new h kept = (h.0, h.1, h.2, Appends-kept before middle after h.1 h.3 kept, h.4)
stops_kept TooManyReads old from to before middle after new h kept = (h.0, h.1, h.2, Appends-kept before middle after h.1 h.3 kept, h.4)
stops_kept Write old from to before middle after new h kept = (h.0, h.1, h.2, Appends-kept before middle after h.1 h.3 kept, h.4)
stops_kept NoMemory old from to before middle after new h kept = (h.0, h.1, h.2, Appends-kept before middle after h.1 h.3 kept, h.4)
stops_kept Sessions old from to before middle after new h kept = (h.0, h.1, h.2, Appends-kept before middle after h.1 h.3 kept, h.4)

-- after a script that ran to its end nothing fails but the last flush
pub record Flushes (A : Type 0) (result : Result A ScriptFault) : Type 0 where
  pub reader : (n : ℕ) → failures_told script_read_failed result n ≡ n
  pub writer : (n : ℕ) → FailsWriting result n (failures_behind result n)
  pub reads : (old new : ℕ) → AsksFew old new → AsksForScript result old new

flushes_err : (A : Type 0) → Flushes A (Err Write)
flushes_err A = record { reader = λ n. refl; writer = λ n. refl; reads = λ old new few. few }

pub flushes : (A : Type 0) (result : Result A ScriptFault) → IfErr result (λ fault. fault ≡ Write) → Flushes A result
flushes A (Ok done) fault = record { reader = λ n. refl; writer = λ n. refl; reads = λ old new few. few }
flushes A (Err e) fault = subst (λ f. Flushes A (Err f)) (sym fault) (flushes_err A)

-- after a fault other than the writer's
fails_by : (A B : Type 0) (fault : ScriptFault) (flushed : Result B ScriptFault) (old mid new : ℕ) → (fault ≡ Write → ⊥) → mid ≡ failures_told {A = A} script_write_failed (Err fault) old → new ≡ failures_behind flushed mid
    → FailsWriting {A = A} (Err fault) old new
fails_by A B (BadLine n) (Ok x) old mid new other before last = inl (last ∙ before)
fails_by A B (BadLine n) (Err e) old mid new other before last = inr (last ∙ ap once_more before)
fails_by A B Read (Ok x) old mid new other before last = inl (last ∙ before)
fails_by A B Read (Err e) old mid new other before last = inr (last ∙ ap once_more before)
fails_by A B TooManyReads (Ok x) old mid new other before last = inl (last ∙ before)
fails_by A B TooManyReads (Err e) old mid new other before last = inr (last ∙ ap once_more before)
fails_by A B Write flushed old mid new other before last = absurd (other refl)
fails_by A B NoMemory (Ok x) old mid new other before last = inl (last ∙ before)
fails_by A B NoMemory (Err e) old mid new other before last = inr (last ∙ ap once_more before)
fails_by A B Sessions (Ok x) old mid new other before last = inl (last ∙ before)
fails_by A B Sessions (Err e) old mid new other before last = inr (last ∙ ap once_more before)

pub fails_behind : (A B : Type 0) (read : Result A ScriptFault) (fault : ScriptFault) (flushed : Result B ScriptFault) (old mid new : ℕ) → read ≡ Err fault → (fault ≡ Write → ⊥) → mid ≡ failures_told script_write_failed read old → new ≡ failures_behind flushed mid
    → FailsWriting {A = A} (Err fault) old new
fails_behind A B read fault flushed old mid new is other before last =
    fails_by A B fault flushed old mid new other (subst (λ r. mid ≡ failures_told script_write_failed r old) is before) last

pub on_ok : (A E : Type 0) (result : Result A E) (P : Type 0) → P → OnOk result P
on_ok A E (Ok x) P p = p
on_ok A E (Err e) P p = tt

-- ---- from the start of the script to after the last flush

module _ (sessions : table.Sessions) (hub : World) (none : sessions.places ≡ replicate 1000 None) (from before middle after : Option (List ℕ)) (kept : Keeps middle after) where
  pub stops_begun : (fault : ScriptFault) (to : Option (List ℕ)) (new : World) → StopsBy fault (standing_of sessions hub) from to before middle new → StopsBy fault (no_sessions hub) from to before after new
  stops_begun fault to new h =
      stops_kept fault (no_sessions hub) from to before middle after new (subst (λ places. let old : OpenSessions = record { sessions = places; hub = hub } in StopsBy fault old from to before middle new) none h) kept

  pub ran_begun : (new : OpenSessions) → OfScript (λ script text. Runs (standing_of sessions hub) script text new) from before middle → OfScript (λ script text. Runs (no_sessions hub) script text new) from before after
  ran_begun new h =
      ran_kept from before middle after (no_sessions hub) new (subst (λ places. let old : OpenSessions = record { sessions = places; hub = hub } in OfScript (λ script text. Runs old script text new) from before middle) none h) kept

pub flush_stops : (A : Type 0) (result : Result A ScriptFault) (old : OpenSessions) (from to before after : Option (List ℕ)) (new : World) → IfErr result (λ fault. fault ≡ Write) → StopsBy Write old from to before after new
    → IfErr result (λ fault. StopsBy fault old from to before after new)
flush_stops A (Ok done) old from to before after new told stops = tt
flush_stops A (Err e) old from to before after new told stops = subst (λ fault. StopsBy fault old from to before after new) (sym told) stops
