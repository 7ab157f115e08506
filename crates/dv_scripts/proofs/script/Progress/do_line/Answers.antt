use Rattle.std.proofs.Common.{subst}
use Rattle.std.specs.String.{string_bytes}
use Rattle.std.proofs.lemmas.Result.{IfErr-weaker, IfOk-weaker}
use Rattle.dv_words.specs.Line.{IsLine}
use Rattle.dv_scripts.specs.Script.{DoesOneLine, standing_of}
use Rattle.dv_words.specs.declared.said.Line.TheVariants.{Bytes, End}
use Rattle.dv_scripts.specs.Inner.Lines.{StopsLine}
use Rattle.dv_scripts.proofs.Stopped.{ends_at, streams_still}
use Rattle.dv_scripts.proofs.script.Progress.do_line.Goals as goal

pub returns-in-Ok-Bytes-clause-done : goal.returns-in-Ok-Bytes-clause-done
returns-in-Ok-Bytes-clause-done c =
    let meant = Bytes c.in-Ok-Bytes.number c.in-Ok-Bytes.bytes in
    let read = subst (IsLine c.in-Ok-Bytes.field-0) c.as_slice.ensures.value c.in-Ok-Bytes.ensures.read in
    let line = subst (λ said. IsLine said c.args.self.now.line.items) c.in-Ok-Bytes.field-0-is read in
    let old = standing_of c.args.self.now.sessions c.args.hub.now in
    let new = standing_of c.feed.new.self.sessions c.feed.new.hub in
    IfOk-weaker c.feed.result _ _ (λ text does. (
      meant,
      line,
      subst (λ bytes. DoesOneLine old (Bytes c.in-Ok-Bytes.number bytes) (string_bytes text) new) c.as_slice-in-Ok-Bytes.ensures does,
    )) c.feed.ensures.done

pub returns-in-Ok-Bytes-clause-stopped : goal.returns-in-Ok-Bytes-clause-stopped
returns-in-Ok-Bytes-clause-stopped c =
    let meant = Bytes c.in-Ok-Bytes.number c.in-Ok-Bytes.bytes in
    let read = subst (IsLine c.in-Ok-Bytes.field-0) c.as_slice.ensures.value c.in-Ok-Bytes.ensures.read in
    let line = subst (λ said. IsLine said c.args.self.now.line.items) c.in-Ok-Bytes.field-0-is read in
    let old = standing_of c.args.self.now.sessions c.args.hub.now in
    IfErr-weaker c.feed.result _ _ (λ fault stops. ends_at fault old meant c.args.self.now.number c.args.self.now.line.items c.feed.new.hub line
    (subst (λ bytes. StopsLine fault old (Bytes c.in-Ok-Bytes.number bytes) c.feed.new.hub) c.as_slice-in-Ok-Bytes.ensures stops)) c.feed.ensures.stopped

pub returns-in-Ok-Bytes-clause-streams : goal.returns-in-Ok-Bytes-clause-streams
returns-in-Ok-Bytes-clause-streams c = streams_still c.feed.result _ _ _ c.feed.ensures.stopped

pub returns-in-Ok-End-clause-stopped : goal.returns-in-Ok-End-clause-stopped
returns-in-Ok-End-clause-stopped c =
    let read = subst (IsLine c.in-Ok-End.field-0) c.as_slice.ensures.value c.in-Ok-End.ensures.read in
    let line = subst (λ said. IsLine said c.args.self.now.line.items) c.in-Ok-End.field-0-is read in
    IfErr-weaker c.end.result _ _ (λ fault stops. ends_at fault (standing_of c.args.self.now.sessions c.args.hub.now) (End c.in-Ok-End.number) c.args.self.now.number c.args.self.now.line.items c.end.new.hub line stops) c.end.ensures.stopped

pub returns-in-Ok-End-clause-streams : goal.returns-in-Ok-End-clause-streams
returns-in-Ok-End-clause-streams c = streams_still c.end.result _ _ _ c.end.ensures.stopped
