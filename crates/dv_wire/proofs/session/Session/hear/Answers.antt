use Rattle.std.proofs.Common.{[], sym, refl}
use Rattle.std.proofs.lemmas.List.{append-nil}
use Rattle.dv_wire.proofs.Counting.{Counted-none}
use Rattle.dv_wire.proofs.session.Session.hear.Goals as goal
use Rattle.dv_wire.proofs.session.Session.hear.Goals.{in-Reading+in-Err+in-Reading-1, in-Reading+in-Err+in-Closed-1, in-Reading+in_default-take_in, in_default}

pub returns-clause-heard : goal.returns-clause-heard
returns-clause-heard c =
    elim c.match-self.branch [
      | in-Reading+in-Err+in-Reading-1 w ↦ rw (w.self-is, w.store-is, w.out-is, w.counts-is, w.in-Reading.is) w.in-Err.ensures
      | in-Reading+in-Err+in-Closed-1 w ↦ rw (w.self-is, w.store-is, w.out-is, w.counts-is, w.in-Reading.is) w.in-Err.ensures
      | in-Reading+in_default-take_in w ↦ rw (w.self-is, w.store-is, w.out-is, w.counts-is, w.in-Reading.is) w.in_default-take_in.ensures
      | in_default w ↦ rw (w.self-is, w.store-is, w.out-is, w.counts-is, w.in_default.is) ([], sym (append-nil _), Counted-none _, refl)
    ]
