use Rattle.std.proofs.Common.{◌≡◌, ◌+◌, ◌-◌, ◌≤◌, List, ◌++◌, length, take}
use Rattle.std.specs.Vec.{vec_capacity, vec_len}
use Rattle.dv_wire.specs.declared.events.Said.{Said}
use Rattle.dv_wire.specs.Playing.{Plays}
use Rattle.dv_wire.proofs.hub.Hub.play.Given as goal

-- the events so far have happened, and there is room for what is said of the others
abbrev pub invariant-events : goal.invariant-events
invariant-events l = record {
  played : (said : List Said) × (l.out.items ≡ l.fn.out.items ++ said) × Plays l.fn.self (take l.event-index l.events) said l.self;
  room : vec_len l.out + (length l.events - l.event-index) ≤ vec_capacity l.out;
}
