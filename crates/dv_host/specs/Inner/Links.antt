-- Open connections in memory, as they appear from outside.
use Rattle.std.specs.Prelude.{ℕ, List, drop, Option}
use Rattle.dv_host.specs.View.{Seen}
use Rattle.dv_host.specs.declared.link.Link.{Link}

-- the bytes of replies that the connection has not taken yet
abbrev pub unsent_of : {C : Type 0} → Link C → List ℕ
unsent_of link = drop link.sent link.out.items

-- the bytes that arrived and were not passed to the session yet
abbrev pub pending_of : {C : Type 0} → Link C → List ℕ
pending_of link = drop link.heard link.rest.items

-- an open connection from its parts in memory
abbrev pub seen_by : {C : Type 0} → (C → Option (List ℕ)) → (C → Option (List ℕ)) → Link C → Seen
seen_by remaining contents link = record {
  session = link.session;
  left = remaining link.channel;
  taken = contents link.channel;
  unsent = unsent_of link;
  pending = pending_of link;
  closing = link.closing;
}
