use Rattle.std.proofs.Common.{rules}
use Rattle.std.proofs.lemmas.List.Sorted.{answers_always}
use Rattle.dv_wire.proofs.Sessions.{searched}
use Rattle.dv_wire.proofs.hub.place_of.Goals as goal

-- the closure gives a session's number
pub returns : goal.returns
returns c =
    let facts = c.binary_search_by_key.ensures in
    let by_number = facts.position (λ s. s.number) (answers_always _ _ _ (λ f a r g called. search rules)) in
    rw (c.ok.ensures.value) (searched c.args.number c.args.sessions.now c.binary_search_by_key.result c.requires facts.bound by_number)
