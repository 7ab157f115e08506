use Rattle.std.proofs.Common.{List, Some, subst, sym, ℕ}
use Rattle.std.specs.String.{string_bytes}
use Rattle.dv_change.specs.Changes.{Positioned}
use Rattle.dv_change.specs.Inner.Changes.{IsPositioned}
use Rattle.dv_pipe.specs.Sources.{rows_referred}
use Rattle.dv_views.specs.Inner.Copies.{HaveCopy, NamedCopies, copies_seen}
use Rattle.dv_views.proofs.Building.{places_are_positioned}
use Rattle.dv_views.proofs.Copied.{copy_changed, positioned_with, some_positioned}
use Rattle.dv_views.proofs.copies.Copies.keep.Goals as goal

pub invariant_of-self-in_err-insert : goal.invariant_of-self-in_err-insert
invariant_of-self-in_err-insert c = rw c.in_err-insert.ensures.err c.self.invariant

pub invariant_of-self-2 : goal.invariant_of-self-2
invariant_of-self-2 c =
    let before = c.self.inside.lists in
    let after = c.insert.new.self in
    let copy = c.in_ok-copy.copy in
    let name = string_bytes c.in_ok-from_str.field-0 in
    let placed : IsPositioned copy.entries = subst (λ (rows : Positioned). IsPositioned rows) (sym c.in_ok-copy.ensures) (places_are_positioned (rows_referred c.args.documents.now) c.requires.0) in
    positioned_with name (Some copy.entries) (copies_seen before.entries) (copies_seen after.entries) (copy_changed name before after (Some copy) c.in_ok-insert.ensures.updates) (some_positioned copy.entries placed) c.self.invariant

pub returns-clause-ok : goal.returns-clause-ok
returns-clause-ok c =
    let before = c.self.inside.lists in
    let after = c.insert.new.self in
    let copy = c.in_ok-copy.copy in
    let name = string_bytes c.in_ok-from_str.field-0 in
    subst (λ (rows : Positioned). HaveCopy c.args.namespace.now (Some rows) c.args.self.now (copies_seen after.entries)) c.in_ok-copy.ensures
    (subst (λ (n : List ℕ). HaveCopy n (Some copy.entries) c.args.self.now (copies_seen after.entries)) c.in_ok-from_str.ensures.ok
    (subst (λ (old : NamedCopies). HaveCopy name (Some copy.entries) old (copies_seen after.entries)) c.self.view_is (copy_changed name before after (Some copy) c.in_ok-insert.ensures.updates)))
