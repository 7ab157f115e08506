use Rattle.std.proofs.Common.{[], List, refl, subst, sym, ◌∙◌}
use Rattle.dv_pipe.specs.Sources.{Row}
use Rattle.dv_views.specs.Inner.Changed.{gone_each, gones_of}
use Rattle.dv_views.proofs.Behind.{AreToldIn, follow_none}
use Rattle.dv_views.proofs.Losing.{HaveGone, follow_unread, gone_all, gone_more}
use Rattle.dv_views.proofs.told_registry.ToldRegistry.apply_gone.Goals as goal

pub returns-then-not-is_read-clause-counted : goal.returns-then-not-is_read-clause-counted
returns-then-not-is_read-clause-counted c =
    (follow_unread c.what_is_not_read_does_not_matter.ensures c.args.namespace.now (gone_each c.args.documents) (AreToldIn (gones_of c.args.documents)) c.args.self.now (sym c.is_read.ensures ∙ c.if-not-is_read.true)).counted

pub documents-init : goal.documents-init
documents-init c =
    let documents = c.args.documents in
    subst (λ (left : List Row). HaveGone c.args.namespace.now documents left c.args.self.now c.args.self.now) (sym c.into_iter-document-iterator.ensures.into_iter_gives)
    (record { came = []; whole = refl; followed = follow_none c.args.namespace.now (AreToldIn []) c.args.self.now; identified = c.requires })

pub documents-preserved : goal.documents-preserved
documents-preserved c =
    let namespace = c.args.namespace.now in
    let documents = c.args.documents in
    let so_far = subst (λ (left : List Row). HaveGone namespace documents left c.args.self.now c.documents.self) c.in-Some.ensures.steps c.documents.invariant in
    gone_more c.kept_rows_are_those_from_scratch.ensures c.what_is_not_read_does_not_matter-2.ensures c.equal_keys_are_one.ensures namespace documents c.in-Some.document.now c.next.new.self c.args.self.now c.documents.self c.take_gone.new.self so_far
    c.take_gone.ensures.taken c.take_gone.ensures.sound.live

pub returns-clause-right : goal.returns-clause-right
returns-clause-right c =
    let namespace = c.args.namespace.now in
    let documents = c.args.documents in
    (gone_all namespace documents c.args.self.now c.documents.self (subst (λ (left : List Row). HaveGone namespace documents left c.args.self.now c.documents.self) c.in-None.ensures.steps.0 c.documents.invariant)).right

pub returns-clause-counted : goal.returns-clause-counted
returns-clause-counted c =
    let namespace = c.args.namespace.now in
    let documents = c.args.documents in
    (gone_all namespace documents c.args.self.now c.documents.self (subst (λ (left : List Row). HaveGone namespace documents left c.args.self.now c.documents.self) c.in-None.ensures.steps.0 c.documents.invariant)).counted
