use Rattle.std.proofs.Common.{◌∙◌, ap, refl}
use Rattle.std.specs.Str.{bytes_eq}
use Rattle.dv_pipe.proofs.Namespaces.{beside-none, beside-second, beside-not}
use Rattle.dv_pipe.proofs.namespace.is_beside.Goals as goal

pub returns-then-eq : goal.returns-then-eq
returns-then-eq c =
    let d = c.in-Some.database in
    beside-second c.args.source.now c.args.collection.now c.args.namespace.now d c.in-Some.name c.in-Some.ensures.cases c.eq.result c.eq-then-eq.result (c.eq.ensures ∙ ap (bytes_eq d.now) c.database_of.ensures) c.eq-then-eq.ensures c.if-eq.true

pub returns-else-eq : goal.returns-else-eq
returns-else-eq c =
    let d = c.in-Some.database in
    beside-not c.args.source.now c.args.collection.now c.args.namespace.now d c.in-Some.name c.in-Some.ensures.cases c.eq.result (bytes_eq c.in-Some.name.now c.args.collection.now) (c.eq.ensures ∙ ap (bytes_eq d.now) c.database_of.ensures) refl c.if-eq.false

pub returns-in-None : goal.returns-in-None
returns-in-None c = beside-none c.args.source.now c.args.collection.now c.args.namespace.now c.in-None.ensures.cases
