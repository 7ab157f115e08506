use Rattle.std.proofs.Common.{◌≡◌, [], sym}
use Rattle.std.specs.Option.{IfSome}
use Rattle.dv_coll.specs.Collection.{AreStanding}
use Rattle.dv_index.specs.declared.ahead.Ahead.{Ahead}
use Rattle.dv_keyed.specs.declared.before.Ties.TheVariants.{ById}
use Rattle.dv_path.specs.Parts.{part}
use Rattle.dv_pipe.specs.Sources.{rows_referred}
use Rattle.dv_catalog.proofs.Foremost.{all-identified, first-part, if-some-weaker}
use Rattle.dv_catalog.proofs.ahead.first_by_index.Goals as goal
use Rattle.dv_value.specs.Inner.ListLaws.{some-is}

pub first_of-requires-clause-parts : goal.first_of-requires-clause-parts
first_of-requires-clause-parts c =
    let by = c.in-Some.by.now in
    let sort = c.args.sort.now in
    let first = first-part c.parts.result.now by sort c.parts.ensures (sym c.in-Some.ensures.value) in
    let ties = c.ties_of-ties.result in
    let tied = some-is c.in-Some-2.ahead (λ (ahead : Ahead). IfSome ahead.bar.until (λ until. ties ≡ ById)) _ c.in-Some-2.is c.in_ok-ahead.ensures.tied in
    (first.0, first.1, if-some-weaker (ties ≡ ById) (first.0 ≡ []) (λ by-id. c.ties_of-ties.ensures by-id (part by) first.0 first.1) _ tied)

pub first_of-requires-clause-identified : goal.first_of-requires-clause-identified
first_of-requires-clause-identified c =
    let documents = c.args.collection.now.documents in
    let standing = some-is c.in-Some-2.ahead (λ (ahead : Ahead). AreStanding documents (rows_referred ahead.documents.items)) _ c.in-Some-2.is c.in_ok-ahead.ensures.standing in
    all-identified c.what_is_found_has_the_key.ensures.begins documents (rows_referred c.in-Some-2.ahead.documents.items) c.law_ascending.ensures.identified standing
