use Rattle.std.proofs.Common.{ap, sym, arith}
use Rattle.std.proofs.lemmas.Option.{IfSome_then}
use Rattle.dv_value.specs.View.{tree}
use Rattle.dv_candidates.proofs.Stands.{within-before}
use Rattle.dv_candidates.proofs.onward.next.Goals as goal

pub in_document-requires : goal.in_document-requires
in_document-requires c = within-before c.requires (sym c.if-has.ensures.place)

pub in_list-requires : goal.in_list-requires
in_list-requires c = within-before c.requires (sym c.if-has.ensures.place)

pub returns-in-Doc-clause-stand : goal.returns-in-Doc-clause-stand
returns-in-Doc-clause-stand c = rw (ap tree c.in-Doc.is) c.in_document.ensures.stand

pub returns-in-Doc-clause-weight : goal.returns-in-Doc-clause-weight
returns-in-Doc-clause-weight c = rw (ap tree c.in-Doc.is) (IfSome_then c.in_document.result c.in_document.ensures.weight (λ stand h. omega (arith, h)))

pub returns-in-Array-clause-stand : goal.returns-in-Array-clause-stand
returns-in-Array-clause-stand c = rw (ap tree c.in-Array.is) c.in_list.ensures.stand

pub returns-in-Array-clause-weight : goal.returns-in-Array-clause-weight
returns-in-Array-clause-weight c = rw (ap tree c.in-Array.is) (IfSome_then c.in_list.result c.in_list.ensures.weight (λ stand h. omega (arith, h)))
