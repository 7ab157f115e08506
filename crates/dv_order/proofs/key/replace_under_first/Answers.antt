use Rattle.dv_order.proofs.key.replace_under_first.Goals as goal

pub returns-in-Some-clause-documents : goal.returns-in-Some-clause-documents
returns-in-Some-clause-documents c = rw c.in-Some.ensures at c.replace_under.ensures.documents

pub returns-in-Some-clause-found : goal.returns-in-Some-clause-found
returns-in-Some-clause-found c = rw c.in-Some.ensures at c.replace_under.ensures.found
