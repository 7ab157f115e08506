use Rattle.std.proofs.Common.{Bor, arith, ◌≤◌, ◌∙◌, Bool, filter as kept, length, sym}
use Rattle.std.proofs.lemmas.List.{take_all}
use Rattle.dv_value.specs.declared.value.Document.{Document}
use Rattle.dv_value.specs.Inner.ListLaws.{filter-length}
use Rattle.dv_match.specs.Match.{matches}
use Rattle.dv_index.proofs.search.matching.Goals as goal

pub returns-then-len-most : goal.returns-then-len-most
returns-then-len-most c =
    let test : Bor Document → Bool = λ d. matches c.args.filter.now d.now in
    let documents = c.args.documents.items in
    let few : length (kept test documents) ≤ c.args.most = omega (arith, c.if-len-most.true, filter-length test documents, c.len.ensures, c.args.documents.ok) in
    c.all_matching.ensures ∙ sym (take_all c.args.most (kept test documents) few)
