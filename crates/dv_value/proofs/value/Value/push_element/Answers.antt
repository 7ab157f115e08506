use Rattle.std.proofs.Common.{ap}
use Rattle.std.proofs.lemmas.Result.{on_ok_weaker}
use Rattle.dv_value.specs.Tree.{array, elements_of}
use Rattle.dv_value.specs.Inner.TreeLaws.{elements_again}
use Rattle.dv_value.proofs.value.Value.push_element.Goals as goal

pub returns-in-Array-clause-ok : goal.returns-in-Array-clause-ok
returns-in-Array-clause-ok c =
    rw (c.in-Array.is, elements_again c.in-Array.list) (on_ok_weaker c.push.result (λ pushed. ap (λ vs. array (elements_of vs)) pushed) c.push.ensures.ok)
