use Rattle.dv_core.proofs.Alone.{alone_on_view, load_on_view, load_refused, load_stored, named_so}
use Rattle.dv_core.proofs.laws.a_load_is_an_insert_of_one_document.Goals as goal

pub returns-clause-stored : goal.returns-clause-stored
returns-clause-stored c state new asked d is inserts alone session command asks = load_stored state session command asked d asks inserts alone new is

pub returns-clause-refused : goal.returns-clause-refused
returns-clause-refused c state asked d refusal refused inserts alone session command asks = load_refused state session command asked d asks inserts alone refusal refused.0 refused.1

pub returns-clause-on_view : goal.returns-clause-on_view
returns-clause-on_view c state asked d on = (alone_on_view state asked d on, λ session command asks. load_on_view state session command asked d asks on)

pub returns-clause-named : goal.returns-clause-named
returns-clause-named c = named_so
