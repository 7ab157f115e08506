use Rattle.dv_catalog.specs.State.{lists_of}
use Rattle.dv_catalog.proofs.Refreshed.{kept_is_right}
use Rattle.dv_catalog.proofs.refresh.law_shown.Goals as goal

pub returns-clause-shown : goal.returns-clause-shown
returns-clause-shown c = λ namespaces name right rows shown. c.what_is_shown_is_right.ensures.rows name (lists_of namespaces) c.args.registry.now rows c.law_sound.ensures.apart right shown

pub returns-clause-kept : goal.returns-clause-kept
returns-clause-kept c = λ namespaces name right live. kept_is_right c.what_is_shown_is_right.ensures.rows c.what_is_shown_is_right.ensures.none name namespaces c.args.registry.now c.law_sound.ensures.apart right live
