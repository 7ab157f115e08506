use Rattle.dv_core.specs.State.{standing}
use Rattle.dv_core.specs.declared.outcome.Outcome.TheVariants.{Wanting}
use Rattle.dv_core.proofs.Bare.{bare}
use Rattle.dv_core.proofs.Spelled.{replies_spelled, wanting_spelled}
use Rattle.dv_core.proofs.SpelledRefusals.{refusal_spelled}
use Rattle.dv_core.proofs.Viewed.{rows_valid}
use Rattle.dv_core.proofs.laws.replies_have_a_spelling.Goals as goal

pub returns-clause-answered : goal.returns-clause-answered
returns-clause-answered c =
    replies_spelled c.what_is_asked_is_sound.ensures c.a_count_has_a_spelling.ensures (record { front = c.a_batch_is_a_front.ensures; within = c.a_batch_is_full.ensures.within }) c.what_comes_out_is_valid.ensures

pub returns-clause-wanting : goal.returns-clause-wanting
returns-clause-wanting c old new session command reply sound steps =
    wanting_spelled c.what_is_asked_is_sound.ensures c.a_count_has_a_spelling.ensures old (standing old.marks new) session command reply sound (bare old new session command (Wanting reply) steps)

pub returns-clause-rows : goal.returns-clause-rows
returns-clause-rows c = λ state all. rows_valid c.what_comes_out_is_valid.ensures state all.documents all.views

pub returns-clause-refused : goal.returns-clause-refused
returns-clause-refused c = refusal_spelled
