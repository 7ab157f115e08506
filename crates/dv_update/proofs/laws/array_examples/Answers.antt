use Rattle.std.specs.Fmt.{digits}
use Rattle.std.proofs.Common.{refl}
use Rattle.dv_value.specs.Spelling.{payload, framed, counted, element_spelling}
use Rattle.dv_candidates.specs.Path.{path_of, index_of}
use Rattle.dv_path.specs.Placing.{put}
use Rattle.dv_path.specs.Removing.{remove}
use Rattle.dv_path.specs.Slots.{slot}
use Rattle.dv_update.specs.Parsing.{operator_named}
use Rattle.dv_update.proofs.laws.array_examples.Goals as goal

pub returns-clause-pull : goal.returns-clause-pull
unfolding operator_named path_of index_of put remove slot payload framed counted element_spelling digits
returns-clause-pull c = refl

pub returns-clause-push_each : goal.returns-clause-push_each
unfolding operator_named path_of index_of put remove slot payload framed counted element_spelling digits
returns-clause-push_each c = refl

pub returns-clause-unset : goal.returns-clause-unset
unfolding operator_named path_of index_of put remove slot payload framed counted element_spelling digits
returns-clause-unset c = refl

pub returns-clause-same_id : goal.returns-clause-same_id
unfolding operator_named path_of index_of put remove slot payload framed counted element_spelling digits
returns-clause-same_id c = refl
