use Rattle.std.specs.Fmt.{digits}
use Rattle.std.proofs.Common.{refl}
use Rattle.dv_value.specs.Spelling.{payload, framed, counted, element_spelling}
use Rattle.dv_candidates.specs.Path.{path_of, index_of}
use Rattle.dv_path.specs.Placing.{put}
use Rattle.dv_path.specs.Slots.{slot}
use Rattle.dv_update.specs.Parsing.{operator_named}
use Rattle.dv_update.proofs.laws.order_examples.Goals as goal

pub returns-clause-padded : goal.returns-clause-padded
unfolding operator_named path_of index_of put slot payload framed counted element_spelling digits
returns-clause-padded c = refl
