use Rattle.std.specs.Fmt.{digits}
use Rattle.std.proofs.Common.{refl}
use Rattle.dv_value.specs.Spelling.{payload, framed, counted, element_spelling}
use Rattle.dv_match.specs.Match.{passes, meets_all, meets}
use Rattle.dv_match.specs.Parsing as filters
use Rattle.dv_match.specs.Parsing.{test_in, operators_in}
use Rattle.dv_candidates.specs.Path.{path_of, index_of}
use Rattle.dv_path.specs.Placing.{put}
use Rattle.dv_path.specs.Slots.{slot}
use Rattle.dv_update.specs.Parsing.{operator_named}
use Rattle.dv_update.proofs.laws.condition_example.Goals as goal

pub returns : goal.returns
unfolding operator_named test_in operators_in filters.operator_named passes meets_all meets path_of index_of put slot payload framed counted element_spelling digits
returns c = refl
