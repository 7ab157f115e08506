use Rattle.dv_candidates.specs.Candidates.{or_null}
use Rattle.dv_candidates.specs.View.{seen}
use Rattle.dv_gather.specs.Joining.{joined_by}
use Rattle.dv_path.specs.LeafKeys.{leaf_values}
use Rattle.dv_gather.proofs.Gathered.{joined-alone, found-alone, key-alone}
use Rattle.dv_gather.proofs.keys.sole_key.Goals as goal

pub returns-in_ok-candidate_key-in-None : goal.returns-in_ok-candidate_key-in-None
returns-in_ok-candidate_key-in-None c =
    let path = c.args.path.now in
    let d = c.args.document.now in
    let one = seen c.in-Some.candidate in
    let key = c.in_ok-candidate_key-in-None.field-0 in
    record {
      local = key-alone key (or_null one) (joined_by path d) (joined-alone path d one c.in-Some.ensures.sole c.in-None.ensures) c.in_ok-candidate_key-in-None.ensures;
      foreign = key-alone key (or_null one) (leaf_values path d) (found-alone path d one c.in-Some.ensures.sole c.in-None.ensures) c.in_ok-candidate_key-in-None.ensures;
    }
