use Rattle.dv_path.proofs.Vectors.{map_set}
use Rattle.dv_path.proofs.exchange.put_element_back.Goals as goal

pub returns : goal.returns
returns c = map_set c.args.values.now.items c.args.place c.args.value c.requires
