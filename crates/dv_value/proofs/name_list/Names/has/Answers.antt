use Rattle.std.proofs.Common.{map}
use Rattle.dv_value.specs.Names.{bare}
use Rattle.dv_value.proofs.Named.{is_some-place}
use Rattle.dv_value.proofs.name_list.Names.has.Goals as goal

pub returns : goal.returns
returns c = rw (c.is_some.ensures, c.place_by_search.ensures.place) (is_some-place c.args.name.now 0 (map bare c.args.self.now))
