-- What a group in memory stands for.
use Rattle.std.specs.Prelude.{map}
use Rattle.dv_path.specs.Inner.Groups as groups
use Rattle.dv_path.specs.declared.grouping.Group.{Group}

abbrev pub group : Group → groups.Group
group g = (g.component.now, map (λ rest. rest.now) g.rests.items)
