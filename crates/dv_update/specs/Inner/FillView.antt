-- What a fill in memory stands for.
use Rattle.dv_update.specs.Inner.Filling as filling
use Rattle.dv_update.specs.declared.filling.Fill.{Fill}

abbrev pub fill : Fill → filling.Fill
fill f = (f.path.now, f.rest.now)
