-- What an update in memory represents.
use Rattle.dv_update.specs.declared.form.Update.{Update}
use Rattle.dv_update.specs.declared.form.Update.TheVariants.{Replacement, Operators}
use Rattle.dv_update.specs.Update as form

abbrev pub update : Update → form.Update
update (Replacement fields) = form.replacement fields
update (Operators edits) = form.operators edits
