-- What the parts of an update in memory represent.
use Rattle.std.specs.Prelude.{ℕ, List}
use Rattle.dv_value.specs.View.{tree}
use Rattle.dv_match.specs.View.{test}
use Rattle.dv_update.specs.declared.form.Operation.{Operation}
use Rattle.dv_update.specs.declared.form.Operation.TheVariants.{Set, Unset, Inc, Push, Pull}
use Rattle.dv_update.specs.declared.form.Pulled.{Pulled}
use Rattle.dv_update.specs.declared.form.Pulled.TheVariants.{Equal, Passing}
use Rattle.dv_update.specs.declared.form.Edit.{Edit}
use Rattle.dv_update.specs.Update as form

abbrev pub pulled : Pulled → form.Pulled
pulled (Equal v) = form.equal_to (tree v)
pulled (Passing t) = form.passing (test t)

abbrev pub operation : Operation → form.Operation
operation (Set v) = form.assign (tree v)
operation Unset = form.take_away
operation (Inc n) = form.increase n
operation (Push vs) = form.append vs
operation (Pull p) = form.pull (pulled p)

abbrev pub edit : Edit → form.Edit
edit e = (e.path, operation e.operation)

-- a path and an operation, as an edit
abbrev pub entry : List (List ℕ) × Operation → form.Edit
entry e = (e.0, operation e.1)
