use Rattle.std.proofs.Common.{◌∙◌, sym}
use Rattle.dv_keyed.specs.Inner.Index.{form_of}
use Rattle.dv_index.specs.Inner.View.{afters}
use Rattle.dv_index.proofs.Tried.{not-unique}
use Rattle.dv_index.proofs.unique.replacing_clashes_in.Goals as goal

pub returns-then-not-is_unique : goal.returns-then-not-is_unique
returns-then-not-is_unique c = sym (not-unique (form_of c.args.index.now) (afters c.args.each.now) c.args.documents.now (sym c.is_unique.ensures ∙ c.if-not-is_unique.true))
