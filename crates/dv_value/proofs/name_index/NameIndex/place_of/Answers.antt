use Rattle.std.proofs.Common.{sym, ◌∙◌}
use Rattle.dv_value.proofs.ByText.{get-by_text}
use Rattle.dv_value.proofs.name_index.NameIndex.place_of.Goals as goal

pub returns : goal.returns
returns c = rw (c.copied.ensures, ← c.self.view_is) (c.get.ensures.value ∙ sym (get-by_text c.self.inside.places c.args.name.now))
