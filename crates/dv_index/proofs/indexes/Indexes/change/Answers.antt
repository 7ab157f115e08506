use Rattle.std.proofs.Common.{◌∙◌, List, ap, map, sym, subst}
use Rattle.std.proofs.lemmas.List.{with_items_is}
use Rattle.std.proofs.lemmas.Result.{on_ok_weaker, on_err_weaker}
use Rattle.dv_index.specs.Inner.Change.{AreIndexesOf}
use Rattle.dv_keyed.specs.Inner.Index.{IndexTree, BeginsWithId, form_of}
use Rattle.dv_index.proofs.Built.{same-length, begins-alike}
use Rattle.dv_index.proofs.indexes.Indexes.change.Goals as goal

pub invariant_of-self : goal.invariant_of-self
invariant_of-self c =
    let new = c.change_behind_first.new.indexes in
    let back = with_items_is c.self.inside.indexes new (same-length new c.as_mut_slice.result.now c.change_behind_first.ensures.forms ∙ c.as_mut_slice.ensures.len) in
    subst BeginsWithId (sym back) (begins-alike new c.as_mut_slice.result.now c.change_behind_first.ensures.forms (subst BeginsWithId (sym c.as_mut_slice.ensures.value) c.self.invariant))

pub returns-clause-indexed : goal.returns-clause-indexed
returns-clause-indexed c =
    let new = c.change_behind_first.new.indexes in
    let back = with_items_is c.self.inside.indexes new (same-length new c.as_mut_slice.result.now c.change_behind_first.ensures.forms ∙ c.as_mut_slice.ensures.len) in
    on_ok_weaker c.change_behind_first.result (λ known. subst (λ (xs : List IndexTree). AreIndexesOf xs c.change_behind_first.new.documents) (sym back) known) c.change_behind_first.ensures.indexed

pub returns-clause-still_indexed : goal.returns-clause-still_indexed
returns-clause-still_indexed c =
    let new = c.change_behind_first.new.indexes in
    let back = with_items_is c.self.inside.indexes new (same-length new c.as_mut_slice.result.now c.change_behind_first.ensures.forms ∙ c.as_mut_slice.ensures.len) in
    on_err_weaker c.change_behind_first.result (λ known. subst (λ (xs : List IndexTree). AreIndexesOf xs c.args.documents.now) (sym back) known) c.change_behind_first.ensures.still_indexed

pub returns-clause-forms : goal.returns-clause-forms
returns-clause-forms c =
    let new = c.change_behind_first.new.indexes in
    let back = with_items_is c.self.inside.indexes new (same-length new c.as_mut_slice.result.now c.change_behind_first.ensures.forms ∙ c.as_mut_slice.ensures.len) in
    ap (map form_of) back ∙ c.change_behind_first.ensures.forms ∙ ap (map form_of) (c.as_mut_slice.ensures.value ∙ c.self.view_is)
