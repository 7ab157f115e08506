use Rattle.std.proofs.Common.{◌≡◌, false, inl, codes, sym, ap, ◌∙◌, arith}
use Rattle.std.specs.List.{list_any}
use Rattle.std.specs.Str.{bytes_eq}
use Rattle.dv_keyed.specs.Index.{id_form}
use Rattle.dv_index.specs.Indexed.{is_dropped}
use Rattle.dv_index.specs.Inner.Indexed.{with_indexes}
use Rattle.dv_catalog.specs.Inner.IndexParts.{collection_so}
use Rattle.dv_catalog.proofs.ByEntry.{all_stay, none_dropped}
use Rattle.dv_catalog.proofs.indexing.drop_named.Goals as goal

pub returns-then-not-drop_index-clause-made : goal.returns-then-not-drop_index-clause-made
returns-then-not-drop_index-clause-made c =
    let name = c.args.name.now in
    let old = c.args.collection.now in
    let star : bytes_eq name (codes "*") ≡ false = grind (arith, c.eq.ensures, c.if-eq.false) in
    let id : bytes_eq name id_form.name ≡ false = grind (arith, c.eq-2.ensures, c.if-eq-2.false) in
    let none : list_any (is_dropped name) old.indexes ≡ false = sym c.drop_index.ensures.found ∙ c.if-not-drop_index.true in
    (inl (ap (collection_so old) (none_dropped name old.indexes star id none)), c.drop_index.ensures.indexes ∙ ap (λ xs. with_indexes xs old) (all_stay name old.indexes none))
