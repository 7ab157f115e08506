use Rattle.std.proofs.Common.{Bool, List, ◌∙◌}
use Rattle.dv_value.specs.Tree.{Field}
use Rattle.dv_coll.specs.Collection.{id_key}
use Rattle.dv_keyed.specs.Inner.Interval.{is_between}
use Rattle.dv_catalog.proofs.Narrowed.{each, nothing_directed}
use Rattle.dv_catalog.proofs.keyed.rows_between.Goals as goal

pub returns-then-not-is_forward : goal.returns-then-not-is_forward
returns-then-not-is_forward c =
    let inside : List Field → Bool = λ d. is_between c.args.ends (id_key d) in
    c.none.ensures ∙ nothing_directed inside inside c.args.direction c.args.rows.now (each _ (λ d e. e) c.args.rows.now) (λ d. c.is_forward.ensures.empty c.if-not-is_forward.true (id_key d))
