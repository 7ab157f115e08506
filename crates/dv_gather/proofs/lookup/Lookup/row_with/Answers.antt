use Rattle.std.proofs.Common.{◌≡◌, ◌++◌, ◌∷◌, []}
use Rattle.dv_value.specs.Tree.{array, elements_of}
use Rattle.dv_value.specs.Names.{with_values}
use Rattle.dv_gather.specs.Lookups.{set_field}
use Rattle.dv_gather.specs.Inner.Alike.{values_of}
use Rattle.dv_gather.proofs.NamedAlike.{set-like}
use Rattle.dv_gather.proofs.lookup.Lookup.row_with.Goals as goal

pub returns-then-has_names_of : goal.returns-then-has_names_of
returns-then-has_names_of c =
    let name = c.args.self.now.target in
    let v = array (elements_of c.args.values) in
    let e : set_field name v c.args.row.now ≡ with_values c.in-Some.before.now (values_of c.args.row.now ++ v ∷ []) =
    set-like name v c.in-Some.before.now c.args.row.now (rw (← c.as_str-target.ensures) (c.has_names_of.ensures.names c.if-has_names_of.true)) c.has_names_of.ensures.named in
    rw e c.row_like.ensures
