use Rattle.std.proofs.Common.{◌≡◌, map, take, length, ◌++◌, drop, ap, sym, arith, rules}
use Rattle.std.proofs.lemmas.Grind.{common_steps}
use Rattle.std.proofs.lemmas.List.{length-map}
use Rattle.dv_value.specs.View.{tree}
use Rattle.dv_value.proofs.Zipped.{zip-same}
use Rattle.dv_value.proofs.value.+sharing.Goals as goal

pub Fields::share_names-returns : goal.Fields::share_names-returns
Fields::share_names-returns t c =
    let own = c.self.inside.names.value in
    let others = c.other.inside.names.value in
    let values = c.self.inside.values.items in
    let count : c.len.result ≡ length (map tree values) = omega (arith, c.len.ensures, c.self.inside.values.ok.0, length-map values tree) in
    let same : take (length (map tree values)) own ≡ take (length (map tree values)) others = rw (c.deref.ensures, c.deref-2.ensures, count) at (c.begins_as.ensures c.if-not-begins_as.false).1 in
    let names : c.in-Ok.names.value ≡ others = search rules in
    let inner : map tree c.share_inner_names.new.values ≡ map tree values = grind (arith, common_steps) in
    let len : length c.share_inner_names.new.values ≡ c.self.inside.values.len = omega (arith, ap length inner, length-map values tree, length-map c.share_inner_names.new.values tree, c.self.inside.values.ok.0) in
    let kept : take c.self.inside.values.len (c.share_inner_names.new.values ++ drop (length c.share_inner_names.new.values) values) ≡ c.share_inner_names.new.values = grind (arith, common_steps) in
    rw (← c.self.view_is, names, kept, inner) (sym (zip-same own others (map tree values) same))
