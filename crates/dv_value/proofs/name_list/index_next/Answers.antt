use Rattle.std.proofs.Common.{◌≡◌, sym, ap, ◌∙◌, map, length, rules}
use Rattle.std.proofs.lemmas.List.{length-map}
use Rattle.std.proofs.lemmas.Result.{on_ok_weaker}
use Rattle.std.specs.FinMap as finite
use Rattle.dv_value.specs.Inner.Places.{Places, IsNameIndexOf}
use Rattle.dv_value.specs.Names.{bare}
use Rattle.dv_value.proofs.Places.{IsIndexOf-push}
use Rattle.dv_value.proofs.name_list.index_next.Goals as goal

pub returns-in-Some-clause-ok : goal.returns-in-Some-clause-ok
returns-in-Some-clause-ok c =
    let names = c.args.names.now in
    let fields = map bare names in
    let place = length names in
    let before : IsNameIndexOf fields c.in-Some.index.value = search rules in
    on_ok_weaker c.add.result (λ added.
    let now : c.add.new.self ≡ finite.insert c.in-Some.index.value c.args.name.now place = added ∙ ap (λ (places : Places). finite.insert places c.args.name.now place) c.deref_mut.ensures.value in
    rw now (IsIndexOf-push fields c.in-Some.index.value (bare c.args.name.now) place before c.requires.fresh (sym (length-map names bare)))) c.add.ensures.ok
