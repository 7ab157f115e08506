use Rattle.std.proofs.Common.{Bool, List, ap, filter, subst, sym, true, ◌≡◌, ◌∙◌}
use Rattle.std.proofs.lemmas.Result.{IfOk-weaker}
use Rattle.std.specs.List.{AllByRecursion}
use Rattle.dv_value.specs.Tree.{Field}
use Rattle.dv_order.specs.Key.{KeyTree}
use Rattle.dv_coll.specs.Collection.{id_key}
use Rattle.dv_keyed.specs.Inner.Interval.{is_between}
use Rattle.dv_keyed.specs.Inner.Keys.{has_key}
use Rattle.dv_match.specs.Match.{matches}
use Rattle.dv_sort.specs.Sorting.{front}
use Rattle.dv_catalog.specs.Inner.Asked.{is_asked}
use Rattle.dv_catalog.specs.declared.asked.WantedIds.{WantedIds}
use Rattle.dv_catalog.proofs.Narrowed.{kept_directed}
use Rattle.dv_catalog.proofs.keyed.first_by_key.Goals as goal

pub returns-in_ok-candidates-in-Between : goal.returns-in_ok-candidates-in-Between
returns-in_ok-candidates-in-Between c =
    let test = matches c.args.filter.now in
    let rows = c.args.rows.now in
    let inside : List Field → Bool = λ d. is_between c.in-Between.ends (id_key d) in
    let all : AllByRecursion (λ d. test d ≡ true → inside d ≡ true) rows =
    subst (λ (a : WantedIds). AllByRecursion (λ d. matches c.args.filter.now d ≡ true → is_asked a (id_key d) ≡ true) c.args.rows.now) c.in-Between.is c.in_ok-ends.ensures in
    IfOk-weaker c.first_matching.result _ _ (λ found is.
    is ∙ ap (front c.args.most) (ap (filter test) c.in_ok-candidates-in-Between.ensures ∙ kept_directed test inside c.args.direction rows all)) c.first_matching.ensures

pub returns-in_ok-candidates-in-Among : goal.returns-in_ok-candidates-in-Among
returns-in_ok-candidates-in-Among c =
    let test = matches c.args.filter.now in
    let rows = c.args.rows.now in
    let inside : List Field → Bool = λ d. has_key (id_key d) c.deref.result.now in
    let asked : AllByRecursion (λ d. test d ≡ true → has_key (id_key d) c.in-Among.keys.items ≡ true) rows =
    subst (λ (a : WantedIds). AllByRecursion (λ d. matches c.args.filter.now d ≡ true → is_asked a (id_key d) ≡ true) c.args.rows.now) c.in-Among.is c.in_ok-ends.ensures in
    let all : AllByRecursion (λ d. test d ≡ true → inside d ≡ true) rows =
    subst (λ (keys : List KeyTree). AllByRecursion (λ d. matches c.args.filter.now d ≡ true → has_key (id_key d) keys ≡ true) c.args.rows.now) (sym c.deref.ensures.value) asked in
    c.first_of.ensures ∙ ap (front c.args.most) (ap (filter test) c.in_ok-candidates-in-Among.ensures ∙ kept_directed test inside c.args.direction rows all)
