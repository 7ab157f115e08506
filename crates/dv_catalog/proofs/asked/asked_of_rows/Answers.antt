use Rattle.std.proofs.Common.{◌≡◌, true, refl}
use Rattle.std.proofs.lemmas.Result.{IfOk-weaker}
use Rattle.dv_coll.specs.Collection.{id_key}
use Rattle.dv_match.specs.Match.{matches}
use Rattle.dv_catalog.specs.Inner.Asked.{is_asked}
use Rattle.dv_catalog.proofs.Narrowed.{each, each_identified}
use Rattle.dv_catalog.proofs.asked.asked_of_rows.Goals as goal

pub returns-then-branch : goal.returns-then-branch
returns-then-branch c = each _ (λ d e. refl) c.args.rows.now

pub returns : goal.returns
returns c =
    IfOk-weaker c.asked_of_ids.result _ _ (λ asked holds. each_identified (λ d. matches c.args.filter.now d ≡ true → is_asked asked (id_key d) ≡ true) (λ d h e. holds d h e) c.args.rows.now (c.in_ok-has_array_id.ensures c.if-branch.false)) c.asked_of_ids.ensures
