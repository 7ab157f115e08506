use Rattle.std.proofs.Common.{◌∙◌, ◌||◌, [], ◌∷◌, ap, sym}
use Rattle.std.proofs.lemmas.Result.{on_err_weaker}
use Rattle.std.specs.Ordering.{is_eq}
use Rattle.dv_order.specs.Key.{key_order}
use Rattle.dv_keyed.specs.declared.ids.Kept.{Kept}
use Rattle.dv_keyed.specs.Inner.Ids.{ids_kept}
use Rattle.dv_keyed.specs.Inner.Keys.{has_key}
use Rattle.dv_keyed.proofs.Few.{alone, there-already, two}
use Rattle.dv_keyed.proofs.ids.Ids.add.Goals as goal

pub returns-then-eq-clause-ok : goal.returns-then-eq-clause-ok
returns-then-eq-clause-ok c = λ i.
    let id = c.args.id.now in
    let first = c.in-One.first in
    there-already i id (first ∷ []) (alone id first ∙ sym c.eq.ensures ∙ c.if-eq.true)
    ∙ ap (λ ks. has_key i ks || is_eq (key_order i id)) (ap ids_kept (sym c.in-One.is) ∙ c.self.view_is)

pub returns-then-is_among-clause-ok : goal.returns-then-is_among-clause-ok
returns-then-is_among-clause-ok c = λ i.
    let id = c.args.id.now in
    there-already i id c.in-Few.ids.items (ap (has_key id) (sym c.deref.ensures.value) ∙ sym c.is_among.ensures ∙ c.if-is_among.true)
    ∙ ap (λ ks. has_key i ks || is_eq (key_order i id)) (ap ids_kept (sym c.in-Few.is) ∙ c.self.view_is)

pub returns-in-Many-clause-err : goal.returns-in-Many-clause-err
returns-in-Many-clause-err c = on_err_weaker c.insert_into.result (λ known i. known i ∙ ap (has_key i) (ap ids_kept (sym c.in-Many.is) ∙ c.self.view_is)) c.insert_into.ensures.err

pub returns-in_ok-both-in-One-clause-ok : goal.returns-in_ok-both-in-One-clause-ok
returns-in_ok-both-in-One-clause-ok c = λ i.
    let id = c.args.id.now in
    ap (λ (k : Kept). has_key i (ids_kept k)) c.replace.ensures.after
    ∙ ap (has_key i) c.in_ok-both-in-One.ensures
    ∙ two i c.in-One.first id
    ∙ ap (λ ks. has_key i ks || is_eq (key_order i id)) (ap ids_kept (sym c.in-One.is) ∙ c.self.view_is)

pub returns-in_ok-set_with-in-Few-clause-ok : goal.returns-in_ok-set_with-in-Few-clause-ok
returns-in_ok-set_with-in-Few-clause-ok c = λ i.
    ap (λ (k : Kept). has_key i (ids_kept k)) c.replace-in-Few.ensures.after
    ∙ c.in_ok-set_with-in-Few.ensures i
    ∙ ap (λ ks. has_key i ks || is_eq (key_order i c.args.id.now)) (c.deref-in-Few.ensures.value ∙ ap ids_kept (sym c.in-Few.is) ∙ c.self.view_is)
