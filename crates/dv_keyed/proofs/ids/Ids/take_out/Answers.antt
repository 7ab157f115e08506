use Rattle.std.proofs.Common.{◌∙◌, ◌&&◌, ap, not, sym}
use Rattle.std.specs.Ordering.{is_eq}
use Rattle.dv_order.specs.Key.{key_order}
use Rattle.dv_order.specs.Inner.KeyLaws.{equal-back}
use Rattle.dv_keyed.specs.declared.ids.Kept.{Kept}
use Rattle.dv_keyed.specs.Inner.Ids.{ids_kept}
use Rattle.dv_keyed.specs.Inner.Keys.{has_key}
use Rattle.dv_keyed.proofs.Few.{alone-dropped, alone-stays, cond-and-not, dropped}
use Rattle.dv_keyed.proofs.ids.Ids.take_out.Goals as goal

pub returns-then-eq : goal.returns-then-eq
returns-then-eq c = λ i.
    let id = c.args.id.now in
    ap (λ (k : Kept). has_key i (ids_kept k)) c.replace.ensures.after
    ∙ ap (has_key i) c.new.ensures.items
    ∙ alone-dropped i id c.in-One.first (sym c.eq.ensures ∙ c.if-eq.true)
    ∙ ap (λ ks. has_key i ks && not (is_eq (key_order i id))) (ap ids_kept (sym c.in-One.is) ∙ c.self.view_is)

pub returns-else-eq : goal.returns-else-eq
returns-else-eq c = λ i.
    let id = c.args.id.now in
    alone-stays i id c.in-One.first (sym c.eq.ensures ∙ c.if-eq.false)
    ∙ ap (λ ks. has_key i ks && not (is_eq (key_order i id))) (ap ids_kept (sym c.in-One.is) ∙ c.self.view_is)

pub returns-in-Few : goal.returns-in-Few
returns-in-Few c = λ i.
    let id = c.args.id.now in
    ap (has_key i) c.drop_equal.ensures
    ∙ dropped i id c.in-Few.ids.items
    ∙ ap (λ ks. has_key i ks && not (is_eq (key_order i id))) (ap ids_kept (sym c.in-Few.is) ∙ c.self.view_is)

pub returns-in-Many : goal.returns-in-Many
returns-in-Many c = λ i.
    let id = c.args.id.now in
    let was = has_key i c.in-Many.ids.keys in
    c.remove.ensures.updates.0 i
    ∙ cond-and-not (is_eq (key_order id i)) was
    ∙ ap (λ b. was && not b) (equal-back id i)
    ∙ ap (λ ks. has_key i ks && not (is_eq (key_order i id))) (ap ids_kept (sym c.in-Many.is) ∙ c.self.view_is)
