use Rattle.std.proofs.Common.{◌≡◌, ◌∙◌, ap, sym, true, false, subst, IfSome}
use Rattle.std.proofs.lemmas.List.Elements.{All-push}
use Rattle.std.specs.Option.{option_map}
use Rattle.dv_sort.specs.declared.row.Row.{Row}
use Rattle.dv_sort.specs.Inner.Bar.{IsBar, is_behind}
use Rattle.dv_sort.specs.Front.{with_row}
use Rattle.dv_sort.specs.Keys.{documents}
use Rattle.dv_sort.specs.Inner.Keys.{AreKeyed, HasKeysOf}
use Rattle.dv_sort.proofs.Bars.{bar-kept, behind-bar}
use Rattle.dv_sort.proofs.Kept.{documents-push, pushed}
use Rattle.dv_sort.proofs.sorter.Sorter.push.Goals as goal

pub returns-clause-ok : goal.returns-clause-ok
returns-clause-ok c =
    pushed c.self.inside.spec.now c.self.inside.most c.self.inside.rows.items c.keep_front.new.rows.items c.push.new.self.items (record { keys = c.in_ok-keys.keys; document = c.args.document }) c.in_ok-keep_front.ensures.same c.in_ok-push.ensures.items
    ∙ ap (λ f. with_row f c.args.document) c.self.view_is

pub returns-then-stands_behind-clause-ok : goal.returns-then-stands_behind-clause-ok
returns-then-stands_behind-clause-ok c =
    let parts = c.self.inside.spec.now in
    let most = c.self.inside.most in
    let kept = documents c.keep_front.new.rows.items in
    let bar = option_map (λ (v : _). v.items) c.keep_front.new.bar in
    let behind : is_behind parts c.in_ok-keys.keys.items bar ≡ true = ap (λ ks. is_behind parts ks bar) (sym c.deref.ensures.value) ∙ sym c.stands_behind.ensures ∙ c.if-stands_behind.true in
    sym (behind-bar (λ v. v.items) parts most kept c.keep_front.new.bar c.in_ok-keys.keys.items c.args.document c.keep_front.ensures.bar c.in_ok-keys.ensures behind)
    ∙ ap (λ rows. with_row (record { parts = parts; most = most; rows = rows }) c.args.document) c.in_ok-keep_front.ensures.same
    ∙ ap (λ f. with_row f c.args.document) c.self.view_is

pub invariant_of-self-2 : goal.invariant_of-self-2
invariant_of-self-2 c =
    let parts = c.self.inside.spec.now in
    let most = c.self.inside.most in
    let kept = c.keep_front.new.rows.items in
    let bar = option_map (λ (v : _). v.items) c.keep_front.new.bar in
    let row : Row = record { keys = c.in_ok-keys.keys; document = c.args.document } in
    let ahead : is_behind parts c.in_ok-keys.keys.items bar ≡ false = ap (λ ks. is_behind parts ks bar) (sym c.deref.ensures.value) ∙ sym c.stands_behind.ensures ∙ c.if-stands_behind.false in
    let more = sym (documents-push kept row) ∙ ap documents (sym c.in_ok-push.ensures.items) in (
      subst (AreKeyed parts) (sym c.in_ok-push.ensures.items) (All-push (HasKeysOf parts) kept row c.keep_front.ensures.keyed (record { keys = c.in_ok-keys.ensures })),
      subst (λ ds. IfSome c.keep_front.new.bar (λ v. IsBar parts most ds v.items)) more
          (bar-kept (λ v. v.items) parts most (documents kept) c.keep_front.new.bar c.in_ok-keys.keys.items c.args.document c.keep_front.ensures.bar c.in_ok-keys.ensures ahead),
    )
