use Rattle.std.proofs.Common.{◌≡◌, ◌==◌, sym, inr, refl, lit<}
use Rattle.std.specs.List.{slice_split}
use Rattle.std.specs.Str.Iter.{split_steps}
use Rattle.std.specs.Str.Pattern.{FindsChar}
use Rattle.std.proofs.lemmas.Iterator.Splits.{YieldsList-from_str_split}
use Rattle.dv_candidates.proofs.Parsing.{YieldsList-next, YieldsList-last, IsRead-none, IsRead-more, path_of-refused, path_of-read, some-read}
use Rattle.dv_candidates.proofs.path.cut.Goals as goal

pub names-init : goal.names-init
names-init c =
    let text = c.args.text.now in (
      tt,
      tt,
      (
        slice_split (λ b. b == 46) text,
        rw c.into_iter-name-iterator.ensures.into_iter_gives (YieldsList-from_str_split 46 text (lit< tt) c.split-name-items.ensures.text c.split-name-items.ensures.has_more c.split-name-items.ensures.pattern),
        rw c.new-components.ensures.items (IsRead-none text),
      ),
    )

pub names-preserved : goal.names-preserved
names-preserved c =
    let left = c.names.invariant.2 in
    let name = c.in-Some.name in
    let it = YieldsList-next (split_steps FindsChar (λ a b. b ≡ a)) (λ x. x.now) c.names.name-iterator c.next.new.self left.0 name left.1 c.in-Some.ensures.steps in
    (tt, tt, (it.0, it.2, rw (c.in_ok-push.ensures.items, c.in_ok-of.ensures) (IsRead-more name.now left.2 it.1 (sym c.if-not-is_name.ensures))))

pub returns-then-not-is_name : goal.returns-then-not-is_name
returns-then-not-is_name c =
    let left = c.names.invariant.2 in
    let name = c.in-Some.name in
    let it = YieldsList-next (split_steps FindsChar (λ a b. b ≡ a)) (λ x. x.now) c.names.name-iterator c.next.new.self left.0 name left.1 c.in-Some.ensures.steps in
    inr (refl, path_of-refused name.now left.2 it.1 (sym c.if-not-is_name.ensures))

pub invariant_of-result : goal.invariant_of-result
invariant_of-result c =
    let left = c.names.invariant.2 in
    some-read left.2 (YieldsList-last (split_steps FindsChar (λ a b. b ≡ a)) (λ x. x.now) c.names.name-iterator c.next.new.self left.0 left.1 c.in-None.ensures.steps)

pub returns : goal.returns
returns c =
    let left = c.names.invariant.2 in
    path_of-read left.2 (YieldsList-last (split_steps FindsChar (λ a b. b ≡ a)) (λ x. x.now) c.names.name-iterator c.next.new.self left.0 left.1 c.in-None.ensures.steps)
