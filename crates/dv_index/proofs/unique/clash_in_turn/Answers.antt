use Rattle.std.proofs.Common.{◌+◌, ◌∷◌, ◌∙◌, [], drop, ap, subst, sym, ℕ, List}
use Rattle.dv_path.specs.LeafKeys.{is_leaf_key}
use Rattle.dv_keyed.specs.Inner.Index.{form_of}
use Rattle.dv_index.specs.Inner.View.{afters, befores}
use Rattle.dv_index.specs.Unique as defined
use Rattle.dv_index.specs.declared.unique.Replacing.{Replacing}
use Rattle.dv_index.proofs.Tried.{InTurn, at-first, goes-on, refused}
use Rattle.dv_index.proofs.unique.clash_in_turn.Goals as goal
use Rattle.dv_value.specs.Inner.ListLaws.{drop-read}

pub each-init : goal.each-init
each-init c =
    at-first c.args.index.now c.new-trial.result.gone c.new-trial.result.come (befores c.args.each.now) (afters c.args.each.now) c.args.documents.now c.new-trial.ensures.gone c.new-trial.ensures.come c.requires.indexed c.requires.standing c.law_ascending.ensures.ascending c.law_ascending.ensures.identified c.requires.same_ids c.requires.identified

pub returns-then-clashes : goal.returns-then-clashes
returns-then-clashes c =
    let form = form_of c.args.index.now in
    let held = c.args.index.now.pairs in
    let all = defined.replacing_clashes (form ∷ []) (afters c.args.each.now) c.args.documents.now in
    let r = c.replacing-item.result in
    let rest = drop (c.each.replacing-index + 1) c.args.each.now in
    let moved = c.in_ok-moved.moved in
    let turn = subst (λ (rs : List Replacing). InTurn form held c.each.trial.gone c.each.trial.come (befores rs) (afters rs) all) (drop-read c.args.each.now c.each.replacing-index r c.each-test.true c.replacing-item.is) c.each.invariant in
    refused form c.requires.unique held c.each.trial.gone c.each.trial.come r.before.now r.after.now (befores rest) (afters rest) all turn moved.old moved.new moved.id c.in_ok-moved.ensures.id
    (λ k. c.in_ok-moved.ensures.old k ∙ ap (λ (p : List (List ℕ)). is_leaf_key k p r.before.now) c.path.ensures) (λ k. c.in_ok-moved.ensures.new k ∙ ap (λ (p : List (List ℕ)). is_leaf_key k p r.after.now) c.path.ensures)
    (sym c.clashes.ensures ∙ c.if-clashes.true)

pub each-preserved : goal.each-preserved
each-preserved c =
    let form = form_of c.args.index.now in
    let held = c.args.index.now.pairs in
    let all = defined.replacing_clashes (form ∷ []) (afters c.args.each.now) c.args.documents.now in
    let r = c.replacing-item.result in
    let rest = drop (c.each.replacing-index + 1) c.args.each.now in
    let moved = c.in_ok-moved.moved in
    let turn = subst (λ (rs : List Replacing). InTurn form held c.each.trial.gone c.each.trial.come (befores rs) (afters rs) all) (drop-read c.args.each.now c.each.replacing-index r c.each-test.true c.replacing-item.is) c.each.invariant in
    goes-on form c.requires.unique held c.each.trial.gone c.each.trial.come r.before.now r.after.now (befores rest) (afters rest) all turn moved.old moved.new moved.id c.in_ok-moved.ensures.id
    (λ k. c.in_ok-moved.ensures.old k ∙ ap (λ (p : List (List ℕ)). is_leaf_key k p r.before.now) c.path.ensures) (λ k. c.in_ok-moved.ensures.new k ∙ ap (λ (p : List (List ℕ)). is_leaf_key k p r.after.now) c.path.ensures)
    (sym c.clashes.ensures ∙ c.if-clashes.false) c.exchange.new.self.gone c.exchange.new.self.come c.in_ok-exchange.ensures.gone c.in_ok-exchange.ensures.come
    c.replaced_documents_ascend.ensures c.replaced_documents_begin_with_ids.ensures c.replaced_document_is_found.ensures c.documents_stand_where_they_are_found.ensures.others
