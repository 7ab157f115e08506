use Rattle.std.proofs.Common.{◌≡◌, ◌∙◌, ◌&&◌, ℕ, List, true, ap, sym}
use Rattle.dv_keyed.specs.Inner.Keys.{has_key}
use Rattle.dv_keyed.specs.Inner.Pairs.{Pair, is_under_another}
use Rattle.dv_index.specs.Unique.{is_key_taken}
use Rattle.dv_path.specs.LeafKeys.{is_leaf_key}
use Rattle.dv_index.proofs.Taken.{under-is-taken}
use Rattle.dv_index.proofs.unique.clashes_in.Goals as goal

pub returns : goal.returns
returns c =
    let index = c.args.index.now in
    let d = c.args.document.now in
    let ds = c.args.documents.now in
    let unique : index.unique ≡ true = sym c.is_unique.ensures ∙ c.if-not-is_unique.false in
    c.clash.ensures
    ∙ ap (λ (ps : List Pair). is_under_another (λ k. has_key k c.in_ok-keys.keys) c.in_ok-id.id ps) c.pairs.ensures
    ∙ under-is-taken index.path d ds c.law_ascending.ensures.ascending index.pairs (c.requires.indexed unique).has c.in_ok-keys.keys c.in_ok-id.id (λ k. c.in_ok-keys.ensures k ∙ ap (λ (p : List (List ℕ)). is_leaf_key k p d) c.path.ensures) c.in_ok-id.ensures
    ∙ ap (λ u. u && is_key_taken index.path d ds) (sym unique)
