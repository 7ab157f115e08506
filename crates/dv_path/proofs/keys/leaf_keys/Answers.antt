use Rattle.std.proofs.Common.{◌∙◌, ap, sym, map, rules}
use Rattle.dv_candidates.specs.Candidates.{Candidate, leaves, or_null, whole, with_elements}
use Rattle.dv_path.specs.Inner.GatheredKeys.{gathered-keys}
use Rattle.dv_path.specs.LeafKeys.{is_key_of, is_leaf_key, is_some_key, leaf_values}
use Rattle.dv_candidates.specs.View.{seen}
use Rattle.dv_path.proofs.KeySets.{map-flat_map}
use Rattle.dv_path.proofs.keys.leaf_keys.Goals as goal

pub returns : goal.returns
unfolding is_leaf_key leaf_values leaves
returns c = λ k.
    let cs = whole c.args.document.now c.args.path.now in
    gathered-keys seen _ is_key_of (λ (d : Candidate). map or_null (with_elements d)) (λ t x u h. search (rules, h.1, h)) cs c.new.result c.in_ok-keys.keys c.new.ensures.empty c.in_ok-keys.ensures.outcome k
    ∙ ap (is_some_key k) (sym (map-flat_map or_null with_elements cs))
