use Rattle.std.proofs.Common.{◌≡◌, ◌∙◌, Bool, ap, false, not, refl, sym, true}
use Rattle.dv_candidates.specs.Candidates.{whole}
use Rattle.dv_index.proofs.Foremost.{leads-behind, one-alone, single-leads}
use Rattle.dv_index.proofs.ahead.leads_somewhere.Goals as goal

pub returns-in-len1 : goal.returns-in-len1
returns-in-len1 c = λ _ d match ahead nowhere.
    let alone = one-alone c.components.result.now c.in-len1.len_at_least c.in-len1.len_below in
    single-leads alone.0 d (ap (whole d) (sym (sym c.components.ensures.components ∙ alone.1)) ∙ nowhere)

not-so : (b : Bool) → not b ≡ true → b ≡ false
not-so true e = absurd cc
not-so false e = refl

pub returns : goal.returns
returns c = λ leads.
    let by = c.args.by.now in
    leads-behind c.an_only_key_is_in_all_bounds.ensures c.args.filter.now by.path by.direction c.args.bar.now (c.in_ok-is_ahead.ensures (not-so c.in_ok-is_ahead.is_ahead leads))
