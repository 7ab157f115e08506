use Rattle.std.proofs.Common.{◌∙◌, ◌∷◌, [], ap, sym}
use Rattle.std.specs.Option.{option_copied}
use Rattle.dv_gather.specs.Joining.{joined_by}
use Rattle.dv_gather.specs.Inner.KeySets.{AreKeysOf}
use Rattle.dv_gather.specs.View.{referred}
use Rattle.dv_gather.proofs.Placed.{alone, found-none, found-one, if-some}
use Rattle.dv_gather.proofs.joining.matches_of_one.Goals as goal

pub returns-in_default-get : goal.returns-in_default-get
returns-in_default-get c = λ foreign are.
    c.new.ensures ∙ found-none c.keys_stand_as_their_values.ensures c.args.places.now c.in-Some.key c.args.lookup.now.local foreign c.args.row.now (referred c.args.documents.now) (if-some (λ k. AreKeysOf (k ∷ []) (joined_by c.args.lookup.now.local c.args.row.now)) c.in_ok-key.field-0 c.in-Some.key c.in-Some.is c.in_ok-key.ensures.local) are (sym (ap option_copied c.in_default-get.is) ∙ c.get.ensures.value)

pub returns-in-len1 : goal.returns-in-len1
returns-in-len1 c = λ foreign are.
    c.in_ok-document_at-in-len1.ensures ∙ found-one c.keys_stand_as_their_values.ensures c.args.places.now c.in-Some.key c.args.lookup.now.local foreign c.args.row.now (referred c.args.documents.now) (if-some (λ k. AreKeysOf (k ∷ []) (joined_by c.args.lookup.now.local c.args.row.now)) c.in_ok-key.field-0 c.in-Some.key c.in-Some.is c.in_ok-key.ensures.local) are c.in-Some-get.under.now _ (sym (ap option_copied c.in-Some-get.is) ∙ c.get.ensures.value)
    (sym c.as_slice.ensures.value ∙ alone c.as_slice.result.now _ c.in-len1.len_at_least c.in-len1.len_below)
