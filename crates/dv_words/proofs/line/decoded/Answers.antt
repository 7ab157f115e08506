use Rattle.std.proofs.Common.{◌∙◌, sym, ap, Ok}
use Rattle.hex.specs.Hex.{decode_of}
use Rattle.dv_words.proofs.Pairs.{pairs_from_hex, hex_from_pairs, hex_from_filter}
use Rattle.dv_words.proofs.line.decoded.Goals as goal

pub returns-then-not-are_pairs : goal.returns-then-not-are_pairs
returns-then-not-are_pairs c bytes h =
    let yes = c.are_pairs.ensures.no (pairs_from_hex bytes _ h) in
    cc (yes, c.if-not-are_pairs.true)

pub returns-in_default : goal.returns-in_default
returns-in_default c = hex_from_pairs _ (c.are_pairs.ensures.yes c.if-not-are_pairs.false)

pub returns-in-Err : goal.returns-in-Err
returns-in-Err c = hex_from_pairs _ (c.are_pairs.ensures.yes c.if-not-are_pairs.false)

pub returns-in-Ok-decode : goal.returns-in-Ok-decode
returns-in-Ok-decode c =
    hex_from_filter _ _ (c.are_pairs.ensures.yes c.if-not-are_pairs.false)
    (ap decode_of (sym c.in-Ok.ensures) ∙ c.in-Ok-decode.ensures.ok ∙ ap Ok (sym c.of.ensures))
