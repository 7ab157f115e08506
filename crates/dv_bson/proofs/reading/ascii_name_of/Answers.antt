use Rattle.std.proofs.Common.{◌≡◌}
use Rattle.std.specs.Prelude.{slice_index}
use Rattle.dv_bson.proofs.Ascii.{ascii_text, ascii_name}
use Rattle.dv_bson.proofs.reading.ascii_name_of.Goals as goal

pub from_utf8_unchecked-name-requires : goal.from_utf8_unchecked-name-requires
from_utf8_unchecked-name-requires c = ascii_text c.args.bytes.now c.in_ok-end.end c.in_ok-end.ensures

pub returns : goal.returns
returns c =
    let zero : slice_index c.args.bytes.now c.in_ok-end.end ≡ 0 = c.if-bytes-end-ne0.false in
    rw c.from_utf8_unchecked-name.ensures (ascii_name c.args.bytes.now c.in_ok-end.end c.in_ok-end.ensures zero)
