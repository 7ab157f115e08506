-- What is read has the length of the bytes that it is read from.
use Rattle.std.proofs.Common.{◌≡◌, ℕ, ◌+◌, ◌≤◌, false, List, [], length, Ok, ap, arith}
use Rattle.dv_value.specs.Measure.{IsMeasure}
use Rattle.dv_bson.specs.Reading.{body_at}
use Rattle.dv_value.specs.Inner.Spelled.{length-document}
use Rattle.dv_value.specs.Spelling.{IsBytes}
use Rattle.dv_value.specs.Tree.{Field, fields_of}
use Rattle.dv_bson.proofs.Fields.{AreFields-from_read}
use Rattle.dv_bson.proofs.Taken.{body_sound}

pub inside_measured : (k at : ℕ) (bytes : List ℕ) (last : ℕ) (d : List Field) → IsBytes bytes → k ≤ 100 → length bytes + 5 ≤ 2147483647 → body_at k false at bytes last ≡ Ok d → IsMeasure (length bytes + 5) d
inside_measured k at bytes last d fits few short e =
    let t = body_sound k false at bytes last d fits e in
    record {
      whole = omega (arith, length-document (fields_of d), ap length t.whole);
      within = short;
      valid = AreFields-from_read [] d t.read;
      depth = omega (arith, few, t.depth);
    }
