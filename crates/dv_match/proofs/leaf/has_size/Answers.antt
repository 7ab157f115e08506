use Rattle.std.proofs.Common.{◌≡◌, ◌∙◌, ◌==◌, ap, sym, length}
use Rattle.dv_match.proofs.Items.{length-seen}
use Rattle.dv_match.proofs.Arrays.{array-size}
use Rattle.dv_match.proofs.leaf.has_size.Goals as goal

pub returns-in-Array : goal.returns-in-Array
returns-in-Array c =
    let l = c.in-Array.list in
    let len : length c.as_slice.result.now ≡ length l = sym (length-seen c.as_slice.result.now) ∙ ap length c.as_slice.ensures in
    ap (λ n. n == c.args.size) len ∙ sym (array-size c.args.candidate c.in-Found.found c.in-Found.is l c.in-Array.is c.args.size)
