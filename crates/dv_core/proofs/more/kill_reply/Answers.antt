use mir.Syntax.{w64}
use mir.Val.{SFits}
use Rattle.std.proofs.lemmas.Int.{to_z-of_z}
use Rattle.std.proofs.Common.{◌≡◌, ◌+◌, ◌<◌, ◌∷◌, false, pos, drop, get_or, length, add-one, arith, rules}
use Rattle.std.proofs.Math.Seq.{drop-cons}
use Rattle.dv_core.proofs.Mores.{gone_true, gone_false, missing_true, missing_false, map-push}
use Rattle.dv_core.proofs.more.kill_reply.Goals as goal
use Rattle.dv_core.proofs.more.kill_reply.Goals.{then-went-place+in_ok-push, else-went-place+in_ok-push-2}

pub ids-preserved : goal.ids-preserved
ids-preserved c =
    let ids = c.args.ids.now in
    let went = c.args.went.now in
    let place = c.ids.place in
    let within : place < length ids = omega arith in
    let room : place < length went = omega arith in
    let next : drop place ids ≡ get_or ids place (pos 0) ∷ drop (place + 1) ids = rw add-one (drop-cons ids place (pos 0) within) in
    let next_went : drop place went ≡ get_or went place false ∷ drop (place + 1) went = rw add-one (drop-cons went place false room) in
    let fits : SFits w64 (get_or ids place (pos 0)) = search rules in
    elim c.if-went-place.branch [
      | then-went-place+in_ok-push w ↦ record {
        gone = rw (w.gone-is, w.in_ok-push.ensures.items, map-push) (simp to_z-of_z (gone_true ids went place _ _ next next_went _ _ w.if-went-place.true c.ids.invariant.gone));
        missing = rw w.missing-is (missing_true ids went place _ _ next next_went _ _ w.if-went-place.true c.ids.invariant.missing);
      }
      | else-went-place+in_ok-push-2 w ↦ record {
        gone = rw w.gone-is (gone_false ids went place _ _ next next_went _ _ w.if-went-place.false c.ids.invariant.gone);
        missing = rw (w.missing-is, w.in_ok-push-2.ensures.items, map-push) (simp to_z-of_z (missing_false ids went place _ _ next next_went _ _ w.if-went-place.false c.ids.invariant.missing));
      }
    ]
