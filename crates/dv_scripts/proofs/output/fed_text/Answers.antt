use Rattle.std.proofs.Common.{◌≡◌, ◌<◌, [], ◌∷◌, ◌++◌, ◌∙◌, sym, ap, length, append_assoc, append-nil, rules, string_bytes}
use Rattle.std.proofs.lemmas.Bool.{eqb-true}
use Rattle.std.proofs.lemmas.List.{nil_from_length}
use Rattle.std.specs.List.{flat_map}
use Rattle.dv_scripts.specs.Output.{closed_line, fate_line, reply_line}
use Rattle.dv_scripts.proofs.Replies.{fewer_behind, no_fate, one_more_reply}
use Rattle.dv_scripts.proofs.output.fed_text.Goals as goal
use Rattle.dv_scripts.proofs.output.fed_text.Goals.{in-Closed+in_ok-push_closed, in_default}

pub replies-smaller : goal.replies-smaller
replies-smaller c =
    let some : 0 < length c.replies.rest.now = search rules in
    rw c.first_reply.ensures.others (fewer_behind c.replies.rest.now some)

pub replies-preserved : goal.replies-preserved
replies-preserved c = λ later are.
    let some : 0 < length c.replies.rest.now = search rules in
    let reply = c.first_reply.result.0.now in
    let lines = flat_map (reply_line c.args.number) later in
    let all = c.replies.invariant (reply ∷ later) (one_more_reply c.replies.rest.now _ _ later some c.first_reply.ensures.first c.first_reply.ensures.others are) in
    (all.0, all.1, all.2 ∙ sym (append_assoc (string_bytes c.replies.text) (reply_line c.args.number reply) lines) ∙ ap (λ text. text ++ lines) (sym c.in_ok-push_reply.ensures))

pub returns : goal.returns
returns c =
    let none = nil_from_length c.replies.rest.now (eqb-true (length c.replies.rest.now) 0 (sym c.is_empty.ensures ∙ c.replies-test.false)) in
    let all = c.replies.invariant [] none in
    let lines : flat_map (reply_line c.args.number) all.0 ≡ string_bytes c.replies.text = all.2 ∙ append-nil (string_bytes c.replies.text) in
    elim c.match-fed.branch [
      | in-Closed+in_ok-push_closed w ↦ (
        all.0,
        all.1,
        ap string_bytes w.text-is ∙ w.in_ok-push_closed.ensures
            ∙ ap (λ text. text ++ closed_line c.args.number w.in-Closed.fault) (sym lines)
            ∙ ap (λ told. flat_map (reply_line c.args.number) all.0 ++ fate_line c.args.number told) (sym w.in-Closed.is),
      )
      | in_default w ↦ (
        all.0,
        all.1,
        ap string_bytes w.text-is ∙ sym lines ∙ sym (append-nil (flat_map (reply_line c.args.number) all.0))
            ∙ ap (λ line. flat_map (reply_line c.args.number) all.0 ++ line) (sym (no_fate c.args.number c.args.fed w.in_default.not-Closed)),
      )
    ]
