use Rattle.std.proofs.Common.{◌≡◌, ◌++◌, drop, map}
use Rattle.dv_value.specs.View.{tree}
use Rattle.dv_core.specs.More.{gone_ids, missing_ids}
use Rattle.dv_core.proofs.more.kill_reply.Given as goal

-- the ids so far are in the lists
abbrev pub invariant-ids : goal.invariant-ids
invariant-ids l = record {
  gone : map tree l.gone.items ++ gone_ids (drop l.place l.ids) (drop l.place l.went) ≡ gone_ids l.ids l.went;
  missing : map tree l.missing.items ++ missing_ids (drop l.place l.ids) (drop l.place l.went) ≡ missing_ids l.ids l.went;
}
