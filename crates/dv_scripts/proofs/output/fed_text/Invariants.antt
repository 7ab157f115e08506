use Rattle.std.proofs.Common.{◌≡◌, ℕ, List, ◌++◌, length, string_bytes}
use Rattle.std.specs.List.{flat_map}
use Rattle.dv_scripts.specs.Output.{AreReplies, reply_line}
use Rattle.dv_scripts.proofs.output.fed_text.Given as goal

-- whatever replies the rest is, all are some whose lines are the text so far and then theirs
abbrev pub invariant-replies : goal.invariant-replies
invariant-replies l = (later : List (List ℕ)) → AreReplies later l.rest
    → (all : List (List ℕ)) × AreReplies all l.replies × (flat_map (reply_line l.number) all ≡ string_bytes l.text ++ flat_map (reply_line l.number) later)

abbrev pub decreases-replies : goal.decreases-replies
decreases-replies l = length l.rest
