-- The replies to a greeting and to each refused command can be encoded.
use Rattle.std.proofs.Common.{◌≡◌, true, false, List, [], ◌∷◌, length, pos, refl, arith}
use Rattle.std.specs.Prelude.{codes}
use Rattle.dv_value.specs.Spelling.{framed, element_spelling, counted, payload, spelling, AreFields}
use Rattle.dv_value.specs.Tree.{int32, boolean, string, Field, fields_of}
use Rattle.dv_command.specs.Replies.{hello_reply, refusal_reply}
use Rattle.dv_refusal.specs.Refusals.{code, code_name, message_of}
use Rattle.dv_refusal.specs.declared.refusal.Refusal.{Refusal}
use Rattle.dv_core.specs.Sound.{HasSpelling, IsBounded}
use Rattle.dv_value.specs.Inner.Spelled.{length-int32, length-string}
use Rattle.dv_core.proofs.Spellings.{spelling-field, spelling-nil}
use Rattle.dv_core.proofs.SpelledRows.{more_valid, number_valid, ok_fields, ok_valid, spelled}
use Rattle.dv_core.proofs.SpelledErrors.{name_short, told_short}

-- ---- a greeting

hello_size : length (spelling hello_reply) ≡ 155
unfolding framed element_spelling payload counted
hello_size = refl

pub hello_spelled : HasSpelling hello_reply
hello_spelled =
    let fields6 : List Field = (codes "readOnly", boolean false) ∷ ok_fields in
    let valid6 : AreFields (fields_of fields6) = more_valid (codes "readOnly") (boolean false) ok_fields refl refl refl (tt) ok_valid in
    let fields5 : List Field = (codes "maxWireVersion", int32 (pos 17)) ∷ fields6 in
    let valid5 : AreFields (fields_of fields5) = more_valid (codes "maxWireVersion") (int32 (pos 17)) fields6 refl refl refl (number_valid 17 (omega arith)) valid6 in
    let fields4 : List Field = (codes "minWireVersion", int32 (pos 0)) ∷ fields5 in
    let valid4 : AreFields (fields_of fields4) = more_valid (codes "minWireVersion") (int32 (pos 0)) fields5 refl refl refl (number_valid 0 (omega arith)) valid5 in
    let fields3 : List Field = (codes "maxWriteBatchSize", int32 (pos 100000)) ∷ fields4 in
    let valid3 : AreFields (fields_of fields3) = more_valid (codes "maxWriteBatchSize") (int32 (pos 100000)) fields4 refl refl refl (number_valid 100000 (omega arith)) valid4 in
    let fields2 : List Field = (codes "maxMessageSizeBytes", int32 (pos 48000000)) ∷ fields3 in
    let valid2 : AreFields (fields_of fields2) = more_valid (codes "maxMessageSizeBytes") (int32 (pos 48000000)) fields3 refl refl refl (number_valid 48000000 (omega arith)) valid3 in
    let fields1 : List Field = (codes "maxBsonObjectSize", int32 (pos 16777216)) ∷ fields2 in
    let valid1 : AreFields (fields_of fields1) = more_valid (codes "maxBsonObjectSize") (int32 (pos 16777216)) fields2 refl refl refl (number_valid 16777216 (omega arith)) valid2 in
    let fields0 : List Field = (codes "isWritablePrimary", boolean true) ∷ fields1 in
    let valid0 : AreFields (fields_of fields0) = more_valid (codes "isWritablePrimary") (boolean true) fields1 refl refl refl (tt) valid1 in
    spelled hello_reply valid0 (omega (arith, hello_size))

-- ---- every command

pub refusal_spelled : (refusal : Refusal) → IsBounded refusal → HasSpelling (refusal_reply refusal)
refusal_spelled refusal told =
    let short = told_short refusal told in
    let called = name_short refusal in
    let name : List Field = (codes "codeName", string (code_name refusal)) ∷ [] in
    let number : List Field = (codes "code", int32 (pos (code refusal))) ∷ name in
    let message : List Field = (codes "errmsg", string (message_of refusal)) ∷ number in
    spelled (refusal_reply refusal)
    (more_valid (codes "ok") (int32 (pos 0)) message refl refl refl (number_valid 0 (omega arith))
    (more_valid (codes "errmsg") (string (message_of refusal)) number refl refl refl short.text
    (more_valid (codes "code") (int32 (pos (code refusal))) name refl refl refl (number_valid (code refusal) short.number) (more_valid (codes "codeName") (string (code_name refusal)) [] refl refl refl called.0 tt))))
    (omega (
      arith,
      spelling-field (codes "ok", int32 (pos 0)) message,
      length-int32 (pos 0),
      spelling-field (codes "errmsg", string (message_of refusal)) number,
      length-string (message_of refusal),
      short.few,
      spelling-field (codes "code", int32 (pos (code refusal))) name,
      length-int32 (pos (code refusal)),
      spelling-field (codes "codeName", string (code_name refusal)) [],
      length-string (code_name refusal),
      called.1,
      spelling-nil,
    ))
