-- What a whole message at the front of a stream shows.
use Rattle.std.proofs.Common.{◌≡◌, ℕ, ◌≤◌, Bool, true, false, ◌||◌, not, cond, ltb, eqb, List, length, take, drop, Option, Some, None, refl, sym, ap, ◌∙◌}
use Rattle.std.proofs.lemmas.Bool.{ltb-false, eqb-true, or_parts, not-false}
use Rattle.dv_message.specs.declared.fault.CloseFault.TheVariants.{BadLength, BadOpCode, BadFlag, Checksum}
use Rattle.dv_message.specs.Sections.{Section, number_after, sections_in}
use Rattle.dv_message.specs.Message.{Message, message_with, StreamFront, unfinished, closing, whole, front_by, stream_front, has_checksum, has_unknown_flag}

-- the tests of a front, from the first to the last
abbrev pub chain : (b1 b2 b3 b4 b5 b6 b7 b8 : Bool) → StreamFront → StreamFront
chain b1 b2 b3 b4 b5 b6 b7 b8 shown =
    cond b1 unfinished (cond b2 (closing BadLength) (cond b3 unfinished (cond b4 (closing BadOpCode) (cond b5 unfinished (cond b6 (closing Checksum) (cond b7 (closing BadFlag) (cond b8 unfinished shown)))))))

-- none of the tests is met
pub record AllFail (b1 b2 b3 b4 b5 b6 b7 b8 : Bool) : Type 0 where
  pub four : b1 ≡ false
  pub limits : b2 ≡ false
  pub sixteen : b3 ≡ false
  pub code : b4 ≡ false
  pub twenty : b5 ≡ false
  pub checksum : b6 ≡ false
  pub flags : b7 ≡ false
  pub all : b8 ≡ false

whole-fails : (b1 b2 b3 b4 b5 b6 b7 b8 : Bool) (shown : StreamFront) (message : Message) (following : List ℕ) → chain b1 b2 b3 b4 b5 b6 b7 b8 shown ≡ whole message following
    → AllFail b1 b2 b3 b4 b5 b6 b7 b8 × (shown ≡ whole message following)
whole-fails true b2 b3 b4 b5 b6 b7 b8 shown message following e = absurd cc
whole-fails false true b3 b4 b5 b6 b7 b8 shown message following e = absurd cc
whole-fails false false true b4 b5 b6 b7 b8 shown message following e = absurd cc
whole-fails false false false true b5 b6 b7 b8 shown message following e = absurd cc
whole-fails false false false false true b6 b7 b8 shown message following e = absurd cc
whole-fails false false false false false true b7 b8 shown message following e = absurd cc
whole-fails false false false false false false true b8 shown message following e = absurd cc
whole-fails false false false false false false false true shown message following e = absurd cc
whole-fails false false false false false false false false shown message following e =
    (record { four = refl; limits = refl; sixteen = refl; code = refl; twenty = refl; checksum = refl; flags = refl; all = refl }, e)

pub chain-fails : (b1 b2 b3 b4 b5 b6 b7 b8 : Bool) (shown : StreamFront) → AllFail b1 b2 b3 b4 b5 b6 b7 b8 → chain b1 b2 b3 b4 b5 b6 b7 b8 shown ≡ shown
chain-fails b1 b2 b3 b4 b5 b6 b7 b8 shown p = rw (p.four, p.limits, p.sixteen, p.code, p.twenty, p.checksum, p.flags, p.all) refl

front_by-whole : (request_id flags : ℕ) (read : Option (List Section)) (rest following : List ℕ) (message : Message) → front_by request_id flags read rest ≡ whole message following
    → (read ≡ Some message.sections) × (message_with request_id flags message.sections ≡ message) × (rest ≡ following)
front_by-whole request_id flags None rest following message e = absurd cc
front_by-whole request_id flags (Some sections) rest following message e =
    let same : message_with request_id flags sections ≡ message = cc in
    let are : sections ≡ message.sections = ap (λ (m : Message). m.sections) same in
    (ap Some are, ap (message_with request_id flags) (sym are) ∙ same, cc)

pub record IsFront (bytes : List ℕ) (message : Message) (following : List ℕ) : Type 0 where
  pub all : number_after 0 bytes ≤ length bytes
  pub least : 26 ≤ number_after 0 bytes
  pub most : number_after 0 bytes ≤ 48000000
  pub code : number_after 12 bytes ≡ 2013
  pub checksum : has_checksum (number_after 16 bytes) ≡ false
  pub known_flags : has_unknown_flag (number_after 16 bytes) ≡ false
  pub sections_are : sections_in (drop 20 (take (number_after 0 bytes) bytes)) ≡ Some message.sections
  pub message_is : message_with (number_after 4 bytes) (number_after 16 bytes) message.sections ≡ message
  pub following_is : drop (number_after 0 bytes) bytes ≡ following

pub front_shows : (bytes : List ℕ) (message : Message) (following : List ℕ) → stream_front bytes ≡ whole message following → IsFront bytes message following
unfolding stream_front
front_shows bytes message following e =
    let n = number_after 0 bytes in
    let p = whole-fails (ltb (length bytes) 4) (ltb n 26 || ltb 48000000 n) (ltb (length bytes) 16) (not (eqb (number_after 12 bytes) 2013)) (ltb (length bytes) 20)
    (has_checksum (number_after 16 bytes)) (has_unknown_flag (number_after 16 bytes)) (ltb (length bytes) n) _ message following e in
    let limits = or_parts _ _ p.0.limits in
    let by = front_by-whole (number_after 4 bytes) (number_after 16 bytes) (sections_in (drop 20 (take n bytes))) (drop n bytes) following message p.1 in
    record {
      all = ltb-false _ _ p.0.all;
      least = ltb-false _ _ limits.0;
      most = ltb-false _ _ limits.1;
      code = eqb-true _ _ (not-false _ p.0.code);
      checksum = p.0.checksum;
      known_flags = p.0.flags;
      sections_are = by.0;
      message_is = by.1;
      following_is = by.2;
    }
