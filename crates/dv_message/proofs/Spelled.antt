-- A whole message at the front of a stream is encoded there.
use Rattle.std.proofs.Common.{◌≡◌, ℕ, ◌+◌, ◌≤◌, ◌<◌, ◌^◌, Bool, false, ◌||◌, not, ltb, eqb, List, ◌++◌, length, take, drop, Option, Some, refl, sym, ap, ◌∙◌, arith}
use Rattle.std.specs.Int.{w32, to_le_bytes}
use Rattle.std.proofs.lemmas.Bool.{le-ltb, or_from, eq-eqb, not_from_true}
use Rattle.std.proofs.lemmas.List.{length-append, length-take-le, length-drop, take-append-drop, take_at, drop_at, drop-drop}
use Rattle.std.proofs.lemmas.Nat.{from_le_bytes-to_le_bytes_4}
use Rattle.dv_value.specs.Spelling.{IsBytes}
use Rattle.dv_value.specs.Inner.ByteLaws.{IsBytes-take, IsBytes-drop}
use Rattle.dv_message.specs.Sections.{Section, number_after, sections_spelling, sections_in}
use Rattle.dv_message.specs.Message.{Message, message_with, IsMessage, whole, message_spelling, front_by, stream_front, has_checksum, has_unknown_flag}
use Rattle.dv_message.proofs.Fronts.{front_shows, chain-fails}
use Rattle.dv_message.proofs.Bytes.{four, number_below, number_same}
use Rattle.dv_message.proofs.Together.{sections_spelled, sections_found, sections_long}

abbrev glue : (a b c d e f : List ℕ) → List ℕ
glue a b c d e f = a ++ (b ++ (c ++ (d ++ (e ++ f))))

glue-same : (a a' b b' c c' d d' e e' f f' : List ℕ) → a ≡ a' → b ≡ b' → c ≡ c' → d ≡ d' → e ≡ e' → f ≡ f' → glue a b c d e f ≡ glue a' b' c' d' e' f'
glue-same a a' b b' c c' d d' e e' f f' p q r s t u = cc

next : (n : ℕ) (s : List ℕ) → drop n s ≡ take 4 (drop n s) ++ drop (n + 4) s
next n s = sym (take-append-drop 4 (drop n s)) ∙ ap (λ (x : List ℕ). take 4 (drop n s) ++ x) (drop-drop 4 n s)

words : (s : List ℕ) → s ≡ glue (take 4 s) (take 4 (drop 4 s)) (take 4 (drop 8 s)) (take 4 (drop 12 s)) (take 4 (drop 16 s)) (drop 20 s)
words s =
    next 0 s ∙ ap (λ (x : List ℕ). take 4 s ++ x) (next 4 s ∙ ap (λ (x : List ℕ). take 4 (drop 4 s) ++ x) (next 8 s
    ∙ ap (λ (x : List ℕ). take 4 (drop 8 s) ++ x) (next 12 s ∙ ap (λ (x : List ℕ). take 4 (drop 12 s) ++ x) (next 16 s))))

measured_so : (s : List ℕ) → IsBytes s → 26 ≤ length s → number_after 0 s ≡ length s → number_after 12 s ≡ 2013
    → s ≡ message_spelling (number_after 4 s) (number_after 8 s) (number_after 16 s) (drop 20 s)
unfolding message_spelling
measured_so s h long len code =
    let measured : number_after 0 s ≡ length (drop 20 s) + 20 = omega (arith, len, length-drop 20 s) in
    words s ∙ glue-same (take 4 s) (to_le_bytes w32 (length (drop 20 s) + 20)) _ (to_le_bytes w32 (number_after 4 s)) _ (to_le_bytes w32 (number_after 8 s)) _ (to_le_bytes w32 2013) _ (to_le_bytes w32 (number_after 16 s)) _ (drop 20 s)
    (four 0 s h (omega arith) ∙ ap (to_le_bytes w32) measured) (four 4 s h (omega arith)) (four 8 s h (omega arith)) (four 12 s h (omega arith) ∙ ap (to_le_bytes w32) code) (four 16 s h (omega arith)) refl

pub front_spelled : (bytes following : List ℕ) (message : Message) → IsBytes bytes → stream_front bytes ≡ whole message following → (spelled : List ℕ) × IsMessage message spelled × (bytes ≡ spelled ++ following)
front_spelled bytes following message h e =
    let f = front_shows bytes message following e in
    let n = number_after 0 bytes in
    let s = take n bytes in
    let parts : bytes ≡ s ++ following = sym (take-append-drop n bytes) ∙ ap (λ (x : List ℕ). s ++ x) f.following_is in
    let len : length s ≡ n = length-take-le n bytes f.all in
    let same : (k : ℕ) → k + 4 ≤ n → number_after k s ≡ number_after k bytes = λ k le. sym (ap (number_after k) parts ∙ number_same k s following (omega (arith, len, le))) in
    let fits : IsBytes s = IsBytes-take n bytes h in
    let id_same : number_after 4 s ≡ message.request_id = same 4 (omega (arith, f.least)) ∙ ap (λ (m : Message). m.request_id) f.message_is in
    let flags_same = same 16 (omega (arith, f.least)) in
    let spelled = sections_spelled (drop 20 s) message.sections (IsBytes-drop 20 s fits) f.sections_are in (
      s,
      record {
        response_to = number_after 8 s;
        flags = number_after 16 s;
        numbers = (rw (← id_same) (number_below 4 s fits), number_below 8 s fits, number_below 16 s fits);
        no_checksum = rw flags_same f.checksum;
        known_flags = rw flags_same f.known_flags;
        more = rw flags_same (sym (ap (λ (m : Message). m.more_to_come) f.message_is));
        sections = spelled.1;
        whole = measured_so s fits (omega (arith, len, f.least)) (same 0 (omega (arith, f.least)) ∙ sym len) (same 12 (omega (arith, f.least)) ∙ f.code)
            ∙ ap (λ (id : ℕ). message_spelling id (number_after 8 s) (number_after 16 s) (drop 20 s)) id_same
            ∙ ap (message_spelling message.request_id (number_after 8 s) (number_after 16 s)) spelled.0;
        limits = omega (arith, len, f.most);
      },
      parts,
    )

-- ---- and what is encoded at the front is found there

spelling-length : (id response_to flags : ℕ) (tail : List ℕ) → length (message_spelling id response_to flags tail) ≡ length tail + 20
unfolding message_spelling
spelling-length id response_to flags tail = omega arith

module _ (id response_to flags : ℕ) (tail following : List ℕ) (sections : List Section) (id_fits : id < 2 ^ 32) (flags_fits : flags < 2 ^ 32)
    (least : 6 ≤ length tail) (most : length tail + 20 ≤ 48000000) (are : sections_in tail ≡ Some sections) where
  stream : List ℕ
  stream = message_spelling id response_to flags tail ++ following

  length_first : number_after 0 stream ≡ length tail + 20
  unfolding stream message_spelling
  length_first = from_le_bytes-to_le_bytes_4 (length tail + 20) (omega arith)

  id_second : number_after 4 stream ≡ id
  unfolding stream message_spelling
  id_second = from_le_bytes-to_le_bytes_4 id id_fits

  code_fourth : number_after 12 stream ≡ 2013
  unfolding stream message_spelling
  code_fourth = refl

  flags_fifth : number_after 16 stream ≡ flags
  unfolding stream message_spelling
  flags_fifth = from_le_bytes-to_le_bytes_4 flags flags_fits

  sections_behind : drop 20 (message_spelling id response_to flags tail) ≡ tail
  unfolding message_spelling
  sections_behind = refl

  sections_are : sections_in (drop 20 (take (number_after 0 stream) stream)) ≡ Some sections
  unfolding stream
  sections_are =
      ap (λ (s : List ℕ). sections_in (drop 20 s))
      (ap (λ (k : ℕ). take k stream) length_first ∙ take_at (message_spelling id response_to flags tail) following (length tail + 20) (spelling-length id response_to flags tail))
      ∙ ap sections_in sections_behind ∙ are

  following_is : drop (number_after 0 stream) stream ≡ following
  unfolding stream
  following_is =
      ap (λ (k : ℕ). drop k stream) length_first ∙ drop_at (message_spelling id response_to flags tail) following (length tail + 20) (spelling-length id response_to flags tail)

  pub spelled_front : has_checksum flags ≡ false → has_unknown_flag flags ≡ false → stream_front (message_spelling id response_to flags tail ++ following) ≡ whole (message_with id flags sections) following
  unfolding stream_front stream
  spelled_front checksum known =
      let n = number_after 0 stream in
      let long : length stream ≡ length tail + 20 + length following = length-append (message_spelling id response_to flags tail) following ∙ ap (λ (k : ℕ). k + length following) (spelling-length id response_to flags tail) in
      chain-fails (ltb (length stream) 4) (ltb n 26 || ltb 48000000 n) (ltb (length stream) 16) (not (eqb (number_after 12 stream) 2013)) (ltb (length stream) 20)
      (has_checksum (number_after 16 stream)) (has_unknown_flag (number_after 16 stream)) (ltb (length stream) n)
      (front_by (number_after 4 stream) (number_after 16 stream) (sections_in (drop 20 (take n stream))) (drop n stream))
      (record {
        four = le-ltb _ _ (omega arith);
        limits = or_from _ _ (le-ltb n 26 (omega (arith, length_first))) (le-ltb 48000000 n (omega (arith, length_first)));
        sixteen = le-ltb _ _ (omega arith);
        code = not_from_true _ (eq-eqb _ _ code_fourth);
        twenty = le-ltb _ _ (omega arith);
        checksum = ap has_checksum flags_fifth ∙ checksum;
        flags = ap has_unknown_flag flags_fifth ∙ known;
        all = le-ltb _ _ (omega (arith, length_first));
      })
      ∙ ap (λ (k : ℕ). front_by k (number_after 16 stream) (sections_in (drop 20 (take n stream))) (drop n stream)) id_second
      ∙ ap (λ (k : ℕ). front_by id k (sections_in (drop 20 (take n stream))) (drop n stream)) flags_fifth
      ∙ ap (λ (read : Option (List Section)). front_by id flags read (drop n stream)) sections_are
      ∙ ap (whole (message_with id flags sections)) following_is

pub is_shown : (bytes following spelled : List ℕ) (message : Message) → IsMessage message spelled → bytes ≡ spelled ++ following → stream_front bytes ≡ whole message following
is_shown bytes following spelled message is parts =
    let tail = sections_spelling message.sections in
    let most : length tail + 20 ≤ 48000000 = omega (arith, ap length is.whole, is.limits, spelling-length message.request_id is.response_to is.flags tail) in
    ap stream_front (parts ∙ ap (λ (s : List ℕ). s ++ following) is.whole)
    ∙ spelled_front message.request_id is.response_to is.flags tail following message.sections is.numbers.0 is.numbers.2 (sections_long message.sections is.sections) most
    (sections_found message.sections is.sections (omega arith)) is.no_checksum is.known_flags
    ∙ ap (λ (b : Bool). whole (record { request_id = message.request_id; more_to_come = b; sections = message.sections }) following) (sym is.more)
