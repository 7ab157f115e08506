-- The errors of statements can be encoded, and fit in a reply.
use Rattle.std.proofs.Common.{◌≡◌, ℕ, suc, ◌+◌, ◌*◌, ◌≤◌, ◌<◌, ◌^◌, ◌/◌, ◌%◌, ◌-◌, min, decimal, Bool, true, false, nat_lt, List, [], ◌∷◌, ◌++◌, length, map, pos, Result, Ok, Err, if◌then◌else◌, length-append, refl, sym, subst, arith}
use Rattle.std.proofs.lemmas.Bool.Decides.{nat_tests}
use Rattle.std.proofs.lemmas.List.{length-map}
use Rattle.std.proofs.lemmas.Fmt.{IsAscii-decimal, length-decimal-le}
use Rattle.std.proofs.lemmas.Str.{IsUtf8-append, IsUtf8-from_ascii}
use Rattle.std.specs.Fmt.{digit_glyph}
use Rattle.std.specs.List.{AllByRecursion}
use Rattle.std.specs.Prelude.{codes}
use Rattle.std.specs.Str.{IsUtf8}
use Rattle.dv_value.specs.Fault.{fault_text, hex_byte}
use Rattle.dv_value.specs.declared.fault.BsonFault.{BsonFault}
use Rattle.dv_value.specs.declared.fault.BsonFault.TheVariants as bson
use Rattle.dv_value.specs.declared.fault.BsonFault.TheVariants.{Truncated, BadLength, RefusedType, BadUtf8, BadBool, BadArrayName, RepeatedName, TooDeep, NoMemory, BadName}
use Rattle.dv_value.specs.Names.{has_name}
use Rattle.dv_value.specs.Spelling.{payload, spelling, IsValue, AreFields, AreElements}
use Rattle.dv_value.specs.Tree.{Tree, int32, int64, string, array, Field, fields_of, list_of_fields, elements_of}
use Rattle.dv_command.specs.Asked as asking
use Rattle.dv_command.specs.Replies.{document_of, count, reply_of, cut_error, write_error, update_reply, errors_field}
use Rattle.dv_refusal.specs.Refusals.{code, code_name, message_of}
use Rattle.dv_command.specs.declared.asking.WriteKind.{WriteKind}
use Rattle.dv_command.specs.declared.asking.WriteKind.TheVariants.{Insert, Update, Delete}
use Rattle.dv_refusal.specs.declared.refusal.Refusal.{Refusal}
use Rattle.dv_refusal.specs.declared.refusal.Refusal.TheVariants.{BadValue, FailedToParse, TypeMismatch, InvalidBson, PathNotViable, ConflictingUpdateOperators, ImmutableField, CommandNotFound, DuplicateKey, WantOfMemory, TooLarge, LimitReached, NamespaceNotFound, IndexNotFound, CursorNotFound, NamespaceExists, OnView, ReadByView}
use Rattle.dv_catalog.specs.Changes.{Effect, Statement, done_to}
use Rattle.dv_views.specs.declared.fault.ViewFault.TheVariants.{NoMemory}
use Rattle.dv_catalog.specs.State.{Namespaces, collection_of}
use Rattle.dv_catalog.specs.Views.{made}
use Rattle.dv_core.specs.Statements.{WriteSteps, Written, nothing_written, is_due, with_result, with_next, with_all, carry_out, IsCutWrite}
use Rattle.dv_core.specs.Writes.{statement_of, reply_by, write_by}
use Rattle.dv_core.proofs.Plain.{IsPlain, IsPlainly, IsPlainStatement, done_plainly, inserts_plain, updates_plain, deletes_plain}
use Rattle.dv_core.specs.Sound.{HasSpelling, IsBounded}
use Rattle.dv_value.specs.Inner.Spelled.{length-int32, length-int64, length-string}
use Rattle.dv_core.proofs.Spellings.{spelling-field, spelling-nil, sizes, array-bound}
use Rattle.dv_core.proofs.Texts.{are_ascii, IsUtf8-ascii}
use Rattle.dv_core.proofs.SpelledRows.{more_valid, number_valid, ok_fields, ok_size, ok_valid, spelled}

-- ---- the errors of statements

pub record IsShort (refusal : Refusal) : Type 0 where
  pub text : IsUtf8 (message_of refusal)
  pub few : length (message_of refusal) ≤ 80
  pub number : code refusal < 2 ^ 31

plain_short : (refusal : Refusal) → IsPlain refusal → IsShort refusal
plain_short (InvalidBson fault) plain = absurd plain
plain_short BadValue plain = record { text = IsUtf8-ascii (codes "BadValue") refl; few = omega arith; number = omega arith }
plain_short FailedToParse plain = record { text = IsUtf8-ascii (codes "FailedToParse") refl; few = omega arith; number = omega arith }
plain_short TypeMismatch plain = record { text = IsUtf8-ascii (codes "TypeMismatch") refl; few = omega arith; number = omega arith }
plain_short PathNotViable plain = record { text = IsUtf8-ascii (codes "PathNotViable") refl; few = omega arith; number = omega arith }
plain_short ConflictingUpdateOperators plain = record { text = IsUtf8-ascii (codes "ConflictingUpdateOperators") refl; few = omega arith; number = omega arith }
plain_short ImmutableField plain = record { text = IsUtf8-ascii (codes "ImmutableField") refl; few = omega arith; number = omega arith }
plain_short CommandNotFound plain = record { text = IsUtf8-ascii (codes "CommandNotFound") refl; few = omega arith; number = omega arith }
plain_short DuplicateKey plain = record { text = IsUtf8-ascii (codes "DuplicateKey") refl; few = omega arith; number = omega arith }
plain_short WantOfMemory plain = record { text = IsUtf8-ascii (codes "WantOfMemory") refl; few = omega arith; number = omega arith }
plain_short TooLarge plain = record { text = IsUtf8-ascii (codes "TooLarge") refl; few = omega arith; number = omega arith }
plain_short LimitReached plain = record { text = IsUtf8-ascii (codes "LimitReached") refl; few = omega arith; number = omega arith }
plain_short NamespaceNotFound plain = record { text = IsUtf8-ascii (codes "NamespaceNotFound") refl; few = omega arith; number = omega arith }
plain_short IndexNotFound plain = record { text = IsUtf8-ascii (codes "IndexNotFound") refl; few = omega arith; number = omega arith }
plain_short CursorNotFound plain = record { text = IsUtf8-ascii (codes "CursorNotFound") refl; few = omega arith; number = omega arith }
plain_short NamespaceExists plain = record { text = IsUtf8-ascii (codes "NamespaceExists") refl; few = omega arith; number = omega arith }
plain_short OnView plain = record { text = IsUtf8-ascii (codes "OnView") refl; few = omega arith; number = omega arith }
plain_short ReadByView plain = record { text = IsUtf8-ascii (codes "ReadByView") refl; few = omega arith; number = omega arith }

-- the text of a refusal, with the numbers of a fault in bytes
abbrev pub IsShortText : List ℕ → Type 0
IsShortText text = IsUtf8 text × (length text ≤ 60)

ascii_short : (text : List ℕ) → are_ascii text ≡ true → length text ≤ 60 → IsShortText text
ascii_short text ascii short = (IsUtf8-ascii text ascii, short)

glyph_ascii : (d : ℕ) → d < 16 → digit_glyph false d < 128
glyph_ascii d h = grind (arith, nat_tests)

pair_ascii : (a b : ℕ) → a < 128 → b < 128 → are_ascii (a ∷ b ∷ []) ≡ true
pair_ascii a b h i = grind (arith, nat_tests)

high : (byte : ℕ) → byte < 256 → byte / 16 < 16
high byte h = omega arith

low : (byte : ℕ) → byte % 16 < 16
low byte = omega arith

place_short : (byte at : ℕ) → byte < 256 → at < 2 ^ 64 → IsShortText (fault_text (RefusedType byte at))
place_short byte at h i =
    let glyphs = IsUtf8-ascii (hex_byte byte) (pair_ascii (digit_glyph false (byte / 16)) (digit_glyph false (byte % 16)) (glyph_ascii (byte / 16) (high byte h)) (glyph_ascii (byte % 16) (low byte))) in
    let text : IsUtf8 (fault_text (RefusedType byte at)) =
    IsUtf8-append ((codes "RefusedType 0x" ++ hex_byte byte) ++ codes " at ") (decimal at)
    (IsUtf8-append (codes "RefusedType 0x" ++ hex_byte byte) (codes " at ") (IsUtf8-append (codes "RefusedType 0x") (hex_byte byte) (IsUtf8-ascii (codes "RefusedType 0x") refl) glyphs) (IsUtf8-ascii (codes " at ") refl))
    (IsUtf8-from_ascii (decimal at) (IsAscii-decimal at i)) in
    (text, omega (arith, length-append ((codes "RefusedType 0x" ++ hex_byte byte) ++ codes " at ") (decimal at), length-decimal-le 20 at (omega arith) (omega arith) i))

fault_short : (fault : BsonFault) → IsBounded (InvalidBson fault) → IsShortText (fault_text fault)
fault_short (RefusedType byte at) told = place_short byte at told.0 told.1
fault_short Truncated told = ascii_short (codes "Truncated") refl (omega arith)
fault_short BadLength told = ascii_short (codes "BadLength") refl (omega arith)
fault_short BadUtf8 told = ascii_short (codes "BadUtf8") refl (omega arith)
fault_short BadBool told = ascii_short (codes "BadBool") refl (omega arith)
fault_short BadArrayName told = ascii_short (codes "BadArrayName") refl (omega arith)
fault_short RepeatedName told = ascii_short (codes "RepeatedName") refl (omega arith)
fault_short TooDeep told = ascii_short (codes "TooDeep") refl (omega arith)
fault_short bson.TooLarge told = ascii_short (codes "TooLarge") refl (omega arith)
fault_short NoMemory told = ascii_short (codes "NoMemory") refl (omega arith)
fault_short BadName told = ascii_short (codes "BadName") refl (omega arith)

pub told_short : (refusal : Refusal) → IsBounded refusal → IsShort refusal
told_short (InvalidBson fault) told =
    let short = fault_short fault told in
    record {
      text = IsUtf8-append (codes "InvalidBSON: ") (fault_text fault) (IsUtf8-ascii (codes "InvalidBSON: ") refl) short.0;
      few = omega (arith, length-append (codes "InvalidBSON: ") (fault_text fault), short.1);
      number = omega arith;
    }
told_short refusal told = plain_short refusal tt

pub name_short : (refusal : Refusal) → IsShortText (code_name refusal)
name_short (InvalidBson fault) = ascii_short (codes "InvalidBSON") refl (omega arith)
name_short BadValue = ascii_short (codes "BadValue") refl (omega arith)
name_short FailedToParse = ascii_short (codes "FailedToParse") refl (omega arith)
name_short TypeMismatch = ascii_short (codes "TypeMismatch") refl (omega arith)
name_short PathNotViable = ascii_short (codes "PathNotViable") refl (omega arith)
name_short ConflictingUpdateOperators = ascii_short (codes "ConflictingUpdateOperators") refl (omega arith)
name_short ImmutableField = ascii_short (codes "ImmutableField") refl (omega arith)
name_short CommandNotFound = ascii_short (codes "CommandNotFound") refl (omega arith)
name_short DuplicateKey = ascii_short (codes "DuplicateKey") refl (omega arith)
name_short WantOfMemory = ascii_short (codes "WantOfMemory") refl (omega arith)
name_short TooLarge = ascii_short (codes "TooLarge") refl (omega arith)
name_short LimitReached = ascii_short (codes "LimitReached") refl (omega arith)
name_short NamespaceNotFound = ascii_short (codes "NamespaceNotFound") refl (omega arith)
name_short IndexNotFound = ascii_short (codes "IndexNotFound") refl (omega arith)
name_short CursorNotFound = ascii_short (codes "CursorNotFound") refl (omega arith)
name_short NamespaceExists = ascii_short (codes "NamespaceExists") refl (omega arith)
name_short OnView = ascii_short (codes "OnView") refl (omega arith)
name_short ReadByView = ascii_short (codes "ReadByView") refl (omega arith)

-- an error of a statement
abbrev pub IsSmall : Tree → Type 0
IsSmall e = IsValue e × (length (payload e) ≤ 140)

-- the fields of an error after its message
pub record IsBehind (behind : List Field) : Type 0 where
  pub valid : AreFields (fields_of behind)
  pub short : length (spelling behind) ≤ 19
  pub index : has_name (codes "index") (list_of_fields (fields_of behind)) ≡ false
  pub code : has_name (codes "code") (list_of_fields (fields_of behind)) ≡ false
  pub message : has_name (codes "errmsg") (list_of_fields (fields_of behind)) ≡ false

nothing_behind : IsBehind []
nothing_behind = record { valid = tt; short = omega (arith, spelling-nil); index = refl; code = refl; message = refl }

error_small : (place : ℕ) (refusal : Refusal) (behind : List Field) → place < 2 ^ 31 → IsPlain refusal → IsBehind behind → IsSmall (document_of (write_error place refusal ++ behind))
error_small place refusal behind within plain is =
    let short = plain_short refusal plain in
    let message : List Field = (codes "errmsg", string (message_of refusal)) ∷ behind in
    let number : List Field = (codes "code", int32 (pos (code refusal))) ∷ message in
    let size : length (spelling ((codes "index", int32 (pos place)) ∷ number)) ≤ 140 =
    omega (
      arith,
      spelling-field (codes "index", int32 (pos place)) number,
      length-int32 (pos place),
      spelling-field (codes "code", int32 (pos (code refusal))) message,
      length-int32 (pos (code refusal)),
      spelling-field (codes "errmsg", string (message_of refusal)) behind,
      length-string (message_of refusal),
      short.few,
      is.short,
    ) in (
      more_valid (codes "index") (int32 (pos place)) number refl refl is.index (number_valid place within)
          (more_valid (codes "code") (int32 (pos (code refusal))) message refl refl is.code (number_valid (code refusal) short.number)
          (more_valid (codes "errmsg") (string (message_of refusal)) behind refl refl is.message short.text is.valid)),
      size,
    )

-- what was done by at most `count` statements
pub record AreFew (count : ℕ) (w : Written) : Type 0 where
  pub statements : w.statements ≤ count
  pub errors : length w.errors ≤ count
  pub small : AllByRecursion IsSmall w.errors

small-push : (es : List Tree) (e : Tree) → AllByRecursion IsSmall es → IsSmall e → AllByRecursion IsSmall (es ++ e ∷ [])
small-push [] e all h = (h, tt)
small-push (x ∷ es) e all h = (all.0, small-push es e all.1 h)

module _ (namespace : List ℕ) (ordered : Bool) where
  few_result : (count : ℕ) (w : Written) (result : Result Effect Refusal) → count < 2 ^ 31 → AreFew count w → IsPlainly result → AreFew (suc count) (with_result namespace ordered w result)
  few_result count w (Ok effect) within few plain = record { statements = omega (arith, few.statements); errors = omega (arith, few.errors); small = few.small }
  few_result count w (Err refusal) within few plain = record {
    statements = omega (arith, few.statements);
    errors = omega (arith, few.errors, length-append w.errors (document_of (write_error w.statements refusal) ∷ []));
    small = small-push w.errors _ few.small (error_small w.statements refusal [] (omega (arith, few.statements)) plain nothing_behind);
  }

  few_looked : (b : Bool) (count : ℕ) (one other : Written) → AreFew (suc count) one → AreFew count other → AreFew (suc count) (if b then one else other)
  few_looked true count one other few less = few
  few_looked false count one other few less = record { statements = omega (arith, less.statements); errors = omega (arith, less.errors); small = less.small }

  few_all : (count : ℕ) (w : Written) (statements : List Statement) → count + length statements ≤ 100000 → AllByRecursion IsPlainStatement statements → AreFew count w
      → AreFew (count + length statements) (with_all namespace ordered w statements)
  few_all count w [] within plain few = record { statements = omega (arith, few.statements); errors = omega (arith, few.errors); small = few.small }
  few_all count w (statement ∷ statements) within plain few =
      let does : Result Effect Refusal = done_to (collection_of namespace w.namespaces) statement in
      let next = few_looked (is_due ordered w.errors) count (with_result namespace ordered w does) w (few_result count w does (omega arith) few (done_plainly (collection_of namespace w.namespaces) statement plain.0)) few in
      let rest = few_all (suc count) (with_next namespace ordered w statement) statements (omega arith) plain.1 next in
      record { statements = omega (arith, rest.statements); errors = omega (arith, rest.errors); small = rest.small }

small_elements : (es : List Tree) → AllByRecursion IsSmall es → AreElements (elements_of es)
small_elements [] all = tt
small_elements (e ∷ es) all = (all.0.0, small_elements es all.1)

small_sizes : (es : List Tree) → AllByRecursion IsSmall es → sizes es ≤ 140 * length es
small_sizes [] all = omega arith
small_sizes (e ∷ es) all = omega (arith, all.0.1, small_sizes es all.1)

-- every count has a value that is valid
abbrev pub CountsAreValid : Type 0
CountsAreValid = (n : ℕ) → IsValue (count n)

pub count_size : (n : ℕ) → length (payload (count n)) ≤ 8
count_size n = by_size (nat_lt n (2 ^ 31))
  where
    by_size : (b : Bool) → length (payload (if b then int32 (pos n) else int64 (pos (min n (2 ^ 63 - 1))))) ≤ 8
    by_size true = omega (arith, length-int32 (pos n))
    by_size false = omega (arith, length-int64 (pos (min n (2 ^ 63 - 1))))

errors_spelled : CountsAreValid → (n : ℕ) (es : List Tree) → length es ≤ 100000 → AllByRecursion IsSmall es → HasSpelling (reply_of ((codes "n", count n) ∷ errors_field es))
errors_spelled counts n [] few all =
    spelled ((codes "n", count n) ∷ ok_fields) (more_valid (codes "n") (count n) ok_fields refl refl refl (counts n) ok_valid)
    (omega (arith, spelling-field (codes "n", count n) ok_fields, count_size n, ok_size))
errors_spelled counts n (e ∷ es) few all =
    let told : Tree = array (elements_of (e ∷ es)) in
    let errors : List Field = (codes "writeErrors", told) ∷ ok_fields in
    spelled ((codes "n", count n) ∷ errors)
    (more_valid (codes "n") (count n) errors refl refl refl (counts n) (more_valid (codes "writeErrors") told ok_fields refl refl refl (small_elements (e ∷ es) all) ok_valid))
    (omega (arith, spelling-field (codes "n", count n) errors, count_size n, spelling-field (codes "writeErrors", told) ok_fields, ok_size, array-bound (e ∷ es) (omega arith), small_sizes (e ∷ es) all))

update_spelled : CountsAreValid → (n changed : ℕ) (es : List Tree) → length es ≤ 100000 → AllByRecursion IsSmall es → HasSpelling (update_reply n changed es)
update_spelled counts n changed [] few all =
    let more : List Field = (codes "nModified", count changed) ∷ ok_fields in
    spelled ((codes "n", count n) ∷ more) (more_valid (codes "n") (count n) more refl refl refl (counts n) (more_valid (codes "nModified") (count changed) ok_fields refl refl refl (counts changed) ok_valid))
    (omega (arith, spelling-field (codes "n", count n) more, count_size n, spelling-field (codes "nModified", count changed) ok_fields, count_size changed, ok_size))
update_spelled counts n changed (e ∷ es) few all =
    let told : Tree = array (elements_of (e ∷ es)) in
    let errors : List Field = (codes "writeErrors", told) ∷ ok_fields in
    let more : List Field = (codes "nModified", count changed) ∷ errors in
    spelled ((codes "n", count n) ∷ more)
    (more_valid (codes "n") (count n) more refl refl refl (counts n)
    (more_valid (codes "nModified") (count changed) errors refl refl refl (counts changed) (more_valid (codes "writeErrors") told ok_fields refl refl refl (small_elements (e ∷ es) all) ok_valid)))
    (omega (
      arith,
      spelling-field (codes "n", count n) more,
      count_size n,
      spelling-field (codes "nModified", count changed) errors,
      count_size changed,
      spelling-field (codes "writeErrors", told) ok_fields,
      ok_size,
      array-bound (e ∷ es) (omega arith),
      small_sizes (e ∷ es) all,
    ))

-- a reply that can be encoded whatever it counts, if its errors are few and small
abbrev pub IsSpelled : (ℕ → ℕ → List Tree → List Field) → Type 0
IsSpelled reply = (n changed : ℕ) (es : List Tree) → length es ≤ 100000 → AllByRecursion IsSmall es → HasSpelling (reply n changed es)

-- a write of few enough statements, each refused only plainly, whose reply can be encoded
pub record IsTellable (write : WriteSteps) : Type 0 where
  pub within : length write.statements ≤ 100000
  pub plain : AllByRecursion IsPlainStatement write.statements
  pub reply : IsSpelled write.reply

few_written : (write : WriteSteps) (old : Namespaces) (statements : List Statement) → length statements ≤ 100000 → AllByRecursion IsPlainStatement statements
    → AreFew (length statements) (with_all write.namespace write.ordered (nothing_written old) statements)
few_written write old statements within plain =
    let all = few_all write.namespace write.ordered 0 (nothing_written old) statements (omega (arith, within)) plain (record { statements = omega arith; errors = omega arith; small = tt }) in
    record { statements = omega (arith, all.statements); errors = omega (arith, all.errors); small = all.small }

pub write_spelled : (write : WriteSteps) (old : Namespaces) → IsTellable write → HasSpelling (write.reply (carry_out write old).n (carry_out write old).changed (carry_out write old).errors)
write_spelled write old is =
    let all = few_written write old write.statements is.within is.plain in
    is.reply (carry_out write old).n (carry_out write old).changed (carry_out write old).errors (omega (arith, all.errors, is.within)) all.small

pub front_all : {A : Type 0} (P : A → Type 0) (xs ys : List A) → AllByRecursion P (xs ++ ys) → AllByRecursion P xs
front_all P [] ys all = tt
front_all P (x ∷ xs) ys all = (all.0, front_all P xs ys all.1)

done_behind : CountsAreValid → (changes : ℕ) → IsBehind ((codes "done", count changes) ∷ [])
done_behind counts changes = record {
  valid = more_valid (codes "done") (count changes) [] refl refl refl (counts changes) tt;
  short = omega (arith, spelling-field (codes "done", count changes) [], count_size changes, spelling-nil);
  index = refl;
  code = refl;
  message = refl;
}

-- a write that is cut: the errors of the statements before, and that of the one that ran out of memory
pub cut_spelled : CountsAreValid → (write : WriteSteps) (old : Namespaces) (left : Written) → IsTellable write → IsCutWrite write old left → HasSpelling (write.reply left.n left.changed left.errors)
cut_spelled counts write old left is c =
    let so_far : Written = with_all write.namespace write.ordered (nothing_written old) c.before in
    let many : length write.statements ≡ length c.before + suc (length c.behind) = rw (c.stands, length-append) refl in
    let all : AreFew (length c.before) so_far =
    few_written write old c.before (omega (arith, many, is.within)) (front_all IsPlainStatement c.before (c.statement ∷ c.behind) (subst (AllByRecursion IsPlainStatement) c.stands is.plain)) in
    let error : Tree = document_of (cut_error so_far.statements c.made) in
    let small : IsSmall error = error_small so_far.statements WantOfMemory ((codes "done", count c.made) ∷ []) (omega (arith, all.statements, many, is.within)) tt (done_behind counts c.made) in
    subst (λ (w : Written). HasSpelling (write.reply w.n w.changed w.errors)) (sym c.left_so)
    (is.reply so_far.n so_far.changed (so_far.errors ++ error ∷ []) (omega (arith, length-append so_far.errors (error ∷ []), all.errors, many, is.within)) (small-push so_far.errors error all.small small))

statements_plain : (kind : WriteKind) (entries : List (List Field)) → AllByRecursion IsPlainStatement (map (statement_of kind) entries)
statements_plain Insert entries = inserts_plain entries
statements_plain Update entries = updates_plain entries
statements_plain Delete entries = deletes_plain entries

-- the writes that commands ask for
module _ (counts : CountsAreValid) where
  reply_spelled : (kind : WriteKind) → IsSpelled (reply_by kind)
  reply_spelled Insert = λ n changed es. errors_spelled counts n es
  reply_spelled Update = update_spelled counts
  reply_spelled Delete = λ n changed es. errors_spelled counts n es

  pub write_tellable : (w : asking.Write) → length w.entries ≤ 100000 → IsTellable (write_by w)
  write_tellable w few = record { within = omega (arith, length-map w.entries (statement_of w.kind), few); plain = statements_plain w.kind w.entries; reply = reply_spelled w.kind }
