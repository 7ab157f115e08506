-- Documents that are read in order.
use Rattle.std.proofs.Common.{◌≡◌, ℕ, zero, suc, ◌+◌, ◌<◌, ◌≤◌, ◌⊎◌, min, List, [], ◌∷◌, ◌++◌, length, get_or, map, take, drop, Some, Result, Ok, Err, refl, sym, ap, ◌∙◌, append_assoc, append-nil, arith, inl, inr}
use Rattle.std.proofs.lemmas.List.{get_or_default, length-append, length-take, take_all, take-append-le}
use Rattle.dv_value.specs.declared.fault.BsonFault.{BsonFault}
use Rattle.dv_value.specs.declared.fault.BsonFault.TheVariants.{NoMemory}
use Rattle.dv_value.specs.Tree.{Field}
use Rattle.dv_bson.specs.Reading.{document_at, fault_of, first_fault}
use Rattle.dv_value.specs.Results.{◌>>=◌}
use Rattle.dv_message.specs.Commands.{fields_in, each_read}
use Rattle.dv_message.specs.Inner.CommandsView.{front_read}

-- the result for the first item, and the results for the others
pub record Reads {A B : Type 0} (f : A → Result B BsonFault) (x : A) (xs : List A) (all : List B) : Type 0 where
  pub first : B
  pub others : List B
  pub first_is : f x ≡ Ok first
  pub others_are : each_read f xs ≡ Ok others
  pub both : first ∷ others ≡ all

reads_both : {A B : Type 0} (f : A → Result B BsonFault) (x : A) (xs : List A) (one : Result B BsonFault) (behind : Result (List B) BsonFault) (all : List B) → f x ≡ one → each_read f xs ≡ behind
    → (one >>= λ y. behind >>= λ ys. Ok (y ∷ ys)) ≡ Ok all → Reads f x xs all
reads_both f x xs (Err e) behind all is are both = absurd cc
reads_both f x xs (Ok y) (Err e) all is are both = absurd cc
reads_both f x xs (Ok y) (Ok ys) all is are both = record { first = y; others = ys; first_is = is; others_are = are; both = cc }

pub reads_more : {A B : Type 0} (f : A → Result B BsonFault) (x : A) (xs : List A) (all : List B) → each_read f (x ∷ xs) ≡ Ok all → Reads f x xs all
reads_more f x xs all e = reads_both f x xs (f x) (each_read f xs) all refl refl e

pub read_last : {A B : Type 0} (f : A → Result B BsonFault) (xs : List A) (x : A) (ys : List B) (y : B) → each_read f xs ≡ Ok ys → f x ≡ Ok y → each_read f (xs ++ x ∷ []) ≡ Ok (ys ++ y ∷ [])
read_last f [] x ys y e is = let none : [] ≡ ys = cc in rw (is, ← none) refl
read_last {B = B} f (z ∷ xs) x ys y e is =
    let r = reads_more f z xs ys e in
    let last = read_last f xs x r.others y r.others_are is in
    let grown : each_read f (z ∷ (xs ++ x ∷ [])) ≡ Ok (r.first ∷ (r.others ++ y ∷ [])) = rw (r.first_is, last) refl in
    let done : List B → Result (List B) BsonFault = (λ all. Ok (all ++ y ∷ [])) in
    grown ∙ ap done r.both

-- the results for all items but the last, and for the last
pub record ReadsLast {A B : Type 0} (f : A → Result B BsonFault) (xs : List A) (x : A) (all : List B) : Type 0 where
  pub before : List B
  pub last : B
  pub before_are : each_read f xs ≡ Ok before
  pub last_is : f x ≡ Ok last
  pub both : before ++ last ∷ [] ≡ all

pub reads_last : {A B : Type 0} (f : A → Result B BsonFault) (xs : List A) (x : A) (all : List B) → each_read f (xs ++ x ∷ []) ≡ Ok all → ReadsLast f xs x all
reads_last {B = B} f [] x all e =
    let one = reads_more f x [] all e in
    let none : [] ≡ one.others = (let are = one.others_are in cc) in
    record { before = []; last = one.first; before_are = refl; last_is = one.first_is; both = ap (λ (others : List B). one.first ∷ others) none ∙ one.both }
reads_last {B = B} f (z ∷ xs) x all e =
    let one = reads_more f z (xs ++ x ∷ []) all e in
    let more = reads_last f xs x one.others one.others_are in
    record { before = one.first ∷ more.before; last = more.last; before_are = rw (one.first_is, more.before_are) refl; last_is = more.last_is; both = ap (λ (others : List B). one.first ∷ others) more.both ∙ one.both }

pub read_stops : {A B : Type 0} (f : A → Result B BsonFault) (xs : List A) (x : A) (behind : List A) (ys : List B) (fault : BsonFault) → each_read f xs ≡ Ok ys → f x ≡ Err fault → each_read f (xs ++ x ∷ behind) ≡ Err fault
read_stops f [] x behind ys fault e is = rw is refl
read_stops f (z ∷ xs) x behind ys fault e is =
    let r = reads_more f z xs ys e in
    rw (r.first_is, read_stops f xs x behind r.others fault r.others_are is) refl

-- ---- as far as a loop has come

-- the first items, as they are seen
module _ {X A : Type 0} (seen : X → A) where
  pub map_taken : (xs : List X) (i : ℕ) (item : X) → i < length xs → item ≡ get_or xs i item → map seen (take (i + 1) xs) ≡ map seen (take i xs) ++ seen item ∷ []
  map_taken [] i item lt is = absurd (omega arith)
  map_taken (x ∷ xs) zero item lt is = ap (λ (y : X). seen y ∷ []) (sym is)
  map_taken (x ∷ xs) (suc i) item lt is =
      let one : suc i + 1 ≡ suc (i + 1) = omega arith in
      rw one (ap (λ (ys : List A). seen x ∷ ys) (map_taken xs i item (omega arith) is))

  pub map_parts : (xs : List X) (i : ℕ) (item : X) → i < length xs → item ≡ get_or xs i item → map seen xs ≡ map seen (take i xs) ++ seen item ∷ map seen (drop (i + 1) xs)
  map_parts [] i item lt is = absurd (omega arith)
  map_parts (x ∷ xs) zero item lt is = ap (λ (y : X). seen y ∷ map seen xs) (sym is)
  map_parts (x ∷ xs) (suc i) item lt is =
      let one : suc i + 1 ≡ suc (i + 1) = omega arith in
      rw one (ap (λ (ys : List A). seen x ∷ ys) (map_parts xs i item (omega arith) is))

  pub taken_is : (xs : List X) (i : ℕ) (d x : X) → i < length xs → get_or xs i d ≡ x → map seen (take (i + 1) xs) ≡ map seen (take i xs) ++ seen x ∷ []
  taken_is xs i d x lt is = map_taken xs i (get_or xs i d) lt (get_or_default xs i d (get_or xs i d) lt) ∙ ap (λ (y : X). map seen (take i xs) ++ seen y ∷ []) is

  pub parts_are : (xs : List X) (i : ℕ) (d x : X) → i < length xs → get_or xs i d ≡ x → map seen xs ≡ map seen (take i xs) ++ seen x ∷ map seen (drop (i + 1) xs)
  parts_are xs i d x lt is = map_parts xs i (get_or xs i d) lt (get_or_default xs i d (get_or xs i d) lt) ∙ ap (λ (y : X). map seen (take i xs) ++ seen y ∷ map seen (drop (i + 1) xs)) is

-- ---- faults

fault_first : (read : Result (List Field × ℕ) BsonFault) (fault : BsonFault) → fault_of read ≡ Some fault → (read >>= λ found. Ok found.0) ≡ Err fault
fault_first (Ok found) fault e = absurd cc
fault_first (Err f) fault e = let same : f ≡ fault = cc in ap (λ (x : BsonFault). Err x) same

pub refused_as : (bytes : List ℕ) (fault : BsonFault) → (fault ≡ NoMemory) ⊎ (first_fault bytes ≡ Some fault) → (fault ≡ NoMemory) ⊎ (fields_in bytes ≡ Err fault)
unfolding first_fault
refused_as bytes fault (inl want) = inl want
refused_as bytes fault (inr e) = inr (fault_first (document_at bytes) fault e)

pub checked_is : (bytes : List ℕ) (fields : List Field) (len : ℕ) → document_at bytes ≡ Ok (fields, len) → fields_in bytes ≡ Ok fields
checked_is bytes fields len e = ap (λ (read : Result (List Field × ℕ) BsonFault). let found : Result (List Field) BsonFault = read >>= λ one. Ok one.0 in found) e

-- ---- as far as a walk has come

-- the documents before the rest are read, and the first of the results are kept
pub record KeepsFront (most : ℕ) (all rest : List (List ℕ)) (kept : List (List Field)) : Type 0 where
  pub passed : List (List ℕ)
  pub read : List (List Field)
  pub all_are : all ≡ passed ++ rest
  pub read_is : each_read fields_in passed ≡ Ok read
  pub kept_is : kept ≡ take most read

pub nothing_kept : (most : ℕ) (all : List (List ℕ)) → KeepsFront most all all []
nothing_kept most all = record { passed = []; read = []; all_are = refl; read_is = refl; kept_is = sym (take_all most [] (omega arith)) }

module _ (most : ℕ) (all rest : List (List ℕ)) (kept : List (List Field)) (so_far : KeepsFront most all rest kept) where
  pub whole_kept : rest ≡ [] → front_read most all ≡ Ok kept
  whole_kept none =
      let read : each_read fields_in all ≡ Ok so_far.read = ap (each_read fields_in) (so_far.all_are ∙ ap (λ (others : List (List ℕ)). so_far.passed ++ others) none ∙ append-nil so_far.passed) ∙ so_far.read_is in
      rw read (ap Ok (sym so_far.kept_is))

  module _ (document : List ℕ) (others : List (List ℕ)) (is : rest ≡ document ∷ others) where
    goes_on : (fields : List Field) (now : List (List Field)) → fields_in document ≡ Ok fields → now ≡ take most (so_far.read ++ fields ∷ []) → KeepsFront most all others now
    goes_on fields now e grown =
        record {
          passed = so_far.passed ++ document ∷ [];
          read = so_far.read ++ fields ∷ [];
          all_are = so_far.all_are ∙ ap (λ (behind : List (List ℕ)). so_far.passed ++ behind) is ∙ sym (append_assoc so_far.passed (document ∷ []) others);
          read_is = read_last fields_in so_far.passed document so_far.read fields so_far.read_is e;
          kept_is = grown;
        }

    pub one_kept : (fields : List Field) (now : List (List Field)) → fields_in document ≡ Ok fields → length kept < most → now ≡ kept ++ fields ∷ [] → KeepsFront most all others now
    one_kept fields now e few grown =
        let long : length kept ≡ min most (length so_far.read) = ap length so_far.kept_is ∙ length-take most so_far.read in
        let before : kept ≡ so_far.read = so_far.kept_is ∙ take_all most so_far.read (omega (arith, long)) in
        let fits : length (so_far.read ++ fields ∷ []) ≤ most = omega (arith, long, length-append so_far.read (fields ∷ [])) in
        goes_on fields now e (grown ∙ ap (λ (front : List (List Field)). front ++ fields ∷ []) before ∙ sym (take_all most (so_far.read ++ fields ∷ []) fits))

    pub one_checked : (fields : List Field) → fields_in document ≡ Ok fields → most ≤ length kept → KeepsFront most all others kept
    one_checked fields e many =
        let long : length kept ≡ min most (length so_far.read) = ap length so_far.kept_is ∙ length-take most so_far.read in
        goes_on fields kept e (so_far.kept_is ∙ sym (take-append-le most so_far.read (fields ∷ []) (omega (arith, long))))

    pub stops_here : (fault : BsonFault) → (fault ≡ NoMemory) ⊎ (fields_in document ≡ Err fault) → (fault ≡ NoMemory) ⊎ (front_read most all ≡ Err fault)
    stops_here fault (inl want) = inl want
    stops_here fault (inr e) =
        let parts : all ≡ so_far.passed ++ document ∷ others = so_far.all_are ∙ ap (λ (behind : List (List ℕ)). so_far.passed ++ behind) is in
        let stopped : each_read fields_in all ≡ Err fault = ap (each_read fields_in) parts ∙ read_stops fields_in so_far.passed document others so_far.read fault so_far.read_is e in
        inr (rw stopped refl)
