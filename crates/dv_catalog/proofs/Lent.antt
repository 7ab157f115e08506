-- References to rows, and rows key by key.
use Rattle.std.proofs.Common.{Bor, ◌≡◌, ◌∙◌, ◌+◌, ◌<◌, ℕ, zero, suc, Bool, true, false, cond, List, [], ◌∷◌, ◌++◌, map, filter, take, get_or, length, add-one, append-nil, append_assoc, reverse, refl, ap, sym, arith}
use Rattle.std.proofs.lemmas.List.{map-append, reverse-append}
use Rattle.std.specs.List.{flat_map}
use Rattle.std.specs.Ordering.{is_eq}
use Rattle.std.specs.Bool.{if◌then◌else◌}
use Rattle.std.specs.Prelude.{Result, Ok, Err, OnOk, is_ok}
use Rattle.dv_value.specs.Tree.{Field}
use Rattle.dv_order.specs.Key.{KeyTree, key_order}
use Rattle.dv_coll.specs.Collection.{id_key}
use Rattle.dv_pipe.specs.Sources.{rows_referred}

-- the rows under these keys, one key after the other
abbrev pub key_by_key : List KeyTree → List (List Field) → List (List Field)
key_by_key keys rows = flat_map (λ k. filter (λ d. is_eq (key_order (id_key d) k)) rows) keys

pub one_key_more : (rows : List (List Field)) (keys : List (Bor KeyTree)) (i : ℕ) (x : Bor KeyTree) → i < length keys → x ≡ get_or keys i x
    → key_by_key (map (λ k. k.now) (take (i + 1) keys)) rows ≡ key_by_key (map (λ k. k.now) (take i keys)) rows ++ filter (λ d. is_eq (key_order (id_key d) x.now)) rows
one_key_more rows [] i x within is = absurd (omega arith)
one_key_more rows (y ∷ ys) zero x within is = append-nil _ ∙ ap (λ (k : Bor KeyTree). filter (λ d. is_eq (key_order (id_key d) k.now)) rows) (sym is)
one_key_more rows (y ∷ ys) (suc i) x within is =
    let here = filter (λ d. is_eq (key_order (id_key d) y.now)) rows in
    let there = filter (λ d. is_eq (key_order (id_key d) x.now)) rows in
    let rest = rw add-one at (one_key_more rows ys i x (omega arith) is) in
    rw add-one (ap (λ es. here ++ es) rest ∙ sym (append_assoc here (key_by_key (map (λ k. k.now) (take i ys)) rows) there))

pub referred_kept : (test : List Field → Bool) (ds : List (Bor (List Field))) → rows_referred (filter (λ d. test d.now) ds) ≡ filter test (rows_referred ds)
referred_kept test [] = refl
referred_kept test (d ∷ ds) = by (test d.now) ∙ ap (λ (es : List (List Field)). cond (test d.now) (d.now ∷ es) es) (referred_kept test ds)
  where
    by : (b : Bool) → rows_referred (cond b (d ∷ filter (λ e. test e.now) ds) (filter (λ e. test e.now) ds)) ≡ cond b (d.now ∷ rows_referred (filter (λ e. test e.now) ds)) (rows_referred (filter (λ e. test e.now) ds))
    by true = refl
    by false = refl

pub referred_reverse : (ds : List (Bor (List Field))) → rows_referred (reverse ds) ≡ reverse (rows_referred ds)
referred_reverse [] = refl
referred_reverse (d ∷ ds) =
    ap rows_referred (reverse-append (d ∷ []) ds)
    ∙ map-append (λ (r : Bor (List Field)). r.now) (reverse ds) (d ∷ [])
    ∙ ap (λ (es : List (List Field)). es ++ d.now ∷ []) (referred_reverse ds)
    ∙ sym (reverse-append (d.now ∷ []) (rows_referred ds))

-- what was appended is at the end, if there was room
pub appended : {X E A : Type 0} (r : Result A E) (xs ys zs : List X) → xs ≡ (if is_ok r then ys else zs) → OnOk r (xs ≡ ys)
appended (Ok a) xs ys zs is = is
appended (Err e) xs ys zs is = tt
