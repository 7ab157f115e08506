-- Bytes that are put over others, part by part, and a length that is put before them.
use Rattle.std.proofs.Common.{◌≡◌, ℕ, ◌+◌, ◌-◌, ◌≤◌, List, [], ◌∷◌, ◌++◌, length, take, drop, replicate, refl, sym, ap, subst, ◌∙◌, append_assoc, length-append, length-drop, arith}
use Rattle.std.proofs.Math.Seq.{take-append-add, drop-append-add, take-append_seam}
use Rattle.std.specs.Int.{w32, to_le_bytes}
use Rattle.std.proofs.lemmas.List.{append-nil, length-take-le, length-replicate, take_all, take_at, take-take, take-append-drop, take-append-le, drop_all, drop_at, drop-drop}
use Rattle.dv_value.specs.declared.kind.Kind.{Kind}
use Rattle.dv_value.specs.Spelling.{type_byte, framed, counted, tagged, element_spelling}
use Rattle.dv_bson.specs.Inner.Writing.{with_bytes_at, IsPut}
use Rattle.dv_bson.proofs.Numbers.{wide32}

parts_front : (p a rest : List ℕ) (n : ℕ) → n ≡ length p + length a → take n (p ++ (a ++ rest)) ≡ p ++ a
parts_front p a rest n e = ap (λ (k : ℕ). take k (p ++ (a ++ rest))) e ∙ take-append-add p (a ++ rest) (length a) ∙ ap (λ (bytes : List ℕ). p ++ bytes) (take-append_seam a rest)

parts_back : (p a rest : List ℕ) (n k : ℕ) → n ≡ length p + (length a + k) → drop n (p ++ (a ++ rest)) ≡ drop k rest
parts_back p a rest n k e = ap (λ (m : ℕ). drop m (p ++ (a ++ rest))) e ∙ drop-append-add p (a ++ rest) (length a + k) ∙ drop-append-add a rest k

length-with_bytes_at : (at : ℕ) (bytes out : List ℕ) → at + length bytes ≤ length out → length (with_bytes_at at bytes out) ≡ length out
unfolding with_bytes_at
length-with_bytes_at at bytes out le =
    omega (arith, length-append (take at out) (bytes ++ drop (at + length bytes) out), length-append bytes (drop (at + length bytes) out), length-take-le at out (omega arith), length-drop (at + length bytes) out)

-- a part, and another one after it
part_behind : (at : ℕ) (a b out : List ℕ) → at ≤ length out → with_bytes_at (at + length a) b (with_bytes_at at a out) ≡ with_bytes_at at (a ++ b) out
unfolding with_bytes_at
part_behind at a b out le =
    let here = length-take-le at out le in
    let rest = drop (at + length a) out in
    let front = parts_front (take at out) a rest (at + length a) (omega (arith, here)) in
    let back = parts_back (take at out) a rest (at + length a + length b) (length b) (omega (arith, here)) ∙ drop-drop (length b) (at + length a) out in
    let end : at + length a + length b ≡ at + length (a ++ b) = omega (arith, length-append a b) in
    rw (front, back, end) (append_assoc (take at out) a (b ++ drop (at + length (a ++ b)) out) ∙ ap (λ (bytes : List ℕ). take at out ++ bytes) (sym (append_assoc a b (drop (at + length (a ++ b)) out))))

-- the same if the second part was put first
part_before : (at middle : ℕ) (a b out : List ℕ) → middle ≡ at + length a → middle ≤ length out → with_bytes_at at a (with_bytes_at middle b out) ≡ with_bytes_at at (a ++ b) out
unfolding with_bytes_at
part_before at middle a b out e le =
    let here = length-take-le middle out le in
    let rest = b ++ drop (middle + length b) out in
    let front : take at (take middle out ++ rest) ≡ take at out = take-append-le at (take middle out) rest (omega (arith, here)) ∙ take-take at middle out (omega arith) in
    let back : drop (at + length a) (take middle out ++ rest) ≡ rest = drop_at (take middle out) rest (at + length a) (omega (arith, here)) in
    let end : middle + length b ≡ at + length (a ++ b) = omega (arith, length-append a b) in
    rw (front, back, end) (ap (λ (bytes : List ℕ). take at out ++ bytes) (sym (append_assoc a b (drop (at + length (a ++ b)) out))))

nothing_put : (at : ℕ) (out : List ℕ) → with_bytes_at at [] out ≡ out
unfolding with_bytes_at
nothing_put at out =
    let end : at + 0 ≡ at = omega arith in
    rw end (take-append-drop at out)

-- ---- what was put

-- a slice that is written, as the code does it
pub put_there : (at end : ℕ) (bytes out : List ℕ) → end ≡ at + length bytes → take at out ++ (bytes ++ drop (end - at) (drop at out)) ≡ with_bytes_at at bytes out
unfolding with_bytes_at
put_there at end bytes out e =
    let back : drop (end - at) (drop at out) ≡ drop (at + length bytes) out = drop-drop (end - at) at out ∙ ap (λ (k : ℕ). drop k out) (omega arith) in
    ap (λ (rest : List ℕ). take at out ++ (bytes ++ rest)) back

pub put_none : (at : ℕ) (bytes out : List ℕ) → bytes ≡ [] → at ≤ length out → IsPut at bytes out out at
put_none at bytes out none le =
    let no_length : length bytes ≡ 0 = ap length none in
    record {
      within = omega (arith, no_length);
      put = sym (ap (λ (b : List ℕ). with_bytes_at at b out) none ∙ nothing_put at out);
      ends = omega (arith, no_length);
    }

pub put_as : (at : ℕ) (a b old new : List ℕ) (end : ℕ) → a ≡ b → IsPut at a old new end → IsPut at b old new end
put_as at a b old new end e p = subst (λ (bytes : List ℕ). IsPut at bytes old new end) e p

pub length-put : (at : ℕ) (bytes old new : List ℕ) (end : ℕ) → IsPut at bytes old new end → length new ≡ length old
length-put at bytes old new end p = ap length p.put ∙ length-with_bytes_at at bytes old p.within

pub put_both : (at : ℕ) (a b old new newer : List ℕ) (middle end : ℕ) → IsPut at a old new middle → IsPut middle b new newer end → IsPut at (a ++ b) old newer end
put_both at a b old new newer middle end p q =
    let same = length-put at a old new middle p in
    let long = length-append a b in
    let le : at ≤ length old = omega (arith, p.within) in
    record {
      within = omega (arith, p.ends, q.within, same, long);
      put = q.put ∙ ap (λ (k : ℕ). with_bytes_at k b new) p.ends ∙ ap (with_bytes_at (at + length a) b) p.put ∙ part_behind at a b old le;
      ends = omega (arith, p.ends, q.ends, long);
    }

-- ---- parts that are put in a loop

-- putting the rest completes putting the whole
pub record IsLeft (at : ℕ) (left out : List ℕ) (start : ℕ) (whole first : List ℕ) : Type 0 where
  pub within : start + length whole ≤ length first
  pub same : length out ≡ length first
  pub ends : at + length left ≡ start + length whole
  pub put : with_bytes_at at left out ≡ with_bytes_at start whole first

pub all_left : (start : ℕ) (whole first : List ℕ) → start + length whole ≤ length first → IsLeft start whole first start whole first
all_left start whole first le = record { within = le; same = refl; ends = refl; put = refl }

module _ (at : ℕ) (left out : List ℕ) (start : ℕ) (whole first : List ℕ) (so_far : IsLeft at left out start whole first) where
  pub room_for : (part rest : List ℕ) → left ≡ part ++ rest → at + length part ≤ length out
  room_for part rest split =
      let long : length left ≡ length part + length rest = ap length split ∙ length-append part rest in
      omega (arith, so_far.within, so_far.same, so_far.ends, long)

  pub less_left : (part rest new : List ℕ) (end : ℕ) → left ≡ part ++ rest → IsPut at part out new end → IsLeft end rest new start whole first
  less_left part rest new end split p =
      let long : length left ≡ length part + length rest = ap length split ∙ length-append part rest in
      let le : at ≤ length out = omega (arith, p.within) in
      record {
        within = so_far.within;
        same = length-put at part out new end p ∙ so_far.same;
        ends = omega (arith, so_far.ends, p.ends, long);
        put = ap (λ (k : ℕ). with_bytes_at k rest new) p.ends ∙ ap (with_bytes_at (at + length part) rest) p.put ∙ part_behind at part rest out le
            ∙ ap (λ (bytes : List ℕ). with_bytes_at at bytes out) (sym split) ∙ so_far.put;
      }

  pub none_left : left ≡ [] → IsPut start whole first out at
  none_left none =
      let no_length : length left ≡ 0 = ap length none in
      record {
        within = so_far.within;
        put = sym (nothing_put at out) ∙ ap (λ (bytes : List ℕ). with_bytes_at at bytes out) (sym none) ∙ so_far.put;
        ends = omega (arith, so_far.ends, no_length);
      }

-- ---- the parts of the encoding

framed-is : (count elements : List ℕ) → count ≡ to_le_bytes w32 (length elements + 5) → count ++ (elements ++ 0 ∷ []) ≡ framed elements
unfolding framed
framed-is count elements e = ap (λ (bytes : List ℕ). bytes ++ (elements ++ 0 ∷ [])) e

-- elements, the closing zero after them, and then the length before them
pub framed_put : (start at end last : ℕ) (count elements first out closed new : List ℕ) → IsPut (start + 4) elements first out at → IsPut at (0 ∷ []) out closed end → IsPut start count closed new last → count ≡ to_le_bytes w32 (end - start)
    → IsPut start (framed elements) first new end
framed_put start at end last count elements first out closed new p q r e =
    let behind = put_both (start + 4) elements (0 ∷ []) first out closed at end p q in
    let four : length count ≡ 4 = ap length e ∙ wide32.len (end - start) in
    let long : end - start ≡ length elements + 5 = omega (arith, p.ends, q.ends) in
    let le : start + 4 ≤ length first = omega (arith, p.within) in
    let is = framed-is count elements (e ∙ ap (to_le_bytes w32) long) in
    let length_behind = length-append elements (0 ∷ []) in
    let length_all = length-append count (elements ++ 0 ∷ []) in
    put_as start (count ++ (elements ++ 0 ∷ [])) (framed elements) first new end is (record {
      within = omega (arith, behind.within, four, length_all);
      put = r.put ∙ ap (with_bytes_at start count) behind.put ∙ part_before start (start + 4) count (elements ++ 0 ∷ []) first (omega (arith, four)) le;
      ends = omega (arith, behind.ends, four, length_all);
    })

counted-is : (count text : List ℕ) → count ≡ to_le_bytes w32 (length text + 1) → (count ++ text) ++ 0 ∷ [] ≡ counted text
unfolding counted
counted-is count text e = append_assoc count text (0 ∷ []) ∙ ap (λ (bytes : List ℕ). bytes ++ (text ++ 0 ∷ [])) e

pub counted_put : (at a b end : ℕ) (count text old one two new : List ℕ) → count ≡ to_le_bytes w32 (length text + 1) → IsPut at count old one a → IsPut a text one two b → IsPut b (0 ∷ []) two new end → IsPut at (counted text) old new end
counted_put at a b end count text old one two new e p q r =
    put_as at ((count ++ text) ++ 0 ∷ []) (counted text) old new end (counted-is count text e) (put_both at (count ++ text) (0 ∷ []) old two new b end (put_both at count text old one two a b p q) r)

tagged-is : (subtype : ℕ) (count bytes : List ℕ) → count ≡ to_le_bytes w32 (length bytes) → (count ++ subtype ∷ []) ++ bytes ≡ tagged subtype bytes
unfolding tagged
tagged-is subtype count bytes e = append_assoc count (subtype ∷ []) bytes ∙ ap (λ (c : List ℕ). c ++ subtype ∷ bytes) e

pub tagged_put : (at a b end subtype : ℕ) (count bytes old one two new : List ℕ) → count ≡ to_le_bytes w32 (length bytes) → IsPut at count old one a → IsPut a (subtype ∷ []) one two b → IsPut b bytes two new end → IsPut at (tagged subtype bytes) old new end
tagged_put at a b end subtype count bytes old one two new e p q r =
    put_as at ((count ++ subtype ∷ []) ++ bytes) (tagged subtype bytes) old new end (tagged-is subtype count bytes e) (put_both at (count ++ subtype ∷ []) bytes old two new b end (put_both at count (subtype ∷ []) old one two a b p q) r)

element-is : (kind : Kind) (name value : List ℕ) → ((type_byte kind ∷ [] ++ name) ++ 0 ∷ []) ++ value ≡ element_spelling kind name value
unfolding element_spelling
element-is kind name value = simp append_assoc

pub element_put : (at a b c end : ℕ) (kind : Kind) (name value old one two three new : List ℕ) → IsPut at (type_byte kind ∷ []) old one a → IsPut a name one two b → IsPut b (0 ∷ []) two three c → IsPut c value three new end
    → IsPut at (element_spelling kind name value) old new end
element_put at a b c end kind name value old one two three new p q r s =
    let front = put_both at (type_byte kind ∷ [] ++ name) (0 ∷ []) old two three b c (put_both at (type_byte kind ∷ []) name old one two a b p q) r in
    put_as at (((type_byte kind ∷ [] ++ name) ++ 0 ∷ []) ++ value) (element_spelling kind name value) old new end (element-is kind name value)
    (put_both at ((type_byte kind ∷ [] ++ name) ++ 0 ∷ []) value old three new c end front s)

-- ---- room at the end

at_end : (start size n : ℕ) (old bytes : List ℕ) → start ≡ length old → n ≡ start + size → size ≡ length bytes → with_bytes_at start bytes (take n old ++ replicate (n - start) 0) ≡ old ++ bytes
unfolding with_bytes_at
at_end start size n old bytes at long whole =
    let kept : take n old ≡ old = take_all n old (omega arith) in
    let front : take start (old ++ replicate (n - start) 0) ≡ old = take_at old (replicate (n - start) 0) start (sym at) in
    let back : drop (start + length bytes) (old ++ replicate (n - start) 0) ≡ [] = drop_all (start + length bytes) (old ++ replicate (n - start) 0) (omega (arith, length-append old (replicate (n - start) 0), length-replicate {A = ℕ} (n - start) 0)) in
    rw (kept, front, back, append-nil) refl

-- bytes that were put after the old ones, where room was made for them
pub appended : (start size n len whole end : ℕ) (old bytes seen items new : List ℕ) → start ≡ length old → len ≡ length old → n ≡ start + size → size ≡ length bytes → items ≡ take n old ++ replicate (n - len) 0 → seen ≡ items → whole ≡ length items
    → IsPut start bytes seen new end → take whole (new ++ drop (length new) items) ≡ old ++ bytes
appended start size n len whole end old bytes seen items new at is_len long is_size is_items is_seen is_whole p =
    let none_more : n - len ≡ n - start = omega arith in
    let filled : with_bytes_at start bytes items ≡ old ++ bytes = ap (with_bytes_at start bytes) (is_items ∙ ap (λ (k : ℕ). take n old ++ replicate k 0) none_more) ∙ at_end start size n old bytes at long is_size in
    let same : length new ≡ length items = length-put start bytes seen new end p ∙ ap length is_seen in
    let back : drop (length new) items ≡ [] = drop_all (length new) items (omega (arith, same)) in
    let all : take whole (new ++ drop (length new) items) ≡ new = rw (back, append-nil new) (take_all whole new (omega (arith, same))) in
    all ∙ p.put ∙ ap (with_bytes_at start bytes) is_seen ∙ filled
