-- Reading elements one after the other, as a loop does.
use Rattle.std.proofs.Common.{◌≡◌, ℕ, zero, suc, ◌+◌, ◌-◌, ◌<◌, ◌≤◌, ◌==◌, Bool, true, false, List, [], ◌∷◌, ◌++◌, length, Result, Ok, Err, refl, sym, ap, ◌∙◌, arith}
use Rattle.std.proofs.lemmas.Bool.{eqb-true}
use Rattle.dv_value.specs.declared.kind.Kind.{Kind}
use Rattle.dv_value.specs.declared.fault.BsonFault.{BsonFault}
use Rattle.dv_value.specs.declared.fault.BsonFault.TheVariants.{TooDeep}
use Rattle.dv_bson.specs.declared.fault.ReadError.{ReadError}
use Rattle.dv_bson.specs.declared.fault.ReadError.TheVariants as errors
use Rattle.dv_value.specs.Tree.{Tree, Field}
use Rattle.dv_bson.specs.Reading.{Fails, kind_at, name_at, value_at, Inside, closed_by, fields_at, body_at}
use Rattle.dv_value.specs.Results.{◌>>=◌}
use Rattle.dv_bson.specs.Inner.Parts.{with_rest, front_kind_at, field_at}
use Rattle.dv_bson.proofs.Shorter.{field_leaves}

-- ---- a turn reads an element

abbrev Made : Type 0
Made = Field × List ℕ

with_value : (name : List ℕ × List ℕ) (v : Result (Tree × List ℕ) BsonFault) (g : Made → Result (List Field) BsonFault)
    → (v >>= λ value. g ((name.0, value.0), value.1)) ≡ ((v >>= λ value. Ok ((name.0, value.0), value.1)) >>= g)
with_value name (Ok value) g = refl
with_value name (Err e) g = refl

with_name : (n : Result (List ℕ × List ℕ) BsonFault) (v : List ℕ × List ℕ → Result (Tree × List ℕ) BsonFault) (g : Made → Result (List Field) BsonFault)
    → (n >>= λ name. v name >>= λ value. g ((name.0, value.0), value.1)) ≡ ((n >>= λ name. v name >>= λ value. Ok ((name.0, value.0), value.1)) >>= g)
with_name (Ok name) v g = with_value name (v name) g
with_name (Err e) v g = refl

with_kind : (k : Result Kind BsonFault) (bytes : List ℕ) (n : List ℕ → Result (List ℕ × List ℕ) BsonFault) (v : Kind → List ℕ × List ℕ → Result (Tree × List ℕ) BsonFault) (g : Made → Result (List Field) BsonFault)
    → (k >>= λ kind. n bytes >>= λ name. v kind name >>= λ value. g ((name.0, value.0), value.1))
    ≡ (((k >>= with_rest bytes) >>= λ front. n front.1 >>= λ name. v front.0 name >>= λ value. Ok ((name.0, value.0), value.1)) >>= g)
with_kind (Ok kind) bytes n v g = with_name (n bytes) (v kind) g
with_kind (Err e) bytes n v g = refl

fields_turn : (inside : Inside) (steps : ℕ) (in_array : Bool) (at : ℕ) (seen : List Field) (b : ℕ) (bytes : List ℕ) (last : ℕ)
    → fields_at inside (suc steps) in_array at seen (b ∷ bytes) last
    ≡ (field_at inside in_array at seen (b ∷ bytes) >>= λ made. fields_at inside steps in_array (at + (suc (length bytes) - length made.1)) (seen ++ made.0 ∷ []) made.1 last)
unfolding fields_at field_at front_kind_at
fields_turn inside steps in_array at seen b bytes last =
    with_kind (kind_at b at) bytes (name_at in_array seen) (λ kind name. value_at inside kind (at + (suc (length bytes) - length name.1)) name.1)
    (λ made. fields_at inside steps in_array (at + (suc (length bytes) - length made.1)) (seen ++ made.0 ∷ []) made.1 last)

-- ---- steps that are enough

same_then : {A B : Type 0} (r : Result A BsonFault) (f g : A → Result B BsonFault) → ((x : A) → r ≡ Ok x → f x ≡ g x) → (r >>= f) ≡ (r >>= g)
same_then (Ok x) f g h = h x refl
same_then (Err e) f g h = refl

enough : (inside : Inside) (in_array : Bool) (last m n at : ℕ) (seen : List Field) (bytes : List ℕ) → length bytes ≤ m → length bytes ≤ n
    → fields_at inside m in_array at seen bytes last ≡ fields_at inside n in_array at seen bytes last
unfolding fields_at
enough inside in_array last m n at seen [] le le' = refl
enough inside in_array last zero n at seen (b ∷ bytes) le le' = absurd (omega arith)
enough inside in_array last (suc m) zero at seen (b ∷ bytes) le le' = absurd (omega arith)
enough inside in_array last (suc m) (suc n) at seen (b ∷ bytes) le le' =
    fields_turn inside m in_array at seen b bytes last
    ∙ same_then (field_at inside in_array at seen (b ∷ bytes)) _ _ (λ made e.
    let shorter = (field_leaves inside in_array at seen b bytes).within made e in
    enough inside in_array last m n (at + (suc (length bytes) - length made.1)) (seen ++ made.0 ∷ []) made.1 (omega arith) (omega arith))
    ∙ sym (fields_turn inside n in_array at seen b bytes last)

-- ---- the loop: reading the rest gives the same as reading the whole

pub shorter : (inside : Inside) (in_array : Bool) (at : ℕ) (seen : List Field) (bytes : List ℕ) (made : Made) → field_at inside in_array at seen bytes ≡ Ok made → length made.1 < length bytes
unfolding field_at front_kind_at
shorter inside in_array at seen [] made e = absurd cc
shorter inside in_array at seen (b ∷ bytes) made e =
    let h = (field_leaves inside in_array at seen b bytes).within made e in
    omega arith

pub goes_on : (inside : Inside) (in_array : Bool) (at : ℕ) (seen : List Field) (bytes : List ℕ) (last : ℕ) (made : Made) (total : Result (List Field) BsonFault) → field_at inside in_array at seen bytes ≡ Ok made
    → fields_at inside (length bytes) in_array at seen bytes last ≡ total
    → fields_at inside (length made.1) in_array (at + (length bytes - length made.1)) (seen ++ made.0 ∷ []) made.1 last ≡ total
unfolding field_at front_kind_at
goes_on inside in_array at seen [] last made total e so_far = absurd cc
goes_on inside in_array at seen (b ∷ bytes) last made total e so_far =
    let h = (field_leaves inside in_array at seen b bytes).within made e in
    let turn = fields_turn inside (length bytes) in_array at seen b bytes last in
    let read : fields_at inside (length (b ∷ bytes)) in_array at seen (b ∷ bytes) last ≡ fields_at inside (length bytes) in_array (at + (suc (length bytes) - length made.1)) (seen ++ made.0 ∷ []) made.1 last
    = turn ∙ ap (λ (r : Result Made BsonFault). r >>= λ made. fields_at inside (length bytes) in_array (at + (suc (length bytes) - length made.1)) (seen ++ made.0 ∷ []) made.1 last) e in
    enough inside in_array last (length made.1) (length bytes) (at + (suc (length bytes) - length made.1)) (seen ++ made.0 ∷ []) made.1 (omega arith) h ∙ sym read ∙ so_far

pub ends : (e : ReadError) (inside : Inside) (in_array : Bool) (at : ℕ) (seen : List Field) (bytes : List ℕ) (last : ℕ) (total : Result (List Field) BsonFault) → 0 < length bytes → Fails e (field_at inside in_array at seen bytes)
    → fields_at inside (length bytes) in_array at seen bytes last ≡ total → Fails e total
ends errors.Memory inside in_array at seen bytes last total some h so_far = tt
ends (errors.Fault f) inside in_array at seen [] last total some h so_far = absurd (omega arith)
ends (errors.Fault f) inside in_array at seen (b ∷ bytes) last total some h so_far =
    sym so_far ∙ fields_turn inside (length bytes) in_array at seen b bytes last
    ∙ ap (λ (r : Result Made BsonFault). r >>= λ made. fields_at inside (length bytes) in_array (at + (suc (length bytes) - length made.1)) (seen ++ made.0 ∷ []) made.1 last) h

pub is_done : (inside : Inside) (in_array : Bool) (at : ℕ) (seen : List Field) (bytes : List ℕ) (last : ℕ) (total : Result (List Field) BsonFault) → length bytes ≤ 0
    → fields_at inside (length bytes) in_array at seen bytes last ≡ total → closed_by last at seen ≡ total
unfolding fields_at
is_done inside in_array at seen [] last total none so_far = so_far
is_done inside in_array at seen (b ∷ bytes) last total none so_far = absurd (omega arith)

pub starts : (levels : ℕ) (in_array : Bool) (at : ℕ) (bytes : List ℕ) (last : ℕ) → 0 < levels
    → fields_at (body_at (levels - 1)) (length bytes) in_array at [] bytes last ≡ body_at levels in_array at bytes last
unfolding body_at
starts zero in_array at bytes last some = absurd (omega arith)
starts (suc levels) in_array at bytes last some =
    let below : suc levels - 1 ≡ levels = omega arith in
    ap (λ k. fields_at (body_at k) (length bytes) in_array at [] bytes last) below

pub some_left : (n : ℕ) → (n == 0) ≡ false → 0 < n
some_left zero e = absurd cc
some_left (suc n) e = omega arith

pub none_left : (n : ℕ) → (n == 0) ≡ true → n ≤ 0
none_left n e = omega (arith, eqb-true n 0 e)

pub too_deep : (levels : ℕ) (in_array : Bool) (at : ℕ) (bytes : List ℕ) (last : ℕ) → levels ≡ 0 → body_at levels in_array at bytes last ≡ Err TooDeep
unfolding body_at
too_deep levels in_array at bytes last e = rw e refl
