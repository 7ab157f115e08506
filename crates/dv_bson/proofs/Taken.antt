-- The bytes that are read are the encoding of the result.
use Rattle.std.proofs.Common.{◌≡◌, ℕ, zero, suc, ◌+◌, ◌-◌, ◌<◌, ◌≤◌, Bool, true, false, eqb, List, [], ◌∷◌, ◌++◌, length, map, Ok, Err, refl, sym, ap, subst, ◌∙◌, append_assoc, append-nil, inl, inr, arith}
use Rattle.std.specs.Int.{w32, w64, from_le_bytes, from_bool}
use Rattle.std.proofs.lemmas.Bool.{eqb-true}
use Rattle.dv_value.specs.declared.kind.Kind.{Kind}
use Rattle.dv_value.specs.declared.kind.Kind.TheVariants as kinds
use Rattle.dv_value.specs.declared.fault.BsonFault.TheVariants.{BadLength, BadBool}
use Rattle.dv_value.specs.Tree.{Tree, int32, int64, string, document, array, boolean, object_id, date, null, timestamp, min_key, max_key, Field, fields_of, elements_of}
use Rattle.dv_value.specs.Spelling.{IsBytes, type_byte, kind_of, framed, element_spelling, payload, fields_spelling, elements_spelling, IsValue, levels, fields_levels}
use Rattle.dv_bson.specs.Reading.{Inside, kind_at, name_at, text_at, frame_at, boolean_at, value_at, closed_by, fields_at, body_at}
use Rattle.dv_value.specs.Results.{◌>>=◌}
use Rattle.dv_bson.proofs.Steps.{bind_ok, passed, branched, done, ok_is, IsBytes-rest, IsBytes-behind, Takes}
use Rattle.dv_bson.proofs.Numbers.{wide32, wide64, first_takes, signed_takes}
use Rattle.dv_bson.proofs.Binaries.{binary_takes}
use Rattle.dv_bson.proofs.Names.{kind_takes}
use Rattle.dv_bson.proofs.Frames.{text_takes, frame_takes, framed_value}
use Rattle.dv_bson.proofs.Fields.{name_takes, IsNamed, AreRead, AreFields-from_read, AreElements-from_read, elements_spelling-from_read, elements_levels-values}

-- what the elements of a document or an array are, if they are read with fewer than k levels in them
pub record TakesInside (k : ℕ) (in_array : Bool) (bytes : List ℕ) (last : ℕ) (d : List Field) : Type 0 where
  pub whole : bytes ≡ fields_spelling (fields_of d)
  pub closed : last ≡ 0
  pub read : AreRead in_array [] d
  pub depth : fields_levels (fields_of d) < k

abbrev pub Sound : ℕ → Inside → Type 0
Sound k inside = (in_array : Bool) (at : ℕ) (bytes : List ℕ) (last : ℕ) (d : List Field) → IsBytes bytes → inside in_array at bytes last ≡ Ok d → TakesInside k in_array bytes last d

pub record TakesValue (k : ℕ) (kind : Kind) (bytes : List ℕ) (x : Tree × List ℕ) : Type 0 where
  pub kind_is : kind_of x.0 ≡ kind
  pub taken : Takes bytes (payload x.0) x.1
  pub valid : IsValue x.0
  pub depth : levels x.0 ≤ k

boolean_is : (k b : ℕ) (rest : List ℕ) (v : Bool) (x : Tree × List ℕ) → IsBytes (b ∷ rest) → b ≡ from_bool v → done (boolean v, rest) ≡ done x → TakesValue k kinds.Bool (b ∷ rest) x
unfolding payload
boolean_is k b rest v x fits is e =
    subst (λ (y : Tree × List ℕ). TakesValue k kinds.Bool (b ∷ rest) y) (ok_is (boolean v, rest) x e)
    (record { kind_is = refl; taken = record { parts = ap (λ (c : ℕ). c ∷ rest) is; rest_fits = IsBytes-rest b rest fits }; valid = tt; depth = omega arith })

boolean_takes : (k : ℕ) (bytes : List ℕ) (x : Tree × List ℕ) → IsBytes bytes → boolean_at bytes ≡ Ok x → TakesValue k kinds.Bool bytes x
boolean_takes k [] x fits e = absurd cc
boolean_takes k (b ∷ rest) x fits e =
    elim (branched (eqb b 0) (done (boolean false, rest)) _ (done x) e) [
      | inl h ↦ boolean_is k b rest false x fits (eqb-true b 0 h.0) h.1
      | inr h ↦ let p = passed (eqb b 1) BadBool (Ok (boolean true, rest)) x h.1 in boolean_is k b rest true x fits (eqb-true b 1 p.0) p.1
    ]

-- a value that has no bytes
nothing_is : (k : ℕ) (kind : Kind) (bytes : List ℕ) (v : Tree) (x : Tree × List ℕ) → IsBytes bytes → kind_of v ≡ kind → payload v ≡ [] → IsValue v → levels v ≤ k → done (v, bytes) ≡ done x → TakesValue k kind bytes x
nothing_is k kind bytes v x fits is none valid deep e =
    let parts : bytes ≡ payload v ++ bytes = rw none refl in
    subst (λ (y : Tree × List ℕ). TakesValue k kind bytes y) (ok_is (v, bytes) x e) (record { kind_is = is; taken = record { parts = parts; rest_fits = fits }; valid = valid; depth = deep })

module _ (k : ℕ) (inside : Inside) (sound : Sound k inside) (at : ℕ) (bytes : List ℕ) (x : Tree × List ℕ) (fits : IsBytes bytes) where
  record TakesFramed (in_array : Bool) (made : List Field → Tree) : Type 0 where
    fields : List Field
    is : made fields ≡ x.0
    taken : Takes bytes (framed (fields_spelling (fields_of fields))) x.1
    read : AreRead in_array [] fields
    depth : fields_levels (fields_of fields) < k

  framed_takes : (in_array : Bool) (made : List Field → Tree) → framed_value inside in_array at made bytes ≡ Ok x → TakesFramed in_array made
  framed_takes in_array made e =
      let a = bind_ok (frame_at bytes) (λ frame. inside in_array (at + 4) frame.elements frame.last >>= λ fields. Ok (made fields, frame.rest)) x e in
      let b = bind_ok (inside in_array (at + 4) a.0.elements a.0.last) (λ fields. Ok (made fields, a.0.rest)) x a.2 in
      let t = frame_takes bytes a.0 fits a.1 in
      let s = sound in_array (at + 4) a.0.elements a.0.last b.0 t.elements_fit b.1 in
      let is : (made b.0, a.0.rest) ≡ x = ok_is (made b.0, a.0.rest) x b.2 in
      let taken = subst (λ (elements : List ℕ). Takes bytes (framed elements) a.0.rest) s.whole (t.taken s.closed) in
      record {
        fields = b.0;
        is = ap (λ (y : Tree × List ℕ). y.0) is;
        taken = subst (λ (y : Tree × List ℕ). Takes bytes (framed (fields_spelling (fields_of b.0))) y.1) is taken;
        read = s.read;
        depth = s.depth;
      }

  value_takes : (kind : Kind) → value_at inside kind at bytes ≡ Ok x → TakesValue k kind bytes x
  unfolding value_at payload fields_spelling elements_spelling
  value_takes kinds.Text e =
      let a = bind_ok (text_at bytes) (λ text. Ok (string text.0, text.1)) x e in
      let t = text_takes bytes a.0 fits a.1 in
      subst (λ (y : Tree × List ℕ). TakesValue k kinds.Text bytes y) (ok_is (string a.0.0, a.0.1) x a.2)
      (record { kind_is = refl; taken = t.0; valid = t.1; depth = omega arith })
  value_takes kinds.Doc e =
      let t = framed_takes false (λ fields. document (fields_of fields)) e in
      subst (λ (v : Tree). TakesValue k kinds.Doc bytes (v, x.1)) t.is
      (record { kind_is = refl; taken = t.taken; valid = AreFields-from_read [] t.fields t.read; depth = t.depth })
  value_takes kinds.Array e =
      let t = framed_takes true (λ fields. array (elements_of (map (λ f. f.1) fields))) e in
      let taken = subst (λ (elements : List ℕ). Takes bytes (framed elements) x.1) (elements_spelling-from_read [] t.fields t.read) t.taken in
      subst (λ (v : Tree). TakesValue k kinds.Array bytes (v, x.1)) t.is
      (record { kind_is = refl; taken = taken; valid = AreElements-from_read [] t.fields t.read; depth = subst (λ (n : ℕ). n < k) (elements_levels-values t.fields) t.depth })
  value_takes kinds.Binary e =
      let t = binary_takes bytes x fits e in
      subst (λ (v : Tree). TakesValue k kinds.Binary bytes (v, x.1)) t.is (record { kind_is = refl; taken = t.takes; valid = (t.byte, t.fits); depth = omega arith })
  value_takes kinds.ObjectId e =
      let t = first_takes 12 object_id bytes x fits e in
      subst (λ (v : Tree). TakesValue k kinds.ObjectId bytes (v, x.1)) t.is (record { kind_is = refl; taken = t.takes; valid = (t.len, t.fits); depth = omega arith })
  value_takes kinds.Bool e = boolean_takes k bytes x fits e
  value_takes kinds.Date e =
      let t = signed_takes w64 wide64 date bytes x fits e in
      subst (λ (v : Tree). TakesValue k kinds.Date bytes (v, x.1)) t.is (record { kind_is = refl; taken = t.takes; valid = t.fits; depth = omega arith })
  value_takes kinds.Null e = nothing_is k kinds.Null bytes null x fits refl refl tt (omega arith) e
  value_takes kinds.Int32 e =
      let t = signed_takes w32 wide32 int32 bytes x fits e in
      subst (λ (v : Tree). TakesValue k kinds.Int32 bytes (v, x.1)) t.is (record { kind_is = refl; taken = t.takes; valid = t.fits; depth = omega arith })
  value_takes kinds.Timestamp e =
      let t = first_takes 8 (λ front. timestamp (from_le_bytes w64 front)) bytes x fits e in
      let taken = subst (λ (text : List ℕ). Takes bytes text x.1) (sym (wide64.back t.front t.len t.fits)) t.takes in
      subst (λ (v : Tree). TakesValue k kinds.Timestamp bytes (v, x.1)) t.is (record { kind_is = refl; taken = taken; valid = wide64.below t.front t.fits; depth = omega arith })
  value_takes kinds.MinKey e = nothing_is k kinds.MinKey bytes min_key x fits refl refl tt (omega arith) e
  value_takes kinds.MaxKey e = nothing_is k kinds.MaxKey bytes max_key x fits refl refl tt (omega arith) e
  value_takes kinds.Int64 e =
      let t = signed_takes w64 wide64 int64 bytes x fits e in
      subst (λ (v : Tree). TakesValue k kinds.Int64 bytes (v, x.1)) t.is (record { kind_is = refl; taken = t.takes; valid = t.fits; depth = omega arith })

-- ---- the fields after those that were seen

record TakesFields (k : ℕ) (in_array : Bool) (seen : List Field) (bytes : List ℕ) (last : ℕ) (all : List Field) : Type 0 where
  more : List Field
  is : seen ++ more ≡ all
  whole : bytes ≡ fields_spelling (fields_of more)
  closed : last ≡ 0
  read : AreRead in_array seen more
  depth : fields_levels (fields_of more) ≤ k

closed_takes : (last at : ℕ) (seen all : List Field) → closed_by last at seen ≡ Ok all → (last ≡ 0) × (seen ≡ all)
closed_takes last at seen all e =
    elim (branched (eqb last 0) (done seen) _ (done all) e) [
      | inl h ↦ (eqb-true last 0 h.0, ok_is seen all h.1)
      | inr h ↦ let b = bind_ok (kind_at last at) (λ kind. Err BadLength) all h.1 in absurd (cc b.2)
    ]

-- one field before those that follow it
field_then : (k : ℕ) (in_array : Bool) (seen : List Field) (b : ℕ) (bytes : List ℕ) (last : ℕ) (all : List Field) (kind : Kind) (name : List ℕ × List ℕ) (value : Tree × List ℕ) →
    b ≡ type_byte kind → bytes ≡ name.0 ++ 0 ∷ name.1 → IsNamed in_array seen name.0 → TakesValue k kind name.1 value → TakesFields k in_array (seen ++ (name.0, value.0) ∷ []) value.1 last all →
    TakesFields k in_array seen (b ∷ bytes) last all
unfolding fields_spelling element_spelling payload elements_spelling
field_then k in_array seen b bytes last all kind name value byte parts named v fs =
    let more = (name.0, value.0) ∷ fs.more in
    let value_whole : name.1 ≡ payload value.0 ++ fields_spelling (fields_of fs.more) = v.taken.parts ∙ ap (λ (t : List ℕ). payload value.0 ++ t) fs.whole in
    let front : bytes ≡ (name.0 ++ 0 ∷ payload value.0) ++ fields_spelling (fields_of fs.more) = parts ∙ ap (λ (t : List ℕ). name.0 ++ 0 ∷ t) value_whole ∙ sym (append_assoc name.0 (0 ∷ payload value.0) (fields_spelling (fields_of fs.more))) in
    let first : b ≡ type_byte (kind_of value.0) = byte ∙ ap type_byte (sym v.kind_is) in
    record {
      more = more;
      is = sym (append_assoc seen ((name.0, value.0) ∷ []) fs.more) ∙ fs.is;
      whole = ap (λ (t : List ℕ). b ∷ t) front ∙ ap (λ (c : ℕ). c ∷ ((name.0 ++ 0 ∷ payload value.0) ++ fields_spelling (fields_of fs.more))) first;
      closed = fs.closed;
      read = (named, v.valid, fs.read);
      depth = omega (arith, v.depth, fs.depth);
    }

fields_take : (k : ℕ) (inside : Inside) (sound : Sound k inside) (steps : ℕ) (in_array : Bool) (at : ℕ) (seen : List Field) (bytes : List ℕ) (last : ℕ) (all : List Field) → IsBytes bytes → fields_at inside steps in_array at seen bytes last ≡ Ok all → TakesFields k in_array seen bytes last all
unfolding fields_at fields_spelling payload elements_spelling
fields_take k inside sound steps in_array at seen [] last all fits e =
    let c = closed_takes last at seen all e in
    record { more = []; is = append-nil seen ∙ c.1; whole = refl; closed = c.0; read = tt; depth = omega arith }
fields_take k inside sound zero in_array at seen (b ∷ bytes) last all fits e = absurd cc
fields_take k inside sound (suc steps) in_array at seen (b ∷ bytes) last all fits e =
    let p = bind_ok (kind_at b at) _ all e in
    let q = bind_ok (name_at in_array seen bytes) _ all p.2 in
    let name = q.0 in
    let n = name_takes in_array seen bytes name q.1 in
    let behind_name : IsBytes name.1 = IsBytes-rest 0 name.1 (IsBytes-behind bytes name.0 (0 ∷ name.1) n.0 (IsBytes-rest b bytes fits)) in
    let at_value = at + (suc (length bytes) - length name.1) in
    let r = bind_ok (value_at inside p.0 at_value name.1) _ all q.2 in
    let value = r.0 in
    let v = value_takes k inside sound at_value name.1 value behind_name p.0 r.1 in
    let fs = fields_take k inside sound steps in_array (at + (suc (length bytes) - length value.1)) (seen ++ (name.0, value.0) ∷ []) value.1 last all v.taken.rest_fits r.2 in
    field_then k in_array seen b bytes last all p.0 name value (kind_takes b at p.0 p.1) n.0 n.1 v fs

pub body_sound : (k : ℕ) → Sound k (body_at k)
unfolding body_at
body_sound zero in_array at bytes last d fits e = absurd cc
body_sound (suc k) in_array at bytes last d fits e =
    let t = fields_take k (body_at k) (body_sound k) (length bytes) in_array at [] bytes last d fits e in
    subst (λ (all : List Field). TakesInside (suc k) in_array bytes last all) t.is (record { whole = t.whole; closed = t.closed; read = t.read; depth = omega (arith, t.depth) })
