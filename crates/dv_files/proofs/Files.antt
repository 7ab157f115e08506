-- Documents whose encodings follow one another.
use Rattle.std.proofs.Common.{◌≡◌, ℕ, ◌+◌, ◌<◌, ◌≤◌, List, [], ◌∷◌, ◌++◌, ◌∙◌, refl, sym, ap, subst, length, length-append, arith, append_assoc, append-nil}
use Rattle.std.proofs.lemmas.List.{flat_map_more}
use Rattle.std.specs.List.{AllByRecursion, flat_map}
use Rattle.dv_value.specs.Tree.{Field}
use Rattle.dv_value.specs.Spelling.{payload, spelling, Spells, Fits}
use Rattle.dv_files.specs.File.{Begins, Holds, IsStorable}

-- there are `count` documents before the rest; and whatever documents the bytes are, the rest are `count` fewer
pub record Counts (bytes : List ℕ) (count : ℕ) (rest : List ℕ) : Type 0 where
  pub documents : List (List Field)
  pub front : List ℕ
  pub whole : bytes ≡ front ++ rest
  pub held : Holds documents front
  pub counted : count ≡ length documents
  pub within : count + length rest ≤ length bytes
  pub others : (all : List (List Field)) → Holds all bytes → (behind : List (List Field)) × Holds behind rest × (length all ≡ count + length behind)

-- ---- an encoding has bytes

-- how many, as the laws of documents state it
pub record HasBytes : Type 0 where
  pub nothing : length (spelling []) ≡ 5
  pub more : (f : Field) (fields : List Field) → length (spelling (f ∷ fields)) ≡ length (payload f.1) + length f.0 + 2 + length (spelling fields)

spelling-some : HasBytes → (d : List Field) → 0 < length (spelling d)
spelling-some law [] = omega (arith, law.nothing)
spelling-some law (f ∷ fields) = omega (arith, law.more f fields)

pub fewer_behind : HasBytes → (rest : List ℕ) (d : List Field) (behind : List ℕ) → Begins rest d behind → length behind < length rest
fewer_behind law rest d behind begins =
    omega (arith, spelling-some law d, ap length begins.spells.whole, ap length begins.whole, length-append begins.front behind)

-- ---- so many documents

pub Counts-nothing : (bytes : List ℕ) → Counts bytes 0 bytes
Counts-nothing bytes = record {
  documents = [];
  front = [];
  whole = refl;
  held = record { storable = tt; whole = refl };
  counted = refl;
  within = omega arith;
  others = λ all holds. (all, holds, omega arith);
}

all_more : (documents : List (List Field)) (d : List Field) → AllByRecursion IsStorable documents → IsStorable d → AllByRecursion IsStorable (documents ++ d ∷ [])
all_more [] d all this = (this, tt)
all_more (e ∷ documents) d all this = (all.0, all_more documents d all.1 this)

pub Holds-more : (documents : List (List Field)) (d : List Field) (front next : List ℕ) → Holds documents front → Spells d next → Fits d → Holds (documents ++ d ∷ []) (front ++ next)
Holds-more documents d front next holds spells fits = record {
  storable = all_more documents d holds.storable (subst (Spells d) spells.whole spells, fits);
  whole = ap (λ xs. xs ++ next) holds.whole ∙ ap (λ xs. flat_map spelling documents ++ xs) spells.whole ∙ flat_map_more spelling [] documents d;
}

Holds-begins : (d : List Field) (documents : List (List Field)) (bytes : List ℕ) → Holds (d ∷ documents) bytes → Begins bytes d (flat_map spelling documents)
Holds-begins d documents bytes holds = record { front = spelling d; whole = holds.whole; spells = holds.storable.0.0; fits = holds.storable.0.1 }

others_behind : (rest behind : List ℕ) → 0 < length rest → ((e : List Field) (others : List ℕ) → Begins rest e others → behind ≡ others) → (documents : List (List Field)) → Holds documents rest
    → (fewer : List (List Field)) × Holds fewer behind × (length documents ≡ 1 + length fewer)
others_behind rest behind some only [] holds = absurd (omega (arith, some, ap length holds.whole))
others_behind rest behind some only (d ∷ documents) holds =
    (documents, record { storable = holds.storable.1; whole = only d (flat_map spelling documents) (Holds-begins d documents rest holds) }, omega arith)

pub Counts-more : HasBytes → (bytes rest : List ℕ) (d : List Field) (behind : List ℕ) (count : ℕ) → Counts bytes count rest → 0 < length rest → Begins rest d behind
    → ((e : List Field) (others : List ℕ) → Begins rest e others → behind ≡ others) → Counts bytes (count + 1) behind
Counts-more law bytes rest d behind count counts some begins only = record {
  documents = counts.documents ++ d ∷ [];
  front = counts.front ++ begins.front;
  whole = counts.whole ∙ ap (λ xs. counts.front ++ xs) begins.whole ∙ sym (append_assoc counts.front begins.front behind);
  held = Holds-more counts.documents d counts.front begins.front counts.held begins.spells begins.fits;
  counted = omega (arith, counts.counted, length-append counts.documents (d ∷ []));
  within = omega (arith, counts.within, fewer_behind law rest d behind begins);
  others = λ all holds.
      let before = counts.others all holds in
      let after = others_behind rest behind some only before.0 before.1 in
      (after.0, after.1, omega (arith, before.2, after.2));
}

stops : {P : Type 0} (rest : List ℕ) → 0 < length rest → ((d : List Field) (others : List ℕ) → Begins rest d others → P) → (documents : List (List Field)) → Holds documents rest → P
stops rest some only [] holds = absurd (omega (arith, some, ap length holds.whole))
stops rest some only (d ∷ documents) holds = only d (flat_map spelling documents) (Holds-begins d documents rest holds)

-- if the bytes don't begin with such a document, they are no documents
pub Counts-stops : {P : Type 0} (bytes rest : List ℕ) (count : ℕ) → Counts bytes count rest → 0 < length rest → ((d : List Field) (others : List ℕ) → Begins rest d others → P)
    → (all : List (List Field)) → Holds all bytes → P
Counts-stops bytes rest count counts some only all holds = let left = counts.others all holds in stops rest some only left.0 left.1

none_at_end : HasBytes → (documents : List (List Field)) (rest : List ℕ) → Holds documents rest → rest ≡ [] → length documents ≡ 0
none_at_end law [] rest holds none = refl
none_at_end law (d ∷ documents) rest holds none = absurd (omega (arith, fewer_behind law rest d (flat_map spelling documents) (Holds-begins d documents rest holds), ap length none))

pub Counts-all : HasBytes → (bytes rest : List ℕ) (count : ℕ) → Counts bytes count rest → rest ≡ [] → (all : List (List Field)) → Holds all bytes → count ≡ length all
Counts-all law bytes rest count counts none all holds =
    let left = counts.others all holds in
    omega (arith, left.2, none_at_end law left.0 rest left.1 none)

pub Counts-held : (bytes rest : List ℕ) (count : ℕ) → Counts bytes count rest → rest ≡ [] → (documents : List (List Field)) × Holds documents bytes × (count ≡ length documents)
Counts-held bytes rest count counts none =
    let whole = counts.whole ∙ ap (λ xs. counts.front ++ xs) none ∙ append-nil counts.front in
    (counts.documents, subst (Holds counts.documents) (sym whole) counts.held, counts.counted)
