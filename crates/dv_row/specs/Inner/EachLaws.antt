-- Parts that are parsed one after the other: lemmas for loops.
use Rattle.std.proofs.Common.{◌≡◌, ◌∙◌, ap, sym, refl, List, [], ◌∷◌, ◌++◌, ℕ, zero, suc, ◌+◌, ◌<◌, ◌≤◌, drop, map, length, get_or, arith, append_assoc, append-nil, Result, Ok, Err, ◌⊎◌, inl, inr}
use Rattle.dv_row.specs.declared.fault.PipelineFault.{PipelineFault}
use Rattle.dv_row.specs.declared.fault.PipelineFault.TheVariants.{NoMemory}
use Rattle.dv_value.specs.Results.{◌>>=◌, Gives, each}
use Rattle.dv_value.specs.Inner.ListLaws.{drop-read}

pub drop-past : {X : Type 0} (xs : List X) (i : ℕ) → length xs ≤ i → drop i xs ≡ []
drop-past [] zero h = refl
drop-past [] (suc i) h = refl
drop-past (x ∷ xs) zero h = absurd (omega arith)
drop-past (x ∷ xs) (suc i) h = drop-past xs i (omega arith)

abbrev pub after_each : {Y : Type 0} → List Y → Result (List Y) PipelineFault → Result (List Y) PipelineFault
after_each ys (Ok rest) = Ok (ys ++ rest)
after_each ys (Err e) = Err e

after-one : {Y : Type 0} (ys : List Y) (y : Y) (r : Result (List Y) PipelineFault) → after_each ys (r >>= λ zs. Ok (y ∷ zs)) ≡ after_each (ys ++ y ∷ []) r
after-one ys y (Ok zs) = ap Ok (sym (append_assoc ys (y ∷ []) zs))
after-one ys y (Err e) = refl

pub none-yet : {Y : Type 0} (r : Result (List Y) PipelineFault) → r ≡ after_each [] r
none-yet (Ok ys) = refl
none-yet (Err e) = refl

-- ys, followed by what the rest gives
module _ {X Y : Type 0} (f : X → Result Y PipelineFault) (ys : List Y) (rest : List X) where
  module _ (x : X) (others : List X) (here : rest ≡ x ∷ others) where
    pub each-next : (y : Y) → f x ≡ Ok y → after_each ys (each f rest) ≡ after_each (ys ++ y ∷ []) (each f others)
    each-next y e = ap (λ l. after_each ys (each f l)) here ∙ ap (λ r. after_each ys (r >>= λ y. each f others >>= λ zs. Ok (y ∷ zs))) e ∙ after-one ys y (each f others)

    pub each-refused : (e : PipelineFault) → f x ≡ Err e → after_each ys (each f rest) ≡ Err e
    each-refused e told = ap (λ l. after_each ys (each f l)) here ∙ ap (λ r. after_each ys (r >>= λ y. each f others >>= λ zs. Ok (y ∷ zs))) told

  pub each-over : rest ≡ [] → after_each ys (each f rest) ≡ Ok ys
  each-over over = ap (λ l. after_each ys (each f l)) over ∙ ap Ok (append-nil ys)

-- those before a place are parsed: they give ys
pub record IsParsedTo {X Y : Type 0} (f : X → Result Y PipelineFault) (xs : List X) (i : ℕ) (ys : List Y) : Type 0 where
  pub so_far : each f xs ≡ after_each ys (each f (drop i xs))

module _ {X Y : Type 0} (f : X → Result Y PipelineFault) (xs : List X) (i : ℕ) (ys : List Y) (parsed : IsParsedTo f xs i ys) where
  pub parsed-next : (x : X) (y : Y) → drop i xs ≡ x ∷ drop (i + 1) xs → f x ≡ Ok y → IsParsedTo f xs (i + 1) (ys ++ y ∷ [])
  parsed-next x y here e = record { so_far = parsed.so_far ∙ each-next f ys (drop i xs) x (drop (i + 1) xs) here y e }

  pub parsed-refused : (x : X) (e : PipelineFault) → drop i xs ≡ x ∷ drop (i + 1) xs → f x ≡ Err e → each f xs ≡ Err e
  parsed-refused x e here told = parsed.so_far ∙ each-refused f ys (drop i xs) x (drop (i + 1) xs) here e told

  pub parsed-more : (x : X) (y : Y) → i < length xs → x ≡ get_or xs i x → f x ≡ Ok y → IsParsedTo f xs (i + 1) (ys ++ y ∷ [])
  parsed-more x y within is e = parsed-next x y (drop-read xs i x within is) e

  pub parsed-fault : (x : X) (e : PipelineFault) → i < length xs → x ≡ get_or xs i x → f x ≡ Err e → each f xs ≡ Err e
  parsed-fault x e within is told = parsed-refused x e (drop-read xs i x within is) told

  pub parsed-all : length xs ≤ i → each f xs ≡ Ok ys
  parsed-all past = parsed.so_far ∙ each-over f ys (drop i xs) (drop-past xs i past)

-- `each` over the views of a list
pub each-map : {W X Y : Type 0} (f : X → Result Y PipelineFault) (view : W → X) (ws : List W) → each f (map view ws) ≡ each (λ w. f (view w)) ws
each-map f view [] = refl
each-map f view (w ∷ ws) = ap (λ r. f (view w) >>= λ y. r >>= λ ys. Ok (y ∷ ys)) (each-map f view ws)

-- a fault of a part is the fault of the whole
pub gives-fault : {X Y Y' : Type 0} (view : X → Y) (r : Result X PipelineFault) (e : PipelineFault) (parsed : Result Y' PipelineFault) (whole : Result Y PipelineFault) → r ≡ Err e → (e ≡ NoMemory) ⊎ (parsed ≡ Err e) → (parsed ≡ Err e → whole ≡ Err e) → Gives NoMemory view r whole
gives-fault view r e parsed whole is (inl m) f = rw is (inl m)
gives-fault view r e parsed whole is (inr p) f = rw is (inr (f p))
