-- What holds if a call returns Ok.
use Rattle.std.specs.Prelude.{Result, Ok, Err, IfOk, OnOk}

pub ok-both : {A E : Type 0} {P Q R : Type 0} (r : Result A E) → OnOk r P → OnOk r Q → (P → Q → R) → OnOk r R
ok-both (Ok a) p q f = f p q
ok-both (Err e) p q f = tt

pub ok-all : {A E : Type 0} {P Q R S : Type 0} (r : Result A E) → OnOk r P → OnOk r Q → OnOk r R → (P → Q → R → S) → OnOk r S
ok-all (Ok a) p q r f = f p q r
ok-all (Err e) p q r f = tt

pub ok-one : {A E : Type 0} {P R : Type 0} (r : Result A E) → OnOk r P → (P → R) → OnOk r R
ok-one (Ok a) p f = f p
ok-one (Err e) p f = tt

pub ok-in : {A E : Type 0} {P R : A → Type 0} (r : Result A E) → IfOk r P → ((a : A) → P a → R a) → IfOk r R
ok-in (Ok a) p f = f a p
ok-in (Err e) p f = tt
