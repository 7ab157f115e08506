-- What a writer has taken of bytes.
use Rattle.std.proofs.Common.{◌≡◌, ◌<◌, ℕ, zero, suc, ◌-◌, List, ◌++◌, length, take, drop, Option, Ok, refl, sym, ap, subst, ◌∙◌, append_assoc, arith}
use Rattle.std.specs.Io.KnownBytes.{Appends}
use Rattle.std.proofs.KnownBytes.{Appends-trans}
use Rattle.std.proofs.lemmas.List.{take-append-drop, take_all, length-drop}
use Rattle.dv_streams.specs.declared.stream.Failed.{Failed}
use Rattle.dv_streams.specs.Stream.{failures_written}

-- the first part was taken, and the rest is still to be given; the writer hasn't failed
pub record HasGiven (old new : Option (List ℕ)) (bytes rest : List ℕ) (failures_old failures_new : ℕ) : Type 0 where
  pub part : List ℕ
  pub parts : bytes ≡ part ++ rest
  pub taken : Appends old new part
  pub failures : failures_new ≡ failures_old

-- a writer that takes some bytes hasn't failed
not_failed : (count failures : ℕ) → 0 < count → failures_written {E = Failed} (Ok count) failures ≡ failures
not_failed zero failures some = absurd (omega (arith, some))
not_failed (suc n) failures some = refl

-- some of the rest was taken, which a slice then is
pub more_given : (old mid new : Option (List ℕ)) (bytes rest : List ℕ) (count before now after : ℕ) → HasGiven old mid bytes rest before now → Appends mid new (take count rest) → 0 < count
    → after ≡ failures_written {E = Failed} (Ok count) now → HasGiven old new bytes (take (length rest - count) (drop count rest)) before after
more_given old mid new bytes rest count before now after given more some told =
    subst (λ (r : List ℕ). HasGiven old new bytes r before after) (sym (take_all (length rest - count) (drop count rest) (omega (arith, length-drop count rest)))) (record {
      part = given.part ++ take count rest;
      parts = given.parts ∙ ap (λ (r : List ℕ). given.part ++ r) (sym (take-append-drop count rest)) ∙ sym (append_assoc given.part (take count rest) (drop count rest));
      taken = Appends-trans old mid new given.part (take count rest) given.taken more;
      failures = told ∙ not_failed count now some ∙ given.failures;
    })
