use Rattle.std.proofs.Common.{◌≡◌, ℕ, ◌+◌, ◌∙◌, Bool, true, false, refl, ap, arith, if◌then◌else◌}
use Rattle.dv_host.specs.Schedule.{HappensBy}
use Rattle.dv_host.proofs.All.{recounted}
use Rattle.dv_host.proofs.hosting.greet_all.Goals as goal

chosen : (b : Bool) (n : ℕ) → b ≡ true → (if b then n + 1 else n) ≡ n + 1
chosen b n e = ap (λ (x : Bool). if x then n + 1 else n) e

other : (b : Bool) (n m : ℕ) → n ≡ m → b ≡ false → (if b then n + 1 else n) ≡ m
other b n m is e = ap (λ (x : Bool). if x then n + 1 else n) e ∙ is

pub greets-init : goal.greets-init
greets-init g c = (omega arith, λ first start count stands. recounted (HappensBy g.S.Sessions.opens g.S.Sessions.feeds g.S.Sessions.ends) _ _ _ _ _ _ _ count _ stands (count + 0) (omega arith))

pub greets-preserved : goal.greets-preserved
greets-preserved g c = (
  omega arith,
  λ first start count stands.
      let n = count + c.greets.count in
      let greeted = c.greet.ensures first start n (c.greets.invariant.1 first start count stands) in
      let more : (if c.greet.result then n + 1 else n) ≡ count + (c.greets.count + 1) = chosen c.greet.result n c.if-not-greet.false ∙ omega arith in
      recounted (HappensBy g.S.Sessions.opens g.S.Sessions.feeds g.S.Sessions.ends) _ _ _ _ _ _ _ _ _ greeted (count + (c.greets.count + 1)) more,
)

pub returns-then-not-greet : goal.returns-then-not-greet
returns-then-not-greet g c = record {
  stands = λ first start count stands.
      let n = count + c.greets.count in
      let greeted = c.greet.ensures first start n (c.greets.invariant.1 first start count stands) in
      recounted (HappensBy g.S.Sessions.opens g.S.Sessions.feeds g.S.Sessions.ends) _ _ _ _ _ _ _ _ _ greeted n (other c.greet.result n n refl c.if-not-greet.true);
  few = c.greets.invariant.0;
}
