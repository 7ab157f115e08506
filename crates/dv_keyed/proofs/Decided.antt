-- A filter that is one condition, or a range with two ends, as it is in memory: a list of one part or two.
use Rattle.std.proofs.Common.{◌≡◌, ◌∙◌, ◌<◌, ◌≤◌, arith, length, get_or, List, [], ◌∷◌, map, ap, refl, subst, true, false, ℕ, Option, Some, None}
use Rattle.std.specs.Option.{IfSome}
use Rattle.dv_match.specs.declared.form.Member as memory
use Rattle.dv_match.specs.declared.form.Condition as held
use Rattle.dv_match.specs.Filter.{Conditions, Members, conditions_of, members_of}
use Rattle.dv_match.specs.View.{condition, member}
use Rattle.dv_keyed.specs.Inner.Decided.{AreClosed, IsClosed, IsClosedUnder, IsInBoth, is_alone, is_one_condition, is_one_under}
use Rattle.dv_keyed.specs.declared.interval.Interval.{Interval}

module _ (cs : List held.Condition) (all : Conditions) (seen : conditions_of (map condition cs) ≡ all) where
  pub one-held : 1 ≤ length cs → length cs < 2 → true ≡ is_alone all
  one-held some few = at cs some few ∙ ap is_alone seen
    where
      at : (ds : List held.Condition) → 1 ≤ length ds → length ds < 2 → true ≡ is_alone (conditions_of (map condition ds))
      at [] some few = absurd (omega (arith, some))
      at (d ∷ []) some few = refl
      at (d ∷ e ∷ ds) some few = absurd (omega (arith, few))

  pub several-held : 2 ≤ length cs → false ≡ is_alone all
  several-held more = at cs more ∙ ap is_alone seen
    where
      at : (ds : List held.Condition) → 2 ≤ length ds → false ≡ is_alone (conditions_of (map condition ds))
      at [] more = absurd (omega (arith, more))
      at (d ∷ []) more = absurd (omega (arith, more))
      at (d ∷ e ∷ ds) more = refl

module _ (ms : List memory.Member) (all : Members) (seen : members_of (map member ms) ≡ all) where
  pub one-part : (m : memory.Member) → 1 ≤ length ms → length ms < 2 → m ≡ get_or ms 0 m → is_one_under (member m) ≡ is_one_condition all
  one-part m some few is = at ms some few is ∙ ap is_one_condition seen
    where
      at : (ns : List memory.Member) → 1 ≤ length ns → length ns < 2 → m ≡ get_or ns 0 m → is_one_under (member m) ≡ is_one_condition (members_of (map member ns))
      at [] some few is = absurd (omega (arith, some))
      at (n ∷ []) some few is = ap (λ n. is_one_under (member n)) is
      at (n ∷ o ∷ ns) some few is = absurd (omega (arith, few))

  pub several-parts : 2 ≤ length ms → false ≡ is_one_condition all
  several-parts more = at ms more ∙ ap is_one_condition seen
    where
      at : (ns : List memory.Member) → 2 ≤ length ns → false ≡ is_one_condition (members_of (map member ns))
      at [] more = absurd (omega (arith, more))
      at (n ∷ []) more = absurd (omega (arith, more))
      at (n ∷ o ∷ ns) more = refl

-- ---- a weaker statement about what was found, if anything was
pub found-weaker : {X : Type 0} (P Q : X → Type 0) (o : Option X) → ((x : X) → P x → Q x) → IfSome o P → IfSome o Q
found-weaker P Q None more h = tt
found-weaker P Q (Some x) more h = more x h

module _ (ends : Interval) where
  pub closed-part : (path : List (List ℕ)) (ms : List memory.Member) (all : Members) (m : memory.Member) → members_of (map member ms) ≡ all → 1 ≤ length ms → length ms < 2 → m ≡ get_or ms 0 m → IsClosedUnder ends path (member m) → IsClosed ends path all
  closed-part path ms all m seen some few is h = subst (IsClosed ends path) seen (at ms some few is)
    where
      at : (ns : List memory.Member) → 1 ≤ length ns → length ns < 2 → m ≡ get_or ns 0 m → IsClosed ends path (members_of (map member ns))
      at [] some few is = absurd (omega (arith, some))
      at (n ∷ []) some few is = subst (λ x. IsClosedUnder ends path (member x)) is h
      at (n ∷ o ∷ ns) some few is = absurd (omega (arith, few))

  pub closed-both : (cs : List held.Condition) (all : Conditions) (c e : held.Condition) → conditions_of (map condition cs) ≡ all → 2 ≤ length cs → length cs < 3 → c ≡ get_or cs 0 c → e ≡ get_or cs 1 e → IsInBoth ends (condition c) (condition e) → AreClosed ends all
  closed-both cs all c e seen some few first second h = subst (AreClosed ends) seen (at cs some few first second)
    where
      at : (ds : List held.Condition) → 2 ≤ length ds → length ds < 3 → c ≡ get_or ds 0 c → e ≡ get_or ds 1 e → AreClosed ends (conditions_of (map condition ds))
      at [] some few first second = absurd (omega (arith, some))
      at (d ∷ []) some few first second = absurd (omega (arith, some))
      at (d ∷ f ∷ []) some few first second = subst (λ x. IsInBoth ends (condition d) (condition x)) second (subst (λ x. IsInBoth ends (condition x) (condition e)) first h)
      at (d ∷ f ∷ g ∷ ds) some few first second = absurd (omega (arith, few))
