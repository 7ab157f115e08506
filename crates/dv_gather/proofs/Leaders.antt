-- The least and the greatest of values lead: this stays true with each further value.
use Rattle.std.proofs.Common.{◌≡◌, ◌≢◌, ◌∙◌, ap, sym, refl, Bool, true, false, not, ◌&&◌, ◌||◌, List, [], ◌∷◌, ◌++◌, append_assoc, append-nil, inl, inr, if◌then◌else◌}
use Rattle.std.specs.List.{AllByRecursion}
use Rattle.std.specs.Ordering.{ordering_reverse}
use Rattle.std.specs.declared.cmp.Ordering.{Ordering}
use Rattle.std.specs.declared.cmp.Ordering.TheVariants.{Less, Equal, Greater}
use Rattle.dv_value.specs.Tree.{Tree, int32, int64, string, document, array, boolean, binary, object_id, date, null, timestamp, min_key, max_key}
use Rattle.dv_order.specs.Order.{order}
use Rattle.dv_order.specs.Inner.TotalOrder.{order_total}
use Rattle.dv_gather.specs.declared.extreme.Extreme.{Extreme}
use Rattle.dv_gather.specs.declared.extreme.Extreme.TheVariants.{Least, Greatest}
use Rattle.dv_gather.specs.Extremes.{is_null, extreme_stands_so, better, extreme_from, extreme_of}
use Rattle.dv_gather.specs.Inner.Leading.{Leads, IsLeader}

abbrev ahead : Extreme → Ordering
ahead Least = Less
ahead Greatest = Greater

stands-ahead : (e : Extreme) (o : Ordering) → extreme_stands_so e o ≡ true → o ≡ ahead e
stands-ahead Least Less h = refl
stands-ahead Least Equal h = absurd cc
stands-ahead Least Greater h = absurd cc
stands-ahead Greatest Less h = absurd cc
stands-ahead Greatest Equal h = absurd cc
stands-ahead Greatest Greater h = refl

stands-not : (e : Extreme) (o : Ordering) → extreme_stands_so e o ≡ false → o ≢ ahead e
stands-not Least o h is = absurd (let same : extreme_stands_so Least o ≡ true = ap (extreme_stands_so Least) is in cc)
stands-not Greatest o h is = absurd (let same : extreme_stands_so Greatest o ≡ true = ap (extreme_stands_so Greatest) is in cc)

null-is : (v : Tree) → is_null v ≡ true → v ≡ null
null-is (int32 n) h = absurd cc
null-is (int64 n) h = absurd cc
null-is (string s) h = absurd cc
null-is (document fs) h = absurd cc
null-is (array vs) h = absurd cc
null-is (boolean b) h = absurd cc
null-is (binary s bs) h = absurd cc
null-is (object_id id) h = absurd cc
null-is (date n) h = absurd cc
null-is null h = refl
null-is (timestamp n) h = absurd cc
null-is min_key h = absurd cc
null-is max_key h = absurd cc

null-not : (v : Tree) → is_null v ≡ false → v ≢ null
null-not v h is = absurd (let same : is_null v ≡ true = ap is_null is in cc)

turned : (v w : Tree) (o : Ordering) → order v w ≡ o → order w v ≡ ordering_reverse o
turned v w o e = order_total.antisymm w v ∙ ap ordering_reverse e

-- a value that is ahead of another one is ahead of each value that isn't ahead of that one
further : (e : Extreme) (v b w : Tree) → order v b ≡ ahead e → order w b ≢ ahead e → order v w ≡ ahead e
further e v b w first none = go e (order w b) refl first none
  where
    alike : (o : Ordering) → order w b ≡ Equal → order v b ≡ o → order v w ≡ o
    alike o same is = order_total.antisymm v w ∙ ap ordering_reverse (order_total.congr w b v same) ∙ sym (order_total.antisymm v b) ∙ is

    go : (e : Extreme) (o : Ordering) → order w b ≡ o → order v b ≡ ahead e → order w b ≢ ahead e → order v w ≡ ahead e
    go Least Less is first none = absurd (none is)
    go Least Equal is first none = alike Less is first
    go Least Greater is first none = order_total.trans v b w first (turned w b Greater is)
    go Greatest Less is first none = turned w v Less (order_total.trans w b v is (turned v b Greater first))
    go Greatest Equal is first none = alike Greater is first
    go Greatest Greater is first none = absurd (none is)

all-of : (P Q : Tree → Type 0) → ((v : Tree) → P v → Q v) → (vs : List Tree) → AllByRecursion P vs → AllByRecursion Q vs
all-of P Q f [] all = tt
all-of P Q f (v ∷ vs) all = (f v all.0, all-of P Q f vs all.1)

all-join : (P : Tree → Type 0) (vs ws : List Tree) → AllByRecursion P vs → AllByRecursion P ws → AllByRecursion P (vs ++ ws)
all-join P [] ws all more = more
all-join P (v ∷ vs) ws all more = (all.0, all-join P vs ws all.1 more)

module _ (e : Extreme) (vs : List Tree) (v : Tree) where
  -- the new value is ahead of this one, unless this one is null
  abbrev Overtaken : Tree → Type 0
  Overtaken w = w ≢ null → order v w ≡ ahead e

  -- a value that doesn't lead
  passed : (b : Tree) → Leads (ahead e) vs b → (v ≢ null → order v b ≢ ahead e) → Leads (ahead e) (vs ++ v ∷ []) b
  passed b leads none = record {
    earlier = leads.earlier;
    later = leads.later ++ v ∷ [];
    some = leads.some;
    before = leads.before;
    there = ap (λ l. l ++ v ∷ []) leads.there ∙ append_assoc leads.earlier (b ∷ leads.later) (v ∷ []);
    behind = all-join (λ w. w ≢ null → order w b ≢ ahead e) leads.later (v ∷ []) leads.behind (none, tt);
  }

  -- a value that leads from now on
  taken : v ≢ null → AllByRecursion Overtaken vs → Leads (ahead e) (vs ++ v ∷ []) v
  taken some all = record { earlier = vs; later = []; there = refl; some = some; before = all; behind = tt }

  overtaken : (b : Tree) → Leads (ahead e) vs b → order v b ≡ ahead e → AllByRecursion Overtaken vs
  overtaken b leads first = rw leads.there (all-join Overtaken leads.earlier (b ∷ leads.later)
      (all-of (λ w. w ≢ null → order b w ≡ ahead e) Overtaken (λ w ahead-of some. further e v b w first (behind-it w (ahead-of some))) leads.earlier leads.before)
      ((λ some. first), all-of (λ w. w ≢ null → order w b ≢ ahead e) Overtaken (λ w none some. further e v b w first (none some)) leads.later leads.behind))
    where
      behind-it : (w : Tree) → order b w ≡ ahead e → order w b ≢ ahead e
      behind-it w is also = apart e (order b w) is (turned w b (ahead e) also)
        where
          apart : (e : Extreme) (o : Ordering) → o ≡ ahead e → o ≡ ordering_reverse (ahead e) → ⊥
          apart Least o is also = absurd (let same : Less ≡ Greater = sym is ∙ also in cc)
          apart Greatest o is also = absurd (let same : Greater ≡ Less = sym is ∙ also in cc)

  one-more : (b : Tree) → IsLeader (ahead e) vs b → IsLeader (ahead e) (vs ++ v ∷ []) (better e v b)
  one-more b leader = go (is_null v) refl (is_null b) refl (extreme_stands_so e (order v b)) refl leader
    where
      go : (n : Bool) → is_null v ≡ n → (m : Bool) → is_null b ≡ m → (s : Bool) → extreme_stands_so e (order v b) ≡ s → IsLeader (ahead e) vs b → IsLeader (ahead e) (vs ++ v ∷ []) (if not n && (m || s) then v else b)
      go true n m is s so (inl none) = inl (none.0, all-join (λ w. w ≡ null) vs (v ∷ []) none.1 (null-is v n, tt))
      go true n m is s so (inr leads) = inr (passed b leads (λ some. absurd (some (null-is v n))))
      go false n m is s so (inl none) = go-first m is
        where
          go-first : (m : Bool) → is_null b ≡ m → IsLeader (ahead e) (vs ++ v ∷ []) (if m || s then v else b)
          go-first true is = inr (taken (null-not v n) (all-of (λ w. w ≡ null) Overtaken (λ w is some. absurd (some is)) vs none.1))
          go-first false is = absurd (null-not b is none.0)
      go false n true is s so (inr leads) = absurd (leads.some (null-is b is))
      go false n false is true so (inr leads) = inr (taken (null-not v n) (overtaken b leads (stands-ahead e (order v b) so)))
      go false n false is false so (inr leads) = inr (passed b leads (λ some. stands-not e (order v b) so))

leads-from : (e : Extreme) (seen : List Tree) (b : Tree) (vs : List Tree) → IsLeader (ahead e) seen b → IsLeader (ahead e) (seen ++ vs) (extreme_from e b vs)
leads-from e seen b [] leader = rw (append-nil seen) leader
leads-from e seen b (v ∷ vs) leader = rw (← append_assoc seen (v ∷ []) vs) (leads-from e (seen ++ v ∷ []) (better e v b) vs (one-more e seen v b leader))

pub least_leads : (vs : List Tree) → IsLeader Less vs (extreme_of Least vs)
least_leads vs = leads-from Least [] null vs (inl (refl, tt))

pub greatest_leads : (vs : List Tree) → IsLeader Greater vs (extreme_of Greatest vs)
greatest_leads vs = leads-from Greatest [] null vs (inl (refl, tt))
