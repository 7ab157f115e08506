-- Documents that replace others one after the other, and the pairs that an index would have then.
use Rattle.std.proofs.Common.{◌≡◌, ◌∙◌, ◌++◌, List, [], ◌∷◌, map, refl, ap, sym, Bool, true, false, cond, not, ◌||◌, ◌&&◌, Some}
use Rattle.std.specs.List.{AllByRecursion}
use Rattle.std.specs.Option.{option_map}
use Rattle.std.specs.Ordering.{is_eq}
use Rattle.std.proofs.lemmas.List.Folds.{list_any-append}
use Rattle.std.proofs.Math.Bool.{or-false}
use Rattle.dv_value.specs.Tree.{Field}
use Rattle.dv_order.specs.Key.{KeyTree, key_order}
use Rattle.dv_path.specs.LeafKeys.{is_leaf_key}
use Rattle.dv_coll.specs.Collection.{AreStanding, HasId, IsAscending, found, id_key, replaced}
use Rattle.dv_keyed.specs.Index.{IndexForm}
use Rattle.dv_keyed.specs.Inner.Index.{IndexTree, form_of}
use Rattle.dv_keyed.specs.Inner.Keys.{has_key}
use Rattle.dv_keyed.specs.Inner.Pairs.{Pair, has_pair, is_pair_of, is_under_another, pairs_without}
use Rattle.dv_keyed.specs.Inner.PairLaws.{none-gone}
use Rattle.dv_keyed.specs.Inner.ListLaws.{or-shuffled}
use Rattle.dv_index.specs.Inner.Search.{IsIndexOf, is_key_under}
use Rattle.dv_index.specs.Unique.{clashes, is_key_taken, replacing_clashes}
use Rattle.dv_index.proofs.Built.{IsElsewhere, still-apart}
use Rattle.dv_index.proofs.Changed.{ReplacedIsFound, found-same}
use Rattle.dv_index.proofs.Taken.{has-left, under-is-taken}

-- ---- indexes one after the other
pub first-by-itself : (x : IndexForm) (xs : List IndexForm) (es ds : List (List Field)) → replacing_clashes (x ∷ xs) es ds ≡ replacing_clashes (x ∷ []) es ds || replacing_clashes xs es ds
first-by-itself x xs [] ds = refl
first-by-itself x xs (a ∷ es) ds =
    let here = x.unique && is_key_taken x.path a ds in
    ap (λ b. (here || clashes xs a ds) || b) (first-by-itself x xs es (replaced a ds))
    ∙ or-shuffled here (clashes xs a ds) (replacing_clashes (x ∷ []) es (replaced a ds)) (replacing_clashes xs es (replaced a ds))
    ∙ ap (λ b. (b || replacing_clashes (x ∷ []) es (replaced a ds)) || (clashes xs a ds || replacing_clashes xs es (replaced a ds))) (sym (or-false here))

pub none-clashes : (es ds : List (List Field)) → replacing_clashes [] es ds ≡ false
none-clashes [] ds = refl
none-clashes (a ∷ es) ds = none-clashes es (replaced a ds)

pub not-unique : (x : IndexForm) (es ds : List (List Field)) → x.unique ≡ false → replacing_clashes (x ∷ []) es ds ≡ false
not-unique x [] ds e = refl
not-unique x (a ∷ es) ds e = ap (λ u. ((u && is_key_taken x.path a ds) || false) || replacing_clashes (x ∷ []) es (replaced a ds)) e ∙ not-unique x es (replaced a ds) e

-- ---- what dv_coll's laws say of a document that replaces another
abbrev pub ReplacedAscend : Type 0
ReplacedAscend = (d : List Field) (ds : List (List Field)) → HasId d → AllByRecursion HasId ds → IsAscending ds → IsAscending (replaced d ds)

abbrev pub ReplacedBegin : Type 0
ReplacedBegin = (d : List Field) (ds : List (List Field)) → HasId d → AllByRecursion HasId ds → AllByRecursion HasId (replaced d ds)

abbrev pub OthersStand : Type 0
OthersStand = (d e : List Field) (ds those : List (List Field)) → AreStanding ds (e ∷ those) → id_key d ≡ id_key e → AreStanding (replaced d ds) those

-- ---- the state of a trial: the documents now, whose pairs it has, and what is left to be replaced; `all` is the whole result
pub record InTurn (form : IndexForm) (held gone come : List Pair) (befores afters : List (List Field)) (all : Bool) : Type 0 where
  pub now : List (List Field)
  pub left : replacing_clashes (form ∷ []) afters now ≡ all
  pub pairs : (k i : KeyTree) → has_pair k i (pairs_without gone held ++ come) ≡ is_key_under k form.path (found i now)
  pub standing : AreStanding now befores
  pub ascending : IsAscending now
  pub identified : AllByRecursion HasId now
  pub same_ids : map id_key afters ≡ map id_key befores
  pub begin : AllByRecursion HasId afters
  pub apart : (k i : KeyTree) → has_pair k i come ≡ true → IsElsewhere i befores

-- before the first
pub at-first : (x : IndexTree) (gone come : List Pair) (bs es ds : List (List Field)) → gone ≡ [] → come ≡ [] → IsIndexOf x ds → AreStanding ds bs → IsAscending ds → AllByRecursion HasId ds → map id_key es ≡ map id_key bs → AllByRecursion HasId es → InTurn (form_of x) x.pairs gone come bs es (replacing_clashes (form_of x ∷ []) es ds)
at-first x gone come bs es ds no-gone no-come holds standing ascending identified same_ids begin = record {
  now = ds;
  left = refl;
  pairs = λ k i.
      (λ j. has_pair k i (pairs_without (no-gone j) x.pairs ++ no-come j))
      ∙ list_any-append (is_pair_of k i) (pairs_without [] x.pairs) []
      ∙ or-false (has_pair k i (pairs_without [] x.pairs))
      ∙ ap (has_pair k i) (none-gone x.pairs)
      ∙ holds.has k i;
  standing = standing;
  ascending = ascending;
  identified = identified;
  same_ids = same_ids;
  begin = begin;
  apart = λ k i there. let no : false ≡ true = ap (has_pair k i) (sym no-come) ∙ there in absurd cc;
}

exchanged : (p g c o n : Bool) → (p && not g) || c ≡ o → c ≡ false → (p && not (g || ((o && not n) && true))) || (c || ((n && not o) && true)) ≡ n
exchanged p g true o n was none = absurd cc
exchanged true true false true n was none = absurd cc
exchanged true true false false true was none = refl
exchanged true true false false false was none = refl
exchanged true false false true true was none = refl
exchanged true false false true false was none = refl
exchanged true false false false n was none = absurd cc
exchanged false g false true n was none = absurd cc
exchanged false g false false true was none = refl
exchanged false g false false false was none = refl

elsewhere : (p g c l m : Bool) → (p && not (g || (l && false))) || (c || (m && false)) ≡ (p && not g) || c
elsewhere p g c l m = (λ j. (p && not (g || never l j)) || (c || never m j)) ∙ (λ j. (p && not (or-false g j)) || or-false c j)
  where
    never : (a : Bool) → a && false ≡ false
    never true = refl
    never false = refl

module _ (form : IndexForm) (unique : form.unique ≡ true) (held gone come : List Pair) (b a : List Field) (bs es : List (List Field)) (all : Bool) (turn : InTurn form held gone come (b ∷ bs) (a ∷ es) all) (old new : List KeyTree) (id : KeyTree) (is-id : id ≡ id_key a) (is-old : (k : KeyTree) → has_key k old ≡ is_leaf_key k form.path b) (is-new : (k : KeyTree) → has_key k new ≡ is_leaf_key k form.path a) where
  taken : is_under_another (λ k. has_key k new) id (pairs_without gone held ++ come) ≡ is_key_taken form.path a turn.now
  taken = under-is-taken form.path a turn.now turn.ascending (pairs_without gone held ++ come) turn.pairs new id is-new is-id

  this : clashes (form ∷ []) a turn.now ≡ is_under_another (λ k. has_key k new) id (pairs_without gone held ++ come)
  this = or-false (form.unique && is_key_taken form.path a turn.now) ∙ ap (λ u. u && is_key_taken form.path a turn.now) unique ∙ sym taken

  -- if a key is taken, all are refused
  pub refused : is_under_another (λ k. has_key k new) id (pairs_without gone held ++ come) ≡ true → true ≡ all
  refused e = sym (ap (λ c. c || replacing_clashes (form ∷ []) es (replaced a turn.now)) (this ∙ e)) ∙ turn.left

  same-id : id_key a ≡ id_key b
  same-id = let heads : id_key a ∷ map id_key es ≡ id_key b ∷ map id_key bs = turn.same_ids in cc

  module _ (free : is_under_another (λ k. has_key k new) id (pairs_without gone held ++ come) ≡ false) (gone-next come-next : List Pair) (lost : (k i : KeyTree) → has_pair k i gone-next ≡ has_pair k i gone || ((has_key k old && not (has_key k new)) && is_eq (key_order i id))) (gained : (k i : KeyTree) → has_pair k i come-next ≡ has_pair k i come || ((has_key k new && not (has_key k old)) && is_eq (key_order i id))) (ascend : ReplacedAscend) (still-begin : ReplacedBegin) (finds : ReplacedIsFound) (stand : OthersStand) where
    was : (k i : KeyTree) → (has_pair k i held && not (has_pair k i gone)) || has_pair k i come ≡ is_key_under k form.path (found i turn.now)
    was k i = ap (λ c. c || has_pair k i come) (sym (has-left gone held k i)) ∙ sym (list_any-append (is_pair_of k i) (pairs_without gone held) come) ∙ turn.pairs k i

    -- under the document's own `_id`
    own : (k i : KeyTree) → is_eq (key_order i (id_key a)) ≡ true → (has_pair k i held && not (has_pair k i gone)) || has_pair k i come ≡ has_key k old
    own k i e = was k i ∙ ap (is_key_under k form.path) (found-same i (id_key a) turn.now e ∙ ap (λ l. found l turn.now) same-id ∙ turn.standing.0.0) ∙ sym (is-old k)

    none-come : (k i : KeyTree) → is_eq (key_order i (id_key a)) ≡ true → has_pair k i come ≡ false
    none-come k i e = by (has_pair k i come) refl
      where
        by : (c : Bool) → has_pair k i come ≡ c → c ≡ false
        by true there = sym e ∙ ap (λ l. is_eq (key_order i l)) same-id ∙ (turn.apart k i there).0
        by false there = refl

    there-now : (k i : KeyTree) → is_eq (key_order i (id_key a)) ≡ true → found i (replaced a turn.now) ≡ Some a
    there-now k i e =
        finds i a turn.now
        ∙ ap (λ c. cond c (option_map (λ (x : List Field). a) (found i turn.now)) (found i turn.now)) e
        ∙ ap (option_map (λ (x : List Field). a)) (found-same i (id_key a) turn.now e ∙ ap (λ l. found l turn.now) same-id ∙ turn.standing.0.0)

    pairs-next : (k i : KeyTree) → has_pair k i (pairs_without gone-next held ++ come-next) ≡ is_key_under k form.path (found i (replaced a turn.now))
    pairs-next k i =
        list_any-append (is_pair_of k i) (pairs_without gone-next held) come-next
        ∙ ap (λ c. c || has_pair k i come-next) (has-left gone-next held k i)
        ∙ (λ j. (has_pair k i held && not (lost k i j)) || gained k i j)
        ∙ ap (λ l. (has_pair k i held && not (has_pair k i gone || ((has_key k old && not (has_key k new)) && is_eq (key_order i l)))) || (has_pair k i come || ((has_key k new && not (has_key k old)) && is_eq (key_order i l)))) is-id
        ∙ at (is_eq (key_order i (id_key a))) refl
      where
        at : (s : Bool) → is_eq (key_order i (id_key a)) ≡ s → (has_pair k i held && not (has_pair k i gone || ((has_key k old && not (has_key k new)) && s))) || (has_pair k i come || ((has_key k new && not (has_key k old)) && s)) ≡ is_key_under k form.path (found i (replaced a turn.now))
        at true e =
            exchanged (has_pair k i held) (has_pair k i gone) (has_pair k i come) (has_key k old) (has_key k new) (own k i e) (none-come k i e)
            ∙ is-new k
            ∙ ap (is_key_under k form.path) (sym (there-now k i e))
        at false e =
            elsewhere (has_pair k i held) (has_pair k i gone) (has_pair k i come) (has_key k old && not (has_key k new)) (has_key k new && not (has_key k old))
            ∙ was k i
            ∙ ap (is_key_under k form.path) (sym (finds i a turn.now ∙ ap (λ c. cond c (option_map (λ (x : List Field). a) (found i turn.now)) (found i turn.now)) e))

    swapped : (c d : Bool) → c && d ≡ d && c
    swapped true true = refl
    swapped true false = refl
    swapped false true = refl
    swapped false false = refl

    -- and else the next document is tried
    pub goes-on : InTurn form held gone-next come-next bs es all
    goes-on = record {
      now = replaced a turn.now;
      left = sym (ap (λ c. c || replacing_clashes (form ∷ []) es (replaced a turn.now)) (this ∙ free)) ∙ turn.left;
      pairs = pairs-next;
      standing = stand a b turn.now bs turn.standing same-id;
      ascending = ascend a turn.now turn.begin.0 turn.identified turn.ascending;
      identified = still-begin a turn.now turn.begin.0 turn.identified;
      same_ids = (let heads : id_key a ∷ map id_key es ≡ id_key b ∷ map id_key bs = turn.same_ids in cc);
      begin = turn.begin.1;
      apart = λ k i there.
          still-apart b bs turn.standing.1 come turn.apart (has_key k new && not (has_key k old)) k i
          (ap (λ c. has_pair k i come || c) (swapped (is_eq (key_order i (id_key b))) (has_key k new && not (has_key k old)) ∙ ap (λ l. (has_key k new && not (has_key k old)) && is_eq (key_order i l)) (sym (is-id ∙ same-id))) ∙ sym (gained k i) ∙ there);
    }
