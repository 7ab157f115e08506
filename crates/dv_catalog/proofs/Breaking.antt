-- Changes, and the keys of unique indexes.
use Rattle.std.proofs.Common.{◌≡◌, ◌||◌, ◌&&◌, Bool, true, false, if◌then◌else◌, List, [], ◌∷◌, map, None, IsSome, is_some, Ok, Err, refl, ap, ◌∙◌}
use Rattle.std.specs.List.{list_any}
use Rattle.dv_value.specs.Tree.{Field}
use Rattle.dv_coll.specs.Collection.{found, id_key, removed}
use Rattle.dv_refusal.specs.declared.refusal.Refusal.TheVariants.{DuplicateKey}
use Rattle.dv_keyed.specs.Index.{IndexForm}
use Rattle.dv_index.specs.Unique.{clashes, is_key_taken, replacing_clashes}
use Rattle.dv_order.specs.Key.{KeyTree}
use Rattle.dv_catalog.specs.Changes.{Change, Effect, Statement, breaks, done_to, gone, put, with_put}
use Rattle.dv_catalog.specs.Inner.EffectLaws.{done_broken, done_refused, done_unbroken}
use Rattle.dv_catalog.specs.Inner.EffectView.{ArePlaced}
use Rattle.dv_catalog.specs.Effects.{put_new}
use Rattle.dv_catalog.specs.State.{Collection}
use Rattle.dv_catalog.proofs.Stopping.{put_replaced}

-- removed documents add no keys
pub gone_breaks_nothing : (indexes : List IndexForm) (keys : List KeyTree) (documents : List (List Field)) → breaks indexes (map gone keys) documents ≡ false
gone_breaks_nothing indexes [] documents = refl
gone_breaks_nothing indexes (k ∷ ks) documents = gone_breaks_nothing indexes ks (removed k documents)

-- documents that are put in place of others
pub puts_break : (indexes : List IndexForm) (documents others : List (List Field)) → ArePlaced documents (map put others) → breaks indexes (map put others) documents ≡ replacing_clashes indexes others documents
puts_break indexes documents [] placed = refl
puts_break indexes documents (d ∷ ds) placed =
    ap (λ (b : Bool). clashes indexes d documents || b) (puts_break indexes (with_put d documents) ds placed.1)
    ∙ ap (λ (there : List (List Field)). clashes indexes d documents || replacing_clashes indexes ds there) (put_replaced d documents placed.0.1)

-- ---- without a unique index

none_clashes : (indexes : List IndexForm) (d : List Field) (documents : List (List Field)) → list_any (λ x. x.unique) indexes ≡ false → clashes indexes d documents ≡ false
none_clashes [] d documents none = refl
none_clashes (x ∷ xs) d documents none = by_first x.unique (is_key_taken x.path d documents) none (none_clashes xs d documents)
  where
    by_first : (b taken : Bool) → b || list_any (λ (y : IndexForm). y.unique) xs ≡ false → (list_any (λ (y : IndexForm). y.unique) xs ≡ false → clashes xs d documents ≡ false) → (b && taken) || clashes xs d documents ≡ false
    by_first true taken none rest = absurd cc
    by_first false taken none rest = rest none

pub none_break : (indexes : List IndexForm) (changes : List Change) (documents : List (List Field)) → list_any (λ x. x.unique) indexes ≡ false → breaks indexes changes documents ≡ false
none_break indexes [] documents none = refl
none_break indexes (put d ∷ changes) documents none =
    ap (λ (b : Bool). b || breaks indexes changes (with_put d documents)) (none_clashes indexes d documents none) ∙ none_break indexes changes (with_put d documents) none
none_break indexes (gone k ∷ changes) documents none = none_break indexes changes (removed k documents) none

-- ---- statements

-- a statement that changes nothing breaks nothing
pub idle_done : (c : Collection) (statement : Statement) → statement c.documents ≡ Ok (record { matched = 0; changes = [] }) → done_to c statement ≡ Ok (record { matched = 0; changes = [] })
idle_done c statement so = done_unbroken c statement (record { matched = 0; changes = [] }) so refl

-- a new document
module _ (c : Collection) (d : List Field) where
  abbrev one_put : Effect
  one_put = record { matched = 1; changes = put d ∷ [] }

  new_by : (b : Bool) → is_some (found (id_key d) c.documents) ≡ b → put_new d c.documents ≡ (if b then Err DuplicateKey else Ok one_put)
  new_by b is = ap (λ (x : Bool). if x then Err DuplicateKey else Ok one_put) is

  broken_by : (b : Bool) → clashes c.indexes d c.documents ≡ b → breaks c.indexes (put d ∷ []) c.documents ≡ b || false
  broken_by b is = ap (λ (x : Bool). x || false) is

  pub put_twice : IsSome (found (id_key d) c.documents) → done_to c (put_new d) ≡ Err DuplicateKey
  put_twice there = done_refused c (put_new d) DuplicateKey (new_by true there)

  pub put_once : found (id_key d) c.documents ≡ None → clashes c.indexes d c.documents ≡ false → done_to c (put_new d) ≡ Ok one_put
  put_once none apart = done_unbroken c (put_new d) one_put (new_by false (ap is_some none)) (broken_by false apart)

  pub put_clashing : clashes c.indexes d c.documents ≡ true → done_to c (put_new d) ≡ Err DuplicateKey
  put_clashing clash = by_found (is_some (found (id_key d) c.documents)) refl
    where
      by_found : (b : Bool) → is_some (found (id_key d) c.documents) ≡ b → done_to c (put_new d) ≡ Err DuplicateKey
      by_found true there = done_refused c (put_new d) DuplicateKey (new_by true there)
      by_found false none = done_broken c (put_new d) one_put (new_by false none) (broken_by true clash)
