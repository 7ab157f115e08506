-- The members of a $project that are taken one after the other, while their paths may still conflict.
use Rattle.std.proofs.Common.{◌≡◌, ◌∙◌, ap, sym, refl, Bool, true, false, ◌||◌, ◌&&◌, ◌==◌, not, List, [], ◌∷◌, ◌++◌, ℕ, Some, None, Ok, Err, ◌⊎◌, inl, inr, if◌then◌else◌, cond}
use Rattle.std.specs.List.{list_any, list_all, slice_split, onto_first}
use Rattle.dv_value.specs.Tree.{Tree, Field}
use Rattle.dv_candidates.specs.Path.{is_component, path_of}
use Rattle.dv_row.specs.declared.fault.PipelineFault.{PipelineFault}
use Rattle.dv_row.specs.declared.fault.PipelineFault.TheVariants.{BadSpec, Conflict, NoMemory}
use Rattle.dv_row.specs.Inner.Conflicts.{paths_conflict, IsMemberTaken}
use Rattle.dv_row.specs.Expressions.{Expression}
use Rattle.dv_path.specs.Names.{has_dot}
use Rattle.dv_row.specs.ExpressionParsing.{expression_in}
use Rattle.dv_value.specs.Results.{◌>>=◌}
use Rattle.dv_row.specs.ProjectParsing.{AskedMembers, is_id_path, is_below_id, one_begins, conflicts_with_asked, unless_conflict, with_included, with_excluded, with_computation, excludes, includes, with_path, with_expression, with_switch, with_member, members_in, nothing_asked}
use Rattle.dv_row.proofs.Conflicting.{any-pushed, conflict-pushed}

abbrev Way : Type 0
Way = List (List ℕ)

-- ---- what is asked for with one more path

first-more : (a b c x : Bool) → ((a || x) || b || c) ≡ ((a || b || c) || x)
first-more true b c x = refl
first-more false true c true = refl
first-more false true c false = refl
first-more false false true true = refl
first-more false false true false = refl
first-more false false false true = refl
first-more false false false false = refl

second-more : (a b c x : Bool) → (a || (b || x) || c) ≡ ((a || b || c) || x)
second-more true b c x = refl
second-more false true c x = refl
second-more false false true true = refl
second-more false false true false = refl
second-more false false false true = refl
second-more false false false false = refl

third-more : (a b c x : Bool) → (a || b || (c || x)) ≡ ((a || b || c) || x)
third-more true b c x = refl
third-more false true c x = refl
third-more false false c x = refl

module _ (p : Way) (asked : AskedMembers) where
  pub included-taken : (is_below_id p || excludes asked) ≡ false → (after : AskedMembers) → after ≡ with_included p asked → IsMemberTaken (with_path true p asked) asked p after
  included-taken h after is = rw is (record {
    stands = ap (λ b. if b then Err BadSpec else unless_conflict p asked (with_included p asked)) h;
    asks = λ q. ap (λ b. b || list_any (one_begins q) asked.excluded || list_any (λ c. one_begins q (c.0 ∷ [])) asked.computed) (any-pushed (one_begins q) asked.included p)
        ∙ first-more (list_any (one_begins q) asked.included) (list_any (one_begins q) asked.excluded) (list_any (λ c. one_begins q (c.0 ∷ [])) asked.computed) (one_begins q p);
  })

  pub excluded-taken : (is_below_id p || not (is_id_path p) && includes asked) ≡ false → (after : AskedMembers) → after ≡ with_excluded p asked → IsMemberTaken (with_path false p asked) asked p after
  excluded-taken h after is = rw is (record {
    stands = ap (λ b. if b then Err BadSpec else unless_conflict p asked (with_excluded p asked)) h;
    asks = λ q. ap (λ b. list_any (one_begins q) asked.included || b || list_any (λ c. one_begins q (c.0 ∷ [])) asked.computed) (any-pushed (one_begins q) asked.excluded p)
        ∙ second-more (list_any (one_begins q) asked.included) (list_any (one_begins q) asked.excluded) (list_any (λ c. one_begins q (c.0 ∷ [])) asked.computed) (one_begins q p);
  })

-- a name without a dot is one component
whole : (name : List ℕ) → has_dot name ≡ false → slice_split (λ b. b == 46) name ≡ name ∷ []
whole [] h = refl
whole (b ∷ bs) h = go (b == 46) h (whole bs)
  where
    go : (t : Bool) → (t || has_dot bs) ≡ false → (has_dot bs ≡ false → slice_split (λ b. b == 46) bs ≡ bs ∷ []) → cond t ([] ∷ slice_split (λ b. b == 46) bs) (onto_first b (slice_split (λ b. b == 46) bs)) ≡ (b ∷ bs) ∷ []
    go true h rest = absurd cc
    go false h rest = ap (onto_first b) (rest h)

-- the components of a path are the parts of its text
pub parts-of : (name : List ℕ) (p : Way) → path_of name ≡ Some p → slice_split (λ b. b == 46) name ≡ p
unfolding path_of
parts-of name p e = split (list_all is_component (slice_split (λ b. b == 46) name)) e
  where
    split : (b : Bool) → (if b then Some (slice_split (λ b. b == 46) name) else None) ≡ Some p → slice_split (λ b. b == 46) name ≡ p
    split true e = cc
    split false e = absurd cc

pub undotted : (name : List ℕ) (p : Way) → has_dot name ≡ false → path_of name ≡ Some p → p ≡ name ∷ []
undotted name p h e = sym (parts-of name p e) ∙ whole name h

pub computed-taken : (name : List ℕ) (p : Way) (v : Tree) (asked : AskedMembers) (e : Expression) → path_of name ≡ Some p → has_dot name ≡ false → expression_in false v ≡ Ok e → excludes asked ≡ false → (after : AskedMembers) → after ≡ with_computation name e asked → IsMemberTaken (with_switch None name p v asked) asked p after
computed-taken name p v asked e leads plain parsed h after is = rw is (record {
  stands = ap (λ b. if b then Err BadSpec else (expression_in false v >>= with_expression name p asked)) plain ∙ ap (λ r. r >>= with_expression name p asked) parsed ∙ ap (λ b. if b then Err BadSpec else unless_conflict p asked (with_computation name e asked)) h;
  asks = λ q. ap (λ b. list_any (one_begins q) asked.included || list_any (one_begins q) asked.excluded || b) (any-pushed (λ (c : List ℕ × Expression). one_begins q (c.0 ∷ [])) asked.computed (name, e))
      ∙ third-more (list_any (one_begins q) asked.included) (list_any (one_begins q) asked.excluded) (list_any (λ c. one_begins q (c.0 ∷ [])) asked.computed) (one_begins q (name ∷ []))
      ∙ ap (λ w. conflicts_with_asked q asked || one_begins q w) (sym (undotted name p plain leads));
})

-- ---- all members

-- what the members before these ask for, with their paths in written order, decides the result together with these
pub record IsSoFar (d rest : List Field) (asked : AskedMembers) (paths : List Way) : Type 0 where
  pub gives : members_in nothing_asked d ≡ (if paths_conflict paths then Err Conflict else members_in asked rest)
  pub asks : (p : Way) → conflicts_with_asked p asked ≡ list_any (one_begins p) paths

module _ (d rest : List Field) (asked : AskedMembers) (paths : List Way) (so-far : IsSoFar d rest asked paths) where
  pub so-far-all : rest ≡ [] → members_in nothing_asked d ≡ (if paths_conflict paths then Err Conflict else Ok asked)
  so-far-all over = so-far.gives ∙ ap (λ fs. if paths_conflict paths then Err Conflict else members_in asked fs) over

  module _ (f : Field) (others : List Field) (here : rest ≡ f ∷ others) where
    turn : members_in nothing_asked d ≡ (if paths_conflict paths then Err Conflict else (with_member f asked >>= λ more. members_in more others))
    turn = so-far.gives ∙ ap (λ fs. if paths_conflict paths then Err Conflict else members_in asked fs) here

    -- a conflict before a fault comes first
    pub so-far-refused : (e fault : PipelineFault) → fault ≡ (if paths_conflict paths then Conflict else e) → (e ≡ NoMemory) ⊎ (with_member f asked ≡ Err e) → (fault ≡ NoMemory) ⊎ (members_in nothing_asked d ≡ Err fault)
    so-far-refused e fault is told = go (paths_conflict paths) turn is told
      where
        go : (b : Bool) → members_in nothing_asked d ≡ (if b then Err Conflict else (with_member f asked >>= λ more. members_in more others)) → fault ≡ (if b then Conflict else e) → (e ≡ NoMemory) ⊎ (with_member f asked ≡ Err e) → (fault ≡ NoMemory) ⊎ (members_in nothing_asked d ≡ Err fault)
        go true gives is told = inr (gives ∙ ap Err (sym is))
        go false gives is (inl wanting) = inl (is ∙ wanting)
        go false gives is (inr refused) = inr (gives ∙ ap (λ r. r >>= λ more. members_in more others) refused ∙ ap Err (sym is))

    pub so-far-more : (p : Way) (after : AskedMembers) (more : List Way) → IsMemberTaken (with_member f asked) asked p after → more ≡ paths ++ p ∷ [] → IsSoFar d others after more
    so-far-more p after more taken pushed = rw pushed (record {
      gives = turn ∙ ap (λ r. if paths_conflict paths then Err Conflict else (r >>= λ more. members_in more others)) (taken.stands ∙ ap (λ b. if b then Err Conflict else Ok after) (so-far.asks p))
          ∙ joined (paths_conflict paths) (list_any (one_begins p) paths) ∙ ap (λ b. if b then Err Conflict else members_in after others) (sym (conflict-pushed paths p));
      asks = λ q. taken.asks q ∙ ap (λ b. b || one_begins q p) (so-far.asks q) ∙ sym (any-pushed (one_begins q) paths p);
    })
      where
        joined : (h b : Bool) → (if h then Err Conflict else ((if b then Err Conflict else Ok after) >>= λ more. members_in more others)) ≡ (if (h || b) then Err Conflict else members_in after others)
        joined true b = refl
        joined false true = refl
        joined false false = refl
