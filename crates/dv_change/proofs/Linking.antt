-- Operators that stay linked while changes go through them.
use Rattle.std.proofs.Common.{◌≡◌, ◌∙◌, ap, sym, subst, refl, List, [], ◌∷◌, ◌+◌, ℕ, length, arith, ◌-◌}
use Rattle.std.specs.Prelude.{Bool, true, false, if◌then◌else◌, nat_lt}
use Rattle.std.specs.List.{AllByRecursion}
use Rattle.dv_change.specs.declared.change.Change.{Change}
use Rattle.dv_change.specs.Changes.{Positioned, with_change, with_changes}
use Rattle.dv_change.specs.Inner.Changes.{IsExactChange, IsPositioned}
use Rattle.dv_change.specs.Difference.{diff}
use Rattle.dv_change.specs.Inner.DiffLaws.{apply-diff, exact-both, exact-diff, positioned-changes, with_changes-both}
use Rattle.dv_change.specs.Inner.Linked.{AreLinked, HaveTakenNothing, IsLinked, changes_of_one, first_left, forms_of, last_outs, made, work_of_one}
use Rattle.dv_change.specs.declared.input.Input.{Input}
use Rattle.dv_change.specs.declared.input.Input.TheVariants.{Left, Named}
use Rattle.dv_change.specs.Inputs.{input_changed_at, left_after, others_after}
use Rattle.dv_change.specs.Raised.{raised}
use Rattle.dv_change.specs.Inner.Turning.{KeepsPositions, Turning}
use Rattle.dv_change.specs.Inner.RowLaws.{positioned-none}
use Rattle.dv_change.specs.Work.{Transform, handed, owed, pass, pass_in, pass_named, stage_rows, through_forms, work, work_named}
use Rattle.dv_change.specs.Inner.Work.{forms_after, forms_named}

pub raised-twice : (n a b : ℕ) → raised (raised n a) b ≡ raised n (a + b)
raised-twice n a b = omega arith

-- ---- what a stage returns

module _ (f : Positioned → Positioned) (keeps : (rows : Positioned) → IsPositioned rows → IsPositioned (f rows)) where
  positioned-next : (rows : Positioned) (change : Change) → IsPositioned rows → IsExactChange change → IsPositioned (with_change rows change)
  positioned-next rows change are exact = positioned-changes rows (change ∷ []) are (exact, tt)

  pub exact-handed : (rows : Positioned) (changes : List Change) → IsPositioned rows → AllByRecursion IsExactChange changes → AllByRecursion IsExactChange (handed f rows changes)
  exact-handed rows [] are exact = tt
  exact-handed rows (change ∷ changes) are exact =
      let next = positioned-next rows change are exact.0 in
      exact-both (diff (f rows) (f (with_change rows change))) (handed f (with_change rows change) changes) (exact-diff (f rows) (f (with_change rows change)) (keeps rows are) (keeps (with_change rows change) next)) (exact-handed (with_change rows change) changes next exact.1)

  -- the changes that it returns lead from its old result to its new one
  pub apply-handed : (rows : Positioned) (changes : List Change) → IsPositioned rows → AllByRecursion IsExactChange changes → with_changes (f rows) (handed f rows changes) ≡ f (with_changes rows changes)
  apply-handed rows [] are exact = refl
  apply-handed rows (change ∷ changes) are exact =
      let next = positioned-next rows change are exact.0 in
      with_changes-both (f rows) (diff (f rows) (f (with_change rows change))) (handed f (with_change rows change) changes)
      ∙ ap (λ made. with_changes made (handed f (with_change rows change) changes)) (apply-diff (f rows) (f (with_change rows change)) (keeps rows are) (keeps (with_change rows change) next))
      ∙ apply-handed (with_change rows change) changes next exact.1

-- ---- operators

module _ {T : Type 0} (turning : Turning T) where
  pub first-linked : (ts : List T) (rows : Positioned) → IsLinked turning ts rows → AreLinked turning ts
  first-linked [] rows l = tt
  first-linked (t ∷ ts) rows l = (l.0, refl, l.2)

  pub pass-first : (ts : List T) (rows : Positioned) (changes : List Change) → IsLinked turning ts rows → pass (forms_of turning ts) (first_left turning ts) changes ≡ pass (forms_of turning ts) rows changes
  pass-first [] rows changes l = refl
  pass-first (t ∷ ts) rows changes l = ap (λ r. pass (forms_of turning (t ∷ ts)) r changes) l.1

  pub work-first : (ts : List T) (rows : Positioned) (changes : List Change) → IsLinked turning ts rows → work (forms_of turning ts) (first_left turning ts) changes ≡ work (forms_of turning ts) rows changes
  work-first [] rows changes l = refl
  work-first (t ∷ ts) rows changes l = ap (λ r. work (forms_of turning (t ∷ ts)) r changes) l.1

  pub pass_named-first : (i : ℕ) (change : Change) (ts : List T) (rows : Positioned) → IsLinked turning ts rows → pass_named i change (forms_of turning ts) (first_left turning ts) ≡ pass_named i change (forms_of turning ts) rows
  pass_named-first i change [] rows l = refl
  pass_named-first i change (t ∷ ts) rows l = ap (λ r. pass_named i change (forms_of turning (t ∷ ts)) r) l.1

  pub work_named-first : (i : ℕ) (change : Change) (ts : List T) (rows : Positioned) → IsLinked turning ts rows → work_named i change (forms_of turning ts) (first_left turning ts) ≡ work_named i change (forms_of turning ts) rows
  work_named-first i change [] rows l = refl
  work_named-first i change (t ∷ ts) rows l = ap (λ r. work_named i change (forms_of turning (t ∷ ts)) r) l.1

  -- the same operators, after changes of the rows that they had taken in
  pub relinked : (ts us : List T) (rows after : Positioned) (changes : List Change) → forms_of turning us ≡ forms_of turning ts → IsLinked turning ts rows → IsLinked turning us (with_changes (first_left turning ts) changes) → with_changes rows changes ≡ after → IsLinked turning us after
  relinked ts [] rows after changes e l m is = tt
  relinked [] (u ∷ us) rows after changes e l m is = absurd cc
  relinked (t ∷ ts) (u ∷ us) rows after changes e l m is = (m.0, m.1 ∙ ap (λ r. with_changes r changes) l.1 ∙ is, m.2)

  pub behind-linked : (ts : List T) (t : T) (us : List T) → ts ≡ t ∷ us → AreLinked turning ts → turning.sound t × IsLinked turning us (made turning t)
  behind-linked ts t us e l =
      let all = subst (λ (vs : List T). AreLinked turning vs) e l in
      (all.0, all.2)

  pub more-ticks : (ts : List T) (t : T) (us : List T) (n first after : ℕ) (changes items : List Change) → ts ≡ t ∷ us → items ≡ changes_of_one turning changes t → IsLinked turning us (made turning t)
      → first ≡ raised n (work_of_one turning changes t)
      → after ≡ raised first (work (forms_of turning us) (first_left turning us) items)
      → after ≡ raised n (work (forms_of turning ts) (first_left turning ts) changes)
  more-ticks ts t us n first after changes items e is l f a =
      let out = changes_of_one turning changes t in
      let behind = work (forms_of turning us) (made turning t) out in
      a ∙ (λ i. raised (f i) (work (forms_of turning us) (first_left turning us) (is i))) ∙ ap (raised (raised n (length changes + length out))) (work-first us (made turning t) out l) ∙ raised-twice n (length changes + length out) behind
      ∙ ap (λ (vs : List T). raised n (work (forms_of turning vs) (first_left turning vs) changes)) (sym e)

  module _ (positioned : (t : T) → turning.sound t → IsPositioned (turning.left t) × AllByRecursion (λ rows. IsPositioned rows) (turning.form t).named) (ordered : (t : T) → KeepsPositions (turning.form t)) where
    pub fed-exact : (t : T) (changes : List Change) → turning.sound t → AllByRecursion IsExactChange changes → AllByRecursion IsExactChange (changes_of_one turning changes t)
    fed-exact t changes s exact = exact-handed (stage_rows (turning.form t)) (ordered t (turning.form t).named) (turning.left t) changes (positioned t s).0 exact

    pub fed-linked : (t after : T) (ts us : List T) (changes items : List Change) → items ≡ changes_of_one turning changes t → turning.sound t → AllByRecursion IsExactChange changes → (turning.form after).makes ≡ (turning.form t).makes → turning.left after ≡ with_changes (turning.left t) changes → (turning.form after).named ≡ (turning.form t).named
        → IsLinked turning ts (made turning t) → forms_of turning us ≡ forms_of turning ts
        → IsLinked turning us (with_changes (first_left turning ts) items)
        → IsLinked turning us (made turning after)
    fed-linked t after ts us changes items e s exact m l o linked forms more =
        relinked ts us (made turning t) (made turning after) items forms linked more
        (ap (with_changes (made turning t)) e ∙ apply-handed (stage_rows (turning.form t)) (ordered t (turning.form t).named) (turning.left t) changes (positioned t s).0 exact ∙ (λ i. sym m i (sym o i) (sym l i)))

    -- the rows before and after a change of an input
    pub owed-exact : (t after : T) (input : Input) (change : Change) → turning.sound t → turning.sound after → (turning.form after).makes ≡ (turning.form t).makes → turning.left after ≡ left_after input change (turning.left t) → (turning.form after).named ≡ others_after input change (turning.form t).named
        → AllByRecursion IsExactChange (owed input change (turning.form t) (turning.left t))
    owed-exact t after input change s z m l o =
        let now : IsPositioned ((turning.form t).makes (others_after input change (turning.form t).named) (left_after input change (turning.left t))) = ordered t _ _ (subst (λ (rows : Positioned). IsPositioned rows) l (positioned after z).0) in
        exact-diff (made turning t) ((turning.form t).makes (others_after input change (turning.form t).named) (left_after input change (turning.left t))) (ordered t (turning.form t).named (turning.left t) (positioned t s).0) now

    pub owed-linked : (t after : T) (ts us : List T) (input : Input) (change : Change) (items : List Change) → items ≡ owed input change (turning.form t) (turning.left t) → turning.sound t → turning.sound after → (turning.form after).makes ≡ (turning.form t).makes → turning.left after ≡ left_after input change (turning.left t) → (turning.form after).named ≡ others_after input change (turning.form t).named
        → IsLinked turning ts (made turning t) → forms_of turning us ≡ forms_of turning ts
        → IsLinked turning us (with_changes (first_left turning ts) items)
        → IsLinked turning us (made turning after)
    owed-linked t after ts us input change items e s z m l o linked forms more =
        let now : IsPositioned ((turning.form t).makes (others_after input change (turning.form t).named) (left_after input change (turning.left t))) = ordered t _ _ (subst (λ (rows : Positioned). IsPositioned rows) l (positioned after z).0) in
        relinked ts us (made turning t) (made turning after) items forms linked more
        (ap (with_changes (made turning t)) e ∙ apply-diff (made turning t) ((turning.form t).makes (others_after input change (turning.form t).named) (left_after input change (turning.left t))) (ordered t (turning.form t).named (turning.left t) (positioned t s).0) now ∙ (λ i. sym m i (sym o i) (sym l i)))

    -- ---- the changes that are returned lead from the last one's old result to its new one

    pub fresh-linked : ((t : T) (named : List Positioned) → (turning.form t).makes named [] ≡ []) → (ts : List T) → HaveTakenNothing turning ts → IsLinked turning ts []
    fresh-linked empty [] all = tt
    fresh-linked empty (t ∷ ts) all =
        let none : made turning t ≡ [] = ap (stage_rows (turning.form t)) all.0.1 ∙ empty t (turning.form t).named in
        (all.0.0, all.0.1, subst (λ (rows : Positioned). IsLinked turning ts rows) (sym none) (fresh-linked empty ts all.1))

    pub outs-linked : (ts : List T) (rows : Positioned) → IsLinked turning ts rows → last_outs turning ts rows ≡ through_forms (forms_of turning ts) rows
    outs-linked [] rows l = refl
    outs-linked (t ∷ ts) rows l = outs-linked ts (made turning t) l.2 ∙ ap (λ r. through_forms (forms_of turning ts) (stage_rows (turning.form t) r)) l.1

    leads-all : (ts : List T) (rows : Positioned) (changes : List Change) → IsPositioned rows → AllByRecursion IsExactChange changes → with_changes (through_forms (forms_of turning ts) rows) (pass (forms_of turning ts) rows changes) ≡ through_forms (forms_of turning ts) (with_changes rows changes)
    leads-all [] rows changes are exact = refl
    leads-all (t ∷ ts) rows changes are exact =
        let f = stage_rows (turning.form t) in
        leads-all ts (f rows) (handed f rows changes) (ordered t (turning.form t).named rows are) (exact-handed f (ordered t (turning.form t).named) rows changes are exact)
        ∙ ap (through_forms (forms_of turning ts)) (apply-handed f (ordered t (turning.form t).named) rows changes are exact)

    leads-named : (i : ℕ) (change : Change) (ts : List T) (rows : Positioned) → IsPositioned rows → with_changes (through_forms (forms_of turning ts) rows) (pass_named i change (forms_of turning ts) rows) ≡ through_forms (forms_named i change (forms_of turning ts)) rows
    leads-named i change [] rows are = refl
    leads-named i change (t ∷ ts) rows are = by (nat_lt i (length (turning.form t).named)) (leads-named (i - length (turning.form t).named) change ts (stage_rows (turning.form t) rows) (ordered t (turning.form t).named rows are))
      where
        by : (b : Bool) → with_changes (through_forms (forms_of turning ts) (stage_rows (turning.form t) rows)) (pass_named (i - length (turning.form t).named) change (forms_of turning ts) (stage_rows (turning.form t) rows)) ≡ through_forms (forms_named (i - length (turning.form t).named) change (forms_of turning ts)) (stage_rows (turning.form t) rows)
            → with_changes (through_forms (forms_of turning ts) (stage_rows (turning.form t) rows)) (if b then pass (forms_of turning ts) (stage_rows (turning.form t) rows) (owed (Named i) change (turning.form t) rows) else pass_named (i - length (turning.form t).named) change (forms_of turning ts) (stage_rows (turning.form t) rows))
            ≡ through_forms (if b then record { makes = (turning.form t).makes; named = input_changed_at i change (turning.form t).named } ∷ forms_of turning ts else turning.form t ∷ forms_named (i - length (turning.form t).named) change (forms_of turning ts)) rows
        by true rest =
            let before = ordered t (turning.form t).named rows are in
            let behind = ordered t (input_changed_at i change (turning.form t).named) rows are in
            leads-all ts (stage_rows (turning.form t) rows) (owed (Named i) change (turning.form t) rows) before (exact-diff (stage_rows (turning.form t) rows) ((turning.form t).makes (input_changed_at i change (turning.form t).named) rows) before behind)
            ∙ ap (through_forms (forms_of turning ts)) (apply-diff (stage_rows (turning.form t) rows) ((turning.form t).makes (input_changed_at i change (turning.form t).named) rows) before behind)
        by false rest = rest

    first-positioned : (ts : List T) → AreLinked turning ts → IsPositioned (first_left turning ts)
    first-positioned [] l = positioned-none
    first-positioned (t ∷ ts) l = (positioned t l.0).0

    pub leads : (ts : List T) (input : Input) (change : Change) → IsExactChange change → AreLinked turning ts
        → with_changes (through_forms (forms_of turning ts) (first_left turning ts)) (pass_in input change (forms_of turning ts) (first_left turning ts))
        ≡ through_forms (forms_after input change (forms_of turning ts)) (left_after input change (first_left turning ts))
    leads ts Left change exact l = leads-all ts (first_left turning ts) (change ∷ []) (first-positioned ts l) (exact, tt)
    leads ts (Named i) change exact l = leads-named i change ts (first_left turning ts) (first-positioned ts l)

    -- with the input known
    pub outs-after : (us : List T) (before rows : Positioned) (input : Input) (change : Change) → left_after input change before ≡ rows → IsLinked turning us rows
        → last_outs turning us (left_after input change before) ≡ through_forms (forms_of turning us) (left_after input change before)
    outs-after us before rows input change e l = outs-linked us (left_after input change before) (subst (λ (r : Positioned). IsLinked turning us r) (sym e) l)

    pub leads-after : (ts us : List T) (input : Input) (change : Change) → IsExactChange change → AreLinked turning ts
        → forms_of turning us ≡ forms_after input change (forms_of turning ts)
        → with_changes (through_forms (forms_of turning ts) (first_left turning ts)) (pass_in input change (forms_of turning ts) (first_left turning ts))
        ≡ through_forms (forms_of turning us) (left_after input change (first_left turning ts))
    leads-after ts us input change exact l forms = leads ts input change exact l ∙ ap (λ (fs : List Transform). through_forms fs (left_after input change (first_left turning ts))) (sym forms)
