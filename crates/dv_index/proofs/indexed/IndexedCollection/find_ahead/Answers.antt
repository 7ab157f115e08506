use Rattle.std.proofs.Common.{Bor, ◌≡◌, ◌∙◌, List, ap, filter, map, subst, sym}
use Rattle.std.specs.Option.{IfSome}
use Rattle.dv_value.specs.Tree.{Field}
use Rattle.dv_value.specs.Inner.ListLaws.{some-is}
use Rattle.dv_coll.specs.Collection.{AreStanding}
use Rattle.dv_match.specs.Match.{matches}
use Rattle.dv_path.specs.Parts.{part}
use Rattle.dv_keyed.specs.declared.before.Bar.{Bar}
use Rattle.dv_keyed.specs.declared.before.Ties.TheVariants.{ById}
use Rattle.dv_keyed.specs.Inner.ListLaws.{map-kept}
use Rattle.dv_index.specs.Indexed.{IndexedTree}
use Rattle.dv_index.specs.Inner.Ahead.{is_ahead}
use Rattle.dv_index.proofs.indexed.IndexedCollection.find_ahead.Goals as goal

pub returns-clause-all : goal.returns-clause-all
returns-clause-all c =
    let ahead = is_ahead (part c.args.by.now) c.in-Some-2.bar in
    let match = matches c.args.filter.now in
    let now = λ (x : Bor (List Field)). x.now in
    let candidates = c.in-Some-3.candidates.items in
    let same = some-is c.in-Some-3.candidates (λ documents. filter ahead (filter match (map now documents.items)) ≡ filter ahead (filter match c.self.inside.documents)) _ c.in-Some-3.is c.in_ok-candidates.ensures.all in
    ap (λ (xs : List (Bor (List Field))). filter ahead (map now xs)) c.all_matching-documents.ensures
    ∙ ap (filter ahead) (map-kept match candidates)
    ∙ same
    ∙ ap (λ (all : IndexedTree). filter ahead (filter match all.documents)) c.self.view_is

pub returns-clause-standing : goal.returns-clause-standing
returns-clause-standing c =
    let match = matches c.args.filter.now in
    let now = λ (x : Bor (List Field)). x.now in
    let candidates = c.in-Some-3.candidates.items in
    let all = c.self.inside.documents in
    let stand = some-is c.in-Some-3.candidates (λ documents. AreStanding all (map now documents.items)) _ c.in-Some-3.is c.in_ok-candidates.ensures.standing in
    let kept = c.documents_stand_where_they_are_found.ensures.passing match all (map now candidates) stand in
    let documents = ap (map now) c.all_matching-documents.ensures ∙ map-kept match candidates in
    subst (λ (collection : IndexedTree). AreStanding collection.documents (map now c.all_matching-documents.result.items)) c.self.view_is (subst (AreStanding all) (sym documents) kept)

pub returns-clause-tied : goal.returns-clause-tied
returns-clause-tied c = some-is c.in-Some-2.bar (λ (bar : Bar). IfSome bar.until (λ until. c.args.ties ≡ ById)) _ c.in-Some-2.is c.in_ok-bar.ensures
