use Rattle.std.proofs.Common.{Bor, ◌∙◌, ap, filter, map, subst, sym}
use Rattle.dv_coll.specs.Collection.{AreStanding, id_key}
use Rattle.dv_match.specs.Match.{matches}
use Rattle.dv_order.specs.Key.{KeyTree}
use Rattle.dv_path.specs.Parts.{part}
use Rattle.dv_index.specs.Inner.Ahead.{is_ahead}
use Rattle.dv_keyed.specs.Inner.Keys.{has_key}
use Rattle.dv_index.proofs.Foremost.{ahead-gathered}
use Rattle.dv_index.proofs.ahead.candidates_ahead.Goals as goal

pub returns-clause-all : goal.returns-clause-all
returns-clause-all c =
    let by = c.args.by.now in
    let filter-form = c.args.filter.now in
    let ids = map (λ (l : Bor KeyTree). l.now) c.in_ok-ids.ids.items in
    ap (λ ds. filter (is_ahead (part by) c.args.bar.now) (filter (matches filter-form) ds)) c.in_ok-documents_of.ensures
    ∙ ahead-gathered c.an_only_key_is_in_all_bounds.ensures filter-form c.args.index.now by.path by.direction c.requires.path c.args.bar.now c.requires.somewhere (λ i. has_key i ids) c.in_ok-ids.ensures c.args.collection.now c.requires.indexed c.law_ascending.ensures.ascending

pub returns-clause-standing : goal.returns-clause-standing
returns-clause-standing c =
    let ids = map (λ (l : Bor KeyTree). l.now) c.in_ok-ids.ids.items in
    let all = c.args.collection.now in
    let standing = c.documents_stand_where_they_are_found.ensures in
    subst (AreStanding all) (sym c.in_ok-documents_of.ensures) (standing.passing (λ d. has_key (id_key d) ids) all all (standing.all all c.law_ascending.ensures.ascending))
