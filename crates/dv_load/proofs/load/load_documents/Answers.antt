use Rattle.dv_load.proofs.Loads.{OneByOne, nothing_yet, one_more}
use Rattle.dv_load.proofs.load.load_documents.Goals as goal

pub documents-init : goal.documents-init
documents-init g c = nothing_yet c.args.bytes.now c.args.namespace.now c.args.store.now c.requires

pub documents-smaller : goal.documents-smaller
documents-smaller g c =
    let loaded = c.in_ok-behind.ensures.loaded in
    c.documents_come_one_by_one.ensures.fewer _ loaded.0 _ loaded.1

pub documents-preserved : goal.documents-preserved
documents-preserved g c =
    let law : OneByOne = record { more = c.documents_come_one_by_one.ensures.more; fewer = c.documents_come_one_by_one.ensures.fewer } in
    let loaded = c.in_ok-behind.ensures.loaded in
    one_more law _ _ _ _ _ _ _ loaded.0 _ c.documents.invariant loaded.1 loaded.2
