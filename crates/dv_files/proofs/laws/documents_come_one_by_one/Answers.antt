use Rattle.dv_files.proofs.Files.{Holds-more, fewer_behind}
use Rattle.dv_files.proofs.laws.documents_come_one_by_one.Goals as goal

pub returns-clause-more : goal.returns-clause-more
returns-clause-more c = Holds-more

pub returns-clause-fewer : goal.returns-clause-fewer
returns-clause-fewer c = fewer_behind (record { nothing = c.what_a_field_adds.ensures.nothing; more = c.what_a_field_adds.ensures.more })
