-- What it is made of is what it is the key of.
use Rattle.std.proofs.Common.{sym}
use Rattle.dv_order.specs.Source.{source_value}
use Rattle.dv_order.proofs.key.Key.law_own.Goals as goal

pub returns : goal.returns
returns c = record { of = source_value c.self.inside.source; is = sym c.self.view_is }
