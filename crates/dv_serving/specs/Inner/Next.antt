-- The next connection.
use Rattle.std.specs.Prelude.{ℕ, List, Option, Result}
use Rattle.dv_host.specs.Outside.{Accepts}
use Rattle.dv_wire.specs.Schedule.{World}
use Rattle.dv_wire.specs.declared.fault.RunFault.{RunFault}
use Rattle.dv_wire.specs.declared.service.Done.{Done}
use Rattle.dv_serving.specs.Serve.{ClosesConnection, Connection, Ended, HasSession}

-- the next connection arrives, has its session, of which this is reported, and is closed
abbrev pub ServesNext : Option (List (List ℕ)) → Option (List (List ℕ)) → Option (List Ended) → Option (List Ended) → World → Result Done RunFault → World → Type 0
ServesNext coming_old coming_new closed_old closed_new old told new =
    (connection : Connection) × Accepts coming_old connection.input coming_new
    × ClosesConnection closed_old connection.left connection.taken closed_new × HasSession connection old told new
