-- The lines of many services may be read by several threads at once.
use denote.Param.Send.{IsSync, sendable}
use denote.Param.SendFields.{declared_sync}
use Rattle.std.proofs.Crossing.{crosses}
use Rattle.service_layers.specs.contracts.lines.AccessLines as AccessLines

pub AccessLines-sync : IsSync AccessLines.the_row
AccessLines-sync = declared_sync AccessLines.the_type (search (sendable, crosses) depth 80, tt)
