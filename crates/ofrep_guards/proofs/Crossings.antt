-- A ring of keys may be read by several threads at once.
use denote.Param.Send.{IsSend, IsSync, sendable}
use denote.Param.SendFields.{declared_send, declared_sync}
use Rattle.std.proofs.Crossing.{crosses}
use Rattle.ofrep_guards.specs.contracts.held.KeyRing as KeyRing
use Rattle.ofrep_guards.specs.contracts.held.LaterKeys as Later
use Rattle.ofrep_guards.specs.contracts.keys.Keys as Keys

Keys-send : IsSend Keys.the_row
Keys-send = declared_send Keys.the_type (search (sendable, crosses) depth 40, tt)

Later-send : IsSend Later.the_row
Later-send = declared_send Later.the_type (search (sendable, crosses, Keys-send) depth 40, tt)

Keys-sync : IsSync Keys.the_row
Keys-sync = declared_sync Keys.the_type (search (sendable, crosses) depth 40, tt)

pub KeyRing-sync : IsSync KeyRing.the_row
KeyRing-sync = declared_sync KeyRing.the_type (Keys-sync, (search (sendable, crosses) depth 40, (search (sendable, crosses, Later-send) depth 40, tt)))
