use mir.Syntax.{erased}
use base.Fml.{Lft}
use denote.Param.{param}
use denote.Param.Send.{param_send}
use denote.Ref.{NamedLft}
use Rattle.std.proofs.Common.{[]}
use Rattle.ofrep_service.proofs.Crossings.{Operating, operate_send}
use Rattle.ofrep_service.proofs.admin.fn.operate_beside.scope.Goals as goal

abbrev at_life : Lft → NamedLft
at_life κ = record { mir = erased; lft = κ }

-- the closure of a thread captures what a worker is given
pub spawn_scoped-spawned-requires-send-F : goal.spawn_scoped-spawned-requires-send-F
spawn_scoped-spawned-requires-send-F g c = λ κs within.
    let sent =
    operate_send (param 0 g.row.J) g.J.ShareName c.requires.0 c.requires.1 [] (at_life κs.1.1.1.1.1.0) (at_life κs.1.1.1.1.1.1.0) (at_life κs.1.1.1.1.1.1.1.0) (param 1 g.row.R) c.requires.2 in
    let given =
    param_send 1 (Operating (param 0 g.row.J) g.J.ShareName [] (at_life κs.1.1.1.1.1.0) (at_life κs.1.1.1.1.1.1.0) (at_life κs.1.1.1.1.1.1.1.0) (param 1 g.row.R)) sent in
    record { owned = given.owned; leaving = given.leaving }
