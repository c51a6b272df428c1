use mir.Syntax.{erased}
use base.Fml.{Lft}
use denote.Param.{param}
use denote.Param.Send.{param_send}
use denote.Ref.{NamedLft}
use Rattle.std.proofs.Common.{[]}
use Rattle.service_tests.proofs.Crossings.{Reading, reading_send}
use Rattle.service_tests.proofs.thread_tests.fn.read_beside.scope.Goals as goal

abbrev at_life : Lft → NamedLft
at_life κ = record { mir = erased; lft = κ }

-- the closure of a thread captures what a seat's reader is given
pub spawn-handle-requires-send-F : goal.spawn-handle-requires-send-F
spawn-handle-requires-send-F g c = λ κs within.
    let sent = reading_send (param 0 g.row.J) g.J.ShareName c.requires.0 c.requires.1 [] (at_life κs.1.1.1.1.1.0) in
    let given = param_send 1 (Reading (param 0 g.row.J) g.J.ShareName [] (at_life κs.1.1.1.1.1.0)) sent in
    record { owned = given.owned; leaving = given.leaving }
