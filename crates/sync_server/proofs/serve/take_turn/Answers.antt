use Rattle.std.proofs.Common.{None, Some}
use Rattle.sync_server.proofs.Serving.{goes_on, serves_to}
use Rattle.sync_server.proofs.serve.take_turn.Goals as goal

pub returns-in-Ok-Some-clause-goes_on : goal.returns-in-Ok-Some-clause-goes_on
returns-in-Ok-Some-clause-goes_on g c =
    goes_on g.C.Current.was_read c.args.current.now c.write_newer.new.current (g.C.Current.known c.write_newer.new.current) (g.C.Current.known c.args.current.now)
    (g.O.Outlet.bytes c.args.out.now) (g.O.Outlet.bytes c.write_newer.new.out) c.args.progress.now.last c.args.progress.now.count
    (Some c.in-Ok-Some.number) c.in-Ok-Some.ensures.grows (rw c.in-Ok-Some.field-0-is at c.in-Ok-Some.ensures.wrote)

pub returns-in-Ok-None-clause-goes_on : goal.returns-in-Ok-None-clause-goes_on
returns-in-Ok-None-clause-goes_on g c =
    goes_on g.C.Current.was_read c.args.current.now c.write_newer.new.current (g.C.Current.known c.write_newer.new.current) (g.C.Current.known c.args.current.now)
    (g.O.Outlet.bytes c.args.out.now) (g.O.Outlet.bytes c.write_newer.new.out) c.args.progress.now.last c.args.progress.now.count
    None c.in-Ok-None.ensures.grows (rw c.in-Ok-None.field-0-is at c.in-Ok-None.ensures.wrote)

pub returns-in-Err-clause-ends : goal.returns-in-Err-clause-ends
returns-in-Err-clause-ends g c =
    serves_to g.C.Current.was_read c.args.current.now c.write_newer.new.current (g.C.Current.known c.write_newer.new.current) (g.C.Current.known c.args.current.now)
    (g.O.Outlet.bytes c.args.out.now) (g.O.Outlet.bytes c.write_newer.new.out) c.args.progress.now.last c.args.progress.now.count
    c.in-Err.end c.in-Err.ensures.grows c.in-Err.ensures.wrote
