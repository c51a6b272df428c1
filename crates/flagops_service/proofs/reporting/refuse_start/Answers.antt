use Rattle.std.proofs.Common.{ℕ, List, subst}
use Rattle.flagops_streams.specs.Report.{Writes}
use Rattle.flagops_service.proofs.reporting.refuse_start.Goals as goal

-- the line that is written is that of the reason
pub returns : goal.returns
returns g c = (
  subst (λ (line : List ℕ). Writes (g.O.Outlet.bytes c.args.out.now) (g.O.Outlet.bytes c.write_line.new.out) (g.O.Outlet.is_broken c.write_line.new.out) c.write_line.result line 1) c.line.ensures c.write_line.ensures,
  c.tell_stop.ensures,
)
