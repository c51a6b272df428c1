use Rattle.std.proofs.Common.{ℕ, List, subst}
use Rattle.flagops_shell.specs.Diagnostic.{spoken}
use Rattle.flagops_shell.specs.Report.{Puts}
use Rattle.flagops_shell.specs.declared.refused.Remark.TheVariants.{Lines, Short}
use Rattle.flagops_filters.proofs.recording.tell_noted.Goals as goal

pub returns-in-Ok : goal.returns-in-Ok
returns-in-Ok g c =
    let puts = subst (λ (text : List ℕ). Puts (g.E.Outlet.bytes c.args.err.now) (g.E.Outlet.bytes c.tell.new.err) (g.E.Outlet.is_broken c.tell.new.err) (spoken text)) c.as_str.ensures.value c.tell.ensures.spoken in
    (Lines c.in-Ok.lines, c.in-Ok.ensures, puts)

pub returns-in-Err : goal.returns-in-Err
returns-in-Err g c = (Short, tt, c.tell-in-Err.ensures.spoken)
