use Rattle.std.proofs.Common.{◌+◌, ◌∷◌, [], List, sym, ap, ◌∙◌, subst}
use Rattle.std.proofs.lemmas.List.{map-append}
use Rattle.rule_switches.specs.Runs.{Run, AreRuns, run_view, runs_view}
use Rattle.rule_switches.proofs.TableCounting.{runs_more}
use Rattle.rule_switches.proofs.change.runs.Goals as goal

pub loop-point-preserved : goal.loop-point-preserved
loop-point-preserved c =
    let l = c.loop-point in
    let run = c.run_at-run.result in
    let items = ap runs_view c.in_ok-push.ensures.items ∙ map-append run_view l.runs.items (run ∷ []) in
    record {
      inside = c.run_at-run.ensures.end;
      made = subst (λ (rs : List Run). AreRuns c.args.old.now c.args.new.now c.args.counts.now 0 rs (l.point + run.points)) (sym items)
          (runs_more c.args.old.now c.args.new.now c.args.counts.now 0 l.point (runs_view l.runs.items) (run_view run) l.invariant.made c.run_at-run.ensures.run);
    }
