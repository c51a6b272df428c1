use Rattle.std.proofs.Common.{◌∙◌, ap, arith, length, refl, sum}
use Rattle.picture.specs.Changes.{change_height, change_told}
use Rattle.rollout.specs.CheckedTally.{tally_view}
use Rattle.rule_switches.specs.Runs.{runs_view}
use Rattle.transport_core.specs.Certificate.{certificate_view}
use Rattle.flagops_pictures.specs.Pictured.{IsChangeTold}
use Rattle.flagops_pictures.proofs.drawing.draw_rule.Goals as goal

pub runs-requires-clause-points : goal.runs-requires-clause-points
runs-requires-clause-points c = ap length c.as_slice-counts.ensures.value ∙ c.requires.whole

pub runs-requires-clause-few : goal.runs-requires-clause-few
runs-requires-clause-few c = omega (arith, ap sum c.as_slice-counts.ensures.value, c.requires.few)

pub switch_table-requires-clause-points : goal.switch_table-requires-clause-points
switch_table-requires-clause-points c = ap length c.as_slice-counts.ensures.value ∙ c.requires.whole

pub switch_table-requires-clause-few : goal.switch_table-requires-clause-few
switch_table-requires-clause-few c = omega (arith, ap sum c.as_slice-counts.ensures.value, c.requires.few)

pub returns : goal.returns
returns c =
    let p = c.args.problem.now in
    let items = change_told p.old c.args.rule.now p.totals p.request.now.prices (runs_view c.in_ok-runs.runs.items) c.in_ok-table.table (certificate_view c.args.certificate.now) in
    let high = change_height p.totals p.request.now.prices c.in_ok-table.table in
    let told : IsChangeTold (tally_view p) c.args.rule.now (certificate_view c.args.certificate.now) high items = record {
      runs = runs_view c.in_ok-runs.runs.items;
      table = c.in_ok-table.table;
      in_runs = rw c.as_slice-counts.ensures.value at c.in_ok-runs.ensures;
      switched = rw c.as_slice-counts.ensures.value at c.in_ok-table.ensures;
      told = refl;
      as_high = refl;
    } in
    ((high, items), told, rw (c.prices.ensures.value, c.as_slice.ensures.value) at c.in_ok-below.ensures.adds, rw c.prices.ensures.value at c.in_ok-below.ensures.below)
