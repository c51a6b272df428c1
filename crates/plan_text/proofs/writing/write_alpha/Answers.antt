use Rattle.std.proofs.Common.{rules, ℕ, ℤ, ◌<◌, ◌^◌, String, Global, get_or, subst, arith}
use Rattle.std.specs.List.{All}
use Rattle.std.proofs.lemmas.Grind.{common_steps}
use Rattle.std.proofs.lemmas.List.{take_all}
use Rattle.std.proofs.lemmas.List.Elements.{All-more}
use Rattle.std.proofs.lemmas.Result.{on_ok_weaker}
use Rattle.plan_text.proofs.RowsAgain.{counts_small}
use Rattle.plan_text.proofs.writing.write_alpha.Goals as goal

pub loop-row-preserved : goal.loop-row-preserved
loop-row-preserved c =
    let rows = c.args.alpha.now in
    let i = c.loop-row.row-index in
    let row = c.row-item.result in
    let P : String Global × ℕ × ℤ → Type 0 = λ r. r.1 < 2 ^ 32 in
    let small : P (get_or rows i row) = subst P c.row-item.is c.in_ok-write_alpha_row.ensures.small in
    record {
      before = search rules;
      tokens = grind (arith, common_steps);
      counts = All-more P rows i row (omega arith) c.loop-row.invariant.counts small;
    }

pub returns-clause-counts : goal.returns-clause-counts
returns-clause-counts c =
    let rows = c.args.alpha.now in
    let all = take_all c.loop-row.row-index rows (omega arith) in
    on_ok_weaker c.end_array.result (λ e. counts_small rows (subst (All (λ r. r.1 < 2 ^ 32)) all c.loop-row.invariant.counts)) c.end_array.ensures.ok
