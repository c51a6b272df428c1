use Rattle.std.proofs.Common.{ap, sym, ◌∙◌, arith}
use Rattle.std.proofs.lemmas.List.Sums.{prefix_len-le-length}
use lib.Count.{count_trailing_zeros}
use Rattle.page_tally.specs.Plain.{is_plain_ascii}
use Rattle.page_tally.proofs.Odd.{run_through, run_stops}
use Rattle.page_tally.proofs.ascii.plain_end.Goals as goal

pub returns-then-odd-ne0-clause-run : goal.returns-then-odd-ne0-clause-run
returns-then-odd-ne0-clause-run c =
    let odd = c.odd_lanes-odd.ensures in
    let run = run_stops c.args.bytes.now c.loop-at.at 16 (omega arith) (omega arith) (omega (arith, odd)) ∙ ap (count_trailing_zeros 64) (sym odd) in
    omega (arith, run, c.loop-at.invariant.run)

pub returns-then-odd-ne0-clause-inside : goal.returns-then-odd-ne0-clause-inside
returns-then-odd-ne0-clause-inside c =
    let odd = c.odd_lanes-odd.ensures in
    let run = run_stops c.args.bytes.now c.loop-at.at 16 (omega arith) (omega arith) (omega (arith, odd)) ∙ ap (count_trailing_zeros 64) (sym odd) in
    let whole = prefix_len-le-length is_plain_ascii c.args.bytes.now in
    omega (arith, run, whole, c.loop-at.invariant.run)

pub loop-at-preserved : goal.loop-at-preserved
loop-at-preserved c =
    let run = run_through c.args.bytes.now c.loop-at.at 16 (omega arith) (omega (arith, c.odd_lanes-odd.ensures)) in
    record { inside = omega arith; run = omega (arith, run, c.loop-at.invariant.run) }
