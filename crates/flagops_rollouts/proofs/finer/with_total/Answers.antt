use Rattle.std.proofs.Common.{Bool, sym}
use Rattle.std.specs.Prelude.{nat_lt}
use Rattle.std.proofs.lemmas.Bool.{le-ltb, lt-ltb}
use Rattle.flagops_files.proofs.Told.{says}
use Rattle.flagops_rollouts.specs.Finer.{IsFinerLine}
use Rattle.flagops_rollouts.proofs.Parts.{behind_no, behind_one}
use Rattle.flagops_rollouts.proofs.finer.with_total.Goals as goal

pub returns-then-factor-gt1-clause-beside : goal.returns-then-factor-gt1-clause-beside
returns-then-factor-gt1-clause-beside c =
    let Is = IsFinerLine c.args.path.now c.args.factor c.args.total in
    behind_one (nat_lt 1 c.args.factor) Is c.args.noted c.behind.result c.of-line.result (sym (lt-ltb 1 c.args.factor c.if-factor-gt1.true))
    (says Is c.finer_line.result c.of-line.result c.of-line.ensures.lines c.of-line.ensures.short c.finer_line.ensures) c.behind.ensures.both

pub returns-else-factor-gt1-clause-beside : goal.returns-else-factor-gt1-clause-beside
returns-else-factor-gt1-clause-beside c = behind_no (nat_lt 1 c.args.factor) (IsFinerLine c.args.path.now c.args.factor c.args.total) c.args.noted (sym (le-ltb 1 c.args.factor c.if-factor-gt1.false))
