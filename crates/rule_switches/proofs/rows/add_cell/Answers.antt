use Rattle.std.proofs.Common.{◌≡◌, ◌<◌, ℕ, Result, Ok, Err, OnOk, arith}
use Rattle.std.specs.List.{All}
use Rattle.rule_switches.proofs.Listed.{Lent}
use Rattle.rule_switches.proofs.rows.add_cell.Goals as goal

pub returns-clause-some : goal.returns-clause-some
returns-clause-some c =
    after (All {X = Lent × ℕ} (λ e. 0 < e.1) c.args.rows.now.entries → All {X = Lent × ℕ} (λ e. 0 < e.1) c.add_switch.new.rows.entries) c.add_switch.result c.add_switch.ensures.some (omega (arith, c.if-cell-eq0.false))
  where
    after : {X E A : Type 0} (B : Type 0) (r : Result X E) → OnOk r (A → B) → A → OnOk r B
    after B (Ok x) f a = f a
    after B (Err e) f a = tt
