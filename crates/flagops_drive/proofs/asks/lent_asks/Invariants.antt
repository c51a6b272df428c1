use Rattle.std.proofs.Common.{◌≡◌, ◌++◌, drop, length, map}
use Rattle.flagops_drive.specs.Asks.{ask_view}
use Rattle.flagops_drive.specs.Plain.{plain_view}
use Rattle.flagops_drive.proofs.asks.lent_asks.Given as goal

abbrev pub invariant-loop-ask : goal.invariant-loop-ask
invariant-loop-ask l = record {
  same : map ask_view l.lent.items ++ map plain_view (drop l.ask-index l.asks) ≡ map plain_view l.asks;
  each : length l.lent.items ≡ l.ask-index;
}
