use Rattle.std.proofs.Common.{◌≡◌, ◌<◌, ℕ, List, Result, Ok, Err, IfOk, sym, subst, arith}
use Rattle.exposures.specs.Exposure.{Inputs}
use Rattle.exposures.specs.Counts.{counts_of}
use Rattle.bucket_core.specs.Rule.{Entries, total_weight}
use Rattle.rule_switches.specs.Counting.{HasCounted}
use Rattle.rule_switches.specs.Switches.{AreSwitches, rows_view}
use Rattle.rule_switches.proofs.Going.{made}
use Rattle.rule_switches.proofs.Tallied.{has_tallied}
use Rattle.rule_switches.proofs.tally.tally_switches.Goals as goal

pub returns-clause-switches : goal.returns-clause-switches
returns-clause-switches c =
    let before = c.args.before.now in
    let after = c.args.after.now in
    let counts = c.args.counts.now in
    let s = c.in_ok-counting.counting in
    let are = c.in_ok-counting.ensures in
    let old : 0 < total_weight before = omega (arith, c.total-before.ensures.value, c.total-before.ensures.allowed.some) in
    let new : 0 < total_weight after = omega (arith, c.total-after.ensures.value, c.total-after.ensures.allowed.some) in
    made c.switches.result (λ v. (inputs : Inputs) → HasCounted s inputs → AreSwitches s.before s.after inputs (rows_view v.items)) (λ v. Unit {0}) (λ v. (inputs : Inputs) → counts ≡ counts_of inputs c.args.total → AreSwitches before after inputs (rows_view v.items))
    c.switches.ensures.each (any c.switches.result)
    (λ v each known inputs is.
    let own = each inputs (has_tallied before after c.args.total counts s inputs c.requires.total.some old new c.requires.before c.requires.after is are) in
    subst (λ (r : Entries). AreSwitches before r inputs (rows_view v.items)) are.rules.1 (subst (λ (r : Entries). AreSwitches r s.after inputs (rows_view v.items)) are.rules.0 own))
  where
    any : {X E : Type 0} (r : Result X E) → IfOk r (λ v. Unit {0})
    any (Ok x) = tt
    any (Err e) = tt
