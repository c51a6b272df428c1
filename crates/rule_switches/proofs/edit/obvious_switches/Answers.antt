use Rattle.std.proofs.Common.{◌≡◌, ℕ, ◌%◌, ap, ◌∙◌, sym}
use Rattle.std.proofs.Math.Nat.{mod_self}
use Rattle.bucket_core.specs.Rule.{total_weight}
use Rattle.rule_switches.proofs.Edits.{total_contiguous}
use Rattle.rule_switches.proofs.edit.obvious_switches.Goals as goal

pub tally_switches-requires-clause-after : goal.tally_switches-requires-clause-after
tally_switches-requires-clause-after c =
    let same : total_weight c.in_ok-edit.edit ≡ c.total.result = ap total_weight c.in_ok-edit.ensures ∙ (total_contiguous c.args.before.now c.args.after.now ∙ (c.requires.total ∙ sym c.total.ensures.value)) in
    ap (λ n. c.total.result % n) same ∙ mod_self c.total.result
