use Rattle.std.proofs.Common.{◌≡◌, Result, Ok, Err, ◌∙◌, sym}
use Rattle.bucket_core.specs.Rule.{Entries, entries_view}
use Rattle.bucket_core.specs.declared.fault.RuleFault.{RuleFault}
use Rattle.bucket_core.proofs.Refined.{rule_of_entries-good}
use Rattle.rule_switches.proofs.edit.made.Goals as goal

pub unreachable-requires : goal.unreachable-requires
unreachable-requires c =
    let good = rule_of_entries-good (entries_view c.args.entries.items) c.requires in
    let refused = c.in-Err.ensures.exact c.in_default.not-WantOfMemory in
    differ (entries_view c.args.entries.items) c.in-Err.fault (sym good ∙ refused)
  where
    differ : (r : Entries) (e : RuleFault) → (let ok : Result Entries RuleFault = Ok r in ok) ≡ Err e → ⊥
    differ r e same = cc
