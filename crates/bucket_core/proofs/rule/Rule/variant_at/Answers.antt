use Rattle.std.proofs.Common.{◌∙◌}
use Rattle.bucket_core.proofs.Ends.{around_at}
use Rattle.bucket_core.proofs.rule.Rule.variant_at.Goals as goal

pub returns-clause-around : goal.returns-clause-around
returns-clause-around c = around_at c.args.self.now c.args.p c.requires c.entry_name.result.now (c.entry_at.ensures.name ∙ c.entry_name.ensures.value)
