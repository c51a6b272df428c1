use Rattle.std.proofs.Common.{◌∙◌, sym, ap}
use Rattle.flag_references.specs.Readable.{reads}
use Rattle.flag_references.proofs.Readable.{reads-readable}
use Rattle.flag_references.proofs.measure.Measure.is_readable.Goals as goal

pub returns-clause-readable : goal.returns-clause-readable
returns-clause-readable c t tidy same = c.reads.ensures ∙ (ap reads (sym same) ∙ reads-readable t tidy)
