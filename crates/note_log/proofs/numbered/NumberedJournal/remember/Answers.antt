use Rattle.std.proofs.Common.{subst, sym}
use Rattle.log_file.specs.Handed.{handed_in}
use Rattle.log_file.specs.declared.handed.Handed.{Handed}
use Rattle.note_log.specs.Memory.{StandAll}
use Rattle.note_log.proofs.numbered.NumberedJournal.remember.Goals as goal

pub remember-requires : goal.remember-requires
remember-requires g c = subst (λ (h : Handed). ∥ StandAll (handed_in h.writes.items) c.args.lines.items ∥₁) (sym c.handed.ensures) c.requires
