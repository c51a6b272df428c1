use Rattle.std.proofs.Common.{◌≡◌, ◌++◌, ℕ, List, sum_by, subst, sym}
use Rattle.log_file.specs.Handed.{handed_in}
use Rattle.log_file.specs.Line.{EndsLine, lines_in}
use Rattle.note_log.specs.Sound.{IsCounted, earlier_in}
use Rattle.note_log.proofs.log.NoteLog.look.Goals as goal

-- the file that stands was handed nothing more
pub invariant_of-self : goal.invariant_of-self
invariant_of-self g c =
    let self = c.args.self.now in
    let same : handed_in c.look-look.new.self.journal.handed.writes.items ≡ handed_in self.journal.journal.handed.writes.items = c.in-Stands.ensures.handed in
    record {
      whole = subst (λ (bs : List ℕ). ∥ EndsLine (bs ++ self.waiting.items) ∥₁) (sym same) self.whole;
      counted = subst (λ (bs : List ℕ). IsCounted (sum_by lines_in (earlier_in self.earlier.items)) bs self.written) (sym same) self.counted;
    }
