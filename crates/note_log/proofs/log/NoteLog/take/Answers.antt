use Rattle.std.proofs.Common.{rules, sum_by, sym, ◌∙◌}
use Rattle.std.proofs.Math.Logic.{∥∥₁_map, ∥∥₁_map₂}
use Rattle.log_file.specs.Line.{lines_in}
use Rattle.log_file.specs.Handed.{handed_in}
use Rattle.note_log.specs.Shown.{relied_in}
use Rattle.note_log.specs.Sound.{earlier_in}
use Rattle.note_log.proofs.Moved.{joined, unmoved}
use Rattle.note_log.proofs.Recorded.{batch_recorded, lines_stand, none_recorded, nothing, part_recorded, relied_more, whole_batch, whole_moved}
use Rattle.note_log.proofs.log.NoteLog.take.Goals as goal

pub invariant_of-self : goal.invariant_of-self
invariant_of-self g c =
    let self = c.args.self.now in
    record {
      whole = ∥∥₁_map self.whole (λ e. whole_moved self.form (earlier_in self.earlier.items) _ _ _ _ _ _ (relied_in self.relied.items) e c.hand_over.ensures.moves);
      counted = c.hand_over.ensures.written (sum_by lines_in (earlier_in self.earlier.items)) self.counted;
    }

pub returns-then-not-hand_over-clause-records : goal.returns-then-not-hand_over-clause-records
returns-then-not-hand_over-clause-records g c =
    let self = c.args.self.now in
    ∣ none_recorded self.form (earlier_in self.earlier.items) _ _ _ _ _ _ (relied_in self.relied.items) c.args.notes.now c.hand_over.ensures.moves ∣₁

pub invariant_of-self-then-not-hand_over-2 : goal.invariant_of-self-then-not-hand_over-2
invariant_of-self-then-not-hand_over-2 g c =
    let self = c.args.self.now in
    let none = nothing c.hand_over.new.waiting.items (sym c.hand_over.ensures.all ∙ search rules) in
    let moves = joined _ _ _ _ _ _ _ _ _ c.args.batch.bytes.items c.hand_over.ensures.moves none c.hand_over-2.ensures.moves in
    record {
      whole = ∥∥₁_map₂ self.whole c.requires (λ e b. whole_batch self.form (earlier_in self.earlier.items) _ _ _ _ _ _ (relied_in self.relied.items) c.args.notes.now c.args.batch e b moves);
      counted = c.hand_over-2.ensures.written _ (c.hand_over.ensures.written (sum_by lines_in (earlier_in self.earlier.items)) self.counted);
    }

pub returns-then-not-hand_over-2-clause-records : goal.returns-then-not-hand_over-2-clause-records
returns-then-not-hand_over-2-clause-records g c =
    let self = c.args.self.now in
    let none = nothing c.hand_over.new.waiting.items (sym c.hand_over.ensures.all ∙ search rules) in
    let moves = joined _ _ _ _ _ _ _ _ _ c.args.batch.bytes.items c.hand_over.ensures.moves none c.hand_over-2.ensures.moves in
    ∥∥₁_map₂ self.whole c.requires (λ e b. part_recorded self.form (earlier_in self.earlier.items) _ _ _ _ _ _ (relied_in self.relied.items) c.args.notes.now c.args.batch e b moves)

pub returns-then-is_lost-clause-records : goal.returns-then-is_lost-clause-records
returns-then-is_lost-clause-records g c =
    let self = c.args.self.now in
    ∣ none_recorded self.form (earlier_in self.earlier.items) _ _ _ _ _ _ (relied_in self.relied.items) c.args.notes.now (unmoved (g.F.LogFile.bytes self.journal.journal.file) (handed_in self.journal.journal.handed.writes.items) self.waiting.items) ∣₁

pub invariant_of-self-2 : goal.invariant_of-self-2
invariant_of-self-2 g c =
    let self = c.args.self.now in
    let none = nothing c.hand_over.new.waiting.items (sym c.hand_over.ensures.all ∙ search rules) in
    let moves = joined _ _ _ _ _ _ _ _ _ c.args.batch.bytes.items c.hand_over.ensures.moves none c.hand_over-2.ensures.moves in
    record {
      whole = ∥∥₁_map₂ self.whole c.requires (λ e b. whole_batch self.form (earlier_in self.earlier.items) _ _ _ _ _ _ (relied_in self.relied.items) c.args.notes.now c.args.batch e b moves);
      counted = c.hand_over-2.ensures.written _ (c.hand_over.ensures.written (sum_by lines_in (earlier_in self.earlier.items)) self.counted);
    }

pub remember-requires : goal.remember-requires
remember-requires g c =
    let self = c.args.self.now in
    let none = nothing c.hand_over.new.waiting.items (sym c.hand_over.ensures.all ∙ search rules) in
    let last = nothing c.hand_over-2.new.waiting.items (sym c.hand_over-2.ensures.all ∙ search rules) in
    let moves = joined _ _ _ _ _ _ _ _ _ c.args.batch.bytes.items c.hand_over.ensures.moves none c.hand_over-2.ensures.moves in
    ∥∥₁_map₂ self.whole c.requires (λ e b. lines_stand self.form (earlier_in self.earlier.items) _ _ _ _ _ _ (relied_in self.relied.items) c.args.notes.now c.args.batch e b moves last)

pub returns-clause-records : goal.returns-clause-records
returns-clause-records g c =
    let self = c.args.self.now in
    let none = nothing c.hand_over.new.waiting.items (sym c.hand_over.ensures.all ∙ search rules) in
    let last = nothing c.hand_over-2.new.waiting.items (sym c.hand_over-2.ensures.all ∙ search rules) in
    let moves = joined _ _ _ _ _ _ _ _ _ c.args.batch.bytes.items c.hand_over.ensures.moves none c.hand_over-2.ensures.moves in
    let relied = relied_more self.relied.items c.and-self.result.items c.args.batch.shown 0 c.and-self.ensures in
    ∥∥₁_map₂ self.whole c.requires (λ e b. batch_recorded self.form (earlier_in self.earlier.items) _ _ _ _ _ _ (relied_in self.relied.items) c.args.notes.now c.args.batch e b moves (relied_in c.and-self.result.items) relied last)
