use Rattle.std.proofs.Common.{◌≡◌, ◌++◌, ◌∷◌, ℕ, Bool, [], sym, subst}
use Rattle.std.specs.Bool.{MatchBool}
use Rattle.std.proofs.Math.Logic.{∥∥₁_map₂}
use Rattle.log_file.specs.declared.handed.Handed.{Handed}
use Rattle.http_server.specs.declared.log.Log.{Log}
use Rattle.note_log.specs.Files.{History}
use Rattle.note_log.specs.Memory.{AllStand, AllStandAt}
use Rattle.note_log.proofs.Standing.{all_stand_more, lines_stand_last}
use Rattle.note_log.proofs.memory.NoteMemory.remember.Goals as goal

-- the lines stand in what is kept of their file, and the others where they stood
pub invariant_of-self : goal.invariant_of-self
invariant_of-self c =
    let self = c.args.self.now in
    let old = self.files.history.items in
    let number = c.args.file.number in
    let more : History = old ++ (c.args.handed.now, number) ∷ [] in
    let kept : c.keep.new.self.history.items ≡ more =
    subst (λ (b : Bool). MatchBool b (c.keep.new.self.history.items ≡ more) (c.keep.new.self.history ≡ self.files.history)) c.if-keep.true c.keep.ensures.history in
    record {
      sound = subst (λ (h : History). ∥ AllStand h c.put_lines.new.table.entries ∥₁) (sym kept) (∥∥₁_map₂ self.sound c.requires (λ s all.
          c.put_lines.ensures.stand more (all_stand_more old (c.args.handed.now, number) self.table.entries s)
          (subst (λ (n : ℕ). AllStandAt more n c.args.lines.items) (sym c.number.ensures) (lines_stand_last old c.args.handed.now number c.args.lines.items all))));
    }

pub invariant_of-self-else-keep : goal.invariant_of-self-else-keep
invariant_of-self-else-keep c =
    let self = c.args.self.now in
    let same : c.keep.new.self.history ≡ self.files.history =
    subst (λ (b : Bool). MatchBool b (c.keep.new.self.history.items ≡ self.files.history.items ++ (c.args.handed.now, c.args.file.number) ∷ []) (c.keep.new.self.history ≡ self.files.history)) c.if-keep.false c.keep.ensures.history in
    record { sound = subst (λ (h : Log Handed ℕ). ∥ AllStand h.items self.table.entries ∥₁) (sym same) self.sound }
