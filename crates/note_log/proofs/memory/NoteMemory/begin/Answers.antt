use Rattle.std.proofs.Common.{ℕ, subst, sym}
use Rattle.log_file.specs.declared.handed.Handed.{Handed}
use Rattle.http_server.specs.declared.log.Log.{Log}
use Rattle.note_log.specs.Memory.{AllStand}
use Rattle.note_log.proofs.memory.NoteMemory.begin.Goals as goal

pub invariant_of-self : goal.invariant_of-self
invariant_of-self c =
    let self = c.args.self.now in
    record { sound = subst (λ (h : Log Handed ℕ). ∥ AllStand h.items self.table.entries ∥₁) (sym c.replace.ensures.history) self.sound }

pub invariant_of-self-in-None : goal.invariant_of-self-in-None
invariant_of-self-in-None c =
    let self = c.args.self.now in
    record { sound = subst (λ (h : Log Handed ℕ). ∥ AllStand h.items self.table.entries ∥₁) (sym c.add.ensures.history) self.sound }
