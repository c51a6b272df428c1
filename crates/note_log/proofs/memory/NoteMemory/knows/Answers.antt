use Rattle.std.proofs.Common.{◌∙◌, ℕ, Vec, sym, subst}
use Rattle.std.specs.declared.alloc.Global.{Global}
use Rattle.std.proofs.Math.Logic.{∥∥₁_map}
use Rattle.lru.specs.LruCache.{LruCache}
use Rattle.note_log.specs.Memory.{AllStand, is_line}
use Rattle.note_log.proofs.Standing.{known_stands, stand_promoted}
use Rattle.note_log.proofs.memory.NoteMemory.knows.Goals as goal

-- one that was used again stands where it stood
pub invariant_of-self : goal.invariant_of-self
invariant_of-self c =
    let self = c.args.self.now in
    let history = self.files.history.items in
    record {
      sound = subst (λ (t : LruCache (Vec ℕ Global) ℕ). ∥ AllStand history t.entries ∥₁) (sym c.promote.ensures.entries)
          (∥∥₁_map self.sound (stand_promoted history (is_line c.args.line.now) self.table.entries));
    }

pub returns-then-is_known-clause-stands : goal.returns-then-is_known-clause-stands
returns-then-is_known-clause-stands c t =
    let self = c.args.self.now in
    ∥∥₁_map self.sound (λ s. known_stands self.files.numbers.items self.files.history.items self.table.entries c.args.line.now s (sym c.has-is_known.ensures.known ∙ t))
