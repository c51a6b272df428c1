use Rattle.std.proofs.Common.{ℕ, Vec, ap}
use Rattle.std.specs.declared.alloc.Global.{Global}
use Rattle.lru.specs.LruCache.{LruCache}
use Rattle.note_log.proofs.recalled.recall_line.Goals as goal

pub returns-clause-puts : goal.returns-clause-puts
returns-clause-puts c = (c.in_ok-key.key, c.in_ok-key.ensures.items, ap (λ (t : LruCache (Vec ℕ Global) ℕ). t.entries) c.in_ok-put.ensures.entries)
