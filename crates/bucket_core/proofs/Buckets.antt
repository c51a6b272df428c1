-- What is no bucket.
use Rattle.std.proofs.Common.{◌≡◌, ◌≤◌, List, [], ◌∷◌, length, None, refl, arith}
use Rattle.flag_text.specs.declared.tree.Tree.{Tree}
use Rattle.flag_text.specs.View.{items_view}
use Rattle.bucket_core.specs.Reading.{bucket_from}

pub bucket_from-long : (ts : List Tree) → 3 ≤ length ts → bucket_from (items_view ts) ≡ None
bucket_from-long [] h = absurd (omega arith)
bucket_from-long (a ∷ []) h = absurd (omega arith)
bucket_from-long (a ∷ b ∷ []) h = absurd (omega arith)
bucket_from-long (a ∷ b ∷ c ∷ ts) h = refl
