-- A list of another length than four has no page and last part.
use Rattle.std.proofs.Common.{◌≡◌, ◌<◌, List, [], ◌∷◌, length, None, refl, arith}
use Rattle.flag_text.specs.declared.tree.Tree.{Tree}
use Rattle.flag_text.specs.View.{items_view}
use Rattle.note_lines.specs.Reading.{parts_of}

pub parts_of-short : (ts : List Tree) → length ts < 4 → parts_of (items_view ts) ≡ None
parts_of-short [] h = refl
parts_of-short (a ∷ []) h = refl
parts_of-short (a ∷ b ∷ []) h = refl
parts_of-short (a ∷ b ∷ d ∷ []) h = refl
parts_of-short (a ∷ b ∷ d ∷ e ∷ ts) h = absurd (omega arith)

pub parts_of-long : (ts : List Tree) → 4 < length ts → parts_of (items_view ts) ≡ None
parts_of-long [] h = refl
parts_of-long (a ∷ []) h = refl
parts_of-long (a ∷ b ∷ []) h = refl
parts_of-long (a ∷ b ∷ d ∷ []) h = refl
parts_of-long (a ∷ b ∷ d ∷ e ∷ []) h = absurd (omega arith)
parts_of-long (a ∷ b ∷ d ∷ e ∷ f ∷ ts) h = refl
