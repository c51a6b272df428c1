-- A list of another length than it should have stands for nothing.
use Rattle.std.proofs.Common.{◌≡◌, ◌<◌, List, [], ◌∷◌, length, None, refl, arith}
use Rattle.flag_text.specs.declared.tree.Tree.{Tree}
use Rattle.flag_text.specs.View.{items_view}
use Rattle.price_core.specs.Misfit.{change_parts}
use Rattle.price_core.specs.Request.{range_of, price_parts, bar_parts}

pub range_of-short : (ts : List Tree) → length ts < 2 → range_of (items_view ts) ≡ None
range_of-short [] h = refl
range_of-short (a ∷ []) h = refl
range_of-short (a ∷ b ∷ ts) h = absurd (omega arith)

pub range_of-long : (ts : List Tree) → 2 < length ts → range_of (items_view ts) ≡ None
range_of-long [] h = refl
range_of-long (a ∷ []) h = refl
range_of-long (a ∷ b ∷ []) h = absurd (omega arith)
range_of-long (a ∷ b ∷ d ∷ ts) h = refl

pub bar_parts-short : (ts : List Tree) → length ts < 2 → bar_parts (items_view ts) ≡ None
bar_parts-short [] h = refl
bar_parts-short (a ∷ []) h = refl
bar_parts-short (a ∷ b ∷ ts) h = absurd (omega arith)

pub bar_parts-long : (ts : List Tree) → 2 < length ts → bar_parts (items_view ts) ≡ None
bar_parts-long [] h = refl
bar_parts-long (a ∷ []) h = refl
bar_parts-long (a ∷ b ∷ []) h = absurd (omega arith)
bar_parts-long (a ∷ b ∷ d ∷ ts) h = refl

pub price_parts-short : (ts : List Tree) → length ts < 3 → price_parts (items_view ts) ≡ None
price_parts-short [] h = refl
price_parts-short (a ∷ []) h = refl
price_parts-short (a ∷ b ∷ []) h = refl
price_parts-short (a ∷ b ∷ d ∷ ts) h = absurd (omega arith)

pub price_parts-long : (ts : List Tree) → 3 < length ts → price_parts (items_view ts) ≡ None
price_parts-long [] h = refl
price_parts-long (a ∷ []) h = refl
price_parts-long (a ∷ b ∷ []) h = refl
price_parts-long (a ∷ b ∷ d ∷ []) h = absurd (omega arith)
price_parts-long (a ∷ b ∷ d ∷ e ∷ ts) h = refl

pub change_parts-short : (ts : List Tree) → length ts < 2 → change_parts (items_view ts) ≡ None
change_parts-short [] h = refl
change_parts-short (a ∷ []) h = refl
change_parts-short (a ∷ b ∷ ts) h = absurd (omega arith)
