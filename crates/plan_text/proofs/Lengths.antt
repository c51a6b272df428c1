-- A row of another length than it should have stands for nothing.
use Rattle.std.proofs.Common.{◌≡◌, ◌<◌, List, [], ◌∷◌, length, false, None, refl, arith}
use Rattle.flag_text.specs.declared.tree.Tree.{Tree}
use Rattle.flag_text.specs.View.{items_view}
use Rattle.plan_text.specs.Misfit.{is_group_row, is_bucket}
use Rattle.plan_text.specs.PlanFile.{alpha_parts, beta_parts, entry_parts}

pub alpha_parts-short : (ts : List Tree) → length ts < 3 → alpha_parts (items_view ts) ≡ None
alpha_parts-short [] h = refl
alpha_parts-short (a ∷ []) h = refl
alpha_parts-short (a ∷ b ∷ []) h = refl
alpha_parts-short (a ∷ b ∷ d ∷ ts) h = absurd (omega arith)

pub alpha_parts-long : (ts : List Tree) → 3 < length ts → alpha_parts (items_view ts) ≡ None
alpha_parts-long [] h = refl
alpha_parts-long (a ∷ []) h = refl
alpha_parts-long (a ∷ b ∷ []) h = refl
alpha_parts-long (a ∷ b ∷ d ∷ []) h = absurd (omega arith)
alpha_parts-long (a ∷ b ∷ d ∷ e ∷ ts) h = refl

pub beta_parts-short : (ts : List Tree) → length ts < 2 → beta_parts (items_view ts) ≡ None
beta_parts-short [] h = refl
beta_parts-short (a ∷ []) h = refl
beta_parts-short (a ∷ b ∷ ts) h = absurd (omega arith)

pub beta_parts-long : (ts : List Tree) → 2 < length ts → beta_parts (items_view ts) ≡ None
beta_parts-long [] h = refl
beta_parts-long (a ∷ []) h = refl
beta_parts-long (a ∷ b ∷ []) h = absurd (omega arith)
beta_parts-long (a ∷ b ∷ d ∷ ts) h = refl

pub entry_parts-short : (ts : List Tree) → length ts < 2 → entry_parts (items_view ts) ≡ None
entry_parts-short [] h = refl
entry_parts-short (a ∷ []) h = refl
entry_parts-short (a ∷ b ∷ ts) h = absurd (omega arith)

pub entry_parts-long : (ts : List Tree) → 2 < length ts → entry_parts (items_view ts) ≡ None
entry_parts-long [] h = refl
entry_parts-long (a ∷ []) h = refl
entry_parts-long (a ∷ b ∷ []) h = absurd (omega arith)
entry_parts-long (a ∷ b ∷ d ∷ ts) h = refl

pub is_group_row-short : (ts : List Tree) → length ts < 3 → is_group_row (items_view ts) ≡ false
is_group_row-short [] h = refl
is_group_row-short (a ∷ []) h = refl
is_group_row-short (a ∷ b ∷ []) h = refl
is_group_row-short (a ∷ b ∷ d ∷ ts) h = absurd (omega arith)

pub is_group_row-long : (ts : List Tree) → 3 < length ts → is_group_row (items_view ts) ≡ false
is_group_row-long [] h = refl
is_group_row-long (a ∷ []) h = refl
is_group_row-long (a ∷ b ∷ []) h = refl
is_group_row-long (a ∷ b ∷ d ∷ []) h = absurd (omega arith)
is_group_row-long (a ∷ b ∷ d ∷ e ∷ ts) h = refl

pub is_bucket-long : (ts : List Tree) → 2 < length ts → is_bucket (items_view ts) ≡ false
is_bucket-long [] h = refl
is_bucket-long (a ∷ []) h = absurd (omega arith)
is_bucket-long (a ∷ b ∷ []) h = absurd (omega arith)
is_bucket-long (a ∷ b ∷ d ∷ ts) h = refl
