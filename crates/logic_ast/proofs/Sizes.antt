-- Lists and objects by how many parts they have.
use Rattle.std.proofs.Common.{◌≡◌, ℕ, suc, ◌<◌, ◌≤◌, List, [], ◌∷◌, length, String, Global, true, false, None, refl, ap, arith}
use Rattle.bucket_core.specs.Reading.{bucket_from as entry_of}
use Rattle.flag_text.specs.View.{items_view, members_view}
use Rattle.flag_text.specs.declared.tree.Tree.{Tree}
use Rattle.flag_text.specs.Shape.{list, object}
use Rattle.logic_ast.specs.Expression.{literal}
use Rattle.logic_ast.specs.FirstFault.{item_count, is_bucket, object_fault}
use Rattle.logic_ast.specs.Reading.{object_from}
use Rattle.logic_ast.specs.Size.{around, members_size, object_size, expressions_size, bucket_parts_size}

pub object_size-several : (ms : List (String Global × Tree)) → 2 ≤ length ms → object_size (members_view ms) ≡ around (members_size (members_view ms))
object_size-several [] h = absurd (omega arith)
object_size-several (m ∷ []) h = absurd (omega arith)
object_size-several (m ∷ n ∷ ms) h = refl

pub bucket_parts_size-several : (ts : List Tree) → 2 ≤ length ts → bucket_parts_size (items_view ts) ≡ expressions_size (items_view ts)
bucket_parts_size-several [] h = absurd (omega arith)
bucket_parts_size-several (a ∷ []) h = absurd (omega arith)
bucket_parts_size-several (a ∷ b ∷ ts) h = refl

pub entry_of-several : (ts : List Tree) → 3 ≤ length ts → entry_of (items_view ts) ≡ None
entry_of-several [] h = absurd (omega arith)
entry_of-several (a ∷ []) h = absurd (omega arith)
entry_of-several (a ∷ b ∷ []) h = absurd (omega arith)
entry_of-several (a ∷ b ∷ d ∷ ts) h = refl

pub object_fault-several : (ms : List (String Global × Tree)) → 2 ≤ length ms → object_fault (members_view ms) ≡ None
object_fault-several [] h = absurd (omega arith)
object_fault-several (m ∷ []) h = absurd (omega arith)
object_fault-several (m ∷ n ∷ ms) h = refl

pub is_bucket-several : (ts : List Tree) → 3 ≤ length ts → is_bucket (list (items_view ts)) ≡ false
is_bucket-several [] h = absurd (omega arith)
is_bucket-several (a ∷ []) h = absurd (omega arith)
is_bucket-several (a ∷ b ∷ []) h = absurd (omega arith)
is_bucket-several (a ∷ b ∷ d ∷ ts) h = refl

pub item_count-items_view : (ts : List Tree) → item_count (items_view ts) ≡ length ts
item_count-items_view [] = refl
item_count-items_view (t ∷ ts) = ap suc (item_count-items_view ts)

pub object_from-several : (k : ℕ) (ms : List (String Global × Tree)) → 2 ≤ length ms → object_from k (members_view ms) ≡ literal (object (members_view ms))
object_from-several k [] h = absurd (omega arith)
object_from-several k (m ∷ []) h = absurd (omega arith)
object_from-several k (m ∷ n ∷ ms) h = refl

pub is_bucket-few : (ts : List Tree) → 1 ≤ length ts → length ts < 3 → is_bucket (list (items_view ts)) ≡ true
is_bucket-few [] h g = absurd (omega arith)
is_bucket-few (a ∷ []) h g = refl
is_bucket-few (a ∷ b ∷ []) h g = refl
is_bucket-few (a ∷ b ∷ d ∷ ts) h g = absurd (omega arith)
