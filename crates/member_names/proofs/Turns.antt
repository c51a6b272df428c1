-- What was passed over, a turn at a time.
use Rattle.std.proofs.Common.{◌≡◌, ℕ, ◌-◌, ◌<◌, ◌≤◌, List, ◌∷◌, length, Bool, false, ◌||◌, Option, Some, None, refl, ap, ◌∙◌, arith}
use Rattle.std.specs.Prelude.{IfSome}
use Rattle.std.proofs.Math.Nat.{max-le}
use Rattle.json.specs.Token.{Token}
use Rattle.json.specs.Json.{parse_map, items, members, value}
use Rattle.json.proofs.Grammar.{value-begin_array, value-begin_object}
use Rattle.serde_json.specs.Read.{converted}
use Rattle.flag_text.specs.Grammar.{tree_from, items_from, members_from}
use Rattle.flag_text.specs.Shape.{Shape, list, object, Items, item, no_members, has_other, items_have_other}
use Rattle.flag_text.proofs.Turns.{converted-list, converted-object}
use Rattle.member_names.specs.NamedPassed.{IsPlain, AreItemsPlain, AreMembersPlain, Passes}

pub if_some : {A : Type 0} {P Q : Type 0} (o : Option A) → (P → Q) → IfSome o (λ _. P) → IfSome o (λ _. Q)
if_some None f h = tt
if_some (Some a) f h = f h

neither : (a b : Bool) → a ≡ false → b ≡ false → (a || b) ≡ false
neither a b p q = rw (p, q) refl

-- an item before others
pub item_passed : (most : ℕ) (d : Shape) (o : Option (Items × List Token)) (rest : List Token) → IsPlain most d → Passes o rest (AreItemsPlain most) → Passes (parse_map (item d) o) rest (AreItemsPlain most)
item_passed most d o rest plain more =
    (item d more.0, ap (parse_map (item d)) more.1, (max-le plain.0 more.2.0, neither (has_other d) (items_have_other more.0) plain.1 more.2.1))

-- a list, after its bracket
pub list_passed : (depth most : ℕ) (ts rest : List Token) → 0 < most → most ≤ depth → Passes (converted items_from (items (value (depth - 1)) (length ts) ts)) rest (AreItemsPlain (most - 1))
    → Passes (converted tree_from (value depth (Token.begin_array ∷ ts))) rest (IsPlain most)
list_passed depth most ts rest some within inner = (
  list inner.0,
  ap (converted tree_from) (value-begin_array depth ts (omega (arith, some, within))) ∙ converted-list (items (value (depth - 1)) (length ts) ts) ∙ ap (parse_map list) inner.1,
  (omega (arith, some, inner.2.0), inner.2.1),
)

-- an object, after its bracket
pub object_passed : (depth most : ℕ) (ts rest : List Token) → 0 < most → most ≤ depth → Passes (converted (λ ms. members_from ms no_members) (members (value (depth - 1)) (length ts) ts)) rest (AreMembersPlain (most - 1))
    → Passes (converted tree_from (value depth (Token.begin_object ∷ ts))) rest (IsPlain most)
object_passed depth most ts rest some within inner = (
  object inner.0,
  ap (converted tree_from) (value-begin_object depth ts (omega (arith, some, within))) ∙ converted-object (members (value (depth - 1)) (length ts) ts) ∙ ap (parse_map object) inner.1,
  (omega (arith, some, inner.2.0), inner.2.1),
)
