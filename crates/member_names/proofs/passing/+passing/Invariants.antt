use Rattle.std.proofs.Common.{◌≡◌, ℕ, ◌+◌, ◌*◌, ◌≤◌, List, length}
use Rattle.json.specs.Json.{items, members, value}
use Rattle.json.specs.Token.{Token}
use Rattle.serde_json.specs.Read.{converted}
use Rattle.flag_text.specs.Grammar.{items_from, members_from}
use Rattle.flag_text.specs.Shape.{Members, no_members}
use Rattle.member_names.specs.NamedPassed.{AreItemsPlain, AreMembersPlain, Passes}
use Rattle.member_names.proofs.passing.+passing.Given as goal

abbrev pub decreases-pass_items : goal.decreases-pass_items
decreases-pass_items l = 2 * l.depth + 1

abbrev pub decreases-pass_members : goal.decreases-pass_members
decreases-pass_members l = 2 * l.depth + 1

abbrev pub decreases-pass_value : goal.decreases-pass_value
decreases-pass_value l = 2 * l.depth

abbrev pub invariant-pass_items-items : goal.invariant-pass_items-items
invariant-pass_items-items l =
    (n : ℕ) × (length l.reader ≤ n)
    × ((rest : List Token) → Passes (converted items_from (items (value l.depth) n l.reader)) rest (AreItemsPlain l.most)
    → Passes (converted items_from (items (value l.depth) (length l.initial.reader) l.initial.reader)) rest (AreItemsPlain l.most))
    × (length l.reader ≤ length l.initial.reader)

abbrev pub decreases-pass_items-items : goal.decreases-pass_items-items
decreases-pass_items-items l = length l.reader

abbrev pub invariant-pass_members-members : goal.invariant-pass_members-members
invariant-pass_members-members l =
    (n : ℕ) × (all : Members) × (length l.reader ≤ n)
    × (converted (λ ms. members_from ms no_members) (members (value l.depth) (length l.initial.reader) l.initial.reader) ≡ converted (λ ms. members_from ms all) (members (value l.depth) n l.reader))
    × AreMembersPlain l.most all
    × (length l.reader ≤ length l.initial.reader)

abbrev pub decreases-pass_members-members : goal.decreases-pass_members-members
decreases-pass_members-members l = length l.reader
