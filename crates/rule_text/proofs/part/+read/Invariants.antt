use Rattle.std.proofs.Common.{◌≡◌, ℕ, ◌+◌, ◌*◌, ◌≤◌, length}
use Rattle.json.specs.Json.{items, members, value, parse_map}
use Rattle.serde_json.specs.Data.{Members, no_members}
use Rattle.serde_json.specs.Read.{converted, of_items, of_members}
use Rattle.flag_text.specs.Reading.{items_shape, members_shape}
use Rattle.rule_text.specs.Parts.{rest_of, extents_view, extents_of}
use Rattle.rule_text.proofs.Extents.{after}
use Rattle.rule_text.proofs.part.+read.Given as goal

abbrev pub decreases-read_part : goal.decreases-read_part
decreases-read_part l = 4 * l.depth + 1

abbrev pub decreases-read_name : goal.decreases-read_name
decreases-read_name l = 4 * l.depth + 1

abbrev pub decreases-read_weight : goal.decreases-read_weight
decreases-read_weight l = 4 * l.depth + 1

abbrev pub decreases-part_from : goal.decreases-part_from
decreases-part_from l = 4 * l.depth

abbrev pub decreases-list_part : goal.decreases-list_part
decreases-list_part l = 4 * l.depth + 3

abbrev pub decreases-read_rest : goal.decreases-read_rest
decreases-read_rest l = 4 * l.depth + 2

abbrev pub decreases-read_members : goal.decreases-read_members
decreases-read_members l = 4 * l.depth + 2

-- what is left answers as the whole does
abbrev pub invariant-read_rest-items : goal.invariant-read_rest-items
invariant-read_rest-items l =
    ((n : ℕ) → length l.initial.reader ≤ n → (m : ℕ) × (length l.reader ≤ m)
    × (parse_map (λ ds. rest_of l.depth (items_shape ds)) (converted of_items (items (value l.depth) n l.initial.reader)) ≡ parse_map (after l.depth l.begun l.weight l.extent) (converted of_items (items (value l.depth) m l.reader))))
    × (length l.reader ≤ length l.initial.reader)

abbrev pub decreases-read_rest-items : goal.decreases-read_rest-items
decreases-read_rest-items l = length l.reader

abbrev pub invariant-read_members-members : goal.invariant-read_members-members
invariant-read_members-members l =
    (n : ℕ) × (length l.reader ≤ n) × (ms : Members) × (extents_view l.found.entries ≡ extents_of l.depth (members_shape ms))
    × (converted (λ js. of_members js no_members) (members (value l.depth) (length l.initial.reader) l.initial.reader) ≡ converted (λ js. of_members js ms) (members (value l.depth) n l.reader))
    × (length l.reader ≤ length l.initial.reader)

abbrev pub decreases-read_members-members : goal.decreases-read_members-members
decreases-read_members-members l = length l.reader
