use Rattle.std.proofs.Common.{◌≡◌, ℕ, ◌≤◌, length}
use Rattle.json.specs.Json.{items, value, parse_map}
use Rattle.serde_json.specs.Read.{converted, of_items}
use Rattle.flag_text.specs.Reading.{items_shape}
use Rattle.rule_text.specs.Buckets.{found_of}
use Rattle.rule_text.specs.Lent.{lent_view}
use Rattle.rule_text.proofs.Found.{after}
use Rattle.rule_text.proofs.buckets.read_list.Given as goal

-- what is left answers as the whole does
abbrev pub invariant-buckets : goal.invariant-buckets
invariant-buckets l =
    (n : ℕ) × (length l.reader ≤ n)
    × (parse_map (λ ds. found_of (items_shape ds)) (converted of_items (items (value 126) (length l.initial.reader) l.initial.reader)) ≡ parse_map (after l.is_rule (lent_view l.found.items) l.extent) (converted of_items (items (value 126) n l.reader)))

abbrev pub decreases-buckets : goal.decreases-buckets
decreases-buckets l = length l.reader
