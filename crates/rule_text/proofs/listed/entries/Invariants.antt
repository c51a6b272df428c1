use Rattle.std.proofs.Common.{◌≡◌, ℕ, ◌≤◌, length}
use Rattle.json.specs.Json.{items, value, parse_map}
use Rattle.serde_json.specs.Read.{converted}
use Rattle.rule_text.specs.Lent.{lent_view}
use Rattle.rule_text.specs.Listed.{buckets_in}
use Rattle.rule_text.proofs.Turns.{before}
use Rattle.rule_text.proofs.listed.entries.Given as goal

-- what is read is what was found and what the rest gives
abbrev pub invariant-entries : goal.invariant-entries
invariant-entries l =
    (n : ℕ) × (length l.reader ≤ n)
    × (converted buckets_in (items (value 126) (length l.initial.reader) l.initial.reader) ≡ parse_map (before (lent_view l.found.items)) (converted buckets_in (items (value 126) n l.reader)))

abbrev pub decreases-entries : goal.decreases-entries
decreases-entries l = length l.reader
