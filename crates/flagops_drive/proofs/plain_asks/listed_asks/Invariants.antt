use Rattle.std.proofs.Common.{◌≡◌, ℕ, ◌≤◌, length}
use Rattle.json.specs.Json.{items, value, parse_map}
use Rattle.serde_json.specs.Read.{converted}
use Rattle.flag_text.specs.Grammar.{items_from}
use Rattle.flagops_drive.proofs.PlainAsks.{asks_before}
use Rattle.flagops_drive.proofs.plain_asks.listed_asks.Given as goal

-- what is read is what was found and what the rest gives
abbrev pub invariant-asks : goal.invariant-asks
invariant-asks l =
    (n : ℕ) × (length l.reader ≤ n)
    × (converted items_from (items (value 126) (length l.initial.reader) l.initial.reader) ≡ parse_map (asks_before l.found.items) (converted items_from (items (value 126) n l.reader)))

abbrev pub decreases-asks : goal.decreases-asks
decreases-asks l = length l.reader
