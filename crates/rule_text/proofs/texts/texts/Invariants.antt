use Rattle.std.proofs.Common.{◌≡◌, ℕ, ◌≤◌, length}
use Rattle.json.specs.Json.{items, value, parse_map}
use Rattle.rule_text.specs.Texts.{texts_then, texts_view}
use Rattle.rule_text.proofs.texts.texts.Given as goal

-- what is read is what was found and what the rest gives
abbrev pub invariant-texts : goal.invariant-texts
invariant-texts l =
    (n : ℕ) × (length l.reader ≤ n)
    × (items (value 126) (length l.initial.reader) l.initial.reader ≡ parse_map (texts_then (texts_view l.found.items)) (items (value 126) n l.reader))

abbrev pub decreases-texts : goal.decreases-texts
decreases-texts l = length l.reader
