use Rattle.std.proofs.Common.{◌≡◌, ℕ, ◌≤◌, ◌++◌, List, Bor, length, map, is_some}
use Rattle.std.specs.BTreeMap.{get_by_text}
use Rattle.json.specs.Json.{Members, members, value, parse_map}
use Rattle.member_names.specs.Repeated.{member_names}
use Rattle.member_names.proofs.Grammar.{joined}
use Rattle.flag_doubts.specs.AllRead.{are_definitions_read}
use Rattle.flag_doubts.specs.Repeated.{repeats_under}
use Rattle.flag_doubts.proofs.flags.in_definitions.Given as goal

abbrev pub invariant-members : goal.invariant-members
invariant-members l =
    (n : ℕ) × (done : Members) × (added : List (Bor (List ℕ))) × (length l.reader ≤ n)
    × (members (value l.depth) (length l.initial.reader) l.initial.reader ≡ parse_map (joined done) (members (value l.depth) n l.reader))
    × (length l.reader ≤ length l.initial.reader)
    × ((key : List ℕ) → is_some (get_by_text l.definitions key) ≡ repeats_under key done)
    × (l.all_read ≡ are_definitions_read done)
    × (l.names.items ≡ l.initial.names.items ++ added)
    × (map (λ m. m.now) added ≡ member_names done)

abbrev pub decreases-members : goal.decreases-members
decreases-members l = length l.reader
