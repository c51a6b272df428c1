use Rattle.std.proofs.Common.{◌≡◌, ℕ, ◌≤◌, ◌++◌, List, Bor, codes, length, map, is_some}
use Rattle.json.specs.Find.{get_member}
use Rattle.json.specs.Json.{Members, members, value, parse_map}
use Rattle.member_names.specs.Repeated.{member_names}
use Rattle.member_names.proofs.Grammar.{joined}
use Rattle.flag_doubts.specs.AllRead.{are_flags_read}
use Rattle.flag_doubts.specs.FoundFlags.{FindsIn}
use Rattle.flag_doubts.specs.Repeated.{repeats_beside}
use Rattle.flag_doubts.proofs.repeated.in_members.Given as goal

abbrev pub invariant-members : goal.invariant-members
invariant-members l =
    (n : ℕ) × (done : Members) × (added : List (Bor (List ℕ))) × (length l.reader ≤ n)
    × (members (value l.depth) (length l.initial.reader) l.initial.reader ≡ parse_map (joined done) (members (value l.depth) n l.reader))
    × (length l.reader ≤ length l.initial.reader)
    × FindsIn (get_member (codes "flags") done) l.flags
    × (is_some l.place ≡ repeats_beside done)
    × (l.all_read ≡ are_flags_read done)
    × (l.names.items ≡ l.initial.names.items ++ added)
    × (map (λ m. m.now) added ≡ member_names done)

abbrev pub decreases-members : goal.decreases-members
decreases-members l = length l.reader
