use Rattle.std.proofs.Common.{◌≡◌, ℕ, ◌+◌, ◌*◌, ◌≤◌, ◌++◌, List, Bor, length, map}
use Rattle.json.specs.Json.{Items, Members, items, members, value, parse_map}
use Rattle.member_names.specs.Places.{items_place, members_place, told}
use Rattle.member_names.specs.Repeated.{member_names}
use Rattle.member_names.proofs.Grammar.{joined, joined_items}
use Rattle.member_names.proofs.Placing.{behind_items}
use Rattle.member_names.proofs.walk.+places.Given as goal

abbrev pub decreases-place_in : goal.decreases-place_in
decreases-place_in l = 3 * l.depth + 1

abbrev pub decreases-begin : goal.decreases-begin
decreases-begin l = 3 * l.depth

abbrev pub decreases-in_items : goal.decreases-in_items
decreases-in_items l = 3 * l.depth + 2

abbrev pub decreases-in_object : goal.decreases-in_object
decreases-in_object l = 3 * l.depth + 3

abbrev pub decreases-with_members : goal.decreases-with_members
decreases-with_members l = 3 * l.depth + 2

abbrev pub invariant-in_items-items : goal.invariant-in_items-items
invariant-in_items-items l =
    (n : ℕ) × (done : Items) × (length l.reader ≤ n)
    × (items (value l.depth) (length l.initial.reader) l.initial.reader ≡ parse_map (joined_items done) (items (value l.depth) n l.reader))
    × (length l.reader ≤ length l.initial.reader)
    × (told l.place ≡ items_place 0 done)
    × (l.item ≡ behind_items 0 done)
    × (l.names.items ≡ l.initial.names.items)

abbrev pub decreases-in_items-items : goal.decreases-in_items-items
decreases-in_items-items l = length l.reader

abbrev pub invariant-with_members-members : goal.invariant-with_members-members
invariant-with_members-members l =
    (n : ℕ) × (done : Members) × (added : List (Bor (List ℕ))) × (length l.reader ≤ n)
    × (members (value l.depth) (length l.initial.reader) l.initial.reader ≡ parse_map (joined done) (members (value l.depth) n l.reader))
    × (length l.reader ≤ length l.initial.reader)
    × (told l.place ≡ members_place done)
    × (l.names.items ≡ l.initial.names.items ++ added)
    × (map (λ m. m.now) added ≡ member_names done)

abbrev pub decreases-with_members-members : goal.decreases-with_members-members
decreases-with_members-members l = length l.reader
