use Rattle.std.proofs.Common.{◌≡◌, ℕ, ◌≤◌, length, map}
use Rattle.json.specs.Json.{members, value}
use Rattle.serde_json.specs.Read.{converted}
use Rattle.flag_text.specs.Grammar.{members_from}
use Rattle.flag_text.specs.Shape.{Members, no_members}
use Rattle.flag_text.specs.View.{members_view}
use Rattle.member_names.specs.Kept.{AgreeOn}
use Rattle.member_names.specs.NamedPassed.{AreMembersPlain}
use Rattle.member_names.proofs.reading.kept_members.Given as goal

abbrev pub invariant-members : goal.invariant-members
invariant-members l =
    (n : ℕ) × (all : Members) × (length l.reader ≤ n)
    × (converted (λ ms. members_from ms no_members) (members (value 126) (length l.initial.reader) l.initial.reader) ≡ converted (λ ms. members_from ms all) (members (value 126) n l.reader))
    × AreMembersPlain 119 all
    × AgreeOn (map (λ m. m.now) l.names) (members_view l.kept.entries) all

abbrev pub decreases-members : goal.decreases-members
decreases-members l = length l.reader
