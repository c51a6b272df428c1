use Rattle.std.proofs.Common.{◌≡◌, ℕ, ◌+◌, ◌*◌, List, None, Some, length}
use Rattle.json.specs.Json.{Items, Members, items, members, value}
use Rattle.json.specs.Token.{Token as Kind}
use Rattle.text_spans.specs.Place.{GoOn, Stand}
use Rattle.text_spans.specs.Path.{item_place, member_place}
use Rattle.text_spans.specs.View.{ends_view, path_of}
use Rattle.text_spans.proofs.Located.{ItemsLeft, MembersLeft}
use Rattle.text_spans.proofs.places.+places.Given as goal

abbrev pub decreases-value_place : goal.decreases-value_place
decreases-value_place l = 4 * length l.path.now

abbrev pub decreases-part_place : goal.decreases-part_place
decreases-part_place l = 4 * length l.path.now + 2

abbrev pub decreases-items_place : goal.decreases-items_place
decreases-items_place l = 4 * length l.path.now + 1

abbrev pub decreases-members_place : goal.decreases-members_place
decreases-members_place l = 4 * length l.path.now + 1

abbrev pub invariant-items_place-items : goal.invariant-items_place-items
invariant-items_place-items l = record {
  left : (d n : ℕ) (js : Items) (r : List Kind) → items (value d) n l.initial.cursor.reader ≡ Some (js, r)
      → ItemsLeft d r l.left (path_of l.path) (item_place l.index (path_of l.path) js l.initial.cursor.rest.now) l.cursor.reader l.cursor.rest.now;
  stands : Stand l.cursor.reader l.cursor.rest.now;
  passed : GoOn l.initial.cursor.reader l.initial.cursor.rest.now l.cursor.reader l.cursor.rest.now;
}

abbrev pub decreases-items_place-items : goal.decreases-items_place-items
decreases-items_place-items l = l.left

abbrev pub invariant-members_place-members : goal.invariant-members_place-members
invariant-members_place-members l = record {
  left : (d n : ℕ) (ms : Members) (r : List Kind) → members (value d) n l.initial.cursor.reader ≡ Some (ms, r)
      → MembersLeft d r l.name (path_of l.path) (member_place l.name (path_of l.path) ms None l.initial.cursor.rest.now) (ends_view l.found) l.cursor.reader l.cursor.rest.now;
  stands : Stand l.cursor.reader l.cursor.rest.now;
  passed : GoOn l.initial.cursor.reader l.initial.cursor.rest.now l.cursor.reader l.cursor.rest.now;
}

abbrev pub decreases-members_place-members : goal.decreases-members_place-members
decreases-members_place-members l = length l.cursor.reader
