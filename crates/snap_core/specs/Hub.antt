-- The current snapshot and its subscribers, and what becomes of them.
use Rattle.std.specs.Prelude.{ℕ, ◌+◌, ◌-◌, ◌^◌, List, [], length, Bool, ◌&&◌, if◌then◌else◌, nat_lt, Option, Some, None, Result, Ok, Err}
use Rattle.std.specs.BTreeMap.{is_at, insert_entry}
use Rattle.std.specs.Map.{lookup, set_value, remove_entry}
use Rattle.std.specs.Ordering.{nat_cmp}
use Rattle.flag_defs.specs.Document.{Definitions}
use Rattle.snap_core.specs.declared.fault.HubFault.{HubFault}
use Rattle.snap_core.specs.declared.fault.HubFault.TheVariants.{LastNumber, TooManySubs, NoSub}

-- a snapshot: its place among the published ones, from 1, and its flags
pub record Numbered : Type 0 where
  pub number : ℕ
  pub flags : Definitions

-- the subscribers by their ids, each with the number that it took last, 0 at first
abbrev pub Members : Type 0
Members = List (ℕ × ℕ)

-- the number that a subscriber took last; None where the id is no subscriber's
abbrev pub taken_by : ℕ → Members → Option ℕ
taken_by id members = lookup (is_at (nat_cmp id)) members

-- one more subscriber
abbrev pub with_member : ℕ → Members → Members
with_member id members = insert_entry nat_cmp members id 0

-- a subscriber that has now taken this number
abbrev pub with_taken : ℕ → ℕ → Members → Members
with_taken id number members = set_value (is_at (nat_cmp id)) members number

-- without a subscriber
abbrev pub without : ℕ → Members → Members
without id members = remove_entry (is_at (nat_cmp id)) members

-- the greatest number of a snapshot
abbrev pub last_number : ℕ
last_number = 2 ^ 64 - 1

-- how many ids there are: from 0 to 2^64-1
abbrev pub ids : ℕ
ids = 2 ^ 64

-- the most subscribers at a time
abbrev pub most_members : ℕ
most_members = 256

-- there is room for one more subscriber, and an id that was never given
abbrev pub may_join : ℕ → Members → Bool
may_join next members = nat_lt (length members) most_members && nat_lt next ids

-- ---- a hub

pub record HubState : Type 0 where
  pub current : Option Numbered
  pub members : Members
  pub next : ℕ

abbrev pub opening_hub : HubState
opening_hub = record { current = None; members = []; next = 0 }

-- the number of the current snapshot, 0 where there is none
abbrev pub number_in : Option Numbered → ℕ
number_in None = 0
number_in (Some snapshot) = snapshot.number

abbrev pub hub_published : HubState → Definitions → Result HubState HubFault
hub_published hub flags =
    if nat_lt (number_in hub.current) last_number then Ok (record hub { current = Some (record { number = number_in hub.current + 1; flags = flags }) }) else Err LastNumber

abbrev pub hub_joined : HubState → Result HubState HubFault
hub_joined hub = if may_join hub.next hub.members then Ok (record hub { members = with_member hub.next hub.members; next = hub.next + 1 }) else Err TooManySubs

-- the current snapshot, where its number is above the one taken last
abbrev pub newer_than : ℕ → Option Numbered → Option Numbered
newer_than last current = if nat_lt last (number_in current) then current else None

abbrev pub taken_since : Option ℕ → Option Numbered → Result (Option Numbered) HubFault
taken_since None current = Err NoSub
taken_since (Some last) current = Ok (newer_than last current)

-- what a subscriber takes
abbrev pub hub_taken : HubState → ℕ → Result (Option Numbered) HubFault
hub_taken hub id = taken_since (taken_by id hub.members) hub.current

-- what is left of the subscribers once one has taken this
abbrev pub members_after : ℕ → Option Numbered → Members → Members
members_after id None members = members
members_after id (Some snapshot) members = with_taken id snapshot.number members

abbrev pub hub_left_by : Option ℕ → HubState → ℕ → Result HubState HubFault
hub_left_by None hub id = Err NoSub
hub_left_by (Some last) hub id = Ok (record hub { members = without id hub.members })

abbrev pub hub_left : HubState → ℕ → Result HubState HubFault
hub_left hub id = hub_left_by (taken_by id hub.members) hub id
