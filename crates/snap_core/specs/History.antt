-- What a subscriber was given over a run: its history of the stream.
use Rattle.std.specs.Prelude.{◌≡◌, ◌↔◌, ℕ, ◌-◌, ◌<◌, List, [], ◌∷◌, ◌++◌, length, nat_eq, if◌then◌else◌, slice_get, is_some, true, Some, None}
use Rattle.flag_defs.specs.Document.{Definitions}
use Rattle.snap_core.specs.Event.{Happening, takes, Reply, taken}
use Rattle.snap_core.specs.Hub.{Numbered, taken_by}
use Rattle.snap_core.specs.Opening.{opening}
use Rattle.snap_core.specs.World.{State, Step, Run}

-- the snapshot that an answer holds
abbrev pub snapshot_in : Reply → List Numbered
snapshot_in (taken (Some snapshot)) = snapshot ∷ []
snapshot_in answer = []

-- the snapshot that an event gave to the subscriber
abbrev pub given : ℕ → Happening → Reply → List Numbered
given id (takes sub) answer = if nat_eq sub id then snapshot_in answer else []
given id event answer = []

-- the snapshots that a subscriber took, in order
abbrev pub taken_list : ℕ → List Happening → List Reply → List Numbered
taken_list id [] answers = []
taken_list id (e ∷ es) [] = []
taken_list id (e ∷ es) (a ∷ as') = given id e a ++ taken_list id es as'

-- the number of the last one, n where there is none
abbrev pub last_after : ℕ → List Numbered → ℕ
last_after n [] = n
last_after n (s ∷ ss) = last_after s.number ss

-- the numbers rise strictly from above n on, and each is that item of the published list, counted from 1
abbrev pub IsHistory : List Definitions → ℕ → List Numbered → Type 0
IsHistory published n [] = Unit {0}
IsHistory published n (s ∷ ss) = (n < s.number) × (slice_get published (s.number - 1) ≡ Some s.flags) × IsHistory published s.number ss

-- whatever the events, what a subscriber took is a history, and its last number is the one that is kept of it
abbrev pub GivesHistories : Type 0
GivesHistories =
    (names : List (List ℕ)) (seats : ℕ) (es : List Happening) (answers : List Reply) (s : State) → Run (opening names seats) es answers s
    → (id : ℕ) → IsHistory s.published 0 (taken_list id es answers) × ((n : ℕ) → taken_by id s.members ≡ Some n → n ≡ last_after 0 (taken_list id es answers))

-- a Take answers nothing exactly where the subscriber is there and has taken the last of what was published
abbrev pub GivesNothingTwice : Type 0
GivesNothingTwice =
    (names : List (List ℕ)) (seats : ℕ) (es : List Happening) (answers : List Reply) (s : State) → Run (opening names seats) es answers s
    → (id : ℕ) (answer : Reply) (t : State) → Step s (takes id) answer t
    → (answer ≡ taken None) ↔ ((is_some (taken_by id s.members) ≡ true) × (last_after 0 (taken_list id es answers) ≡ length s.published))
