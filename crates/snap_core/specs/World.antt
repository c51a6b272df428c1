-- A flag service as a machine: its states, and what each event answers and leaves.
use Rattle.std.specs.Prelude.{◌≡◌, ℕ, ◌+◌, ◌-◌, List, [], ◌∷◌, ◌++◌, length, count_by, slice_get, Bool, true, if◌then◌else◌, nat_lt, Option, Some, None, option_map, Result, Ok, Err}
use Rattle.flag_defs.specs.Document.{Definitions}
use Rattle.book_core.specs.Calls.{Call, is_new, reply_after}
use Rattle.book_core.specs.Page.{PageName}
use Rattle.book_core.specs.declared.noted.Noted.{Noted}
use Rattle.book_core.specs.declared.fault.BookFault.{BookFault}
use Rattle.book_core.specs.declared.fault.BookFault.TheVariants.{Stranger}
use Rattle.source_merge.specs.Merge.{merged_of}
use Rattle.source_merge.specs.Sources.{SourceList, Sets, cleared}
use Rattle.source_merge.specs.declared.fault.SourceFault.{SourceFault}
use Rattle.snap_core.specs.Event.{Happening, sets, clears, publishes, joins, takes, leaves, notes, seals, Reply, done, published, joined, taken, noted, sealed, refused}
use Rattle.snap_core.specs.Hub.{Numbered, Members, taken_by, with_member, with_taken, without, last_number, may_join}
use Rattle.snap_core.specs.declared.event.Refusal.{Refusal}
use Rattle.snap_core.specs.declared.event.Refusal.TheVariants.{Source, Hub, Book, AlreadySealed}
use Rattle.snap_core.specs.declared.fault.HubFault.TheVariants.{LastNumber, TooManySubs, NoSub}

-- a state: the sources, the published flags, item i from 1 being snapshot i, the subscribers with the number that each took
-- last, the next id, the accepted calls of the book, how many seats may note, and whether the book is sealed
pub record State : Type 0 where
  pub sources : SourceList
  pub published : List Definitions
  pub members : Members
  pub next : ℕ
  pub calls : List Call
  pub seats : ℕ
  pub is_sealed : Bool

-- an answer, with the state that the event leaves
abbrev pub Outcome : Type 0
Outcome = Reply × State

-- a refused event leaves the state
abbrev pub refuses : Refusal → State → Outcome
refuses refusal s = (refused refusal, s)

-- ---- sources

abbrev pub changed_sources : State → Result SourceList SourceFault → Outcome
changed_sources s (Ok sources) = (done, record s { sources = sources })
changed_sources s (Err fault) = refuses (Source fault) s

-- ---- publishing: the merge is appended to the published flags, and their number is answered

abbrev pub publishing : State → Result Definitions SourceFault → Outcome
publishing s (Err fault) = refuses (Source fault) s
publishing s (Ok flags) =
    if nat_lt (length s.published) last_number then (published (length s.published + 1), record s { published = s.published ++ flags ∷ [] }) else refuses (Hub LastNumber) s

-- ---- subscribers

abbrev pub joining : State → Outcome
joining s = if may_join s.next s.members then (joined s.next, record s { members = with_member s.next s.members; next = s.next + 1 }) else refuses (Hub TooManySubs) s

-- the last of the published flags, with its number
abbrev pub last_of : List Definitions → Option Numbered
last_of fs = option_map (λ flags. record { number = length fs; flags = flags }) (slice_get fs (length fs - 1))

-- the last snapshot, where its number is above the one that the subscriber took last
abbrev pub taking : State → ℕ → Option ℕ → Outcome
taking s id None = refuses (Hub NoSub) s
taking s id (Some last) =
    if nat_lt last (length s.published) then (taken (last_of s.published), record s { members = with_taken id (length s.published) s.members }) else (taken None, s)

abbrev pub leaving : State → ℕ → Option ℕ → Outcome
leaving s id None = refuses (Hub NoSub) s
leaving s id (Some last) = (done, record s { members = without id s.members })

-- ---- the book

-- an accepted call is kept
abbrev pub noting : State → ℕ → PageName → List ℕ → Result Noted BookFault → Outcome
noting s seat page input (Err fault) = refuses (Book fault) s
noting s seat page input (Ok reply) = (noted reply, record s { calls = s.calls ++ record { seat = seat; page = page; input = input; reply = Ok reply } ∷ [] })

abbrev pub noting_from : State → ℕ → PageName → List ℕ → Outcome
noting_from s seat page input = if nat_lt seat s.seats then noting s seat page input (reply_after s.calls page input) else refuses (Book Stranger) s

-- how many inputs were New
abbrev pub news : List Call → ℕ
news calls = count_by (λ (c : Call). is_new c.reply) calls

-- ---- one event, and a run

-- this event, in the old state, gives this answer and this new state
abbrev pub Step : State → Happening → Reply → State → Type 0
Step old (sets name bytes) answer new = (r : Result SourceList SourceFault) × Sets old.sources name bytes r × ((answer, new) ≡ changed_sources old r)
Step old (clears name) answer new = (answer, new) ≡ changed_sources old (cleared old.sources name)
Step old publishes answer new = (answer, new) ≡ publishing old (merged_of old.sources)
Step old joins answer new = (answer, new) ≡ joining old
Step old (takes id) answer new = (answer, new) ≡ taking old id (taken_by id old.members)
Step old (leaves id) answer new = (answer, new) ≡ leaving old id (taken_by id old.members)
Step old (notes seat page input) answer new = (answer, new) ≡ (if old.is_sealed then refuses AlreadySealed old else noting_from old seat page input)
Step old seals answer new = (answer, new) ≡ (if old.is_sealed then refuses AlreadySealed old else (sealed (news old.calls), record old { is_sealed = true }))

-- the events, one after the other, give these answers and the last state
abbrev pub Run : State → List Happening → List Reply → State → Type 0
Run s [] [] t = t ≡ s
Run s [] (a ∷ as') t = ⊥
Run s (e ∷ es) [] t = ⊥
Run s (e ∷ es) (a ∷ as') t = (m : State) × Step s e a m × Run m es as' t
