-- What a person is told beside the output, on an outlet of its own.
use Rattle.std.specs.Prelude.{◌≡◌, ◌⊎◌, ◌<◌, ◌+◌, ◌-◌, ℕ, zero, suc, Bool, true, false, List, [], ◌∷◌, ◌++◌, codes, decimal, length, Option, Some, None}
use Rattle.std.specs.Io.KnownBytes.{Appends}
use Rattle.file_diagnostics.specs.Named.{Names}
use Rattle.flag_text.specs.Outlet.{AppendsPart}
use Rattle.sync_server.specs.declared.end.StreamEnd.{StreamEnd}
use Rattle.sync_server.specs.declared.end.StreamEnd.TheVariants.{Closed, Limit, WriteFault, ReadSeatFault, WantOfMemory}
use Rattle.flagops_streams.specs.Documents.{missed_of}
use Rattle.flagops_streams.specs.Why.{IsPathAt, IsWhy, memory_line, why_lines}
use Rattle.flagops_streams.specs.declared.disconnected.Disconnected.{Disconnected}
use Rattle.flagops_streams.specs.declared.refusal.Refusal.{Refusal}

-- the text was told, or a front of it where the outlet has failed
abbrev pub Says : Option (List ℕ) → Option (List ℕ) → Bool → List ℕ → Type 0
Says old new false text = Appends old new text
Says old new true text = AppendsPart old new text

-- a text was told once, or nothing where there is no memory for it
abbrev pub MayTell : List ℕ → Option (List ℕ) → Option (List ℕ) → Bool → Type 0
MayTell text old new is_mute = (new ≡ old) ⊎ Says old new is_mute text

-- the same of a text for each number from 1 on, in their order
abbrev pub MayTellEach : (ℕ → List ℕ) → ℕ → Option (List ℕ) → Option (List ℕ) → Bool → Type 0
MayTellEach text zero old new is_mute = new ≡ old
MayTellEach text (suc n) old new is_mute = (between : Option (List ℕ)) × MayTellEach text n old between is_mute × MayTell (text (suc n)) between new is_mute

-- a text that is not empty was told
abbrev pub TellsText : Option (List ℕ) → Option (List ℕ) → Bool → Type 0
TellsText old new is_mute = (text : List ℕ) × (0 < length text) × Says old new is_mute text

-- such lines were told, or the sentence where there is no memory for them
abbrev pub TellsOrShort : (List ℕ → Type 0) → Option (List ℕ) → Option (List ℕ) → Bool → Type 0
TellsOrShort Is old new is_mute = (text : List ℕ) × (Is text ⊎ (text ≡ memory_line)) × Says old new is_mute text

-- why there was a refusal was told
abbrev pub TellsReason : Refusal → Option (List ℕ) → Option (List ℕ) → Bool → Type 0
TellsReason refusal = TellsOrShort (λ text. text ≡ why_lines refusal)

-- the same of documents at these paths
abbrev pub TellsReasonAt : List (List ℕ) → Refusal → Option (List ℕ) → Option (List ℕ) → Bool → Type 0
TellsReasonAt paths refusal = TellsOrShort (IsWhy paths refusal)

-- this was told, and behind it why there was a refusal
abbrev pub TellsWhy : List (List ℕ) → (Option (List ℕ) → Option (List ℕ) → Bool → Type 0) → Refusal → Option (List ℕ) → Option (List ℕ) → Bool → Type 0
TellsWhy paths Tells refusal old new is_mute = (between : Option (List ℕ)) × Tells old between is_mute × TellsReasonAt paths refusal between new is_mute

-- lines about a file were told, by its path
abbrev pub TellsOfFile : List ℕ → Option (List ℕ) → Option (List ℕ) → Bool → Type 0
TellsOfFile path = TellsOrShort (Names path)

-- ---- the line of `follow`

-- nothing came for so many seconds
unfoldable pub late_line : ℕ → List ℕ
late_line wait = codes "error: nothing came for " ++ (decimal wait ++ codes " seconds; --wait gives more, and 0 waits for ever\n")

-- nothing is told beside a stream; or, with status 1, that nothing came
abbrev pub TellsLate : ℕ → ℕ → Option (List ℕ) → Option (List ℕ) → Bool → Type 0
TellsLate wait status old new is_mute = (new ≡ old) ⊎ ((status ≡ 1) × Says old new is_mute (late_line wait))

-- nobody listens on a port
unfoldable pub nobody_line : ℕ → List ℕ
nobody_line port = codes "error: nobody listens on 127.0.0.1:" ++ (decimal port ++ (codes "; 'flagops serve " ++ (decimal port ++ codes " ..' does\n")))

-- that nobody listens is told
abbrev pub TellsNobody : ℕ → Option (List ℕ) → Option (List ℕ) → Bool → Type 0
TellsNobody port = TellsOrShort (λ text. text ≡ nobody_line port)

-- ---- the lines of `serve`

-- the document at a place, from 1, will be refused, and why
unfoldable pub forewarning : ℕ → List ℕ → List ℕ
forewarning place why = codes "serve: document " ++ (decimal place ++ (codes " will be refused\n" ++ why))

-- so many subscribers may come on a port
unfoldable pub listening_line : ℕ → ℕ → List ℕ
listening_line port subscribers =
    codes "serve: listens on 127.0.0.1:" ++ (decimal port ++ (codes ", waits for " ++ (decimal subscribers ++ codes " subscribers\n")))

-- one of them has come
unfoldable pub came_line : ℕ → ℕ → List ℕ
came_line number subscribers = codes "serve: subscriber " ++ (decimal number ++ (codes " of " ++ (decimal subscribers ++ codes " has come\n")))

-- why a subscriber's stream ended
abbrev pub reason_of : StreamEnd → List ℕ
reason_of Closed = codes "it was sent the last one"
reason_of Limit = codes "it was sent 1000, the most that one subscriber is sent"
reason_of WriteFault = codes "it takes no more bytes"
reason_of ReadSeatFault = codes "the current snapshot can't be read"
reason_of WantOfMemory = codes "memory ran out"

-- one has gone, after so many snapshots
unfoldable pub gone_line : ℕ → ℕ → StreamEnd → List ℕ
gone_line number snapshots end =
    codes "serve: subscriber " ++ (decimal number ++ (codes " has gone after " ++ (decimal snapshots ++ (codes " snapshots: " ++ (reason_of end ++ codes "\n")))))

-- what is told of one that is counted: once that it has gone, or nothing where no end of its stream is known
abbrev pub TellsGone : Option Disconnected → Option (List ℕ) → Option (List ℕ) → Bool → Type 0
TellsGone None old new is_mute = new ≡ old
TellsGone (Some gone) old new is_mute = (number : ℕ) × MayTell (gone_line number gone.frames gone.end) old new is_mute

-- of each that is counted, the last one first
abbrev pub TellsEnds : List (Option Disconnected) → Option (List ℕ) → Option (List ℕ) → Bool → Type 0
TellsEnds [] old new is_mute = new ≡ old
TellsEnds (end ∷ ends) old new is_mute = (between : Option (List ℕ)) × TellsEnds ends old between is_mute × TellsGone end between new is_mute

-- where `serve` listens for so many subscribers, and that so many have come, one after the other
abbrev pub TellsArrivals : ℕ → ℕ → ℕ → Option (List ℕ) → Option (List ℕ) → Bool → Type 0
TellsArrivals port subscribers came old new is_mute =
    (between : Option (List ℕ)) × MayTell (listening_line port subscribers) old between is_mute × MayTellEach (λ number. came_line number subscribers) came between new is_mute

-- once that each of those who came has gone, by the ends of their streams; where all were served, nobody was absent and none was missed
abbrev pub TellsDepartures : Bool → ℕ → ℕ → Option (List ℕ) → Option (List ℕ) → Bool → Type 0
TellsDepartures are_served came absent old new is_mute =
    (ends : List (Option Disconnected)) × (length ends ≡ came) × (are_served ≡ true → (published : ℕ) × (missed_of published ends + absent ≡ 0)) × TellsEnds ends old new is_mute

-- of so many subscribers: where `serve` listens, who came, and that they have gone
abbrev pub TellsOfSubscribers : ℕ → ℕ → Bool → Option (List ℕ) → Option (List ℕ) → Bool → Type 0
TellsOfSubscribers port subscribers are_served old new is_mute =
    (came : ℕ) × (absent : ℕ) × (came + absent ≡ subscribers)
    × ((between : Option (List ℕ)) × TellsArrivals port subscribers came old between is_mute × TellsDepartures are_served came absent between new is_mute)

-- that of this path and place is told once, or nothing where it is accepted or there is no memory
abbrev pub MayForewarn : List ℕ → ℕ → Option (List ℕ) → Option (List ℕ) → Bool → Type 0
MayForewarn path place old new is_mute = (new ≡ old) ⊎ ((why : List ℕ) × Names path why × Says old new is_mute (forewarning place why))

-- the same of the one at a place, where that is refused
abbrev pub MayForewarnAt : List (List ℕ) → (ℕ → Type 0) → ℕ → Option (List ℕ) → Option (List ℕ) → Bool → Type 0
MayForewarnAt paths IsRefused place old new is_mute = (new ≡ old) ⊎ ((path : List ℕ) × IsPathAt paths place path × IsRefused place × MayForewarn path place old new is_mute)

-- of each of so many documents behind the first, in their order
abbrev pub MayForewarnEach : List (List ℕ) → (ℕ → Type 0) → ℕ → Option (List ℕ) → Option (List ℕ) → Bool → Type 0
MayForewarnEach paths IsRefused zero old new is_mute = new ≡ old
MayForewarnEach paths IsRefused (suc n) old new is_mute = (between : Option (List ℕ)) × MayForewarnEach paths IsRefused n old between is_mute × MayForewarnAt paths IsRefused (n + 2) between new is_mute

-- what `serve` tells of so many documents, at the places where they are refused, and then of its subscribers
abbrev pub TellsServing : List (List ℕ) → (ℕ → Type 0) → ℕ → ℕ → ℕ → Bool → Option (List ℕ) → Option (List ℕ) → Bool → Type 0
TellsServing paths IsRefused documents port subscribers are_served old new is_mute =
    (between : Option (List ℕ)) × MayForewarnEach paths IsRefused (documents - 1) old between is_mute × TellsOfSubscribers port subscribers are_served between new is_mute
