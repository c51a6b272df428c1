-- What a command of streams writes and ends with.
use Rattle.std.specs.Prelude.{◌≡◌, ◌⊎◌, ℕ, Bool, true, false, List, ◌++◌, codes, decimal, Option, Result, Ok, Err}
use Rattle.std.specs.Io.KnownBytes.{Appends}
use Rattle.flag_text.specs.Outlet.{AppendsPart}
use Rattle.flagops_streams.specs.Refusal.{call_of, line_of, want_line}
use Rattle.flagops_streams.specs.declared.refusal.Refusal.{Refusal}
use Rattle.flagops_streams.specs.Told.{TellsNobody, TellsWhy}
use Rattle.flagops_streams.specs.declared.refusal.Refusal.TheVariants.{Unreachable, WantOfMemory}

-- The text was written and this status given; or the outlet broke, and a front of it is there with status 1.
abbrev pub Writes : Option (List ℕ) → Option (List ℕ) → Bool → ℕ → List ℕ → ℕ → Type 0
Writes old new false status text wanted = Appends old new text × (status ≡ wanted)
Writes old new true status text wanted = AppendsPart old new text × (status ≡ 1)

-- the line of this refusal, with status 1; or the line that its call ran out of memory
abbrev pub RefusesBy : Refusal → Option (List ℕ) → Option (List ℕ) → Bool → ℕ → Type 0
RefusesBy refusal old new broken status = Writes old new broken status (line_of refusal) 1 ⊎ Writes old new broken status (want_line (call_of refusal)) 1

-- The same, and why is told beside it, of documents at these paths, behind what was told before.
abbrev pub RefusesBeside : List (List ℕ) → (Option (List ℕ) → Option (List ℕ) → Bool → Type 0) → Refusal → Option (List ℕ) → Option (List ℕ) → Bool → Option (List ℕ) → Option (List ℕ) → Bool → ℕ → Type 0
RefusesBeside paths Tells refusal old new broken err err_after is_mute status = RefusesBy refusal old new broken status × TellsWhy paths Tells refusal err err_after is_mute

-- that of some refusal
abbrev pub Refuses : List (List ℕ) → (Option (List ℕ) → Option (List ℕ) → Bool → Type 0) → Option (List ℕ) → Option (List ℕ) → Bool → Option (List ℕ) → Option (List ℕ) → Bool → ℕ → Type 0
Refuses paths Tells old new broken err err_after is_mute status = (refusal : Refusal) × RefusesBeside paths Tells refusal old new broken err err_after is_mute status

-- the line of so many publications
unfoldable pub published_line : ℕ → List ℕ
published_line n = codes "published " ++ (decimal n ++ codes "\n")

-- that line with status 0, and what is told beside it
abbrev pub Publishes : (Option (List ℕ) → Option (List ℕ) → Bool → Type 0) → ℕ → Option (List ℕ) → Option (List ℕ) → Bool → Option (List ℕ) → Option (List ℕ) → Bool → ℕ → Type 0
Publishes Tells n old new broken err err_after is_mute status = Writes old new broken status (published_line n) 0 × Tells err err_after is_mute

-- All of so many documents were published, or there was a refusal. What is told beside it is another where every
-- subscriber was served.
abbrev pub Serves : List (List ℕ) → (Bool → Option (List ℕ) → Option (List ℕ) → Bool → Type 0) → ℕ → Option (List ℕ) → Option (List ℕ) → Bool → Option (List ℕ) → Option (List ℕ) → Bool → ℕ → Type 0
Serves paths Tells n old new broken err err_after is_mute status =
    Publishes (Tells true) n old new broken err err_after is_mute status ⊎ Refuses paths (Tells false) old new broken err err_after is_mute status

-- what `serve` answered: so many publications, unless there is no memory for the line, or a refusal
abbrev pub Reports : List (List ℕ) → (Bool → Option (List ℕ) → Option (List ℕ) → Bool → Type 0) → Result ℕ Refusal → Option (List ℕ) → Option (List ℕ) → Bool → Option (List ℕ) → Option (List ℕ) → Bool → ℕ → Type 0
Reports paths Tells (Ok n) old new broken err err_after is_mute status =
    Publishes (Tells true) n old new broken err err_after is_mute status ⊎ RefusesBeside paths (Tells false) WantOfMemory old new broken err err_after is_mute status
Reports paths Tells (Err refusal) old new broken err err_after is_mute status = RefusesBeside paths (Tells false) refusal old new broken err err_after is_mute status

-- nobody listens on a port, which is told alone
abbrev pub FindsNobody : ℕ → Option (List ℕ) → Option (List ℕ) → Bool → Option (List ℕ) → Option (List ℕ) → Bool → ℕ → Type 0
FindsNobody port old new broken err err_after is_mute status = RefusesBy Unreachable old new broken status × TellsNobody port err err_after is_mute
