-- What a drive ends with, and what its workers end with.
use Rattle.std.specs.Prelude.{◌≡◌, ◌↔◌, ◌<◌, ◌≤◌, ℕ, zero, suc, ◌+◌, ◌-◌, List, [], ◌∷◌, ◌++◌, length, map, count_by, All, Bool, true, false, not, Some, Result, Err, IfErr, IfOk, IfSome, option_map, slice_get}
use Rattle.std.specs.List.{list_any}
use Rattle.std.specs.Set.{distinct_count}
use Rattle.std.specs.Str.{bytes_eq}
use Rattle.std.specs.VecDeque.{deque_items}
use Rattle.flag_defs.specs.Document.{Definitions}
use Rattle.flag_resolve.specs.Views.{resolution_view}
use Rattle.flag_resolve.specs.declared.resolution.Resolution.{Resolution}
use Rattle.book_core.specs.Book.{Contents, most_inputs, is_among, inputs_on, input_count}
use Rattle.book_core.specs.Calls.{Call, reply_after}
use Rattle.book_core.specs.declared.fault.BookFault.TheVariants.{PageFull}
use Rattle.book_core.specs.Page.{PageName}
use Rattle.book_lock.specs.Counts.{own}
use Rattle.book_lock.specs.Seen.{AllKnow, IsLegal, StartsWith}
use Rattle.book_lock.specs.Told.{all_told}
use Rattle.book_lock.specs.declared.call.Sight.{Sight}
use Rattle.book_share.specs.Asked.{Mention, asks_of, every, is_mention, mentioned_on, mentions, mentions_of, resolved}
use Rattle.book_share.specs.DriveFault.{is_of_workers}
use Rattle.book_share.specs.declared.ask.Ask.{Ask}
use Rattle.book_share.specs.declared.drive_fault.DriveFault.{DriveFault}
use Rattle.book_share.specs.declared.gather.WorkerResults.{WorkerResults}
use Rattle.book_share.specs.declared.worker.Part.{Part}

-- how many different inputs are mentioned for the page
abbrev pub reached_on : PageName → List Mention → ℕ
reached_on page mentions = distinct_count bytes_eq (mentioned_on page mentions)

-- the book has the mentioned input on its page
abbrev pub is_noted : Contents → Mention → Bool
is_noted book m = is_among m.input (inputs_on book m.page)

-- What was noted of the mentioned inputs. A page for which at most 1000000 different ones are mentioned has just these; a page
-- of more has 1000000 of them. Each mention of an input that the book has was accepted, and each other was refused by a full page.
pub record AreNoted (mentions : List Mention) (book : Contents) (accepted new refused : ℕ) : Type 0 where
  pub contents : (page : PageName) → reached_on page mentions ≤ most_inputs → (input : List ℕ) → is_among input (inputs_on book page) ≡ list_any (is_mention page input) mentions
  pub filled : (page : PageName) → most_inputs < reached_on page mentions → length (inputs_on book page) ≡ most_inputs
  pub held : (page : PageName) (input : List ℕ) → is_among input (inputs_on book page) ≡ true → list_any (is_mention page input) mentions ≡ true
  pub calls : accepted ≡ count_by (is_noted book) mentions
  pub news : new ≡ input_count book
  pub refusals : refused ≡ count_by (λ m. not (is_noted book m)) mentions
  pub full : (refused ≡ 0) ↔ ((page : PageName) → reached_on page mentions ≤ most_inputs)

-- after these calls the page refuses the input, for it is full
abbrev pub IsFullAfter : List Call → Mention → Type 0
IsFullAfter calls m = reply_after calls m.page m.input ≡ Err PageFull

-- each legal list of this kind ends in a full page for each of these inputs
abbrev pub AreFull : (List Call → Type 0) → List Mention → Type 0
AreFull IsKind refused = (all : List Call) → IsLegal all → IsKind all → All (IsFullAfter all) refused

-- the input of a call
abbrev pub called_mention : Call → Mention
called_mention c = record { page = c.page; input = c.input }

-- what was noted: the inputs of these calls, and those that full pages refused
abbrev pub noted_by : List Call → List Mention → List Mention
noted_by calls refused = map called_mention calls ++ refused

-- These mentions, in any order, are the inputs of these calls and so many others, which full pages refused, as each legal list of
-- this kind shows. The others are in no memory: it is enough that there are such.
pub record AreCounted (IsKind : List Call → Type 0) (calls : List Call) (refusals : ℕ) (mentions : List Mention) : Type 0 where
  pub refused : List Mention
  pub many : length refused ≡ refusals
  pub noted : (p : Mention → Bool) → count_by p (noted_by calls refused) ≡ count_by p mentions
  pub full : AreFull IsKind refused

-- a seat has noted these mentions, of which full pages refused so many
abbrev pub HasNoted : Sight → ℕ → List Mention → Type 0
HasNoted seat refusals mentions = AreCounted (λ all. StartsWith all seat.seen) (own seat) refusals mentions

-- the same of several seats
abbrev pub HaveNoted : List Sight → ℕ → List Mention → Type 0
HaveNoted seats refusals mentions = AreCounted (λ all. AllKnow all seats) (all_told seats) refusals mentions

-- whatever a seat had noted before, it has noted these mentions beside it
abbrev pub Notes : List Mention → Sight → ℕ → Sight → ℕ → Type 0
Notes more old refusals new refusals' = (before : List Mention) → HasNoted old refusals before → HasNoted new refusals' (before ++ more)

-- the resolution is that of the ask of this number
unfoldable pub IsAnswer : Definitions → List Ask → ℕ → Resolution → Type 0
IsAnswer flags asks n r = option_map (resolved flags) (slice_get asks n) ≡ Some (resolution_view r)

-- what the ask of this number mentions was noted beside what was noted before
unfoldable pub NotesAsk : Definitions → List Ask → ℕ → Sight → ℕ → Sight → ℕ → Type 0
NotesAsk flags asks n old refusals new refusals' = (a : Ask) → slice_get asks n ≡ Some a → Notes (mentions_of flags a) old refusals new refusals'

-- what one worker made of its asks: the answers in their order, and its seat has noted what they mention
pub record IsWork (flags : Definitions) (asks : List Ask) (seat : Sight) (given : List Resolution) (refusals : ℕ) : Type 0 where
  pub answers : map resolution_view given ≡ map (resolved flags) asks
  pub noted : HasNoted seat refusals (mentions flags asks)

-- the workers from the first to the one before the last stand in a line, each with the answers to its asks, between two of which so many others come
abbrev pub AreInTurn : Definitions → ℕ → ℕ → ℕ → List Ask → List (List Resolution) → Type 0
AreInTurn flags between first last asks [] = first ≡ last
AreInTurn flags between first last asks (w ∷ ws) = (map resolution_view w ≡ map (resolved flags) (every between first asks)) × AreInTurn flags between (suc first) last asks ws

-- the mentions of the asks of the first workers
abbrev pub mentions_to_all : Definitions → ℕ → ℕ → List Ask → List Mention
mentions_to_all flags between zero asks = []
mentions_to_all flags between (suc last) asks = mentions flags (every between last asks) ++ mentions_to_all flags between last asks

-- what the first workers of so many made
pub record AreWorks (flags : Definitions) (workers : ℕ) (asks : List Ask) (seats : List Sight) (given : List (List Resolution)) (refusals : ℕ) : Type 0 where
  pub answers : AreInTurn flags (workers - 1) 0 (length seats) asks given
  pub noted : HaveNoted seats refusals (mentions_to_all flags (workers - 1) (length seats) asks)

-- the part of worker w is what its asks come to
abbrev pub IsPart : {L : Type 0} → Definitions → ℕ → List Ask → ℕ → Part L → Type 0
IsPart flags workers asks w p = IsWork flags (asks_of workers w asks) p.seat p.answers.items p.refused

-- each part that there is, in the order of the workers
abbrev pub AreParts : {L : Type 0} → Definitions → ℕ → List Ask → List (Result (Part L) DriveFault) → Type 0
AreParts flags workers asks parts = (w : ℕ) → IfSome (slice_get parts w) (λ r. IfOk r (λ p. IsPart flags workers asks w p))

-- the parts of all workers, put together
abbrev pub AreWorkerResults : {L : Type 0} → Definitions → ℕ → List Ask → WorkerResults L → Type 0
AreWorkerResults flags workers asks h = AreWorks flags workers asks h.seats.items (map deque_items h.answers.items) h.refused

-- a worker was not refused for the number of workers
abbrev pub HasStarted : {X : Type 0} → Result X DriveFault → Type 0
HasStarted r = IfErr r (λ e. is_of_workers e ≡ false)
