-- What the command `drive` comes to.
use Rattle.std.specs.Prelude.{◌≡◌, ◌≢◌, ℕ, Bool, List, map, Option, Some, None, option_map, Result, Ok, Err}
use Rattle.flag_resolve.specs.Floats.{Marked}
use Rattle.flag_resolve.specs.Resolved.{Resolved}
use Rattle.flag_resolve.specs.Views.{resolution_view}
use Rattle.book_core.specs.Book.{Contents, input_count}
use Rattle.book_core.specs.Printing.{book_text}
use Rattle.book_core.specs.Reading.{book_of}
use Rattle.book_core.specs.Union.{HaveNoUnion, IsUnion}
use Rattle.book_share.specs.Asked.{long_of, mentions}
use Rattle.book_share.specs.Driven.{AreNoted}
use Rattle.book_share.specs.DriveFault.{workers_fault}
use Rattle.book_share.specs.declared.ask.Ask as program
use Rattle.book_share.specs.declared.drive_fault.DriveFault.TheVariants.{WantOfMemory}
use Rattle.book_share.specs.declared.driving.Driven as program_driven
use Rattle.flagops_drive.specs.Asks.{Ask, ask_view}
use Rattle.flagops_drive.specs.Fault.{want}
use Rattle.flagops_drive.specs.Floats.{answered, answered_spelled, asked_as, spelled_of}
use Rattle.flagops_drive.specs.Lines.{drive_text}
use Rattle.flagops_drive.specs.declared.command.DriveOutput as program_output
use Rattle.flagops_drive.specs.declared.fault.DriveRefusal.{DriveRefusal}
use Rattle.flagops_drive.specs.declared.fault.DriveRefusal.TheVariants.{Drive, BadAsks, PageFull}

-- the lines that are printed, the file of the book, and how many inputs the asks reached
pub record DriveOutput : Type 0 where
  pub text : List ℕ
  pub book : List ℕ
  pub reached : ℕ

abbrev pub drive_output_view : program_output.DriveOutput → DriveOutput
drive_output_view d = record { text = d.text.items; book = d.book.items; reached = d.tally.reached }

-- what asks resolve to, whether the value of each is printed by its spelling, the book in which was noted what they reached, and the counts of the notes
pub record Reached : Type 0 where
  pub answers : List Resolved
  pub spelled : List Bool
  pub book : Contents
  pub calls : ℕ
  pub news : ℕ
  pub full : ℕ
  pub long : ℕ

-- of the asks that were driven, by flags of which some may have floats
abbrev pub reached_view : Marked → List program.Ask → program_driven.Driven → Reached
reached_view flags asks d = record { answers = map resolution_view d.answers.items; spelled = spelled_of flags asks (map resolution_view d.answers.items); book = d.book; calls = d.calls; news = d.news; full = d.full; long = d.long }

-- the resolutions of these asks, in their order, and a book in which what they reached was noted
pub record IsReached (flags : Marked) (asks : List Ask) (r : Reached) : Type 0 where
  pub answers : r.answers ≡ map (answered flags) asks
  pub spelled : r.spelled ≡ map (answered_spelled flags) asks
  -- the asks, as the program holds them, each for the kind that its flag is asked for
  pub given : List program.Ask
  pub same : map ask_view given ≡ map (asked_as flags) asks
  pub noted : AreNoted (mentions flags.0 given) r.book r.calls r.news r.full
  pub long : r.long ≡ long_of flags.0 given

-- the book that is written: what was reached, and what a book had before
abbrev pub Adds : Option Contents → Contents → Contents → Type 0
Adds None reached book = book ≡ reached
Adds (Some before) reached book = IsUnion before reached book

-- no book holds both
abbrev pub HaveNoSum : Option Contents → Contents → Type 0
HaveNoSum None reached = ⊥
HaveNoSum (Some before) reached = HaveNoUnion before reached

-- the lines of what was reached, with the number of inputs of the book that is written, and its file; each input that was reached counts once
pub record IsOutput (before : Option Contents) (json : Bool) (r : Reached) (d : DriveOutput) : Type 0 where
  pub book : Contents
  pub adds : Adds before r.book book
  pub text : d.text ≡ drive_text json r.spelled r.answers (input_count book) r.calls r.news r.full r.long
  pub file : d.book ≡ book_text book
  pub reads_back : book_of d.book ≡ Ok book
  pub reached : d.reached ≡ r.news

-- the output of these asks, whose book keeps what a book had before
pub record IsDriveOutput (flags : Marked) (asks : List Ask) (before : Option Contents) (json : Bool) (d : DriveOutput) : Type 0 where
  pub reached : Reached
  pub is_reached : IsReached flags asks reached
  pub output : IsOutput before json reached d

-- what these asks reached is too much for the book that was there before
pub record IsOverfull (flags : Marked) (asks : List Ask) (before : Option Contents) : Type 0 where
  pub reached : Reached
  pub is_reached : IsReached flags asks reached
  pub full : HaveNoSum before reached.book

-- why what was reached is not written
abbrev pub IsUnadded : Option Contents → Contents → DriveRefusal → Type 0
IsUnadded before reached (Drive e) = e ≡ WantOfMemory
IsUnadded before reached PageFull = HaveNoSum before reached
IsUnadded before reached BadAsks = ⊥

-- why so many workers drive nothing
abbrev pub workers_refusal : ℕ → Option DriveRefusal
workers_refusal workers = option_map Drive (workers_fault workers)

-- Why these asks are not driven by so many workers, as far as it is known without taking memory: they are no asks, or else the number of the workers.
abbrev pub refusal_of : Option (List Ask) → ℕ → Option DriveRefusal
refusal_of None workers = Some BadAsks
refusal_of (Some asks) workers = workers_refusal workers

-- why these asks are not driven by so many workers: their number, or what a book had before
abbrev pub IsRefused : Marked → List Ask → ℕ → Option Contents → DriveRefusal → Type 0
IsRefused flags asks workers before (Drive e) = workers_fault workers ≡ Some e
IsRefused flags asks workers before PageFull = (workers_fault workers ≡ None) × IsOverfull flags asks before
IsRefused flags asks workers before BadAsks = ⊥

-- what comes of these asks, if there are any, by so many workers, beside a book that was there before; want of memory is no part of it
abbrev pub IsDriveOf : Marked → Option (List Ask) → ℕ → Option Contents → Bool → Result DriveOutput DriveRefusal → Type 0
IsDriveOf flags None workers before json r = r ≡ Err BadAsks
IsDriveOf flags (Some asks) workers before json (Ok d) = (workers_fault workers ≡ None) × IsDriveOutput flags asks before json d
IsDriveOf flags (Some asks) workers before json (Err e) = IsRefused flags asks workers before e

-- what was returned is so, unless memory ran out
abbrev pub Drives : Marked → Option (List Ask) → ℕ → Option Contents → Bool → Result program_output.DriveOutput DriveRefusal → Type 0
Drives flags asks workers before json (Ok d) = IsDriveOf flags asks workers before json (Ok (drive_output_view d))
Drives flags asks workers before json (Err e) = e ≢ want → IsDriveOf flags asks workers before json (Err e)
