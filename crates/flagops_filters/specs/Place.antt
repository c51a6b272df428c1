-- The site that is tallied at, in private contracts alone.
use Rattle.std.specs.Prelude.{◌≡◌, true, Result, Ok, Err}
use Rattle.book_core.specs.Page.{PageName}
use Rattle.bucket_core.specs.Rule.{Entries, entries_view}
use Rattle.flagops_shell.specs.Report.{outcome_view}
use Rattle.flagops_shell.specs.declared.outcome.Outcome.{Outcome}
use Rattle.note_streams.specs.declared.tallying.StreamTally.{StreamTally}
use Rattle.note_tallies.specs.File.{tally_text}
use Rattle.flagops_filters.specs.Beside.{has_none, is_beside}
use Rattle.flagops_filters.specs.Refusal.{is_want}
use Rattle.flagops_filters.specs.Tally.{Target}
use Rattle.flagops_filters.specs.Report.{Told}
use Rattle.flagops_filters.specs.declared.tallying.Place as program
use Rattle.flagops_filters.specs.declared.target.Target as program_target

abbrev pub target_view : program_target.Target → Target
target_view t = record { page = t.page; total = t.total }

abbrev pub place_view : program.Place → Entries × PageName
place_view p = (entries_view p.entries.items, p.page)

-- the file of a tally is printed, unless memory ran out
abbrev pub PrintsTally : StreamTally → Result Outcome Told → Type 0
PrintsTally t (Ok o) = outcome_view o ≡ record { text = tally_text t.tally; status = 0; is_told = is_beside t.empty (has_none t.tally) t.torn }
PrintsTally t (Err told) = is_want told.refusal ≡ true
