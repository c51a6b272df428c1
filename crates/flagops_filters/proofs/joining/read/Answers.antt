use Rattle.std.proofs.Common.{◌∙◌, Bool, false, Result, Ok, Err, ap}
use Rattle.note_tallies.specs.Tally.{PageTally}
use Rattle.note_tallies.specs.declared.file_fault.TallyFileFault.{TallyFileFault}
use Rattle.flagops_filters.specs.Refusal.{is_want}
use Rattle.flagops_filters.specs.declared.refusal.FilterRefusal.TheVariants.{Load}
use Rattle.flagops_files.specs.declared.refusal.Refusal.TheVariants.{ReadTally}
use Rattle.flagops_filters.proofs.Joins.{read_so, unread}
use Rattle.flagops_filters.proofs.joining.read.Goals as goal

pub returns-in-Ok-clause-exact : goal.returns-in-Ok-clause-exact
returns-in-Ok-clause-exact c = read_so c.args.bytes.now c.in-Ok.tally c.in-Ok.ensures.exact

pub returns-in-Err-clause-exact : goal.returns-in-Err-clause-exact
returns-in-Err-clause-exact c = unread c.args.bytes.now c.in-Err.fault c.unread.result c.in-Err.ensures.exact c.unread.ensures.refusal

abbrev is_want_of : Result PageTally TallyFileFault → Bool
is_want_of (Ok t) = false
is_want_of (Err e) = is_want (Load (ReadTally e))

pub returns-in-Err-clause-header : goal.returns-in-Err-clause-header
returns-in-Err-clause-header c = λ none. ap is_want c.unread.ensures.refusal ∙ ap is_want_of (c.in-Err.ensures.header none)
