use Rattle.std.proofs.Common.{length, option_copied}
use Rattle.flag_defs.specs.Flags.{flags_view}
use Rattle.rule_switches.proofs.PageGoing.{GoesOn}
use Rattle.rule_switches.proofs.book.compare_lines.Given as goal

abbrev pub invariant-pages : goal.invariant-pages
invariant-pages l = GoesOn (flags_view l.edit.old.now) (flags_view l.edit.new.now) (option_copied l.only) l.lines l.rest l.compared

abbrev pub decreases-pages : goal.decreases-pages
decreases-pages l = length l.rest
