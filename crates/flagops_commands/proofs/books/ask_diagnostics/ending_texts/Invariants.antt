use Rattle.std.proofs.Common.{◌≡◌, ◌++◌, map, drop, string_bytes}
use Rattle.flagops_commands.specs.DriveSummary.{ending_texts}
use Rattle.flagops_commands.proofs.books.ask_diagnostics.ending_texts.Given as goal

abbrev pub invariant-loop-word : goal.invariant-loop-word
invariant-loop-word l = string_bytes l.text ++ ending_texts (map (λ e. (e.0.now, e.1)) (drop l.word-index l.endings)) ≡ ending_texts (map (λ e. (e.0.now, e.1)) l.endings)
