-- What the command `completions` answers.
use Rattle.std.specs.Prelude.{Result}
use Rattle.flagops_shell.specs.Outcomes.{done}
use Rattle.flagops_shell.specs.Report.{Report}
use Rattle.flagops_commands.specs.declared.refusal.ListedRefusal.{ListedRefusal}
use Rattle.flagops_words.specs.Shell.{script_of}
use Rattle.flagops_words.specs.declared.shell.Shell.{Shell}

-- the script of the shell
abbrev pub completions_report : Shell → Result Report ListedRefusal
completions_report shell = done (script_of shell)
