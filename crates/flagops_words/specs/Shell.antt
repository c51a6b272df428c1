-- The shells whose completion of the program's words can be printed.
use Rattle.std.specs.Prelude.{ℕ, List, codes, Option, Some, None, if◌then◌else◌}
use Rattle.std.specs.Str.{bytes_eq}
use Rattle.flagops_words.specs.declared.shell.Shell.{Shell}
use Rattle.flagops_words.specs.declared.shell.Shell.TheVariants as shell
use Rattle.flagops_words.specs.declared.shell.TheConstants.{BASH, FISH, ZSH}

-- the shell of a name
abbrev pub shell_named : List ℕ → Option Shell
shell_named s =
    if bytes_eq s (codes "bash") then Some shell.Bash else
    (if bytes_eq s (codes "fish") then Some shell.Fish else
    (if bytes_eq s (codes "zsh") then Some shell.Zsh else None))

-- its script
unfoldable pub script_of : Shell → List ℕ
script_of shell.Bash = BASH.now
script_of shell.Fish = FISH.now
script_of shell.Zsh = ZSH.now
