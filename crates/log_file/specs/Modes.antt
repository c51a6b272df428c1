-- Who may read and write what is made (POSIX, sys/stat.h: the permission bits of a mode).
use Rattle.std.specs.Prelude.{ℕ}

-- a folder for its owner alone
abbrev pub owner_folder : ℕ
owner_folder = 0o700

-- a file for its owner alone
abbrev pub owner_file : ℕ
owner_file = 0o600
