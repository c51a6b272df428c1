-- What the library says of itself.
use Rattle.std.specs.Prelude.{ℕ, List, codes}

-- its version, the kit that proves it, and the sum of its sources, which is made of this text without it
abbrev pub about_text : List ℕ
about_text = codes "libflagops 0.1.0\nproved with rattle-kit-13f logic dac8208d650f15bf\nsources 2a41ef8f3f2a3a800783f9c3036f82d1840ebc8f1422597707151fc0322a295a\n"
