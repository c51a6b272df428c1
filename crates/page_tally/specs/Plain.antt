-- The characters of ASCII that stand for themselves in a quoted JSON text (RFC 8259, section 7).
use Rattle.std.specs.Prelude.{ℕ, Bool, ◌&&◌, ◌||◌, ◌==◌, nat_lt}
use Rattle.flag_text.specs.Plain.{is_plain}

abbrev pub is_plain_ascii : ℕ → Bool
is_plain_ascii b = is_plain b && nat_lt b 128

-- any other byte
abbrev pub is_odd : ℕ → Bool
is_odd b = (((b == 34) || (b == 92)) || nat_lt b 32) || nat_lt 127 b
