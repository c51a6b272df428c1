use Rattle.std.proofs.Common.{true, false, nat_lt, refl, sym, ◌∙◌}
use Rattle.std.proofs.lemmas.Bool.{lt-ltb, le-ltb}
use Rattle.flag_defs.proofs.PrintedBytes.{escaped-length}
use Rattle.flag_defs.proofs.printed_bytes.byte_bytes.Goals as goal

pub returns-then-has_letter : goal.returns-then-has_letter
returns-then-has_letter c = sym (escaped-length c.args.byte true (nat_lt c.args.byte 32) (sym c.has_letter.ensures ∙ c.if-has_letter.true) refl)

pub returns-then-byte-lt32 : goal.returns-then-byte-lt32
returns-then-byte-lt32 c = sym (escaped-length c.args.byte false true (sym c.has_letter.ensures ∙ c.if-has_letter.false) (lt-ltb c.args.byte 32 c.if-byte-lt32.true))

pub returns-else-byte-lt32 : goal.returns-else-byte-lt32
returns-else-byte-lt32 c = sym (escaped-length c.args.byte false false (sym c.has_letter.ensures ∙ c.if-has_letter.false) (le-ltb c.args.byte 32 c.if-byte-lt32.false))
