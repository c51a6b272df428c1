use Rattle.std.proofs.Common.{sym, subst, arith}
use Rattle.std.specs.Str.{IsUtf8}
use Rattle.std.proofs.lemmas.Fmt.{IsAscii-decimal}
use Rattle.std.proofs.lemmas.Str.{IsUtf8-from_ascii}
use Rattle.note_tallies.proofs.Numbers.{parsed, not_parsed, not_shortest}
use Rattle.note_tallies.proofs.number.whole.Goals as goal

pub returns-then-not-is_shortest-clause-number : goal.returns-then-not-is_shortest-clause-number
returns-then-not-is_shortest-clause-number c = λ n small. not_shortest c.args.digits.now n (sym c.if-not-is_shortest.ensures) small

pub returns-in_default-clause-number : goal.returns-in_default-clause-number
returns-in_default-clause-number c = λ n small is.
    c.in_default.ensures.cases.0 (subst IsUtf8 (sym is) (IsUtf8-from_ascii _ (IsAscii-decimal n (omega (arith, small)))))

pub returns-in-Ok-parse-clause-number : goal.returns-in-Ok-parse-clause-number
returns-in-Ok-parse-clause-number c =
    parsed c.in-Ok.text.now c.args.digits.now c.in-Ok-parse.n c.in-Ok.ensures.cases.0 (sym c.if-not-is_shortest.ensures) c.in-Ok-parse.ensures.value.0

pub returns-in-Err-clause-number : goal.returns-in-Err-clause-number
returns-in-Err-clause-number c = λ n small.
    not_parsed c.in-Ok.text.now c.args.digits.now n c.in-Ok.ensures.cases.0 c.in-Err.ensures.value.0 small
