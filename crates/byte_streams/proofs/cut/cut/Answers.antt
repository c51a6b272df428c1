use Rattle.std.proofs.Common.{◌≡◌, ◌+◌, ◌-◌, ◌∷◌, ◌++◌, List, ℕ, take, drop, length, sym, ap, ◌∙◌, arith, length-drop}
use Rattle.std.proofs.lemmas.List.{take_all}
use Rattle.byte_streams.proofs.Cutting.{in_parts, line_before, no_feed_there}
use Rattle.byte_streams.proofs.cut.cut.Goals as goal

pub returns-in-None-clause-parts : goal.returns-in-None-clause-parts
returns-in-None-clause-parts c = no_feed_there c.args.bytes.now c.in-None.ensures.at

pub returns-in-Some-clause-parts : goal.returns-in-Some-clause-parts
returns-in-Some-clause-parts c =
    let bytes = c.args.bytes.now in
    let at = c.in-Some.at in
    let rest = drop (at + 1) bytes in
    let n = length bytes - (at + 1) in
    let all : take n rest ≡ rest = take_all n rest (omega (arith, length-drop (at + 1) bytes)) in
    in_parts bytes at c.in-Some.ensures.at ∙ ap (λ (r : List ℕ). take at bytes ++ 10 ∷ r) (sym all)

pub returns-in-Some-clause-line : goal.returns-in-Some-clause-line
returns-in-Some-clause-line c = line_before c.args.bytes.now c.in-Some.at c.in-Some.ensures.at
