use Rattle.std.proofs.Common.{◌+◌, ◌-◌, ◌≤◌, ◌∷◌, length, take, drop, sym, ap, ◌∙◌, arith, length-drop}
use Rattle.std.specs.List.{slice_split}
use Rattle.std.proofs.lemmas.List.{take_all}
use Rattle.book_core.specs.Reading.{is_feed}
use Rattle.book_core.proofs.Cut.{cut_none, cut_some}
use Rattle.ramp.proofs.lines.cut.Goals as goal

pub returns-in-None-clause-parts : goal.returns-in-None-clause-parts
returns-in-None-clause-parts c = cut_none is_feed c.args.bytes.now c.in-None.ensures

pub returns-in-Some-clause-parts : goal.returns-in-Some-clause-parts
returns-in-Some-clause-parts c =
    let bytes = c.args.bytes.now in
    let at = c.in-Some.at in
    let rest = drop (at + 1) bytes in
    let n = length bytes - (at + 1) in
    let fits : length rest ≤ n = omega (arith, length-drop (at + 1) bytes) in
    cut_some is_feed bytes at c.in-Some.ensures ∙ ap (λ r. take at bytes ∷ slice_split is_feed r) (sym (take_all n rest fits))
