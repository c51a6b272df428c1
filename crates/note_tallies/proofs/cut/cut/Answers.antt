use Rattle.std.proofs.Common.{◌≡◌, ◌+◌, ◌-◌, ◌∷◌, ◌++◌, List, ℕ, take, drop, length, sym, subst, ap, ◌∙◌, arith, length-drop}
use Rattle.std.proofs.lemmas.List.{take_all}
use Rattle.note_tallies.proofs.Numbers.{stop_parts}
use Rattle.note_tallies.proofs.Fed.{cut_feed, no_feed_nowhere}
use Rattle.note_tallies.proofs.cut.cut.Goals as goal

pub returns-in_err-at-clause-parts : goal.returns-in_err-at-clause-parts
returns-in_err-at-clause-parts c =
    rw c.from_residual.ensures (λ line rest. no_feed_nowhere c.args.bytes.now line rest c.in_err-at.ensures)

pub returns-clause-parts : goal.returns-clause-parts
returns-clause-parts c =
    let bytes = c.args.bytes.now in
    let at = c.in_ok-at.at in
    let rest = drop (at + 1) bytes in
    let n = length bytes - (at + 1) in
    let all : take n rest ≡ rest = take_all n rest (omega (arith, length-drop (at + 1) bytes)) in
    stop_parts bytes 10 at c.in_ok-at.ensures ∙ ap (λ (r : List ℕ). take at bytes ++ 10 ∷ r) (sym all)

pub returns-clause-line : goal.returns-clause-line
returns-clause-line c = cut_feed c.args.bytes.now c.in_ok-at.at c.in_ok-at.ensures
