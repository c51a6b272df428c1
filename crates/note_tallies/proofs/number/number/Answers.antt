use Rattle.std.proofs.Common.{◌≡◌, ◌+◌, ◌-◌, ◌∷◌, ◌++◌, List, ℕ, take, drop, length, sym, ap, ◌∙◌, arith, length-drop}
use Rattle.std.specs.Fmt.{decimal}
use Rattle.std.proofs.lemmas.List.{take_all}
use Rattle.note_tallies.proofs.Numbers.{stop_here, stop_nowhere, stop_parts, stop_front}
use Rattle.note_tallies.proofs.number.number.Goals as goal

pub returns-in_err-at-clause-number : goal.returns-in_err-at-clause-number
returns-in_err-at-clause-number c =
    rw c.from_residual.ensures (λ n rest small. stop_nowhere c.args.bytes.now n c.args.stop rest c.requires small c.in_err-at.ensures)

pub returns-in_err-n-clause-number : goal.returns-in_err-n-clause-number
returns-in_err-n-clause-number c =
    let bytes = c.args.bytes.now in
    rw c.from_residual-in_err-n.ensures
    (λ n rest small is. c.in_err-n.ensures.number n small (stop_front bytes n c.args.stop c.in_ok-at.at rest is (stop_here bytes n c.args.stop c.in_ok-at.at rest c.requires small is c.in_ok-at.ensures)))

pub returns-clause-number : goal.returns-clause-number
returns-clause-number c =
    let bytes = c.args.bytes.now in
    let at = c.in_ok-at.at in
    let rest = drop (at + 1) bytes in
    let n = length bytes - (at + 1) in
    let all : take n rest ≡ rest = take_all n rest (omega (arith, length-drop (at + 1) bytes)) in
    stop_parts bytes c.args.stop at c.in_ok-at.ensures
    ∙ ap (λ (front : List ℕ). front ++ c.args.stop ∷ rest) c.in_ok-n.ensures.number
    ∙ ap (λ (r : List ℕ). decimal c.in_ok-n.n ++ c.args.stop ∷ r) (sym all)
