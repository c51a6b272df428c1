use Rattle.std.proofs.Common.{◌∙◌, ◌∷◌, ◌++◌}
use Rattle.std.specs.Fmt.{decimal}
use Rattle.note_tallies.proofs.Spelled.{after_bracket, after_comma, after_end, whole_line, longer, spelled}
use Rattle.note_tallies.proofs.read.take_point.Goals as goal

pub returns-in_err-rest-clause-line : goal.returns-in_err-rest-clause-line
returns-in_err-rest-clause-line c =
    rw c.from_residual.ensures (λ e rest are is. c.in_err-rest.ensures (decimal e.point ++ 44 ∷ (decimal e.inputs ++ 93 ∷ 10 ∷ rest)) (is ∙ spelled e rest))

pub returns-in_err-point-clause-line : goal.returns-in_err-point-clause-line
returns-in_err-point-clause-line c =
    rw c.from_residual-in_err-point.ensures
    (λ e rest are is. c.in_err-point.ensures.number e.point (decimal e.inputs ++ 93 ∷ 10 ∷ rest) are.point (after_bracket c.args.bytes.now c.in_ok-rest.rest.now e rest c.in_ok-rest.ensures is))

pub returns-in_err-inputs-clause-line : goal.returns-in_err-inputs-clause-line
returns-in_err-inputs-clause-line c =
    rw c.from_residual-in_err-inputs.ensures
    (λ e rest are is. c.in_err-inputs.ensures.number e.inputs (10 ∷ rest) are.inputs
    (after_comma c.args.bytes.now c.in_ok-rest.rest.now c.in_ok-point.rest.now c.in_ok-point.point e rest are c.in_ok-point.ensures.small c.in_ok-rest.ensures c.in_ok-point.ensures.number is))

pub returns-in_err-rest-2-clause-line : goal.returns-in_err-rest-2-clause-line
returns-in_err-rest-2-clause-line c =
    rw c.from_residual-in_err-rest-2.ensures
    (λ e rest are is. c.in_err-rest-2.ensures rest
    (after_end c.args.bytes.now c.in_ok-rest.rest.now c.in_ok-point.rest.now c.in_ok-inputs.rest.now c.in_ok-point.point c.in_ok-inputs.inputs e rest are c.in_ok-point.ensures.small c.in_ok-inputs.ensures.small c.in_ok-rest.ensures c.in_ok-point.ensures.number c.in_ok-inputs.ensures.number is))

pub returns-clause-line : goal.returns-clause-line
returns-clause-line c =
    whole_line c.args.bytes.now c.in_ok-rest.rest.now c.in_ok-point.rest.now c.in_ok-inputs.rest.now c.in_ok-rest-2.rest.now (record { point = c.in_ok-point.point; inputs = c.in_ok-inputs.inputs }) c.in_ok-rest.ensures c.in_ok-point.ensures.number c.in_ok-inputs.ensures.number c.in_ok-rest-2.ensures

pub returns-clause-shorter : goal.returns-clause-shorter
returns-clause-shorter c =
    longer c.args.bytes.now c.in_ok-rest-2.rest.now (record { point = c.in_ok-point.point; inputs = c.in_ok-inputs.inputs })
    (whole_line c.args.bytes.now c.in_ok-rest.rest.now c.in_ok-point.rest.now c.in_ok-inputs.rest.now c.in_ok-rest-2.rest.now (record { point = c.in_ok-point.point; inputs = c.in_ok-inputs.inputs }) c.in_ok-rest.ensures c.in_ok-point.ensures.number c.in_ok-inputs.ensures.number c.in_ok-rest-2.ensures)
