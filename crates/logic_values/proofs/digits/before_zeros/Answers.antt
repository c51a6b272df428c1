use Rattle.std.proofs.Common.{rules, ◌≡◌, ◌++◌, [], ◌∷◌, ◌∙◌}
use Rattle.logic_values.proofs.Zeros.{kept_whole, zero_dropped}
use Rattle.logic_values.proofs.digits.before_zeros.Goals as goal

pub returns-then-last-ne48 : goal.returns-then-last-ne48
returns-then-last-ne48 c =
    let is : c.loop-last.rest.now ≡ c.in-Some.others.now ++ c.in-Some.last.now ∷ [] = search rules in
    kept_whole c.loop-last.rest.now c.in-Some.others.now c.in-Some.last.now is c.if-last-ne48.true ∙ c.loop-last.invariant

pub loop-last-preserved : goal.loop-last-preserved
loop-last-preserved c =
    let is : c.loop-last.rest.now ≡ c.in-Some.others.now ++ c.in-Some.last.now ∷ [] = search rules in
    zero_dropped c.loop-last.rest.now c.in-Some.others.now c.in-Some.last.now is c.if-last-ne48.false ∙ c.loop-last.invariant
