use Rattle.std.proofs.Common.{string_bytes}
use Rattle.std.proofs.lemmas.Result.{IfOk-weaker}
use Rattle.file_diagnostics.specs.Broken.{IsBrokenLine}
use Rattle.file_diagnostics.proofs.definition_errors.line.Goals as goal

-- the line begins with what is said of the flag, and the reason stands between the member and the rule
pub returns : goal.returns
unfolding IsBrokenLine
returns c =
    IfOk-weaker c.format.result _ _
    (λ s e. (string_bytes c.in_ok-why.why, rw (c.in_ok-flag.ensures, c.rule_member-member.ensures, c.rule_name-rule.ensures) at e))
    c.format.ensures.ok
