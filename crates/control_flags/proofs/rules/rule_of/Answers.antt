use Rattle.std.proofs.Common.{◌≢◌, ap, rules, sym}
use Rattle.logic_ast.specs.declared.fault.LogicFault.TheVariants.{WantOfMemory}
use Rattle.control_flags.specs.Sites.{entries_in}
use Rattle.control_flags.proofs.rules.rule_of.Goals as goal

pub returns-in-Ok : goal.returns-in-Ok
returns-in-Ok c = sym (ap entries_in c.in-Ok.ensures.exact)

pub returns-in-Err : goal.returns-in-Err
returns-in-Err c =
    let other : c.in-Err.field-0 ≢ WantOfMemory = search rules in
    sym (ap entries_in (c.in-Err.ensures.exact other))
