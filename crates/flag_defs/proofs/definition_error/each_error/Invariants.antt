use Rattle.std.proofs.Common.{take}
use Rattle.flag_text.specs.View.{members_view}
use Rattle.flag_defs.specs.DefinitionError.{AllTell}
use Rattle.flag_defs.proofs.definition_error.each_error.Given as goal

abbrev pub invariant-loop-definition : goal.invariant-loop-definition
invariant-loop-definition l = AllTell (members_view l.evaluators) (members_view (take l.definition-index l.definitions)) l.errors.items
