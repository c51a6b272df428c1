use Rattle.file_diagnostics.proofs.Broken.{as_many}
use Rattle.file_diagnostics.proofs.definition_errors.of_definition_errors.Goals as goal

pub lines_of-requires : goal.lines_of-requires
lines_of-requires c = rw c.as_slice.ensures.value (as_many _ c.members_in-flags.result.now _ _ c.members_in-flags.ensures c.in_ok-found.ensures)
