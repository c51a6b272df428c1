use Rattle.note_log.proofs.Recalling.{recalls_each}
use Rattle.note_log.proofs.recalled.recall_lines.Goals as goal

pub returns-clause-recalls : goal.returns-clause-recalls
returns-clause-recalls c fits =
    recalls_each c.args.lines.now c.lines.rest.now c.args.number c.args.table.now.cap c.args.table.now.entries c.lines.table.entries c.lines.invariant.0 c.requires c.in_default.ensures.parts fits
