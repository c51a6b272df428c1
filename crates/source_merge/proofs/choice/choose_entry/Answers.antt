use Rattle.flag_defs.specs.Flag.{flag_view}
use Rattle.flag_defs.specs.Floats.{floats_of}
use Rattle.source_merge.proofs.Lent.{put_lent}
use Rattle.source_merge.proofs.choice.choose_entry.Goals as goal

pub returns-clause-entry : goal.returns-clause-entry
returns-clause-entry c = put_lent flag_view c.args.chosen.now.entries c.insert.new.self.entries c.args.key c.args.flag c.in_ok-insert.ensures.entries

pub returns-clause-floats : goal.returns-clause-floats
returns-clause-floats c = put_lent floats_of c.args.chosen.now.entries c.insert.new.self.entries c.args.key c.args.flag c.in_ok-insert.ensures.entries
