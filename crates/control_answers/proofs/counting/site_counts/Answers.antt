use Rattle.flag_defs.specs.Flags.{flags_view}
use Rattle.note_streams.specs.LogLines.{files_view}
use Rattle.control_answers.proofs.Filled.{site_counted}
use Rattle.control_answers.proofs.counting.site_counts.Goals as goal

pub returns : goal.returns
returns c =
    site_counted (flags_view c.args.flags.now) (files_view c.args.files.now) c.in_ok-counts.counts.entries c.fill_sites.new.counts.entries c.in_ok-counts.ensures c.in_ok-fill_sites.ensures
