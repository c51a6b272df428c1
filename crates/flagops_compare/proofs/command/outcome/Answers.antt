use Rattle.std.proofs.Common.{option_copied}
use Rattle.flagops_compare.specs.Loaded.{loaded_view}
use Rattle.flagops_compare.specs.Step.{is_file_fault}
use Rattle.flagops_compare.specs.Words.{comparing_view}
use Rattle.flagops_compare.proofs.Reported.{failed_behind, kept_behind, left_behind, named, noted, refused, reported, told_behind, unloaded_left}
use Rattle.flagops_compare.proofs.command.outcome.Goals as goal

pub returns-in-Ok-clause-exact : goal.returns-in-Ok-clause-exact
returns-in-Ok-clause-exact g c =
    let held = g.F.FileSet.holding in
    reported (comparing_view c.args.asked.now) (held c.args.files.now) (held c.load_both.new.files) (held c.reported.new.files) (loaded_view c.in-Ok.loaded) c.reported.result c.load_both.ensures.kept c.in-Ok.ensures.exact c.reported.ensures.exact

pub returns-in-Ok-clause-left : goal.returns-in-Ok-clause-left
returns-in-Ok-clause-left g c =
    let held = g.F.FileSet.holding in
    left_behind (option_copied c.args.asked.now.picture) (held c.args.files.now) (held c.load_both.new.files) (held c.reported.new.files) c.load_both.ensures.kept c.reported.ensures.left

pub returns-in-Ok-clause-kept : goal.returns-in-Ok-clause-kept
returns-in-Ok-clause-kept g c =
    let held = g.F.FileSet.holding in
    kept_behind c.reported.result (held c.args.files.now) (held c.load_both.new.files) (held c.reported.new.files) c.load_both.ensures.kept c.reported.ensures.kept

pub returns-in-Ok-clause-failed : goal.returns-in-Ok-clause-failed
returns-in-Ok-clause-failed g c =
    let failed = g.F.FileSet.has_failed in
    failed_behind (failed c.args.files.now) (failed c.load_both.new.files) (failed c.reported.new.files) (is_file_fault c.reported.result) c.in-Ok.ensures.failed c.reported.ensures.failed

pub returns-in-Ok-clause-notes : goal.returns-in-Ok-clause-notes
returns-in-Ok-clause-notes g c =
    noted (comparing_view c.args.asked.now) (g.F.FileSet.holding c.args.files.now) (loaded_view c.in-Ok.loaded) c.reported.result c.in-Ok.ensures.exact c.reported.ensures.notes

pub returns-in-Ok-clause-names : goal.returns-in-Ok-clause-names
returns-in-Ok-clause-names g c = told_behind (comparing_view c.args.asked.now) (g.F.FileSet.holding c.args.files.now) (loaded_view c.in-Ok.loaded) c.reported.result c.in-Ok.ensures.exact c.reported.ensures.names

pub returns-in-Err-clause-exact : goal.returns-in-Err-clause-exact
returns-in-Err-clause-exact g c =
    let held = g.F.FileSet.holding in
    refused (comparing_view c.args.asked.now) (held c.args.files.now) (held c.load_both.new.files) c.in-Err.refused c.of.result c.of.ensures.refusal c.load_both.ensures.kept c.in-Err.ensures.exact

pub returns-in-Err-clause-left : goal.returns-in-Err-clause-left
returns-in-Err-clause-left g c =
    let held = g.F.FileSet.holding in
    unloaded_left (option_copied c.args.asked.now.picture) (held c.args.files.now) (held c.load_both.new.files) c.load_both.ensures.kept

pub returns-in-Err-clause-names : goal.returns-in-Err-clause-names
returns-in-Err-clause-names g c =
    named (comparing_view c.args.asked.now) (g.F.FileSet.holding c.args.files.now) c.in-Err.refused c.of.result c.of.ensures.refusal c.of.ensures.remark c.in-Err.ensures.names
