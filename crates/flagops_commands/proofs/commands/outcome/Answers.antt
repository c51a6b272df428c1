use Rattle.std.proofs.Common.{ap}
use Rattle.flagops_words.specs.Asked.{asked_view}
use Rattle.flagops_commands.proofs.Firsts.{as_asked, parts_told, points_told}
use Rattle.flagops_commands.proofs.commands.outcome.Goals as goal

pub returns-in-Price-clause-names : goal.returns-in-Price-clause-names
returns-in-Price-clause-names g c = as_asked (g.F.FileSet.holding c.args.files.now) _ _ c.price.result (ap asked_view c.in-Price.is) c.price.ensures.names

pub returns-in-Verify-clause-names : goal.returns-in-Verify-clause-names
returns-in-Verify-clause-names g c = as_asked (g.F.FileSet.holding c.args.files.now) _ _ c.verify.result (ap asked_view c.in-Verify.is) c.verify.ensures.names

pub returns-in-Plan-clause-names : goal.returns-in-Plan-clause-names
returns-in-Plan-clause-names g c = as_asked (g.F.FileSet.holding c.args.files.now) _ _ c.plan.result (ap asked_view c.in-Plan.is) c.plan.ensures.names

pub returns-in-Apply-clause-names : goal.returns-in-Apply-clause-names
returns-in-Apply-clause-names g c = as_asked (g.F.FileSet.holding c.args.files.now) _ _ c.apply.result (ap asked_view c.in-Apply.is) c.apply.ensures.names

pub returns-in-Keep-clause-names : goal.returns-in-Keep-clause-names
returns-in-Keep-clause-names g c = as_asked (g.F.FileSet.holding c.args.files.now) _ _ c.keep.result (ap asked_view c.in-Keep.is) c.keep.ensures.names

pub returns-in-Drive-clause-names : goal.returns-in-Drive-clause-names
returns-in-Drive-clause-names g c = as_asked (g.F.FileSet.holding c.args.files.now) _ _ c.drive.result (ap asked_view c.in-Drive.is) c.drive.ensures.names

pub returns-in-Plan-clause-numbers : goal.returns-in-Plan-clause-numbers
returns-in-Plan-clause-numbers g c = points_told (g.F.FileSet.holding c.args.files.now) _ _ _ _ _ _ _ _ c.plan.result (ap asked_view c.in-Plan.is) c.plan.ensures.numbers

pub returns-in-Price-clause-parts : goal.returns-in-Price-clause-parts
returns-in-Price-clause-parts g c = parts_told (g.F.FileSet.holding c.args.files.now) _ _ c.price.result (ap asked_view c.in-Price.is) c.price.ensures.parts

pub returns-in-Verify-clause-parts : goal.returns-in-Verify-clause-parts
returns-in-Verify-clause-parts g c = parts_told (g.F.FileSet.holding c.args.files.now) _ _ c.verify.result (ap asked_view c.in-Verify.is) c.verify.ensures.parts

pub returns-in-Plan-clause-parts : goal.returns-in-Plan-clause-parts
returns-in-Plan-clause-parts g c = parts_told (g.F.FileSet.holding c.args.files.now) _ _ c.plan.result (ap asked_view c.in-Plan.is) c.plan.ensures.parts

pub returns-in-Apply-clause-parts : goal.returns-in-Apply-clause-parts
returns-in-Apply-clause-parts g c = parts_told (g.F.FileSet.holding c.args.files.now) _ _ c.apply.result (ap asked_view c.in-Apply.is) c.apply.ensures.parts

pub returns-in-Keep-clause-parts : goal.returns-in-Keep-clause-parts
returns-in-Keep-clause-parts g c = parts_told (g.F.FileSet.holding c.args.files.now) _ _ c.keep.result (ap asked_view c.in-Keep.is) c.keep.ensures.parts
