use Rattle.std.proofs.Common.{codes, sym}
use Rattle.flag_defs.proofs.Meant.{tidy_named_object}
use Rattle.flag_text.proofs.Halving.{names_rise-tidy}
use Rattle.flag_text.specs.View.{members_view, view}
use Rattle.flagops_checks.proofs.judging.definitions_in.Goals as goal

pub returns-in-Some-clause-rising : goal.returns-in-Some-clause-rising
returns-in-Some-clause-rising c =
    let members = members_view c.in-Some.members.now in
    names_rise-tidy members (tidy_named_object (codes "flags") (view c.args.document.now) members c.requires (sym c.in-Some.ensures))
