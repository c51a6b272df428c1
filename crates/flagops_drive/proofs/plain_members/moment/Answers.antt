use Rattle.std.proofs.Common.{pos, sym}
use Rattle.std.specs.Prelude.{codes}
use Rattle.flag_text.specs.Shape.{whole}
use Rattle.flag_text.specs.View.{view}
use Rattle.flagops_drive.proofs.PlainMembers.{moment_is, same_comes}
use Rattle.flagops_drive.proofs.plain_members.moment.Goals as goal

pub returns-in-Some-clause-value : goal.returns-in-Some-clause-value
returns-in-Some-clause-value c =
    same_comes (codes "moment") c.args.reader.now (view c.in_ok-moment.moment) (whole (pos c.in-Some.moment)) c.tree.new.reader (moment_is (view c.in_ok-moment.moment) c.in-Some.moment (sym c.in-Some.ensures.value)) c.in_ok-moment.ensures.value
