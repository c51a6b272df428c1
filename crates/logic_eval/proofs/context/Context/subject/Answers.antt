use Rattle.flag_text.specs.View.{members_view}
use Rattle.flag_text.proofs.Halving.{names_rise-tidy}
use Rattle.logic_eval.proofs.context.Context.subject.Goals as goal

pub member_by_halving-requires : goal.member_by_halving-requires
member_by_halving-requires c = record { rising = names_rise-tidy (members_view c.args.self.now.members.now) c.args.self.now.tidy }
