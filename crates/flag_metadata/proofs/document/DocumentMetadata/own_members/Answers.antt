use Rattle.std.proofs.Common.{List, Some, ap, ◌∙◌}
use Rattle.flag_metadata.specs.View.{entries_view}
use Rattle.flag_metadata.specs.declared.member.Member.{Member}
use Rattle.flag_metadata.proofs.Sorted.{found_none, found_some}
use Rattle.flag_metadata.proofs.document.DocumentMetadata.own_members.Goals as goal

pub returns-in-Some : goal.returns-in-Some
returns-in-Some c =
    ap (λ (own : List Member). Some (entries_view own)) c.as_slice.ensures.value
    ∙ found_some c.args.key.now c.args.self.now.flags.entries c.get.result c.in-Some.own c.in-Some.is c.get.ensures.value

pub returns-in-None : goal.returns-in-None
returns-in-None c = found_none c.args.key.now c.args.self.now.flags.entries c.get.result c.in-None.is c.get.ensures.value
