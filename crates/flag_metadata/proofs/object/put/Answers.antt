use Rattle.std.proofs.Common.{ap, string_bytes, ◌∙◌}
use Rattle.flag_metadata.specs.Spelled.{with_entry}
use Rattle.flag_metadata.specs.View.{lent_view}
use Rattle.flag_metadata.proofs.Sorted.{put_lent}
use Rattle.flag_metadata.proofs.object.put.Goals as goal

pub returns : goal.returns
returns c =
    put_lent c.args.by_name.now.entries c.insert.new.self.entries c.as_str.result c.as_str-2.result c.in_ok-insert.ensures.entries
    ∙ (ap (λ name. with_entry (lent_view c.args.by_name.now.entries) (name, c.as_str-2.result.now)) c.as_str.ensures.value
    ∙ ap (λ spelling. with_entry (lent_view c.args.by_name.now.entries) (string_bytes c.args.member.now.name, spelling)) c.as_str-2.ensures.value)
