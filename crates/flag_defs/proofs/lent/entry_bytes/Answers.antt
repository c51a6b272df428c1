use Rattle.std.proofs.Common.{ap, ◌∙◌}
use Rattle.flag_defs.specs.Flag.{flag_view}
use Rattle.flag_defs.specs.PrintedBytes.{with_member}
use Rattle.flag_defs.proofs.Lawful.{lawful_flag}
use Rattle.flag_defs.proofs.PrintedBytes.{entry-counted}
use Rattle.flag_defs.proofs.lent.entry_bytes.Goals as goal

pub returns : goal.returns
returns c =
    let f = c.args.flag.now in
    let k = c.args.key.now in
    c.with_member.ensures ∙ (ap (λ n. with_member k n 0) c.flag_bytes.ensures ∙ entry-counted k (flag_view f) (lawful_flag f))
