use Rattle.std.proofs.Common.{string_bytes}
use Rattle.flag_defs.specs.Flags.{flags_view}
use Rattle.control_answers.specs.Snapshot.{snapshot_view}
use Rattle.control_answers.proofs.WithRule.{kept_at, unapplied}
use Rattle.control_answers.proofs.changing.with_rule.Goals as goal

pub returns-in-Ok : goal.returns-in-Ok
returns-in-Ok c =
    kept_at (snapshot_view c.args.snapshot.now) c.args.asked.now c.args.rule.now c.flag-key.result.now c.site-site.result c.flag-key.ensures c.site-site.ensures string_bytes (flags_view c.in-Ok.wanted) c.edited.result c.in-Ok.ensures.exact c.edited.ensures

pub returns-in-Err : goal.returns-in-Err
returns-in-Err c =
    unapplied (snapshot_view c.args.snapshot.now) c.args.asked.now c.args.rule.now c.flag-key.result.now c.site-site.result c.flag-key.ensures c.site-site.ensures c.in-Err.fault c.from.result c.from.ensures c.in-Err.ensures.exact
