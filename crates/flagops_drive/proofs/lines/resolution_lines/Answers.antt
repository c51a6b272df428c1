use Rattle.std.proofs.Common.{string_bytes}
use Rattle.flag_defs.specs.Floats.{marked_view}
use Rattle.flagops_drive.proofs.Spelled.{one_more}
use Rattle.flagops_drive.proofs.lines.resolution_lines.Goals as goal

pub loop-index-preserved : goal.loop-index-preserved
loop-index-preserved c =
    one_more (marked_view c.args.flags.now) c.args.asks.now c.args.answers.now c.loop-index.index c.index-answers-index.result c.is_spelled_at-spelled.result
    (string_bytes c.loop-index.lines) (string_bytes c.push_resolution_spelled.new.out) (string_bytes c.push_str.new.self)
    c.loop-index-test.true c.index-answers-index.is c.is_spelled_at-spelled.ensures c.in_ok-push_resolution_spelled.ensures c.in_ok-push_str.ensures.bytes c.loop-index.invariant
