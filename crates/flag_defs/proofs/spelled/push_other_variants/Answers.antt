use Rattle.std.proofs.Common.{ap, ◌∙◌}
use Rattle.flag_text.specs.Shape.{is_whole}
use Rattle.flag_text.specs.View.{view}
use Rattle.flag_text.proofs.Views.{Named}
use Rattle.flag_defs.proofs.Wholes.{whole_at}
use Rattle.flag_defs.proofs.spelled.push_other_variants.Goals as goal

pub push_variant-requires : goal.push_variant-requires
push_variant-requires c =
    let x = c.variant-item.result in
    ap (λ (y : Named). is_whole (view y.1)) c.variant-item.is ∙ whole_at c.args.variants.now c.loop-variant.variant-index x c.loop-variant-test.true c.requires
