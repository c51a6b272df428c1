use Rattle.flag_defs.proofs.Wholes.{whole_later}
use Rattle.flag_defs.proofs.spelled.push_variants.Goals as goal

pub push_other_variants-requires : goal.push_other_variants-requires
push_other_variants-requires c = whole_later c.args.variants.now c.requires
