use Rattle.product_laws.proofs.WithFloats.{replaced_with_floats}
use Rattle.product_laws.proofs.kept_laws.what_is_replaced_with_floats_is_read.Goals as goal

pub returns : goal.returns
returns c = replaced_with_floats
