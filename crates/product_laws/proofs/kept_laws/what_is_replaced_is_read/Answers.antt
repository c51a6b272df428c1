use Rattle.product_laws.proofs.Replaced.{replaced_read}
use Rattle.product_laws.proofs.kept_laws.what_is_replaced_is_read.Goals as goal

pub returns : goal.returns
returns c = replaced_read c.the_bytes_of_a_part_read_as_it.ensures
