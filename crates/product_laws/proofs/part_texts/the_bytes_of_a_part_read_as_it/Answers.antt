use Rattle.product_laws.proofs.Parts.{bytes_read}
use Rattle.product_laws.proofs.part_texts.the_bytes_of_a_part_read_as_it.Goals as goal

pub returns : goal.returns
returns c = λ text limit path front old back t. bytes_read text limit path front old back t
