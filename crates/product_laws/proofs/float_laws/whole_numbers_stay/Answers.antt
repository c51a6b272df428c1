use Rattle.product_laws.proofs.KeptNumbers as numbers
use Rattle.product_laws.proofs.float_laws.whole_numbers_stay.Goals as goal

pub returns : goal.returns
returns c = numbers.whole_numbers_stay c.the_bytes_of_a_part_read_as_it.ensures
