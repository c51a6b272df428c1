-- The limits of the product: how large what is read or written may be, and how many of a kind there may be. Each is the number
-- that the constant of its name has, and the specifications of the crates cite it here.
use Rattle.std.specs.Prelude.{ℕ, ◌^◌, ◌-◌}

-- the most bytes of a document, request, context, file of keys or of asks, and of a line of contexts
abbrev pub text_bytes : ℕ
text_bytes = 4194304

-- the most bytes of a rule, plan, ramp or tally file
abbrev pub file_bytes : ℕ
file_bytes = 67108864

-- the most flags of a document, and of several that are merged
abbrev pub flags : ℕ
flags = 10000

-- the most variants of a flag, and names of a rule that is planned on
abbrev pub variants : ℕ
variants = 64

-- the most nodes of a targeting, what its references lead to counted at each of them
abbrev pub expression_nodes : ℕ
expression_nodes = 10000

-- how deep the nodes of a targeting nest at most
abbrev pub expression_levels : ℕ
expression_levels = 100

-- the latest moment of an evaluation, in seconds since 1970: the largest whole number of a context
abbrev pub latest_moment : ℕ
latest_moment = 2 ^ 53 - 1

-- how many numbers a site may have: they are below it
abbrev pub sites : ℕ
sites = 2 ^ 32

-- the most bytes of a hash input that is noted
abbrev pub input_bytes : ℕ
input_bytes = 1024

-- the most inputs of a page
abbrev pub page_inputs : ℕ
page_inputs = 1000000

-- the most inputs on one point of a tally or of a rule that is planned on
abbrev pub point_inputs : ℕ
point_inputs = 67108864

-- the most inputs on all points of a tally or of a rule that is planned on
abbrev pub tally_inputs : ℕ
tally_inputs = 8589934592

-- the largest total of a rule that is planned on: the most points of a plan or tally
abbrev pub planned_total : ℕ
planned_total = 1000000

-- the greatest price of a change
abbrev pub largest_price : ℕ
largest_price = 1000000

-- the most documents that are merged
abbrev pub sources : ℕ
sources = 16

-- the most seats of a recording or of a shared snapshot, and the most workers or subscribers that take them
abbrev pub seats : ℕ
seats = 64

-- the most steps of a ramp
abbrev pub ramp_steps : ℕ
ramp_steps = 100

-- the bytes of the stack of a thread
abbrev pub stack_bytes : ℕ
stack_bytes = 4194304

-- how often a read or write that a signal interrupts is made again
abbrev pub interruptions : ℕ
interruptions = 1000000
