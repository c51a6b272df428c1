-- Which names are wanted.
use Rattle.std.proofs.Common.{◌≡◌, ℕ, ◌<◌, true, nat_lt, arith}
use Rattle.std.proofs.lemmas.Bool.Decides.{nat_tests}

pub less_from : (a b : ℕ) → nat_lt a b ≡ true → a < b
less_from a b is = grind (arith, nat_tests)

pub less_true : (a b : ℕ) → a < b → nat_lt a b ≡ true
less_true a b less = grind (arith, nat_tests)
