-- What a comparison of numbers says.
use Rattle.std.proofs.Common.{ℕ, ◌<◌, ◌≤◌, arith}
use Rattle.std.specs.Prelude.{IsTrue, nat_lt, nat_le}
use Rattle.std.proofs.lemmas.Bool.Decides.{nat_tests}

pub nat_lt-true : (a b : ℕ) → IsTrue (nat_lt a b) → a < b
nat_lt-true a b is = grind (arith, nat_tests, is)

pub nat_le-true : (a b : ℕ) → IsTrue (nat_le a b) → a ≤ b
nat_le-true a b is = grind (arith, nat_tests, is)
