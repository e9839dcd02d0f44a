-- What a call that appends leaves, whether it was able to go to its end or not.
use Rattle.std.specs.Prelude.{◌≡◌, ℕ, List, ◌++◌}

-- the new bytes go on from the old ones
pub record Extends (old new : List ℕ) : Type 0 where
  pub more : List ℕ
  pub text : new ≡ old ++ more
