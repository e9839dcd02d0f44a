-- What a token reads as at a scale, and the one reason why it does not.
use Rattle.std.specs.Prelude.{◌≡◌, ℕ, ◌<◌, ◌≤◌, List, [], length, ℤ, FitsSigned}
use Rattle.std.specs.Int.{w32}
use Rattle.first_num.specs.declared.TheConstants.{MOST_BYTES}
use Rattle.first_num.specs.declared.fault.NumFault.{NumFault}
use Rattle.first_num.specs.declared.fault.NumFault.TheVariants.{Empty, TooLong, BadDigit, OutOfRange}
use Rattle.first_num.specs.Token.{BreaksAt}
use Rattle.first_num.specs.Scaled.{IsScaled}

-- the bytes are a token of at most 64 bytes, and its scaled number n fits 32 bits
unfoldable pub ReadsAs : List ℕ → ℕ → ℤ → Type 0
ReadsAs bytes scale n = (length bytes ≤ MOST_BYTES) × IsScaled bytes scale n × FitsSigned w32 n

-- why bytes do not read as a number: the reasons rule each other out
unfoldable pub HasFault : List ℕ → ℕ → NumFault → Type 0
HasFault bytes scale Empty = bytes ≡ []
HasFault bytes scale TooLong = MOST_BYTES < length bytes
HasFault bytes scale (BadDigit place) = (0 < length bytes) × (length bytes ≤ MOST_BYTES) × BreaksAt bytes place
HasFault bytes scale OutOfRange = (length bytes ≤ MOST_BYTES) × ((n : ℤ) × IsScaled bytes scale n × ¬ (FitsSigned w32 n))
