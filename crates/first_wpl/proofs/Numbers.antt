-- Words that read as numbers.
use Rattle.std.proofs.Common.{ℕ, ℤ, ◌≤◌, List, length}
use mir.Val.{SFits}
use mir.Syntax.{w32}
use Rattle.first_num.specs.declared.TheConstants.{MOST_BYTES}
use Rattle.first_num.specs.Faults.{ReadsAs}

-- the number fits 32 bits
pub reads_fits : (word : List ℕ) (scale : ℕ) (n : ℤ) → ReadsAs word scale n → SFits w32 n
unfolding ReadsAs
reads_fits word scale n reads = reads.2

-- the word is short
pub reads_short : (word : List ℕ) (scale : ℕ) (n : ℤ) → ReadsAs word scale n → length word ≤ MOST_BYTES
unfolding ReadsAs
reads_short word scale n reads = reads.0
