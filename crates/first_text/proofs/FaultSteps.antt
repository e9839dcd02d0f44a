-- The first fault of a text, by what was found.
use Rattle.std.proofs.Common.{◌≡◌, ℕ, ◌+◌, ◌<◌, ◌≤◌, List, ◌∷◌, length, Some, None, sym, ◌∙◌, ap, cond}
use Rattle.std.specs.Prelude.{position}
use Rattle.std.specs.List.{position_from}
use Rattle.std.proofs.lemmas.Bool.{lt-ltb, le-ltb}
use Rattle.first_text.specs.declared.fault.TextFault.TheVariants.{NotAscii, LongLine}
use Rattle.first_text.specs.Lines.{lines_of}
use Rattle.first_text.specs.Faults.{is_high, is_long, fault_of, text_fault}

pub fault_high : (text : List ℕ) (place : ℕ) → Some place ≡ position is_high text → text_fault text ≡ Some (NotAscii place)
unfolding text_fault
fault_high text place found = ap (λ high. fault_of high (position_from is_long 1 (lines_of text))) (sym found)

pub fault_long : (text : List ℕ) (number : ℕ) → position is_high text ≡ None → position_from is_long 1 (lines_of text) ≡ Some number → text_fault text ≡ Some (LongLine number)
unfolding text_fault
fault_long text number ascii long = ap (λ high. fault_of high (position_from is_long 1 (lines_of text))) ascii ∙ ap (fault_of None) long

pub fault_none : (text : List ℕ) → position is_high text ≡ None → position_from is_long 1 (lines_of text) ≡ None → text_fault text ≡ None
unfolding text_fault
fault_none text ascii long = ap (λ high. fault_of high (position_from is_long 1 (lines_of text))) ascii ∙ ap (fault_of None) long

-- the first line is long, or the first long line is among the others
pub long_here : (number : ℕ) (line : List ℕ) (more : List (List ℕ)) → 512 < length line → position_from is_long number (line ∷ more) ≡ Some number
long_here number line more long = ap (λ b. cond b (Some number) (position_from is_long (number + 1) more)) (lt-ltb 512 (length line) long)

pub short_here : (number : ℕ) (line : List ℕ) (more : List (List ℕ)) → length line ≤ 512 → position_from is_long number (line ∷ more) ≡ position_from is_long (number + 1) more
short_here number line more short = ap (λ b. cond b (Some number) (position_from is_long (number + 1) more)) (le-ltb 512 (length line) short)
