-- The word of the field is the one that was read.
use Rattle.std.proofs.Common.{◌≡◌, ℕ, List, ℤ, Ok, IfOk, IfErr, subst}
use Rattle.first_num.specs.Faults.{ReadsAs, HasFault}
use Rattle.first_num.specs.declared.fault.NumFault.{NumFault}
use Rattle.first_wpl.specs.declared.fault.WplFault.TheVariants.{Num}
use Rattle.first_wpl.proofs.fields.number_at.Goals as goal

pub returns-clause-good : goal.returns-clause-good
returns-clause-good c = let P : List ℕ → Type 0 = λ w. IfOk c.number_word.result (λ value. ReadsAs w c.args.scale value) in subst P c.word.ensures c.number_word.ensures.good

pub returns-clause-only : goal.returns-clause-only
returns-clause-only c = let P : List ℕ → Type 0 = λ w. (value : ℤ) → ReadsAs w c.args.scale value → c.number_word.result ≡ Ok value in subst P c.word.ensures c.number_word.ensures.only

pub returns-clause-bad : goal.returns-clause-bad
returns-clause-bad c = let P : List ℕ → Type 0 = λ w. IfErr c.number_word.result (λ told. (fault : NumFault) × (told ≡ Num c.args.line c.args.field fault) × HasFault w c.args.scale fault) in subst P c.word.ensures c.number_word.ensures.bad
