-- The word of the field is the one that was read.
use Rattle.std.proofs.Common.{◌≡◌, ℕ, List, Ok, IfOk, IfErr, subst}
use Rattle.first_wpl.specs.declared.fault.WplFault.TheVariants.{BadWhole}
use Rattle.first_wpl.specs.Fields.{IsWhole, NotWhole}
use Rattle.first_wpl.proofs.fields.whole_at.Goals as goal

pub returns-clause-good : goal.returns-clause-good
returns-clause-good c = let P : List ℕ → Type 0 = λ w. IfOk c.whole_word.result (λ value. IsWhole c.args.limit w value) in subst P c.word.ensures c.whole_word.ensures.good

pub returns-clause-only : goal.returns-clause-only
returns-clause-only c = let P : List ℕ → Type 0 = λ w. (value : ℕ) → IsWhole c.args.limit w value → c.whole_word.result ≡ Ok value in subst P c.word.ensures c.whole_word.ensures.only

pub returns-clause-bad : goal.returns-clause-bad
returns-clause-bad c = let P : List ℕ → Type 0 = λ w. IfErr c.whole_word.result (λ told. (told ≡ BadWhole c.args.line c.args.field) × NotWhole c.args.limit w) in subst P c.word.ensures c.whole_word.ensures.bad
