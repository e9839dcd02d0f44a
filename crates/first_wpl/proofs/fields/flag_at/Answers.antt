-- The word of the field is the one that was read.
use Rattle.std.proofs.Common.{◌≡◌, ℕ, List, Bool, Ok, IfOk, IfErr, subst}
use Rattle.first_wpl.specs.declared.fields.TheConstants.{MAX_SMALL}
use Rattle.first_wpl.specs.declared.fault.WplFault.TheVariants.{BadWhole}
use Rattle.first_wpl.specs.Fields.{NotWhole, ReadsFlag}
use Rattle.first_wpl.proofs.fields.flag_at.Goals as goal

pub returns-clause-good : goal.returns-clause-good
returns-clause-good c = let P : List ℕ → Type 0 = λ w. IfOk c.flag_word.result (λ value. ReadsFlag w value) in subst P c.word.ensures c.flag_word.ensures.good

pub returns-clause-only : goal.returns-clause-only
returns-clause-only c = let P : List ℕ → Type 0 = λ w. (value : Bool) → ReadsFlag w value → c.flag_word.result ≡ Ok value in subst P c.word.ensures c.flag_word.ensures.only

pub returns-clause-bad : goal.returns-clause-bad
returns-clause-bad c = let P : List ℕ → Type 0 = λ w. IfErr c.flag_word.result (λ told. (told ≡ BadWhole c.args.line c.args.field) × NotWhole MAX_SMALL w) in subst P c.word.ensures c.flag_word.ensures.bad
