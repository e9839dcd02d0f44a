-- The word of the field is the one that was read.
use Rattle.std.proofs.Common.{◌≡◌, ℕ, List, Ok, IfOk, IfErr, subst}
use Rattle.first_num.specs.Faults.{HasFault}
use Rattle.first_num.specs.declared.fault.NumFault.{NumFault}
use Rattle.first_model.specs.declared.plan.Param.{Param}
use Rattle.first_wpl.specs.declared.fields.TheConstants.{PARAM_SCALE}
use Rattle.first_wpl.specs.declared.fault.WplFault.TheVariants.{Num}
use Rattle.first_wpl.specs.Fields.{IsNan, ReadsParam}
use Rattle.first_wpl.proofs.fields.param_at.Goals as goal

pub returns-clause-good : goal.returns-clause-good
returns-clause-good c = let P : List ℕ → Type 0 = λ w. IfOk c.param_word.result (λ value. ReadsParam w value) in subst P c.word.ensures c.param_word.ensures.good

pub returns-clause-only : goal.returns-clause-only
returns-clause-only c = let P : List ℕ → Type 0 = λ w. (value : Param) → ReadsParam w value → c.param_word.result ≡ Ok value in subst P c.word.ensures c.param_word.ensures.only

pub returns-clause-bad : goal.returns-clause-bad
returns-clause-bad c = let P : List ℕ → Type 0 = λ w. IfErr c.param_word.result (λ told. (fault : NumFault) × (told ≡ Num c.args.line c.args.field fault) × (¬ (IsNan w)) × HasFault w PARAM_SCALE fault) in subst P c.word.ensures c.param_word.ensures.bad
