-- From field to field of a row.
use Rattle.std.proofs.Common.{◌≡◌, ℕ, ◌+◌, ◌≤◌, List, refl, sym, subst, arith, ⊎_elim}
use Rattle.std.proofs.lemmas.Bool.{cases_lt}
use Rattle.first_num.specs.Faults.{HasFault}
use Rattle.first_num.specs.declared.fault.NumFault.{NumFault}
use Rattle.first_wpl.specs.declared.fault.WplFault.{WplFault}
use Rattle.first_wpl.specs.declared.fault.WplFault.TheVariants.{BadWhole, Num}
use Rattle.first_wpl.specs.declared.fields.TheConstants.{MAX_NUMBER, PARAM_SCALE}
use Rattle.first_model.specs.declared.plan.Param.{Param}
use Rattle.first_wpl.specs.Rows.{HeadIs, ParamsAre}
use Rattle.first_wpl.specs.Fields.{word_at, NotWhole, IsNan}
use Rattle.first_wpl.specs.Faults.{IsGood, IsBad, GoodFields, FaultFrom, field_of, Place, Whole, Parameter, Number}

-- no field stands between a number and itself
pub good_none : (words : List (List ℕ)) (place from : ℕ) → GoodFields words place from from
good_none words place from number low high = absurd (omega arith)

-- one more good field
pub good_more : (words : List (List ℕ)) (place from to : ℕ) → GoodFields words place from to → IsGood (field_of to) place (word_at words to) → GoodFields words place from (to + 1)
good_more words place from to good here number low high = ⊎_elim
    (λ below. good number low below)
    (λ above. let same : to ≡ number = omega arith in
    let P : ℕ → Type 0 = λ n. IsGood (field_of n) place (word_at words n) in subst P same here)
    (cases_lt number to)

-- the first fault behind good fields
pub fault_behind : (words : List (List ℕ)) (place line from to : ℕ) (fault : WplFault) → from ≤ to → GoodFields words place from to → FaultFrom words place line to fault → FaultFrom words place line from fault
fault_behind words place line from to fault order good found = (
  found.0,
  omega (arith, found.1),
  found.2,
  (λ number low high. ⊎_elim (λ below. good number low below) (λ above. found.3 number above high) (cases_lt number to)),
  found.4,
)

-- the faults of a field
pub bad_whole : (limit place line number : ℕ) (word : List ℕ) (told : WplFault) → (told ≡ BadWhole line number) × NotWhole limit word → IsBad (Whole limit) place line number word told
bad_whole limit place line number word told bad = let P : WplFault → Type 0 = λ fault. IsBad (Whole limit) place line number word fault in subst P (sym bad.0) (refl, refl, bad.1)

pub bad_index : (place line number : ℕ) (word : List ℕ) (told : WplFault) → (told ≡ BadWhole line number) × NotWhole MAX_NUMBER word → IsBad Place place line number word told
bad_index place line number word told bad = let P : WplFault → Type 0 = λ fault. IsBad Place place line number word fault in subst P (sym bad.0) (refl, refl, bad.1)

pub bad_number : (scale place line number : ℕ) (word : List ℕ) (told : WplFault) → (fault : NumFault) × (told ≡ Num line number fault) × HasFault word scale fault → IsBad (Number scale) place line number word told
bad_number scale place line number word told bad = let P : WplFault → Type 0 = λ fault. IsBad (Number scale) place line number word fault in subst P (sym bad.1) (refl, refl, bad.2)

pub bad_param : (place line number : ℕ) (word : List ℕ) (told : WplFault) → (fault : NumFault) × (told ≡ Num line number fault) × (¬ (IsNan word)) × HasFault word PARAM_SCALE fault → IsBad Parameter place line number word told
bad_param place line number word told bad = let P : WplFault → Type 0 = λ fault. IsBad Parameter place line number word fault in subst P (sym bad.1) (refl, refl, bad.2, bad.3)

-- good fields, and good fields behind them
pub good_join : (words : List (List ℕ)) (place from mid to : ℕ) → GoodFields words place from mid → GoodFields words place mid to → GoodFields words place from to
good_join words place from mid to front behind number low high = ⊎_elim (λ below. front number low below) (λ above. behind number above high) (cases_lt number mid)

pub head_good : (words : List (List ℕ)) (place frame command : ℕ) → HeadIs words place frame command → GoodFields words place 1 5
head_good words place frame command head =
    good_more words place 1 4 (good_more words place 1 3 (good_more words place 1 2 (good_more words place 1 1 (good_none words place 1) head.index) head.current) (frame, head.frame_word)) (command, head.command_word)

pub params_good : (words : List (List ℕ)) (place : ℕ) (p1 p2 p3 p4 : Param) → ParamsAre words p1 p2 p3 p4 → GoodFields words place 5 9
params_good words place p1 p2 p3 p4 params =
    good_more words place 5 8 (good_more words place 5 7 (good_more words place 5 6 (good_more words place 5 5 (good_none words place 5) (p1, params.param1)) (p2, params.param2)) (p3, params.param3)) (p4, params.param4)
