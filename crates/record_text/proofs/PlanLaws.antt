-- The parts of plans that were printed are read again.
use Rattle.std.proofs.Common.{◌≡◌, ℕ, zero, suc, ◌+◌, ◌^◌, ◌≤◌, Bool, true, false, cond, eqb, ltb, List, [], ◌∷◌, ◌++◌, length, refl, ap, ◌∙◌, append_assoc, arith}
use Rattle.std.specs.Prelude.{decimal, codes, max, ℤ}
use Rattle.std.specs.Fmt.{signed_decimal}
use Rattle.mission_model.specs.Pairs.{with_pair}
use Rattle.mission_model.specs.declared.plan.Item.{Item}
use Rattle.mission_model.specs.declared.plan.Param.{Param}
use Rattle.mission_model.specs.declared.plan.Param.TheVariants.{Unset, Milli}
use Rattle.mission_model.specs.declared.plan.PlanHead.{PlanHead}
use Rattle.mission_model.specs.declared.plan.PlanType.{PlanType}
use Rattle.mission_model.specs.declared.plan.PlanType.TheVariants.{Mission, Fence, Safe}
use Rattle.record_text.specs.Plans.{kind_text, head_text, param_text, flag_text, params_text, place_text, item_text, pair_text}
use Rattle.record_text.specs.Typed.{IsTypedParam, IsTypedPlace, IsTypedParams, IsTypedItem, IsTypedHead, IsTypedPair}
use Rattle.record_text.specs.Numbers.{EndsNumber}
use Rattle.record_text.specs.PlanReading.{kind_at, head_at, param_at, flag_at, place_at, params_at, item_at, begins_pair, pair_at, pairs_from}
use Rattle.record_text.proofs.Numbers.{number_at-again, signed-again, signed-minus}

pub kind-again : (kind : PlanType) (rest : List ℕ) → kind_at (kind_text kind ++ rest) ≡ (kind, rest)
unfolding kind_at
kind-again Mission rest = refl
kind-again Fence rest = refl
kind-again Safe rest = refl

pub head-again : (head : PlanHead) (rest : List ℕ) → IsTypedHead head → EndsNumber rest → head_at (head_text head ++ rest) ≡ (head, rest)
unfolding head_at
head-again head rest fits ends =
    let text : head_text head ++ rest ≡ decimal head.id ++ (codes "/" ++ (decimal head.count ++ rest)) = simp append_assoc in
    ap head_at text ∙ rw (number_at-again (2 ^ 32) head.id (codes "/" ++ (decimal head.count ++ rest)) (omega arith) fits.0 refl, number_at-again (2 ^ 16) head.count rest (omega arith) fits.1 ends) refl

pub flag-again : (flag : Bool) (rest : List ℕ) → flag_at (flag_text flag ++ rest) ≡ (flag, rest)
unfolding flag_at
flag-again true rest = refl
flag-again false rest = refl

pub param-again : (param : Param) (rest : List ℕ) → IsTypedParam param → EndsNumber rest → param_at (param_text param ++ rest) ≡ (param, rest)
unfolding param_at
param-again Unset rest fits ends = rw ends refl
param-again (Milli thousandths) rest fits ends =
    rw (signed-minus thousandths rest fits, signed-again thousandths rest fits ends) refl

pub place-again : (x y z : ℤ) (rest : List ℕ) → IsTypedPlace x y z → EndsNumber rest → place_at (place_text x y z ++ rest) ≡ ((x, y, z), rest)
unfolding place_at
place-again x y z rest fits ends =
    let text : place_text x y z ++ rest ≡ signed_decimal x ++ (codes " " ++ (signed_decimal y ++ (codes " " ++ (signed_decimal z ++ rest)))) = simp append_assoc in
    ap place_at text
    ∙ rw (
      signed-again x (codes " " ++ (signed_decimal y ++ (codes " " ++ (signed_decimal z ++ rest)))) fits.0 refl,
      signed-again y (codes " " ++ (signed_decimal z ++ rest)) fits.1 refl,
      signed-again z rest fits.2 ends,
    ) refl

pub params-again : (item : Item) (rest : List ℕ) → IsTypedParams item → EndsNumber rest → params_at (params_text item ++ rest) ≡ ((item.p1, item.p2, item.p3, item.p4), rest)
unfolding params_at
params-again item rest fits ends =
    let text : params_text item ++ rest ≡ param_text item.p1 ++ (codes " " ++ (param_text item.p2 ++ (codes " " ++ (param_text item.p3 ++ (codes " " ++ (param_text item.p4 ++ rest)))))) = simp append_assoc in
    ap params_at text
    ∙ rw (
      param-again item.p1 (codes " " ++ (param_text item.p2 ++ (codes " " ++ (param_text item.p3 ++ (codes " " ++ (param_text item.p4 ++ rest)))))) fits.0 refl,
      param-again item.p2 (codes " " ++ (param_text item.p3 ++ (codes " " ++ (param_text item.p4 ++ rest)))) fits.1 refl,
      param-again item.p3 (codes " " ++ (param_text item.p4 ++ rest)) fits.2 refl,
      param-again item.p4 rest fits.3 ends,
    ) refl

pub item-again : (item : Item) (rest : List ℕ) → IsTypedItem item → item_at (item_text item ++ rest) ≡ (item, rest)
unfolding item_at
item-again item rest fits =
    let end : List ℕ = codes " " ++ (flag_text item.auto ++ rest) in
    let place : List ℕ = codes " " ++ (place_text item.x item.y item.z ++ end) in
    let params : List ℕ = codes " " ++ (params_text item ++ place) in
    let command : List ℕ = codes " " ++ (decimal item.command ++ params) in
    let text : item_text item ++ rest ≡ decimal item.frame ++ command = simp append_assoc in
    ap item_at text
    ∙ rw (
      number_at-again (2 ^ 16) item.frame command (omega arith) fits.0 refl,
      number_at-again (2 ^ 16) item.command params (omega arith) fits.1 refl,
      params-again item place fits.2 refl,
      place-again item.x item.y item.z end fits.3 refl,
      flag-again item.auto rest,
    ) refl

-- a pair's text is read behind its space
pub pair-again : (pair : ℕ × ℕ) (rest : List ℕ) → IsTypedPair pair → EndsNumber rest → pair_at (pair_text pair ++ rest) ≡ (pair, rest)
unfolding pair_at
pair-again (seq, used) rest fits ends =
    let text : pair_text (seq, used) ++ rest ≡ codes " " ++ (decimal seq ++ (codes ":" ++ (decimal used ++ rest))) = simp append_assoc in
    ap pair_at text ∙ rw (number_at-again (2 ^ 16) seq (codes ":" ++ (decimal used ++ rest)) (omega arith) fits.0 refl, number_at-again (2 ^ 16) used rest (omega arith) fits.1 ends) refl

-- no room is left, or no pair stands there
pub pairs_from-stops : (room : ℕ) (pairs : List (ℕ × ℕ)) (bytes : List ℕ) → begins_pair bytes ≡ false → pairs_from room pairs bytes ≡ (pairs, bytes)
unfolding pairs_from
pairs_from-stops zero pairs bytes none = refl
pairs_from-stops (suc room) pairs bytes none = rw none refl

pub pairs_from-full : (room : ℕ) (pairs : List (ℕ × ℕ)) (bytes : List ℕ) → room ≡ 0 → pairs_from room pairs bytes ≡ (pairs, bytes)
unfolding pairs_from
pairs_from-full zero pairs bytes none = refl
pairs_from-full (suc room) pairs bytes none = absurd (omega arith)

pub pairs_from-more : (room less : ℕ) (pairs : List (ℕ × ℕ)) (bytes : List ℕ) → room ≡ less + 1 → begins_pair bytes ≡ true
    → pairs_from room pairs bytes ≡ pairs_from less (with_pair pairs (pair_at bytes).0.0 (max (pair_at bytes).0.1 1)) (pair_at bytes).1
unfolding pairs_from
pairs_from-more zero less pairs bytes more there = absurd (omega arith)
pairs_from-more (suc room) less pairs bytes more there =
    let same : room ≡ less = omega arith in
    rw (there, same) refl

with_pair_cases : (same less : Bool) (other count : ℕ) (pairs : List (ℕ × ℕ)) (seq used : ℕ) → length (with_pair pairs seq used) ≤ length pairs + 1
    → length (cond same ((seq, used) ∷ pairs) (cond less ((seq, used) ∷ (other, count) ∷ pairs) ((other, count) ∷ with_pair pairs seq used))) ≤ suc (length pairs) + 1
with_pair_cases true less other count pairs seq used before = omega arith
with_pair_cases false true other count pairs seq used before = omega arith
with_pair_cases false false other count pairs seq used before = omega arith

pub length-with_pair : (pairs : List (ℕ × ℕ)) (seq used : ℕ) → length (with_pair pairs seq used) ≤ length pairs + 1
length-with_pair [] seq used = omega arith
length-with_pair ((other, count) ∷ pairs) seq used = with_pair_cases (eqb other seq) (ltb seq other) other count pairs seq used (length-with_pair pairs seq used)
