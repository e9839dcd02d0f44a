-- Messages and answers that were printed are read again.
use Rattle.std.proofs.Common.{◌≡◌, ℕ, ◌^◌, ◌<◌, inl, inr, List, ◌++◌, refl, sym, ap, subst, ◌∙◌, append_assoc, arith}
use Rattle.std.specs.Prelude.{decimal, codes}
use Rattle.mission_model.specs.declared.message.AckCode.{AckCode}
use Rattle.mission_model.specs.declared.message.AckCode.TheVariants.{Accepted, Error, UnsupportedFrame, Unsupported, NoSpace, Invalid, InvalidParam1, InvalidParam2, InvalidParam3, InvalidParam4, InvalidParam5X, InvalidParam6Y, InvalidParam7, InvalidSequence, Denied, OperationCancelled}
use Rattle.mission_model.specs.declared.message.Answer.{Answer}
use Rattle.mission_model.specs.declared.message.Answer.TheVariants.{RequestInt, Ack, CurrentIs, Writes, Commits, Nothing}
use Rattle.mission_model.specs.declared.message.Said.{Said}
use Rattle.mission_model.specs.declared.message.Said.TheVariants as said
use Rattle.record_text.specs.Plans.{item_text}
use Rattle.record_text.specs.Requests.{place_in_plan_text}
use Rattle.record_text.specs.Messages.{IsTypeNumber, IsPrintableSaid, type_text, said_text, code_number, answer_text}
use Rattle.record_text.specs.Typed.{IsTypedSaid, IsTypedAnswer}
use Rattle.record_text.specs.Numbers.{EndsNumber}
use Rattle.record_text.specs.MessageReading.{type_at, count_at, said_c_at, said_at, high_code_of, code_of, current_at, writes_at, answer_at}
use Rattle.record_text.proofs.Joined.{join-4}
use Rattle.record_text.proofs.Numbers.{number_at-again}
use Rattle.record_text.proofs.PlanLaws.{item-again}
use Rattle.record_text.proofs.RequestLaws.{place_in_plan-again}

type-again : (kind : ℕ) (rest : List ℕ) → IsTypeNumber kind → type_at (type_text kind ++ rest) ≡ (kind, rest)
unfolding type_at
type-again kind rest (inl same) = subst (λ (k : ℕ). type_at (type_text k ++ rest) ≡ (k, rest)) (sym same) refl
type-again kind rest (inr (inl same)) = subst (λ (k : ℕ). type_at (type_text k ++ rest) ≡ (k, rest)) (sym same) refl
type-again kind rest (inr (inr (inl same))) = subst (λ (k : ℕ). type_at (type_text k ++ rest) ≡ (k, rest)) (sym same) refl
type-again kind rest (inr (inr (inr same))) = subst (λ (k : ℕ). type_at (type_text k ++ rest) ≡ (k, rest)) (sym same) refl

pub said-again : (said : Said) (rest : List ℕ) → IsPrintableSaid said → IsTypedSaid said → EndsNumber rest → said_at (said_text said ++ rest) ≡ (said, rest)
unfolding said_at said_c_at count_at
said-again (said.Count kind count) rest is fits ends =
    let behind : List ℕ = codes " " ++ (decimal count ++ rest) in
    let text : said_text (said.Count kind count) ++ rest ≡ codes "count " ++ (type_text kind ++ behind) = join-4 (codes "count ") (type_text kind) (codes " ") (decimal count) rest in
    ap said_at text ∙ rw (type-again kind behind is, number_at-again (2 ^ 16) count rest (omega arith) fits ends) refl
said-again (said.Item seq) rest is fits ends = rw (number_at-again (2 ^ 16) seq rest (omega arith) fits ends) refl
said-again (said.ClearAll kind) rest is fits ends = rw (type-again kind rest is) refl
said-again (said.SetCurrent seq) rest is fits ends = rw (number_at-again (2 ^ 16) seq rest (omega arith) fits ends) refl
said-again said.Cancel rest is fits ends = refl
said-again said.Timeout rest is fits ends = refl

small_code : (code : AckCode) → code_number code < 2 ^ 8
small_code Accepted = omega arith
small_code Error = omega arith
small_code UnsupportedFrame = omega arith
small_code Unsupported = omega arith
small_code NoSpace = omega arith
small_code Invalid = omega arith
small_code InvalidParam1 = omega arith
small_code InvalidParam2 = omega arith
small_code InvalidParam3 = omega arith
small_code InvalidParam4 = omega arith
small_code InvalidParam5X = omega arith
small_code InvalidParam6Y = omega arith
small_code InvalidParam7 = omega arith
small_code InvalidSequence = omega arith
small_code Denied = omega arith
small_code OperationCancelled = omega arith

code-again : (code : AckCode) → code_of (code_number code) ≡ code
unfolding code_of high_code_of
code-again Accepted = refl
code-again Error = refl
code-again UnsupportedFrame = refl
code-again Unsupported = refl
code-again NoSpace = refl
code-again Invalid = refl
code-again InvalidParam1 = refl
code-again InvalidParam2 = refl
code-again InvalidParam3 = refl
code-again InvalidParam4 = refl
code-again InvalidParam5X = refl
code-again InvalidParam6Y = refl
code-again InvalidParam7 = refl
code-again InvalidSequence = refl
code-again Denied = refl
code-again OperationCancelled = refl

pub answer-again : (answer : Answer) (rest : List ℕ) → IsTypedAnswer answer → EndsNumber rest → answer_at (answer_text answer ++ rest) ≡ (answer, rest)
unfolding answer_at current_at writes_at
answer-again (RequestInt seq) rest fits ends = rw (number_at-again (2 ^ 16) seq rest (omega arith) fits ends) refl
answer-again (Ack code) rest fits ends = rw (number_at-again (2 ^ 8) (code_number code) rest (omega arith) (small_code code) ends, code-again code) refl
answer-again (CurrentIs seq) rest fits ends = rw (number_at-again (2 ^ 16) seq rest (omega arith) fits ends) refl
answer-again (Writes kind id seq item) rest fits ends =
    let behind : List ℕ = codes " " ++ (item_text item ++ rest) in
    let text : answer_text (Writes kind id seq item) ++ rest ≡ codes "write " ++ (place_in_plan_text kind id seq ++ behind) = simp append_assoc in
    ap answer_at text ∙ rw (place_in_plan-again kind id seq behind fits.0 fits.1 refl, item-again item rest fits.2) refl
answer-again (Commits kind id count) rest fits ends = rw (place_in_plan-again kind id count rest fits.0 fits.1 ends) refl
answer-again Nothing rest fits ends = refl
