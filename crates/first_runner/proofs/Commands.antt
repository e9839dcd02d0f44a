-- Words name one command at most.
use Rattle.std.proofs.Common.{◌≡◌, ℕ, List, [], ◌∷◌, length, slice_index_or, refl, sym, ap, ◌∙◌, arith}
use Rattle.std.specs.Prelude.{codes}
use Rattle.std.specs.Borrow.{Bor}
use Rattle.first_model.specs.declared.plan.PlanType.{PlanType}
use Rattle.first_model.specs.declared.plan.PlanType.TheVariants.{Mission, Fence, Safe}
use Rattle.first_record.specs.Plans.{kind_text}
use Rattle.first_runner.specs.declared.words.Command.{Command}
use Rattle.first_runner.specs.declared.words.Command.TheVariants.{Replay, Check}
use Rattle.first_runner.specs.Commands.{IsCommand}

one_kind : (a b : PlanType) → kind_text a ≡ kind_text b → a ≡ b
one_kind Mission Mission is = refl
one_kind Mission Fence is = cc
one_kind Mission Safe is = cc
one_kind Fence Mission is = cc
one_kind Fence Fence is = refl
one_kind Fence Safe is = cc
one_kind Safe Mission is = cc
one_kind Safe Fence is = cc
one_kind Safe Safe is = refl

pub one_command : (words : List (Bor (List ℕ))) (a b : Command) → IsCommand words a → IsCommand words b → a ≡ b
one_command [] a b is also = absurd is
one_command (word ∷ []) Replay Replay is also = refl
one_command (word ∷ []) Replay (Check kind) is also = absurd also
one_command (word ∷ []) (Check kind) b is also = absurd is
one_command (word ∷ value ∷ []) Replay b is also = absurd is
one_command (word ∷ value ∷ []) (Check kind) Replay is also = absurd also
one_command (word ∷ value ∷ []) (Check kind) (Check other) is also = ap Check (one_kind kind other (sym is.1 ∙ also.1))
one_command (word ∷ value ∷ next ∷ more) a b is also = absurd is

-- two words, the first of which is `check`
pub two_words : (words : List (Bor (List ℕ))) (first second : Bor (List ℕ)) (kind : PlanType) → length words ≡ 2 → (slice_index_or words 0 first).now ≡ codes "check" → (slice_index_or words 1 second).now ≡ kind_text kind → IsCommand words (Check kind)
two_words [] first second kind two is named = cc
two_words (word ∷ []) first second kind two is named = cc
two_words (word ∷ value ∷ []) first second kind two is named = (is, named)
two_words (word ∷ value ∷ next ∷ more) first second kind two is named = absurd (omega (arith, two))
