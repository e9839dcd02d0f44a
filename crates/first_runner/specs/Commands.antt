-- The commands, by the words that name them, and what each leaves.
use Rattle.std.specs.Prelude.{◌≡◌, ℕ, List, [], ◌∷◌, codes, Option}
use Rattle.std.specs.Borrow.{Bor}
use Rattle.first_model.specs.declared.flight_line.Line.{Line}
use Rattle.first_record.specs.Plans.{kind_text}
use Rattle.first_runner.specs.declared.status.Status.{Status}
use Rattle.first_runner.specs.declared.status.Status.TheVariants as status
use Rattle.first_runner.specs.declared.words.Command.{Command}
use Rattle.first_runner.specs.declared.words.Command.TheVariants.{Replay, Check}
use Rattle.first_runner.specs.Outcome.{Cause, IsGiven, Completes}
use Rattle.first_runner.specs.Checked.{GivesNothing, Checks, CompletesCheck}

-- the words name a command: `replay`, or `check` and the word of a plan's type
abbrev pub IsCommand : List (Bor (List ℕ)) → Command → Type 0
IsCommand (word ∷ []) Replay = word.now ≡ codes "replay"
IsCommand (word ∷ value ∷ []) (Check kind) = (word.now ≡ codes "check") × (value.now ≡ kind_text kind)
IsCommand words command = ⊥

-- what a command leaves: its status and its lines, the counts and the bytes of the source, and then those of the sink
abbrev pub Ran : Command → Status → List Line → ℕ → ℕ → Option (List ℕ) → Option (List ℕ) → ℕ → ℕ → Option (List ℕ) → Option (List ℕ) → Type 0
Ran Replay given lines reads reads' left left' faults faults' before after = Cause given lines reads reads' left left' × IsGiven given lines faults faults' before after
Ran (Check kind) given lines reads reads' left left' faults faults' before after = (lines ≡ []) × Checks kind given reads reads' left left' faults faults' before after

-- what words that name no command leave: source and sink are as they were
pub record RanNothing (given : Status) (lines : List Line) (reads reads' : ℕ) (left left' : Option (List ℕ)) (faults faults' : ℕ) (before after : Option (List ℕ)) : Type 0 where
  pub usage : given ≡ status.Usage
  pub none : lines ≡ []
  pub source : reads' ≡ reads
  pub kept : left' ≡ left
  pub sink : GivesNothing faults faults' before after

-- what the source tells is served to its end where neither source nor sink fails: but for want of memory
abbrev pub CompletesBy : Command → Option (List ℕ) → ℕ → ℕ → ℕ → ℕ → Status → Type 0
CompletesBy Replay left reads reads' faults faults' given = Completes left reads reads' faults faults' given
CompletesBy (Check kind) left reads reads' faults faults' given = CompletesCheck left reads reads' faults faults' given
