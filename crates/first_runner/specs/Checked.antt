-- What each status of `check` says of the plan text that was taken and of what was given.
use Rattle.std.specs.Prelude.{◌≡◌, ℕ, ◌≤◌, List, length, Option, Some}
use Rattle.std.specs.Io.KnownBytes.{Appends}
use Rattle.io_edges.specs.Bytes.{TakesWithin, TakesMore, GivesFront}
use Rattle.io_edges.specs.Count.{Rose}
use Rattle.first_model.specs.declared.plan.Item.{Item}
use Rattle.first_model.specs.declared.plan.PlanType.{PlanType}
use Rattle.first_script.specs.Plans.{IsTextFault}
use Rattle.first_script.specs.declared.bounds.TheConstants.{MAX_SCRIPT_BYTES}
use Rattle.first_wpl.specs.Wpl.{Wpl}
use Rattle.first_runner.specs.declared.status.Status.{Status}
use Rattle.first_runner.specs.declared.status.Status.TheVariants as status
use Rattle.first_runner.specs.Judgement.{TellsPlan}
use Rattle.first_runner.specs.Outcome.{TakesAll, IsOver}

-- nothing was given
pub record GivesNothing (faults faults' : ℕ) (before after : Option (List ℕ)) : Type 0 where
  pub held : after ≡ before
  pub faults_are : faults' ≡ faults

-- what is told of a plan text was given whole
pub record GivesTold (kind : PlanType) (text : List ℕ) (before after : Option (List ℕ)) : Type 0 where
  pub told : List ℕ
  pub tells : TellsPlan kind text told
  pub given : Appends before after told

-- a front of what is told of a plan text was given, and the sink failed
pub record GivesToldFront (kind : PlanType) (text : List ℕ) (faults faults' : ℕ) (before after : Option (List ℕ)) : Type 0 where
  pub told : List ℕ
  pub tells : TellsPlan kind text told
  pub rose : Rose faults faults'
  pub given : GivesFront told before after

-- what a plan text and what was given are to one another at each status
abbrev pub TextChecked : PlanType → List ℕ → Status → ℕ → ℕ → Option (List ℕ) → Option (List ℕ) → Type 0
TextChecked kind text status.Ok faults faults' before after = GivesTold kind text before after
TextChecked kind text status.WriteFault faults faults' before after = GivesToldFront kind text faults faults' before after
TextChecked kind text (status.Plan fault) faults faults' before after = IsTextFault text fault × GivesNothing faults faults' before after
TextChecked kind text status.Memory faults faults' before after = GivesNothing faults faults' before after
TextChecked kind text other faults faults' before after = ⊥

-- the text that was read to its end is a plan text, or is none, and this was given
pub record ChecksText (kind : PlanType) (given : Status) (left left' : Option (List ℕ)) (faults faults' : ℕ) (before after : Option (List ℕ)) : Type 0 where
  pub text : List ℕ
  pub takes : TakesAll left left' text
  pub checked : TextChecked kind text given faults faults' before after

-- what was taken and given at each status: the counts and the bytes of the source, and then those of the sink
abbrev pub Checks : PlanType → Status → ℕ → ℕ → Option (List ℕ) → Option (List ℕ) → ℕ → ℕ → Option (List ℕ) → Option (List ℕ) → Type 0
Checks kind status.Ok reads reads' left left' faults faults' before after = ChecksText kind status.Ok left left' faults faults' before after
Checks kind status.WriteFault reads reads' left left' faults faults' before after = ChecksText kind status.WriteFault left left' faults faults' before after
Checks kind (status.Plan fault) reads reads' left left' faults faults' before after = ChecksText kind (status.Plan fault) left left' faults faults' before after
Checks kind status.ReadFault reads reads' left left' faults faults' before after = Rose reads reads' × TakesWithin MAX_SCRIPT_BYTES left left' × GivesNothing faults faults' before after
Checks kind status.TooLong reads reads' left left' faults faults' before after = TakesMore MAX_SCRIPT_BYTES left left' × GivesNothing faults faults' before after
Checks kind status.Memory reads reads' left left' faults faults' before after = TakesWithin MAX_SCRIPT_BYTES left left' × GivesNothing faults faults' before after
Checks kind other reads reads' left left' faults faults' before after = ⊥

-- a plan text is told of where the sink does not fail: but for want of memory
abbrev pub CompletesPlan : List ℕ → ℕ → ℕ → Status → Type 0
CompletesPlan text faults faults' given = (items : List Item) → Wpl text items → (Rose faults faults' → ⊥) → IsOver given

-- a plan text that the source tells, within the limit, is told of where neither source nor sink fails: but for want of memory
abbrev pub CompletesCheck : Option (List ℕ) → ℕ → ℕ → ℕ → ℕ → Status → Type 0
CompletesCheck left reads reads' faults faults' given =
    (text : List ℕ) (items : List Item) → left ≡ Some text → length text ≤ MAX_SCRIPT_BYTES → Wpl text items → (Rose reads reads' → ⊥) → (Rose faults faults' → ⊥) → IsOver given
