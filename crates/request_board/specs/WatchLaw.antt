-- The law of a watcher's lines: what each line says, which requests it asks, and how long an input is current.
use Rattle.std.specs.Prelude.{◌≡◌, ℕ, Bool, false, is_some, List, [], ◌∷◌, length, Option, Some, None}
use Rattle.mission_model.specs.declared.plan.PlanHead.{PlanHead}
use Rattle.mission_model.specs.declared.plan.PlanType.{PlanType}
use Rattle.mission_model.specs.declared.request.Asked.{Asked}
use Rattle.mission_model.specs.declared.request.Request.{Request}
use Rattle.mission_model.specs.declared.request.Request.TheVariants.{Read}
use Rattle.mission_model.specs.declared.request.Reply.{Reply}
use Rattle.mission_model.specs.declared.watch.Note.{Note}
use Rattle.mission_model.specs.declared.watch.WatchInput.{WatchInput}
use Rattle.mission_model.specs.declared.watch.WatchOut.{WatchOut}

-- what a line of a watcher is on, with the heads that are published there: an input that it begins, or a reply that it takes
pub data WatchEvent : Type 0 where
  Does : WatchInput → List PlanHead → WatchEvent
  Got : Asked → Reply → List PlanHead → WatchEvent

-- what a line of a watcher says: its note, and how many requests it asks
pub record WatchSays : Type 0 where
  pub note : Note
  pub asks : ℕ

-- the requests that an answer asks: its read, if any
abbrev pub reads_of : Option (PlanType × ℕ × ℕ) → List Request
reads_of None = []
reads_of (Some (kind, id, seq)) = Read kind id seq ∷ []

-- the answers of a watcher: what `work` and `told` answer, and the watcher afterwards
pub record WatchRules (W : Type 0) : Type 0 where
  pub works : W → WatchInput → List PlanHead → WatchOut × W
  pub tells : W → Asked → Reply → List PlanHead → WatchOut × W

-- a watcher as its lines lead it on, and whether it has a current input
pub record WatchState (W : Type 0) : Type 0 where
  pub watcher : W
  pub busy : Bool

module _ {W : Type 0} where
  -- a watcher when its boot begins
  abbrev pub watch_begins : W → WatchState W
  watch_begins watcher = record { watcher = watcher; busy = false }

  -- what the watcher answers to this, and the watcher afterwards
  abbrev pub answer_of : WatchRules W → W → WatchEvent → WatchOut × W
  answer_of rules w (Does input heads) = rules.works w input heads
  answer_of rules w (Got asked reply heads) = rules.tells w asked reply heads

  -- an input is begun only where none is current
  abbrev pub MayCome : WatchState W → WatchEvent → Type 0
  MayCome s (Does input heads) = s.busy ≡ false
  MayCome s (Got asked reply heads) = Unit {0}

  -- One line of a watcher.
  -- may: it may come there; note: its note is the one that the watcher gives; asked: it asks the read that the watcher answers,
  -- and no other request; asks: it says their number.
  -- after: the watcher is then the one that its answer leaves, and its input is current exactly where a read was answered.
  pub record WatchStep (rules : WatchRules W) (s : WatchState W) (event : WatchEvent) (says : WatchSays) (requests : List Request) (s' : WatchState W) : Type 0 where
    pub may : MayCome s event
    pub note : says.note ≡ (answer_of rules s.watcher event).0.note
    pub asked : requests ≡ reads_of (answer_of rules s.watcher event).0.read
    pub asks : says.asks ≡ length requests
    pub after : s' ≡ record { watcher = (answer_of rules s.watcher event).1; busy = is_some (answer_of rules s.watcher event).0.read }
