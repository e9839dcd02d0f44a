-- The rule of the table, and what each step tells.
use Rattle.std.specs.Prelude.{◌≡◌, ◌≢◌, ℕ, ◌+◌, ◌<◌, ◌≤◌, List, [], ◌∷◌, ◌++◌, map, length, Bool, true, false, Option, Some, None}
use mathlib.Core.Option.{some}
use lib.ListN.{get_elem?}
use Rattle.atomic_table.specs.Table.{State, Me, rest}
use Rattle.turn_cell.specs.declared.machine.StepOut.{StepOut}
use Rattle.turn_cell.specs.declared.seat_view.Entry.{Entry}
use Rattle.turn_cell.specs.declared.seat_view.SeatView.{SeatView}
use Rattle.turn_cell.specs.declared.seat_view.Account.{Account}
use Rattle.turn_cell.specs.declared.seat_view.Addition.{Addition}
use Rattle.turn_cell.specs.declared.seat_view.Chest.{Chest}
use Rattle.turn_cell.specs.declared.seat_view.Beginning.{Beginning}
use Rattle.turn_cell.specs.Queue.{InQueue}
use Rattle.turn_cell.specs.Legal.{Legal, HasNone, SawOwn, line_of}

module _ {S L I N : Type 0} where
  abbrev pub waits : SeatView S L I N → Bool
  waits v = v.waits

  abbrev pub holds : SeatView S L I N → Bool
  holds v = v.holds

  abbrev pub ticket : SeatView S L I N → ℕ
  ticket v = v.ticket

  -- the first seat, after n numbers were given
  abbrev pub opening_view : S → List L → ℕ → SeatView S L I N
  opening_view s ls n = record { waits = false; ticket = 0; holds = false; number = 0; given = n; spent = false; shared = Some s; locals = ls; seen = []; joined = [] }

  -- a seat with the number n that was split from the first
  abbrev pub new_view : S → List L → ℕ → SeatView S L I N
  new_view s ls n = record { waits = false; ticket = 0; holds = false; number = n; given = 0; spent = false; shared = Some s; locals = ls; seen = []; joined = [] }

  abbrev pub gave_number : SeatView S L I N → SeatView S L I N
  gave_number v = record v { given = v.given + 1 }

  abbrev pub next_seat : SeatView S L I N → SeatView S L I N
  next_seat v = record v { number = v.given; given = 0; joined = [] }

  abbrev pub joined_view : SeatView S L I N
  joined_view = record { waits = false; ticket = 0; holds = false; number = 0; given = 0; spent = true; shared = None; locals = []; seen = []; joined = [] }

  abbrev pub account_of : SeatView S L I N → Account S L I N
  account_of v = record { number = v.number; seen = v.seen }

  abbrev pub with_accounts : SeatView S L I N → List (Account S L I N) → SeatView S L I N
  with_accounts v js = record v { joined = js }

  abbrev pub with_account : SeatView S L I N → SeatView S L I N → SeatView S L I N
  with_account v w = record v { joined = account_of w ∷ v.joined }

  abbrev pub waiting_with : ℕ → SeatView S L I N → SeatView S L I N
  waiting_with t v = record v { waits = true; ticket = t }

  abbrev pub holding : List (Entry S L I N) → SeatView S L I N → SeatView S L I N
  holding h v = record v { holds = true; seen = h }

  abbrev pub rested : List (Entry S L I N) → SeatView S L I N → SeatView S L I N
  rested h v = record v { waits = false; ticket = 0; holds = false; seen = h }

  abbrev pub NobodyHolds : List (SeatView S L I N) → Type 0
  NobodyHolds views = (j : ℕ) (v : SeatView S L I N) → get_elem? views j ≡ some v → holds v ≡ false

module _ {S L I N : Type 0} where
  -- the entry that the addition tells
  abbrev pub noted : ℕ → Option (Addition S L I N) → List (Entry S L I N)
  noted n None = []
  noted n (Some addition) = record { number = n; before = addition.before.value; input = addition.input.value; line = addition.line.value; shared = addition.shared.value; after = addition.after.value } ∷ []

module _ {S L I N : Type 0} where
  abbrev pub chest_noted : ℕ → Option (Chest S L I N) → List (Entry S L I N)
  chest_noted n None = []
  chest_noted n (Some x) = noted n x.addition

  -- what the slot that is carried tells
  abbrev pub carried_noted : ℕ → List (ℕ × Option (Chest S L I N)) → List (Entry S L I N)
  carried_noted n [] = []
  carried_noted n (c ∷ cs) = chest_noted n c.1

module _ {S L I N : Type 0} (number : L → ℕ) (fits : S → L → Type 0) (suits : L → I → Type 0) (steps : S → L → I → StepOut N → S → L → Type 0) where
  -- the chest has the shared part and the lines of this history
  abbrev pub KeepsHistory : S → List L → List (Entry S L I N) → Chest S L I N → Type 0
  KeepsHistory s ls h x = Legal number fits suits steps s ls h x.shared × (x.lines.items ≡ map line_of h)

  -- the same, where the opening shared part is known
  abbrev pub KeepsFrom : Option S → List L → List (Entry S L I N) → Chest S L I N → Type 0
  KeepsFrom o ls h x = (s : S) × (o ≡ Some s) × KeepsHistory s ls h x

  pub record SeatTied (s : S) (ls : List L) (h : List (Entry S L I N)) (j : ℕ) (v : SeatView S L I N) : Type 0 where
    pub opening : v.spent ≡ false → (v.shared ≡ Some s) × (v.locals ≡ ls)
    pub number_is : v.spent ≡ false → v.number ≡ j
    pub own : v.spent ≡ false → SawOwn h j v.seen
    pub whole : v.holds ≡ true → (v.seen ≡ h) × (v.spent ≡ false)
    pub idle : v.spent ≡ true → v.holds ≡ false
    pub others : (i : ℕ) (t : Account S L I N) → get_elem? v.joined i ≡ some t → SawOwn h t.number t.seen

  pub record TableRuled (key : Beginning S L) (s : State (Option (Chest S L I N)) (SeatView S L I N)) : Type 0 where
    pub w0 : ℕ
    pub w1 : ℕ
    pub words : s.words ≡ w0 ∷ w1 ∷ []
    pub queued : InQueue waits holds ticket w0 w1 s.views
    pub history : List (Entry S L I N)
    pub tied : (j : ℕ) (v : SeatView S L I N) → get_elem? s.views j ≡ some v → SeatTied key.shared.value key.locals.value.items history j v
    pub dead : (j : ℕ) (v : SeatView S L I N) → get_elem? s.views j ≡ some v → (i : ℕ) (t : Account S L I N) → get_elem? v.joined i ≡ some t
        → (t.number < length s.views) × ((u : SeatView S L I N) → get_elem? s.views t.number ≡ some u → u.spent ≡ true)
    pub first : (v : SeatView S L I N) → get_elem? s.views 0 ≡ some v → v.spent ≡ false → v.given ≡ length s.views
    pub seats : length s.views ≤ length key.locals.value.items
    pub below : (n : ℕ) → length s.views ≤ n → HasNone n history
    pub home : NobodyHolds s.views → (x : Chest S L I N) × (get_elem? s.homes 0 ≡ some (some (Some x))) × KeepsHistory key.shared.value key.locals.value.items history x

  abbrev pub Mine : Type 0
  Mine = Me (Option (Chest S L I N)) (SeatView S L I N)

  abbrev pub DrewTicket : Mine → ℕ → Mine → Type 0
  DrewTicket m n m' = m' ≡ (waiting_with n m.0, m.1)

  abbrev pub SawServing : Mine → ℕ → Mine → Type 0
  SawServing m n m' =
      (n ≡ m.0.ticket → (x : Chest S L I N) × (h : List (Entry S L I N)) × (m' ≡ (holding h m.0, (0, Some x) ∷ m.1)) × SawOwn h m.0.number m.0.seen × KeepsFrom m.0.shared m.0.locals h x)
      × (n ≢ m.0.ticket → m' ≡ m)

  -- the turn has come, and the chest x was taken out
  abbrev pub TurnCame : SeatView S L I N → Mine → Chest S L I N → Type 0
  TurnCame v m' x = (t : ℕ) × (h : List (Entry S L I N)) × (m' ≡ (holding h (waiting_with t v), (0, None) ∷ [])) × SawOwn h v.number v.seen × KeepsFrom v.shared v.locals h x

  abbrev pub HoldsTurn : Mine → Type 0
  HoldsTurn m = (m.1 ≡ (0, None) ∷ []) × (m.0.holds ≡ true)

  abbrev pub ServedNext : Mine → ℕ → Mine → Type 0
  ServedNext m n m' = m' ≡ (rested (m.0.seen ++ carried_noted m.0.number m.1) m.0, rest m.1)
