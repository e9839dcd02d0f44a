-- How the lines of the Navigator lead on what was told.
use Rattle.std.proofs.Common.{◌≡◌, ◌⊎◌, inl, inr, ℕ, Bool, true, false, List, [], ◌∷◌, drop, Some, None, is_some, refl, sym, subst, ap, ◌∙◌}
use Rattle.std.specs.Prelude.{if◌then◌else◌}
use Rattle.std.specs.List.{All}
use Rattle.mission_model.specs.declared.plan.Item.{Item}
use Rattle.mission_model.specs.declared.plan.PlanType.{PlanType}
use Rattle.mission_model.specs.declared.request.Asked.{Asked}
use Rattle.mission_model.specs.declared.request.Client.TheVariants.{Nav}
use Rattle.mission_model.specs.declared.request.Reply.{Reply}
use Rattle.mission_model.specs.declared.schedule.InputLine.{InputLine}
use Rattle.mission_model.specs.declared.schedule.InputLine.TheVariants as input
use Rattle.mission_model.specs.declared.vehicle.NavEntry.{NavEntry}
use Rattle.mission_model.specs.declared.vehicle.VehicleLine.{VehicleLine}
use Rattle.mission_model.specs.declared.vehicle.VehicleLine.TheVariants as event
use Rattle.mission_model.specs.declared.flight_line.Line.{Line}
use Rattle.mission_model.specs.declared.flight_line.Line.TheVariants as line
use Rattle.mission_model.specs.BootScripts.{NavInput}
use Rattle.request_board.specs.BoardState.{BoardState, posted}
use Rattle.request_board.specs.BoardCalls.{heard}
use Rattle.navigator.specs.NavState.{NavState, NavTaken, with_taken, HasShown}
use Rattle.navigator.specs.Meeting.{drop_owed}
use Rattle.turn_cell.specs.declared.machine.StepOut.{StepOut}
use Rattle.turn_cell.specs.declared.machine.StepOut.TheVariants.{Made, Idle}
use Rattle.vehicle_core.specs.declared.shared.Shared.{Shared}
use Rattle.vehicle_core.specs.declared.nav.NavActor.{NavActor}
use Rattle.vehicle_core.specs.ScheduleState.{ScheduleState}
use Rattle.vehicle_core.specs.SharedState.{shared_told, arrived_after, Counted}
use Rattle.vehicle_core.specs.Told.{SharedTold, NavTold}
use Rattle.navigator.specs.NavCalls.{reply_taken, drop_now, drop_taken}
use Rattle.vehicle_core.specs.Ready.{has_first, Turn, Replies, Drops, Goes, Rests, is_free, input_ready, on_schedule, nav_turn}
use Rattle.vehicle_core.specs.ActorStep.{ClientStep, NavStep}
use Rattle.vehicle_core.specs.ClientSteps.{OnSchedule, is_common}
use Rattle.vehicle_core.specs.NavActs.{nav_told, NavFits, event_of, go_now, NavActed, NavMade, NavActs}
use Rattle.vehicle_core.proofs.Lists.{first_of}

-- Whose turn it is.

abbrev rest_turn : SharedTold → NavTold → Turn
rest_turn t n = if is_some (drop_now n.nav t.board.published) then Drops else on_schedule t Nav n.schedule

nav_replies : (t : SharedTold) (n : NavTold) (first : Asked × Reply) (rest : List (Asked × Reply)) → posted t.board Nav ≡ first ∷ rest → nav_turn t n ≡ Replies
nav_replies t n first rest is = ap (λ (r : List (Asked × Reply)). if has_first r then Replies else rest_turn t n) is

nav_drops : (t : SharedTold) (n : NavTold) → posted t.board Nav ≡ [] → is_some (drop_now n.nav t.board.published) ≡ true → nav_turn t n ≡ Drops
nav_drops t n none owed =
    ap (λ (r : List (Asked × Reply)). if has_first r then Replies else rest_turn t n) none
    ∙ ap (λ (b : Bool). if b then Drops else on_schedule t Nav n.schedule) owed

nav_goes : (t : SharedTold) (n : NavTold) (turn : Turn) → posted t.board Nav ≡ [] → is_some (drop_now n.nav t.board.published) ≡ false → on_schedule t Nav n.schedule ≡ turn → nav_turn t n ≡ turn
nav_goes t n turn none owed is =
    ap (λ (r : List (Asked × Reply)). if has_first r then Replies else rest_turn t n) none
    ∙ ap (λ (b : Bool). if b then Drops else on_schedule t Nav n.schedule) owed
    ∙ is

-- The event of the current input.

go_free : (b : Bool) (given : VehicleLine) → go_now b event.Go ≡ Some given → b ≡ true
go_free true given is = refl
go_free false given is = absurd cc

go_kept : (b : Bool) → go_now b event.Go ≡ None → b ≡ false
go_kept true is = absurd cc
go_kept false is = refl

event_ready : (t : SharedTold) (inputs : List InputLine) (begun : Bool) (requested : ℕ) (given : VehicleLine) → event_of t.board inputs begun ≡ Some given → input_ready t Nav inputs begun requested ≡ true
event_ready t [] begun requested given is = absurd cc
event_ready t (input.Vehicle event.Go ∷ rest) true requested given is = go_free (is_free t.board Nav) given is
event_ready t (input.Vehicle event.Go ∷ rest) false requested given is = refl
event_ready t (input.Vehicle event.Tick ∷ rest) begun requested given is = refl
event_ready t (input.Vehicle event.Reached ∷ rest) begun requested given is = refl
event_ready t (input.Vehicle (event.Mode to) ∷ rest) begun requested given is = refl
event_ready t (input.Vehicle (event.Position x y) ∷ rest) begun requested given is = refl
event_ready t (input.Message sent ∷ rest) begun requested given is = absurd cc
event_ready t (input.Upload kind items ∷ rest) begun requested given is = absurd cc
event_ready t (input.Wait ∷ rest) begun requested given is = absurd cc
event_ready t (input.Meet place count ∷ rest) begun requested given is = absurd cc
event_ready t (input.Watch given' ∷ rest) begun requested given is = absurd cc

go_is : (b : Bool) (given : VehicleLine) → go_now b event.Go ≡ Some given → event.Go ≡ given
go_is true given is = cc
go_is false given is = absurd cc

event_input : (b : BoardState) (inputs : List InputLine) (begun : Bool) (given : VehicleLine) → event_of b inputs begun ≡ Some given → inputs ≡ input.Vehicle given ∷ drop 1 inputs
event_input b [] begun given is = absurd cc
event_input b (input.Vehicle event.Go ∷ rest) true given is = ap (λ (g : VehicleLine). input.Vehicle g ∷ rest) (go_is (is_free b Nav) given is)
event_input b (input.Vehicle event.Go ∷ rest) false given is = cc
event_input b (input.Vehicle event.Tick ∷ rest) begun given is = cc
event_input b (input.Vehicle event.Reached ∷ rest) begun given is = cc
event_input b (input.Vehicle (event.Mode to) ∷ rest) begun given is = cc
event_input b (input.Vehicle (event.Position x y) ∷ rest) begun given is = cc
event_input b (input.Message sent ∷ rest) begun given is = absurd cc
event_input b (input.Upload kind items ∷ rest) begun given is = absurd cc
event_input b (input.Wait ∷ rest) begun given is = absurd cc
event_input b (input.Meet place count ∷ rest) begun given is = absurd cc
event_input b (input.Watch given' ∷ rest) begun given is = absurd cc

no_event : (t : SharedTold) (inputs : List InputLine) (begun : Bool) (requested : ℕ) → All NavInput inputs → event_of t.board inputs begun ≡ None → (is_common inputs ≡ true) ⊎ (input_ready t Nav inputs begun requested ≡ false)
no_event t [] begun requested fit is = inl refl
no_event t (input.Wait ∷ rest) begun requested fit is = inl refl
no_event t (input.Meet place count ∷ rest) begun requested fit is = inl refl
no_event t (input.Vehicle event.Go ∷ rest) true requested fit is = inr (go_kept (is_free t.board Nav) is)
no_event t (input.Vehicle event.Go ∷ rest) false requested fit is = absurd cc
no_event t (input.Vehicle event.Tick ∷ rest) begun requested fit is = absurd cc
no_event t (input.Vehicle event.Reached ∷ rest) begun requested fit is = absurd cc
no_event t (input.Vehicle (event.Mode to) ∷ rest) begun requested fit is = absurd cc
no_event t (input.Vehicle (event.Position x y) ∷ rest) begun requested fit is = absurd cc
no_event t (input.Message sent ∷ rest) begun requested fit is = elim (first_of NavInput (input.Message sent) rest fit) [ ]
no_event t (input.Upload kind items ∷ rest) begun requested fit is = elim (first_of NavInput (input.Upload kind items) rest fit) [ ]
no_event t (input.Watch given ∷ rest) begun requested fit is = elim (first_of NavInput (input.Watch given) rest fit) [ ]

-- The lines.

-- a reply was taken
pub got_made : (s : Shared) (n : NavActor) (about : Asked) (given : Reply) (b : BoardState) (next : NavState) → s.power ≡ true
    → posted s.board Nav ≡ (about, given) ∷ posted b Nav → b ≡ heard s.board Nav (posted b Nav)
    → ((items : List Item) → with_taken next items ≡ reply_taken (with_taken n.navigator items) about given) → ((items : List Item) → HasShown n.navigator items → HasShown next items)
    → NavMade s n (line.Got about given) (record s { board = b }) (record n { navigator = next })
got_made s n about given b next power first is told shown = record {
  power = power;
  led = λ arrived items counted hides. record {
    items' = items;
    shown = shown items hides;
    step = (
      nav_replies (shared_told s arrived) (nav_told n items) (about, given) (posted b Nav) first,
      record {
        rest = posted b Nav;
        first = first;
        shared = ap (λ (x : BoardState). shared_told (record s { board = x }) arrived) is;
        nav = ap (λ (x : NavTaken). record (nav_told n items) { nav = x }) (told items);
      },
    );
    counted = counted;
  };
}

-- a window was moved
pub dropped_made : (s : Shared) (n : NavActor) (kind : PlanType) (seq : ℕ) (next : NavState) → s.power ≡ true → posted s.board Nav ≡ []
    → Some (kind, seq) ≡ drop_owed n.navigator s.board.published → ((items : List Item) → with_taken next items ≡ drop_taken (with_taken n.navigator items) kind seq) → ((items : List Item) → HasShown n.navigator items → HasShown next items)
    → NavMade s n (line.Dropped kind seq) s (record n { navigator = next })
dropped_made s n kind seq next power none owed told shown = record {
  power = power;
  led = λ arrived items counted hides. record {
    items' = items;
    shown = shown items hides;
    step = (
      nav_drops (shared_told s arrived) (nav_told n items) none (ap is_some (sym owed)),
      record {
        owed = sym owed;
        shared = refl;
        nav = ap (λ (x : NavTaken). record (nav_told n items) { nav = x }) (told items);
      },
    );
    counted = counted;
  };
}

-- an event happened
pub acted_made : (s : Shared) (n : NavActor) (given : VehicleLine) (entry : NavEntry) (s' : Shared) (n' : NavActor) → s.power ≡ true → posted s.board Nav ≡ []
    → is_some (drop_owed n.navigator s.board.published) ≡ false → event_of s.board n.schedule.inputs n.schedule.begun ≡ Some given → NavActed s n given entry s' n' → NavMade s n (line.Nav given entry) s' n'
acted_made s n given entry s' n' power none owed is acted = record {
  power = power;
  led = λ arrived items counted hides.
      let o = acted.obeys items hides in
      record {
        items' = o.items';
        shown = o.fed;
        step = (
          nav_goes (shared_told s arrived) (nav_told n items) Goes none owed (ap (λ (b : Bool). if b then Goes else Rests) (event_ready (shared_told s arrived) n.schedule.inputs n.schedule.begun n.schedule.requested given is)),
          record {
            rest = drop 1 n.schedule.inputs;
            input = event_input s.board n.schedule.inputs n.schedule.begun given is;
            law = o.law;
            shared = ap (λ (x : Shared). shared_told x arrived) acted.stays;
            after = acted.schedule;
          },
        );
        counted = subst (Counted arrived) (sym acted.stays) counted;
      };
}

-- a meeting or a wait
rests_step : (t : SharedTold) (n : NavTold) (made : Line) (t' : SharedTold) (s' : ScheduleState) → nav_turn t n ≡ Goes → ClientStep Nav t n.schedule made t' s' → NavStep t n made t' (record n { schedule = s' })
rests_step t n (line.Arrived who place) t' s' turn h = (turn, record { step = h; nav = refl })
rests_step t n (line.Met who place) t' s' turn h = (turn, record { step = h; nav = refl })
rests_step t n (line.Waited who) t' s' turn h = (turn, record { step = h; nav = refl })
rests_step t n (line.Boot number heads mark) t' s' turn h = elim h [ ]
rests_step t n (line.BootCut number) t' s' turn h = elim h [ ]
rests_step t n (line.Sent number said given) t' s' turn h = elim h [ ]
rests_step t n (line.Heard number given said) t' s' turn h = elim h [ ]
rests_step t n (line.Took who about) t' s' turn h = elim h [ ]
rests_step t n (line.Served who given) t' s' turn h = elim h [ ]
rests_step t n (line.Got about given) t' s' turn h = elim h [ ]
rests_step t n (line.Nav given entry) t' s' turn h = elim h [ ]
rests_step t n (line.Dropped kind seq) t' s' turn h = elim h [ ]
rests_step t n (line.WatchDid number given note asks) t' s' turn h = elim h [ ]
rests_step t n (line.WatchGot number about given note asks) t' s' turn h = elim h [ ]
rests_step t n line.End t' s' turn h = elim h [ ]
rests_step t n line.Stuck t' s' turn h = elim h [ ]

pub rests_acts : (s : Shared) (n : NavActor) (out : StepOut Line) (s' : Shared) (schedule : ScheduleState) → NavFits s n → s.power ≡ true → posted s.board Nav ≡ []
    → is_some (drop_owed n.navigator s.board.published) ≡ false → event_of s.board n.schedule.inputs n.schedule.begun ≡ None → OnSchedule Nav s n.schedule out s' schedule → NavActs s n out s' (record n { schedule = schedule })
rests_acts s n (Made made) s' schedule fits power none owed is went = record {
  power = power;
  led = λ arrived items counted hides. record {
    items' = items;
    shown = hides;
    step = rests_step (shared_told s arrived) (nav_told n items) made (shared_told s' (arrived_after made arrived)) schedule
        (nav_goes (shared_told s arrived) (nav_told n items) Goes none owed (went.turn arrived counted)) (went.step arrived);
    counted = went.counted arrived counted;
  };
}
rests_acts s n Idle s' schedule fits power none owed is stood = record {
  shared = stood.shared;
  nav = ap (λ (x : ScheduleState). record n { schedule = x }) stood.rest;
  turn = λ arrived items counted on.
      nav_goes (shared_told s arrived) (nav_told n items) Rests none owed
      (elim (no_event (shared_told s arrived) n.schedule.inputs n.schedule.begun n.schedule.requested fits.inputs is) [
        | inl common ↦ stood.turn arrived counted common
        | inr waits ↦ ap (λ (b : Bool). if b then Goes else Rests) waits
      ]);
}
