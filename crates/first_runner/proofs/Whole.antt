-- The whole record of a boot, from its parts.
use Rattle.std.proofs.Common.{◌≡◌, List, [], ◌∷◌, ◌++◌, ◌∙◌, ap, subst}
use Rattle.std.specs.Prelude.{All}
use Rattle.std.proofs.lemmas.List.Elements.{All-nil, All-cons, All-append, All-same}
use Rattle.first_model.specs.declared.plan.PlanHead.{PlanHead}
use Rattle.first_model.specs.declared.counts.Mark.{Mark}
use Rattle.first_model.specs.declared.flight_line.Actor.{Actor}
use Rattle.first_model.specs.declared.flight_line.Line.{Line}
use Rattle.first_model.specs.declared.flight_line.Line.TheVariants.{Boot, Sent}
use Rattle.first_model.specs.declared.schedule.BootScript.{BootScript}
use Rattle.first_record.specs.Record.{IsOnMission, IsPrintable}
use Rattle.first_core.specs.CoreState.{CoreState}
use Rattle.first_core.specs.NewCore.{new_core}
use Rattle.first_store.specs.StoreState.{StoreState, new_store}
use Rattle.first_runner.specs.Turn.{Acts, Rounds, Stops}
use Rattle.first_runner.specs.Round.{round_of}
use Rattle.first_runner.specs.Flight.{IsBegun, IsEnding, IsFlight, IsFlightSoFar, empty_head}
use Rattle.first_runner.specs.RunState.{SoFar, Flew}
use Rattle.first_runner.proofs.Printable.{of_acts, of_rounds}

-- turns from the beginning
from_new : (boot : BootScript) (s : CoreState) (st : StoreState) (first : List Line) (begun : IsBegun boot s st first) (actors : List Actor) (lines : List Line) (s' : CoreState) (st' : StoreState) → Acts s st actors lines s' st' → Acts (new_core boot begun.state) new_store actors lines s' st'
from_new boot s st first begun actors lines s' st' acts =
    subst (λ (x : CoreState). Acts x new_store actors lines s' st') begun.core (subst (λ (x : StoreState). Acts s x actors lines s' st') begun.store acts)

-- what follows the first line
behind : (boot : BootScript) (s : CoreState) (st : StoreState) (first : List Line) (begun : IsBegun boot s st first) (new made : List Line) → new ≡ first ++ made → new ≡ Boot 1 begun.state.heads begun.state.mark ∷ made
behind boot s st first begun new made is = is ∙ ap (λ (l : List Line). l ++ made) begun.first

-- a run that stopped
stops_new : (boot : BootScript) (s : CoreState) (st : StoreState) (first : List Line) (begun : IsBegun boot s st first) (turns round : List Actor) (lines : List Line) (s' : CoreState) (st' : StoreState) → turns ≡ boot.turns → round ≡ round_of boot.links → Stops turns round s st lines s' st' → Stops boot.turns (round_of boot.links) (new_core boot begun.state) new_store lines s' st'
stops_new boot s st first begun turns round lines s' st' turns_are round_is stops =
    subst (λ (x : CoreState). Stops boot.turns (round_of boot.links) x new_store lines s' st') begun.core
    (subst (λ (x : StoreState). Stops boot.turns (round_of boot.links) s x lines s' st') begun.store
    (subst (λ (l : List Actor). Stops l (round_of boot.links) s st lines s' st') turns_are (subst (λ (l : List Actor). Stops turns l s st lines s' st') round_is stops)))

pub stopped_flight : (boot : BootScript) (s : CoreState) (st : StoreState) (first : List Line) (turns round : List Actor) (s' : CoreState) (st' : StoreState) (new : List Line) → IsBegun boot s st first → SoFar s st turns round first s' st' new → turns ≡ boot.turns → round ≡ round_of boot.links → IsFlightSoFar boot new
stopped_flight boot s st first turns round s' st' new begun so_far turns_are round_is = record {
  state = begun.state;
  new = begun.new;
  made = so_far.made;
  last = s';
  last_store = st';
  stops = stops_new boot s st first begun turns round so_far.made s' st' turns_are round_is so_far.stops;
  whole = behind boot s st first begun new so_far.made so_far.lines;
}

-- a whole run
pub whole_flight : (boot : BootScript) (s : CoreState) (st : StoreState) (first : List Line) (turns round : List Actor) (new : List Line) → IsBegun boot s st first → Flew s st turns round first new → turns ≡ boot.turns → round ≡ round_of boot.links → IsFlight boot new
whole_flight boot s st first turns round new begun flew turns_are round_is =
    let stated = flew.stated in
    let went = flew.went.went in
    let line = flew.ending_line in
    let turned : Acts s st boot.turns stated.made flew.turned flew.turned_store = subst (λ (l : List Actor). Acts s st l stated.made flew.turned flew.turned_store) turns_are stated.acts in
    let rounds : Rounds (round_of boot.links) went.count flew.turned flew.turned_store went.made flew.went.rounded flew.went.rounded_store = subst (λ (l : List Actor). Rounds l went.count flew.turned flew.turned_store went.made flew.went.rounded flew.went.rounded_store) round_is went.rounds in
    let last : flew.last_lines ≡ (first ++ stated.made) ++ went.made = went.lines ∙ ap (λ (l : List Line). l ++ went.made) stated.lines in
    let all : new ≡ ((first ++ stated.made) ++ went.made) ++ line ∷ [] = flew.lines ∙ ap (λ (l : List Line). l ++ line ∷ []) last in
    record {
      state = begun.state;
      new = begun.new;
      stated_lines = stated.made;
      turned = flew.turned;
      turned_store = flew.turned_store;
      stated = from_new boot s st first begun boot.turns stated.made flew.turned flew.turned_store turned;
      count = went.count;
      round_lines = went.made;
      rounded = flew.went.rounded;
      rounded_store = flew.went.rounded_store;
      rounds = rounds;
      last = flew.last;
      last_store = flew.last_store;
      still = subst (λ (l : List Actor). Acts flew.went.rounded flew.went.rounded_store l [] flew.last flew.last_store) round_is flew.went.still;
      ending_line = line;
      ending = flew.ending;
      whole = all ∙ ap (λ (l : List Line). ((l ++ stated.made) ++ went.made) ++ line ∷ []) begun.first;
    }

on_mission : (heads : List PlanHead) (mark : Mark) → heads ≡ empty_head ∷ empty_head ∷ empty_head ∷ [] → mark.id ≡ 0 → IsOnMission heads mark
on_mission heads mark is zero = rw is zero

ending_printable : (s : CoreState) (line : Line) → IsEnding s line → IsPrintable line
ending_printable s (Boot number heads mark) ending = absurd ending
ending_printable s (Sent link told answer) ending = absurd ending
ending_printable s line ending = tt

-- each line of a whole run is printable
pub flight_printable : (boot : BootScript) (lines : List Line) → IsFlight boot lines → All IsPrintable lines
flight_printable boot lines flight =
    let first = on_mission flight.state.heads flight.state.mark flight.new.heads flight.new.id in
    let stated = of_acts boot.turns (new_core boot flight.state) new_store flight.stated_lines flight.turned flight.turned_store flight.stated in
    let rounds = of_rounds (round_of boot.links) flight.count flight.turned flight.turned_store flight.round_lines flight.rounded flight.rounded_store flight.rounds in
    let end = All-cons IsPrintable flight.ending_line [] (ending_printable flight.last flight.ending_line flight.ending) (All-nil IsPrintable) in
    All-same IsPrintable lines (Boot 1 flight.state.heads flight.state.mark ∷ (flight.stated_lines ++ flight.round_lines ++ flight.ending_line ∷ [])) flight.whole
    (All-cons IsPrintable (Boot 1 flight.state.heads flight.state.mark) (flight.stated_lines ++ flight.round_lines ++ flight.ending_line ∷ []) first
    (All-append IsPrintable (flight.stated_lines ++ flight.round_lines) (flight.ending_line ∷ []) (All-append IsPrintable flight.stated_lines flight.round_lines stated rounds) end))
