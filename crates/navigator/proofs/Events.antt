-- One event is its steps, one behind another.
use Rattle.std.proofs.Common.{◌≡◌, ℕ, ◌+◌, ◌-◌, ◌≤◌, inl, inr, Bool, true, false, List, Option, Some, None, length, refl, sym, ap, subst, ◌∙◌, arith}
use Rattle.std.specs.Prelude.{if◌then◌else◌}
use Rattle.mission_model.specs.declared.plan.Item.{Item}
use Rattle.mission_model.specs.declared.request.Client.TheVariants.{Nav}
use Rattle.mission_model.specs.declared.vehicle.VehicleLine.{VehicleLine}
use Rattle.mission_model.specs.declared.vehicle.NavWhat.{NavWhat}
use Rattle.request_board.specs.BoardState.{BoardState, outstanding, limit}
use Rattle.client_cache.specs.CacheState.{has_id, id_of}
use Rattle.leg_machine.specs.MachineState.{MachineState, set_to}
use Rattle.navigator.specs.NavState.{FlightState, NavState, NavTaken, with_taken, HasShown, LeadsThere}
use Rattle.navigator.specs.OnMission.{AnswersBy}
use Rattle.navigator.specs.Meeting.{HeadsMet, index_taken, AsksMark, taken_still, begins_anew}
use Rattle.navigator.specs.EventLaw.{ActsOn, index_met, Obeys}

with_taken-if : (b : Bool) (n : NavState) (items : List Item) (seq : ℕ) → with_taken (if b then record n { flight = record n.flight { legs = set_to n.flight.legs seq } } else n) items ≡ (if b then record (with_taken n items) { flight = record n.flight { legs = set_to n.flight.legs seq } } else with_taken n items)
with_taken-if true n items seq = refl
with_taken-if false n items seq = refl

with_taken-index : (n : NavState) (items : List Item) (at : Option (ℕ × ℕ)) → with_taken (index_taken n at) items ≡ index_met (with_taken n items) at
with_taken-index n items None = refl
with_taken-index n items (Some (id, seq)) = with_taken-if (has_id n.mission.cache.head id) n items seq

HasShown-if : (b : Bool) (n : NavState) (items : List Item) (seq : ℕ) → HasShown n items → HasShown (if b then record n { flight = record n.flight { legs = set_to n.flight.legs seq } } else n) items
HasShown-if true n items seq h = record { fed = h.fed; there = h.there }
HasShown-if false n items seq h = h

HasShown-index : (n : NavState) (items : List Item) (at : Option (ℕ × ℕ)) → HasShown n items → HasShown (index_taken n at) items
HasShown-index n items None h = h
HasShown-index n items (Some (id, seq)) h = HasShown-if (has_id n.mission.cache.head id) n items seq h

-- a mark leaves the legs
same_legs : (id : ℕ) (f f' : FlightState) (b b' : BoardState) → AsksMark id f b f' b' → f'.legs ≡ f.legs
same_legs id f f' b b' (inl rests) = ap (λ (k : FlightState). k.legs) rests.flight
same_legs id f f' b b' (inr asks) = ap (λ (k : FlightState). k.legs) asks.flight

HasShown-flight : (n : NavState) (f : FlightState) (items : List Item) → f.legs ≡ n.flight.legs → HasShown n items → HasShown (record n { flight = f }) items
HasShown-flight n f items same h = record {
  fed = h.fed;
  there = subst (λ (k : ℕ). LeadsThere (record { home = n.home; items = k; points = length n.safe.taken }) n.way) (sym (ap (λ (l : MachineState). l.count) same)) h.there;
}

grows : (id : ℕ) (f f' : FlightState) (b b' : BoardState) → AsksMark id f b f' b' → outstanding b Nav ≤ outstanding b' Nav
grows id f f' b b' (inl rests) = let same : outstanding b' Nav ≡ outstanding b Nav = ap (λ (k : BoardState). outstanding k Nav) rests.board in omega (arith, same)
grows id f f' b b' (inr asks) = omega (arith, asks.outstanding)

pub Obeys-steps : (n0 n1 n2 n3 n4 : NavState) (items : List Item) (b0 b1 b2 b3 : BoardState) (line : VehicleLine) (given : NavWhat) (before after : ℕ)
    → HasShown n0 items → ((xs : List Item) → HasShown n0 xs → HeadsMet n0 xs b0.published n1)
    → b1 ≡ record b0 { index = None } → n2 ≡ index_taken n1 b0.index
    → ((xs : List Item) → HasShown n2 xs → AnswersBy (ActsOn line) n2 xs b1 given n3 b2) → outstanding b1 Nav ≤ outstanding b2 Nav
    → AsksMark (id_of n3.mission.cache.head) n3.flight b2 n4.flight b3 → n4 ≡ record n3 { flight = n4.flight }
    → before + outstanding b0 Nav ≡ limit Nav → after + outstanding b3 Nav ≡ limit Nav
    → Obeys n0 items b0 line (record { what = given; asked = before - after }) n4 b3
Obeys-steps n0 n1 n2 n3 n4 items b0 b1 b2 b3 line given before after h meets board at acts more mark rest room room' =
    let m = meets items h in
    let items1 : List Item = taken_still (begins_anew n0 b0.published) items in
    let shown2 : HasShown n2 items1 = subst (λ (n : NavState). HasShown n items1) (sym at) (HasShown-index n1 items1 b0.index m.fed) in
    let a = acts items1 shown2 in
    let view : with_taken n2 items1 ≡ index_met (with_taken n1 items1) b0.index = ap (λ (n : NavState). with_taken n items1) at ∙ with_taken-index n1 items1 b0.index in
    let same : outstanding b1 Nav ≡ outstanding b0 Nav = ap (λ (k : BoardState). outstanding k Nav) board in
    let added : outstanding b2 Nav ≤ outstanding b3 Nav = grows (id_of n3.mission.cache.head) n3.flight n4.flight b2 b3 mark in
    record {
      items' = a.items';
      fed = subst (λ (n : NavState). HasShown n a.items') (sym rest) (HasShown-flight n3 n4.flight a.items' (same_legs (id_of n3.mission.cache.head) n3.flight n4.flight b2 b3 mark) a.fed);
      law = record {
        met = with_taken n1 items1;
        mid = with_taken n3 a.items';
        board = b2;
        heads = m.law;
        acts = subst (λ (k : BoardState). ActsOn line (index_met (with_taken n1 items1) b0.index) k given (with_taken n3 a.items') b2) board (subst (λ (v : NavTaken). ActsOn line v b1 given (with_taken n3 a.items') b2) view a.law);
        mark = mark;
        rest = ap (λ (n : NavState). with_taken n a.items') rest;
        asked = omega (arith, room, room', same, added, more);
      };
    }
