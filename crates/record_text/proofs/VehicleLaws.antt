-- Events, entries of the Navigator, and a watcher's inputs and notes that were printed are read again.
use Rattle.std.proofs.Common.{◌≡◌, ℕ, ◌^◌, ◌<◌, List, ◌++◌, refl, ap, ◌∙◌, append_assoc, arith}
use Rattle.std.specs.Prelude.{decimal, codes, ℤ}
use Rattle.std.specs.Fmt.{signed_decimal}
use Rattle.mission_model.specs.declared.plan.Item.{Item}
use Rattle.mission_model.specs.declared.plan.PlanType.{PlanType}
use Rattle.mission_model.specs.declared.vehicle.Mode.{Mode}
use Rattle.mission_model.specs.declared.vehicle.Mode.TheVariants as mode
use Rattle.mission_model.specs.declared.vehicle.NavWhat.{NavWhat}
use Rattle.mission_model.specs.declared.vehicle.NavWhat.TheVariants.{Leg, Action, Jump, JumpSpent, Done, Pending, Hold, HoldEmpty, Idle, Taken, Next, NextReturn, Ignored, ReturnLeg, ReturnSkip, ReturnHome, ReturnSafe, ReturnNone, ReturnDone}
use Rattle.mission_model.specs.declared.vehicle.VehicleLine.{VehicleLine}
use Rattle.mission_model.specs.declared.vehicle.VehicleLine.TheVariants as vehicle
use Rattle.mission_model.specs.declared.watch.Note.{Note}
use Rattle.mission_model.specs.declared.watch.WatchInput.{WatchInput}
use Rattle.record_text.specs.Plans.{kind_text, item_text}
use Rattle.record_text.specs.Vehicle.{mode_text, event_text, flown_text, at_text, target_text, taken_text, safe_text, what_text}
use Rattle.record_text.specs.Watch.{watch_input_text, note_text}
use Rattle.record_text.specs.Typed.{IsI32, IsU16, IsU32, IsTypedAt, IsTypedItem, IsTypedEvent, IsTypedWhat, IsTypedInput, IsTypedNote}
use Rattle.record_text.specs.Numbers.{EndsNumber}
use Rattle.record_text.specs.VehicleReading.{mode_at, spot_at, event_at, flown_at, seq_flown_at, target_at, taken_at, jump_at, hold_at, next_at, pending_at, safe_at, return_s_at, return_at, other_at, what_at, watch_input_at, note_at}
use Rattle.record_text.proofs.Joined.{join-4}
use Rattle.record_text.proofs.Numbers.{signed-again, number_at-again, number-front}
use Rattle.record_text.proofs.PlanLaws.{kind-again, place-again, item-again}

mode-again : (mode : Mode) (rest : List ℕ) → mode_at (mode_text mode ++ rest) ≡ (mode, rest)
unfolding mode_at
mode-again mode.Hold rest = refl
mode-again mode.Mission rest = refl
mode-again mode.Return rest = refl

spot-again : (x y : ℤ) (rest : List ℕ) → IsI32 x → IsI32 y → EndsNumber rest → spot_at (signed_decimal x ++ (codes " " ++ (signed_decimal y ++ rest))) ≡ ((x, y), rest)
unfolding spot_at
spot-again x y rest x_fits y_fits ends = rw (signed-again x (codes " " ++ (signed_decimal y ++ rest)) x_fits refl, signed-again y rest y_fits ends) refl

pub event-again : (event : VehicleLine) (rest : List ℕ) → IsTypedEvent event → EndsNumber rest → event_at (event_text event ++ rest) ≡ (event, rest)
unfolding event_at
event-again vehicle.Tick rest fits ends = refl
event-again vehicle.Go rest fits ends = refl
event-again vehicle.Reached rest fits ends = refl
event-again (vehicle.Mode mode) rest fits ends = rw (mode-again mode rest) refl
event-again (vehicle.Position x y) rest fits ends =
    let text : event_text (vehicle.Position x y) ++ rest ≡ codes "position " ++ (signed_decimal x ++ (codes " " ++ (signed_decimal y ++ rest))) = simp append_assoc in
    ap event_at text ∙ rw (spot-again x y rest fits.0 fits.1 ends) refl

flown-again : (mission fence : ℕ) (rest : List ℕ) → IsU32 mission → IsU32 fence → EndsNumber rest → flown_at (flown_text mission fence ++ rest) ≡ ((mission, fence), rest)
unfolding flown_at
flown-again mission fence rest mission_fits fence_fits ends =
    let behind : List ℕ = codes " fence " ++ (decimal fence ++ rest) in
    let text : flown_text mission fence ++ rest ≡ codes "mission " ++ (decimal mission ++ behind) = simp append_assoc in
    ap flown_at text ∙ rw (number_at-again (2 ^ 32) mission behind (omega arith) mission_fits refl, number_at-again (2 ^ 32) fence rest (omega arith) fence_fits ends) refl

seq_flown-again : (seq mission fence : ℕ) (rest : List ℕ) → IsTypedAt seq mission fence → EndsNumber rest → seq_flown_at (at_text seq mission fence ++ rest) ≡ ((seq, mission, fence), rest)
unfolding seq_flown_at
seq_flown-again seq mission fence rest fits ends =
    let behind : List ℕ = codes " " ++ (flown_text mission fence ++ rest) in
    let text : at_text seq mission fence ++ rest ≡ decimal seq ++ behind = simp append_assoc in
    ap seq_flown_at text ∙ rw (number_at-again (2 ^ 16) seq behind (omega arith) fits.0 refl, flown-again mission fence rest fits.1 fits.2 ends) refl

target-again : (seq mission fence : ℕ) (item : Item) (rest : List ℕ) → IsTypedAt seq mission fence → IsTypedItem item → target_at (target_text seq mission fence item ++ rest) ≡ ((seq, mission, fence, item), rest)
unfolding target_at
target-again seq mission fence item rest fits item_fits =
    let behind : List ℕ = codes " " ++ (item_text item ++ rest) in
    let text : target_text seq mission fence item ++ rest ≡ at_text seq mission fence ++ behind = simp append_assoc in
    ap target_at text ∙ rw (seq_flown-again seq mission fence behind fits refl, item-again item rest item_fits) refl

safe-again : (seq safe fence : ℕ) (item : Item) (rest : List ℕ) → IsTypedAt seq safe fence → IsTypedItem item → safe_at (safe_text seq safe fence item ++ rest) ≡ (ReturnSafe seq safe fence item, rest)
unfolding safe_at
safe-again seq safe fence item rest fits item_fits =
    let last : List ℕ = codes " " ++ (item_text item ++ rest) in
    let middle : List ℕ = codes " fence " ++ (decimal fence ++ last) in
    let behind : List ℕ = codes " safe " ++ (decimal safe ++ middle) in
    let text : safe_text seq safe fence item ++ rest ≡ decimal seq ++ behind = simp append_assoc in
    ap safe_at text
    ∙ rw (
      number_at-again (2 ^ 16) seq behind (omega arith) fits.0 refl,
      number_at-again (2 ^ 32) safe middle (omega arith) fits.1 refl,
      number_at-again (2 ^ 32) fence last (omega arith) fits.2 refl,
      item-again item rest item_fits,
    ) refl

jump-again : (seq to used mission fence : ℕ) (rest : List ℕ) → IsTypedAt seq mission fence → IsU16 to → IsU16 used → EndsNumber rest
    → jump_at (taken_text seq to used ++ (codes " " ++ (flown_text mission fence ++ rest))) ≡ (Jump seq to used mission fence, rest)
unfolding jump_at taken_at
jump-again seq to used mission fence rest fits to_fits used_fits ends =
    let last : List ℕ = codes " " ++ (flown_text mission fence ++ rest) in
    let middle : List ℕ = codes " used " ++ (decimal used ++ last) in
    let behind : List ℕ = codes " to " ++ (decimal to ++ middle) in
    let text : taken_text seq to used ++ last ≡ decimal seq ++ behind = simp append_assoc in
    ap jump_at text
    ∙ rw (
      number_at-again (2 ^ 16) seq behind (omega arith) fits.0 refl,
      number_at-again (2 ^ 16) to middle (omega arith) to_fits refl,
      number_at-again (2 ^ 16) used last (omega arith) used_fits refl,
      flown-again mission fence rest fits.1 fits.2 ends,
    ) refl

spent-again : (seq mission fence : ℕ) (rest : List ℕ) → IsTypedAt seq mission fence → EndsNumber rest
    → jump_at (decimal seq ++ (codes " spent " ++ (flown_text mission fence ++ rest))) ≡ (JumpSpent seq mission fence, rest)
unfolding jump_at
spent-again seq mission fence rest fits ends =
    rw (number_at-again (2 ^ 16) seq (codes " spent " ++ (flown_text mission fence ++ rest)) (omega arith) fits.0 refl, flown-again mission fence rest fits.1 fits.2 ends) refl

hold-again : (rule seq mission fence : ℕ) (rest : List ℕ) → rule < 2 ^ 8 → IsTypedAt seq mission fence → EndsNumber rest
    → hold_at (decimal rule ++ (codes " " ++ (at_text seq mission fence ++ rest))) ≡ (Hold rule seq mission fence, rest)
unfolding hold_at
hold-again rule seq mission fence rest rule_fits fits ends =
    let behind : List ℕ = codes " " ++ (at_text seq mission fence ++ rest) in
    rw (number-front rule 101 behind (omega arith) refl, number_at-again (2 ^ 8) rule behind (omega arith) rule_fits refl, seq_flown-again seq mission fence rest fits ends) refl

next-again : (seq : ℕ) (rest : List ℕ) → IsU16 seq → EndsNumber rest → next_at (decimal seq ++ rest) ≡ (Next seq, rest)
unfolding next_at
next-again seq rest fits ends = rw (number-front seq 114 rest (omega arith) refl, number_at-again (2 ^ 16) seq rest (omega arith) fits ends) refl

pending-again : (kind : PlanType) (seq : ℕ) (rest : List ℕ) → IsU16 seq → EndsNumber rest → pending_at (kind_text kind ++ (codes " " ++ (decimal seq ++ rest))) ≡ (Pending kind seq, rest)
unfolding pending_at
pending-again kind seq rest fits ends = rw (kind-again kind (codes " " ++ (decimal seq ++ rest)), number_at-again (2 ^ 16) seq rest (omega arith) fits ends) refl

pub what-again : (what : NavWhat) (rest : List ℕ) → IsTypedWhat what → EndsNumber rest → what_at (what_text what ++ rest) ≡ (what, rest)
unfolding what_at other_at return_at return_s_at hold_at next_at
what-again (Leg seq mission fence item) rest fits ends = rw (target-again seq mission fence item rest fits.0 fits.1) refl
what-again (Action seq mission fence item) rest fits ends = rw (target-again seq mission fence item rest fits.0 fits.1) refl
what-again (Jump seq to used mission fence) rest fits ends =
    let text : what_text (Jump seq to used mission fence) ++ rest ≡ codes "jump " ++ (taken_text seq to used ++ (codes " " ++ (flown_text mission fence ++ rest))) = simp append_assoc in
    ap what_at text ∙ jump-again seq to used mission fence rest fits.0 fits.1 fits.2 ends
what-again (JumpSpent seq mission fence) rest fits ends =
    let text : what_text (JumpSpent seq mission fence) ++ rest ≡ codes "jump " ++ (decimal seq ++ (codes " spent " ++ (flown_text mission fence ++ rest))) = join-4 (codes "jump ") (decimal seq) (codes " spent ") (flown_text mission fence) rest in
    ap what_at text ∙ spent-again seq mission fence rest fits ends
what-again (Done mission fence) rest fits ends = rw (flown-again mission fence rest fits.0 fits.1 ends) refl
what-again (Pending kind seq) rest fits ends =
    let text : what_text (Pending kind seq) ++ rest ≡ codes "pending " ++ (kind_text kind ++ (codes " " ++ (decimal seq ++ rest))) = simp append_assoc in
    ap what_at text ∙ pending-again kind seq rest fits ends
what-again (Hold rule seq mission fence) rest fits ends =
    let text : what_text (Hold rule seq mission fence) ++ rest ≡ codes "hold " ++ (decimal rule ++ (codes " " ++ (at_text seq mission fence ++ rest))) = join-4 (codes "hold ") (decimal rule) (codes " ") (at_text seq mission fence) rest in
    ap what_at text ∙ hold-again rule seq mission fence rest fits.0 fits.1 ends
what-again HoldEmpty rest fits ends = refl
what-again Idle rest fits ends = refl
what-again Taken rest fits ends = refl
what-again (Next seq) rest fits ends = next-again seq rest fits ends
what-again NextReturn rest fits ends = refl
what-again Ignored rest fits ends = refl
what-again (ReturnLeg seq mission fence item) rest fits ends = rw (target-again seq mission fence item rest fits.0 fits.1) refl
what-again (ReturnSkip seq mission fence) rest fits ends = rw (seq_flown-again seq mission fence rest fits ends) refl
what-again (ReturnHome home) rest fits ends = rw (place-again home.x home.y home.z rest fits ends) refl
what-again (ReturnSafe seq safe fence item) rest fits ends = rw (safe-again seq safe fence item rest fits.0 fits.1) refl
what-again ReturnNone rest fits ends = refl
what-again ReturnDone rest fits ends = refl

pub watch_input-again : (input : WatchInput) (rest : List ℕ) → IsTypedInput input → EndsNumber rest → watch_input_at (watch_input_text input ++ rest) ≡ (input, rest)
unfolding watch_input_at
watch_input-again input rest fits ends =
    let behind : List ℕ = codes " " ++ (signed_decimal input.a ++ (codes " " ++ (signed_decimal input.b ++ rest))) in
    let text : watch_input_text input ++ rest ≡ decimal input.code ++ behind = simp append_assoc in
    ap watch_input_at text ∙ rw (number_at-again (2 ^ 16) input.code behind (omega arith) fits.0 refl, spot-again input.a input.b rest fits.1 fits.2 ends) refl

pub note-again : (note : Note) (rest : List ℕ) → IsTypedNote note → EndsNumber rest → note_at (note_text note ++ rest) ≡ (note, rest)
unfolding note_at
note-again note rest fits ends =
    let last : List ℕ = codes " " ++ (signed_decimal note.x ++ (codes " " ++ (signed_decimal note.y ++ rest))) in
    let middle : List ℕ = codes " " ++ (decimal note.b ++ last) in
    let behind : List ℕ = codes " " ++ (decimal note.a ++ middle) in
    let text : note_text note ++ rest ≡ decimal note.code ++ behind = simp append_assoc in
    ap note_at text
    ∙ rw (
      number_at-again (2 ^ 16) note.code behind (omega arith) fits.0 refl,
      number_at-again (2 ^ 32) note.a middle (omega arith) fits.1 refl,
      number_at-again (2 ^ 32) note.b last (omega arith) fits.2 refl,
      spot-again note.x note.y rest fits.3 fits.4 ends,
    ) refl
