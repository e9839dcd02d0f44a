-- Any calls keep one grant at a time, and ids that rise by one.
use Rattle.std.proofs.Common.{◌≡◌, ℕ, ◌+◌, ◌<◌, ◌==◌, Bool, true, false, if◌then◌else◌, List, [], ◌∷◌, length, refl, sym, subst, ap, ◌∙◌, arith, slice_index_or, get_or-set_same, get_or-set_other, length-set}
use Rattle.std.proofs.Math.ListN.{get_or-map}
use Rattle.std.proofs.lemmas.List.{length-map}
use Rattle.std.proofs.lemmas.Bool.{eqb-true, eqb-false}
use Rattle.mission_model.specs.declared.plan.PlanHead.{PlanHead}
use Rattle.mission_model.specs.declared.plan.PlanType.{PlanType}
use Rattle.mission_model.specs.declared.plan.PlanType.TheVariants.{Mission, Fence, Safe}
use Rattle.transfer_lock.specs.TransferState.{TransferState, place_of, last_id, begun, finished, id_taken, opened}
use Rattle.transfer_lock.specs.TransferLaw.{Event, Begins, Finishes, Uses, Stays, Calls, ids_used, RisesFrom, InTurn, OneAtATime}

pub Calls-in_turn : (t last : TransferState) (events : List Event) → Calls t events last → InTurn t.holder events
Calls-in_turn t last [] h = tt
Calls-in_turn t last (Begins link ∷ events) (mid, call, calls) = (call.0, subst (λ (x : TransferState). InTurn x.holder events) call.1 (Calls-in_turn mid last events calls))
Calls-in_turn t last (Finishes link ∷ events) (mid, call, calls) = (call.0, subst (λ (x : TransferState). InTurn x.holder events) call.1 (Calls-in_turn mid last events calls))
Calls-in_turn t last (Uses kind id ∷ events) (mid, call, calls) = subst (λ (x : TransferState). InTurn x.holder events) call.2 (Calls-in_turn mid last events calls)
Calls-in_turn t last (Stays ∷ events) (mid, call, calls) = subst (λ (x : TransferState). InTurn x.holder events) call (Calls-in_turn mid last events calls)

place_of-below : (kind : PlanType) → place_of kind < 3
place_of-below Mission = omega arith
place_of-below Fence = omega arith
place_of-below Safe = omega arith

-- the id that was used is the greatest one of its type
last_id-same : (t : TransferState) (kind used : PlanType) → length t.ids ≡ 3 → place_of used ≡ place_of kind → last_id (id_taken t used) kind ≡ last_id t used + 1
last_id-same t kind used three same =
    let within : place_of used < length t.ids = omega (arith, place_of-below used, three) in
    subst (λ (place : ℕ). slice_index_or (id_taken t used).ids place 0 ≡ last_id t used + 1) same (get_or-set_same t.ids (place_of used) (last_id t used + 1) 0 within)

-- that of another type is as it was
last_id-other : (t : TransferState) (kind used : PlanType) → (place_of used ≡ place_of kind → ⊥) → last_id (id_taken t used) kind ≡ last_id t kind
last_id-other t kind used differs = get_or-set_other t.ids (place_of used) (place_of kind) (last_id t used + 1) 0 (λ same. differs (sym same))

-- the ids of a type rise, whether or not the first of them is of this type
rises_after : (flag : Bool) (t : TransferState) (kind used : PlanType) (id : ℕ) (ids : List ℕ) → (place_of used == place_of kind) ≡ flag → length t.ids ≡ 3 → id ≡ last_id t used + 1 → RisesFrom (last_id (id_taken t used) kind) ids → RisesFrom (last_id t kind) (if flag then id ∷ ids else ids)
rises_after true t kind used id ids is three next rises =
    let same : place_of used ≡ place_of kind = eqb-true (place_of used) (place_of kind) is in
    let first : id ≡ last_id t kind + 1 = next ∙ ap (λ (place : ℕ). slice_index_or t.ids place 0 + 1) same in
    (first, subst (λ (n : ℕ). RisesFrom n ids) (last_id-same t kind used three same ∙ sym next) rises)
rises_after false t kind used id ids is three next rises = subst (λ (n : ℕ). RisesFrom n ids) (last_id-other t kind used (eqb-false (place_of used) (place_of kind) is)) rises

three_still : (t : TransferState) (used : PlanType) → length t.ids ≡ 3 → length (id_taken t used).ids ≡ 3
three_still t used three = length-set t.ids (place_of used) (last_id t used + 1) ∙ three

pub Calls-rise : (kind : PlanType) (t last : TransferState) (events : List Event) → length t.ids ≡ 3 → Calls t events last → RisesFrom (last_id t kind) (ids_used kind events)
Calls-rise kind t last [] three calls = tt
Calls-rise kind t last (Begins link ∷ events) three (mid, call, calls) =
    Calls-rise kind (begun t link) last events three (subst (λ (x : TransferState). Calls x events last) call.1 calls)
Calls-rise kind t last (Finishes link ∷ events) three (mid, call, calls) =
    Calls-rise kind (finished t) last events three (subst (λ (x : TransferState). Calls x events last) call.1 calls)
Calls-rise kind t last (Uses used id ∷ events) three (mid, call, calls) =
    rises_after (place_of used == place_of kind) t kind used id (ids_used kind events) refl three call.1
    (Calls-rise kind (id_taken t used) last events (three_still t used three) (subst (λ (x : TransferState). Calls x events last) call.2 calls))
Calls-rise kind t last (Stays ∷ events) three (mid, call, calls) =
    Calls-rise kind t last events three (subst (λ (x : TransferState). Calls x events last) call calls)

pub Calls-one_at_a_time : (heads : List PlanHead) (events : List Event) (last : TransferState) → length heads ≡ 3 → Calls (opened heads) events last → OneAtATime heads events
Calls-one_at_a_time heads events last three calls = record {
  grants = Calls-in_turn (opened heads) last events calls;
  ids = λ kind.
      subst (λ (n : ℕ). RisesFrom n (ids_used kind events)) (get_or-map (λ (head : PlanHead). head.id) heads (place_of kind) (record { id = 0; count = 0 }))
      (Calls-rise kind (opened heads) last events (length-map heads (λ (head : PlanHead). head.id) ∙ three) calls);
}
