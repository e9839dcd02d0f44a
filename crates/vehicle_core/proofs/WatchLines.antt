-- How the lines of a watcher lead on what was told.
use Rattle.std.proofs.Common.{◌≡◌, ℕ, ◌==◌, Bool, true, false, List, [], ◌∷◌, drop, length, is_some, refl, sym, subst, ap, ◌∙◌, arith}
use Rattle.std.proofs.lemmas.Bool.Decides.{nat_tests}
use Rattle.mission_model.specs.declared.plan.PlanHead.{PlanHead}
use Rattle.mission_model.specs.declared.request.Asked.{Asked}
use Rattle.mission_model.specs.declared.request.Client.TheVariants.{Watch}
use Rattle.mission_model.specs.declared.request.Reply.{Reply}
use Rattle.mission_model.specs.declared.watch.WatchInput.{WatchInput}
use Rattle.mission_model.specs.declared.watch.WatchOut.{WatchOut}
use Rattle.mission_model.specs.declared.flight_line.Line.{Line}
use Rattle.mission_model.specs.declared.flight_line.Line.TheVariants as line
use Rattle.mission_model.specs.Replies.{CanHear}
use Rattle.request_board.specs.BoardState.{BoardState, posted, open_asks}
use Rattle.request_board.specs.BoardCalls.{heard}
use Rattle.request_board.specs.Watching.{Awaited, IsTold}
use Rattle.request_board.specs.WatchLaw.{WatchRules, reads_of}
use Rattle.vehicle_core.specs.declared.shared.Shared.{Shared}
use Rattle.vehicle_core.specs.declared.watch.WatchActor.{WatchActor}
use Rattle.vehicle_core.specs.ScheduleState.{ScheduleState, advanced}
use Rattle.vehicle_core.specs.SharedState.{shared_told}
use Rattle.vehicle_core.specs.Ready.{Goes, is_free}
use Rattle.vehicle_core.specs.ActorStep.{all_asked}
use Rattle.vehicle_core.specs.LinkActs.{CanHearAll}
use Rattle.vehicle_core.specs.WatchActs.{WatchAsks, TurnDoes, TurnHears, WatchFits, WatchMade}
use Rattle.vehicle_core.specs.WatchKept.{told_one}
use Rattle.vehicle_core.proofs.Lists.{first_of}
use Rattle.vehicle_core.proofs.LinkLines.{turn_replies, turn_free}

-- a watcher that is free waits for nothing
is_none : {X : Type 0} (xs : List X) → (length xs == 0) ≡ true → xs ≡ []
is_none [] is = refl
is_none (x ∷ xs) is = absurd (grind (arith, nat_tests))

pub free_none : (b : BoardState) (number : ℕ) → is_free b (Watch number) ≡ true → open_asks b (Watch number) ≡ []
free_none b number is = is_none (open_asks b (Watch number)) is

free_idle : (busy : Bool) (read : Awaited) (heads : List PlanHead) → WatchAsks busy read heads [] → busy ≡ false
free_idle true read heads h = absurd (let e = h.0 in cc)
free_idle false read heads h = refl

module _ {W : Type 0} where
  -- the reply that was taken may be told, and nothing is outstanding then
  pub may_tell : (waits : W → Awaited) (s : Shared) (w : WatchActor W) (asked : Asked) (given : Reply) (mid : Shared) (schedule : ScheduleState) → WatchFits waits s w → TurnHears s w.number w.schedule asked given mid schedule
      → IsTold (waits w.watcher) asked given mid.board.published × (open_asks mid.board (Watch w.number) ≡ [])
  may_tell waits s w asked given mid schedule fits turn =
      let can : CanHear asked given = first_of (λ (said : Asked × Reply). CanHear said.0 said.1) (asked, given) (posted mid.board (Watch w.number)) (subst CanHearAll turn.first (fits.replies turn.power)) in
      let one = told_one w.busy (waits w.watcher) s.board.published asked given (open_asks s.board (Watch w.number)) (open_asks mid.board (Watch w.number)) fits.asks turn.asks can in
      (subst (IsTold (waits w.watcher) asked given) (sym (ap (λ (x : Shared). x.board.published) turn.shared)) one.0, one.1)

  -- an input was begun
  pub did_made : (rules : WatchRules W) (waits : W → Awaited) (s : Shared) (w : WatchActor W) (given : WatchInput) (out : WatchOut) (next : W) (schedule : ScheduleState) (mid : Shared) (made : Line) (s' : Shared) → WatchFits waits s w → TurnDoes s w.number w.schedule given mid schedule
      → rules.works w.watcher given mid.board.published ≡ (out, next) → s' ≡ record mid { board = all_asked mid.board (Watch w.number) (reads_of out.read) } → made ≡ line.WatchDid w.number given out.note (length (reads_of out.read))
      → WatchMade rules s w made s' (record { number = w.number; watcher = next; busy = is_some out.read; schedule = schedule })
  did_made rules waits s w given out next schedule mid made s' fits turn works shared is =
      let none : open_asks s.board (Watch w.number) ≡ [] = free_none s.board w.number turn.free in
      let start : WatchMade rules s w (line.WatchDid w.number given out.note (length (reads_of out.read))) (record s { board = all_asked s.board (Watch w.number) (reads_of out.read) }) (record { number = w.number; watcher = next; busy = is_some out.read; schedule = advanced w.schedule }) = record {
        power = turn.power;
        led = λ arrived. (
          refl,
          turn_free (shared_told s arrived) (Watch w.number) w.schedule Goes turn.none turn.free (ap (λ (xs : List _). Rattle.vehicle_core.specs.Ready.on_schedule (shared_told s arrived) (Watch w.number) (record w.schedule { inputs = xs })) turn.input),
          record {
            rest = drop 1 w.schedule.inputs;
            input = turn.input;
            requests = reads_of out.read;
            law = record {
              may = free_idle w.busy (waits w.watcher) s.board.published (subst (WatchAsks w.busy (waits w.watcher) s.board.published) none fits.asks);
              note = ap (λ (x : WatchOut × W). x.0.note) (sym answers);
              asked = ap (λ (x : WatchOut × W). reads_of x.0.read) (sym answers);
              asks = refl;
              after = ap (λ (x : WatchOut × W). record { watcher = x.1; busy = is_some x.0.read }) (sym answers);
            };
            shared = refl;
            after = refl;
          },
        );
        counts = refl;
        number = refl;
      } in
      subst (λ (x : Shared × ScheduleState × Line). WatchMade rules s w x.2 x.0 (record { number = w.number; watcher = next; busy = is_some out.read; schedule = x.1 }))
      (λ k. (sym (shared ∙ ap (λ (m : Shared). record m { board = all_asked m.board (Watch w.number) (reads_of out.read) }) turn.shared) k, sym turn.rest k, sym is k)) start
    where
      answers : rules.works w.watcher given s.board.published ≡ (out, next)
      answers = subst (λ (m : Shared). rules.works w.watcher given m.board.published ≡ (out, next)) turn.shared works

  -- a reply was taken
  pub got_made : (rules : WatchRules W) (s : Shared) (w : WatchActor W) (asked : Asked) (given : Reply) (out : WatchOut) (next : W) (schedule : ScheduleState) (mid : Shared) (made : Line) (s' : Shared) → TurnHears s w.number w.schedule asked given mid schedule
      → rules.tells w.watcher asked given mid.board.published ≡ (out, next) → s' ≡ record mid { board = all_asked mid.board (Watch w.number) (reads_of out.read) } → made ≡ line.WatchGot w.number asked given out.note (length (reads_of out.read))
      → WatchMade rules s w made s' (record { number = w.number; watcher = next; busy = is_some out.read; schedule = schedule })
  got_made rules s w asked given out next schedule mid made s' turn tells shared is =
      let rest : List (Asked × Reply) = posted mid.board (Watch w.number) in
      let b : BoardState = heard s.board (Watch w.number) rest in
      let start : WatchMade rules s w (line.WatchGot w.number asked given out.note (length (reads_of out.read))) (record s { board = all_asked b (Watch w.number) (reads_of out.read) }) (record { number = w.number; watcher = next; busy = is_some out.read; schedule = w.schedule }) = record {
        power = turn.power;
        led = λ arrived. (
          refl,
          turn_replies (shared_told s arrived) (Watch w.number) w.schedule (asked, given) rest turn.first,
          record {
            rest = rest;
            first = turn.first;
            requests = reads_of out.read;
            law = record {
              may = tt;
              note = ap (λ (x : WatchOut × W). x.0.note) (sym answers);
              asked = ap (λ (x : WatchOut × W). reads_of x.0.read) (sym answers);
              asks = refl;
              after = ap (λ (x : WatchOut × W). record { watcher = x.1; busy = is_some x.0.read }) (sym answers);
            };
            shared = refl;
            after = refl;
          },
        );
        counts = refl;
        number = refl;
      } in
      subst (λ (x : Shared × ScheduleState × Line). WatchMade rules s w x.2 x.0 (record { number = w.number; watcher = next; busy = is_some out.read; schedule = x.1 }))
      (λ k. (sym (shared ∙ ap (λ (m : Shared). record m { board = all_asked m.board (Watch w.number) (reads_of out.read) }) turn.shared) k, sym turn.rest k, sym is k)) start
    where
      answers : rules.tells w.watcher asked given s.board.published ≡ (out, next)
      answers = subst (λ (m : Shared). rules.tells w.watcher asked given m.board.published ≡ (out, next)) turn.shared tells
