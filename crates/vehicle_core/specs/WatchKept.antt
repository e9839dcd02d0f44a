-- What a line of a watcher leaves, and that the watcher fits still.
use Rattle.std.proofs.Common.{◌≡◌, ℕ, ◌<◌, ◌≤◌, Bool, true, false, is_some, List, [], ◌∷◌, ◌++◌, drop, Option, Some, None, refl, sym, subst, ap, ◌∙◌, arith}
use Rattle.std.specs.List.{All}
use Rattle.std.proofs.lemmas.List.Elements.{All-head, All-tail}
use Rattle.mission_model.specs.declared.plan.PlanHead.{PlanHead}
use Rattle.mission_model.specs.declared.plan.PlanType.{PlanType}
use Rattle.mission_model.specs.declared.request.Asked.{Asked}
use Rattle.mission_model.specs.declared.request.Asked.TheVariants as about
use Rattle.mission_model.specs.declared.request.Client.{Client}
use Rattle.mission_model.specs.declared.request.Client.TheVariants.{Nav, Link, Watch}
use Rattle.mission_model.specs.declared.request.Reply.{Reply}
use Rattle.mission_model.specs.declared.request.Request.{Request}
use Rattle.mission_model.specs.declared.request.Request.TheVariants as request
use Rattle.mission_model.specs.declared.schedule.InputLine.{InputLine}
use Rattle.mission_model.specs.declared.watch.WatchInput.{WatchInput}
use Rattle.mission_model.specs.declared.watch.WatchOut.{WatchOut}
use Rattle.mission_model.specs.declared.flight_line.Line.{Line}
use Rattle.mission_model.specs.declared.flight_line.Line.TheVariants as line
use Rattle.mission_model.specs.BootScripts.{WatcherInput}
use Rattle.mission_model.specs.PlanTypes.{head_of}
use Rattle.mission_model.specs.Replies.{CanHear}
use Rattle.request_board.specs.BoardState.{BoardState, HasClient, posted, open_asks}
use Rattle.request_board.specs.BoardCalls.{asked, heard}
use Rattle.request_board.specs.Frames.{posted_own, asked_posted, asked_own, asked_others, heard_own, heard_others, with_waiting}
use Rattle.request_board.specs.Watching.{Awaited, HeadsFit, IsTold, IsPublished, IsAwaited, Answers}
use Rattle.request_board.specs.WatchLaw.{WatchRules, WatchState, reads_of}
use Rattle.transfer_lock.specs.TransferState.{TransferState}
use Rattle.vehicle_core.specs.declared.shared.Shared.{Shared}
use Rattle.vehicle_core.specs.declared.watch.WatchActor.{WatchActor}
use Rattle.vehicle_core.specs.Told.{SharedTold, WatchTold}
use Rattle.vehicle_core.specs.SharedState.{shared_told}
use Rattle.vehicle_core.specs.ActorStep.{with_board, all_asked, WatcherStep}
use Rattle.vehicle_core.specs.LinkActs.{CanHearAll}
use Rattle.vehicle_core.specs.WatchActs.{WatchAsks, WatchFits, watch_told}
use Rattle.vehicle_core.specs.UploadFits.{BoardFits}
use Rattle.vehicle_core.specs.UploadLaws.{heard_fits, heard_clients, unbrought_fits}
use Rattle.vehicle_core.specs.Leaves.{ClientKeeps}
use Rattle.vehicle_core.specs.LinkKept.{goes_free}

-- The board.

reads_fit : (t : TransferState) (b : BoardState) (client : Client) (read : Option (PlanType × ℕ × ℕ)) → BoardFits t b → BoardFits t (all_asked b client (reads_of read))
reads_fit t b client None fits = fits
reads_fit t b client (Some (kind, id, seq)) fits = unbrought_fits t b ((client, request.Read kind id seq) ∷ []) b.index fits refl fits.index

-- two steps, one behind the other
keeps_on : (client : Client) (t u v : SharedTold) → ClientKeeps client t u → ClientKeeps client u v → ClientKeeps client t v
keeps_on client t u v first second = record {
  same = record { links = second.same.links ∙ first.same.links; watchers = second.same.watchers ∙ first.same.watchers };
  others = λ other apart. ((second.others other apart).0 ∙ (first.others other apart).0, (second.others other apart).1 ∙ (first.others other apart).1);
  published = second.published ∙ first.published;
  service = second.service ∙ first.service;
  power = second.power ∙ first.power;
}

reads_keep : (t : SharedTold) (client : Client) (read : Option (PlanType × ℕ × ℕ)) → ClientKeeps client t (with_board t (all_asked t.board client (reads_of read)))
reads_keep t client None = record { same = record { links = refl; watchers = refl }; others = λ other apart. (refl, refl); published = refl; service = refl; power = refl }
reads_keep t client (Some (kind, id, seq)) = record { same = record { links = refl; watchers = refl }; others = asked_others t.board client (request.Read kind id seq); published = refl; service = refl; power = refl }

pub heard_keeps : (t : SharedTold) (client : Client) (rest : List (Asked × Reply)) → ClientKeeps client t (with_board t (heard t.board client rest))
heard_keeps t client rest = record {
  same = heard_clients t.board client rest;
  others = heard_others t.board client rest;
  published = heads_same t.board client rest;
  service = (with_waiting t.board client rest).1;
  power = refl;
}
  where
    heads_same : (b : BoardState) (client : Client) (rest : List (Asked × Reply)) → (heard b client rest).published ≡ b.published
    heads_same b Nav rest = refl
    heads_same b (Link n) rest = refl
    heads_same b (Watch n) rest = refl

-- The watcher.

-- what it needs of the board, of the power and of itself
record WatchFitsIn (b : BoardState) (power : Bool) (number : ℕ) (busy : Bool) (read : Awaited) (inputs : List InputLine) : Type 0 where
  pub client : HasClient b (Watch number)
  pub heads : HeadsFit b.published
  pub replies : power ≡ true → CanHearAll (posted b (Watch number))
  pub inputs_fit : All WatcherInput inputs
  pub asks : WatchAsks busy read b.published (open_asks b (Watch number))

-- its answer is asked while nothing of it is outstanding
asked_in : (b : BoardState) (power : Bool) (number : ℕ) (out : Option (PlanType × ℕ × ℕ)) (read : Awaited) (inputs : List InputLine) → HasClient b (Watch number) → HeadsFit b.published → (power ≡ true → CanHearAll (posted b (Watch number))) → All WatcherInput inputs → open_asks b (Watch number) ≡ [] → IsPublished b.published out → IsAwaited b.published out read
    → WatchFitsIn (all_asked b (Watch number) (reads_of out)) power number (is_some out) read inputs
asked_in b power number None read inputs has heads replies fit none published awaited = record { client = has; heads = heads; replies = replies; inputs_fit = fit; asks = none }
asked_in b power number (Some (kind, id, seq)) read inputs has heads replies fit none published awaited = record {
  client = has;
  heads = heads;
  replies = λ on. subst CanHearAll (sym (asked_posted b (Watch number) (request.Read kind id seq) (Watch number))) (replies on);
  inputs_fit = fit;
  asks = (
    asked_own b (Watch number) (request.Read kind id seq)
        ∙ ap (λ (l : List Asked). l ++ about.Read kind id seq ∷ []) none
        ∙ ap (λ (n : ℕ). about.Read kind n seq ∷ []) published.0
        ∙ ap (λ (r : Awaited). about.Read r.kind r.head.id r.seq ∷ []) (sym awaited),
    subst (λ (r : Awaited). r.seq < r.head.count) (sym awaited) published.1,
    subst (λ (r : Awaited). r.head.id ≤ (head_of b.published r.kind).id) (sym awaited) (omega arith),
    λ same. subst (λ (r : Awaited). head_of b.published r.kind ≡ r.head) (sym awaited) refl,
  );
}

-- a watcher with a request outstanding has a current input
waits_busy : (busy : Bool) (read : Awaited) (heads : List PlanHead) (asked : Asked) (rest : List Asked) → WatchAsks busy read heads (asked ∷ rest) → (busy ≡ true) × WatchAsks true read heads (asked ∷ rest)
waits_busy true read heads asked rest h = (refl, h)
waits_busy false read heads asked rest h = absurd cc

-- a reply that was taken is on the one read that the watcher waits for
pub told_one : (busy : Bool) (read : Awaited) (heads : List PlanHead) (asked : Asked) (given : Reply) (asks rest : List Asked) → WatchAsks busy read heads asks → asks ≡ asked ∷ rest → CanHear asked given → IsTold read asked given heads × (rest ≡ [])
told_one busy read heads asked given asks rest h is can =
    let w = waits_busy busy read heads asked rest (subst (WatchAsks busy read heads) is h) in
    let one = w.1.0 in
    (record { asked_it = cc; reply = can; within = w.1.1; same_head = w.1.3 }, cc)

behind : (inputs : List InputLine) → All WatcherInput inputs → All WatcherInput (drop 1 inputs)
behind [] all = all
behind (input ∷ inputs) all = All-tail WatcherInput input inputs all

keeps_itself : (client : Client) (t : SharedTold) → ClientKeeps client t t
keeps_itself client t = record { same = record { links = refl; watchers = refl }; others = λ other apart. (refl, refl); published = refl; service = refl; power = refl }

module _ {W : Type 0} where
  -- what a line of a watcher leaves
  pub record WatchLeaves (waits : W → Awaited) (s : Shared) (w : WatchActor W) (s' : Shared) (w' : WatchActor W) (arrived : List ℕ) : Type 0 where
    pub board : BoardFits s'.transfer s'.board
    pub keeps : ClientKeeps (Watch w.number) (shared_told s arrived) (shared_told s' arrived)
    pub transfer : s'.transfer ≡ s.transfer
    pub fits : WatchFits waits s' w'

  fits_from : (waits : W → Awaited) (s' : Shared) (w' : WatchActor W) (b : BoardState) (power : Bool) (number : ℕ) (busy : Bool) (watcher : W) (inputs : List InputLine) → s'.board ≡ b → s'.power ≡ power → w'.number ≡ number → w'.busy ≡ busy → w'.watcher ≡ watcher → w'.schedule.inputs ≡ inputs → WatchFitsIn b power number busy (waits watcher) inputs → WatchFits waits s' w'
  fits_from waits s' w' b power number busy watcher inputs board on named current whose left fits =
      let f : WatchFitsIn s'.board s'.power w'.number w'.busy (waits w'.watcher) w'.schedule.inputs =
      subst (λ (x : BoardState × Bool × ℕ × Bool × W × List InputLine). WatchFitsIn x.0 x.1 x.2 x.3 (waits x.4) x.5) (λ k. (sym board k, sym on k, sym named k, sym current k, sym whose k, sym left k)) fits in
      record { client = f.client; heads = f.heads; replies = f.replies; inputs = f.inputs_fit; asks = f.asks }

  step_from : (waits : W → Awaited) (s : Shared) (w : WatchActor W) (s' : Shared) (w' : WatchActor W) (arrived : List ℕ) (b : BoardState) (requests : List Request) (out : WatchOut) (watcher : W) (inputs : List InputLine) → BoardFits s.transfer b → ClientKeeps (Watch w.number) (shared_told s arrived) (with_board (shared_told s arrived) b)
      → HasClient b (Watch w.number) → (s.power ≡ true → CanHearAll (posted b (Watch w.number))) → open_asks b (Watch w.number) ≡ [] → All WatcherInput inputs → Answers b.published out (waits watcher)
      → requests ≡ reads_of out.read → shared_told s' arrived ≡ with_board (shared_told s arrived) (all_asked b (Watch w.number) requests)
      → w'.number ≡ w.number → w'.busy ≡ is_some out.read → w'.watcher ≡ watcher → w'.schedule.inputs ≡ inputs → WatchLeaves waits s w s' w' arrived
  step_from waits s w s' w' arrived b requests out watcher inputs fits keeps has replies none all answers asks shared named current whose left =
      let b' : BoardState = all_asked b (Watch w.number) (reads_of out.read) in
      let t : SharedTold = shared_told s arrived in
      let is : shared_told s' arrived ≡ with_board t b' = shared ∙ ap (λ (r : List Request). with_board t (all_asked b (Watch w.number) r)) asks in
      record {
        board = subst (λ (x : SharedTold). BoardFits x.transfer x.board) (sym is) (reads_fit s.transfer b (Watch w.number) out.read fits);
        keeps = subst (ClientKeeps (Watch w.number) t) (sym is) (keeps_on (Watch w.number) t (with_board t b) (with_board t b') keeps (reads_keep (with_board t b) (Watch w.number) out.read));
        transfer = ap (λ (x : SharedTold). x.transfer) is;
        fits = fits_from waits s' w' b' s.power w.number (is_some out.read) watcher inputs (ap (λ (x : SharedTold). x.board) is) (ap (λ (x : SharedTold). x.power) is) named current whose left
            (asked_in b s.power w.number out.read (waits watcher) inputs has fits.heads replies all none answers.read answers.next);
      }

  -- the laws of a watcher's answers
  pub record AnswersWell (rules : WatchRules W) (waits : W → Awaited) : Type 0 where
    pub works : (w : W) (input : WatchInput) (heads : List PlanHead) → HeadsFit heads → Answers heads (rules.works w input heads).0 (waits (rules.works w input heads).1)
    pub tells : (w : W) (about : Asked) (given : Reply) (heads : List PlanHead) → HeadsFit heads → IsTold (waits w) about given heads → Answers heads (rules.tells w about given heads).0 (waits (rules.tells w about given heads).1)

  pub watch_step_leaves : (rules : WatchRules W) (waits : W → Awaited) (s : Shared) (w : WatchActor W) (made : Line) (s' : Shared) (w' : WatchActor W) (arrived : List ℕ) → AnswersWell rules waits → BoardFits s.transfer s.board → WatchFits waits s w → s.power ≡ true → WatcherStep rules (shared_told s arrived) (watch_told w) made (shared_told s' arrived) (watch_told w') → WatchLeaves waits s w s' w' arrived
  watch_step_leaves rules waits s w (line.WatchDid number given note asks) s' w' arrived well fits own on h =
      let t : SharedTold = shared_told s arrived in
      let free = goes_free t (Watch w.number) w.schedule h.1 in
      let out : WatchOut × W = rules.works w.watcher given s.board.published in
      step_from waits s w s' w' arrived s.board h.2.requests out.0 out.1 (drop 1 w.schedule.inputs) fits (keeps_itself (Watch w.number) t) own.client own.replies free.1 (behind w.schedule.inputs own.inputs) (well.works w.watcher given s.board.published fits.heads)
      h.2.law.asked h.2.shared (ap (λ (x : WatchTold W). x.number) h.2.after)
      (ap (λ (x : WatchState W). x.busy) h.2.law.after) (ap (λ (x : WatchState W). x.watcher) h.2.law.after) (ap (λ (x : WatchTold W). x.schedule.inputs) h.2.after)
  watch_step_leaves rules waits s w (line.WatchGot number about given note asks) s' w' arrived well fits own on h =
      let t : SharedTold = shared_told s arrived in
      let rest : List (Asked × Reply) = h.2.rest in
      let b : BoardState = heard s.board (Watch w.number) rest in
      let own_asks : open_asks s.board (Watch w.number) ≡ about ∷ open_asks b (Watch w.number) = heard_own s.board (Watch w.number) (about, given) rest own.client h.2.first in
      let all : CanHearAll ((about, given) ∷ rest) = subst CanHearAll h.2.first (own.replies on) in
      let one = told_one w.busy (waits w.watcher) s.board.published about given (open_asks s.board (Watch w.number)) (open_asks b (Watch w.number)) own.asks own_asks (All-head (λ (said : Asked × Reply). CanHear said.0 said.1) (about, given) rest all) in
      let out : WatchOut × W = rules.tells w.watcher about given s.board.published in
      step_from waits s w s' w' arrived b h.2.requests out.0 out.1 w.schedule.inputs (heard_fits s.transfer s.board (Watch w.number) rest fits) (heard_keeps t (Watch w.number) rest)
      (subst (λ (n : ℕ). w.number < n) (sym (heard_clients s.board (Watch w.number) rest).watchers) own.client)
      (λ power. subst CanHearAll (sym (posted_own s.board (Watch w.number) rest own.client)) (All-tail (λ (said : Asked × Reply). CanHear said.0 said.1) (about, given) rest all))
      one.1 own.inputs (well.tells w.watcher about given s.board.published fits.heads one.0)
      h.2.law.asked h.2.shared (ap (λ (x : WatchTold W). x.number) h.2.after)
      (ap (λ (x : WatchState W). x.busy) h.2.law.after) (ap (λ (x : WatchState W). x.watcher) h.2.law.after) (ap (λ (x : WatchTold W). x.schedule.inputs) h.2.after)
  watch_step_leaves rules waits s w (line.Boot number heads mark) s' w' arrived well fits own on h = elim h [ ]
  watch_step_leaves rules waits s w (line.BootCut number) s' w' arrived well fits own on h = elim h [ ]
  watch_step_leaves rules waits s w (line.Arrived who place) s' w' arrived well fits own on h = elim h [ ]
  watch_step_leaves rules waits s w (line.Met who place) s' w' arrived well fits own on h = elim h [ ]
  watch_step_leaves rules waits s w (line.Waited who) s' w' arrived well fits own on h = elim h [ ]
  watch_step_leaves rules waits s w (line.Sent number said given) s' w' arrived well fits own on h = elim h [ ]
  watch_step_leaves rules waits s w (line.Heard number given said) s' w' arrived well fits own on h = elim h [ ]
  watch_step_leaves rules waits s w (line.Took who about) s' w' arrived well fits own on h = elim h [ ]
  watch_step_leaves rules waits s w (line.Served who given) s' w' arrived well fits own on h = elim h [ ]
  watch_step_leaves rules waits s w (line.Got about given) s' w' arrived well fits own on h = elim h [ ]
  watch_step_leaves rules waits s w (line.Nav given entry) s' w' arrived well fits own on h = elim h [ ]
  watch_step_leaves rules waits s w (line.Dropped kind seq) s' w' arrived well fits own on h = elim h [ ]
  watch_step_leaves rules waits s w line.End s' w' arrived well fits own on h = elim h [ ]
  watch_step_leaves rules waits s w line.Stuck s' w' arrived well fits own on h = elim h [ ]
