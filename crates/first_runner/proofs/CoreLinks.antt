-- A link's steps and what their lines tell.
use Rattle.std.proofs.Common.{◌≡◌, ◌≢◌, ◌⊎◌, inl, inr, ℕ, zero, suc, ◌+◌, ◌<◌, ◌≤◌, ◌==◌, min, Bool, true, false, List, [], ◌∷◌, ◌++◌, length, take, drop, map, get_or, set, length-set, Option, Some, None, refl, sym, ap, ◌∙◌, subst, arith, append-nil, length-append}
use Rattle.std.specs.Prelude.{slice_get, slice_index_or, if◌then◌else◌}
use Rattle.std.specs.List.{All}
use Rattle.std.proofs.lemmas.Bool.Decides.{eqb_tells}
use Rattle.std.proofs.lemmas.List.{map-set, get_or-set_other, get_or-set_same}
use Rattle.std.proofs.lemmas.List.Elements.{All-head}
use Rattle.std.proofs.lemmas.Grind.{get_or-set_at}
use Rattle.std.proofs.lemmas.Option.{same_Some, slice_get_within}
use Rattle.first_model.specs.declared.limits.TheConstants.{MAX_PLACES, MAX_MISSION_ITEMS}
use Rattle.first_model.specs.declared.plan.Item.{Item}
use Rattle.first_model.specs.declared.plan.PlanType.TheVariants.{Mission}
use Rattle.first_model.specs.declared.request.Client.{Client}
use Rattle.first_model.specs.declared.request.Client.TheVariants as client
use Rattle.first_model.specs.declared.request.Request.{Request}
use Rattle.first_model.specs.declared.request.Request.TheVariants as request
use Rattle.first_model.specs.declared.request.Asked.{Asked}
use Rattle.first_model.specs.declared.request.Asked.TheVariants as about
use Rattle.first_model.specs.declared.request.Reply.{Reply}
use Rattle.first_model.specs.declared.request.Reply.TheVariants as reply
use Rattle.first_model.specs.declared.message.AckCode.TheVariants.{Accepted, Error, NoSpace}
use Rattle.first_model.specs.declared.message.Said.{Said}
use Rattle.first_model.specs.declared.message.Said.TheVariants as said
use Rattle.first_model.specs.declared.message.Answer.{Answer}
use Rattle.first_model.specs.declared.message.Answer.TheVariants as answer
use Rattle.first_model.specs.declared.schedule.InputLine.{InputLine}
use Rattle.first_model.specs.declared.schedule.InputLine.TheVariants as input
use Rattle.first_model.specs.declared.flight_line.Actor.TheVariants as actor
use Rattle.first_model.specs.declared.flight_line.Line.{Line}
use Rattle.first_model.specs.declared.flight_line.Line.TheVariants as line
use Rattle.first_model.specs.PlainMission.{IsPlainMission}
use Rattle.first_model.specs.PlanCode.{PlanCode}
use Rattle.first_board.specs.BoardState.{BoardState, posted, outstanding, limit, same_client}
use Rattle.first_board.specs.BoardCalls.{asked, asked_of, heard}
use Rattle.first_vehicle.specs.VehicleState.{VehicleState}
use Rattle.first_core.specs.declared.StepOut.{StepOut}
use Rattle.first_core.specs.declared.StepOut.TheVariants.{Made, Idle}
use Rattle.first_core.specs.declared.link.Session.{Session}
use Rattle.first_core.specs.declared.link.Session.TheVariants as session
use Rattle.first_core.specs.ScheduleState.{ScheduleState, begun_on, advanced}
use Rattle.first_core.specs.SharedState.{SharedState, with_board, arrived_at, arrivals_at, last_id}
use Rattle.first_core.specs.LinkState.{LinkState, SessionFits, Uploading, IsForLink, link_done, session_out}
use Rattle.first_core.specs.LinkLaw as law
use Rattle.first_core.specs.CoreState.{CoreState, CoreFits}
use Rattle.first_core.specs.CoreLaw.{LinkMovesIf}
use Rattle.first_runner.specs.BootTold.{BootTold, LinkTold, SessionTold, Free, Receiving, no_link, own, times, replies_to, open_asks, replies_taken, next_reply, link_at, schedule_of, link_asks, takes_id, said_session, heard_session, answered_schedule, after_message, after_hearing, with_schedule, arrivals, told_after}
use Rattle.first_runner.specs.BootReady.{maker_of, is_free, gives_step, is_ready}
use Rattle.first_runner.specs.CoreRun.{IsCurrent, SaysCount, SaysItem, SaysLaw, DoneLaw, HearsLaw, LineLaw, IsWithin}
use Rattle.first_runner.specs.CoreTold.{BoardTold, CacheTold, PlacesTold, CoreTold, session_told, link_told}
use Rattle.first_runner.proofs.CoreLists.{tell, own_test}
use Rattle.first_runner.proofs.CoreBoard.{board_asks, board_hears, next_is, next_none, open_count}
use Rattle.first_runner.proofs.CoreClients.{open_more, cache_others, cache_apart, hears_within, open_hears}
use Rattle.first_runner.proofs.CoreReady.{free_is, free_not, link_place, gives_ready, gives_none, link_hears, link_steps, link_rests}
use Rattle.first_runner.proofs.CoreWorker.{Follows}
use Rattle.first_runner.proofs.TiedSteps.{linked}
use Rattle.first_runner.proofs.TiedWorker.{link_fits}
use Rattle.first_runner.proofs.TiedLink.{of_link}

-- what is told of the link at a place
get_told : (links : List LinkState) (number : ℕ) (l : LinkState) → slice_get links number ≡ Some l → get_or (map link_told links) number no_link ≡ link_told l
get_told [] number l at = cc
get_told (x ∷ links) zero l at = ap link_told (same_Some x l at)
get_told (x ∷ links) (suc number) l at = get_told links number l at

pub told_link : (t : BootTold) (c : CoreState) (number : ℕ) (l : LinkState) → t.links ≡ map link_told c.links → slice_get c.links number ≡ Some l → link_at t number ≡ link_told l
told_link t c number l told at = ap (λ xs. get_or xs number no_link) told ∙ get_told c.links number l at

pub get_past : (links : List LinkState) (number : ℕ) → slice_get links number ≡ None → get_or (map link_told links) number no_link ≡ no_link
get_past [] number at = refl
get_past (x ∷ links) zero at = cc
get_past (x ∷ links) (suc number) at = get_past links number at

-- and what is told once it moved
links_moved : (t : BootTold) (c : CoreState) (number : ℕ) (x : LinkTold) (new : LinkState) → t.links ≡ map link_told c.links → x ≡ link_told new → set t.links number x ≡ map link_told (set c.links number new)
links_moved t c number x new told is = (λ k. set (told k) number (is k)) ∙ sym (map-set link_told c.links number new)

-- where the link has nothing outstanding it has no open request
pub free_link : (t : BootTold) (c : CoreState) (l : LinkState) → CoreTold t c → law.IsFree c.shared l → (next_reply t (client.Link l.number) ≡ None) × (is_free t (client.Link l.number) ≡ true)
free_link t c l told free = (
  next_none t.asked t.taken t.replies t.heard c.shared.board (client.Link l.number) told.board free.posted,
  free_is t (client.Link l.number) (outstanding c.shared.board (client.Link l.number)) (open_count t.asked t.taken t.replies t.heard c.shared.board (client.Link l.number) told.board) free.outstanding,
)

-- a free link with an input that is ready takes its step
pub link_free_ready : (t : BootTold) (c : CoreState) (l : LinkState) → CoreTold t c → slice_get c.links l.number ≡ Some l → law.IsFree c.shared l → gives_step t (client.Link l.number) l.schedule.inputs l.schedule.begun ≡ true → is_ready t (actor.Link l.number) ≡ true
link_free_ready t c l told at free gives =
    let parts = free_link t c l told free in
    link_steps t l.number l.schedule parts.0 parts.1 (ap (λ (x : LinkTold). x.schedule) (told_link t c l.number l told.links at)) gives

-- an upload is always ready
upload_gives : (t : BootTold) (client : Client) (inputs : List InputLine) (begun : Bool) (items : List Item) (rest : List InputLine) → inputs ≡ input.Upload Mission items ∷ rest → gives_step t client inputs begun ≡ true
upload_gives t client inputs begun items rest is = subst (λ xs. gives_step t client xs begun ≡ true) (sym is) refl

-- the upload that is the current input is of a plain mission
plain_upload : (inputs : List InputLine) (items : List Item) (rest : List InputLine) → All IsForLink inputs → inputs ≡ input.Upload Mission items ∷ rest → IsPlainMission items
plain_upload inputs items rest all is = All-head IsForLink (input.Upload Mission items) rest (subst (All IsForLink) is all)

-- nobody has more open requests than its limit once one link asks, which had none
asks_within : (asked : List (Client × Asked)) (n : ℕ) (replies : List Reply) (heard : List Client) (b : BoardState) (number : ℕ) (about : Asked) (other : Client) → BoardTold asked n replies heard b → length (drop (times other heard) (own other asked)) ≤ limit other → length (drop (times (client.Link number) heard) (own (client.Link number) asked)) ≡ 0 →
    length (drop (times other heard) (own other (asked ++ (client.Link number, about) ∷ []))) ≤ limit other
asks_within asked n replies heard b number about other told within none =
    let one : List (Client × Asked) = (client.Link number, about) ∷ [] in
    elim (tell other (client.Link number)) [
      | inl same ↦
          let mine = open_more asked one n replies heard b (client.Link number) told in
          let count = open_count asked n replies heard b (client.Link number) told in
          let single : length (own (client.Link number) one) ≡ 1 = ap (λ (e : Bool). length (if e then about ∷ [] else [])) (own_test (client.Link number)) in
          let here : length (drop (times (client.Link number) heard) (own (client.Link number) (asked ++ one))) ≤ limit (client.Link number) = omega (arith, mine, count, single, none) in
          subst (λ (x : Client). length (drop (times x heard) (own x (asked ++ one))) ≤ limit x) (sym same.1) here
      | inr apart ↦
          let more = open_more asked one n replies heard b other told in
          let count = open_count asked n replies heard b other told in
          let no_one : length (own other one) ≡ 0 = ap (λ (e : Bool). length (if e then about ∷ [] else [])) apart.0 in
          omega (arith, more, count, no_one, within)
    ]

-- a link moved, and asked nothing
pub moved_told : (t : BootTold) (c : CoreState) (s : SharedState) (number : ℕ) (x : LinkTold) (new : LinkState) (asks : List (Client × Asked)) (arrived : List ℕ) (last : ℕ) → CoreTold t c → s.board ≡ c.shared.board → x ≡ link_told new → t.asked ≡ asks → last ≡ last_id s → PlacesTold s.arrivals arrived →
    CoreTold (record t { asked = asks; arrived = arrived; last_id = last; links = set t.links number x }) (linked c s number new)
moved_told t c s number x new asks arrived last told board is same ids places =
    let base : CoreTold (record t { arrived = arrived; last_id = last; links = set t.links number x }) (linked c s number new) = record {
      board = subst (BoardTold t.asked t.taken t.replies t.heard) (sym board) told.board;
      within = told.within;
      cache = told.cache;
      nav = told.nav;
      links = links_moved t c number x new told.links is;
      last_id = ids;
      places = places;
    } in
    subst (λ (a : List (Client × Asked)). CoreTold (record t { asked = a; arrived = arrived; last_id = last; links = set t.links number x }) (linked c s number new)) same base

-- a link moved, and asked one thing
pub asked_told : (t : BootTold) (c : CoreState) (number : ℕ) (x : LinkTold) (new : LinkState) (request : Request) (about : Asked) → CoreTold t c → asked_of request ≡ about → x ≡ link_told new → length (open_asks t (client.Link number)) ≡ 0 →
    CoreTold (record t { asked = t.asked ++ (client.Link number, about) ∷ []; links = set t.links number x }) (linked c (with_board c.shared (asked c.shared.board (client.Link number) request)) number new)
asked_told t c number x new request about told same is none =
    let one : List (Client × Asked) = (client.Link number, about) ∷ [] in
    record {
      board = board_asks t.asked t.taken t.replies t.heard c.shared.board ((client.Link number, request) ∷ []) one told.board (ap (λ (a : Asked). (client.Link number, a) ∷ []) same);
      within = λ other. asks_within t.asked t.taken t.replies t.heard c.shared.board number about other told.board (told.within other) none;
      cache = cache_others t.asked one t.taken t.replies t.heard c.shared.board c.nav.cache told.board refl told.cache;
      nav = told.nav;
      links = links_moved t c number x new told.links is;
      last_id = told.last_id;
      places = told.places;
    }

-- the first message of an upload
says_count : (t : BootTold) (c : CoreState) (l : LinkState) (kind count : ℕ) (given : Answer) (items : List Item) (rest : List InputLine) → CoreFits c → CoreTold t c → slice_get c.links l.number ≡ Some l → l.schedule.inputs ≡ input.Upload Mission items ∷ rest → l.schedule.begun ≡ false → kind ≡ 0 → count ≡ length items →
    ((t.last_id < 4294967295) × (given ≡ answer.RequestInt 0)) ⊎ ((t.last_id ≡ 4294967295) × (given ≡ answer.Ack NoSpace)) → SaysCount t (link_at t l.number) kind count given
says_count t c l kind count given items rest fits told at is fresh kind_is count_is answers =
    let plain : IsPlainMission items = plain_upload l.schedule.inputs items rest (link_fits c l.number l fits at).1.inputs is in
    let law : SaysCount t (link_told l) kind count given = (items, (rest, is), fresh, kind_is, count_is, omega (arith, count_is, plain.some), omega (arith, count_is, plain.valid.within), answers) in
    subst (λ (x : LinkTold). SaysCount t x kind count given) (sym (told_link t c l.number l told.links at)) law

pub begins_told : (v : VehicleState) (t : BootTold) (c : CoreState) (l : LinkState) (kind count : ℕ) (given : Answer) (s' : SharedState) (l' : LinkState) → CoreFits c → CoreTold t c → slice_get c.links l.number ≡ Some l → law.Begins c.shared l kind count given s' l' → Follows v t (actor.Link l.number) (Made (line.Sent l.number (said.Count kind count) given)) (linked c s' l.number l')
begins_told v t c l kind count given s' l' fits told at begins =
    let id : ℕ = last_id c.shared + 1 in
    let next : SharedState = record c.shared { ids = set c.shared.ids 0 id } in
    let new : LinkState = record { number = l.number; schedule = begun_on l.schedule; session = session.Receiving id count 0 } in
    let here = told_link t c l.number l told.links at in
    let last : last_id next ≡ id = get_or-set_at c.shared.ids 0 0 id 0 refl (rw fits.plans.ids (omega arith)) in
    let ids : suc t.last_id ≡ last_id next = omega (arith, last, told.last_id) in
    let answers : ((t.last_id < 4294967295) × (given ≡ answer.RequestInt 0)) ⊎ ((t.last_id ≡ 4294967295) × (given ≡ answer.Ack NoSpace)) = inl (omega (arith, begins.left, told.last_id), begins.answer) in
    let law = says_count t c l kind count given begins.items begins.rest fits told at begins.input begins.fresh begins.kind_is begins.count_is answers in
    let x : LinkTold = record { schedule = begun_on (link_at t l.number).schedule; session = Receiving (suc t.last_id) count 0 } in
    let is : x ≡ link_told new = λ k. record { schedule = begun_on (here k).schedule; session = Receiving ((ids ∙ last) k) count 0 } in
    let core = moved_told t c next l.number x new (t.asked ++ []) t.arrived (suc t.last_id) told refl is (sym (append-nil t.asked)) ids told.places in
    let free = free_link t c l told begins.free in
    let ready = link_free_ready t c l told at begins.free (upload_gives t (client.Link l.number) l.schedule.inputs l.schedule.begun begins.items begins.rest begins.input) in
    of_link (λ s y. Follows v t (actor.Link l.number) (Made (line.Sent l.number (said.Count kind count) given)) (linked c s l.number y)) s' next l' new begins.shared begins.link (
      refl,
      ready,
      (free.0, law),
      subst (λ (g : Answer). CoreTold (after_message t l.number (said.Count kind count) g) (linked c next l.number new)) (sym begins.answer) core,
    )

pub finds_told : (v : VehicleState) (t : BootTold) (c : CoreState) (l : LinkState) (kind count : ℕ) (given : Answer) (s' : SharedState) (l' : LinkState) → CoreFits c → CoreTold t c → slice_get c.links l.number ≡ Some l → law.FindsNoId c.shared l kind count given s' l' → Follows v t (actor.Link l.number) (Made (line.Sent l.number (said.Count kind count) given)) (linked c s' l.number l')
finds_told v t c l kind count given s' l' fits told at finds =
    let new : LinkState = link_done l in
    let here = told_link t c l.number l told.links at in
    let answers : ((t.last_id < 4294967295) × (given ≡ answer.RequestInt 0)) ⊎ ((t.last_id ≡ 4294967295) × (given ≡ answer.Ack NoSpace)) = inr (told.last_id ∙ finds.none, finds.answer) in
    let law = says_count t c l kind count given finds.items finds.rest fits told at finds.input finds.fresh finds.kind_is finds.count_is answers in
    let x : LinkTold = record { schedule = advanced (link_at t l.number).schedule; session = Free } in
    let is : x ≡ link_told new = λ k. record { schedule = advanced (here k).schedule; session = Free } in
    let core = moved_told t c c.shared l.number x new (t.asked ++ []) t.arrived t.last_id told refl is (sym (append-nil t.asked)) told.last_id told.places in
    let free = free_link t c l told finds.free in
    let ready = link_free_ready t c l told at finds.free (upload_gives t (client.Link l.number) l.schedule.inputs l.schedule.begun finds.items finds.rest finds.input) in
    of_link (λ s y. Follows v t (actor.Link l.number) (Made (line.Sent l.number (said.Count kind count) given)) (linked c s l.number y)) s' c.shared l' new finds.shared finds.link (
      refl,
      ready,
      (free.0, law),
      subst (λ (g : Answer). CoreTold (after_message t l.number (said.Count kind count) g) (linked c c.shared l.number new)) (sym finds.answer) core,
    )

-- an input that has begun stays as it is
pub stays_begun : (schedule : ScheduleState) → schedule.begun ≡ true → begun_on schedule ≡ schedule
stays_begun schedule is = λ k. record { inputs = schedule.inputs; begun = sym is k }

-- the requested item of an upload
pub writes_told : (v : VehicleState) (t : BootTold) (c : CoreState) (l : LinkState) (seq : ℕ) (given : Answer) (s' : SharedState) (l' : LinkState) → CoreFits c → CoreTold t c → slice_get c.links l.number ≡ Some l → law.Writes c.shared l seq given s' l' → Follows v t (actor.Link l.number) (Made (line.Sent l.number (said.Item seq) given)) (linked c s' l.number l')
writes_told v t c l seq given s' l' fits told at writes =
    let id : ℕ = writes.id in
    let count : ℕ = writes.count in
    let asks : Request = request.Write Mission id seq writes.item in
    let next : SharedState = with_board c.shared (asked c.shared.board (client.Link l.number) asks) in
    let new : LinkState = record l { session = session.Writing id count seq } in
    let here = told_link t c l.number l told.links at in
    let fit = (link_fits c l.number l fits at).1 in
    let stands : SessionFits l.schedule (session.Receiving id count seq) = subst (SessionFits l.schedule) writes.session_was fit.session in
    let uploading : Uploading (input.Upload Mission writes.items ∷ writes.rest) count = subst (λ inputs. Uploading inputs count) writes.input stands.0 in
    let plain : IsPlainMission writes.items = plain_upload l.schedule.inputs writes.items writes.rest fit.inputs writes.input in
    let code : PlanCode Mission count (take seq writes.items) writes.item ≡ None = subst (λ n. PlanCode Mission n (take seq writes.items) writes.item ≡ None) (sym uploading) (plain.valid.accepted seq writes.item writes.item_is) in
    let law : SaysItem (link_told l) (session_told (session.Receiving id count seq)) seq given = (writes.items, (writes.rest, writes.input), refl, writes.item, writes.item_is, code, writes.answer) in
    let law_here : SaysItem (link_at t l.number) (link_at t l.number).session seq given = subst (λ (x : LinkTold). SaysItem x x.session seq given) (sym here) (subst (λ (x : Session). SaysItem (link_told l) (session_told x) seq given) (sym writes.session_was) law) in
    let x : LinkTold = record { schedule = begun_on (link_at t l.number).schedule; session = said_session t.last_id (link_at t l.number).session (said.Item seq) (answer.Writes Mission id seq writes.item) } in
    let is : x ≡ link_told new =
    (λ k. record { schedule = begun_on (here k).schedule; session = said_session t.last_id (here k).session (said.Item seq) (answer.Writes Mission id seq writes.item) })
    ∙ (λ k. record { schedule = stays_begun l.schedule stands.1 k; session = said_session t.last_id (session_told (writes.session_was k)) (said.Item seq) (answer.Writes Mission id seq writes.item) }) in
    let none : length (open_asks t (client.Link l.number)) ≡ 0 = open_count t.asked t.taken t.replies t.heard c.shared.board (client.Link l.number) told.board ∙ writes.free.outstanding in
    let core = asked_told t c l.number x new asks (about.Write Mission id seq) told refl is none in
    let free = free_link t c l told writes.free in
    let ready = link_free_ready t c l told at writes.free (upload_gives t (client.Link l.number) l.schedule.inputs l.schedule.begun writes.items writes.rest writes.input) in
    of_link (λ s y. Follows v t (actor.Link l.number) (Made (line.Sent l.number (said.Item seq) given)) (linked c s l.number y)) s' next l' new writes.shared writes.link (
      refl,
      ready,
      (free.0, law_here),
      subst (λ (g : Answer). CoreTold (after_message t l.number (said.Item seq) g) (linked c next l.number new)) (sym writes.answer) core,
    )
