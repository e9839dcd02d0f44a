-- The law of the board, by induction over its calls.
use Rattle.std.proofs.Common.{◌≡◌, ◌≢◌, inl, inr, ℕ, ◌<◌, ◌++◌, cond, length, List, [], ◌∷◌, Option, Some, refl, zero, suc, ap, subst, sym, ◌∙◌, arith, set, length-set, append_assoc, append-nil}
use Rattle.std.specs.Prelude.{slice_get}
use Rattle.std.proofs.lemmas.Bool.Decides.{eqb_tells}
use Rattle.mission_model.specs.declared.plan.PlanHead.{PlanHead}
use Rattle.mission_model.specs.declared.plan.PlanType.{PlanType}
use Rattle.mission_model.specs.declared.plan.PlanType.TheVariants.{Mission, Fence, Safe}
use Rattle.mission_model.specs.declared.request.Client.{Client}
use Rattle.mission_model.specs.declared.request.Client.TheVariants.{Nav, Link, Watch}
use Rattle.mission_model.specs.declared.request.Asked.{Asked}
use Rattle.mission_model.specs.declared.request.Asked.TheVariants as about
use Rattle.mission_model.specs.declared.request.Reply.{Reply}
use Rattle.mission_model.specs.declared.request.Reply.TheVariants as reply
use Rattle.mission_model.specs.Shown.{asked_of}
use Rattle.request_board.specs.Asks.{in_service, listed, abouts, own_abouts, replied}
use Rattle.mission_model.specs.PlanTypes.{place_of}
use Rattle.request_board.specs.BoardState.{BoardState, HasClient, posted, with_posted, open_asks, ClientsStay}
use Rattle.request_board.specs.BoardCalls.{opened, asked, heads_after, answered, heard}
use Rattle.request_board.specs.BoardLaw.{Event, Asks, Takes, Posts, Hears, Keeps, Stays, Call, Calls, all_asked, all_taken, all_served, all_posted, all_heard, head_after, head_by, InOrder}
use Rattle.request_board.specs.Kept.{Sound}
use Rattle.request_board.specs.Clients.{tell, own_list, other_list}
use Rattle.request_board.specs.Frames.{opened_clients, opened_quiet, posted_other, asked_posted, asked_own, asked_others, taken_posted, taken_open, answered_own, answered_other, answered_open, heard_own, heard_others, with_waiting, index_posted, index_open, clients_after}
use Rattle.request_board.proofs.Sound.{sound_opened, sound_asked, sound_taken, sound_answered, sound_heard}

-- another index changes no client's part of the board
index_sound : (b : BoardState) (index : Option (ℕ × ℕ)) → Sound b → Sound (record b { index = index })
index_sound b index sound = record {
  within = λ client has. omega (arith, ap length (index_open b index client), sound.within client has);
  waiting = sound.waiting;
  served = sound.served;
}

-- a sound board is sound after a call
sound_after : (event : Event) (old new : BoardState) → Call old event new → Sound old → Sound new
sound_after (Asks client request) old new call sound = subst Sound (sym call.2) (sound_asked old client request sound call.0 call.1)
sound_after (Takes client request) old new call sound = subst Sound (sym call.2) (sound_taken old (client, request) new.waiting sound call.0 call.1)
sound_after (Posts client about reply) old new call sound = subst Sound (sym call.2) (sound_answered old client about reply sound call.1)
sound_after (Hears client about reply) old new call sound = subst Sound (sym call.2) (sound_heard old client (about, reply) (posted new client) sound call.0 call.1)
sound_after (Keeps index) old new call sound = subst Sound (sym call) (index_sound old index sound)
sound_after Stays old new call sound = subst Sound (sym call) sound

sound_last : (events : List Event) (old last : BoardState) → Calls old events last → Sound old → Sound last
sound_last [] old last calls sound = subst Sound (sym calls) sound
sound_last (event ∷ events) old last (mid, call, calls) sound = sound_last events mid last calls (sound_after event old mid call sound)

clients_last : (events : List Event) (old last : BoardState) → Calls old events last → ClientsStay old last
clients_last [] old last calls client has = subst (λ (b : BoardState). HasClient b client) (sym calls) has
clients_last (event ∷ events) old last (mid, call, calls) client has = clients_last events mid last calls client (clients_after event old mid call client has)

-- a reply that is posted or taken leaves the queue
same_queue : (old new : BoardState) (client : Client) (replies : List (Asked × Reply)) → new.waiting ≡ (with_posted old client replies).waiting → new.waiting ≡ old.waiting
same_queue old new client replies is = is ∙ (with_waiting old client replies).0

-- the first asked is the first taken
queue_order : (events : List Event) (old last : BoardState) → Calls old events last → old.waiting ++ all_asked events ≡ all_taken events ++ last.waiting
queue_order [] old last calls = append-nil old.waiting ∙ ap (λ (b : BoardState). b.waiting) (sym calls)
queue_order (Asks client request ∷ events) old last (mid, call, calls) =
    let waits : mid.waiting ≡ old.waiting ++ (client, request) ∷ [] = ap (λ (b : BoardState). b.waiting) call.2 in
    sym (append_assoc old.waiting ((client, request) ∷ []) (all_asked events)) ∙ ap (λ w. w ++ all_asked events) (sym waits) ∙ queue_order events mid last calls
queue_order (Takes client request ∷ events) old last (mid, call, calls) =
    ap (λ w. w ++ all_asked events) call.1 ∙ ap (λ w. (client, request) ∷ w) (queue_order events mid last calls)
queue_order (Posts client about reply ∷ events) old last (mid, call, calls) =
    let same : mid.waiting ≡ old.waiting = same_queue old mid client (posted old client ++ (about, reply) ∷ []) (ap (λ (b : BoardState). b.waiting) call.2) in
    ap (λ w. w ++ all_asked events) (sym same) ∙ queue_order events mid last calls
queue_order (Hears client about reply ∷ events) old last (mid, call, calls) =
    let same : mid.waiting ≡ old.waiting = same_queue old mid client (posted mid client) (ap (λ (b : BoardState). b.waiting) call.2) in
    ap (λ w. w ++ all_asked events) (sym same) ∙ queue_order events mid last calls
queue_order (Keeps index ∷ events) old last (mid, call, calls) = ap (λ w. w ++ all_asked events) (ap (λ (b : BoardState). b.waiting) (sym call)) ∙ queue_order events mid last calls
queue_order (Stays ∷ events) old last (mid, call, calls) = ap (λ w. w ++ all_asked events) (ap (λ (b : BoardState). b.waiting) (sym call)) ∙ queue_order events mid last calls

-- what is in service, none or one
abbrev served_now : BoardState → List (Client × Asked)
served_now b = listed (in_service b.service)

-- each request taken is served before the next is taken
service_order : (events : List Event) (old last : BoardState) → Calls old events last → served_now old ++ abouts (all_taken events) ≡ all_served events ++ served_now last
service_order [] old last calls = append-nil (served_now old) ∙ ap served_now (sym calls)
service_order (Asks client request ∷ events) old last (mid, call, calls) =
    ap (λ (b : BoardState). served_now b ++ abouts (all_taken events)) (sym call.2) ∙ service_order events mid last calls
service_order (Takes client request ∷ events) old last (mid, call, calls) =
    let idle : served_now old ≡ [] = ap (λ s. listed (in_service s)) call.0 in
    let now : served_now mid ≡ (client, asked_of request) ∷ [] = ap served_now call.2 in
    ap (λ l. l ++ (client, asked_of request) ∷ abouts (all_taken events)) idle ∙ ap (λ l. l ++ abouts (all_taken events)) (sym now) ∙ service_order events mid last calls
service_order (Posts client about reply ∷ events) old last (mid, call, calls) =
    let before : served_now old ≡ (client, about) ∷ [] = ap listed call.1 in
    let now : served_now mid ≡ [] = ap served_now call.2 in
    ap (λ l. l ++ abouts (all_taken events)) before ∙ ap (λ l. (client, about) ∷ l) (ap (λ l. l ++ abouts (all_taken events)) (sym now) ∙ service_order events mid last calls)
service_order (Hears client about reply ∷ events) old last (mid, call, calls) =
    let same : mid.service ≡ old.service = ap (λ (b : BoardState). b.service) call.2 ∙ (with_waiting old client (posted mid client)).1 in
    ap (λ s. listed (in_service s) ++ abouts (all_taken events)) (sym same) ∙ service_order events mid last calls
service_order (Keeps index ∷ events) old last (mid, call, calls) = ap (λ (b : BoardState). served_now b ++ abouts (all_taken events)) (sym call) ∙ service_order events mid last calls
service_order (Stays ∷ events) old last (mid, call, calls) = ap (λ (b : BoardState). served_now b ++ abouts (all_taken events)) (sym call) ∙ service_order events mid last calls

-- a client takes its replies in the order in which they are posted
reply_order : (client : Client) (events : List Event) (old last : BoardState) → Calls old events last → HasClient old client → posted old client ++ all_posted client events ≡ all_heard client events ++ posted last client
reply_order client [] old last calls has = append-nil (posted old client) ∙ ap (λ (b : BoardState). posted b client) (sym calls)
reply_order client (Asks other request ∷ events) old last (mid, call, calls) has =
    let same : posted mid client ≡ posted old client = ap (λ (b : BoardState). posted b client) call.2 ∙ asked_posted old other request client in
    ap (λ l. l ++ all_posted client events) (sym same) ∙ reply_order client events mid last calls (clients_after (Asks other request) old mid call client has)
reply_order client (Takes other request ∷ events) old last (mid, call, calls) has =
    let same : posted mid client ≡ posted old client = ap (λ (b : BoardState). posted b client) call.2 ∙ taken_posted old (other, request) mid.waiting client in
    ap (λ l. l ++ all_posted client events) (sym same) ∙ reply_order client events mid last calls (clients_after (Takes other request) old mid call client has)
reply_order client (Posts other about reply ∷ events) old last (mid, call, calls) has =
    let more = all_posted client events in
    let rest : posted mid client ++ more ≡ all_heard client events ++ posted last client = reply_order client events mid last calls (clients_after (Posts other about reply) old mid call client has) in
    elim (tell client other) [
      | inl same ↦
          let to : posted mid client ≡ posted old client ++ (about, reply) ∷ [] = ap (λ (b : BoardState). posted b client) call.2 ∙ subst (λ c. posted (answered old c about reply) client ≡ posted old client ++ (about, reply) ∷ []) same.1 (answered_own old client about reply has) in
          ap (λ l. posted old client ++ l) (own_list client other ((about, reply) ∷ more) more same.1) ∙ sym (append_assoc (posted old client) ((about, reply) ∷ []) more) ∙ ap (λ l. l ++ more) (sym to) ∙ rest
      | inr apart ↦
          let to : posted mid client ≡ posted old client = ap (λ (b : BoardState). posted b client) call.2 ∙ answered_other old other about reply client apart.1 in
          ap (λ l. posted old client ++ l) (other_list client other ((about, reply) ∷ more) more apart.1) ∙ ap (λ l. l ++ more) (sym to) ∙ rest
    ]
reply_order client (Hears other about reply ∷ events) old last (mid, call, calls) has =
    let more = all_posted client events in
    let heard_more = all_heard client events in
    let rest : posted mid client ++ more ≡ heard_more ++ posted last client = reply_order client events mid last calls (clients_after (Hears other about reply) old mid call client has) in
    elim (tell client other) [
      | inl same ↦
          let from : posted old client ≡ (about, reply) ∷ posted mid client = subst (λ c. posted old c ≡ (about, reply) ∷ posted mid c) (sym same.1) call.1 in
          ap (λ l. l ++ more) from ∙ ap (λ l. (about, reply) ∷ l) rest ∙ ap (λ l. l ++ posted last client) (sym (own_list client other ((about, reply) ∷ heard_more) heard_more same.1))
      | inr apart ↦
          let from : posted mid client ≡ posted old client = ap (λ (b : BoardState). posted b client) call.2 ∙ posted_other old other client (posted mid other) apart.1 in
          ap (λ l. l ++ more) (sym from) ∙ rest ∙ ap (λ l. l ++ posted last client) (sym (other_list client other ((about, reply) ∷ heard_more) heard_more apart.1))
    ]
reply_order client (Keeps index ∷ events) old last (mid, call, calls) has =
    let same : posted mid client ≡ posted old client = ap (λ (b : BoardState). posted b client) call ∙ index_posted old index client in
    ap (λ l. l ++ all_posted client events) (sym same) ∙ reply_order client events mid last calls (clients_after (Keeps index) old mid call client has)
reply_order client (Stays ∷ events) old last (mid, call, calls) has =
    ap (λ (b : BoardState). posted b client ++ all_posted client events) (sym call) ∙ reply_order client events mid last calls (clients_after Stays old mid call client has)

-- the k-th reply posted to a client is on its k-th request that was served
own_replies : (client : Client) (events : List Event) → own_abouts client (all_served events) ≡ replied (all_posted client events)
own_replies client [] = refl
own_replies client (Asks other request ∷ events) = own_replies client events
own_replies client (Takes other request ∷ events) = own_replies client events
own_replies client (Posts other about reply ∷ events) =
    let more = all_posted client events in
    elim (tell client other) [
      | inl same ↦ own_list client other (about ∷ own_abouts client (all_served events)) (own_abouts client (all_served events)) same.1 ∙ ap (λ l. about ∷ l) (own_replies client events) ∙ ap replied (sym (own_list client other ((about, reply) ∷ more) more same.1))
      | inr apart ↦ other_list client other (about ∷ own_abouts client (all_served events)) (own_abouts client (all_served events)) apart.1 ∙ own_replies client events ∙ ap replied (sym (other_list client other ((about, reply) ∷ more) more apart.1))
    ]
own_replies client (Hears other about reply ∷ events) = own_replies client events
own_replies client (Keeps index ∷ events) = own_replies client events
own_replies client (Stays ∷ events) = own_replies client events

-- a client's requests that were let in are those whose reply it took, and then those that are outstanding
unheard_order : (client : Client) (events : List Event) (old last : BoardState) → Calls old events last → HasClient old client → open_asks old client ++ own_abouts client (abouts (all_asked events)) ≡ replied (all_heard client events) ++ open_asks last client
unheard_order client [] old last calls has = append-nil (open_asks old client) ∙ ap (λ (b : BoardState). open_asks b client) (sym calls)
unheard_order client (Asks other request ∷ events) old last (mid, call, calls) has =
    let asks = own_abouts client (abouts (all_asked events)) in
    let rest : open_asks mid client ++ asks ≡ replied (all_heard client events) ++ open_asks last client = unheard_order client events mid last calls (clients_after (Asks other request) old mid call client has) in
    elim (tell client other) [
      | inl same ↦
          let to : open_asks mid client ≡ open_asks old client ++ asked_of request ∷ [] = ap (λ (b : BoardState). open_asks b client) call.2 ∙ subst (λ c. open_asks (asked old c request) client ≡ open_asks old client ++ asked_of request ∷ []) same.1 (asked_own old client request) in
          ap (λ l. open_asks old client ++ l) (own_list client other (asked_of request ∷ asks) asks same.1) ∙ sym (append_assoc (open_asks old client) (asked_of request ∷ []) asks) ∙ ap (λ l. l ++ asks) (sym to) ∙ rest
      | inr apart ↦
          let to : open_asks mid client ≡ open_asks old client = ap (λ (b : BoardState). open_asks b client) call.2 ∙ (asked_others old other request client apart.1).1 in
          ap (λ l. open_asks old client ++ l) (other_list client other (asked_of request ∷ asks) asks apart.1) ∙ ap (λ l. l ++ asks) (sym to) ∙ rest
    ]
unheard_order client (Takes other request ∷ events) old last (mid, call, calls) has =
    let same : open_asks mid client ≡ open_asks old client = ap (λ (b : BoardState). open_asks b client) call.2 ∙ taken_open old (other, request) mid.waiting call.0 call.1 client in
    ap (λ l. l ++ own_abouts client (abouts (all_asked events))) (sym same) ∙ unheard_order client events mid last calls (clients_after (Takes other request) old mid call client has)
unheard_order client (Posts other about reply ∷ events) old last (mid, call, calls) has =
    let same : open_asks mid client ≡ open_asks old client = ap (λ (b : BoardState). open_asks b client) call.2 ∙ answered_open old other about reply call.0 call.1 client in
    ap (λ l. l ++ own_abouts client (abouts (all_asked events))) (sym same) ∙ unheard_order client events mid last calls (clients_after (Posts other about reply) old mid call client has)
unheard_order client (Hears other about reply ∷ events) old last (mid, call, calls) has =
    let asks = own_abouts client (abouts (all_asked events)) in
    let heard_more = all_heard client events in
    let rest : open_asks mid client ++ asks ≡ replied heard_more ++ open_asks last client = unheard_order client events mid last calls (clients_after (Hears other about reply) old mid call client has) in
    elim (tell client other) [
      | inl same ↦
          let here : open_asks old client ≡ about ∷ open_asks (heard old other (posted mid other)) client = subst (λ c. open_asks old c ≡ about ∷ open_asks (heard old other (posted mid other)) c) (sym same.1) (heard_own old other (about, reply) (posted mid other) call.0 call.1) in
          let from : open_asks old client ≡ about ∷ open_asks mid client = here ∙ ap (λ (b : BoardState). about ∷ open_asks b client) (sym call.2) in
          ap (λ l. l ++ asks) from ∙ ap (λ l. about ∷ l) rest ∙ ap (λ l. replied l ++ open_asks last client) (sym (own_list client other ((about, reply) ∷ heard_more) heard_more same.1))
      | inr apart ↦
          let from : open_asks mid client ≡ open_asks old client = ap (λ (b : BoardState). open_asks b client) call.2 ∙ (heard_others old other (posted mid other) client apart.1).1 in
          ap (λ l. l ++ asks) (sym from) ∙ rest ∙ ap (λ l. replied l ++ open_asks last client) (sym (other_list client other ((about, reply) ∷ heard_more) heard_more apart.1))
    ]
unheard_order client (Keeps index ∷ events) old last (mid, call, calls) has =
    let same : open_asks mid client ≡ open_asks old client = ap (λ (b : BoardState). open_asks b client) call ∙ index_open old index client in
    ap (λ l. l ++ own_abouts client (abouts (all_asked events))) (sym same) ∙ unheard_order client events mid last calls (clients_after (Keeps index) old mid call client has)
unheard_order client (Stays ∷ events) old last (mid, call, calls) has =
    ap (λ (b : BoardState). open_asks b client ++ own_abouts client (abouts (all_asked events))) (sym call) ∙ unheard_order client events mid last calls (clients_after Stays old mid call client has)

get_set_same : {X : Type 0} (xs : List X) (i : ℕ) (x : X) → i < length xs → slice_get (set xs i x) i ≡ Some x
get_set_same [] i x lt = absurd (omega (arith, lt))
get_set_same (y ∷ xs) zero x lt = refl
get_set_same (y ∷ xs) (suc i) x lt = get_set_same xs i x (omega (arith, lt))

get_set_other : {X : Type 0} (xs : List X) (i j : ℕ) (x : X) → j ≢ i → slice_get (set xs i x) j ≡ slice_get xs j
get_set_other [] i j x ne = refl
get_set_other (y ∷ xs) zero zero x ne = absurd (ne refl)
get_set_other (y ∷ xs) zero (suc j) x ne = refl
get_set_other (y ∷ xs) (suc i) zero x ne = refl
get_set_other (y ∷ xs) (suc i) (suc j) x ne = get_set_other xs i j x (λ e. ne (ap suc e))

place_within : (kind : PlanType) → place_of kind < 3
place_within Mission = omega arith
place_within Fence = omega arith
place_within Safe = omega arith

-- one reply changes the head of its own type alone
head_once : (kind : PlanType) (heads : List PlanHead) (about : Asked) (reply : Reply) → length heads ≡ 3 → slice_get (heads_after heads about reply) (place_of kind) ≡ head_after kind (slice_get heads (place_of kind)) about reply
head_once kind heads (about.Read other id seq) reply three = refl
head_once kind heads (about.Write other id seq) reply three = refl
head_once kind heads (about.SetMark mark) reply three = refl
head_once kind heads (about.Commit other id count) (reply.Item item) three = refl
head_once kind heads (about.Commit other id count) (reply.Stale now) three = refl
head_once kind heads (about.Commit other id count) reply.DiskFailed three = refl
head_once kind heads (about.Commit other id count) reply.PowerOff three = refl
head_once kind heads (about.Commit other id count) (reply.Spent generation) three = refl
head_once kind heads (about.Commit other id count) reply.Done three =
    let head : PlanHead = record { id = id; count = count } in
    let before = slice_get heads (place_of kind) in
    elim (eqb_tells (place_of other) (place_of kind)) [
      | inl same ↦ subst (λ p. slice_get (set heads (place_of other) head) p ≡ Some head) same.1 (get_set_same heads (place_of other) head (omega (arith, three, place_within other))) ∙ ap (λ b. cond b (Some head) before) (sym same.0)
      | inr apart ↦ get_set_other heads (place_of other) (place_of kind) head (λ e. apart.1 (sym e)) ∙ ap (λ b. cond b (Some head) before) (sym apart.0)
    ]

three_stay : (heads : List PlanHead) (about : Asked) (reply : Reply) → length (heads_after heads about reply) ≡ length heads
three_stay heads (about.Read other id seq) reply = refl
three_stay heads (about.Write other id seq) reply = refl
three_stay heads (about.SetMark mark) reply = refl
three_stay heads (about.Commit other id count) (reply.Item item) = refl
three_stay heads (about.Commit other id count) (reply.Stale now) = refl
three_stay heads (about.Commit other id count) reply.DiskFailed = refl
three_stay heads (about.Commit other id count) reply.PowerOff = refl
three_stay heads (about.Commit other id count) (reply.Spent generation) = refl
three_stay heads (about.Commit other id count) reply.Done = length-set heads (place_of other) (record { id = id; count = count })

with_heads : (b : BoardState) (client : Client) (replies : List (Asked × Reply)) → (with_posted b client replies).published ≡ b.published
with_heads b Nav replies = refl
with_heads b (Link n) replies = refl
with_heads b (Watch n) replies = refl

-- a call that posts no reply leaves the heads
same_heads : (kind : PlanType) (events : List Event) (old mid last : BoardState) → mid.published ≡ old.published → slice_get last.published (place_of kind) ≡ head_by kind (slice_get mid.published (place_of kind)) events → slice_get last.published (place_of kind) ≡ head_by kind (slice_get old.published (place_of kind)) events
same_heads kind events old mid last same rest = rest ∙ ap (λ heads. head_by kind (slice_get heads (place_of kind)) events) same

-- the published head of a type is that of its last commit that was done
heads_order : (kind : PlanType) (events : List Event) (old last : BoardState) → Calls old events last → length old.published ≡ 3 → slice_get last.published (place_of kind) ≡ head_by kind (slice_get old.published (place_of kind)) events
heads_order kind [] old last calls three = ap (λ (b : BoardState). slice_get b.published (place_of kind)) calls
heads_order kind (Asks client request ∷ events) old last (mid, call, calls) three =
    let same : mid.published ≡ old.published = ap (λ (b : BoardState). b.published) call.2 in
    same_heads kind events old mid last same (heads_order kind events mid last calls (ap length same ∙ three))
heads_order kind (Takes client request ∷ events) old last (mid, call, calls) three =
    let same : mid.published ≡ old.published = ap (λ (b : BoardState). b.published) call.2 in
    same_heads kind events old mid last same (heads_order kind events mid last calls (ap length same ∙ three))
heads_order kind (Posts client about reply ∷ events) old last (mid, call, calls) three =
    let now : mid.published ≡ heads_after old.published about reply = ap (λ (b : BoardState). b.published) call.2 in
    heads_order kind events mid last calls (ap length now ∙ three_stay old.published about reply ∙ three)
    ∙ ap (λ heads. head_by kind (slice_get heads (place_of kind)) events) now
    ∙ ap (λ head. head_by kind head events) (head_once kind old.published about reply three)
heads_order kind (Hears client about reply ∷ events) old last (mid, call, calls) three =
    let same : mid.published ≡ old.published = ap (λ (b : BoardState). b.published) call.2 ∙ with_heads old client (posted mid client) in
    same_heads kind events old mid last same (heads_order kind events mid last calls (ap length same ∙ three))
heads_order kind (Keeps index ∷ events) old last (mid, call, calls) three =
    let same : mid.published ≡ old.published = ap (λ (b : BoardState). b.published) call in
    same_heads kind events old mid last same (heads_order kind events mid last calls (ap length same ∙ three))
heads_order kind (Stays ∷ events) old last (mid, call, calls) three =
    let same : mid.published ≡ old.published = ap (λ (b : BoardState). b.published) call in
    same_heads kind events old mid last same (heads_order kind events mid last calls (ap length same ∙ three))

-- the law of a new board
pub in_order : (links watchers : ℕ) (heads : List PlanHead) (events : List Event) (last : BoardState) → length heads ≡ 3 → Calls (opened links watchers heads) events last → InOrder links watchers heads events last
in_order links watchers heads events last three calls =
    let first : BoardState = opened links watchers heads in
    let quiet = opened_quiet links watchers heads in
    let sound : Sound first = sound_opened links watchers heads in
    record {
      taken = queue_order events first last calls;
      served = service_order events first last calls;
      heard = λ client among. ap (λ l. l ++ all_posted client events) (sym (quiet client).0) ∙ reply_order client events first last calls (opened_clients links watchers heads client among);
      own = λ client. own_replies client events;
      unheard = λ client among. ap (λ l. l ++ own_abouts client (abouts (all_asked events))) (sym (quiet client).1) ∙ unheard_order client events first last calls (opened_clients links watchers heads client among);
      within = λ client among. (sound_last events first last calls sound).within client (clients_last events first last calls client (opened_clients links watchers heads client among));
      published = λ kind. heads_order kind events first last calls three;
    }
