-- What each call leaves of the board, for its own client and for the others.
use Rattle.std.specs.Prelude.{◌≡◌, ◌≢◌, ℕ, List, [], ◌∷◌, ◌++◌, length, Option, Some, None, replicate, zero, suc, refl}
use Rattle.std.proofs.Common.{inl, inr, ap, subst, sym, ◌∙◌, arith, get_or, get_or-set_same, get_or-set_other, length-set, append_assoc, append-nil}
use Rattle.std.proofs.lemmas.List.{length-replicate}
use Rattle.mission_model.specs.declared.plan.PlanHead.{PlanHead}
use Rattle.mission_model.specs.declared.request.Client.{Client}
use Rattle.mission_model.specs.declared.request.Client.TheVariants.{Nav, Link, Watch}
use Rattle.mission_model.specs.declared.request.Request.{Request}
use Rattle.mission_model.specs.declared.request.Asked.{Asked}
use Rattle.mission_model.specs.declared.request.Reply.{Reply}
use Rattle.mission_model.specs.Shown.{asked_of}
use Rattle.request_board.specs.Asks.{in_service, listed, abouts, own_abouts, replied}
use Rattle.request_board.specs.BoardState.{BoardState, IsAmong, HasClient, posted, with_posted, unanswered, open_asks, ClientsStay, PostedStays, OpenStays, OthersStay, IsQuiet}
use Rattle.request_board.specs.BoardCalls.{opened, asked, taken, answered, heard}
use Rattle.request_board.specs.BoardLaw.{Event, Asks, Takes, Posts, Hears, Keeps, Stays, Call}
use Rattle.request_board.specs.Clients.{tell, abouts-append, own_abouts-append, replied-append, own_first, other_first}

-- what is posted after a change of one client's replies
pub posted_own : (b : BoardState) (client : Client) (replies : List (Asked × Reply)) → HasClient b client → posted (with_posted b client replies) client ≡ replies
posted_own b Nav replies has = refl
posted_own b (Link n) replies has = get_or-set_same b.link_posted n replies [] has
posted_own b (Watch n) replies has = get_or-set_same b.watch_posted n replies [] has

pub posted_other : (b : BoardState) (client other : Client) (replies : List (Asked × Reply)) → other ≢ client → posted (with_posted b client replies) other ≡ posted b other
posted_other b Nav Nav replies ne = absurd (ne refl)
posted_other b Nav (Link m) replies ne = refl
posted_other b Nav (Watch m) replies ne = refl
posted_other b (Link n) Nav replies ne = refl
posted_other b (Link n) (Link m) replies ne = get_or-set_other b.link_posted n m replies [] (λ e. ne (ap (λ k. Link k) e))
posted_other b (Link n) (Watch m) replies ne = refl
posted_other b (Watch n) Nav replies ne = refl
posted_other b (Watch n) (Link m) replies ne = refl
posted_other b (Watch n) (Watch m) replies ne = get_or-set_other b.watch_posted n m replies [] (λ e. ne (ap (λ k. Watch k) e))

-- the board has as many links and watchers as before
pub lengths_with : (b : BoardState) (client : Client) (replies : List (Asked × Reply)) → (length (with_posted b client replies).link_posted ≡ length b.link_posted) × (length (with_posted b client replies).watch_posted ≡ length b.watch_posted)
lengths_with b Nav replies = (refl, refl)
lengths_with b (Link n) replies = (length-set b.link_posted n replies, refl)
lengths_with b (Watch n) replies = (refl, length-set b.watch_posted n replies)

clients_with : (b : BoardState) (client : Client) (replies : List (Asked × Reply)) → ClientsStay b (with_posted b client replies)
clients_with b client replies other has =
    let lengths = lengths_with b client replies in
    rw lengths.0 (rw lengths.1 has)

-- the queue stays, and what is in service
pub with_waiting : (b : BoardState) (client : Client) (replies : List (Asked × Reply)) → ((with_posted b client replies).waiting ≡ b.waiting) × ((with_posted b client replies).service ≡ b.service)
with_waiting b Nav replies = (refl, refl)
with_waiting b (Link n) replies = (refl, refl)
with_waiting b (Watch n) replies = (refl, refl)

-- posted looks at the three lists of replies alone
pub posted_alike : (b c : BoardState) (client : Client) → c.nav_posted ≡ b.nav_posted → c.link_posted ≡ b.link_posted → c.watch_posted ≡ b.watch_posted → posted c client ≡ posted b client
posted_alike b c Nav nav links watchers = nav
posted_alike b c (Link n) nav links watchers = ap (λ xs. get_or xs n []) links
posted_alike b c (Watch n) nav links watchers = ap (λ xs. get_or xs n []) watchers

-- open_asks looks at what is posted and at what has no reply alone
open_alike : (client : Client) (replies replies' : List (Asked × Reply)) (asks asks' : List (Client × Asked)) → replies' ≡ replies → asks' ≡ asks → replied replies' ++ own_abouts client asks' ≡ replied replies ++ own_abouts client asks
open_alike client replies replies' asks asks' same same' = ap (λ l. replied l ++ own_abouts client asks') same ∙ ap (λ l. replied replies ++ own_abouts client l) same'

-- a new board
abbrev no_replies : List (Asked × Reply)
no_replies = []

pub opened_clients : (links watchers : ℕ) (heads : List PlanHead) (client : Client) → IsAmong links watchers client → HasClient (opened links watchers heads) client
opened_clients links watchers heads Nav has = has
opened_clients links watchers heads (Link n) has = omega (arith, length-replicate links no_replies, has)
opened_clients links watchers heads (Watch n) has = omega (arith, length-replicate watchers no_replies, has)

none_posted : (n k : ℕ) → get_or (replicate n no_replies) k no_replies ≡ []
none_posted zero k = refl
none_posted (suc n) zero = refl
none_posted (suc n) (suc k) = none_posted n k

none_open : (client : Client) (replies : List (Asked × Reply)) → replies ≡ [] → replied replies ++ own_abouts client [] ≡ []
none_open client replies none = ap (λ l. replied l ++ own_abouts client []) none

pub opened_quiet : (links watchers : ℕ) (heads : List PlanHead) → IsQuiet (opened links watchers heads)
opened_quiet links watchers heads Nav = (refl, refl)
opened_quiet links watchers heads (Link n) = (none_posted links n, none_open (Link n) (get_or (replicate links no_replies) n no_replies) (none_posted links n))
opened_quiet links watchers heads (Watch n) = (none_posted watchers n, none_open (Watch n) (get_or (replicate watchers no_replies) n no_replies) (none_posted watchers n))

-- a request that waits
pub asked_posted : (b : BoardState) (client : Client) (request : Request) → PostedStays b (asked b client request)
asked_posted b client request other = posted_alike b (asked b client request) other refl refl refl

asked_unanswered : (b : BoardState) (client : Client) (request : Request) → unanswered (asked b client request) ≡ unanswered b ++ (client, asked_of request) ∷ []
asked_unanswered b client request =
    ap (λ l. listed (in_service b.service) ++ l) (abouts-append b.waiting ((client, request) ∷ []))
    ∙ sym (append_assoc (listed (in_service b.service)) (abouts b.waiting) ((client, asked_of request) ∷ []))

asked_open : (b : BoardState) (client : Client) (request : Request) (other : Client) → open_asks (asked b client request) other ≡ open_asks b other ++ own_abouts other ((client, asked_of request) ∷ [])
asked_open b client request other =
    open_alike other (posted b other) (posted (asked b client request) other) (unanswered b ++ (client, asked_of request) ∷ []) (unanswered (asked b client request)) (asked_posted b client request other) (asked_unanswered b client request)
    ∙ ap (λ l. replied (posted b other) ++ l) (own_abouts-append other (unanswered b) ((client, asked_of request) ∷ []))
    ∙ sym (append_assoc (replied (posted b other)) (own_abouts other (unanswered b)) (own_abouts other ((client, asked_of request) ∷ [])))

pub asked_own : (b : BoardState) (client : Client) (request : Request) → open_asks (asked b client request) client ≡ open_asks b client ++ asked_of request ∷ []
asked_own b client request = asked_open b client request client ∙ ap (λ l. open_asks b client ++ l) (own_first client (asked_of request) [])

pub asked_others : (b : BoardState) (client : Client) (request : Request) → OthersStay client b (asked b client request)
asked_others b client request other ne = (
  asked_posted b client request other,
  asked_open b client request other ∙ ap (λ l. open_asks b other ++ l) (other_first other client (asked_of request) [] ne) ∙ append-nil (open_asks b other),
)

-- a request that is in service
pub taken_posted : (b : BoardState) (first : Client × Request) (rest : List (Client × Request)) → PostedStays b (taken b first rest)
taken_posted b first rest other = posted_alike b (taken b first rest) other refl refl refl

taken_unanswered : (b : BoardState) (first : Client × Request) (rest : List (Client × Request)) → b.service ≡ None → b.waiting ≡ first ∷ rest → unanswered (taken b first rest) ≡ unanswered b
taken_unanswered b (client, request) rest idle waits = sym (ap (λ s. listed (in_service s) ++ abouts b.waiting) idle ∙ ap abouts waits)

pub taken_open : (b : BoardState) (first : Client × Request) (rest : List (Client × Request)) → b.service ≡ None → b.waiting ≡ first ∷ rest → OpenStays b (taken b first rest)
taken_open b first rest idle waits other = open_alike other (posted b other) (posted (taken b first rest) other) (unanswered b) (unanswered (taken b first rest)) (taken_posted b first rest other) (taken_unanswered b first rest idle waits)

-- a reply that is posted
answered_alike : (b : BoardState) (client : Client) (about : Asked) (reply : Reply) (other : Client) → posted (answered b client about reply) other ≡ posted (with_posted b client (posted b client ++ (about, reply) ∷ [])) other
answered_alike b client about reply other = posted_alike (with_posted b client (posted b client ++ (about, reply) ∷ [])) (answered b client about reply) other refl refl refl

pub answered_own : (b : BoardState) (client : Client) (about : Asked) (reply : Reply) → HasClient b client → posted (answered b client about reply) client ≡ posted b client ++ (about, reply) ∷ []
answered_own b client about reply has = answered_alike b client about reply client ∙ posted_own b client (posted b client ++ (about, reply) ∷ []) has

pub answered_other : (b : BoardState) (client : Client) (about : Asked) (reply : Reply) (other : Client) → other ≢ client → posted (answered b client about reply) other ≡ posted b other
answered_other b client about reply other ne = answered_alike b client about reply other ∙ posted_other b client other (posted b client ++ (about, reply) ∷ []) ne

pub answered_clients : (b : BoardState) (client : Client) (about : Asked) (reply : Reply) → ClientsStay b (answered b client about reply)
answered_clients b client about reply other has = clients_with b client (posted b client ++ (about, reply) ∷ []) other has

answered_unanswered : (b : BoardState) (client : Client) (about : Asked) (reply : Reply) → in_service b.service ≡ Some (client, about) → (client, about) ∷ unanswered (answered b client about reply) ≡ unanswered b
answered_unanswered b client about reply is =
    ap (λ w. (client, about) ∷ abouts w) (with_waiting b client (posted b client ++ (about, reply) ∷ [])).0
    ∙ ap (λ s. listed s ++ abouts b.waiting) (sym is)

pub answered_open : (b : BoardState) (client : Client) (about : Asked) (reply : Reply) → HasClient b client → in_service b.service ≡ Some (client, about) → OpenStays b (answered b client about reply)
answered_open b client about reply has is other =
    let after : BoardState = answered b client about reply in
    let before : own_abouts other ((client, about) ∷ unanswered after) ≡ own_abouts other (unanswered b) = ap (own_abouts other) (answered_unanswered b client about reply is) in
    elim (tell other client) [
      | inl same ↦
          let more : replied (posted after client) ≡ replied (posted b client) ++ about ∷ [] = ap replied (answered_own b client about reply has) ∙ replied-append (posted b client) ((about, reply) ∷ []) in
          let here : open_asks after client ≡ open_asks b client =
          ap (λ l. l ++ own_abouts client (unanswered after)) more
          ∙ append_assoc (replied (posted b client)) (about ∷ []) (own_abouts client (unanswered after))
          ∙ ap (λ l. replied (posted b client) ++ l) (sym (own_first client about (unanswered after)) ∙ ap (own_abouts client) (answered_unanswered b client about reply is)) in
          subst (λ c. open_asks after c ≡ open_asks b c) (sym same.1) here
      | inr apart ↦
          ap (λ l. replied l ++ own_abouts other (unanswered after)) (answered_other b client about reply other apart.1)
          ∙ ap (λ l. replied (posted b other) ++ l) (sym (other_first other client about (unanswered after) apart.1) ∙ before)
    ]

pub answered_others : (b : BoardState) (client : Client) (about : Asked) (reply : Reply) → HasClient b client → in_service b.service ≡ Some (client, about) → OthersStay client b (answered b client about reply)
answered_others b client about reply has is other ne = (answered_other b client about reply other ne, answered_open b client about reply has is other)

-- a reply that is taken
pub heard_clients : (b : BoardState) (client : Client) (rest : List (Asked × Reply)) → ClientsStay b (heard b client rest)
heard_clients b client rest other has = clients_with b client rest other has

heard_unanswered : (b : BoardState) (client : Client) (rest : List (Asked × Reply)) → unanswered (heard b client rest) ≡ unanswered b
heard_unanswered b client rest =
    let same = with_waiting b client rest in
    ap (λ s. listed (in_service s) ++ abouts (with_posted b client rest).waiting) same.1 ∙ ap (λ w. listed (in_service b.service) ++ abouts w) same.0

pub heard_others : (b : BoardState) (client : Client) (rest : List (Asked × Reply)) → OthersStay client b (heard b client rest)
heard_others b client rest other ne = (
  posted_other b client other rest ne,
  open_alike other (posted b other) (posted (heard b client rest) other) (unanswered b) (unanswered (heard b client rest)) (posted_other b client other rest ne) (heard_unanswered b client rest),
)

pub heard_own : (b : BoardState) (client : Client) (first : Asked × Reply) (rest : List (Asked × Reply)) → HasClient b client → posted b client ≡ first ∷ rest → open_asks b client ≡ first.0 ∷ open_asks (heard b client rest) client
heard_own b client (about, reply) rest has is =
    let now : replied (posted (heard b client rest) client) ≡ replied rest = ap replied (posted_own b client rest has) in
    ap (λ l. replied l ++ own_abouts client (unanswered b)) is
    ∙ ap (λ l. about ∷ (l ++ own_abouts client (unanswered b))) (sym now)
    ∙ ap (λ l. about ∷ (replied (posted (heard b client rest) client) ++ own_abouts client l)) (sym (heard_unanswered b client rest))

-- another index that is kept
pub index_posted : (b : BoardState) (index : Option (ℕ × ℕ)) → PostedStays b (record b { index = index })
index_posted b index client = posted_alike b (record b { index = index }) client refl refl refl

pub index_open : (b : BoardState) (index : Option (ℕ × ℕ)) → OpenStays b (record b { index = index })
index_open b index client = open_alike client (posted b client) (posted (record b { index = index }) client) (unanswered b) (unanswered b) (index_posted b index client) refl

-- after any call the board has the clients that it had
pub clients_after : (event : Event) (old new : BoardState) → Call old event new → ClientsStay old new
clients_after (Asks client request) old new call = subst (ClientsStay old) (sym call.2) (λ other has. has)
clients_after (Takes client request) old new call = subst (ClientsStay old) (sym call.2) (λ other has. has)
clients_after (Posts client about reply) old new call = subst (ClientsStay old) (sym call.2) (answered_clients old client about reply)
clients_after (Hears client about reply) old new call = subst (ClientsStay old) (sym call.2) (heard_clients old client (posted new client))
clients_after (Keeps index) old new call = subst (ClientsStay old) (sym call) (λ other has. has)
clients_after Stays old new call = subst (ClientsStay old) (sym call) (λ other has. has)

-- a call is not of this client
abbrev pub IsOthers : Client → Event → Type 0
IsOthers client (Asks other request) = client ≢ other
IsOthers client (Posts other about reply) = client ≢ other
IsOthers client (Hears other about reply) = client ≢ other
IsOthers client event = Unit {0}

-- a call that is not of this client leaves its replies and its outstanding requests
pub others_after : (client : Client) (event : Event) (old new : BoardState) → Call old event new → IsOthers client event → (posted new client ≡ posted old client) × (open_asks new client ≡ open_asks old client)
others_after client (Asks other request) old new call apart = subst (λ (b : BoardState). (posted b client ≡ posted old client) × (open_asks b client ≡ open_asks old client)) (sym call.2) (asked_others old other request client apart)
others_after client (Takes other request) old new call apart = subst (λ (b : BoardState). (posted b client ≡ posted old client) × (open_asks b client ≡ open_asks old client)) (sym call.2) (taken_posted old (other, request) new.waiting client, taken_open old (other, request) new.waiting call.0 call.1 client)
others_after client (Posts other about reply) old new call apart = subst (λ (b : BoardState). (posted b client ≡ posted old client) × (open_asks b client ≡ open_asks old client)) (sym call.2) (answered_others old other about reply call.0 call.1 client apart)
others_after client (Hears other about reply) old new call apart = subst (λ (b : BoardState). (posted b client ≡ posted old client) × (open_asks b client ≡ open_asks old client)) (sym call.2) (heard_others old other (posted new other) client apart)
others_after client (Keeps index) old new call apart = subst (λ (b : BoardState). (posted b client ≡ posted old client) × (open_asks b client ≡ open_asks old client)) (sym call) (index_posted old index client, index_open old index client)
others_after client Stays old new call apart = subst (λ (b : BoardState). (posted b client ≡ posted old client) × (open_asks b client ≡ open_asks old client)) (sym call) (refl, refl)
