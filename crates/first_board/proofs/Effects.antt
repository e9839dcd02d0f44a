-- What each call leaves of the board, for its own client and for the others.
use Rattle.std.proofs.Common.{◌≡◌, ◌≢◌, inl, inr, ℕ, ◌+◌, ◌++◌, length, List, [], ◌∷◌, Option, Some, None, refl, zero, suc, ap, subst, sym, ◌∙◌, arith, get_or, replicate, get_or-set_same, get_or-set_other, length-set, length-append}
use Rattle.std.proofs.lemmas.List.{length-replicate}
use Rattle.first_model.specs.declared.plan.PlanHead.{PlanHead}
use Rattle.first_model.specs.declared.request.Client.{Client}
use Rattle.first_model.specs.declared.request.Client.TheVariants.{Nav, Link, Watch}
use Rattle.first_model.specs.declared.request.Request.{Request}
use Rattle.first_model.specs.declared.request.Asked.{Asked}
use Rattle.first_model.specs.declared.request.Reply.{Reply}
use Rattle.first_board.specs.BoardState.{BoardState, IsAmong, HasClient, posted, with_posted, asks_of, serving, outstanding, ClientsStay, PostedStays, OutstandingStays, OthersStay, IsQuiet}
use Rattle.first_board.specs.BoardCalls.{asked_of, in_service, opened, asked, taken, answered, heard}
use Rattle.first_board.proofs.Clients.{tell, asks_of-append, own_ask, other_ask, own_service, other_service}

-- what is posted after a change of one client's replies
pub posted_own : (b : BoardState) (client : Client) (replies : List (Asked × Reply)) → HasClient b client → posted (with_posted b client replies) client ≡ replies
posted_own b Nav replies has = refl
posted_own b (Link n) replies has = get_or-set_same b.link_posted n replies [] has
posted_own b (Watch n) replies has = get_or-set_same b.watch_posted n replies [] has

pub posted_other : (b : BoardState) (client other : Client) (replies : List (Asked × Reply)) → other ≢ client → posted (with_posted b client replies) other ≡ posted b other
posted_other b Nav Nav replies ne = absurd (ne refl)
posted_other b Nav (Link m) replies ne = refl
posted_other b Nav (Watch m) replies ne = refl
posted_other b (Link n) Nav replies ne = refl
posted_other b (Link n) (Link m) replies ne = get_or-set_other b.link_posted n m replies [] (λ e. ne (ap (λ k. Link k) e))
posted_other b (Link n) (Watch m) replies ne = refl
posted_other b (Watch n) Nav replies ne = refl
posted_other b (Watch n) (Link m) replies ne = refl
posted_other b (Watch n) (Watch m) replies ne = get_or-set_other b.watch_posted n m replies [] (λ e. ne (ap (λ k. Watch k) e))

-- the board has as many links and watchers as before
pub lengths_with : (b : BoardState) (client : Client) (replies : List (Asked × Reply)) → (length (with_posted b client replies).link_posted ≡ length b.link_posted) × (length (with_posted b client replies).watch_posted ≡ length b.watch_posted)
lengths_with b Nav replies = (refl, refl)
lengths_with b (Link n) replies = (length-set b.link_posted n replies, refl)
lengths_with b (Watch n) replies = (refl, length-set b.watch_posted n replies)

clients_with : (b : BoardState) (client : Client) (replies : List (Asked × Reply)) → ClientsStay b (with_posted b client replies)
clients_with b client replies other has =
    let lengths = lengths_with b client replies in
    rw lengths.0 (rw lengths.1 has)

-- posted looks at the three lists of replies alone
pub posted_alike : (b c : BoardState) (client : Client) → c.nav_posted ≡ b.nav_posted → c.link_posted ≡ b.link_posted → c.watch_posted ≡ b.watch_posted → posted c client ≡ posted b client
posted_alike b c Nav nav links watchers = nav
posted_alike b c (Link n) nav links watchers = ap (λ xs. get_or xs n []) links
posted_alike b c (Watch n) nav links watchers = ap (λ xs. get_or xs n []) watchers

pub index_posted : (b : BoardState) (index : Option (ℕ × ℕ)) (client : Client) → posted (record b { index = index }) client ≡ posted b client
index_posted b index client = posted_alike b (record b { index = index }) client refl refl refl

-- a new board
abbrev no_replies : List (Asked × Reply)
no_replies = []

pub opened_clients : (links watchers : ℕ) (heads : List PlanHead) (client : Client) → IsAmong links watchers client → HasClient (opened links watchers heads) client
opened_clients links watchers heads Nav has = has
opened_clients links watchers heads (Link n) has = omega (arith, length-replicate links no_replies, has)
opened_clients links watchers heads (Watch n) has = omega (arith, length-replicate watchers no_replies, has)

none_posted : (n k : ℕ) → get_or (replicate n no_replies) k no_replies ≡ []
none_posted zero k = refl
none_posted (suc n) zero = refl
none_posted (suc n) (suc k) = none_posted n k

pub opened_quiet : (links watchers : ℕ) (heads : List PlanHead) → IsQuiet (opened links watchers heads)
opened_quiet links watchers heads Nav = (refl, refl)
opened_quiet links watchers heads (Link n) = (none_posted links n, ap (λ (xs : List (Asked × Reply)). 0 + 0 + length xs) (none_posted links n))
opened_quiet links watchers heads (Watch n) = (none_posted watchers n, ap (λ (xs : List (Asked × Reply)). 0 + 0 + length xs) (none_posted watchers n))

-- a request that waits
pub asked_posted : (b : BoardState) (client : Client) (request : Request) → PostedStays b (asked b client request)
asked_posted b client request other = posted_alike b (asked b client request) other refl refl refl

pub asked_own : (b : BoardState) (client : Client) (request : Request) → outstanding (asked b client request) client ≡ outstanding b client + 1
asked_own b client request = omega (arith, asks_of-append client b.waiting ((client, request) ∷ []), own_ask client request [], ap length (asked_posted b client request client))

pub asked_others : (b : BoardState) (client : Client) (request : Request) → OthersStay client b (asked b client request)
asked_others b client request other ne = (asked_posted b client request other, omega (arith, asks_of-append other b.waiting ((client, request) ∷ []), other_ask other client request [] ne, ap length (asked_posted b client request other)))

-- a request that is in service
pub taken_posted : (b : BoardState) (first : Client × Request) (rest : List (Client × Request)) → PostedStays b (taken b first rest)
taken_posted b first rest other = posted_alike b (taken b first rest) other refl refl refl

pub taken_counts : (b : BoardState) (first : Client × Request) (rest : List (Client × Request)) → b.service ≡ None → b.waiting ≡ first ∷ rest → OutstandingStays b (taken b first rest)
taken_counts b (client, request) rest idle waits other =
    let before : asks_of other b.waiting ≡ asks_of other ((client, request) ∷ rest) = ap (asks_of other) waits in
    let none : serving other b.service ≡ 0 = ap (serving other) idle in
    omega (arith, before, none, ap length (taken_posted b (client, request) rest other))

-- a reply that is posted
pub answered_alike : (b : BoardState) (client : Client) (about : Asked) (reply : Reply) (other : Client) → posted (answered b client about reply) other ≡ posted (with_posted b client (posted b client ++ (about, reply) ∷ [])) other
answered_alike b client about reply other = posted_alike (with_posted b client (posted b client ++ (about, reply) ∷ [])) (answered b client about reply) other refl refl refl

pub answered_own : (b : BoardState) (client : Client) (about : Asked) (reply : Reply) → HasClient b client → posted (answered b client about reply) client ≡ posted b client ++ (about, reply) ∷ []
answered_own b client about reply has = answered_alike b client about reply client ∙ posted_own b client (posted b client ++ (about, reply) ∷ []) has

pub answered_other : (b : BoardState) (client : Client) (about : Asked) (reply : Reply) (other : Client) → other ≢ client → posted (answered b client about reply) other ≡ posted b other
answered_other b client about reply other ne = answered_alike b client about reply other ∙ posted_other b client other (posted b client ++ (about, reply) ∷ []) ne

pub answered_clients : (b : BoardState) (client : Client) (about : Asked) (reply : Reply) → ClientsStay b (answered b client about reply)
answered_clients b client about reply other has = clients_with b client (posted b client ++ (about, reply) ∷ []) other has

pub with_waiting : (b : BoardState) (client : Client) (replies : List (Asked × Reply)) → ((with_posted b client replies).waiting ≡ b.waiting) × ((with_posted b client replies).service ≡ b.service)
with_waiting b Nav replies = (refl, refl)
with_waiting b (Link n) replies = (refl, refl)
with_waiting b (Watch n) replies = (refl, refl)

-- who is served, from what is in service
pub served : (service : Option (Client × Request)) (client : Client) (about : Asked) → in_service service ≡ Some (client, about) → (request : Request) × (service ≡ Some (client, request))
served None client about is = absurd cc
served (Some (other, request)) client about is =
    let pair : ◌≡◌ {A = Client × Asked} (other, asked_of request) (client, about) = cc in
    (request, ap (λ c. Some (c, request)) (ap (λ p. p.0) pair))

pub serves_one : (service : Option (Client × Request)) (client : Client) (about : Asked) → in_service service ≡ Some (client, about) → serving client service ≡ 1
serves_one service client about is =
    let found = served service client about is in
    ap (serving client) found.1 ∙ own_service client found.0

pub serves_none : (service : Option (Client × Request)) (client : Client) (about : Asked) (other : Client) → in_service service ≡ Some (client, about) → other ≢ client → serving other service ≡ 0
serves_none service client about other is ne =
    let found = served service client about is in
    ap (serving other) found.1 ∙ other_service other client found.0 ne

pub answered_counts : (b : BoardState) (client : Client) (about : Asked) (reply : Reply) → HasClient b client → in_service b.service ≡ Some (client, about) → OutstandingStays b (answered b client about reply)
answered_counts b client about reply has is other =
    let waits : asks_of other (answered b client about reply).waiting ≡ asks_of other b.waiting = ap (asks_of other) (with_waiting b client (posted b client ++ (about, reply) ∷ [])).0 in
    elim (tell other client) [
      | inl same ↦
          let here : outstanding (answered b client about reply) client ≡ outstanding b client =
          let more : length (posted (answered b client about reply) client) ≡ length (posted b client) + 1 = ap length (answered_own b client about reply has) ∙ length-append (posted b client) ((about, reply) ∷ []) in
          omega (arith, more, serves_one b.service client about is, ap (asks_of client) (with_waiting b client (posted b client ++ (about, reply) ∷ [])).0) in
          subst (λ c. outstanding (answered b client about reply) c ≡ outstanding b c) (sym same.1) here
      | inr apart ↦ omega (arith, waits, serves_none b.service client about other is apart.1, ap length (answered_other b client about reply other apart.1))
    ]

pub answered_others : (b : BoardState) (client : Client) (about : Asked) (reply : Reply) → HasClient b client → in_service b.service ≡ Some (client, about) → OthersStay client b (answered b client about reply)
answered_others b client about reply has is other ne = (answered_other b client about reply other ne, answered_counts b client about reply has is other)

-- a reply that is taken
pub heard_clients : (b : BoardState) (client : Client) (rest : List (Asked × Reply)) → ClientsStay b (heard b client rest)
heard_clients b client rest other has = clients_with b client rest other has

same_but_posted : (b : BoardState) (client : Client) (replies : List (Asked × Reply)) (other : Client) → outstanding (with_posted b client replies) other + length (posted b other) ≡ outstanding b other + length (posted (with_posted b client replies) other)
same_but_posted b client replies other = omega (arith, ap (asks_of other) (with_waiting b client replies).0, ap (serving other) (with_waiting b client replies).1)

pub heard_others : (b : BoardState) (client : Client) (rest : List (Asked × Reply)) → OthersStay client b (heard b client rest)
heard_others b client rest other ne = (posted_other b client other rest ne, omega (arith, same_but_posted b client rest other, ap length (posted_other b client other rest ne)))

pub heard_own : (b : BoardState) (client : Client) (first : Asked × Reply) (rest : List (Asked × Reply)) → HasClient b client → posted b client ≡ first ∷ rest → outstanding (heard b client rest) client + 1 ≡ outstanding b client
heard_own b client first rest has is =
    let now : length (posted (heard b client rest) client) ≡ length rest = ap length (posted_own b client rest has) in
    let before : length (posted b client) ≡ length rest + 1 = ap length is ∙ omega arith in
    omega (arith, same_but_posted b client rest client, now, before)
