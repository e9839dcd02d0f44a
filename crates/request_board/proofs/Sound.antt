-- Each call leaves a sound board sound, and a sound board's queue has room.
use Rattle.std.proofs.Common.{◌≡◌, ◌≢◌, inl, inr, ℕ, ◌+◌, ◌*◌, ◌<◌, ◌≤◌, ◌++◌, length, List, [], ◌∷◌, Option, Some, None, refl, zero, suc, ap, subst, sym, ◌∙◌, arith, length-append}
use Rattle.std.proofs.lemmas.Bool.{cases_eq}
use Rattle.std.specs.Prelude.{slice_get, drop}
use Rattle.mission_model.specs.declared.limits.TheConstants.{LINK_ROOM, WATCH_ROOM}
use Rattle.mission_model.specs.declared.plan.PlanHead.{PlanHead}
use Rattle.mission_model.specs.declared.request.Client.{Client}
use Rattle.mission_model.specs.declared.request.Client.TheVariants.{Nav, Link, Watch}
use Rattle.mission_model.specs.declared.request.Request.{Request}
use Rattle.mission_model.specs.declared.request.Asked.{Asked}
use Rattle.mission_model.specs.declared.request.Reply.{Reply}
use Rattle.mission_model.specs.Shown.{asked_of}
use Rattle.request_board.specs.Asks.{in_service, listed, abouts, own_abouts, replied}
use Rattle.request_board.specs.BoardState.{BoardState, IsAmong, HasClient, posted, open_asks, outstanding, limit}
use Rattle.request_board.specs.BoardCalls.{opened, asked, taken, answered, heard}
use Rattle.request_board.specs.Kept.{AllAmong, ServedAmong, Sound, all_room}
use Rattle.request_board.specs.Clients.{tell, own_first, other_first, own_abouts-append}
use Rattle.request_board.specs.Frames.{asked_own, asked_others, taken_open, answered_open, heard_own, heard_others, opened_quiet, with_waiting, lengths_with}

-- who is served, from what is in service
pub served : (service : Option (Client × Request)) (client : Client) (about : Asked) → in_service service ≡ Some (client, about) → (request : Request) × (service ≡ Some (client, request))
served None client about is = absurd cc
served (Some (other, request)) client about is =
    let pair : ◌≡◌ {A = Client × Asked} (other, asked_of request) (client, about) = cc in
    (request, ap (λ c. Some (c, request)) (ap (λ p. p.0) pair))

-- one request more, and one less
pub asked_one : (b : BoardState) (client : Client) (request : Request) → outstanding (asked b client request) client ≡ outstanding b client + 1
asked_one b client request = ap length (asked_own b client request) ∙ length-append (open_asks b client) (asked_of request ∷ [])

pub heard_one : (b : BoardState) (client : Client) (first : Asked × Reply) (rest : List (Asked × Reply)) → HasClient b client → posted b client ≡ first ∷ rest → outstanding (heard b client rest) client + 1 ≡ outstanding b client
heard_one b client first rest has is =
    let before : outstanding b client ≡ suc (outstanding (heard b client rest) client) = ap length (heard_own b client first rest has is) in
    omega (arith, before)

-- how many of these requests are the client's
abbrev pub asks_of : Client → List (Client × Request) → ℕ
asks_of client asks = length (own_abouts client (abouts asks))

own_ask : (client : Client) (request : Request) (xs : List (Client × Request)) → asks_of client ((client, request) ∷ xs) ≡ asks_of client xs + 1
own_ask client request xs =
    let one : asks_of client ((client, request) ∷ xs) ≡ suc (asks_of client xs) = ap length (own_first client (asked_of request) (abouts xs)) in
    omega (arith, one)

other_ask : (other client : Client) (request : Request) (xs : List (Client × Request)) → other ≢ client → asks_of other ((client, request) ∷ xs) ≡ asks_of other xs
other_ask other client request xs ne = ap length (other_first other client (asked_of request) (abouts xs) ne)

-- what waits is outstanding
waiting_within : (b : BoardState) (client : Client) → asks_of client b.waiting ≤ outstanding b client
waiting_within b client =
    let parts : own_abouts client (listed (in_service b.service) ++ abouts b.waiting) ≡ own_abouts client (listed (in_service b.service)) ++ own_abouts client (abouts b.waiting) = own_abouts-append client (listed (in_service b.service)) (abouts b.waiting) in
    omega (
      arith,
      length-append (replied (posted b client)) (own_abouts client (listed (in_service b.service) ++ abouts b.waiting)),
      ap length parts,
      length-append (own_abouts client (listed (in_service b.service))) (own_abouts client (abouts b.waiting)),
    )

all_among-append : (links watchers : ℕ) (asks : List (Client × Request)) (client : Client) (request : Request) → AllAmong links watchers asks → IsAmong links watchers client → AllAmong links watchers (asks ++ (client, request) ∷ [])
all_among-append links watchers [] client request all has = (has, tt)
all_among-append links watchers ((other, before) ∷ asks) client request all has = (all.0, all_among-append links watchers asks client request all.1 has)

pub sound_opened : (links watchers : ℕ) (heads : List PlanHead) → Sound (opened links watchers heads)
sound_opened links watchers heads = record { within = λ client has. omega (arith, ap length (opened_quiet links watchers heads client).1); waiting = tt; served = tt }

pub sound_asked : (b : BoardState) (client : Client) (request : Request) → Sound b → HasClient b client → outstanding b client < limit client → Sound (asked b client request)
sound_asked b client request sound has below = record {
  within = λ other has_other. elim (tell other client) [
    | inl same ↦ subst (λ c. outstanding (asked b client request) c ≤ limit c) (sym same.1) (omega (arith, asked_one b client request, below))
    | inr apart ↦ omega (arith, ap length (asked_others b client request other apart.1).1, sound.within other has_other)
  ];
  waiting = all_among-append (length b.link_posted) (length b.watch_posted) b.waiting client request sound.waiting has;
  served = sound.served;
}

pub first_among : (b : BoardState) (client : Client) (request : Request) (rest : List (Client × Request)) → Sound b → b.waiting ≡ (client, request) ∷ rest → HasClient b client × AllAmong (length b.link_posted) (length b.watch_posted) rest
first_among b client request rest sound waits = subst (λ asks. AllAmong (length b.link_posted) (length b.watch_posted) asks) waits sound.waiting

pub sound_taken : (b : BoardState) (first : Client × Request) (rest : List (Client × Request)) → Sound b → b.service ≡ None → b.waiting ≡ first ∷ rest → Sound (taken b first rest)
sound_taken b (client, request) rest sound idle waits =
    let among = first_among b client request rest sound waits in
    record {
      within = λ other has. omega (arith, ap length (taken_open b (client, request) rest idle waits other), sound.within other has);
      waiting = among.1;
      served = among.0;
    }

pub served_has : (b : BoardState) (client : Client) (about : Asked) → Sound b → in_service b.service ≡ Some (client, about) → HasClient b client
served_has b client about sound is =
    let found = served b.service client about is in
    subst (λ s. ServedAmong (length b.link_posted) (length b.watch_posted) s) found.1 sound.served

pub sound_answered : (b : BoardState) (client : Client) (about : Asked) (reply : Reply) → Sound b → in_service b.service ≡ Some (client, about) → Sound (answered b client about reply)
sound_answered b client about reply sound is =
    let has = served_has b client about sound is in
    let replies : List (Asked × Reply) = posted b client ++ (about, reply) ∷ [] in
    let lengths = lengths_with b client replies in
    let waits = with_waiting b client replies in
    record {
      within = λ other has_other. omega (arith, ap length (answered_open b client about reply has is other), sound.within other (rw (← lengths.0) (rw (← lengths.1) has_other)));
      waiting = rw waits.0 (rw lengths.0 (rw lengths.1 sound.waiting));
      served = tt;
    }

pub sound_heard : (b : BoardState) (client : Client) (first : Asked × Reply) (rest : List (Asked × Reply)) → Sound b → HasClient b client → posted b client ≡ first ∷ rest → Sound (heard b client rest)
sound_heard b client first rest sound has is =
    let lengths = lengths_with b client rest in
    let waits = with_waiting b client rest in
    record {
      within = λ other has_other.
          let before : outstanding b other ≤ limit other = sound.within other (rw (← lengths.0) (rw (← lengths.1) has_other)) in
          elim (tell other client) [
            | inl same ↦ subst (λ c. outstanding (heard b client rest) c ≤ limit c) (sym same.1) (omega (arith, heard_one b client first rest has is, sound.within client has))
            | inr apart ↦ omega (arith, ap length (heard_others b client rest other apart.1).1, before)
          ];
      waiting = rw waits.0 (rw lengths.0 (rw lengths.1 sound.waiting));
      served = rw waits.1 (rw lengths.0 (rw lengths.1 sound.served));
    }

-- a queue whose first is taken
pub first_rest : {X : Type 0} (xs : List X) (first : X) → slice_get xs 0 ≡ Some first → xs ≡ first ∷ drop 1 xs
first_rest [] first is = absurd cc
first_rest (x ∷ xs) first is = ap (λ y. y ∷ xs) cc

-- how many of these requests are of the first clients of a kind
abbrev of_kind : (ℕ → Client) → ℕ → List (Client × Request) → ℕ
of_kind kind zero asks = 0
of_kind kind (suc n) asks = asks_of (kind n) asks + of_kind kind n asks

-- a request of none of them
of_kind_none : (kind : ℕ → Client) (n : ℕ) (client : Client) (request : Request) (asks : List (Client × Request)) → ((k : ℕ) → k < n → kind k ≢ client) → of_kind kind n ((client, request) ∷ asks) ≡ of_kind kind n asks
of_kind_none kind zero client request asks ne = refl
of_kind_none kind (suc n) client request asks ne = omega (arith, other_ask (kind n) client request asks (ne n (omega arith)), of_kind_none kind n client request asks (λ k lt. ne k (omega (arith, lt))))

-- a request of one of them
of_kind_one : (kind : ℕ → Client) → ((i j : ℕ) → kind i ≡ kind j → i ≡ j) → (n k : ℕ) (request : Request) (asks : List (Client × Request)) → k < n → of_kind kind n ((kind k, request) ∷ asks) ≡ of_kind kind n asks + 1
of_kind_one kind single zero k request asks lt = absurd (omega (arith, lt))
of_kind_one kind single (suc n) k request asks lt = elim (cases_eq k n) [
  | inl same ↦
      let rest : of_kind kind n ((kind k, request) ∷ asks) ≡ of_kind kind n asks = of_kind_none kind n (kind k) request asks (λ j less e. omega (arith, less, same, single j k e)) in
      let own : asks_of (kind n) ((kind k, request) ∷ asks) ≡ asks_of (kind n) asks + 1 = subst (λ j. asks_of (kind j) ((kind k, request) ∷ asks) ≡ asks_of (kind j) asks + 1) same (own_ask (kind k) request asks) in
      omega (arith, rest, own)
  | inr apart ↦ omega (arith, other_ask (kind n) (kind k) request asks (λ e. apart (sym (single n k e))), of_kind_one kind single n k request asks (omega (arith, lt, apart)))
]

-- each has at most so many
of_kind_most : (kind : ℕ → Client) (most n : ℕ) (asks : List (Client × Request)) → ((k : ℕ) → k < n → asks_of (kind k) asks ≤ most) → of_kind kind n asks ≤ n * most
of_kind_most kind most zero asks within = omega arith
of_kind_most kind most (suc n) asks within = omega (arith, within n (omega arith), of_kind_most kind most n asks (λ k lt. within k (omega (arith, lt))))

single_link : (i j : ℕ) → Link i ≡ Link j → i ≡ j
single_link i j e = cc

single_watch : (i j : ℕ) → Watch i ≡ Watch j → i ≡ j
single_watch i j e = cc

none_of : (kind : ℕ → Client) (n : ℕ) → of_kind kind n [] ≡ 0
none_of kind zero = refl
none_of kind (suc n) = omega (arith, none_of kind n)

-- each request that waits is of one client
all_counted : (links watchers : ℕ) (asks : List (Client × Request)) → AllAmong links watchers asks → length asks ≡ asks_of Nav asks + of_kind (λ k. Link k) links asks + of_kind (λ k. Watch k) watchers asks
all_counted links watchers [] all = omega (arith, none_of (λ k. Link k) links, none_of (λ k. Watch k) watchers)
all_counted links watchers ((Nav, request) ∷ asks) all = omega (
  arith,
  all_counted links watchers asks all.1,
  of_kind_none (λ k. Link k) links Nav request asks (λ k lt e. cc),
  of_kind_none (λ k. Watch k) watchers Nav request asks (λ k lt e. cc),
)
all_counted links watchers ((Link n, request) ∷ asks) all = omega (
  arith,
  all_counted links watchers asks all.1,
  of_kind_one (λ k. Link k) single_link links n request asks all.0,
  of_kind_none (λ k. Watch k) watchers (Link n) request asks (λ k lt e. cc),
)
all_counted links watchers ((Watch n, request) ∷ asks) all = omega (
  arith,
  all_counted links watchers asks all.1,
  of_kind_none (λ k. Link k) links (Watch n) request asks (λ k lt e. cc),
  of_kind_one (λ k. Watch k) single_watch watchers n request asks all.0,
)

-- no more requests wait than the limits let in
pub waiting_fits : (b : BoardState) → Sound b → length b.waiting ≤ all_room (length b.link_posted) (length b.watch_posted)
waiting_fits b sound = omega (
  arith,
  all_counted (length b.link_posted) (length b.watch_posted) b.waiting sound.waiting,
  sound.within Nav tt,
  waiting_within b Nav,
  of_kind_most (λ k. Link k) LINK_ROOM (length b.link_posted) b.waiting (λ k lt. omega (arith, sound.within (Link k) lt, waiting_within b (Link k))),
  of_kind_most (λ k. Watch k) WATCH_ROOM (length b.watch_posted) b.waiting (λ k lt. omega (arith, sound.within (Watch k) lt, waiting_within b (Watch k))),
)

-- a client with room left may ask: the board is sound then, and its queue has a place
pub room_left : (b : BoardState) (client : Client) (request : Request) (room : ℕ) → Sound b → HasClient b client → room + outstanding b client ≡ limit client → (room ≡ 0 → ⊥) → Sound (asked b client request) × (length b.waiting < all_room (length b.link_posted) (length b.watch_posted))
room_left b client request room sound has is some =
    let below : outstanding b client < limit client = grind (arith, is, some) in
    let after : Sound (asked b client request) = sound_asked b client request sound has below in
    let longer : length (b.waiting ++ (client, request) ∷ []) ≡ length b.waiting + 1 = length-append b.waiting ((client, request) ∷ []) in
    (after, omega (arith, longer, waiting_fits (asked b client request) after))
