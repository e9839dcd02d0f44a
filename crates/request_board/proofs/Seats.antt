-- Each client of the board has a seat of its own, and its count there follows what is outstanding.
use Rattle.std.proofs.Common.{◌≡◌, ◌≢◌, inl, inr, ℕ, ◌+◌, ◌-◌, ◌<◌, ◌≤◌, ◌++◌, length, List, [], ◌∷◌, Some, refl, ap, subst, sym, ◌∙◌, arith, get_or, set, get_or-set_same, get_or-set_other}
use Rattle.mission_model.specs.declared.limits.TheConstants.{MAX_LINKS, MAX_WATCHERS}
use Rattle.mission_model.specs.declared.request.Client.{Client}
use Rattle.mission_model.specs.declared.request.Client.TheVariants.{Nav, Link, Watch}
use Rattle.mission_model.specs.declared.request.Request.{Request}
use Rattle.mission_model.specs.declared.request.Asked.{Asked}
use Rattle.mission_model.specs.declared.request.Reply.{Reply}
use Rattle.request_board.specs.Asks.{in_service}
use Rattle.request_board.specs.BoardState.{BoardState, IsAmong, HasClient, posted, outstanding}
use Rattle.request_board.specs.BoardCalls.{asked, answered, heard}
use Rattle.request_board.specs.Kept.{seat_of, Counted}
use Rattle.request_board.specs.Clients.{tell}
use Rattle.request_board.specs.Frames.{asked_others, answered_open, heard_others, lengths_with}
use Rattle.request_board.proofs.Sound.{asked_one, heard_one}

pub seated : (b : BoardState) (client : Client) → HasClient b client → length b.link_posted ≤ MAX_LINKS → length b.watch_posted ≤ MAX_WATCHERS → IsAmong MAX_LINKS MAX_WATCHERS client
seated b Nav has links watchers = tt
seated b (Link n) has links watchers = omega (arith, has, links)
seated b (Watch n) has links watchers = omega (arith, has, watchers)

pub seat_within : (client : Client) → IsAmong MAX_LINKS MAX_WATCHERS client → seat_of client < 13
seat_within Nav has = omega arith
seat_within (Link n) has = omega (arith, has)
seat_within (Watch n) has = omega (arith, has)

-- two clients have two seats
seats_apart : (client other : Client) → IsAmong MAX_LINKS MAX_WATCHERS client → IsAmong MAX_LINKS MAX_WATCHERS other → other ≢ client → seat_of other ≢ seat_of client
seats_apart Nav Nav has has' ne = λ e. ne refl
seats_apart Nav (Link m) has has' ne = λ e. omega (arith, e)
seats_apart Nav (Watch m) has has' ne = λ e. omega (arith, e)
seats_apart (Link n) Nav has has' ne = λ e. omega (arith, e)
seats_apart (Link n) (Link m) has has' ne = λ e. let same : m ≡ n = omega (arith, e) in ne (ap (λ k. Link k) same)
seats_apart (Link n) (Watch m) has has' ne = λ e. omega (arith, e, has)
seats_apart (Watch n) Nav has has' ne = λ e. omega (arith, e)
seats_apart (Watch n) (Link m) has has' ne = λ e. omega (arith, e, has')
seats_apart (Watch n) (Watch m) has has' ne = λ e. let same : m ≡ n = omega (arith, e) in ne (ap (λ k. Watch k) same)

-- one client's count is set, and the others' stay
set_counts : (counts : List ℕ) (b b' : BoardState) (client : Client) (n : ℕ) → length counts ≡ 13 → IsAmong MAX_LINKS MAX_WATCHERS client → ((other : Client) → HasClient b' other → HasClient b other × IsAmong MAX_LINKS MAX_WATCHERS other) → outstanding b' client ≡ n → ((other : Client) → other ≢ client → outstanding b' other ≡ outstanding b other) → Counted counts b → Counted (set counts (seat_of client) n) b'
set_counts counts b b' client n long among clients own others counted other has = elim (tell other client) [
  | inl same ↦
      let here : get_or (set counts (seat_of client) n) (seat_of client) 0 ≡ outstanding b' client = get_or-set_same counts (seat_of client) n 0 (omega (arith, long, seat_within client among)) ∙ sym own in
      subst (λ c. get_or (set counts (seat_of client) n) (seat_of c) 0 ≡ outstanding b' c) (sym same.1) here
  | inr apart ↦
      get_or-set_other counts (seat_of client) (seat_of other) n 0 (seats_apart client other among (clients other has).1 apart.1)
      ∙ counted other (clients other has).0
      ∙ sym (others other apart.1)
]

-- one request more
pub counted_asked : (counts : List ℕ) (b : BoardState) (client : Client) (request : Request) → length counts ≡ 13 → length b.link_posted ≤ MAX_LINKS → length b.watch_posted ≤ MAX_WATCHERS → HasClient b client → Counted counts b → Counted (set counts (seat_of client) (get_or counts (seat_of client) 0 + 1)) (asked b client request)
counted_asked counts b client request long links watchers has counted = set_counts counts b (asked b client request) client (get_or counts (seat_of client) 0 + 1) long (seated b client has links watchers) (λ other has'. (has', seated b other has' links watchers)) (asked_one b client request ∙ ap (λ n. n + 1) (sym (counted client has))) (λ other apart. ap length (asked_others b client request other apart).1) counted

-- one request less
pub counted_heard : (counts : List ℕ) (b : BoardState) (client : Client) (first : Asked × Reply) (rest : List (Asked × Reply)) → length counts ≡ 13 → length b.link_posted ≤ MAX_LINKS → length b.watch_posted ≤ MAX_WATCHERS → HasClient b client → posted b client ≡ first ∷ rest → Counted counts b → Counted (set counts (seat_of client) (get_or counts (seat_of client) 0 - 1)) (heard b client rest)
counted_heard counts b client first rest long links watchers has is counted =
    let lengths = lengths_with b client rest in
    let back : (other : Client) → HasClient (heard b client rest) other → HasClient b other = λ other has'. rw (← lengths.0) (rw (← lengths.1) has') in
    set_counts counts b (heard b client rest) client (get_or counts (seat_of client) 0 - 1) long (seated b client has links watchers) (λ other has'. (back other has', seated b other (back other has') links watchers)) (omega (arith, heard_one b client first rest has is, counted client has)) (λ other apart. ap length (heard_others b client rest other apart).1) counted

-- as many requests as before
pub counted_answered : (counts : List ℕ) (b : BoardState) (client : Client) (about : Asked) (reply : Reply) → HasClient b client → in_service b.service ≡ Some (client, about) → Counted counts b → Counted counts (answered b client about reply)
counted_answered counts b client about reply has is counted other has' =
    let lengths = lengths_with b client (posted b client ++ (about, reply) ∷ []) in
    let before : HasClient b other = rw (← lengths.0) (rw (← lengths.1) has') in
    counted other before ∙ ap length (sym (answered_open b client about reply has is other))
