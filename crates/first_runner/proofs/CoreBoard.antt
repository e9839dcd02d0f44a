-- The board and what the lines tell of it, at each step: requests are asked, one is taken, one is served, a reply is heard.
use Rattle.std.proofs.Common.{◌≡◌, ◌≢◌, inl, inr, ℕ, zero, suc, ◌+◌, ◌<◌, ◌≤◌, Bool, true, false, List, [], ◌∷◌, ◌++◌, length, take, drop, Option, Some, None, refl, sym, ap, ◌∙◌, subst, arith, append_assoc, append-nil, length-append, set}
use Rattle.std.specs.Prelude.{slice_get, slice_index_or, is_some, nat_lt, if◌then◌else◌}
use Rattle.std.proofs.lemmas.List.{drop-append-le, take-append-drop, length-drop, get_or-set_other, get_or-set_same}
use Rattle.std.proofs.lemmas.Option.{slice_get_within}
use Rattle.first_model.specs.declared.request.Client.{Client}
use Rattle.first_model.specs.declared.request.Client.TheVariants.{Nav, Link, Watch}
use Rattle.first_model.specs.declared.request.Request.{Request}
use Rattle.first_model.specs.declared.request.Asked.{Asked}
use Rattle.first_model.specs.declared.request.Reply.{Reply}
use Rattle.first_board.specs.BoardState.{BoardState, HasClient, same_client, asks_of, serving, outstanding, posted, with_posted}
use Rattle.first_board.specs.BoardCalls.{asked_of, in_service, taken, answered}
use Rattle.first_board.specs.BoardLaw.{abouts, replied, listed}
use Rattle.first_runner.specs.BootTold.{BootTold, own, times, replies_to}
use Rattle.first_runner.specs.CoreTold.{ServiceTold, BoardTold}
use Rattle.first_runner.proofs.CoreLists.{tell, own_test, if_own, own-append, times-push, replies_to-asks, replies_to-serve, replied-replies_to, replied-drop, length-replied, drop_first, drop_none, drop_at, slice_get-append, abouts-append, asks_of-own, serving-own}

-- what was asked and not served: the request in service, and those that wait
unserved : (asked : List (Client × Asked)) (taken served : ℕ) (service : Option (Client × Asked)) → ServiceTold asked taken served service → drop served asked ≡ listed service ++ drop taken asked
unserved asked taken served None is = ap (λ n. drop n asked) (sym is)
unserved asked taken served (Some ask) is = drop_at served asked ask is.1 ∙ ap (λ n. ask ∷ drop n asked) (sym is.0)

-- the replies are no more than the requests taken
served_within : (asked : List (Client × Asked)) (taken served : ℕ) (service : Option (Client × Asked)) → ServiceTold asked taken served service → served ≤ taken
served_within asked taken served None is = omega (arith, is)
served_within asked taken served (Some ask) is = omega (arith, is.0)

pub replies_within : (asked : List (Client × Asked)) (n : ℕ) (replies : List Reply) (heard : List Client) (b : BoardState) → BoardTold asked n replies heard b → length replies ≤ length asked
replies_within asked n replies heard b told = omega (arith, told.within, served_within asked n (length replies) (in_service b.service) told.service)

-- a client's requests whose reply it has not taken: those with a reply that is posted, the one in service, those that wait
pub open_are : (asked : List (Client × Asked)) (n : ℕ) (replies : List Reply) (heard : List Client) (b : BoardState) (client : Client) → BoardTold asked n replies heard b → drop (times client heard) (own client asked) ≡ replied (posted b client) ++ (own client (listed (in_service b.service)) ++ own client (abouts b.waiting))
open_are asked n replies heard b client told =
    let served : ℕ = length replies in
    let here : ℕ = times client heard in
    let said : List (Asked × Reply) = replies_to client asked replies in
    let front : List Asked = own client (take served asked) in
    let back : List (Client × Asked) = listed (in_service b.service) ++ abouts b.waiting in
    let parts : own client asked ≡ front ++ own client back =
    ap (own client) (sym (take-append-drop served asked)) ∙ (own-append client (take served asked) (drop served asked) ∙ ap (λ xs. front ++ own client xs) (unserved asked n served (in_service b.service) told.service ∙ ap (λ xs. listed (in_service b.service) ++ xs) (sym told.waiting))) in
    let long : here ≤ length front = omega (arith, told.served client, ap length (replied-replies_to client asked replies), length-replied said) in
    let unheard : drop here (own client asked) ≡ drop here front ++ own client back = ap (drop here) parts ∙ drop-append-le here front (own client back) long in
    let replies_are : drop here front ≡ replied (posted b client) = ap (drop here) (sym (replied-replies_to client asked replies)) ∙ (sym (replied-drop here said) ∙ ap replied (sym (told.posted client))) in
    unheard ∙ (λ k. replies_are k ++ own-append client (listed (in_service b.service)) (abouts b.waiting) k)

-- they are as many as the board counts
pub open_count : (asked : List (Client × Asked)) (n : ℕ) (replies : List Reply) (heard : List Client) (b : BoardState) (client : Client) → BoardTold asked n replies heard b → length (drop (times client heard) (own client asked)) ≡ outstanding b client
open_count asked n replies heard b client told =
    let all = ap length (open_are asked n replies heard b client told) in
    let first = length-append (replied (posted b client)) (own client (listed (in_service b.service)) ++ own client (abouts b.waiting)) in
    let second = length-append (own client (listed (in_service b.service))) (own client (abouts b.waiting)) in
    omega (arith, all, first, second, length-replied (posted b client), asks_of-own client b.waiting, serving-own client b.service)

-- the next reply of a client is the first that is posted to it
pub next_is : (asked : List (Client × Asked)) (n : ℕ) (replies : List Reply) (heard : List Client) (b : BoardState) (client : Client) (first : Asked × Reply) (rest : List (Asked × Reply)) → BoardTold asked n replies heard b → posted b client ≡ first ∷ rest → slice_get (replies_to client asked replies) (times client heard) ≡ Some first
next_is asked n replies heard b client first rest told is = (drop_first (times client heard) (replies_to client asked replies) first rest (sym (told.posted client) ∙ is)).0

pub next_none : (asked : List (Client × Asked)) (n : ℕ) (replies : List Reply) (heard : List Client) (b : BoardState) (client : Client) → BoardTold asked n replies heard b → posted b client ≡ [] → slice_get (replies_to client asked replies) (times client heard) ≡ None
next_none asked n replies heard b client told none = (drop_none (times client heard) (replies_to client asked replies) (sym (told.posted client) ∙ none)).0

-- requests are asked
service_asks : (asked more : List (Client × Asked)) (n served : ℕ) (service : Option (Client × Asked)) → ServiceTold asked n served service → ServiceTold (asked ++ more) n served service
service_asks asked more n served None is = is
service_asks asked more n served (Some ask) is = (is.0, slice_get-append served asked more ask is.1)

pub board_asks : (asked : List (Client × Asked)) (n : ℕ) (replies : List Reply) (heard : List Client) (b : BoardState) (more : List (Client × Request)) (new : List (Client × Asked)) → BoardTold asked n replies heard b → abouts more ≡ new → BoardTold (asked ++ new) n replies heard (record b { waiting = b.waiting ++ more })
board_asks asked n replies heard b more new told is = record {
  waiting = abouts-append b.waiting more ∙ ((λ k. told.waiting k ++ is k) ∙ sym (drop-append-le n asked new told.within));
  within = omega (arith, told.within, length-append asked new);
  service = service_asks asked new n (length replies) (in_service b.service) told.service;
  posted = λ client. told.posted client ∙ ap (drop (times client heard)) (sym (replies_to-asks client asked new replies (replies_within asked n replies heard b told)));
  served = λ client. omega (arith, told.served client, ap length (replies_to-asks client asked new replies (replies_within asked n replies heard b told)));
}

-- the first request that waits is taken
pub board_takes : (asked : List (Client × Asked)) (n : ℕ) (replies : List Reply) (heard : List Client) (b : BoardState) (client : Client) (request : Request) (rest : List (Client × Request)) → BoardTold asked n replies heard b → b.service ≡ None → b.waiting ≡ (client, request) ∷ rest →
    (n ≡ length replies) × (slice_get asked n ≡ Some (client, asked_of request)) × BoardTold asked (suc n) replies heard (taken b (client, request) rest)
board_takes asked n replies heard b client request rest told free waits =
    let first = drop_first n asked (client, asked_of request) (abouts rest) (sym told.waiting ∙ ap abouts waits) in
    let at : n ≡ length replies = subst (λ (s : Option (Client × Request)). ServiceTold asked n (length replies) (in_service s)) free told.service in (
      at,
      first.0,
      record {
        waiting = sym first.1;
        within = omega (arith, first.2);
        service = (ap suc at, subst (λ i. slice_get asked i ≡ Some (client, asked_of request)) at first.0);
        posted = told.posted;
        served = told.served;
      },
    )

-- what is posted to a client once some replies are posted to one
posted_here : (b : BoardState) (client : Client) (xs : List (Asked × Reply)) → HasClient b client → posted (with_posted b client xs) client ≡ xs
posted_here b Nav xs has = refl
posted_here b (Link number) xs has = get_or-set_same b.link_posted number xs [] has
posted_here b (Watch number) xs has = get_or-set_same b.watch_posted number xs [] has

posted_there : (b : BoardState) (client other : Client) (xs : List (Asked × Reply)) → other ≢ client → posted (with_posted b client xs) other ≡ posted b other
posted_there b Nav Nav xs apart = absurd (apart refl)
posted_there b Nav (Link m) xs apart = refl
posted_there b Nav (Watch m) xs apart = refl
posted_there b (Link n) Nav xs apart = refl
posted_there b (Link n) (Link m) xs apart = get_or-set_other b.link_posted n m xs [] (λ e. apart (ap (λ k. Link k) e))
posted_there b (Link n) (Watch m) xs apart = refl
posted_there b (Watch n) Nav xs apart = refl
posted_there b (Watch n) (Link m) xs apart = refl
posted_there b (Watch n) (Watch m) xs apart = get_or-set_other b.watch_posted n m xs [] (λ e. apart (ap (λ k. Watch k) e))

-- only what is posted is another
posted_waiting : (b : BoardState) (client : Client) (xs : List (Asked × Reply)) → ((with_posted b client xs).waiting ≡ b.waiting) × ((with_posted b client xs).service ≡ b.service)
posted_waiting b Nav xs = (refl, refl)
posted_waiting b (Link number) xs = (refl, refl)
posted_waiting b (Watch number) xs = (refl, refl)

posted_answered : (b : BoardState) (client other : Client) (about : Asked) (given : Reply) → posted (answered b client about given) other ≡ posted (with_posted b client (posted b client ++ (about, given) ∷ [])) other
posted_answered b client Nav about given = refl
posted_answered b client (Link m) about given = refl
posted_answered b client (Watch m) about given = refl

-- a reply is posted to a client, and to no other
serves_posted : (asked : List (Client × Asked)) (n : ℕ) (replies : List Reply) (heard : List Client) (b : BoardState) (client : Client) (about : Asked) (given : Reply) (other : Client) → BoardTold asked n replies heard b → HasClient b client → slice_get asked (length replies) ≡ Some (client, about) →
    posted (answered b client about given) other ≡ drop (times other heard) (replies_to other asked (replies ++ given ∷ []))
serves_posted asked n replies heard b client about given other told has at =
    let here : ℕ = times other heard in
    let said : List (Asked × Reply) = replies_to other asked replies in
    let one : List (Asked × Reply) = (about, given) ∷ [] in
    let told_there : drop here (replies_to other asked (replies ++ given ∷ [])) ≡ posted b other ++ if_own other client (about, given) =
    ap (drop here) (replies_to-serve other client asked replies about given at) ∙ (drop-append-le here said (if_own other client (about, given)) (told.served other) ∙ ap (λ (xs : List (Asked × Reply)). xs ++ if_own other client (about, given)) (sym (told.posted other))) in
    let board_there : posted (answered b client about given) other ≡ posted b other ++ if_own other client (about, given) = posted_answered b client other about given ∙ elim (tell other client) [
      | inl same ↦
          let own : posted (with_posted b client (posted b client ++ one)) client ≡ posted b client ++ one = posted_here b client (posted b client ++ one) has in
          subst (λ (x : Client). posted (with_posted b client (posted b client ++ one)) x ≡ posted b x ++ if_own x client (about, given)) (sym same.1) (own ∙ ap (λ (t : Bool). posted b client ++ (if t then one else [])) (sym (own_test client)))
      | inr apart ↦ posted_there b client other (posted b client ++ one) apart.1 ∙ (sym (append-nil (posted b other)) ∙ ap (λ (t : Bool). posted b other ++ (if t then one else [])) (sym apart.0))
    ] in
    board_there ∙ sym told_there

-- the request in service is served
pub board_serves : (asked : List (Client × Asked)) (n : ℕ) (replies : List Reply) (heard : List Client) (b : BoardState) (client : Client) (request : Request) (given : Reply) → BoardTold asked n replies heard b → HasClient b client → b.service ≡ Some (client, request) →
    (n ≡ suc (length replies)) × (slice_get asked (length replies) ≡ Some (client, asked_of request)) × BoardTold asked n (replies ++ given ∷ []) heard (answered b client (asked_of request) given)
board_serves asked n replies heard b client request given told has is =
    let about : Asked = asked_of request in
    let service : ServiceTold asked n (length replies) (Some (client, about)) = subst (λ (s : Option (Client × Request)). ServiceTold asked n (length replies) (in_service s)) is told.service in
    let one : List (Asked × Reply) = posted b client ++ (about, given) ∷ [] in
    let long : length (replies ++ given ∷ []) ≡ length replies + 1 = length-append replies (given ∷ []) in (
      service.0,
      service.1,
      record {
        waiting = ap abouts (posted_waiting b client one).0 ∙ told.waiting;
        within = told.within;
        service = omega (arith, service.0, long);
        posted = λ other. serves_posted asked n replies heard b client about given other told has service.1;
        served = λ other. omega (arith, told.served other, ap length (replies_to-serve other client asked replies about given service.1), length-append (replies_to other asked replies) (if_own other client (about, given)));
      },
    )

-- a client takes its first reply
pub hears_other : (client other : Client) (heard : List Client) → other ≢ client → times other (heard ++ client ∷ []) ≡ times other heard
hears_other client other heard apart = elim (tell other client) [
  | inl same ↦ absurd (apart same.1)
  | inr no_one ↦ times-push other client heard ∙ (ap (λ (t : Bool). times other heard + (if t then 1 else 0)) no_one.0 ∙ omega arith)
]

pub hears_own : (client : Client) (heard : List Client) → times client (heard ++ client ∷ []) ≡ suc (times client heard)
hears_own client heard = times-push client client heard ∙ (ap (λ (t : Bool). times client heard + (if t then 1 else 0)) (own_test client) ∙ omega arith)

abbrev HearsPosted : List (Client × Asked) → List Reply → List Client → BoardState → Client → Type 0
HearsPosted asked replies heard b other = (posted b other ≡ drop (times other heard) (replies_to other asked replies)) × (times other heard ≤ length (replies_to other asked replies))

hears_posted : (asked : List (Client × Asked)) (n : ℕ) (replies : List Reply) (heard : List Client) (b : BoardState) (client : Client) (first : Asked × Reply) (rest : List (Asked × Reply)) (other : Client) → BoardTold asked n replies heard b → HasClient b client → posted b client ≡ first ∷ rest → HearsPosted asked replies (heard ++ client ∷ []) (with_posted b client rest) other
hears_posted asked n replies heard b client first rest other told has is = elim (tell other client) [
  | inl same ↦
      let next = drop_first (times client heard) (replies_to client asked replies) first rest (sym (told.posted client) ∙ is) in
      let here = hears_own client heard in
      subst (HearsPosted asked replies (heard ++ client ∷ []) (with_posted b client rest)) (sym same.1) (
        posted_here b client rest has ∙ (sym next.1 ∙ ap (λ k. drop k (replies_to client asked replies)) (sym here)),
        omega (arith, here, next.2),
      )
  | inr apart ↦
      let stays = hears_other client other heard apart.1 in (
        posted_there b client other rest apart.1 ∙ (told.posted other ∙ ap (λ k. drop k (replies_to other asked replies)) (sym stays)),
        omega (arith, stays, told.served other),
      )
]

pub board_hears : (asked : List (Client × Asked)) (n : ℕ) (replies : List Reply) (heard : List Client) (b : BoardState) (client : Client) (first : Asked × Reply) (rest : List (Asked × Reply)) → BoardTold asked n replies heard b → HasClient b client → posted b client ≡ first ∷ rest → BoardTold asked n replies (heard ++ client ∷ []) (with_posted b client rest)
board_hears asked n replies heard b client first rest told has is =
    let same = posted_waiting b client rest in
    record {
      waiting = ap abouts same.0 ∙ told.waiting;
      within = told.within;
      service = subst (λ (s : Option (Client × Request)). ServiceTold asked n (length replies) (in_service s)) (sym same.1) told.service;
      posted = λ other. (hears_posted asked n replies heard b client first rest other told has is).0;
      served = λ other. (hears_posted asked n replies heard b client first rest other told has is).1;
    }
