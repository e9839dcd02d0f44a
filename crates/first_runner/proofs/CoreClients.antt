-- What the lines tell of one client, once more is asked and once a reply is heard.
use Rattle.std.proofs.Common.{◌≡◌, ◌≢◌, inl, inr, ℕ, zero, suc, ◌+◌, ◌<◌, ◌≤◌, ◌||◌, Bool, true, false, List, [], ◌∷◌, ◌++◌, length, take, drop, Option, Some, None, refl, sym, ap, ◌∙◌, subst, arith, append-nil, length-append}
use Rattle.std.specs.Prelude.{slice_get}
use Rattle.std.proofs.lemmas.List.{drop-append-le, take-append-drop, length-drop}
use Rattle.first_model.specs.declared.request.Client.{Client}
use Rattle.first_model.specs.declared.request.Client.TheVariants.{Nav, Link, Watch}
use Rattle.first_model.specs.declared.request.Asked.{Asked}
use Rattle.first_model.specs.declared.request.Reply.{Reply}
use Rattle.first_board.specs.BoardState.{BoardState, same_client, posted, limit, outstanding}
use Rattle.first_board.specs.BoardLaw.{abouts, replied, listed}
use Rattle.first_board.specs.BoardCalls.{in_service}
use Rattle.first_cache.specs.CacheState.{CacheState}
use Rattle.first_runner.specs.BootTold.{own, times, replies_to, asks_for, tells}
use Rattle.first_runner.specs.CoreTold.{BoardTold, CacheTold}
use Rattle.first_runner.proofs.CoreLists.{tell, own_test, own-append, replies_to-asks, replied-replies_to, replied-drop, length-replied, drop_first, take_step}
use Rattle.first_runner.proofs.CoreBoard.{replies_within, open_are, open_count, hears_own, hears_other}
use Rattle.first_runner.proofs.CoreCache.{asks_for-append, tells-none}

-- a client has heard no more replies than it has requests
pub heard_within : (asked : List (Client × Asked)) (n : ℕ) (replies : List Reply) (heard : List Client) (b : BoardState) (client : Client) → BoardTold asked n replies heard b → times client heard ≤ length (own client asked)
heard_within asked n replies heard b client told =
    let served : ℕ = length replies in
    let parts : own client asked ≡ own client (take served asked) ++ own client (drop served asked) = ap (own client) (sym (take-append-drop served asked)) ∙ own-append client (take served asked) (drop served asked) in
    omega (arith, told.served client, ap length (replied-replies_to client asked replies), length-replied (replies_to client asked replies), ap length parts, length-append (own client (take served asked)) (own client (drop served asked)))

-- the open requests, once more is asked
pub open_asks-more : (asked more : List (Client × Asked)) (n : ℕ) (replies : List Reply) (heard : List Client) (b : BoardState) (client : Client) → BoardTold asked n replies heard b → drop (times client heard) (own client (asked ++ more)) ≡ drop (times client heard) (own client asked) ++ own client more
open_asks-more asked more n replies heard b client told =
    ap (drop (times client heard)) (own-append client asked more) ∙ drop-append-le (times client heard) (own client asked) (own client more) (heard_within asked n replies heard b client told)

-- and how many there are
pub open_more : (asked more : List (Client × Asked)) (n : ℕ) (replies : List Reply) (heard : List Client) (b : BoardState) (client : Client) → BoardTold asked n replies heard b → length (drop (times client heard) (own client (asked ++ more))) ≡ outstanding b client + length (own client more)
open_more asked more n replies heard b client told =
    omega (arith, ap length (open_asks-more asked more n replies heard b client told), length-append (drop (times client heard) (own client asked)) (own client more), open_count asked n replies heard b client told)

-- what is told of the Navigator's cache, once more is asked
pub cache_more : (asked more : List (Client × Asked)) (n : ℕ) (replies : List Reply) (heard : List Client) (b : BoardState) (c : CacheState) → BoardTold asked n replies heard b →
    CacheTold (take (times Nav heard) (replies_to Nav asked replies)) (drop (times Nav heard) (own Nav asked) ++ own Nav more) (own Nav asked ++ own Nav more) c →
    CacheTold (take (times Nav heard) (replies_to Nav (asked ++ more) replies)) (drop (times Nav heard) (own Nav (asked ++ more))) (own Nav (asked ++ more)) c
cache_more asked more n replies heard b c told cache =
    let said = replies_to-asks Nav asked more replies (replies_within asked n replies heard b told) in
    let unheard = open_asks-more asked more n replies heard b Nav told in
    let all = own-append Nav asked more in
    subst (λ (xs : List (Asked × Reply)). CacheTold (take (times Nav heard) xs) (drop (times Nav heard) (own Nav (asked ++ more))) (own Nav (asked ++ more)) c) (sym said)
    (subst (λ (xs : List Asked). CacheTold (take (times Nav heard) (replies_to Nav asked replies)) xs (own Nav (asked ++ more)) c) (sym unheard)
    (subst (λ (xs : List Asked). CacheTold (take (times Nav heard) (replies_to Nav asked replies)) (drop (times Nav heard) (own Nav asked) ++ own Nav more) xs c) (sym all) cache))

-- nothing of it changes where others ask
pub cache_others : (asked more : List (Client × Asked)) (n : ℕ) (replies : List Reply) (heard : List Client) (b : BoardState) (c : CacheState) → BoardTold asked n replies heard b → own Nav more ≡ [] →
    CacheTold (take (times Nav heard) (replies_to Nav asked replies)) (drop (times Nav heard) (own Nav asked)) (own Nav asked) c →
    CacheTold (take (times Nav heard) (replies_to Nav (asked ++ more) replies)) (drop (times Nav heard) (own Nav (asked ++ more))) (own Nav (asked ++ more)) c
cache_others asked more n replies heard b c told none cache =
    let unheard : List Asked = drop (times Nav heard) (own Nav asked) in
    let all : List Asked = own Nav asked in
    let said : List (Asked × Reply) = take (times Nav heard) (replies_to Nav asked replies) in
    let open_same : unheard ++ own Nav more ≡ unheard = ap (λ (xs : List Asked). unheard ++ xs) none ∙ append-nil unheard in
    let all_same : all ++ own Nav more ≡ all = ap (λ (xs : List Asked). all ++ xs) none ∙ append-nil all in
    cache_more asked more n replies heard b c told (subst (λ (xs : List Asked). CacheTold said xs (all ++ own Nav more) c) (sym open_same) (subst (λ (xs : List Asked). CacheTold said unheard xs c) (sym all_same) cache))

-- a client that hears its first reply has one open request less
pub open_hears : (asked : List (Client × Asked)) (n : ℕ) (replies : List Reply) (heard : List Client) (b : BoardState) (client : Client) (about : Asked) (given : Reply) (rest : List (Asked × Reply)) → BoardTold asked n replies heard b → posted b client ≡ (about, given) ∷ rest →
    drop (times client heard) (own client asked) ≡ about ∷ drop (times client (heard ++ client ∷ [])) (own client asked)
open_hears asked n replies heard b client about given rest told is =
    let here : ℕ = times client heard in
    let tail : List Asked = replied rest ++ (own client (listed (in_service b.service)) ++ own client (abouts b.waiting)) in
    let unheard : drop here (own client asked) ≡ about ∷ tail = open_are asked n replies heard b client told ∙ ap (λ (xs : List (Asked × Reply)). replied xs ++ (own client (listed (in_service b.service)) ++ own client (abouts b.waiting))) is in
    let next = drop_first here (own client asked) about tail unheard in
    unheard ∙ ap (λ xs. about ∷ xs) (sym next.1 ∙ ap (λ k. drop k (own client asked)) (sym (hears_own client heard)))

-- nobody has more open requests than before
pub hears_within : (asked : List (Client × Asked)) (n : ℕ) (replies : List Reply) (heard : List Client) (b : BoardState) (client other : Client) (about : Asked) (given : Reply) (rest : List (Asked × Reply)) → BoardTold asked n replies heard b → posted b client ≡ (about, given) ∷ rest →
    length (drop (times other (heard ++ client ∷ [])) (own other asked)) ≤ length (drop (times other heard) (own other asked))
hears_within asked n replies heard b client other about given rest told is = elim (tell other client) [
  | inl same ↦
      let less = ap length (open_hears asked n replies heard b client about given rest told is) in
      subst (λ (x : Client). length (drop (times x (heard ++ client ∷ [])) (own x asked)) ≤ length (drop (times x heard) (own x asked))) (sym same.1) (omega (arith, less))
  | inr apart ↦ omega (arith, ap (λ k. length (drop k (own other asked))) (hears_other client other heard apart.1))
]

-- what is told of the Navigator's cache where another client hears
pub cache_apart : (asked : List (Client × Asked)) (replies : List Reply) (heard : List Client) (client : Client) (c : CacheState) → Nav ≢ client → CacheTold (take (times Nav heard) (replies_to Nav asked replies)) (drop (times Nav heard) (own Nav asked)) (own Nav asked) c →
    CacheTold (take (times Nav (heard ++ client ∷ [])) (replies_to Nav asked replies)) (drop (times Nav (heard ++ client ∷ [])) (own Nav asked)) (own Nav asked) c
cache_apart asked replies heard client c apart cache = subst (λ (k : ℕ). CacheTold (take k (replies_to Nav asked replies)) (drop k (own Nav asked)) (own Nav asked) c) (sym (hears_other client Nav heard apart)) cache

-- a client that heard has one reply more
pub taken_hears : (asked : List (Client × Asked)) (n : ℕ) (replies : List Reply) (heard : List Client) (b : BoardState) (client : Client) (first : Asked × Reply) (rest : List (Asked × Reply)) → BoardTold asked n replies heard b → posted b client ≡ first ∷ rest →
    take (times client (heard ++ client ∷ [])) (replies_to client asked replies) ≡ take (times client heard) (replies_to client asked replies) ++ first ∷ []
taken_hears asked n replies heard b client first rest told is =
    let next = drop_first (times client heard) (replies_to client asked replies) first rest (sym (told.posted client) ∙ is) in
    ap (λ k. take k (replies_to client asked replies)) (hears_own client heard) ∙ take_step (times client heard) (replies_to client asked replies) first next.0

-- what was not asked at all was neither told nor is it open
or_parts : (a b : Bool) → (a || b) ≡ false → (a ≡ false) × (b ≡ false)
or_parts true b none = cc
or_parts false b none = (refl, none)

pub front_none : (id seq : ℕ) (k : ℕ) (xs : List Asked) → asks_for id seq xs ≡ false → (asks_for id seq (take k xs) ≡ false) × (asks_for id seq (drop k xs) ≡ false)
front_none id seq k xs none = or_parts (asks_for id seq (take k xs)) (asks_for id seq (drop k xs)) (sym (asks_for-append id seq (take k xs) (drop k xs)) ∙ (ap (asks_for id seq) (take-append-drop k xs) ∙ none))

replied-take : (k : ℕ) (xs : List (Asked × Reply)) → replied (take k xs) ≡ take k (replied xs)
replied-take zero xs = refl
replied-take (suc k) [] = refl
replied-take (suc k) ((about, given) ∷ xs) = ap (λ l. about ∷ l) (replied-take k xs)

pub nothing_asked : (asked : List (Client × Asked)) (replies : List Reply) (heard : List Client) (client : Client) (id seq : ℕ) → asks_for id seq (own client asked) ≡ false →
    (tells id seq (take (times client heard) (replies_to client asked replies)) ≡ false) × (asks_for id seq (drop (times client heard) (own client asked)) ≡ false)
nothing_asked asked replies heard client id seq none =
    let here : ℕ = times client heard in
    let served : ℕ = length replies in
    let parts : own client asked ≡ own client (take served asked) ++ own client (drop served asked) = ap (own client) (sym (take-append-drop served asked)) ∙ own-append client (take served asked) (drop served asked) in
    let front = or_parts (asks_for id seq (own client (take served asked))) (asks_for id seq (own client (drop served asked))) (sym (asks_for-append id seq (own client (take served asked)) (own client (drop served asked))) ∙ (ap (asks_for id seq) (sym parts) ∙ none)) in
    let said : asks_for id seq (replied (replies_to client asked replies)) ≡ false = ap (asks_for id seq) (replied-replies_to client asked replies) ∙ front.0 in (
      tells-none id seq (take here (replies_to client asked replies)) (ap (asks_for id seq) (replied-take here (replies_to client asked replies)) ∙ (front_none id seq here (replied (replies_to client asked replies)) said).0),
      (front_none id seq here (own client asked) none).1,
    )
