-- What a step of the worker leaves to all clients.
use Rattle.std.proofs.Common.{◌≡◌, ◌≢◌, ◌⊎◌, inl, inr, ℕ, ◌<◌, ◌≤◌, Bool, true, false, List, [], ◌∷◌, ◌++◌, length, Option, Some, None, cond, refl, sym, subst, ap, ◌∙◌, arith, get_or-set_same, get_or-set_other, length-set}
use Rattle.std.specs.Prelude.{IfSome, slice_index_or, slice_set}
use Rattle.std.proofs.lemmas.Bool.Decides.{eqb_tells}
use Rattle.std.proofs.lemmas.List.Elements.{All-nil, All-cons, All-append}
use Rattle.mission_model.specs.declared.plan.Item.{Item}
use Rattle.mission_model.specs.declared.plan.PlanHead.{PlanHead}
use Rattle.mission_model.specs.declared.plan.PlanType.{PlanType}
use Rattle.mission_model.specs.declared.plan.PlanType.TheVariants.{Mission, Fence, Safe}
use Rattle.mission_model.specs.declared.request.Asked.{Asked}
use Rattle.mission_model.specs.declared.request.Asked.TheVariants as ask
use Rattle.mission_model.specs.declared.request.Client.{Client}
use Rattle.mission_model.specs.declared.request.Client.TheVariants.{Nav, Link, Watch}
use Rattle.mission_model.specs.declared.request.Request.{Request}
use Rattle.mission_model.specs.declared.request.Reply.{Reply}
use Rattle.mission_model.specs.declared.request.Reply.TheVariants as reply
use Rattle.mission_model.specs.PlanTypes.{head_of, limit_of, place_of}
use Rattle.mission_model.specs.Replies.{CanHear, Suits}
use Rattle.mission_model.specs.Shown.{asked_of}
use Rattle.request_board.specs.Asks.{in_service, listed, abouts, own_abouts, replied}
use Rattle.request_board.specs.BoardState.{BoardState, HasClient, posted, with_posted, unanswered, open_asks}
use Rattle.request_board.specs.BoardCalls.{taken, answered, heads_after}
use Rattle.request_board.specs.Clients.{tell, own_first}
use Rattle.request_board.specs.Frames.{lengths_with, with_waiting, taken_posted, taken_open, answered_own, answered_other, answered_open}
use Rattle.request_board.specs.Watching.{HeadsFit}
use Rattle.transfer_lock.specs.TransferState.{TransferState, last_id}
use Rattle.upload_session.specs.declared.session.Stage.{Stage}
use Rattle.upload_session.specs.declared.session.Stage.TheVariants as stage
use Rattle.upload_session.specs.SessionState.{SessionState, SessionFits, AwaitsOnly, IsHolder, link_of}
use Rattle.vehicle_core.specs.Told.{SharedTold}
use Rattle.vehicle_core.specs.ActorStep.{with_board, power_after}
use Rattle.vehicle_core.specs.LinkActs.{CanHearAll}
use Rattle.vehicle_core.specs.UploadFits.{brings, bringing, IsHolders, UploadFits, IndexFits, BoardFits, DraftFits}
use Rattle.vehicle_core.specs.UploadLaws.{SameClients}
use Rattle.vehicle_core.specs.Leaves.{HeadRises, Leaves, clients_stay, session_moved}

-- every client
abbrev pub AnyClient : Client → Type 0
AnyClient client = Unit {0}

-- A request is taken.

taken_same : (b : BoardState) (first : Client × Request) (rest : List (Client × Request)) → b.service ≡ None → b.waiting ≡ first ∷ rest → unanswered (taken b first rest) ≡ unanswered b
taken_same b (client, request) rest idle waits = sym (ap (λ s. listed (in_service s) ++ abouts b.waiting) idle ∙ ap abouts waits)

pub idle_service : (o : Option (Client × Request)) → (Rattle.std.specs.Prelude.is_some o ≡ false) → o ≡ None
idle_service None is = refl
idle_service (Some x) is = absurd cc

record_taken : (t : SharedTold) (first : Client × Request) (rest : List (Client × Request)) → t.board.service ≡ None → t.board.waiting ≡ first ∷ rest → Leaves AnyClient t (with_board t (taken t.board first rest))
record_taken t first rest idle waits = record {
  same = record { links = refl; watchers = refl };
  asks = λ client any. taken_open t.board first rest idle waits client;
  replies = λ client any has can on. subst CanHearAll (sym (taken_posted t.board first rest client)) (can on);
  heads = λ kind. inl refl;
  sessions = λ other any fits. session_moved other t.transfer t.board (taken t.board first rest) (clients_stay t.board (taken t.board first rest) (record { links = refl; watchers = refl })) (taken_open t.board first rest idle waits (Link other.link)) fits;
  drafts = λ other heard any fits draft. draft;
}

pub taken_leaves : (t : SharedTold) (first : Client × Request) (rest : List (Client × Request)) (t' : SharedTold) → t.board.service ≡ None → t.board.waiting ≡ first ∷ rest → t' ≡ with_board t (taken t.board first rest) → Leaves AnyClient t t'
taken_leaves t first rest t' idle waits is = subst (Leaves AnyClient t) (sym is) (record_taken t first rest idle waits)

pub taken_fits : (t : TransferState) (b : BoardState) (first : Client × Request) (rest : List (Client × Request)) → b.service ≡ None → b.waiting ≡ first ∷ rest → BoardFits t b → BoardFits t (taken b first rest)
taken_fits t b first rest idle waits fits = record {
  three = fits.three;
  heads = fits.heads;
  last = fits.last;
  uploads = subst (λ (asks : List (Client × Asked)). UploadFits t b.published (bringing asks)) (sym (taken_same b first rest idle waits)) fits.uploads;
  index = fits.index;
}

-- A reply is posted.

-- what has no reply yet, before a reply and after it
served_first : (b : BoardState) (who : Client) (request : Request) → b.service ≡ Some (who, request) → unanswered b ≡ (who, asked_of request) ∷ abouts b.waiting
served_first b who request is = ap (λ s. listed (in_service s) ++ abouts b.waiting) is

served_rest : (b : BoardState) (who : Client) (about : Asked) (given : Reply) → unanswered (answered b who about given) ≡ abouts b.waiting
served_rest b who about given = ap abouts (with_waiting b who (posted b who ++ (about, given) ∷ [])).0

one_only : (t : TransferState) (heads : List PlanHead) (x : Client × Asked) (ys : List (Client × Asked)) → UploadFits t heads (x ∷ ys) → IsHolders t heads x.0 x.1 × (ys ≡ [])
one_only t heads (client, about) [] h = (h, refl)
one_only t heads (client, about) (y ∷ ys) h = absurd h

-- a reply after which the power is on may be heard
can_hear : (about : Asked) (given : Reply) → Suits about given → power_after given ≡ true → CanHear about given
can_hear about (reply.Item item) suits on = suits
can_hear about reply.Done suits on = suits
can_hear about (reply.Stale other) suits on = suits
can_hear about reply.DiskFailed suits on = suits
can_hear about (reply.Spent generation) suits on = suits
can_hear about reply.PowerOff suits on = absurd cc

one_behind : (replies : List (Asked × Reply)) (about : Asked) (given : Reply) → CanHearAll replies → CanHear about given → CanHearAll (replies ++ (about, given) ∷ [])
one_behind replies about given can one = All-append (λ (said : Asked × Reply). CanHear said.0 said.1) replies ((about, given) ∷ []) can (All-cons (λ (said : Asked × Reply). CanHear said.0 said.1) (about, given) [] one (All-nil (λ (said : Asked × Reply). CanHear said.0 said.1)))

served_replies : (b : BoardState) (who : Client) (about : Asked) (given : Reply) (client : Client) → HasClient b who → Suits about given → CanHearAll (posted b client) → power_after given ≡ true → CanHearAll (posted (answered b who about given) client)
served_replies b who about given client has suits can on = elim (tell client who) [
  | inl same ↦ subst (λ (c : Client). CanHearAll (posted (answered b who about given) c)) (sym same.1) (subst CanHearAll (sym (answered_own b who about given has)) (one_behind (posted b who) about given (subst (λ (c : Client). CanHearAll (posted b c)) same.1 can) (can_hear about given suits on)))
  | inr apart ↦ subst CanHearAll (sym (answered_other b who about given client apart.1)) can
]

-- The published heads.

kind_same : (a b : PlanType) → place_of a ≡ place_of b → a ≡ b
kind_same Mission Mission same = refl
kind_same Mission Fence same = absurd cc
kind_same Mission Safe same = absurd cc
kind_same Fence Mission same = absurd cc
kind_same Fence Fence same = refl
kind_same Fence Safe same = absurd cc
kind_same Safe Mission same = absurd cc
kind_same Safe Fence same = absurd cc
kind_same Safe Safe same = refl

tell_kind : (a b : PlanType) → (a ≡ b) ⊎ (place_of a ≢ place_of b)
tell_kind a b = elim (eqb_tells (place_of a) (place_of b)) [ inl same ↦ inl (kind_same a b same.1) | inr apart ↦ inr apart.1 ]

kind_within : (kind : PlanType) → place_of kind < 3
kind_within Mission = omega arith
kind_within Fence = omega arith
kind_within Safe = omega arith

set_own : (heads : List PlanHead) (kind : PlanType) (head : PlanHead) → length heads ≡ 3 → head_of (slice_set heads (place_of kind) head) kind ≡ head
set_own heads kind head three = get_or-set_same heads (place_of kind) head (record { id = 0; count = 0 }) (omega (arith, three, kind_within kind))

set_other : (heads : List PlanHead) (kind other : PlanType) (head : PlanHead) → place_of other ≢ place_of kind → head_of (slice_set heads (place_of kind) head) other ≡ head_of heads other
set_other heads kind other head apart = get_or-set_other heads (place_of kind) (place_of other) head (record { id = 0; count = 0 }) apart

-- what a reply makes of the heads: a commit that is done replaces one by that of a new id, and any other leaves them
data HeadsBy (t : TransferState) (heads : List PlanHead) (about : Asked) (heads' : List PlanHead) : Type 0 where
  Stay : heads' ≡ heads → HeadsBy t heads about heads'
  Swap : (kind : PlanType) (id count : ℕ) → about ≡ ask.Commit kind id count → heads' ≡ slice_set heads (place_of kind) (record { id = id; count = count }) → HeadsBy t heads about heads'

heads_by : (t : TransferState) (heads : List PlanHead) (about : Asked) (given : Reply) → HeadsBy t heads about (heads_after heads about given)
heads_by t heads (ask.Read kind id seq) given = Stay refl
heads_by t heads (ask.Write kind id seq) given = Stay refl
heads_by t heads (ask.SetMark mark) given = Stay refl
heads_by t heads (ask.Commit kind id count) reply.Done = Swap kind id count refl refl
heads_by t heads (ask.Commit kind id count) (reply.Item item) = Stay refl
heads_by t heads (ask.Commit kind id count) (reply.Stale other) = Stay refl
heads_by t heads (ask.Commit kind id count) reply.DiskFailed = Stay refl
heads_by t heads (ask.Commit kind id count) (reply.Spent generation) = Stay refl
heads_by t heads (ask.Commit kind id count) reply.PowerOff = Stay refl

-- a commit that is served is the holder's, and no other request brings a plan
commit_only : (t : TransferState) (b : BoardState) (who : Client) (kind : PlanType) (id count : ℕ) → BoardFits t b → unanswered b ≡ (who, ask.Commit kind id count) ∷ abouts b.waiting → IsHolders t b.published who (ask.Commit kind id count) × (bringing (abouts b.waiting) ≡ [])
commit_only t b who kind id count fits is = one_only t b.published (who, ask.Commit kind id count) (bringing (abouts b.waiting)) (subst (λ (asks : List (Client × Asked)). UploadFits t b.published (bringing asks)) is fits.uploads)

rises_by : (t : TransferState) (b : BoardState) (who : Client) (about : Asked) (heads' : List PlanHead) → BoardFits t b → unanswered b ≡ (who, about) ∷ abouts b.waiting → HeadsBy t b.published about heads' → (kind : PlanType) → HeadRises (head_of b.published kind) (head_of heads' kind)
rises_by t b who about heads' fits is (Stay same) kind = inl (ap (λ (heads : List PlanHead). head_of heads kind) same)
rises_by t b who about heads' fits is (Swap k id count what swap) kind =
    let one = commit_only t b who k id count fits (is ∙ ap (λ (a : Asked). (who, a) ∷ abouts b.waiting) what) in
    let here : head_of heads' kind ≡ head_of (slice_set b.published (place_of k) (record { id = id; count = count })) kind = ap (λ (heads : List PlanHead). head_of heads kind) swap in
    elim (tell_kind kind k) [
      | inl same ↦
          let new : head_of heads' kind ≡ record { id = id; count = count } = here ∙ ap (head_of (slice_set b.published (place_of k) (record { id = id; count = count }))) same ∙ set_own b.published k (record { id = id; count = count }) fits.three.0 in
          inr (omega (arith, one.0.new.0.above, ap (λ (x : PlanHead). x.id) new, ap (λ (x : PlanType). (head_of b.published x).id) same))
      | inr apart ↦ inl (here ∙ set_other b.published k kind (record { id = id; count = count }) apart)
    ]

-- The plan of a link that brings one is no commit's.

commit_alone : (st : Stage) (xs ys : List Asked) (kind : PlanType) (id count : ℕ) → AwaitsOnly st (xs ++ ask.Commit kind id count ∷ ys) → (heard : List Item) (t : TransferState) (heads : List PlanHead) → DraftFits t heads (link_of st heard)
commit_alone stage.Free xs ys kind id count only heard t heads = tt
commit_alone (stage.Committing next) xs ys kind id count only heard t heads = tt
commit_alone (stage.Receiving d) [] [] kind id count only heard t heads = absurd only
commit_alone (stage.Receiving d) [] (y ∷ ys) kind id count only heard t heads = absurd only
commit_alone (stage.Receiving d) (x ∷ []) ys kind id count only heard t heads = absurd only
commit_alone (stage.Receiving d) (x ∷ z ∷ xs) ys kind id count only heard t heads = absurd only
commit_alone (stage.Writing d) [] [] kind id count only heard t heads = absurd only
commit_alone (stage.Writing d) [] (y ∷ ys) kind id count only heard t heads = absurd only
commit_alone (stage.Writing d) (x ∷ []) ys kind id count only heard t heads = absurd only
commit_alone (stage.Writing d) (x ∷ z ∷ xs) ys kind id count only heard t heads = absurd only

-- where the link holds the grant, the commit is its own
draft_of : (st : Stage) (heard : List Item) (link : ℕ) (t : TransferState) (b : BoardState) (heads' : List PlanHead) → IsHolder st link t.holder → (t.holder ≡ Some link → DraftFits t heads' (link_of st heard)) → DraftFits t heads' (link_of st heard)
draft_of stage.Free heard link t b heads' grant own = tt
draft_of (stage.Receiving d) heard link t b heads' grant own = own grant
draft_of (stage.Writing d) heard link t b heads' grant own = own grant
draft_of (stage.Committing next) heard link t b heads' grant own = tt

drafts_by : (t : TransferState) (b : BoardState) (who : Client) (about : Asked) (heads' : List PlanHead) (other : SessionState) (heard : List Item) → BoardFits t b → unanswered b ≡ (who, about) ∷ abouts b.waiting → SessionFits other t b → HeadsBy t b.published about heads' → DraftFits t b.published (link_of other.stage heard) → DraftFits t heads' (link_of other.stage heard)
drafts_by t b who about heads' other heard fits is session (Stay same) draft = subst (λ (heads : List PlanHead). DraftFits t heads (link_of other.stage heard)) (sym same) draft
drafts_by t b who about heads' other heard fits is session (Swap kind id count what swap) draft =
    let first : unanswered b ≡ (who, ask.Commit kind id count) ∷ abouts b.waiting = is ∙ ap (λ (a : Asked). (who, a) ∷ abouts b.waiting) what in
    let one = (commit_only t b who kind id count fits first).0 in
    draft_of other.stage heard other.link t b heads' session.grant (λ mine.
    let link : one.link ≡ other.link = let e : Some one.link ≡ Some other.link = sym one.holder ∙ mine in cc in
    let own : who ≡ Link other.link = one.client_is ∙ ap (λ (n : ℕ). Link n) link in
    let asks : open_asks b (Link other.link) ≡ replied (posted b (Link other.link)) ++ ask.Commit kind id count ∷ own_abouts (Link other.link) (abouts b.waiting) =
    ap (λ (l : List (Client × Asked)). replied (posted b (Link other.link)) ++ own_abouts (Link other.link) l) (first ∙ ap (λ (c : Client). (c, ask.Commit kind id count) ∷ abouts b.waiting) own)
    ∙ ap (λ (l : List Asked). replied (posted b (Link other.link)) ++ l) (own_first (Link other.link) (ask.Commit kind id count) (abouts b.waiting)) in
    commit_alone other.stage (replied (posted b (Link other.link))) (own_abouts (Link other.link) (abouts b.waiting)) kind id count (subst (AwaitsOnly other.stage) asks session.asks) heard t heads')

-- The board fits after the reply.

index_rises : (heads heads' : List PlanHead) (at : ℕ × ℕ) → HeadRises (head_of heads Mission) (head_of heads' Mission) → IndexFits heads at → IndexFits heads' at
index_rises heads heads' at (inl same) fits = record { earlier = omega (arith, ap (λ (x : PlanHead). x.id) same, fits.earlier); within = λ is. omega (arith, ap (λ (x : PlanHead). x.count) same, fits.within (is ∙ ap (λ (x : PlanHead). x.id) same)) }
index_rises heads heads' at (inr later) fits = record { earlier = omega (arith, later, fits.earlier); within = λ is. absurd (omega (arith, later, fits.earlier, is)) }

index_kept_fits : (heads heads' : List PlanHead) (index : Option (ℕ × ℕ)) → HeadRises (head_of heads Mission) (head_of heads' Mission) → IfSome index (IndexFits heads) → IfSome index (IndexFits heads')
index_kept_fits heads heads' None rises fits = fits
index_kept_fits heads heads' (Some at) rises fits = index_rises heads heads' at rises fits

rest_if : (b : Bool) (x : Client × Asked) (l : List (Client × Asked)) (t : TransferState) (heads : List PlanHead) → UploadFits t heads (cond b (x ∷ l) l) → UploadFits t heads l
rest_if true x l t heads fits = subst (UploadFits t heads) (sym (one_only t heads x l fits).1) tt
rest_if false x l t heads fits = fits

record HeadsStand (t : TransferState) (heads' : List PlanHead) (left : List (Client × Asked)) : Type 0 where
  pub three : length heads' ≡ 3
  pub heads : HeadsFit heads'
  pub last : (kind : PlanType) → (head_of heads' kind).id ≤ last_id t kind
  pub uploads : UploadFits t heads' (bringing left)

heads_stand : (t : TransferState) (b : BoardState) (who : Client) (about : Asked) (heads' : List PlanHead) → BoardFits t b → unanswered b ≡ (who, about) ∷ abouts b.waiting → HeadsBy t b.published about heads' → HeadsStand t heads' (abouts b.waiting)
heads_stand t b who about heads' fits is (Stay same) = subst (λ (heads : List PlanHead). HeadsStand t heads (abouts b.waiting)) (sym same) (record {
  three = fits.three.0;
  heads = fits.heads;
  last = fits.last;
  uploads = rest_if (brings about) (who, about) (bringing (abouts b.waiting)) t b.published (subst (λ (asks : List (Client × Asked)). UploadFits t b.published (bringing asks)) is fits.uploads);
})
heads_stand t b who about heads' fits is (Swap k id count what swap) =
    let one = commit_only t b who k id count fits (is ∙ ap (λ (a : Asked). (who, a) ∷ abouts b.waiting) what) in
    let head : PlanHead = record { id = id; count = count } in
    subst (λ (heads : List PlanHead). HeadsStand t heads (abouts b.waiting)) (sym swap) (record {
      three = length-set b.published (place_of k) head ∙ fits.three.0;
      heads = λ kind. elim (tell_kind kind k) [
        | inl same ↦ subst (λ (x : PlanType). (head_of (slice_set b.published (place_of k) head) x).count ≤ limit_of x) (sym same) (omega (arith, ap (λ (x : PlanHead). x.count) (set_own b.published k head fits.three.0), one.0.new.1))
        | inr apart ↦ omega (arith, ap (λ (x : PlanHead). x.count) (set_other b.published k kind head apart), fits.heads kind)
      ];
      last = λ kind. elim (tell_kind kind k) [
        | inl same ↦ subst (λ (x : PlanType). (head_of (slice_set b.published (place_of k) head) x).id ≤ last_id t x) (sym same) (omega (arith, ap (λ (x : PlanHead). x.id) (set_own b.published k head fits.three.0), one.0.new.0.taken))
        | inr apart ↦ omega (arith, ap (λ (x : PlanHead). x.id) (set_other b.published k kind head apart), fits.last kind)
      ];
      uploads = subst (UploadFits t (slice_set b.published (place_of k) head)) (sym one.1) tt;
    })

pub served_fits : (t : TransferState) (b : BoardState) (who : Client) (request : Request) (given : Reply) → b.service ≡ Some (who, request) → BoardFits t b → BoardFits t (answered b who (asked_of request) given)
served_fits t b who request given service fits =
    let about : Asked = asked_of request in
    let is : unanswered b ≡ (who, about) ∷ abouts b.waiting = served_first b who request service in
    let by : HeadsBy t b.published about (heads_after b.published about given) = heads_by t b.published about given in
    let stand = heads_stand t b who about (heads_after b.published about given) fits is by in
    record {
      three = (stand.three, fits.three.1);
      heads = stand.heads;
      last = stand.last;
      uploads = subst (λ (asks : List (Client × Asked)). UploadFits t (heads_after b.published about given) (bringing asks)) (sym (served_rest b who about given)) stand.uploads;
      index = subst (λ (index : Option (ℕ × ℕ)). IfSome index (IndexFits (heads_after b.published about given))) (sym (index_same b who (posted b who ++ (about, given) ∷ [])))
          (index_kept_fits b.published (heads_after b.published about given) b.index (rises_by t b who about (heads_after b.published about given) fits is by Mission) fits.index);
    }
  where
    index_same : (b : BoardState) (client : Client) (replies : List (Asked × Reply)) → (with_posted b client replies).index ≡ b.index
    index_same b Nav replies = refl
    index_same b (Link n) replies = refl
    index_same b (Watch n) replies = refl

record_served : (t : SharedTold) (who : Client) (request : Request) (given : Reply) → t.power ≡ true → t.board.service ≡ Some (who, request) → HasClient t.board who → Suits (asked_of request) given → BoardFits t.transfer t.board → Leaves AnyClient t (record t { board = answered t.board who (asked_of request) given; power = power_after given })
record_served t who request given on service has suits fits =
    let b : BoardState = t.board in
    let about : Asked = asked_of request in
    let b' : BoardState = answered b who about given in
    let serves : in_service b.service ≡ Some (who, about) = ap in_service service in
    let is : unanswered b ≡ (who, about) ∷ abouts b.waiting = served_first b who request service in
    let by : HeadsBy t.transfer b.published about (heads_after b.published about given) = heads_by t.transfer b.published about given in
    let lengths = lengths_with b who (posted b who ++ (about, given) ∷ []) in
    let same : SameClients b b' = record { links = lengths.0; watchers = lengths.1 } in
    record {
      same = same;
      asks = λ client any. answered_open b who about given has serves client;
      replies = λ client any own can power. served_replies b who about given client has suits (can on) power;
      heads = λ kind. rises_by t.transfer b who about (heads_after b.published about given) fits is by kind;
      sessions = λ other any session. session_moved other t.transfer b b' (clients_stay b b' same) (answered_open b who about given has serves (Link other.link)) session;
      drafts = λ other heard any session draft. drafts_by t.transfer b who about (heads_after b.published about given) other heard fits is session by draft;
    }

pub served_leaves : (t : SharedTold) (who : Client) (request : Request) (given : Reply) (t' : SharedTold) → t.power ≡ true → t.board.service ≡ Some (who, request) → HasClient t.board who → Suits (asked_of request) given → BoardFits t.transfer t.board
    → t' ≡ record t { board = answered t.board who (asked_of request) given; power = power_after given } → Leaves AnyClient t t'
served_leaves t who request given t' on service has suits fits is = subst (Leaves AnyClient t) (sym is) (record_served t who request given on service has suits fits)

-- a reply that is posted lets published heads rise
pub served_rises : (t : TransferState) (b : BoardState) (who : Client) (request : Request) (given : Reply) → b.service ≡ Some (who, request) → BoardFits t b → (kind : PlanType) → HeadRises (head_of b.published kind) (head_of (answered b who (asked_of request) given).published kind)
served_rises t b who request given service fits kind =
    rises_by t b who (asked_of request) (heads_after b.published (asked_of request) given) fits (served_first b who request service) (heads_by t b.published (asked_of request) given) kind
