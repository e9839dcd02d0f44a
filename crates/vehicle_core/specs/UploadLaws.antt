-- What a link's session keeps of the board, the transfer and the plan that the link brings.
use Rattle.std.proofs.Common.{◌≡◌, ◌≢◌, ◌⊎◌, inl, inr, ℕ, ◌+◌, ◌<◌, ◌≤◌, ◌==◌, Bool, true, false, not, List, [], ◌∷◌, ◌++◌, length, Option, Some, None, nat_lt, cond, refl, sym, subst, ap, ◌∙◌, arith, get_or-set_same, get_or-set_other, length-set, append_assoc, append-nil}
use Rattle.std.specs.Prelude.{if◌then◌else◌, IfSome}
use Rattle.std.proofs.lemmas.Bool.Decides.{eqb_tells, nat_tests}
use Rattle.mission_model.specs.declared.message.AckCode.{AckCode}
use Rattle.mission_model.specs.declared.message.AckCode.TheVariants as ack
use Rattle.mission_model.specs.declared.message.Message.{Message}
use Rattle.mission_model.specs.declared.message.Message.TheVariants as message
use Rattle.mission_model.specs.declared.plan.Item.{Item}
use Rattle.mission_model.specs.declared.plan.PlanHead.{PlanHead}
use Rattle.mission_model.specs.declared.plan.PlanType.{PlanType}
use Rattle.mission_model.specs.declared.plan.PlanType.TheVariants.{Mission, Fence, Safe}
use Rattle.mission_model.specs.declared.request.Asked.{Asked}
use Rattle.mission_model.specs.declared.request.Client.{Client}
use Rattle.mission_model.specs.declared.request.Client.TheVariants.{Nav, Link, Watch}
use Rattle.mission_model.specs.declared.request.Reply.{Reply}
use Rattle.mission_model.specs.declared.request.Reply.TheVariants as reply
use Rattle.mission_model.specs.declared.request.Request.{Request}
use Rattle.mission_model.specs.declared.request.Request.TheVariants as request
use Rattle.mission_model.specs.PlanCode.{PlanCode}
use Rattle.mission_model.specs.PlanTypes.{head_of, limit_of, place_of, type_of, types_named}
use Rattle.mission_model.specs.Shown.{asked_of}
use Rattle.request_board.specs.Asks.{in_service, listed, abouts, own_abouts, replied}
use Rattle.request_board.specs.BoardState.{BoardState, posted, unanswered, open_asks}
use Rattle.request_board.specs.BoardCalls.{asked, index_kept, heard}
use Rattle.request_board.specs.Clients.{tell, abouts-append, own_list, other_first}
use Rattle.request_board.specs.Frames.{lengths_with}
use Rattle.transfer_lock.specs.TransferState.{TransferState, last_id, has_id, begun, finished, id_taken}
use Rattle.upload_session.specs.SessionLaw.{Outcome, acked, empties, receives, without_own, is_held, have_ids, count_law, clear_law, judged_law, item_law, current_law, cancel_law, message_law, reply_law, mission_head}
use Rattle.upload_session.specs.UploadState.{Upload, UploadState, Free, Receiving, Writing, Committing}
use Rattle.vehicle_core.specs.UploadFits.{brings, bringing, IsNewId, BringsNew, UploadFits, IndexFits, BoardFits, UploadIsNew, DraftFits}

-- Requests that bring a plan.

one_more : (b : Bool) (x : Client × Asked) (l m n : List (Client × Asked)) → l ≡ m ++ n → cond b (x ∷ l) l ≡ cond b (x ∷ m) m ++ n
one_more true x l m n h = ap (λ r. x ∷ r) h
one_more false x l m n h = h

pub bringing-append : (xs ys : List (Client × Asked)) → bringing (xs ++ ys) ≡ bringing xs ++ bringing ys
bringing-append [] ys = refl
bringing-append ((client, about) ∷ xs) ys = one_more (brings about) (client, about) (bringing (xs ++ ys)) (bringing xs) (bringing ys) (bringing-append xs ys)

pub asked_unanswered : (b : BoardState) (client : Client) (request : Request) → unanswered (asked b client request) ≡ unanswered b ++ (client, asked_of request) ∷ []
asked_unanswered b client request =
    ap (λ l. listed (in_service b.service) ++ l) (abouts-append b.waiting ((client, request) ∷ []))
    ∙ sym (append_assoc (listed (in_service b.service)) (abouts b.waiting) ((client, asked_of request) ∷ []))

first_or_later : (b : Bool) (x y : Client × Asked) (l rest : List (Client × Asked)) → cond b (x ∷ l) l ≡ y ∷ rest → ((b ≡ true) × (x ≡ y) × (l ≡ rest)) ⊎ ((b ≡ false) × (l ≡ y ∷ rest))
first_or_later true x y l rest is = inl (refl, cc, cc)
first_or_later false x y l rest is = inr (refl, is)

own_none : (client other : Client) (about : Asked) (asks : List (Client × Asked)) → own_abouts client ((other, about) ∷ asks) ≡ [] → (client ≢ other) × (own_abouts client asks ≡ [])
own_none client other about asks none = elim (tell client other) [
  | inl same ↦ absurd (let e : about ∷ own_abouts client asks ≡ [] = sym (own_list client other (about ∷ own_abouts client asks) (own_abouts client asks) same.1) ∙ none in cc)
  | inr apart ↦ (apart.1, sym (other_first client other about asks apart.1) ∙ none)
]

-- a request of a client that brings a plan is one of its own
pub own_bringing : (client : Client) (asks : List (Client × Asked)) (about : Asked) (rest : List (Client × Asked)) → bringing asks ≡ (client, about) ∷ rest → own_abouts client asks ≡ [] → ⊥
own_bringing client [] about rest is none = cc
own_bringing client ((other, first) ∷ asks) about rest is none =
    let o = own_none client other first asks none in
    elim (first_or_later (brings first) (other, first) (client, about) (bringing asks) rest is) [
      | inl here ↦ o.0 (sym (ap (λ (p : Client × Asked). p.0) here.1))
      | inr later ↦ own_bringing client asks about rest later.1 o.1
    ]

none_behind : {X : Type 0} (xs ys : List X) → xs ++ ys ≡ [] → ys ≡ []
none_behind [] ys h = h
none_behind (x ∷ xs) ys h = absurd cc

holder_same : (holder : Option ℕ) (k n : ℕ) → holder ≡ Some k → (holder ≡ None) ⊎ (holder ≡ Some n) → k ≡ n
holder_same holder k n is or_none = elim or_none [ inl none ↦ absurd (let e : Some k ≡ None = sym is ∙ none in cc) | inr some ↦ (let e : Some k ≡ Some n = sym is ∙ some in cc) ]

one_none : (t : TransferState) (heads : List PlanHead) (n : ℕ) (asks bs : List (Client × Asked)) → bringing asks ≡ bs → UploadFits t heads bs → own_abouts (Link n) asks ≡ [] → (t.holder ≡ None) ⊎ (t.holder ≡ Some n) → bs ≡ []
one_none t heads n asks [] is fits free holder = refl
one_none t heads n asks ((client, about) ∷ []) is fits free holder =
    let same : client ≡ Link n = fits.client_is ∙ ap (λ (k : ℕ). Link k) (holder_same t.holder fits.link n fits.holder holder) in
    absurd (own_bringing (Link n) asks about [] (is ∙ ap (λ (c : Client). (c, about) ∷ []) same) free)
one_none t heads n asks (first ∷ second ∷ rest) is fits free holder = absurd fits

-- while a link without an outstanding request holds the grant or nobody does, no request brings a plan
pub none_bringing : (t : TransferState) (b : BoardState) (n : ℕ) → BoardFits t b → open_asks b (Link n) ≡ [] → (t.holder ≡ None) ⊎ (t.holder ≡ Some n) → bringing (unanswered b) ≡ []
none_bringing t b n fits free holder = one_none t b.published n (unanswered b) (bringing (unanswered b)) refl fits.uploads (none_behind (replied (posted b (Link n))) (own_abouts (Link n) (unanswered b)) free) holder

-- What is left of the ids.

-- the ids that were taken are as many kinds, and none is earlier
pub record IdsGrow (t t' : TransferState) : Type 0 where
  pub count : length t'.ids ≡ length t.ids
  pub last : (kind : PlanType) → last_id t kind ≤ last_id t' kind

same_ids : (t : TransferState) (holder : Option ℕ) → IdsGrow t (record t { holder = holder })
same_ids t holder = record { count = refl; last = λ kind. omega arith }

place_within : (kind : PlanType) → place_of kind < 3
place_within Mission = omega arith
place_within Fence = omega arith
place_within Safe = omega arith

taken_last : (t : TransferState) (kind : PlanType) → length t.ids ≡ 3 → last_id (id_taken t kind) kind ≡ last_id t kind + 1
taken_last t kind three = get_or-set_same t.ids (place_of kind) (last_id t kind + 1) 0 (omega (arith, three, place_within kind))

later_id : (t : TransferState) (kind other : PlanType) → length t.ids ≡ 3 → last_id t other ≤ last_id (id_taken t kind) other
later_id t kind other three = elim (eqb_tells (place_of other) (place_of kind)) [
  | inl same ↦
      let here : last_id (id_taken t kind) other ≡ last_id t kind + 1 = ap (λ (k : ℕ). Rattle.std.specs.Prelude.slice_index_or (id_taken t kind).ids k 0) same.1 ∙ taken_last t kind three in
      let there : last_id t other ≡ last_id t kind = ap (λ (k : ℕ). Rattle.std.specs.Prelude.slice_index_or t.ids k 0) same.1 in
      omega (arith, here, there)
  | inr apart ↦
      let there : last_id (id_taken t kind) other ≡ last_id t other = get_or-set_other t.ids (place_of kind) (place_of other) (last_id t kind + 1) 0 apart.1 in
      omega (arith, there)
]

taken_grow : (t : TransferState) (kind : PlanType) → length t.ids ≡ 3 → IdsGrow t (id_taken t kind)
taken_grow t kind three = record { count = length-set t.ids (place_of kind) (last_id t kind + 1); last = λ other. later_id t kind other three }

-- the id after the last one is new
new_id : (t : TransferState) (b : BoardState) (kind : PlanType) → BoardFits t b → IsNewId (id_taken t kind) b.published kind (last_id t kind + 1)
new_id t b kind fits = record { above = omega (arith, fits.last kind); taken = omega (arith, taken_last t kind fits.three.1) }

-- What keeps the board fitting.

pub quiet_fits : (t t' : TransferState) (b : BoardState) → BoardFits t b → bringing (unanswered b) ≡ [] → IdsGrow t t' → BoardFits t' b
quiet_fits t t' b fits none grow = record {
  three = (fits.three.0, grow.count ∙ fits.three.1);
  heads = fits.heads;
  last = λ kind. omega (arith, fits.last kind, grow.last kind);
  uploads = subst (UploadFits t' b.published) (sym none) tt;
  index = fits.index;
}

brought : (client : Client) (about : Asked) → brings about ≡ true → bringing ((client, about) ∷ []) ≡ (client, about) ∷ []
brought client about is = ap (λ (b : Bool). cond b ((client, about) ∷ []) []) is

asks_fits : (t : TransferState) (b : BoardState) (n : ℕ) (request : Request) → BoardFits t b → bringing (unanswered b) ≡ [] → brings (asked_of request) ≡ true → t.holder ≡ Some n → BringsNew t b.published (asked_of request) → BoardFits t (asked b (Link n) request)
asks_fits t b n request fits none is holder new =
    let one : bringing (unanswered (asked b (Link n) request)) ≡ (Link n, asked_of request) ∷ [] =
    ap bringing (asked_unanswered b (Link n) request)
    ∙ bringing-append (unanswered b) ((Link n, asked_of request) ∷ [])
    ∙ ap (λ (l : List (Client × Asked)). l ++ bringing ((Link n, asked_of request) ∷ [])) none
    ∙ brought (Link n) (asked_of request) is in
    record {
      three = fits.three;
      heads = fits.heads;
      last = fits.last;
      uploads = subst (UploadFits t b.published) (sym one) (record { link = n; client_is = refl; holder = holder; new = new });
      index = fits.index;
    }

index_fits : (t : TransferState) (b : BoardState) (seq : ℕ) → BoardFits t b → seq < (head_of b.published Mission).count → BoardFits t (index_kept b (head_of b.published Mission).id seq)
index_fits t b seq fits within = record {
  three = fits.three;
  heads = fits.heads;
  last = fits.last;
  uploads = fits.uploads;
  index = record { earlier = omega arith; within = λ same. within };
}

-- The laws of a session.

-- the board has as many links and watchers as before
pub record SameClients (b b' : BoardState) : Type 0 where
  pub links : length b'.link_posted ≡ length b.link_posted
  pub watchers : length b'.watch_posted ≡ length b.watch_posted

-- what an outcome leaves fits
pub record LawKeeps (b : BoardState) (o : Outcome) : Type 0 where
  pub board : BoardFits o.transfer o.board
  pub draft : DraftFits o.transfer o.board.published o.link
  pub clients : SameClients b o.board

-- a link holds the grant exactly where it is not free
abbrev pub HoldsGrant : UploadState → ℕ → Option ℕ → Type 0
HoldsGrant Free n holder = holder ≢ Some n
HoldsGrant (Receiving u) n holder = holder ≡ Some n
HoldsGrant (Writing u) n holder = holder ≡ Some n
HoldsGrant (Committing left) n holder = holder ≡ Some n

same_clients : (b : BoardState) → SameClients b b
same_clients b = record { links = refl; watchers = refl }

keeps_if : (b : BoardState) (c : Bool) (o p : Outcome) → (c ≡ true → LawKeeps b o) → (c ≡ false → LawKeeps b p) → LawKeeps b (if c then o else p)
keeps_if b true o p h k = h refl
keeps_if b false o p h k = k refl

acked_keeps : (code : AckCode) (t : TransferState) (b : BoardState) → BoardFits t b → LawKeeps b (acked code t b)
acked_keeps code t b fits = record { board = fits; draft = tt; clients = same_clients b }

not_held : (n : ℕ) (holder : Option ℕ) → is_held n holder ≡ false → (holder ≡ None) ⊎ (holder ≡ Some n)
not_held n None is = inl refl
not_held n (Some h) is = elim (eqb_tells h n) [ inl same ↦ inr (ap (λ (k : ℕ). Some k) same.1) | inr apart ↦ absurd (let e : not (h == n) ≡ true = ap not apart.0 in let f : true ≡ false = sym e ∙ is in cc) ]

empties_keeps : (n : ℕ) (kind : PlanType) (left : List PlanType) (t : TransferState) (b : BoardState) → BoardFits t b → bringing (unanswered b) ≡ [] → t.holder ≡ Some n → LawKeeps b (empties n kind left t b)
empties_keeps n kind left t b fits none holder = record {
  board = asks_fits (id_taken t kind) b n (request.Commit kind (last_id t kind + 1) 0) (quiet_fits t (id_taken t kind) b fits none (taken_grow t kind fits.three.1)) none refl holder (new_id t b kind fits, omega arith);
  draft = tt;
  clients = record { links = refl; watchers = refl };
}

within_limit : (kind : PlanType) (count : ℕ) → nat_lt (limit_of kind) count ≡ false → count ≤ limit_of kind
within_limit kind count is = grind (arith, nat_tests, is)

receives_keeps : (kind : PlanType) (count : ℕ) (t : TransferState) (b : BoardState) → BoardFits t b → bringing (unanswered b) ≡ [] → count ≤ limit_of kind → LawKeeps b (receives kind count t b)
receives_keeps kind count t b fits none within = record {
  board = quiet_fits t (id_taken t kind) b fits none (taken_grow t kind fits.three.1);
  draft = record { id = new_id t b kind fits; count = within };
  clients = same_clients b;
}

count_keeps : (n : ℕ) (kind : Option PlanType) (count : ℕ) (t : TransferState) (b : BoardState) → BoardFits t b → open_asks b (Link n) ≡ [] → LawKeeps b (count_law n kind count t b)
count_keeps n None count t b fits free = acked_keeps ack.Unsupported t b fits
count_keeps n (Some kind) count t b fits free =
    keeps_if b (is_held n t.holder) _ _ (λ held. acked_keeps ack.Denied t b fits) (λ held.
    let none = none_bringing t b n fits free (not_held n t.holder held) in
    let mine : BoardFits (begun t n) b = quiet_fits t (begun t n) b fits none (same_ids t (Some n)) in
    keeps_if b (nat_lt (limit_of kind) count) _ _ (λ above. acked_keeps ack.NoSpace t b fits) (λ within.
    keeps_if b (not (has_id t kind)) _ _ (λ spent. acked_keeps ack.NoSpace t b fits) (λ some.
    keeps_if b (count == 0) _ _ (λ empty. empties_keeps n kind [] (begun t n) b mine none refl) (λ full. receives_keeps kind count (begun t n) b mine none (within_limit kind count within)))))

clear_keeps : (n : ℕ) (kinds : List PlanType) (t : TransferState) (b : BoardState) → BoardFits t b → open_asks b (Link n) ≡ [] → LawKeeps b (clear_law n kinds t b)
clear_keeps n [] t b fits free = acked_keeps ack.Unsupported t b fits
clear_keeps n (kind ∷ left) t b fits free =
    keeps_if b (is_held n t.holder) _ _ (λ held. acked_keeps ack.Denied t b fits) (λ held.
    let none = none_bringing t b n fits free (not_held n t.holder held) in
    let mine : BoardFits (begun t n) b = quiet_fits t (begun t n) b fits none (same_ids t (Some n)) in
    keeps_if b (not (have_ids t (kind ∷ left))) _ _ (λ spent. acked_keeps ack.NoSpace t b fits) (λ some. empties_keeps n kind left (begun t n) b mine none refl))

judged_keeps : (n : ℕ) (u : Upload) (seq : ℕ) (item : Item) (code : Option AckCode) (t : TransferState) (b : BoardState) → BoardFits t b → bringing (unanswered b) ≡ [] → t.holder ≡ Some n → UploadIsNew t b.published u → LawKeeps b (judged_law n u seq item code t b)
judged_keeps n u seq item (Some code) t b fits none holder new = acked_keeps code (finished t) b (quiet_fits t (finished t) b fits none (same_ids t None))
judged_keeps n u seq item None t b fits none holder new = record {
  board = asks_fits t b n (request.Write u.kind u.id seq item) fits none refl holder new.id;
  draft = record { id = new.id; count = new.count };
  clients = record { links = refl; watchers = refl };
}

item_keeps : (n : ℕ) (u : UploadState) (seq : ℕ) (item : Item) (t : TransferState) (b : BoardState) → BoardFits t b → open_asks b (Link n) ≡ [] → HoldsGrant u n t.holder → DraftFits t b.published u → LawKeeps b (item_law n u seq item t b)
item_keeps n Free seq item t b fits free grant draft = record { board = fits; draft = draft; clients = same_clients b }
item_keeps n (Writing u) seq item t b fits free grant draft = record { board = fits; draft = draft; clients = same_clients b }
item_keeps n (Committing left) seq item t b fits free grant draft = record { board = fits; draft = draft; clients = same_clients b }
item_keeps n (Receiving u) seq item t b fits free grant draft =
    keeps_if b (seq == length u.heard) _ _ (λ same. judged_keeps n u seq item (PlanCode u.kind u.count u.heard item) t b fits (none_bringing t b n fits free (inr grant)) grant draft) (λ other. record { board = fits; draft = draft; clients = same_clients b })

current_keeps : (u : UploadState) (seq : ℕ) (t : TransferState) (b : BoardState) → BoardFits t b → DraftFits t b.published u → LawKeeps b (current_law u seq t b)
current_keeps u seq t b fits draft =
    keeps_if b (nat_lt seq (mission_head b).count) _ _
    (λ within. record { board = index_fits t b seq fits (grind (arith, nat_tests, within)); draft = draft; clients = record { links = refl; watchers = refl } })
    (λ above. record { board = fits; draft = draft; clients = same_clients b })

cancel_keeps : (n : ℕ) (u : UploadState) (t : TransferState) (b : BoardState) → BoardFits t b → open_asks b (Link n) ≡ [] → HoldsGrant u n t.holder → DraftFits t b.published u → LawKeeps b (cancel_law u t b)
cancel_keeps n (Receiving u) t b fits free grant draft = acked_keeps ack.OperationCancelled (finished t) b (quiet_fits t (finished t) b fits (none_bringing t b n fits free (inr grant)) (same_ids t None))
cancel_keeps n Free t b fits free grant draft = record { board = fits; draft = draft; clients = same_clients b }
cancel_keeps n (Writing u) t b fits free grant draft = record { board = fits; draft = draft; clients = same_clients b }
cancel_keeps n (Committing left) t b fits free grant draft = record { board = fits; draft = draft; clients = same_clients b }

own_ended : (n : ℕ) (u : UploadState) (t : TransferState) (b : BoardState) → BoardFits t b → open_asks b (Link n) ≡ [] → HoldsGrant u n t.holder → BoardFits (without_own u t) b
own_ended n (Receiving u) t b fits free grant = quiet_fits t (finished t) b fits (none_bringing t b n fits free (inr grant)) (same_ids t None)
own_ended n Free t b fits free grant = fits
own_ended n (Writing u) t b fits free grant = fits
own_ended n (Committing left) t b fits free grant = fits

pub message_keeps : (n : ℕ) (u : UploadState) (m : Message) (t : TransferState) (b : BoardState) → BoardFits t b → open_asks b (Link n) ≡ [] → HoldsGrant u n t.holder → DraftFits t b.published u → LawKeeps b (message_law n u m t b)
message_keeps n u (message.Count kind count) t b fits free grant draft = count_keeps n (type_of kind) count (without_own u t) b (own_ended n u t b fits free grant) free
message_keeps n u (message.Item seq item) t b fits free grant draft = item_keeps n u seq item t b fits free grant draft
message_keeps n u (message.ClearAll kind) t b fits free grant draft = clear_keeps n (types_named kind) (without_own u t) b (own_ended n u t b fits free grant) free
message_keeps n u (message.SetCurrent seq) t b fits free grant draft = current_keeps u seq t b fits draft
message_keeps n u message.Cancel t b fits free grant draft = cancel_keeps n u t b fits free grant draft
message_keeps n u message.Timeout t b fits free grant draft = cancel_keeps n u t b fits free grant draft

-- an error or the end of a commit gives the grant back
ended_keeps : (n : ℕ) (code : AckCode) (t : TransferState) (b : BoardState) → BoardFits t b → open_asks b (Link n) ≡ [] → t.holder ≡ Some n → LawKeeps b (acked code (finished t) b)
ended_keeps n code t b fits free holder = acked_keeps code (finished t) b (quiet_fits t (finished t) b fits (none_bringing t b n fits free (inr holder)) (same_ids t None))

written_keeps : (n : ℕ) (u : Upload) (t : TransferState) (b : BoardState) → BoardFits t b → open_asks b (Link n) ≡ [] → t.holder ≡ Some n → UploadIsNew t b.published u → LawKeeps b (reply_law n (Writing u) reply.Done t b)
written_keeps n u t b fits free holder new =
    keeps_if b (nat_lt (length u.heard) u.count) _ _ (λ more. record { board = fits; draft = record { id = new.id; count = new.count }; clients = same_clients b })
    (λ all. record {
      board = asks_fits t b n (request.Commit u.kind u.id u.count) fits (none_bringing t b n fits free (inr holder)) refl holder (new.id, new.count);
      draft = tt;
      clients = record { links = refl; watchers = refl };
    })

pub reply_keeps : (n : ℕ) (u : UploadState) (given : Reply) (t : TransferState) (b : BoardState) → BoardFits t b → open_asks b (Link n) ≡ [] → t.holder ≡ Some n → DraftFits t b.published u → LawKeeps b (reply_law n u given t b)
reply_keeps n (Writing u) reply.Done t b fits free holder draft = written_keeps n u t b fits free holder draft
reply_keeps n (Committing (kind ∷ left)) reply.Done t b fits free holder draft = empties_keeps n kind left t b fits (none_bringing t b n fits free (inr holder)) holder
reply_keeps n (Committing []) reply.Done t b fits free holder draft = ended_keeps n ack.Accepted t b fits free holder
reply_keeps n Free reply.Done t b fits free holder draft = record { board = fits; draft = draft; clients = same_clients b }
reply_keeps n (Receiving u) reply.Done t b fits free holder draft = record { board = fits; draft = draft; clients = same_clients b }
reply_keeps n Free reply.DiskFailed t b fits free holder draft = ended_keeps n ack.Error t b fits free holder
reply_keeps n (Receiving u) reply.DiskFailed t b fits free holder draft = ended_keeps n ack.Error t b fits free holder
reply_keeps n (Writing u) reply.DiskFailed t b fits free holder draft = ended_keeps n ack.Error t b fits free holder
reply_keeps n (Committing []) reply.DiskFailed t b fits free holder draft = ended_keeps n ack.Error t b fits free holder
reply_keeps n (Committing (kind ∷ left)) reply.DiskFailed t b fits free holder draft = ended_keeps n ack.Error t b fits free holder
reply_keeps n Free (reply.Spent generation) t b fits free holder draft = ended_keeps n ack.Error t b fits free holder
reply_keeps n (Receiving u) (reply.Spent generation) t b fits free holder draft = ended_keeps n ack.Error t b fits free holder
reply_keeps n (Writing u) (reply.Spent generation) t b fits free holder draft = ended_keeps n ack.Error t b fits free holder
reply_keeps n (Committing []) (reply.Spent generation) t b fits free holder draft = ended_keeps n ack.Error t b fits free holder
reply_keeps n (Committing (kind ∷ left)) (reply.Spent generation) t b fits free holder draft = ended_keeps n ack.Error t b fits free holder
reply_keeps n Free (reply.Item item) t b fits free holder draft = record { board = fits; draft = draft; clients = same_clients b }
reply_keeps n (Receiving u) (reply.Item item) t b fits free holder draft = record { board = fits; draft = draft; clients = same_clients b }
reply_keeps n (Writing u) (reply.Item item) t b fits free holder draft = record { board = fits; draft = draft; clients = same_clients b }
reply_keeps n (Committing []) (reply.Item item) t b fits free holder draft = record { board = fits; draft = draft; clients = same_clients b }
reply_keeps n (Committing (kind ∷ left)) (reply.Item item) t b fits free holder draft = record { board = fits; draft = draft; clients = same_clients b }
reply_keeps n Free (reply.Stale other) t b fits free holder draft = record { board = fits; draft = draft; clients = same_clients b }
reply_keeps n (Receiving u) (reply.Stale other) t b fits free holder draft = record { board = fits; draft = draft; clients = same_clients b }
reply_keeps n (Writing u) (reply.Stale other) t b fits free holder draft = record { board = fits; draft = draft; clients = same_clients b }
reply_keeps n (Committing []) (reply.Stale other) t b fits free holder draft = record { board = fits; draft = draft; clients = same_clients b }
reply_keeps n (Committing (kind ∷ left)) (reply.Stale other) t b fits free holder draft = record { board = fits; draft = draft; clients = same_clients b }
reply_keeps n Free reply.PowerOff t b fits free holder draft = record { board = fits; draft = draft; clients = same_clients b }
reply_keeps n (Receiving u) reply.PowerOff t b fits free holder draft = record { board = fits; draft = draft; clients = same_clients b }
reply_keeps n (Writing u) reply.PowerOff t b fits free holder draft = record { board = fits; draft = draft; clients = same_clients b }
reply_keeps n (Committing []) reply.PowerOff t b fits free holder draft = record { board = fits; draft = draft; clients = same_clients b }
reply_keeps n (Committing (kind ∷ left)) reply.PowerOff t b fits free holder draft = record { board = fits; draft = draft; clients = same_clients b }

-- What others do.

-- a reply that is taken
pub heard_fits : (t : TransferState) (b : BoardState) (client : Client) (rest : List (Asked × Reply)) → BoardFits t b → BoardFits t (heard b client rest)
heard_fits t b Nav rest fits = record { three = fits.three; heads = fits.heads; last = fits.last; uploads = fits.uploads; index = fits.index }
heard_fits t b (Link n) rest fits = record { three = fits.three; heads = fits.heads; last = fits.last; uploads = fits.uploads; index = fits.index }
heard_fits t b (Watch n) rest fits = record { three = fits.three; heads = fits.heads; last = fits.last; uploads = fits.uploads; index = fits.index }

pub heard_clients : (b : BoardState) (client : Client) (rest : List (Asked × Reply)) → SameClients b (heard b client rest)
heard_clients b client rest = let lengths = lengths_with b client rest in record { links = lengths.0; watchers = lengths.1 }

-- requests that bring no plan, behind all others
pub unbrought_fits : (t : TransferState) (b : BoardState) (more : List (Client × Request)) (index : Option (ℕ × ℕ)) → BoardFits t b → bringing (abouts more) ≡ [] → IfSome index (IndexFits b.published) → BoardFits t (record b { index = index; waiting = b.waiting ++ more })
unbrought_fits t b more index fits none kept =
    let first : List (Client × Asked) = listed (in_service b.service) in
    let same : bringing (unanswered (record b { index = index; waiting = b.waiting ++ more })) ≡ bringing (unanswered b) =
    ap (λ (l : List (Client × Asked)). bringing (first ++ l)) (abouts-append b.waiting more)
    ∙ ap bringing (sym (append_assoc first (abouts b.waiting) (abouts more)))
    ∙ bringing-append (first ++ abouts b.waiting) (abouts more)
    ∙ ap (λ (l : List (Client × Asked)). bringing (unanswered b) ++ l) none
    ∙ append-nil (bringing (unanswered b)) in
    record {
      three = fits.three;
      heads = fits.heads;
      last = fits.last;
      uploads = subst (UploadFits t b.published) (sym same) fits.uploads;
      index = kept;
    }
