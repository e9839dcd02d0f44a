-- What a look leaves of the board: its reads are outstanding behind the client's other requests, and nothing else changed.
use Rattle.std.specs.Prelude.{◌≡◌, ◌≢◌, ℕ, ◌+◌, List, [], ◌∷◌, ◌++◌, length, suc, refl}
use Rattle.std.proofs.Common.{ap, sym, ◌∙◌, append_assoc, append-nil, length-append}
use Rattle.mission_model.specs.declared.plan.PlanType.{PlanType}
use Rattle.mission_model.specs.declared.request.Client.{Client}
use Rattle.mission_model.specs.declared.request.Request.{Request}
use Rattle.mission_model.specs.declared.request.Request.TheVariants as request
use Rattle.mission_model.specs.declared.request.Asked.{Asked}
use Rattle.mission_model.specs.declared.request.Asked.TheVariants as about
use Rattle.request_board.specs.BoardState.{BoardState, posted, open_asks, outstanding, PostedStays, ClientsStay, OthersStay}
use Rattle.request_board.specs.BoardCalls.{asked}
use Rattle.request_board.specs.Frames.{asked_posted, asked_own, asked_others}
use Rattle.client_cache.specs.CacheState.{CacheState, id_of}
use Rattle.client_cache.specs.Wants.{reads, asking}

-- reads of these seqs of a plan
abbrev pub read_asks : PlanType → ℕ → List ℕ → List Asked
read_asks kind id [] = []
read_asks kind id (seq ∷ seqs) = about.Read kind id seq ∷ read_asks kind id seqs

pub length-read_asks : (kind : PlanType) (id : ℕ) (seqs : List ℕ) → length (read_asks kind id seqs) ≡ length seqs
length-read_asks kind id [] = refl
length-read_asks kind id (seq ∷ seqs) = ap suc (length-read_asks kind id seqs)

one_asked : CacheState → BoardState → ℕ → BoardState
one_asked c b seq = asked b c.client (request.Read c.kind (id_of c.head) seq)

-- no read, and one read more
asking-none : (c : CacheState) (b : BoardState) → asking c b [] ≡ b
asking-none c b = ap (λ (w : List (Client × Request)). record b { waiting = w }) (append-nil b.waiting)

asking-more : (c : CacheState) (b : BoardState) (seq : ℕ) (seqs : List ℕ) → asking c b (seq ∷ seqs) ≡ asking c (one_asked c b seq) seqs
unfolding one_asked
asking-more c b seq seqs = ap (λ (w : List (Client × Request)). record b { waiting = w }) (sym (append_assoc b.waiting ((c.client, request.Read c.kind (id_of c.head) seq) ∷ []) (reads c.client c.kind (id_of c.head) seqs)))

pub asking_own : (c : CacheState) (b : BoardState) (seqs : List ℕ) → open_asks (asking c b seqs) c.client ≡ open_asks b c.client ++ read_asks c.kind (id_of c.head) seqs
unfolding one_asked
asking_own c b [] = ap (λ (s : BoardState). open_asks s c.client) (asking-none c b) ∙ sym (append-nil (open_asks b c.client))
asking_own c b (seq ∷ seqs) =
    ap (λ (s : BoardState). open_asks s c.client) (asking-more c b seq seqs)
    ∙ asking_own c (one_asked c b seq) seqs
    ∙ ap (λ l. l ++ read_asks c.kind (id_of c.head) seqs) (asked_own b c.client (request.Read c.kind (id_of c.head) seq))
    ∙ append_assoc (open_asks b c.client) (about.Read c.kind (id_of c.head) seq ∷ []) (read_asks c.kind (id_of c.head) seqs)

pub asking_outstanding : (c : CacheState) (b : BoardState) (seqs : List ℕ) → outstanding (asking c b seqs) c.client ≡ outstanding b c.client + length seqs
asking_outstanding c b seqs =
    ap length (asking_own c b seqs)
    ∙ length-append (open_asks b c.client) (read_asks c.kind (id_of c.head) seqs)
    ∙ ap (λ n. outstanding b c.client + n) (length-read_asks c.kind (id_of c.head) seqs)

pub asking_posted : (c : CacheState) (b : BoardState) (seqs : List ℕ) → PostedStays b (asking c b seqs)
unfolding one_asked
asking_posted c b [] client = ap (λ (s : BoardState). posted s client) (asking-none c b)
asking_posted c b (seq ∷ seqs) client =
    ap (λ (s : BoardState). posted s client) (asking-more c b seq seqs)
    ∙ asking_posted c (one_asked c b seq) seqs client
    ∙ asked_posted b c.client (request.Read c.kind (id_of c.head) seq) client

asking_open : (c : CacheState) (b : BoardState) (seqs : List ℕ) (other : Client) → other ≢ c.client → open_asks (asking c b seqs) other ≡ open_asks b other
unfolding one_asked
asking_open c b [] other ne = ap (λ (s : BoardState). open_asks s other) (asking-none c b)
asking_open c b (seq ∷ seqs) other ne =
    ap (λ (s : BoardState). open_asks s other) (asking-more c b seq seqs)
    ∙ asking_open c (one_asked c b seq) seqs other ne
    ∙ (asked_others b c.client (request.Read c.kind (id_of c.head) seq) other ne).1

pub asking_others : (c : CacheState) (b : BoardState) (seqs : List ℕ) → OthersStay c.client b (asking c b seqs)
asking_others c b seqs other ne = (asking_posted c b seqs other, asking_open c b seqs other ne)

pub asking_clients : (c : CacheState) (b : BoardState) (seqs : List ℕ) → ClientsStay b (asking c b seqs)
asking_clients c b seqs client has = has
