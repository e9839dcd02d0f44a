-- A request is let in where the board has room.
use Rattle.std.proofs.Common.{◌≡◌, ℕ, ◌+◌, ◌<◌, ◌≤◌, subst, Result, Ok, Err, List, [], ◌∷◌, ◌++◌, length, arith, refl, ap, ◌∙◌, length-append}
use Rattle.std.specs.Prelude.{◌↔◌, IsErr, OnOk}
use Rattle.mission_model.specs.declared.request.Asked.{Asked}
use Rattle.mission_model.specs.declared.request.Client.TheVariants.{Nav}
use Rattle.mission_model.specs.declared.request.Request.{Request}
use Rattle.request_board.specs.declared.board.Full.{Full}
use Rattle.request_board.specs.BoardState.{BoardState, outstanding, limit, open_asks}
use Rattle.request_board.specs.BoardCalls.{asked}
use Rattle.mission_model.specs.declared.request.Client.{Client}
use Rattle.client_cache.specs.CacheState.{CacheState}
use Rattle.client_cache.specs.Wants.{Asks, asking}
use Rattle.client_cache.specs.Looking.{asking_outstanding}

pub asked-let_in : (r : Result (Unit {0}) Full) (b b' : BoardState) (request : Request) → (IsErr r ↔ (limit Nav ≤ outstanding b Nav)) → OnOk r (b' ≡ asked b Nav request) → outstanding b Nav < limit Nav → b' ≡ asked b Nav request
asked-let_in (Ok done) b b' request full ok room = ok
asked-let_in (Err e) b b' request full ok room = absurd (omega (arith, full.0 refl, room))

pub outstanding-let_in : (r : Result (Unit {0}) Full) (b b' : BoardState) (about : Asked) → (IsErr r ↔ (limit Nav ≤ outstanding b Nav)) → OnOk r (open_asks b' Nav ≡ open_asks b Nav ++ about ∷ []) → outstanding b Nav < limit Nav → outstanding b' Nav ≡ outstanding b Nav + 1
outstanding-let_in (Ok done) b b' about full ok room = ap length ok ∙ length-append (open_asks b Nav) (about ∷ [])
outstanding-let_in (Err e) b b' about full ok room = absurd (omega (arith, full.0 refl, room))

-- a look only adds to the requests that are outstanding
pub outstanding-looked : (c : CacheState) (b : BoardState) (seqs : List ℕ) (c' : CacheState) (b' : BoardState) → c.client ≡ Nav → Asks c b seqs c' b' → outstanding b Nav ≤ outstanding b' Nav
outstanding-looked c b seqs c' b' nav asks =
    let more : outstanding (asking c b seqs) Nav ≡ outstanding b Nav + length seqs = subst (λ (k : Client). outstanding (asking c b seqs) k ≡ outstanding b k + length seqs) nav (asking_outstanding c b seqs) in
    let same : outstanding b' Nav ≡ outstanding (asking c b seqs) Nav = ap (λ (k : BoardState). outstanding k Nav) asks.board in
    omega (arith, more, same)
