-- Each line that a turn makes is printable.
use Rattle.std.proofs.Common.{◌≡◌, ℕ, zero, suc, List, [], ◌∷◌, ◌++◌, inl, inr}
use Rattle.std.specs.Prelude.{Option, Some, None, slice_get, All}
use Rattle.std.proofs.lemmas.List.Elements.{All-nil, All-cons, All-append, All-same}
use Rattle.first_model.specs.declared.message.Said.{Said}
use Rattle.first_model.specs.declared.message.Said.TheVariants as said
use Rattle.first_model.specs.declared.message.Answer.{Answer}
use Rattle.first_model.specs.declared.request.Client.{Client}
use Rattle.first_model.specs.declared.request.Request.{Request}
use Rattle.first_model.specs.declared.request.Reply.{Reply}
use Rattle.first_model.specs.declared.flight_line.Actor.{Actor}
use Rattle.first_model.specs.declared.flight_line.Actor.TheVariants as actor
use Rattle.first_model.specs.declared.flight_line.Line.{Line}
use Rattle.first_model.specs.declared.flight_line.Line.TheVariants.{Boot, Sent}
use Rattle.first_record.specs.Messages.{IsPrintableSaid}
use Rattle.first_record.specs.Record.{IsPrintable}
use Rattle.first_core.specs.declared.StepOut.{StepOut}
use Rattle.first_core.specs.declared.StepOut.TheVariants.{Made, Idle}
use Rattle.first_core.specs.SharedState.{SharedState}
use Rattle.first_core.specs.LinkState.{LinkState}
use Rattle.first_core.specs.LinkLaw.{LinkStep}
use Rattle.first_core.specs.NavState.{NavState}
use Rattle.first_core.specs.NavLaw.{NavStep}
use Rattle.first_core.specs.WorkerLaw.{WorkerStep, request_of}
use Rattle.first_core.specs.CoreState.{CoreState}
use Rattle.first_core.specs.CoreLaw.{CoreStep, LinkMovesIf}
use Rattle.first_store.specs.StoreState.{StoreState}
use Rattle.first_runner.specs.Turn.{Turn, WorkerTurn, Acts, Rounds, line_of}

by_worker : (s : SharedState) (w : Option (Client × Request)) (reply : Option Reply) (line : Line) (s' : SharedState) (w' : Option (Client × Request)) → WorkerStep s w reply (Made line) s' w' → IsPrintable line
by_worker s w None (Boot number heads mark) s' w' step = absurd step
by_worker s w (Some reply) (Boot number heads mark) s' w' step = absurd step
by_worker s w None (Sent link told answer) s' w' step = absurd step
by_worker s w (Some reply) (Sent link told answer) s' w' step = absurd step
by_worker s w reply line s' w' step = tt

mission_count : (kind count : ℕ) → kind ≡ 0 → IsPrintableSaid (said.Count kind count)
mission_count kind count is = inl is

sent_by_link : (s : SharedState) (l : LinkState) (link : ℕ) (told : Said) (answer : Answer) (s' : SharedState) (l' : LinkState) → LinkStep s l (Made (Sent link told answer)) s' l' → IsPrintableSaid told
sent_by_link s l link (said.Count kind count) answer s' l' (number, step) = mission_count kind count (elim step [ inl begins ↦ begins.kind_is | inr finds ↦ finds.kind_is ])
sent_by_link s l link (said.ClearAll kind) answer s' l' step = absurd step
sent_by_link s l link told answer s' l' step = tt

by_link : (s : SharedState) (l : LinkState) (line : Line) (s' : SharedState) (l' : LinkState) → LinkStep s l (Made line) s' l' → IsPrintable line
by_link s l (Boot number heads mark) s' l' step = absurd step
by_link s l (Sent link told answer) s' l' step = sent_by_link s l link told answer s' l' step
by_link s l line s' l' step = tt

by_link_at : (link : Option LinkState) (s : CoreState) (number : ℕ) (line : Line) (s' : CoreState) → LinkMovesIf link s number (Made line) s' → IsPrintable line
by_link_at None s number line s' (idle, same) = cc
by_link_at (Some link) s number line s' moves = by_link s.shared link line s'.shared moves.new moves.step

by_nav : (s : SharedState) (n : NavState) (line : Line) (s' : SharedState) (n' : NavState) → NavStep s n (Made line) s' n' → IsPrintable line
by_nav s n (Boot number heads mark) s' n' step = absurd step
by_nav s n (Sent link told answer) s' n' step = absurd step
by_nav s n line s' n' step = tt

by_step : (s : CoreState) (who : Actor) (reply : Option Reply) (line : Line) (s' : CoreState) → CoreStep s who reply (Made line) s' → IsPrintable line
by_step s actor.Worker reply line s' step = by_worker s.shared s.taken reply line s'.shared s'.taken step.0
by_step s actor.Nav reply line s' step = by_nav s.shared s.nav line s'.shared s'.nav step.0
by_step s (actor.Link number) reply line s' step = by_link_at (slice_get s.links number) s number line s' step
by_step s (actor.Watch number) reply line s' (idle, same) = cc

by_worker_turn : (asked : Option Request) (s : CoreState) (st : StoreState) (line : Line) (s' : CoreState) (st' : StoreState) → WorkerTurn asked s st (Made line) s' st' → IsPrintable line
by_worker_turn None s st line s' st' turn = by_step s actor.Worker None line s' turn.0
by_worker_turn (Some asked) s st line s' st' turn = by_step s actor.Worker (Some _) line s' turn.0

by_turn : (s : CoreState) (st : StoreState) (who : Actor) (line : Line) (s' : CoreState) (st' : StoreState) → Turn s st who (Made line) s' st' → IsPrintable line
by_turn s st actor.Worker line s' st' turn = by_worker_turn (request_of s.taken) s st line s' st' turn
by_turn s st (actor.Link number) line s' st' turn = by_step s (actor.Link number) None line s' turn.0
by_turn s st actor.Nav line s' st' turn = by_step s actor.Nav None line s' turn.0
by_turn s st (actor.Watch number) line s' st' turn = by_step s (actor.Watch number) None line s' turn.0

of_turn : (s : CoreState) (st : StoreState) (who : Actor) (out : StepOut Line) (s' : CoreState) (st' : StoreState) → Turn s st who out s' st' → All IsPrintable (line_of out)
of_turn s st who Idle s' st' turn = All-nil IsPrintable
of_turn s st who (Made line) s' st' turn = All-cons IsPrintable line [] (by_turn s st who line s' st' turn) (All-nil IsPrintable)

-- the lines of turns
pub of_acts : (actors : List Actor) (s : CoreState) (st : StoreState) (lines : List Line) (s' : CoreState) (st' : StoreState) → Acts s st actors lines s' st' → All IsPrintable lines
of_acts [] s st lines s' st' (none, same, same_st) = All-same IsPrintable lines [] none (All-nil IsPrintable)
of_acts (x ∷ xs) s st lines s' st' (out, m, m_st, rest, turn, acts, is) =
    All-same IsPrintable lines (line_of out ++ rest) is (All-append IsPrintable (line_of out) rest (of_turn s st x out m m_st turn) (of_acts xs m m_st rest s' st' acts))

-- the lines of rounds
pub of_rounds : (round : List Actor) (n : ℕ) (s : CoreState) (st : StoreState) (lines : List Line) (s' : CoreState) (st' : StoreState) → Rounds round n s st lines s' st' → All IsPrintable lines
of_rounds round zero s st lines s' st' (none, same, same_st) = All-same IsPrintable lines [] none (All-nil IsPrintable)
of_rounds round (suc n) s st lines s' st' (first, m, m_st, rest, acts, some, rounds, is) =
    All-same IsPrintable lines (first ++ rest) is (All-append IsPrintable first rest (of_acts round s st first m m_st acts) (of_rounds round n m m_st rest s' st' rounds))
