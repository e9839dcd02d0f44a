-- How the lines of a link lead on what was told, and what its steps keep.
use Rattle.std.proofs.Common.{◌≡◌, ◌≢◌, ◌⊎◌, inl, inr, ℕ, zero, suc, Bool, true, false, List, [], ◌∷◌, length, Some, None, nat_lt, refl, sym, subst, ap, ◌∙◌, arith}
use Rattle.std.specs.Prelude.{slice_get, if◌then◌else◌}
use Rattle.std.proofs.lemmas.Bool.Decides.{nat_tests}
use Rattle.std.specs.List.{All}
use Rattle.mission_model.specs.declared.plan.Item.{Item}
use Rattle.mission_model.specs.declared.request.Asked.{Asked}
use Rattle.mission_model.specs.declared.request.Client.{Client}
use Rattle.mission_model.specs.declared.request.Client.TheVariants.{Link}
use Rattle.mission_model.specs.declared.request.Reply.{Reply}
use Rattle.mission_model.specs.declared.message.Answer.{Answer}
use Rattle.mission_model.specs.declared.message.Answer.TheVariants as answer
use Rattle.mission_model.specs.declared.message.Message.{Message}
use Rattle.mission_model.specs.declared.schedule.InputLine.{InputLine}
use Rattle.mission_model.specs.declared.schedule.InputLine.TheVariants as input
use Rattle.mission_model.specs.declared.flight_line.Line.{Line}
use Rattle.mission_model.specs.declared.flight_line.Line.TheVariants as line
use Rattle.mission_model.specs.BootScripts.{LinkInput}
use Rattle.mission_model.specs.Shown.{said_of}
use Rattle.request_board.specs.BoardState.{BoardState, posted, ClientsStay, OthersStay}
use Rattle.request_board.specs.BoardCalls.{heard}
use Rattle.request_board.specs.Frames.{heard_others, heard_clients}
use Rattle.upload_session.specs.SessionLaw.{message_law, reply_law}
use Rattle.upload_session.specs.SessionState.{Heard, link_of, heard_of}
use Rattle.upload_session.specs.Sessions.{SessionFits-own, SessionFits-other}
use Rattle.turn_cell.specs.declared.machine.StepOut.{StepOut}
use Rattle.turn_cell.specs.declared.machine.StepOut.TheVariants.{Made, Idle}
use Rattle.vehicle_core.specs.declared.shared.Shared.{Shared}
use Rattle.vehicle_core.specs.declared.link.Link.{Link as LinkState}
use Rattle.vehicle_core.specs.ScheduleState.{ScheduleState}
use Rattle.vehicle_core.specs.SharedState.{shared_told, arrived_after, Counted}
use Rattle.vehicle_core.specs.Told.{SharedTold, LinkTold}
use Rattle.vehicle_core.specs.Ready.{has_first, Turn, Replies, Goes, Rests, is_free, input_ready, on_schedule, asking_turn}
use Rattle.vehicle_core.specs.ActorStep.{ClientStep, LinkStep, Answers, message_of, item_message, upload_after, after_message, after_hearing, link_turn}
use Rattle.vehicle_core.specs.ClientSteps.{OnSchedule, is_common}
use Rattle.vehicle_core.specs.LinkActs.{link_told, CanHearAll, LinkFits, LinkAnswers, SessionCalled, LinkKeeps, LinkMade, LinkActs}
use Rattle.vehicle_core.specs.Leaves.{session_moved}
use Rattle.vehicle_core.proofs.Lists.{first_of, rest_of, behind, kept_or_behind}

-- Whose turn it is.

pub turn_replies : (t : SharedTold) (client : Client) (s : ScheduleState) (first : Asked × Reply) (rest : List (Asked × Reply)) → posted t.board client ≡ first ∷ rest → asking_turn t client s ≡ Replies
turn_replies t client s first rest is = ap (λ (r : List (Asked × Reply)). if has_first r then Replies else (if is_free t.board client then on_schedule t client s else Rests)) is

pub turn_free : (t : SharedTold) (client : Client) (s : ScheduleState) (turn : Turn) → posted t.board client ≡ [] → is_free t.board client ≡ true → on_schedule t client s ≡ turn → asking_turn t client s ≡ turn
turn_free t client s turn none free is =
    ap (λ (r : List (Asked × Reply)). if has_first r then Replies else (if is_free t.board client then on_schedule t client s else Rests)) none
    ∙ ap (λ (b : Bool). if b then on_schedule t client s else Rests) free
    ∙ is

pub turn_busy : (t : SharedTold) (client : Client) (s : ScheduleState) → posted t.board client ≡ [] → is_free t.board client ≡ false → asking_turn t client s ≡ Rests
turn_busy t client s none busy =
    ap (λ (r : List (Asked × Reply)). if has_first r then Replies else (if is_free t.board client then on_schedule t client s else Rests)) none
    ∙ ap (λ (b : Bool). if b then on_schedule t client s else Rests) busy

-- The message of the current input.

item_some : (items : List Item) (seq at : ℕ) (message : Message) → item_message at (slice_get items seq) ≡ Some message → nat_lt seq (length items) ≡ true
item_some [] zero at message is = absurd cc
item_some [] (suc seq) at message is = absurd cc
item_some (item ∷ items) zero at message is = grind (arith, nat_tests)
item_some (item ∷ items) (suc seq) at message is = let below = item_some items seq at message is in grind (arith, nat_tests)

item_none : (items : List Item) (seq at : ℕ) → item_message at (slice_get items seq) ≡ None → nat_lt seq (length items) ≡ false
item_none [] zero at is = refl
item_none [] (suc seq) at is = grind (arith, nat_tests)
item_none (item ∷ items) zero at is = absurd cc
item_none (item ∷ items) (suc seq) at is = let above = item_none items seq at is in grind (arith, nat_tests)

-- an input that sends is ready
sends_ready : (t : SharedTold) (client : Client) (inputs : List InputLine) (begun : Bool) (requested : ℕ) (message : Message) → message_of inputs begun requested ≡ Some message → input_ready t client inputs begun requested ≡ true
sends_ready t client [] begun requested message is = absurd cc
sends_ready t client (input.Message sent ∷ rest) true requested message is = refl
sends_ready t client (input.Message sent ∷ rest) false requested message is = refl
sends_ready t client (input.Upload kind items ∷ rest) true requested message is = item_some items requested requested message is
sends_ready t client (input.Upload kind items ∷ rest) false requested message is = refl
sends_ready t client (input.Wait ∷ rest) begun requested message is = absurd cc
sends_ready t client (input.Meet place count ∷ rest) begun requested message is = absurd cc
sends_ready t client (input.Vehicle given ∷ rest) begun requested message is = absurd cc
sends_ready t client (input.Watch given ∷ rest) begun requested message is = absurd cc

pub sends_goes : (t : SharedTold) (client : Client) (s : ScheduleState) (message : Message) → message_of s.inputs s.begun s.requested ≡ Some message → on_schedule t client s ≡ Goes
sends_goes t client s message is = ap (λ (b : Bool). if b then Goes else Rests) (sends_ready t client s.inputs s.begun s.requested message is)

-- a link's input that sends nothing and is no meeting and no wait is not ready
rests_ready : (t : SharedTold) (client : Client) (inputs : List InputLine) (begun : Bool) (requested : ℕ) → All LinkInput inputs → message_of inputs begun requested ≡ None → (is_common inputs ≡ true) ⊎ (input_ready t client inputs begun requested ≡ false)
rests_ready t client [] begun requested fit is = inl refl
rests_ready t client (input.Message sent ∷ rest) begun requested fit is = absurd cc
rests_ready t client (input.Upload kind items ∷ rest) true requested fit is = inr (item_none items requested requested is)
rests_ready t client (input.Upload kind items ∷ rest) false requested fit is = absurd cc
rests_ready t client (input.Wait ∷ rest) begun requested fit is = inl refl
rests_ready t client (input.Meet place count ∷ rest) begun requested fit is = inl refl
rests_ready t client (input.Vehicle given ∷ rest) begun requested fit is = elim (first_of LinkInput (input.Vehicle given) rest fit) [ ]
rests_ready t client (input.Watch given ∷ rest) begun requested fit is = elim (first_of LinkInput (input.Watch given) rest fit) [ ]

-- The inputs that are left.

upload_inputs : (P : InputLine → Type 0) (given : Answer) (s : ScheduleState) → All P s.inputs → All P (upload_after given s).inputs
upload_inputs P (answer.Ack code) s h = behind P s.inputs h
upload_inputs P (answer.RequestInt seq) s h = h
upload_inputs P (answer.CurrentIs seq) s h = h
upload_inputs P (answer.Writes kind id seq item) s h = h
upload_inputs P (answer.Commits kind id count) s h = h
upload_inputs P answer.Nothing s h = h

pub message_inputs : (P : InputLine → Type 0) (inputs : List InputLine) (given : Answer) (s : ScheduleState) → All P s.inputs → All P (after_message inputs given s).inputs
message_inputs P [] given s h = behind P s.inputs h
message_inputs P (input.Upload kind items ∷ rest) given s h = upload_inputs P given s h
message_inputs P (input.Message sent ∷ rest) given s h = behind P s.inputs h
message_inputs P (input.Wait ∷ rest) given s h = behind P s.inputs h
message_inputs P (input.Meet place count ∷ rest) given s h = behind P s.inputs h
message_inputs P (input.Vehicle event ∷ rest) given s h = behind P s.inputs h
message_inputs P (input.Watch event ∷ rest) given s h = behind P s.inputs h

pub hearing_inputs : (P : InputLine → Type 0) (inputs : List InputLine) (begun : Bool) (given : Answer) (s : ScheduleState) → All P s.inputs → All P (after_hearing inputs begun given s).inputs
hearing_inputs P [] begun given s h = h
hearing_inputs P (input.Upload kind items ∷ rest) true given s h = upload_inputs P given s h
hearing_inputs P (input.Upload kind items ∷ rest) false given s h = h
hearing_inputs P (input.Message sent ∷ rest) begun given s h = h
hearing_inputs P (input.Wait ∷ rest) begun given s h = h
hearing_inputs P (input.Meet place count ∷ rest) begun given s h = h
hearing_inputs P (input.Vehicle event ∷ rest) begun given s h = h
hearing_inputs P (input.Watch event ∷ rest) begun given s h = h

-- A call of the session.

links_apart : (a b : ℕ) → a ≢ b → Link a ≢ Link b
links_apart a b ne e = ne cc

-- the board that the call was given is the shared part's, or that after the link took its reply
pub called_keeps : (s : Shared) (l : LinkState) (b : BoardState) (s' : Shared) (l' : LinkState) → LinkFits s l → (s.power ≡ true → CanHearAll (posted b (Link l.number))) → OthersStay (Link l.number) s.board b → ClientsStay s.board b → b.published ≡ s.board.published → b.service ≡ s.board.service → SessionCalled (record s { board = b }) l s' l' → All LinkInput l'.schedule.inputs → LinkKeeps s l s' l'
called_keeps s l b s' l' fits replies others clients heads service called inputs =
    let keeps = called.keeps in
    let own : l'.session.link ≡ l'.number = keeps.number ∙ fits.number ∙ sym called.number in
    let power : s'.power ≡ s.power = ap (λ (x : Shared). x.power) called.stays in
    let same : s'.board ≡ record b { waiting = s'.board.waiting; index = s'.board.index } = keeps.board.same in
    record {
      number = called.number;
      fits = record {
        number = own;
        session = SessionFits-own l.session l'.session s.transfer s'.transfer b s'.board (clients (Link l.session.link) fits.session.client) keeps;
        replies = λ on. subst (λ (n : ℕ). CanHearAll (posted s'.board (Link n))) (sym called.number) (subst CanHearAll (sym (keeps.board.posted (Link l.number))) (replies (sym power ∙ on)));
        inputs = inputs;
      };
      others = λ other apart fit.
          SessionFits-other other l.session l'.session s.transfer s'.transfer b s'.board (λ e. apart (e ∙ fits.number)) keeps
          (session_moved other s.transfer s.board b clients (others (Link other.link) (links_apart other.link l.number apart)).1 fit);
      held = λ other apart is. keeps.held other (λ e. apart (e ∙ fits.number)) is;
      clients = λ client has. keeps.board.clients client (clients client has);
      board = λ other apart.
          let first = others other apart in
          let second = keeps.board.others other (λ e. apart (e ∙ ap (λ (n : ℕ). Link n) fits.number)) in
          (second.0 ∙ first.0, second.1 ∙ first.1);
      published = ap (λ (x : BoardState). x.published) same ∙ heads;
      service = ap (λ (x : BoardState). x.service) same ∙ service;
      power = power;
    }

counted_same : (arrived : List ℕ) (s s' : Shared) → s'.arrivals ≡ s.arrivals → Counted arrived s → Counted arrived s'
counted_same arrived s s' same counted = λ place below. ap (λ (xs : List ℕ). Rattle.std.specs.Prelude.slice_index_or xs place 0) same ∙ counted place below

-- a reply was taken and answered
pub heard_made : (s : Shared) (l : LinkState) (about : Asked) (given : Reply) (b : BoardState) (said : Answer) (s' : Shared) (l' : LinkState) → LinkFits s l → s.power ≡ true
    → posted s.board (Link l.number) ≡ (about, given) ∷ posted b (Link l.number) → b ≡ heard s.board (Link l.number) (posted b (Link l.number))
    → ((arrived : List ℕ) (items : List Item) → Heard l.session.stage items → LinkAnswers (reply_law l.number (link_of l.session.stage items) given s.transfer b) (record s { board = b }) l arrived items (after_hearing l.schedule.inputs l.schedule.begun said l.schedule) said s' l')
    → SessionCalled (record s { board = b }) l s' l' → l'.schedule ≡ after_hearing l.schedule.inputs l.schedule.begun said l.schedule
    → LinkMade s l (line.Heard l'.number given said) s' l'
heard_made s l about given b said s' l' fits power first is answers called schedule =
    let rest : List (Asked × Reply) = posted b (Link l.number) in
    record {
      power = power;
      led = λ arrived items counted hears.
          let a = answers arrived items hears in
          record {
            heard' = heard_of (reply_law l.number (link_of l.session.stage items) given s.transfer b).link;
            hears = a.hears;
            step = (
              called.number,
              turn_replies (shared_told s arrived) (Link l.number) l.schedule (about, given) rest first,
              record {
                about = about;
                rest = rest;
                first = first;
                answers = subst (λ (x : BoardState). Answers (reply_law l.number (link_of l.session.stage items) given s.transfer x) (shared_told s arrived) (link_told l items) (after_hearing l.schedule.inputs l.schedule.begun said l.schedule) said (shared_told s' arrived) (link_told l' (heard_of (reply_law l.number (link_of l.session.stage items) given s.transfer b).link))) is
                    (record { answer = a.answers.answer; shared = a.answers.shared; link = a.answers.link });
              },
            );
            counted = counted_same arrived s s' (ap (λ (x : Shared). x.arrivals) called.stays) counted;
          };
      keeps = called_keeps s l b s' l' fits
          (λ on. rest_of (λ (said : Asked × Reply). Rattle.mission_model.specs.Replies.CanHear said.0 said.1) (about, given) rest (subst CanHearAll first (fits.replies on)))
          (subst (OthersStay (Link l.number) s.board) (sym is) (heard_others s.board (Link l.number) rest))
          (subst (ClientsStay s.board) (sym is) (heard_clients s.board (Link l.number) rest))
          (ap (λ (x : BoardState). x.published) is)
          (ap (λ (x : BoardState). x.service) is)
          called
          (subst (λ (x : ScheduleState). All LinkInput x.inputs) (sym schedule) (hearing_inputs LinkInput l.schedule.inputs l.schedule.begun said l.schedule fits.inputs));
    }

-- a message was sent and answered
pub said_made : (s : Shared) (l : LinkState) (message : Message) (given : Answer) (s' : Shared) (l' : LinkState) → LinkFits s l → s.power ≡ true
    → posted s.board (Link l.number) ≡ [] → is_free s.board (Link l.number) ≡ true → message_of l.schedule.inputs l.schedule.begun l.schedule.requested ≡ Some message
    → ((arrived : List ℕ) (items : List Item) → Heard l.session.stage items → LinkAnswers (message_law l.number (link_of l.session.stage items) message s.transfer s.board) s l arrived items (after_message l.schedule.inputs given l.schedule) given s' l')
    → SessionCalled s l s' l' → l'.schedule ≡ after_message l.schedule.inputs given l.schedule
    → LinkMade s l (line.Sent l'.number (said_of message) given) s' l'
said_made s l message given s' l' fits power none free sends answers called schedule = record {
  power = power;
  led = λ arrived items counted hears.
      let a = answers arrived items hears in
      record {
        heard' = heard_of (message_law l.number (link_of l.session.stage items) message s.transfer s.board).link;
        hears = a.hears;
        step = (
          called.number,
          turn_free (shared_told s arrived) (Link l.number) l.schedule Goes none free (sends_goes (shared_told s arrived) (Link l.number) l.schedule message sends),
          record { message = message; sends = sends; shown = refl; answers = a.answers },
        );
        counted = counted_same arrived s s' (ap (λ (x : Shared). x.arrivals) called.stays) counted;
      };
  keeps = called_keeps s l s.board s' l' fits fits.replies (λ other apart. (refl, refl)) (λ client has. has) refl refl called
      (subst (λ (x : ScheduleState). All LinkInput x.inputs) (sym schedule) (message_inputs LinkInput l.schedule.inputs given l.schedule fits.inputs));
}

-- a meeting or a wait
rests_step : (t : SharedTold) (l : LinkTold) (made : Line) (t' : SharedTold) (s' : ScheduleState) → link_turn t l ≡ Goes → ClientStep (Link l.number) t l.schedule made t' s' → LinkStep t l made t' (record l { schedule = s' })
rests_step t l (line.Arrived who place) t' s' turn h = (turn, record { step = h; link = refl })
rests_step t l (line.Met who place) t' s' turn h = (turn, record { step = h; link = refl })
rests_step t l (line.Waited who) t' s' turn h = (turn, record { step = h; link = refl })
rests_step t l (line.Boot number heads mark) t' s' turn h = elim h [ ]
rests_step t l (line.BootCut number) t' s' turn h = elim h [ ]
rests_step t l (line.Sent number said given) t' s' turn h = elim h [ ]
rests_step t l (line.Heard number given said) t' s' turn h = elim h [ ]
rests_step t l (line.Took who about) t' s' turn h = elim h [ ]
rests_step t l (line.Served who given) t' s' turn h = elim h [ ]
rests_step t l (line.Got about given) t' s' turn h = elim h [ ]
rests_step t l (line.Nav given entry) t' s' turn h = elim h [ ]
rests_step t l (line.Dropped kind seq) t' s' turn h = elim h [ ]
rests_step t l (line.WatchDid number given note asks) t' s' turn h = elim h [ ]
rests_step t l (line.WatchGot number about given note asks) t' s' turn h = elim h [ ]
rests_step t l line.End t' s' turn h = elim h [ ]
rests_step t l line.Stuck t' s' turn h = elim h [ ]

rests_keeps : (s : Shared) (l : LinkState) (s' : Shared) (schedule : ScheduleState) → LinkFits s l → s' ≡ record s { arrivals = s'.arrivals } → All LinkInput schedule.inputs → LinkKeeps s l s' (record l { schedule = schedule })
rests_keeps s l s' schedule fits stays inputs =
    let start : LinkKeeps s l (record s { arrivals = s'.arrivals }) (record l { schedule = schedule }) = record {
      number = refl;
      fits = record { number = fits.number; session = fits.session; replies = fits.replies; inputs = inputs };
      others = λ other apart fit. fit;
      held = λ other apart is. refl;
      clients = λ client has. has;
      board = λ other apart. (refl, refl);
      published = refl;
      service = refl;
      power = refl;
    } in
    subst (λ (x : Shared). LinkKeeps s l x (record l { schedule = schedule })) (sym stays) start

pub rests_acts : (s : Shared) (l : LinkState) (out : StepOut Line) (s' : Shared) (schedule : ScheduleState) → LinkFits s l → s.power ≡ true → posted s.board (Link l.number) ≡ [] → is_free s.board (Link l.number) ≡ true
    → message_of l.schedule.inputs l.schedule.begun l.schedule.requested ≡ None → OnSchedule (Link l.number) s l.schedule out s' schedule → LinkActs s l out s' (record l { schedule = schedule })
rests_acts s l (Made made) s' schedule fits power none free sends went = record {
  power = power;
  led = λ arrived items counted hears. record {
    heard' = items;
    hears = hears;
    step = rests_step (shared_told s arrived) (link_told l items) made (shared_told s' (arrived_after made arrived)) schedule
        (turn_free (shared_told s arrived) (Link l.number) l.schedule Goes none free (went.turn arrived counted)) (went.step arrived);
    counted = went.counted arrived counted;
  };
  keeps = rests_keeps s l s' schedule fits went.stays (kept_or_behind LinkInput l.schedule.inputs schedule.inputs went.inputs fits.inputs);
}
rests_acts s l Idle s' schedule fits power none free sends stood = record {
  shared = stood.shared;
  link = ap (λ (x : ScheduleState). record l { schedule = x }) stood.rest;
  turn = λ arrived items counted on.
      turn_free (shared_told s arrived) (Link l.number) l.schedule Rests none free
      (elim (rests_ready (shared_told s arrived) (Link l.number) l.schedule.inputs l.schedule.begun l.schedule.requested fits.inputs sends) [
        | inl common ↦ stood.turn arrived counted common
        | inr waits ↦ ap (λ (b : Bool). if b then Goes else Rests) waits
      ]);
}
