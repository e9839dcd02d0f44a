-- A line that was printed is read again, whatever stands behind its LF.
use Rattle.std.proofs.Common.{◌≡◌, ℕ, ◌^◌, List, [], ◌∷◌, ◌++◌, refl, ap, ◌∙◌, append_assoc, arith}
use Rattle.std.specs.Prelude.{decimal, codes}
use Rattle.mission_model.specs.CountsList.{pairs_of}
use Rattle.mission_model.specs.declared.counts.Mark.{Mark}
use Rattle.mission_model.specs.declared.flight_line.Line.{Line}
use Rattle.mission_model.specs.declared.flight_line.Line.TheVariants.{Boot, BootCut, Arrived, Met, Waited, Sent, Heard, Took, Served, Got, Nav, Dropped, WatchDid, WatchGot, End, Stuck}
use Rattle.mission_model.specs.declared.message.Answer.{Answer}
use Rattle.mission_model.specs.declared.message.Said.{Said}
use Rattle.mission_model.specs.declared.message.Said.TheVariants as said
use Rattle.mission_model.specs.declared.plan.PlanHead.{PlanHead}
use Rattle.mission_model.specs.declared.plan.PlanType.{PlanType}
use Rattle.mission_model.specs.declared.request.Asked.{Asked}
use Rattle.mission_model.specs.declared.request.Client.{Client}
use Rattle.mission_model.specs.declared.request.Client.TheVariants as client
use Rattle.mission_model.specs.declared.request.Reply.{Reply}
use Rattle.mission_model.specs.declared.request.Reply.TheVariants as reply
use Rattle.mission_model.specs.declared.vehicle.NavEntry.{NavEntry}
use Rattle.mission_model.specs.declared.vehicle.VehicleLine.{VehicleLine}
use Rattle.mission_model.specs.declared.vehicle.VehicleLine.TheVariants as vehicle
use Rattle.mission_model.specs.declared.watch.Note.{Note}
use Rattle.mission_model.specs.declared.watch.WatchInput.{WatchInput}
use Rattle.record_text.specs.Plans.{kind_text, head_text, pairs_text}
use Rattle.record_text.specs.Requests.{client_text, asked_text, reply_text}
use Rattle.record_text.specs.Messages.{IsPrintableSaid, said_text, answer_text}
use Rattle.record_text.specs.Vehicle.{event_text, what_text}
use Rattle.record_text.specs.Watch.{watch_input_text, note_text}
use Rattle.record_text.specs.Record.{heads_text, told_text, words_text, line_text_of}
use Rattle.record_text.specs.Typed.{IsU8, IsU16, IsTypedHead, IsTypedMark, IsTypedClient, IsTypedAsked, IsTypedReply, IsTypedSaid, IsTypedAnswer, IsTypedEvent, IsTypedWhat, IsTypedInput, IsTypedNote}
use Rattle.record_text.specs.Read.{IsWritable}
use Rattle.record_text.specs.LineReading.{up_at, boot_at, meeting_at, sent_at, heard_at, link_at, told_at, did_at, watch_got_at, watch_at, worker_at, entry_at, got_at, drop_at, nav_at, line_at}
use Rattle.record_text.proofs.Joined.{join-4, join-5, join-6}
use Rattle.record_text.proofs.Numbers.{number_at-again}
use Rattle.record_text.proofs.PlanLaws.{kind-again, head-again}
use Rattle.record_text.proofs.CountsLaws.{EndsPairs, index-again}
use Rattle.record_text.proofs.RequestLaws.{client-again, asked-again, reply-again}
use Rattle.record_text.proofs.MessageLaws.{said-again, answer-again}
use Rattle.record_text.proofs.VehicleLaws.{event-again, what-again, watch_input-again, note-again}

-- the LF of a line and what stands behind it
abbrev ended : List ℕ → List ℕ
ended more = 10 ∷ more

ended-pairs : (more : List ℕ) → EndsPairs (ended more)
ended-pairs more = record { number = refl; pair = refl }

-- a reply behind a space begins with no digit
reply-pairs : (reply : Reply) (rest : List ℕ) → EndsPairs (codes " " ++ (reply_text reply ++ rest))
reply-pairs (reply.Item item) rest = record { number = refl; pair = refl }
reply-pairs (reply.Stale id) rest = record { number = refl; pair = refl }
reply-pairs reply.Done rest = record { number = refl; pair = refl }
reply-pairs reply.DiskFailed rest = record { number = refl; pair = refl }
reply-pairs reply.PowerOff rest = record { number = refl; pair = refl }
reply-pairs (reply.Spent generation) rest = record { number = refl; pair = refl }

-- ---- boots

up-again : (number : ℕ) (mission fence safe : PlanHead) (mark : Mark) (more : List ℕ)
    → IsTypedHead mission → IsTypedHead fence → IsTypedHead safe → IsTypedMark mark → mark.id ≡ mission.id
    → up_at number (heads_text (mission ∷ fence ∷ safe ∷ []) ++ (codes " at " ++ (decimal mark.index ++ (pairs_text (pairs_of mark.counts) ++ ended more)))) ≡ Boot number (mission ∷ fence ∷ safe ∷ []) mark
unfolding up_at
up-again number mission fence safe mark more mission_fits fence_fits safe_fits mark_fits same =
    let place : List ℕ = decimal mark.index ++ (pairs_text (pairs_of mark.counts) ++ ended more) in
    let last : List ℕ = codes " at " ++ place in
    let third : List ℕ = codes " safe " ++ (head_text safe ++ last) in
    let second : List ℕ = codes " fence " ++ (head_text fence ++ third) in
    let text : heads_text (mission ∷ fence ∷ safe ∷ []) ++ last ≡ codes " mission " ++ (head_text mission ++ second) = simp append_assoc in
    ap (up_at number) text
    ∙ rw (
      head-again mission second mission_fits refl,
      head-again fence third fence_fits refl,
      head-again safe last safe_fits refl,
      ← same,
      index-again mark (ended more) mark_fits (ended-pairs more),
    ) refl

boot-up : (number : ℕ) (mission fence safe : PlanHead) (mark : Mark) (more : List ℕ)
    → IsU16 number → IsTypedHead mission → IsTypedHead fence → IsTypedHead safe → IsTypedMark mark → mark.id ≡ mission.id
    → line_at (words_text (Boot number (mission ∷ fence ∷ safe ∷ []) mark) ++ ended more) ≡ Boot number (mission ∷ fence ∷ safe ∷ []) mark
unfolding line_at boot_at
boot-up number mission fence safe mark more number_fits mission_fits fence_fits safe_fits mark_fits same =
    let heads : List ℕ = heads_text (mission ∷ fence ∷ safe ∷ []) in
    let pairs : List ℕ = pairs_text (pairs_of mark.counts) in
    let place : List ℕ = decimal mark.index ++ (pairs_text (pairs_of mark.counts) ++ ended more) in
    let behind : List ℕ = heads_text (mission ∷ fence ∷ safe ∷ []) ++ (codes " at " ++ place) in
    let text : words_text (Boot number (mission ∷ fence ∷ safe ∷ []) mark) ++ ended more ≡ codes "boot " ++ (decimal number ++ behind) =
    join-6 (codes "boot ") (decimal number) heads (codes " at ") (decimal mark.index) pairs (ended more) in
    ap line_at text
    ∙ rw (number_at-again (2 ^ 16) number behind (omega arith) number_fits refl) (up-again number mission fence safe mark more mission_fits fence_fits safe_fits mark_fits same)

boot-again : (number : ℕ) (heads : List PlanHead) (mark : Mark) (more : List ℕ) → IsWritable (Boot number heads mark)
    → line_at (words_text (Boot number heads mark) ++ ended more) ≡ Boot number heads mark
boot-again number [] mark more is = absurd (omega (arith, is.1.1))
boot-again number (a ∷ []) mark more is = absurd (omega (arith, is.1.1))
boot-again number (a ∷ b ∷ []) mark more is = absurd (omega (arith, is.1.1))
boot-again number (a ∷ b ∷ c ∷ []) mark more is = boot-up number a b c mark more is.1.0 is.1.2.0 is.1.2.1.0 is.1.2.1.1.0 is.1.3 is.0
boot-again number (a ∷ b ∷ c ∷ d ∷ heads) mark more is = absurd (omega (arith, is.1.1))

cut-again : (number : ℕ) (more : List ℕ) → IsU16 number → line_at (words_text (BootCut number) ++ ended more) ≡ BootCut number
unfolding line_at boot_at
cut-again number more fits =
    let text : words_text (BootCut number) ++ ended more ≡ codes "boot " ++ (decimal number ++ (codes " cut" ++ ended more)) = simp append_assoc in
    ap line_at text ∙ rw (number_at-again (2 ^ 16) number (codes " cut" ++ ended more) (omega arith) fits refl) refl

-- ---- meeting places

arrived-again : (client : Client) (place : ℕ) (more : List ℕ) → IsTypedClient client → IsU8 place → line_at (words_text (Arrived client place) ++ ended more) ≡ Arrived client place
unfolding line_at nav_at link_at watch_at meeting_at
arrived-again client.Nav place more client_fits fits = rw (number_at-again (2 ^ 8) place (ended more) (omega arith) fits refl) refl
arrived-again (client.Link link) place more client_fits fits =
    let behind : List ℕ = codes " arrives " ++ (decimal place ++ ended more) in
    let text : words_text (Arrived (client.Link link) place) ++ ended more ≡ codes "link " ++ (decimal link ++ behind) = simp append_assoc in
    ap line_at text ∙ rw (number_at-again (2 ^ 8) link behind (omega arith) client_fits refl, number_at-again (2 ^ 8) place (ended more) (omega arith) fits refl) refl
arrived-again (client.Watch watch) place more client_fits fits =
    let behind : List ℕ = codes " arrives " ++ (decimal place ++ ended more) in
    let text : words_text (Arrived (client.Watch watch) place) ++ ended more ≡ codes "watch " ++ (decimal watch ++ behind) = simp append_assoc in
    ap line_at text ∙ rw (number_at-again (2 ^ 8) watch behind (omega arith) client_fits refl, number_at-again (2 ^ 8) place (ended more) (omega arith) fits refl) refl

met-again : (client : Client) (place : ℕ) (more : List ℕ) → IsTypedClient client → IsU8 place → line_at (words_text (Met client place) ++ ended more) ≡ Met client place
unfolding line_at nav_at link_at watch_at meeting_at
met-again client.Nav place more client_fits fits = rw (number_at-again (2 ^ 8) place (ended more) (omega arith) fits refl) refl
met-again (client.Link link) place more client_fits fits =
    let behind : List ℕ = codes " meets " ++ (decimal place ++ ended more) in
    let text : words_text (Met (client.Link link) place) ++ ended more ≡ codes "link " ++ (decimal link ++ behind) = simp append_assoc in
    ap line_at text ∙ rw (number_at-again (2 ^ 8) link behind (omega arith) client_fits refl, number_at-again (2 ^ 8) place (ended more) (omega arith) fits refl) refl
met-again (client.Watch watch) place more client_fits fits =
    let behind : List ℕ = codes " meets " ++ (decimal place ++ ended more) in
    let text : words_text (Met (client.Watch watch) place) ++ ended more ≡ codes "watch " ++ (decimal watch ++ behind) = simp append_assoc in
    ap line_at text ∙ rw (number_at-again (2 ^ 8) watch behind (omega arith) client_fits refl, number_at-again (2 ^ 8) place (ended more) (omega arith) fits refl) refl

waited-again : (client : Client) (more : List ℕ) → IsTypedClient client → line_at (words_text (Waited client) ++ ended more) ≡ Waited client
unfolding line_at nav_at link_at watch_at meeting_at
waited-again client.Nav more fits = refl
waited-again (client.Link link) more fits =
    let behind : List ℕ = codes " waits" ++ ended more in
    let text : words_text (Waited (client.Link link)) ++ ended more ≡ codes "link " ++ (decimal link ++ behind) = simp append_assoc in
    ap line_at text ∙ rw (number_at-again (2 ^ 8) link behind (omega arith) fits refl) refl
waited-again (client.Watch watch) more fits =
    let behind : List ℕ = codes " waits" ++ ended more in
    let text : words_text (Waited (client.Watch watch)) ++ ended more ≡ codes "watch " ++ (decimal watch ++ behind) = simp append_assoc in
    ap line_at text ∙ rw (number_at-again (2 ^ 8) watch behind (omega arith) fits refl) refl

-- ---- links and the worker

handled-again : (link : ℕ) (said : Said) (answer : Answer) (more : List ℕ) → IsPrintableSaid said → IsTypedSaid said → IsTypedAnswer answer
    → sent_at link (said_text said ++ (codes " > " ++ (answer_text answer ++ ended more))) ≡ Sent link said answer
unfolding sent_at
handled-again link said answer more is said_fits answer_fits =
    rw (said-again said (codes " > " ++ (answer_text answer ++ ended more)) is said_fits refl, answer-again answer (ended more) answer_fits refl) refl

-- a message begins as no reply that is heard and no step at a meeting place
link-sent : (link : ℕ) (said : Said) (rest : List ℕ) → IsU8 link → link_at (decimal link ++ (codes " " ++ (said_text said ++ rest))) ≡ sent_at link (said_text said ++ rest)
unfolding link_at
link-sent link (said.Count kind count) rest fits = rw (number_at-again (2 ^ 8) link (codes " " ++ (said_text (said.Count kind count) ++ rest)) (omega arith) fits refl) refl
link-sent link (said.Item seq) rest fits = rw (number_at-again (2 ^ 8) link (codes " " ++ (said_text (said.Item seq) ++ rest)) (omega arith) fits refl) refl
link-sent link (said.ClearAll kind) rest fits = rw (number_at-again (2 ^ 8) link (codes " " ++ (said_text (said.ClearAll kind) ++ rest)) (omega arith) fits refl) refl
link-sent link (said.SetCurrent seq) rest fits = rw (number_at-again (2 ^ 8) link (codes " " ++ (said_text (said.SetCurrent seq) ++ rest)) (omega arith) fits refl) refl
link-sent link said.Cancel rest fits = rw (number_at-again (2 ^ 8) link (codes " " ++ (said_text said.Cancel ++ rest)) (omega arith) fits refl) refl
link-sent link said.Timeout rest fits = rw (number_at-again (2 ^ 8) link (codes " " ++ (said_text said.Timeout ++ rest)) (omega arith) fits refl) refl

sent-again : (link : ℕ) (said : Said) (answer : Answer) (more : List ℕ) → IsU8 link → IsPrintableSaid said → IsTypedSaid said → IsTypedAnswer answer
    → line_at (words_text (Sent link said answer) ++ ended more) ≡ Sent link said answer
unfolding line_at
sent-again link said answer more fits is said_fits answer_fits =
    let last : List ℕ = codes " > " ++ (answer_text answer ++ ended more) in
    let text : words_text (Sent link said answer) ++ ended more ≡ codes "link " ++ (decimal link ++ (codes " " ++ (said_text said ++ last))) = simp append_assoc in
    ap line_at text ∙ link-sent link said last fits ∙ handled-again link said answer more is said_fits answer_fits

heard-again : (link : ℕ) (reply : Reply) (answer : Answer) (more : List ℕ) → IsU8 link → IsTypedReply reply → IsTypedAnswer answer
    → line_at (words_text (Heard link reply answer) ++ ended more) ≡ Heard link reply answer
unfolding line_at link_at heard_at
heard-again link reply answer more fits reply_fits answer_fits =
    let last : List ℕ = codes " > " ++ (answer_text answer ++ ended more) in
    let behind : List ℕ = codes " hears " ++ (reply_text reply ++ last) in
    let text : words_text (Heard link reply answer) ++ ended more ≡ codes "link " ++ (decimal link ++ behind) = simp append_assoc in
    ap line_at text
    ∙ rw (number_at-again (2 ^ 8) link behind (omega arith) fits refl, reply-again reply last reply_fits refl, answer-again answer (ended more) answer_fits refl) refl

took-again : (client : Client) (asked : Asked) (more : List ℕ) → IsTypedClient client → IsTypedAsked asked → line_at (words_text (Took client asked) ++ ended more) ≡ Took client asked
unfolding line_at worker_at
took-again client asked more client_fits asked_fits =
    let behind : List ℕ = codes " " ++ (asked_text asked ++ ended more) in
    let text : words_text (Took client asked) ++ ended more ≡ codes "worker takes " ++ (client_text client ++ behind) = simp append_assoc in
    ap line_at text ∙ rw (client-again client behind client_fits refl, asked-again asked (ended more) asked_fits (ended-pairs more)) refl

served-again : (client : Client) (reply : Reply) (more : List ℕ) → IsTypedClient client → IsTypedReply reply → line_at (words_text (Served client reply) ++ ended more) ≡ Served client reply
unfolding line_at worker_at
served-again client reply more client_fits reply_fits =
    let behind : List ℕ = codes " " ++ (reply_text reply ++ ended more) in
    let text : words_text (Served client reply) ++ ended more ≡ codes "worker serves " ++ (client_text client ++ behind) = simp append_assoc in
    ap line_at text ∙ rw (client-again client behind client_fits refl, reply-again reply (ended more) reply_fits refl) refl

-- ---- the Navigator

got-again : (asked : Asked) (reply : Reply) (more : List ℕ) → IsTypedAsked asked → IsTypedReply reply → line_at (words_text (Got asked reply) ++ ended more) ≡ Got asked reply
unfolding line_at nav_at got_at
got-again asked reply more asked_fits reply_fits =
    let behind : List ℕ = codes " " ++ (reply_text reply ++ ended more) in
    let text : words_text (Got asked reply) ++ ended more ≡ codes "nav got " ++ (asked_text asked ++ behind) = simp append_assoc in
    ap line_at text ∙ rw (asked-again asked behind asked_fits (reply-pairs reply (ended more)), reply-again reply (ended more) reply_fits refl) refl

noted-again : (event : VehicleLine) (entry : NavEntry) (more : List ℕ) → IsTypedEvent event → IsTypedWhat entry.what → IsU8 entry.asked
    → entry_at (event_text event ++ (codes " > " ++ (what_text entry.what ++ (codes " asks " ++ (decimal entry.asked ++ ended more))))) ≡ Nav event entry
unfolding entry_at
noted-again event entry more event_fits what_fits asked_fits =
    let last : List ℕ = codes " asks " ++ (decimal entry.asked ++ ended more) in
    rw (
      event-again event (codes " > " ++ (what_text entry.what ++ last)) event_fits refl,
      what-again entry.what last what_fits refl,
      number_at-again (2 ^ 8) entry.asked (ended more) (omega arith) asked_fits refl,
    ) refl

-- an event begins as nothing else that the Navigator does
nav-entry : (event : VehicleLine) (rest : List ℕ) → nav_at (event_text event ++ (codes " > " ++ rest)) ≡ entry_at (event_text event ++ (codes " > " ++ rest))
unfolding nav_at
nav-entry vehicle.Tick rest = refl
nav-entry vehicle.Go rest = refl
nav-entry vehicle.Reached rest = refl
nav-entry (vehicle.Mode mode) rest = refl
nav-entry (vehicle.Position x y) rest = refl

nav-again : (event : VehicleLine) (entry : NavEntry) (more : List ℕ) → IsTypedEvent event → IsTypedWhat entry.what → IsU8 entry.asked
    → line_at (words_text (Nav event entry) ++ ended more) ≡ Nav event entry
unfolding line_at
nav-again event entry more event_fits what_fits asked_fits =
    let behind : List ℕ = what_text entry.what ++ (codes " asks " ++ (decimal entry.asked ++ ended more)) in
    let text : words_text (Nav event entry) ++ ended more ≡ codes "nav " ++ (event_text event ++ (codes " > " ++ behind)) =
    join-5 (codes "nav ") (event_text event) (codes " > ") (what_text entry.what) (codes " asks " ++ decimal entry.asked) (ended more) in
    ap line_at text ∙ nav-entry event behind ∙ noted-again event entry more event_fits what_fits asked_fits

dropped-again : (kind : PlanType) (seq : ℕ) (more : List ℕ) → IsU16 seq → line_at (words_text (Dropped kind seq) ++ ended more) ≡ Dropped kind seq
unfolding line_at nav_at drop_at
dropped-again kind seq more fits =
    let behind : List ℕ = codes " " ++ (decimal seq ++ ended more) in
    let text : words_text (Dropped kind seq) ++ ended more ≡ codes "nav drop " ++ (kind_text kind ++ behind) = simp append_assoc in
    ap line_at text ∙ rw (kind-again kind behind, number_at-again (2 ^ 16) seq (ended more) (omega arith) fits refl) refl

-- ---- watchers

told-again : (note : Note) (asks : ℕ) (more : List ℕ) → IsTypedNote note → IsU8 asks → told_at (told_text note asks ++ ended more) ≡ (note, asks)
unfolding told_at
told-again note asks more note_fits fits =
    let last : List ℕ = codes " asks " ++ (decimal asks ++ ended more) in
    let text : told_text note asks ++ ended more ≡ codes " > note " ++ (note_text note ++ last) = simp append_assoc in
    ap told_at text ∙ rw (note-again note last note_fits refl, number_at-again (2 ^ 8) asks (ended more) (omega arith) fits refl) refl

did-again : (watch : ℕ) (input : WatchInput) (note : Note) (asked : ℕ) (more : List ℕ) → IsU8 watch → IsTypedInput input → IsTypedNote note → IsU8 asked
    → line_at (words_text (WatchDid watch input note asked) ++ ended more) ≡ WatchDid watch input note asked
unfolding line_at watch_at did_at
did-again watch input note asked more watch_fits input_fits note_fits fits =
    let last : List ℕ = told_text note asked ++ ended more in
    let behind : List ℕ = codes " does " ++ (watch_input_text input ++ last) in
    let text : words_text (WatchDid watch input note asked) ++ ended more ≡ codes "watch " ++ (decimal watch ++ behind) =
    join-5 (codes "watch ") (decimal watch) (codes " does ") (watch_input_text input) (told_text note asked) (ended more) in
    ap line_at text
    ∙ rw (number_at-again (2 ^ 8) watch behind (omega arith) watch_fits refl, watch_input-again input last input_fits refl, told-again note asked more note_fits fits) refl

watch_got-again : (watch : ℕ) (asked : Asked) (reply : Reply) (note : Note) (asks : ℕ) (more : List ℕ) → IsU8 watch → IsTypedAsked asked → IsTypedReply reply → IsTypedNote note → IsU8 asks
    → line_at (words_text (WatchGot watch asked reply note asks) ++ ended more) ≡ WatchGot watch asked reply note asks
unfolding line_at watch_at watch_got_at
watch_got-again watch asked reply note asks more watch_fits asked_fits reply_fits note_fits fits =
    let last : List ℕ = told_text note asks ++ ended more in
    let middle : List ℕ = codes " " ++ (reply_text reply ++ last) in
    let behind : List ℕ = codes " got " ++ (asked_text asked ++ middle) in
    let got : List ℕ = codes "got " ++ asked_text asked ++ codes " " ++ reply_text reply in
    let text : words_text (WatchGot watch asked reply note asks) ++ ended more ≡ codes "watch " ++ (decimal watch ++ behind) =
    join-5 (codes "watch ") (decimal watch) (codes " ") got (told_text note asks) (ended more)
    ∙ ap (λ (t : List ℕ). codes "watch " ++ (decimal watch ++ (codes " " ++ t))) (join-4 (codes "got ") (asked_text asked) (codes " ") (reply_text reply) last) in
    ap line_at text
    ∙ rw (
      number_at-again (2 ^ 8) watch behind (omega arith) watch_fits refl,
      asked-again asked middle asked_fits (reply-pairs reply last),
      reply-again reply last reply_fits refl,
      told-again note asks more note_fits fits,
    ) refl

-- ---- all lines

words-again : (line : Line) (more : List ℕ) → IsWritable line → line_at (words_text line ++ ended more) ≡ line
unfolding line_at
words-again (Boot number heads mark) more is = boot-again number heads mark more is
words-again (BootCut number) more is = cut-again number more is.1
words-again (Arrived client place) more is = arrived-again client place more is.1.0 is.1.1
words-again (Met client place) more is = met-again client place more is.1.0 is.1.1
words-again (Waited client) more is = waited-again client more is.1
words-again (Sent link said answer) more is = sent-again link said answer more is.1.0 is.0 is.1.1 is.1.2
words-again (Heard link reply answer) more is = heard-again link reply answer more is.1.0 is.1.1 is.1.2
words-again (Took client asked) more is = took-again client asked more is.1.0 is.1.1
words-again (Served client reply) more is = served-again client reply more is.1.0 is.1.1
words-again (Got asked reply) more is = got-again asked reply more is.1.0 is.1.1
words-again (Nav event entry) more is = nav-again event entry more is.1.0 is.1.1 is.1.2
words-again (Dropped kind seq) more is = dropped-again kind seq more is.1
words-again (WatchDid watch input note asked) more is = did-again watch input note asked more is.1.0 is.1.1 is.1.2 is.1.3
words-again (WatchGot watch asked reply note asks) more is = watch_got-again watch asked reply note asks more is.1.0 is.1.1 is.1.2 is.1.3 is.1.4
words-again End more is = refl
words-again Stuck more is = refl

-- a line's text is read as this line
pub line-again : (line : Line) (more : List ℕ) → IsWritable line → line_at (line_text_of line ++ more) ≡ line
line-again line more is = ap line_at (append_assoc (words_text line) (codes "\n") more) ∙ words-again line more is
