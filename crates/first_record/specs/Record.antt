-- The text of a record: one text for each line, and these joined.
use Rattle.std.specs.Prelude.{◌≡◌, ℕ, ⊤, List, [], ◌∷◌, ◌++◌, codes, decimal, slice_get, IfSome}
use Rattle.std.specs.List.{flat_map}
use Rattle.std.proofs.Common.{◌∙◌, ap, append-nil}
use Rattle.std.proofs.lemmas.List.Concat.{flat_map-append}
use Rattle.first_model.specs.CountsList.{pairs_of}
use Rattle.first_model.specs.declared.counts.Mark.{Mark}
use Rattle.first_model.specs.declared.flight_line.Line.{Line}
use Rattle.first_model.specs.declared.flight_line.Line.TheVariants.{Boot, BootCut, Arrived, Met, Waited, Sent, Heard, Took, Served, Got, Nav, Dropped, WatchDid, WatchGot, End, Stuck}
use Rattle.first_model.specs.declared.plan.PlanHead.{PlanHead}
use Rattle.first_model.specs.declared.request.Asked.{Asked}
use Rattle.first_model.specs.declared.request.Client.{Client}
use Rattle.first_model.specs.declared.request.Reply.{Reply}
use Rattle.first_model.specs.declared.watch.Note.{Note}
use Rattle.first_record.specs.Plans.{kind_text, head_text, pairs_text}
use Rattle.first_record.specs.Requests.{client_text, asked_text, reply_text}
use Rattle.first_record.specs.Messages.{IsPrintableSaid, said_text, answer_text}
use Rattle.first_record.specs.Vehicle.{event_text, what_text}
use Rattle.first_record.specs.Watch.{watch_input_text, note_text}

-- the mark is on the mission of these heads
abbrev pub IsOnMission : List PlanHead → Mark → Type 0
IsOnMission heads mark = IfSome (slice_get heads 0) (λ mission. mark.id ≡ mission.id)

-- the line has one reading: its message names plan types or all of them, and the mark of a boot is on the mission in force
abbrev pub IsPrintable : Line → Type 0
IsPrintable (Boot number heads mark) = IsOnMission heads mark
IsPrintable (Sent link said answer) = IsPrintableSaid said
IsPrintable _ = ⊤

-- the heads of the three plans in force, each with a space before it
abbrev pub heads_text : List PlanHead → List ℕ
heads_text (mission ∷ fence ∷ safe ∷ _) =
    codes " mission " ++ head_text mission ++ codes " fence " ++ head_text fence ++ codes " safe " ++ head_text safe
heads_text _ = []

-- how many requests were asked, with a space before it
abbrev pub asks_text : ℕ → List ℕ
asks_text number = codes " asks " ++ decimal number

-- a watcher's note and how many requests it asked
abbrev pub told_text : Note → ℕ → List ℕ
told_text note number = codes " > note " ++ note_text note ++ asks_text number

-- a client at a meeting place: CLIENT, a word, PLACE
abbrev pub at_place_text : Client → List ℕ → ℕ → List ℕ
at_place_text client word place = client_text client ++ word ++ decimal place

-- a reply that is taken, and to what request: got ASKED REPLY
abbrev pub got_text : Asked → Reply → List ℕ
got_text asked reply = codes "got " ++ asked_text asked ++ codes " " ++ reply_text reply

-- the words of a line
abbrev pub words_text : Line → List ℕ
words_text (Boot number heads mark) =
    codes "boot " ++ decimal number ++ heads_text heads ++ codes " at " ++ decimal mark.index ++ pairs_text (pairs_of mark.counts)
words_text (BootCut number) = codes "boot " ++ decimal number ++ codes " cut"
words_text (Arrived client place) = at_place_text client (codes " arrives ") place
words_text (Met client place) = at_place_text client (codes " meets ") place
words_text (Waited client) = client_text client ++ codes " waits"
words_text (Sent link said answer) = codes "link " ++ decimal link ++ codes " " ++ said_text said ++ codes " > " ++ answer_text answer
words_text (Heard link reply answer) =
    codes "link " ++ decimal link ++ codes " hears " ++ reply_text reply ++ codes " > " ++ answer_text answer
words_text (Took client asked) = codes "worker takes " ++ client_text client ++ codes " " ++ asked_text asked
words_text (Served client reply) = codes "worker serves " ++ client_text client ++ codes " " ++ reply_text reply
words_text (Got asked reply) = codes "nav " ++ got_text asked reply
words_text (Nav event entry) = codes "nav " ++ event_text event ++ codes " > " ++ what_text entry.what ++ asks_text entry.asked
words_text (Dropped kind seq) = codes "nav drop " ++ kind_text kind ++ codes " " ++ decimal seq
words_text (WatchDid watch input note asked) =
    codes "watch " ++ decimal watch ++ codes " does " ++ watch_input_text input ++ told_text note asked
words_text (WatchGot watch asked reply note asks) =
    codes "watch " ++ decimal watch ++ codes " " ++ got_text asked reply ++ told_text note asks
words_text End = codes "end"
words_text Stuck = codes "stuck"

-- the line is of who reads plans: of the Navigator or of a watcher
abbrev pub IsOfReader : Line → Type 0
IsOfReader (Got asked reply) = ⊤
IsOfReader (Nav event entry) = ⊤
IsOfReader (Dropped kind seq) = ⊤
IsOfReader (WatchDid watch input note asked) = ⊤
IsOfReader (WatchGot watch asked reply note asks) = ⊤
IsOfReader _ = ⊥

-- the text of a line: its words, and LF
abbrev pub line_text_of : Line → List ℕ
line_text_of line = words_text line ++ codes "\n"

-- the text of a record: the texts of its lines, one after the other
abbrev pub record_text_of : List Line → List ℕ
record_text_of lines = flat_map line_text_of lines

-- the bytes are the text of the line
abbrev pub LineText : Line → List ℕ → Type 0
LineText line bytes = bytes ≡ line_text_of line

-- the bytes are the text of the record
abbrev pub RecordText : List Line → List ℕ → Type 0
RecordText lines bytes = bytes ≡ record_text_of lines

-- the text of two records, one after the other, is the text of the first and then that of the second
pub record_text_of-append : (xs ys : List Line) → record_text_of (xs ++ ys) ≡ record_text_of xs ++ record_text_of ys
record_text_of-append xs ys = flat_map-append line_text_of xs ys

-- a further line adds its text
pub record_text_of-more : (lines : List Line) (line : Line) → record_text_of (lines ++ line ∷ []) ≡ record_text_of lines ++ line_text_of line
record_text_of-more lines line =
    record_text_of-append lines (line ∷ []) ∙ ap (λ text. record_text_of lines ++ text) (append-nil (line_text_of line))
