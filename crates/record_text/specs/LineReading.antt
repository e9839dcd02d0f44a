-- What a reader finds at the front of bytes of a line.
use Rattle.std.specs.Prelude.{ℕ, ◌^◌, Bool, ◌&&◌, ◌||◌, ◌==◌, if◌then◌else◌, List, [], ◌∷◌, drop}
use Rattle.mission_model.specs.declared.flight_line.Line.{Line}
use Rattle.mission_model.specs.declared.flight_line.Line.TheVariants.{Boot, BootCut, Arrived, Met, Waited, Sent, Heard, Took, Served, Got, Nav, Dropped, WatchDid, WatchGot, End, Stuck}
use Rattle.mission_model.specs.declared.request.Client.{Client}
use Rattle.mission_model.specs.declared.request.Client.TheVariants as client
use Rattle.mission_model.specs.declared.watch.Note.{Note}
use Rattle.record_text.specs.Numbers.{byte_at, number_at}
use Rattle.record_text.specs.PlanReading.{kind_at, head_at}
use Rattle.record_text.specs.CountsReading.{index_at}
use Rattle.record_text.specs.RequestReading.{client_at, asked_at, reply_at}
use Rattle.record_text.specs.MessageReading.{said_at, answer_at}
use Rattle.record_text.specs.VehicleReading.{event_at, what_at, watch_input_at, note_at}

-- ` mission ID/COUNT fence ID/COUNT safe ID/COUNT at INDEX PAIRS` of a boot
unfoldable pub up_at : ℕ → List ℕ → Line
up_at number bytes =
    let mission = head_at (drop 9 bytes) in
    let fence = head_at (drop 7 mission.1) in
    let safe = head_at (drop 6 fence.1) in
    let mark = index_at mission.0.id (drop 4 safe.1) in
    Boot number (mission.0 ∷ fence.0 ∷ safe.0 ∷ []) mark.0

-- N, and ` cut` or the heads and the mark, by the letter behind the space
unfoldable pub boot_at : List ℕ → Line
boot_at bytes =
    let number = number_at (2 ^ 16) bytes in
    if byte_at number.1 1 == 99 then BootCut number.0 else up_at number.0 number.1

-- a client's step at a meeting place, or its wait, by the first letter
unfoldable pub meeting_at : Client → List ℕ → Line
meeting_at client bytes =
    if byte_at bytes 0 == 97
    then (let place = number_at (2 ^ 8) (drop 8 bytes) in Arrived client place.0)
    else (if byte_at bytes 0 == 109 then (let place = number_at (2 ^ 8) (drop 6 bytes) in Met client place.0) else Waited client)

-- the letter begins a client's step at a meeting place, or its wait
abbrev pub is_meeting : ℕ → Bool
is_meeting byte = byte == 97 || byte == 109 || byte == 119

-- SAID > ANSWER
unfoldable pub sent_at : ℕ → List ℕ → Line
sent_at link bytes =
    let said = said_at bytes in
    let answer = answer_at (drop 3 said.1) in
    Sent link said.0 answer.0

-- hears REPLY > ANSWER
unfoldable pub heard_at : ℕ → List ℕ → Line
heard_at link bytes =
    let reply = reply_at (drop 6 bytes) in
    let answer = answer_at (drop 3 reply.1) in
    Heard link reply.0 answer.0

-- L, and what the link does, by the first letter
unfoldable pub link_at : List ℕ → Line
link_at bytes =
    let link = number_at (2 ^ 8) bytes in
    let rest = drop 1 link.1 in
    if byte_at rest 0 == 104
    then heard_at link.0 rest
    else (if is_meeting (byte_at rest 0) then meeting_at (client.Link link.0) rest else sent_at link.0 rest)

-- ` > note CODE A B X Y asks N`
unfoldable pub told_at : List ℕ → Note × ℕ
told_at bytes =
    let note = note_at (drop 8 bytes) in
    let asks = number_at (2 ^ 8) (drop 6 note.1) in
    (note.0, asks.0)

-- does CODE A B, and what is told
unfoldable pub did_at : ℕ → List ℕ → Line
did_at watch bytes =
    let input = watch_input_at (drop 5 bytes) in
    let told = told_at input.1 in
    WatchDid watch input.0 told.0 told.1

-- got ASKED REPLY, and what is told
unfoldable pub watch_got_at : ℕ → List ℕ → Line
watch_got_at watch bytes =
    let asked = asked_at (drop 4 bytes) in
    let reply = reply_at (drop 1 asked.1) in
    let told = told_at reply.1 in
    WatchGot watch asked.0 reply.0 told.0 told.1

-- W, and what the watcher does, by the first letter
unfoldable pub watch_at : List ℕ → Line
watch_at bytes =
    let watch = number_at (2 ^ 8) bytes in
    let rest = drop 1 watch.1 in
    if is_meeting (byte_at rest 0)
    then meeting_at (client.Watch watch.0) rest
    else (if byte_at rest 0 == 100 then did_at watch.0 rest else watch_got_at watch.0 rest)

-- takes CLIENT ASKED, or serves CLIENT REPLY, by the first letter
unfoldable pub worker_at : List ℕ → Line
worker_at bytes =
    if byte_at bytes 0 == 116
    then (let client = client_at (drop 6 bytes) in let asked = asked_at (drop 1 client.1) in Took client.0 asked.0)
    else (let client = client_at (drop 7 bytes) in let reply = reply_at (drop 1 client.1) in Served client.0 reply.0)

-- INPUT > WHAT asks N
unfoldable pub entry_at : List ℕ → Line
entry_at bytes =
    let event = event_at bytes in
    let what = what_at (drop 3 event.1) in
    let asked = number_at (2 ^ 8) (drop 6 what.1) in
    Nav event.0 (record { what = what.0; asked = asked.0 })

-- got ASKED REPLY
unfoldable pub got_at : List ℕ → Line
got_at bytes =
    let asked = asked_at (drop 4 bytes) in
    let reply = reply_at (drop 1 asked.1) in
    Got asked.0 reply.0

-- drop KIND SEQ
unfoldable pub drop_at : List ℕ → Line
drop_at bytes =
    let kind = kind_at (drop 5 bytes) in
    let seq = number_at (2 ^ 16) (drop 1 kind.1) in
    Dropped kind.0 seq.0

-- the Navigator's step at a meeting place, or its wait
abbrev pub is_nav_meeting : List ℕ → Bool
is_nav_meeting bytes = byte_at bytes 0 == 97 || byte_at bytes 0 == 119 || byte_at bytes 0 == 109 && byte_at bytes 1 == 101

-- a reply that the Navigator takes
abbrev pub is_nav_got : List ℕ → Bool
is_nav_got bytes = byte_at bytes 0 == 103 && byte_at bytes 2 == 116

-- what the Navigator does, by the first letters
unfoldable pub nav_at : List ℕ → Line
nav_at bytes =
    if is_nav_meeting bytes
    then meeting_at client.Nav bytes
    else (if byte_at bytes 0 == 100 then drop_at bytes else (if is_nav_got bytes then got_at bytes else entry_at bytes))

-- a line by its first letters
unfoldable pub line_at : List ℕ → Line
line_at bytes =
    if byte_at bytes 0 == 98
    then boot_at (drop 5 bytes)
    else (if byte_at bytes 0 == 110
    then nav_at (drop 4 bytes)
    else (if byte_at bytes 0 == 108
    then link_at (drop 5 bytes)
    else (if byte_at bytes 0 == 119
    then (if byte_at bytes 1 == 111 then worker_at (drop 7 bytes) else watch_at (drop 6 bytes))
    else (if byte_at bytes 0 == 101 then End else Stuck))))
