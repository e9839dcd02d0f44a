-- What a reader finds at the front of bytes of a client, a request or a reply, and the bytes behind it.
use Rattle.std.specs.Prelude.{ℕ, ◌^◌, ◌==◌, if◌then◌else◌, List, drop}
use Rattle.mission_model.specs.declared.plan.PlanType.{PlanType}
use Rattle.mission_model.specs.declared.request.Asked.{Asked}
use Rattle.mission_model.specs.declared.request.Asked.TheVariants.{Read, Write, Commit, SetMark}
use Rattle.mission_model.specs.declared.request.Client.{Client}
use Rattle.mission_model.specs.declared.request.Client.TheVariants.{Nav, Link, Watch}
use Rattle.mission_model.specs.declared.request.Reply.{Reply}
use Rattle.mission_model.specs.declared.request.Reply.TheVariants.{Item, Stale, Done, DiskFailed, PowerOff, Spent}
use Rattle.record_text.specs.Numbers.{byte_at, number_from, number_at}
use Rattle.record_text.specs.PlanReading.{kind_at, item_at}
use Rattle.record_text.specs.CountsReading.{mark_at}

-- a client by its first letter
unfoldable pub client_at : List ℕ → Client × List ℕ
client_at bytes =
    if byte_at bytes 0 == 110
    then (Nav, drop 3 bytes)
    else (if byte_at bytes 0 == 108
    then (let link = number_at (2 ^ 8) (drop 5 bytes) in (Link link.0, link.1))
    else (let watch = number_at (2 ^ 8) (drop 6 bytes) in (Watch watch.0, watch.1)))

-- KIND ID/NUMBER
unfoldable pub place_in_plan_at : List ℕ → (PlanType × ℕ × ℕ) × List ℕ
place_in_plan_at bytes =
    let kind = kind_at bytes in
    let id = number_at (2 ^ 32) (drop 1 kind.1) in
    let number = number_at (2 ^ 16) (drop 1 id.1) in
    ((kind.0, id.0, number.0), number.1)

-- a request by its first letter
unfoldable pub asked_at : List ℕ → Asked × List ℕ
asked_at bytes =
    if byte_at bytes 0 == 114
    then (let place = place_in_plan_at (drop 5 bytes) in (Read place.0.0 place.0.1 place.0.2, place.1))
    else (if byte_at bytes 0 == 119
    then (let place = place_in_plan_at (drop 6 bytes) in (Write place.0.0 place.0.1 place.0.2, place.1))
    else (if byte_at bytes 0 == 99
    then (let place = place_in_plan_at (drop 7 bytes) in (Commit place.0.0 place.0.1 place.0.2, place.1))
    else (let mark = mark_at (drop 5 bytes) in (SetMark mark.0, mark.1))))

-- `stale ID` or `spent GENERATION` by the second letter
unfoldable pub stale_at : List ℕ → Reply × List ℕ
stale_at bytes =
    if byte_at bytes 1 == 116
    then (let id = number_at (2 ^ 32) (drop 6 bytes) in (Stale id.0, id.1))
    else (let generation = number_from 0 (drop 6 bytes) in (Spent generation.0, generation.1))

-- a reply by its first letter
unfoldable pub reply_at : List ℕ → Reply × List ℕ
reply_at bytes =
    if byte_at bytes 0 == 105
    then (let item = item_at (drop 5 bytes) in (Item item.0, item.1))
    else (if byte_at bytes 0 == 115
    then stale_at bytes
    else (if byte_at bytes 0 == 100
    then (Done, drop 4 bytes)
    else (if byte_at bytes 0 == 102 then (DiskFailed, drop 6 bytes) else (PowerOff, drop 3 bytes))))
