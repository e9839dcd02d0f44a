-- The ranges of a line's numbers: a number in a law is any number, and a line's are those of its types.
use Rattle.std.specs.Prelude.{◌≡◌, ℕ, ◌<◌, ◌^◌, ⊤, length, ℤ, FitsSigned}
use Rattle.std.specs.Int.{w32}
use Rattle.std.specs.List.{AllByRecursion}
use Rattle.mission_model.specs.CountsList.{pairs_of}
use Rattle.mission_model.specs.declared.limits.TheConstants.{MAX_JUMPS}
use Rattle.mission_model.specs.declared.counts.Counts.{Counts}
use Rattle.mission_model.specs.declared.counts.Mark.{Mark}
use Rattle.mission_model.specs.declared.flight_line.Line.{Line}
use Rattle.mission_model.specs.declared.flight_line.Line.TheVariants as line
use Rattle.mission_model.specs.declared.message.Answer.{Answer}
use Rattle.mission_model.specs.declared.message.Answer.TheVariants as answer
use Rattle.mission_model.specs.declared.message.Said.{Said}
use Rattle.mission_model.specs.declared.message.Said.TheVariants as said
use Rattle.mission_model.specs.declared.plan.Item.{Item}
use Rattle.mission_model.specs.declared.plan.Param.{Param}
use Rattle.mission_model.specs.declared.plan.Param.TheVariants.{Unset, Milli}
use Rattle.mission_model.specs.declared.plan.PlanHead.{PlanHead}
use Rattle.mission_model.specs.declared.request.Asked.{Asked}
use Rattle.mission_model.specs.declared.request.Asked.TheVariants as asked
use Rattle.mission_model.specs.declared.request.Client.{Client}
use Rattle.mission_model.specs.declared.request.Client.TheVariants as client
use Rattle.mission_model.specs.declared.request.Reply.{Reply}
use Rattle.mission_model.specs.declared.request.Reply.TheVariants as reply
use Rattle.mission_model.specs.declared.vehicle.NavWhat.{NavWhat}
use Rattle.mission_model.specs.declared.vehicle.NavWhat.TheVariants as what
use Rattle.mission_model.specs.declared.vehicle.VehicleLine.{VehicleLine}
use Rattle.mission_model.specs.declared.vehicle.VehicleLine.TheVariants as vehicle
use Rattle.mission_model.specs.declared.watch.Note.{Note}
use Rattle.mission_model.specs.declared.watch.WatchInput.{WatchInput}

-- a number of 8, 16, 32 and 64 bits, and a signed one of 32 bits
abbrev pub IsU8 : ℕ → Type 0
IsU8 n = n < 2 ^ 8

abbrev pub IsU16 : ℕ → Type 0
IsU16 n = n < 2 ^ 16

abbrev pub IsU32 : ℕ → Type 0
IsU32 n = n < 2 ^ 32

abbrev pub IsU64 : ℕ → Type 0
IsU64 n = n < 2 ^ 64

abbrev pub IsI32 : ℤ → Type 0
IsI32 z = FitsSigned w32 z

abbrev pub IsTypedParam : Param → Type 0
IsTypedParam Unset = ⊤
IsTypedParam (Milli thousandths) = IsI32 thousandths

-- three signed numbers
abbrev pub IsTypedPlace : ℤ → ℤ → ℤ → Type 0
IsTypedPlace x y z = IsI32 x × IsI32 y × IsI32 z

abbrev pub IsTypedParams : Item → Type 0
IsTypedParams item = IsTypedParam item.p1 × IsTypedParam item.p2 × IsTypedParam item.p3 × IsTypedParam item.p4

abbrev pub IsTypedItem : Item → Type 0
IsTypedItem item = IsU16 item.frame × IsU16 item.command × IsTypedParams item × IsTypedPlace item.x item.y item.z

abbrev pub IsTypedHead : PlanHead → Type 0
IsTypedHead head = IsU32 head.id × IsU16 head.count

-- a pair of a mark: a seq and a used number
abbrev pub IsTypedPair : ℕ × ℕ → Type 0
IsTypedPair (seq, used) = IsU16 seq × IsU16 used

-- counts have all their cells, and their pairs are of 16 bits
abbrev pub IsTypedCounts : Counts → Type 0
IsTypedCounts counts = (length counts.pairs ≡ MAX_JUMPS) × AllByRecursion IsTypedPair (pairs_of counts)

abbrev pub IsTypedMark : Mark → Type 0
IsTypedMark mark = IsU32 mark.id × IsU16 mark.index × IsTypedCounts mark.counts

abbrev pub IsTypedClient : Client → Type 0
IsTypedClient client.Nav = ⊤
IsTypedClient (client.Link link) = IsU8 link
IsTypedClient (client.Watch watch) = IsU8 watch

abbrev pub IsTypedAsked : Asked → Type 0
IsTypedAsked (asked.Read kind id seq) = IsU32 id × IsU16 seq
IsTypedAsked (asked.Write kind id seq) = IsU32 id × IsU16 seq
IsTypedAsked (asked.Commit kind id count) = IsU32 id × IsU16 count
IsTypedAsked (asked.SetMark mark) = IsTypedMark mark

abbrev pub IsTypedReply : Reply → Type 0
IsTypedReply (reply.Item item) = IsTypedItem item
IsTypedReply (reply.Stale id) = IsU32 id
IsTypedReply (reply.Spent generation) = IsU64 generation
IsTypedReply _ = ⊤

abbrev pub IsTypedSaid : Said → Type 0
IsTypedSaid (said.Count kind count) = IsU16 count
IsTypedSaid (said.Item seq) = IsU16 seq
IsTypedSaid (said.SetCurrent seq) = IsU16 seq
IsTypedSaid _ = ⊤

abbrev pub IsTypedAnswer : Answer → Type 0
IsTypedAnswer (answer.RequestInt seq) = IsU16 seq
IsTypedAnswer (answer.CurrentIs seq) = IsU16 seq
IsTypedAnswer (answer.Writes kind id seq item) = IsU32 id × IsU16 seq × IsTypedItem item
IsTypedAnswer (answer.Commits kind id count) = IsU32 id × IsU16 count
IsTypedAnswer _ = ⊤

abbrev pub IsTypedEvent : VehicleLine → Type 0
IsTypedEvent (vehicle.Position x y) = IsI32 x × IsI32 y
IsTypedEvent _ = ⊤

-- a place in a mission, and the ids of the two plans that are flown
abbrev pub IsTypedAt : ℕ → ℕ → ℕ → Type 0
IsTypedAt seq mission fence = IsU16 seq × IsU32 mission × IsU32 fence

abbrev pub IsTypedWhat : NavWhat → Type 0
IsTypedWhat (what.Leg seq mission fence item) = IsTypedAt seq mission fence × IsTypedItem item
IsTypedWhat (what.Action seq mission fence item) = IsTypedAt seq mission fence × IsTypedItem item
IsTypedWhat (what.Jump seq to used mission fence) = IsTypedAt seq mission fence × IsU16 to × IsU16 used
IsTypedWhat (what.JumpSpent seq mission fence) = IsTypedAt seq mission fence
IsTypedWhat (what.Done mission fence) = IsU32 mission × IsU32 fence
IsTypedWhat (what.Pending kind seq) = IsU16 seq
IsTypedWhat (what.Hold rule seq mission fence) = IsU8 rule × IsTypedAt seq mission fence
IsTypedWhat (what.Next seq) = IsU16 seq
IsTypedWhat (what.ReturnLeg seq mission fence item) = IsTypedAt seq mission fence × IsTypedItem item
IsTypedWhat (what.ReturnSkip seq mission fence) = IsTypedAt seq mission fence
IsTypedWhat (what.ReturnHome home) = IsTypedPlace home.x home.y home.z
IsTypedWhat (what.ReturnSafe seq safe fence item) = IsTypedAt seq safe fence × IsTypedItem item
IsTypedWhat _ = ⊤

abbrev pub IsTypedInput : WatchInput → Type 0
IsTypedInput input = IsU16 input.code × IsI32 input.a × IsI32 input.b

abbrev pub IsTypedNote : Note → Type 0
IsTypedNote note = IsU16 note.code × IsU32 note.a × IsU32 note.b × IsI32 note.x × IsI32 note.y

-- each number of the line is one of its type, a boot names three plans, and counts have all their cells
abbrev pub IsTyped : Line → Type 0
IsTyped (line.Boot number heads mark) = IsU16 number × (length heads ≡ 3) × AllByRecursion IsTypedHead heads × IsTypedMark mark
IsTyped (line.BootCut number) = IsU16 number
IsTyped (line.Arrived client place) = IsTypedClient client × IsU8 place
IsTyped (line.Met client place) = IsTypedClient client × IsU8 place
IsTyped (line.Waited client) = IsTypedClient client
IsTyped (line.Sent link said answer) = IsU8 link × IsTypedSaid said × IsTypedAnswer answer
IsTyped (line.Heard link reply answer) = IsU8 link × IsTypedReply reply × IsTypedAnswer answer
IsTyped (line.Took client asked) = IsTypedClient client × IsTypedAsked asked
IsTyped (line.Served client reply) = IsTypedClient client × IsTypedReply reply
IsTyped (line.Got asked reply) = IsTypedAsked asked × IsTypedReply reply
IsTyped (line.Nav event entry) = IsTypedEvent event × IsTypedWhat entry.what × IsU8 entry.asked
IsTyped (line.Dropped kind seq) = IsU16 seq
IsTyped (line.WatchDid watch input note asked) = IsU8 watch × IsTypedInput input × IsTypedNote note × IsU8 asked
IsTyped (line.WatchGot watch asked reply note asks) = IsU8 watch × IsTypedAsked asked × IsTypedReply reply × IsTypedNote note × IsU8 asks
IsTyped line.End = ⊤
IsTyped line.Stuck = ⊤
