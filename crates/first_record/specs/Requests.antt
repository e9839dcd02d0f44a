-- The texts of requests to the worker and of its replies.
use Rattle.std.specs.Prelude.{ℕ, List, ◌++◌, codes, decimal}
use Rattle.first_model.specs.CountsList.{pairs_of}
use Rattle.first_model.specs.declared.counts.Mark.{Mark}
use Rattle.first_model.specs.declared.plan.PlanType.{PlanType}
use Rattle.first_model.specs.declared.request.Asked.{Asked}
use Rattle.first_model.specs.declared.request.Asked.TheVariants.{Read, Write, Commit, SetMark}
use Rattle.first_model.specs.declared.request.Client.{Client}
use Rattle.first_model.specs.declared.request.Client.TheVariants.{Nav, Link, Watch}
use Rattle.first_model.specs.declared.request.Reply.{Reply}
use Rattle.first_model.specs.declared.request.Reply.TheVariants.{Item, Stale, Done, DiskFailed, PowerOff, Spent}
use Rattle.first_record.specs.Plans.{kind_text, item_text, pairs_text}

-- who asks: nav, link L or watch W
abbrev pub client_text : Client → List ℕ
client_text Nav = codes "nav"
client_text (Link link) = codes "link " ++ decimal link
client_text (Watch watch) = codes "watch " ++ decimal watch

-- a place in a plan, or its number of items: KIND ID/NUMBER
abbrev pub place_in_plan_text : PlanType → ℕ → ℕ → List ℕ
place_in_plan_text kind id number = kind_text kind ++ codes " " ++ decimal id ++ codes "/" ++ decimal number

-- a mark: ID/INDEX and its pairs
abbrev pub mark_text : Mark → List ℕ
mark_text mark = decimal mark.id ++ codes "/" ++ decimal mark.index ++ pairs_text (pairs_of mark.counts)

-- a request
abbrev pub asked_text : Asked → List ℕ
asked_text (Read kind id seq) = codes "read " ++ place_in_plan_text kind id seq
asked_text (Write kind id seq) = codes "write " ++ place_in_plan_text kind id seq
asked_text (Commit kind id count) = codes "commit " ++ place_in_plan_text kind id count
asked_text (SetMark mark) = codes "mark " ++ mark_text mark

-- a reply
abbrev pub reply_text : Reply → List ℕ
reply_text (Item item) = codes "item " ++ item_text item
reply_text (Stale id) = codes "stale " ++ decimal id
reply_text Done = codes "done"
reply_text DiskFailed = codes "failed"
reply_text PowerOff = codes "off"
reply_text (Spent generation) = codes "spent " ++ decimal generation
