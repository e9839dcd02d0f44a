-- A download keeps the laws of watchers: it reads items of the published plan alone, and comes to an end.
use Rattle.std.specs.Prelude.{◌≡◌, ◌+◌, ◌<◌, ◌==◌, Bool, true, false, List, Option, Some, None, refl, if◌then◌else◌}
use Rattle.std.proofs.Common.{arith, sym, ap, subst}
use Rattle.std.proofs.lemmas.Bool.Decides.{nat_tests}
use Rattle.mission_model.specs.declared.plan.PlanHead.{PlanHead}
use Rattle.mission_model.specs.declared.plan.PlanType.{PlanType}
use Rattle.mission_model.specs.declared.request.Asked.{Asked}
use Rattle.mission_model.specs.declared.request.Reply.{Reply}
use Rattle.mission_model.specs.declared.request.Reply.TheVariants as reply
use Rattle.mission_model.specs.declared.watch.WatchInput.{WatchInput}
use Rattle.mission_model.specs.declared.watch.WatchOut.{WatchOut}
use Rattle.mission_model.specs.PlanTypes.{head_of}
use Rattle.request_board.specs.Watching.{Awaited, Answers, HeadsFit, IsTold}
use Rattle.plan_download.specs.declared.download.Download.{Download}
use Rattle.plan_download.specs.declared.note.TheConstants.{BEGINS, GIVES, WHOLE}
use Rattle.plan_download.specs.Downloads.{kind_named, says, begun_as, works, given, replaced, tells, waits, left}

begun-answers : (heads : List PlanHead) (kind : PlanType) (b : Bool) → ((head_of heads kind).count == 0) ≡ b → Answers heads (if b then says WHOLE (head_of heads kind).id 0 None else says BEGINS (head_of heads kind).id (head_of heads kind).count (Some (kind, (head_of heads kind).id, 0))) (record { kind = kind; head = head_of heads kind; seq = 0 })
begun-answers heads kind true is = record { read = tt; more = refl; next = tt }
begun-answers heads kind false is = record { read = (refl, grind (arith, nat_tests, is)); more = refl; next = refl }

begun_as-answers : (w : Download) (named : Option PlanType) (heads : List PlanHead) → Answers heads (begun_as w named heads).0 (waits (begun_as w named heads).1)
begun_as-answers w (Some kind) heads = begun-answers heads kind ((head_of heads kind).count == 0) refl
begun_as-answers w None heads = record { read = tt; more = refl; next = tt }

-- what an input begins reads item 0 of the published plan, or nothing
pub works-answers : (w : Download) (input : WatchInput) (heads : List PlanHead) → HeadsFit heads → Answers heads (works w input heads).0 (waits (works w input heads).1)
works-answers w input heads fit = begun_as-answers w (kind_named input.a) heads

-- `given`, by whether the item is the last one
abbrev given_by : Download → Bool → WatchOut × Download
given_by w b = if b
    then (says WHOLE w.head.id w.head.count None, w)
    else (says GIVES w.head.id w.seq (Some (w.kind, w.head.id, w.seq + 1)), record w { seq = w.seq + 1 })

-- what holds of an answer to a reply: it is a watcher's, and fewer items are left where the input goes on
record Leads (heads : List PlanHead) (w : Download) (out : WatchOut × Download) : Type 0 where
  answers : Answers heads out.0 (waits out.1)
  fewer : out.0.more ≡ true → left out.1 < left w

given-leads : (w : Download) (heads : List PlanHead) (b : Bool) → ((w.seq + 1) == w.head.count) ≡ b → w.seq < w.head.count → head_of heads w.kind ≡ w.head → Leads heads w (given_by w b)
given-leads w heads true is within same = record { answers = record { read = tt; more = refl; next = tt }; fewer = λ more. absurd cc }
given-leads w heads false is within same = record {
  answers = record {
    read = (ap (λ (h : PlanHead). h.id) (sym same), subst (λ (h : PlanHead). w.seq + 1 < h.count) (sym same) (grind (arith, nat_tests, is, within)));
    more = refl;
    next = ap (λ (h : PlanHead). (let a : Awaited = record { kind = w.kind; head = h; seq = w.seq + 1 } in a)) (sym same);
  };
  fewer = λ more. omega (arith, within);
}

item-leads : (w : Download) (heads : List PlanHead) (b : Bool) → ((head_of heads w.kind).id == w.head.id) ≡ b → w.seq < w.head.count → ((head_of heads w.kind).id ≡ w.head.id → head_of heads w.kind ≡ w.head) → Leads heads w (if b then given w else replaced w (head_of heads w.kind).id)
item-leads w heads true is within same = given-leads w heads ((w.seq + 1) == w.head.count) refl within (same (grind (arith, nat_tests, is)))
item-leads w heads false is within same = record { answers = record { read = tt; more = refl; next = tt }; fewer = λ more. absurd cc }

tells-leads : (w : Download) (asked : Asked) (given : Reply) (heads : List PlanHead) → IsTold (waits w) asked given heads → Leads heads w (tells w asked given heads)
tells-leads w asked (reply.Item item) heads told = item-leads w heads ((head_of heads w.kind).id == w.head.id) refl told.within told.same_head
tells-leads w asked reply.DiskFailed heads told = record { answers = record { read = tt; more = refl; next = tt }; fewer = λ more. absurd cc }
tells-leads w asked (reply.Stale now) heads told = record { answers = record { read = tt; more = refl; next = tt }; fewer = λ more. absurd cc }
tells-leads w asked reply.Done heads told = record { answers = record { read = tt; more = refl; next = tt }; fewer = λ more. absurd cc }
tells-leads w asked reply.PowerOff heads told = record { answers = record { read = tt; more = refl; next = tt }; fewer = λ more. absurd cc }
tells-leads w asked (reply.Spent generation) heads told = record { answers = record { read = tt; more = refl; next = tt }; fewer = λ more. absurd cc }

-- what a reply brings reads the next item of the plan, which is published still, or nothing
pub tells-answers : (w : Download) (asked : Asked) (given : Reply) (heads : List PlanHead) → HeadsFit heads → IsTold (waits w) asked given heads → Answers heads (tells w asked given heads).0 (waits (tells w asked given heads).1)
tells-answers w asked given heads fit told = (tells-leads w asked given heads told).answers

-- a download that goes on has fewer items left
pub left-falls : (w : Download) (asked : Asked) (given : Reply) (heads : List PlanHead) → HeadsFit heads → IsTold (waits w) asked given heads → (tells w asked given heads).0.more ≡ true → left (tells w asked given heads).1 < left w
left-falls w asked given heads fit told = (tells-leads w asked given heads told).fewer
