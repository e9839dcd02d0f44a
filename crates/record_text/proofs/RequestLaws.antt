-- Clients, requests and replies that were printed are read again.
use Rattle.std.proofs.Common.{◌≡◌, ℕ, ◌^◌, ◌<◌, List, ◌++◌, refl, ap, ◌∙◌, append_assoc, arith}
use Rattle.std.specs.Prelude.{decimal, codes}
use Rattle.mission_model.specs.declared.plan.PlanType.{PlanType}
use Rattle.mission_model.specs.declared.request.Asked.{Asked}
use Rattle.mission_model.specs.declared.request.Asked.TheVariants.{Read, Write, Commit, SetMark}
use Rattle.mission_model.specs.declared.request.Client.{Client}
use Rattle.mission_model.specs.declared.request.Client.TheVariants.{Nav, Link, Watch}
use Rattle.mission_model.specs.declared.request.Reply.{Reply}
use Rattle.mission_model.specs.declared.request.Reply.TheVariants.{Item, Stale, Done, DiskFailed, PowerOff, Spent}
use Rattle.record_text.specs.Plans.{kind_text}
use Rattle.record_text.specs.Requests.{client_text, place_in_plan_text, asked_text, reply_text}
use Rattle.record_text.specs.Typed.{IsTypedClient, IsTypedAsked, IsTypedReply}
use Rattle.record_text.specs.Numbers.{EndsNumber}
use Rattle.record_text.specs.RequestReading.{client_at, place_in_plan_at, asked_at, stale_at, reply_at}
use Rattle.record_text.proofs.Numbers.{number_again, number_at-again}
use Rattle.record_text.proofs.PlanLaws.{kind-again, item-again}
use Rattle.record_text.proofs.CountsLaws.{EndsPairs, mark-again}

pub client-again : (client : Client) (rest : List ℕ) → IsTypedClient client → EndsNumber rest → client_at (client_text client ++ rest) ≡ (client, rest)
unfolding client_at
client-again Nav rest fits ends = refl
client-again (Link link) rest fits ends = rw (number_at-again (2 ^ 8) link rest (omega arith) fits ends) refl
client-again (Watch watch) rest fits ends = rw (number_at-again (2 ^ 8) watch rest (omega arith) fits ends) refl

pub place_in_plan-again : (kind : PlanType) (id number : ℕ) (rest : List ℕ) → id < 2 ^ 32 → number < 2 ^ 16 → EndsNumber rest
    → place_in_plan_at (place_in_plan_text kind id number ++ rest) ≡ ((kind, id, number), rest)
unfolding place_in_plan_at
place_in_plan-again kind id number rest id_fits number_fits ends =
    let behind : List ℕ = codes "/" ++ (decimal number ++ rest) in
    let text : place_in_plan_text kind id number ++ rest ≡ kind_text kind ++ (codes " " ++ (decimal id ++ behind)) = simp append_assoc in
    ap place_in_plan_at text
    ∙ rw (kind-again kind (codes " " ++ (decimal id ++ behind)), number_at-again (2 ^ 32) id behind (omega arith) id_fits refl, number_at-again (2 ^ 16) number rest (omega arith) number_fits ends) refl

pub asked-again : (asked : Asked) (rest : List ℕ) → IsTypedAsked asked → EndsPairs rest → asked_at (asked_text asked ++ rest) ≡ (asked, rest)
unfolding asked_at
asked-again (Read kind id seq) rest fits ends = rw (place_in_plan-again kind id seq rest fits.0 fits.1 ends.number) refl
asked-again (Write kind id seq) rest fits ends = rw (place_in_plan-again kind id seq rest fits.0 fits.1 ends.number) refl
asked-again (Commit kind id count) rest fits ends = rw (place_in_plan-again kind id count rest fits.0 fits.1 ends.number) refl
asked-again (SetMark mark) rest fits ends = rw (mark-again mark rest fits ends) refl

pub reply-again : (reply : Reply) (rest : List ℕ) → IsTypedReply reply → EndsNumber rest → reply_at (reply_text reply ++ rest) ≡ (reply, rest)
unfolding reply_at stale_at
reply-again (Item item) rest fits ends = rw (item-again item rest fits) refl
reply-again (Stale id) rest fits ends = rw (number_at-again (2 ^ 32) id rest (omega arith) fits ends) refl
reply-again Done rest fits ends = refl
reply-again DiskFailed rest fits ends = refl
reply-again PowerOff rest fits ends = refl
reply-again (Spent generation) rest fits ends = rw (number_again generation rest fits ends) refl
