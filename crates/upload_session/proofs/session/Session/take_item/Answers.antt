-- The item that was taken is heard, and the check has accepted it.
use Rattle.std.proofs.Common.{◌≡◌, ℕ, ◌<◌, ◌≤◌, ◌==◌, ◌++◌, [], ◌∷◌, List, true, length, Option, Some, None, Ok, Err, ◌≢◌, false, refl, sym, subst, ap, ◌∙◌, arith, length-append}
use Rattle.std.proofs.lemmas.Bool.Decides.{nat_tests}
use Rattle.mission_model.specs.declared.plan.Item.{Item}
use Rattle.mission_model.specs.declared.plan_check.PlanCheck.{PlanCheck}
use Rattle.mission_model.specs.declared.message.AckCode.{AckCode}
use Rattle.mission_model.specs.declared.message.AckCode.TheVariants.{Accepted, Error}
use Rattle.mission_model.specs.declared.message.Answer.{Answer}
use Rattle.mission_model.specs.declared.message.Answer.TheVariants as answer
use Rattle.mission_model.specs.declared.request.Client.TheVariants.{Link}
use Rattle.mission_model.specs.declared.request.Request.TheVariants as request
use Rattle.mission_model.specs.ItemCode.{answer_of}
use Rattle.mission_model.specs.PlanCode.{PlanCode}
use Rattle.mission_model.specs.PlanCheck.{Checked}
use Rattle.request_board.specs.BoardState.{BoardState}
use Rattle.request_board.specs.BoardCalls.{asked}
use Rattle.transfer_lock.specs.TransferState.{TransferState}
use Rattle.upload_session.specs.declared.session.Draft.{Draft}
use Rattle.upload_session.specs.declared.session.Stage.{Stage}
use Rattle.upload_session.specs.declared.session.Stage.TheVariants as stage
use Rattle.upload_session.specs.UploadState.{Receiving}
use Rattle.upload_session.specs.Refusals.{is_refusal, answer_of-refuses, is_refusal-differs}
use Rattle.upload_session.specs.SessionLaw.{item_law}
use Rattle.upload_session.specs.SessionState.{SessionState, Heard, DraftHeard, Obeys, link_of, upload_of}
use Rattle.upload_session.proofs.session.Session.take_item.Goals as goal

no_code : (code : Option AckCode) → answer_of code ≡ Ok tt → code ≡ None
no_code None h = refl
no_code (Some code) h = absurd cc

same_seq : (a b : ℕ) → a ≡ b → (a == b) ≡ true
same_seq a b h = grind (arith, nat_tests)

-- the item is accepted: it is written, and heard
accepted : (number seq : ℕ) (item : Item) (draft : Draft) (check : PlanCheck) (heard : List Item) (t : TransferState) (b : BoardState) → DraftHeard draft heard → length heard < draft.count → seq ≡ length heard → PlanCode draft.kind draft.count heard item ≡ None → Checked check draft.kind draft.count (heard ++ item ∷ []) → Obeys (item_law number (Receiving (upload_of draft heard)) seq item t b) (answer.Writes draft.kind draft.id seq item) (record { link = number; stage = stage.Writing (record draft { check = check }) }) t (asked b (Link number) (request.Write draft.kind draft.id seq item))
accepted number seq item draft check heard t b h below is none checked =
    let flag : (seq == length heard) ≡ true = same_seq seq (length heard) is in
    let within : length (heard ++ item ∷ []) ≤ draft.count = omega (arith, length-append heard (item ∷ []), below) in
    rw (flag, none) (record {
      answer = refl;
      link = refl;
      heard = record { checked = checked; count = h.count; within = within };
      transfer = refl;
      board = refl;
    })

-- the same, from the session before
accepted_from : (old : SessionState) (number seq : ℕ) (item : Item) (draft : Draft) (check : PlanCheck) (heard : List Item) (t : TransferState) (b b' : BoardState) (given : Answer) → old ≡ record { link = number; stage = stage.Receiving draft } → DraftHeard draft heard → length heard < draft.count → seq ≡ length heard → PlanCode draft.kind draft.count heard item ≡ None → Checked check draft.kind draft.count (heard ++ item ∷ []) → given ≡ answer.Writes draft.kind draft.id seq item → b' ≡ asked b (Link number) (request.Write draft.kind draft.id seq item) → Obeys (item_law old.link (link_of old.stage heard) seq item t b) given (record { link = number; stage = stage.Writing (record draft { check = check }) }) t b'
accepted_from old number seq item draft check heard t b b' given was h below is none checked said put =
    subst (λ (s : SessionState). Obeys (item_law s.link (link_of s.stage heard) seq item t b) given (record { link = number; stage = stage.Writing (record draft { check = check }) }) t b') (sym was)
    (subst (λ (a : Answer). Obeys (item_law number (Receiving (upload_of draft heard)) seq item t b) a (record { link = number; stage = stage.Writing (record draft { check = check }) }) t b') (sym said)
    (subst (λ (x : BoardState). Obeys (item_law number (Receiving (upload_of draft heard)) seq item t b) (answer.Writes draft.kind draft.id seq item) (record { link = number; stage = stage.Writing (record draft { check = check }) }) t x) (sym put)
    (accepted number seq item draft check heard t b h below is none checked)))

-- what the session kept of the upload, once its stage is known
draft_of : (s : SessionState) (number : ℕ) (draft : Draft) (heard : List Item) → s ≡ record { link = number; stage = stage.Receiving draft } → Heard s.stage heard → DraftHeard draft heard × (length heard < draft.count)
draft_of s number draft heard was h = subst (λ (s : SessionState). Heard s.stage heard) was h

pub returns-clause-obeys : goal.returns-clause-obeys
returns-clause-obeys c = λ heard h.
    let draft : Draft = c.in-Receiving.draft in
    let was : c.args.self.now ≡ record { link = c.self.inside.link; stage = stage.Receiving draft } = sym c.self.view_is ∙ ap (λ (s : Stage). record { link = c.self.inside.link; stage = s }) c.in-Receiving.is in
    let fits = draft_of c.args.self.now c.self.inside.link draft heard was h in
    let seq : c.args.seq ≡ length heard = c.if-seq-expected.false ∙ c.taken-expected.ensures draft.kind draft.count heard fits.0.checked in
    accepted_from c.args.self.now c.self.inside.link c.args.seq c.args.item.now draft c.next.new.self heard c.args.transfer.now c.args.board.now c.write.new.board c.write.result was fits.0 fits.1 seq
    (no_code _ (sym (c.in_default-next.ensures.code draft.kind draft.count heard fits.0.checked)))
    (c.in_default-next.ensures.ok draft.kind draft.count heard fits.0.checked)
    c.write.ensures.answer
    c.write.ensures.asked

-- the code of an item that was refused is none of the two that do not refuse
refused : (s : SessionState) (number : ℕ) (draft : Draft) (item : Item) (heard : List Item) (code other : AckCode) → s ≡ record { link = number; stage = stage.Receiving draft } → Heard s.stage heard → (DraftHeard draft heard → Err code ≡ answer_of (PlanCode draft.kind draft.count heard item)) → is_refusal other ≡ false → code ≢ other
refused s number draft item heard code other was h said k =
    is_refusal-differs code other (answer_of-refuses draft.kind draft.count heard item code (said (draft_of s number draft heard was h).0)) k

pub returns-in-Err-clause-accepted : goal.returns-in-Err-clause-accepted
returns-in-Err-clause-accepted c = λ heard h same.
    let was : c.args.self.now ≡ record { link = c.self.inside.link; stage = stage.Receiving c.in-Receiving.draft } = sym c.self.view_is ∙ ap (λ (s : Stage). record { link = c.self.inside.link; stage = s }) c.in-Receiving.is in
    let code : c.in-Err.code ≡ Accepted = cc in
    refused c.args.self.now c.self.inside.link c.in-Receiving.draft c.args.item.now heard c.in-Err.code Accepted was h (λ fits. c.in-Err.ensures.code c.in-Receiving.draft.kind c.in-Receiving.draft.count heard fits.checked) refl code

pub returns-in-Err-clause-no_error : goal.returns-in-Err-clause-no_error
returns-in-Err-clause-no_error c = λ heard h same.
    let was : c.args.self.now ≡ record { link = c.self.inside.link; stage = stage.Receiving c.in-Receiving.draft } = sym c.self.view_is ∙ ap (λ (s : Stage). record { link = c.self.inside.link; stage = s }) c.in-Receiving.is in
    let code : c.in-Err.code ≡ Error = cc in
    refused c.args.self.now c.self.inside.link c.in-Receiving.draft c.args.item.now heard c.in-Err.code Error was h (λ fits. c.in-Err.ensures.code c.in-Receiving.draft.kind c.in-Receiving.draft.count heard fits.checked) refl code
