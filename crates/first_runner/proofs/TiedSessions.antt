-- The drafts of a session: what a list's front and the store's drafts are after one more item.
use Rattle.std.proofs.Common.{◌≡◌, inl, inr, ℕ, ◌+◌, List, [], ◌∷◌, ◌++◌, length, take, Some, sym, ap, ◌∙◌, subst, arith, zero, suc, add-one}
use Rattle.std.specs.Prelude.{slice_get}
use Rattle.std.specs.List.{All}
use Rattle.std.proofs.lemmas.Bool.{cases_eq}
use Rattle.std.proofs.lemmas.List.Elements.{All-head}
use Rattle.first_model.specs.declared.plan.Item.{Item}
use Rattle.first_model.specs.declared.plan.PlanType.TheVariants.{Mission, Fence, Safe}
use Rattle.first_model.specs.declared.schedule.InputLine.{InputLine}
use Rattle.first_model.specs.declared.schedule.InputLine.TheVariants as input
use Rattle.first_model.specs.PlainMission.{IsPlainMission}
use Rattle.first_core.specs.LinkState.{IsForLink, Uploading, item_at}
use Rattle.first_store.specs.StoreState.{Drafts, put, draft_at}
use Rattle.first_store.specs.DraftLaws.{draft_at-put, draft_at-put_other}
use Rattle.first_runner.specs.Tied.{AreWritten, upload_of}

take_suc : (xs : List Item) (k : ℕ) (x : Item) → slice_get xs k ≡ Some x → take (suc k) xs ≡ take k xs ++ x ∷ []
take_suc [] k x h = cc
take_suc (y ∷ xs) zero x h = ap (λ (z : Item). z ∷ []) (let e : y ≡ x = cc in e)
take_suc (y ∷ xs) (suc k) x h = ap (λ zs. y ∷ zs) (take_suc xs k x h)

-- one more item of a front
pub take_next : (xs : List Item) (k : ℕ) (x : Item) → slice_get xs k ≡ Some x → take (k + 1) xs ≡ take k xs ++ x ∷ []
take_next xs k x h = rw add-one (take_suc xs k x h)

-- nothing stands below the first seq
pub none_written : (drafts : Drafts) (id : ℕ) (items : List Item) → AreWritten drafts id 0 items
none_written drafts id items k below = absurd (omega (arith, below))

-- after a write the store's drafts have its item, and what was below it
pub written_next : (drafts : Drafts) (id seq : ℕ) (item : Item) (items : List Item) → AreWritten drafts id seq items → slice_get items seq ≡ Some item → let new = put drafts seq (Some (record { id = id; item = item })) in AreWritten new id seq items × AreWritten new id (seq + 1) items
written_next drafts id seq item items before at =
    let new : Drafts = put drafts seq (Some (record { id = id; item = item })) in
    let kept : AreWritten new id seq items = λ k below. draft_at-put_other drafts id seq k item (λ e. absurd (omega (arith, e, below))) ∙ before k below in
    let here : draft_at new id seq ≡ slice_get items seq = draft_at-put drafts id seq item ∙ sym at in (
      kept,
      λ k below. elim (cases_eq k seq) [
        | inl same ↦ subst (λ (i : ℕ). draft_at new id i ≡ slice_get items i) (sym same) here
        | inr apart ↦ kept k (omega (arith, below, apart))
      ],
    )

-- the upload that is the current input is a plain mission of so many items
pub upload_plain : (inputs : List InputLine) (count : ℕ) → Uploading inputs count → All IsForLink inputs → (count ≡ length (upload_of inputs)) × IsPlainMission (upload_of inputs)
upload_plain [] count uploading fit = absurd uploading
upload_plain (input.Upload Mission items ∷ rest) count uploading fit = (uploading, All-head IsForLink (input.Upload Mission items) rest fit)
upload_plain (input.Upload Fence items ∷ rest) count uploading fit = absurd uploading
upload_plain (input.Upload Safe items ∷ rest) count uploading fit = absurd uploading
upload_plain (input.Message message ∷ rest) count uploading fit = absurd uploading
upload_plain (input.Wait ∷ rest) count uploading fit = absurd uploading
upload_plain (input.Meet place total ∷ rest) count uploading fit = absurd uploading
upload_plain (input.Vehicle event ∷ rest) count uploading fit = absurd uploading
upload_plain (input.Watch watch ∷ rest) count uploading fit = absurd uploading

-- its item at a seq
pub upload_item : (inputs : List InputLine) (seq : ℕ) (item : Item) → item_at inputs seq ≡ Some item → slice_get (upload_of inputs) seq ≡ Some item
upload_item [] seq item at = cc
upload_item (input.Upload kind items ∷ rest) seq item at = at
upload_item (other ∷ rest) seq item at = cc
