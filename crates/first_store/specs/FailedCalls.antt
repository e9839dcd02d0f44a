-- What a store is left in doubt about, and what a write leaves that failed.
use Rattle.std.specs.Prelude.{◌≡◌, ◌≢◌, ℕ, Some, None}
use Rattle.first_model.specs.declared.limits.TheConstants.{LAST_GENERATION}
use Rattle.first_model.specs.declared.request.Request.{Request}
use Rattle.first_model.specs.declared.request.Request.TheVariants as request
use Rattle.first_model.specs.PlainMark.{plain_mark}
use Rattle.first_store.specs.StoreState.{Drafts, Change, Commit, SetMark, StoreState, of_kind, draft_at, drafted}
use Rattle.first_store.specs.Serve.{Fate, Well, InSettling, InRequest, InOpening}

-- The request is to make this change: a commit to put its drafted plan in force, a mark of the mission in force to be the
-- mark. At the last generation of its cell neither makes one.
abbrev pub IsToMake : StoreState → Request → Change → Type 0
IsToMake st (request.Read kind id seq) change = ⊥
IsToMake st (request.Write kind id seq item) change = ⊥
IsToMake st (request.Commit kind id count) change = ((of_kind st kind).generation ≢ LAST_GENERATION) × (change ≡ Commit kind (record { id = id; items = drafted (of_kind st kind).drafts id count }))
IsToMake st (request.SetMark mark) change = (mark.id ≡ st.mission.plan.id) × (st.mark_generation ≢ LAST_GENERATION) × (change ≡ SetMark (plain_mark mark))

-- after the request this change is in doubt: the doubt before, where it could not be settled; or the request's own, where
-- its gate did not open as asked
abbrev pub IsDoubtAfter : Fate → StoreState → Request → Change → Type 0
IsDoubtAfter Well st asked change = ⊥
IsDoubtAfter (InSettling fault) st asked change = st.doubt ≡ Some change
IsDoubtAfter (InRequest fault) st asked change = ⊥
IsDoubtAfter (InOpening fault) st asked change = IsToMake st asked change

-- what was written at this seq counts no more for any plan, and what was written at another counts as before
pub record IsUnwritten (drafts drafts' : Drafts) (seq : ℕ) : Type 0 where
  pub here : (id : ℕ) → draft_at drafts' id seq ≡ None
  pub others : (id other : ℕ) → other ≢ seq → draft_at drafts' id other ≡ draft_at drafts id other
