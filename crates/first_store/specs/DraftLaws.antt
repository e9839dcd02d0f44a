-- The items of a draft, from what stands at each seq.
use Rattle.std.proofs.Common.{◌≡◌, ◌≢◌, inl, inr, ℕ, zero, suc, ◌<◌, ◌≤◌, List, [], ◌∷◌, ◌++◌, length, take, get_or, Option, Some, None, refl, sym, ap, ◌∙◌, subst, arith}
use Rattle.std.specs.Prelude.{slice_get, IsSome, if◌then◌else◌}
use Rattle.std.proofs.lemmas.Bool.{eq-eqb, ne_eqb, cases_lt}
use Rattle.std.proofs.Math.ListN.{get_or-append}
use Rattle.std.proofs.Math.Seq.{get_or-append_seam}
use Rattle.std.proofs.lemmas.List.{length_push, take_all}
use Rattle.std.proofs.lemmas.Option.{slice_get-get_or}
use Rattle.first_model.specs.declared.plan.Item.{Item}
use Rattle.first_store.specs.StoreState.{Drafts, IsWhole, put, item_for, draft_at, drafted, if_any}

-- what is there
there : (found : Option Item) → IsSome found → (item : Item) × (found ≡ Some item)
there None some = absurd cc
there (Some item) some = (item, refl)

-- an item stands below a list's end
found : (items : List Item) (seq : ℕ) → seq < length items → IsSome (slice_get items seq)
found [] seq below = absurd (omega (arith, below))
found (item ∷ items) zero below = cc
found (item ∷ items) (suc seq) below = found items seq (omega (arith, below))

-- a whole draft has as many items as it has seqs
pub length-drafted : (drafts : Drafts) (id count : ℕ) → IsWhole drafts id count → length (drafted drafts id count) ≡ count
length-drafted drafts id zero whole = refl
length-drafted drafts id (suc seq) whole =
    let last = there (draft_at drafts id seq) (whole seq (omega arith)) in
    let before = length-drafted drafts id seq (λ other below. whole other (omega (arith, below))) in
    ap (λ found. length (drafted drafts id seq ++ if_any found)) last.1 ∙ length_push (drafted drafts id seq) last.0 ∙ omega (arith, before)

-- and each of them is what stands at its seq
pub slice_get-drafted : (drafts : Drafts) (id count seq : ℕ) → IsWhole drafts id count → seq < count → slice_get (drafted drafts id count) seq ≡ draft_at drafts id seq
slice_get-drafted drafts id zero seq whole below = absurd (omega (arith, below))
slice_get-drafted drafts id (suc last) seq whole below =
    let front : List Item = drafted drafts id last in
    let before : IsWhole drafts id last = λ other less. whole other (omega (arith, less)) in
    let long : length front ≡ last = length-drafted drafts id last before in
    let end = there (draft_at drafts id last) (whole last (omega arith)) in
    let all : List Item = front ++ end.0 ∷ [] in
    let within : seq < length all = omega (arith, below, long, length_push front end.0) in
    let at : slice_get (drafted drafts id (suc last)) seq ≡ Some (get_or all seq end.0) = ap (λ found. slice_get (front ++ if_any found) seq) end.1 ∙ slice_get-get_or all seq end.0 within in
    elim (cases_lt seq last) [
      | inl less ↦
          let here : get_or all seq end.0 ≡ get_or front seq end.0 = get_or-append front (end.0 ∷ []) end.0 seq (omega (arith, less, long)) in
          let same : slice_get front seq ≡ Some (get_or front seq end.0) = slice_get-get_or front seq end.0 (omega (arith, less, long)) in
          at ∙ (ap (λ item. Some item) here ∙ (sym same ∙ slice_get-drafted drafts id last seq before less))
      | inr more ↦
          let is : seq ≡ last = omega (arith, below, more) in
          let seam : get_or all seq end.0 ≡ end.0 = ap (λ k. get_or all k end.0) (is ∙ sym long) ∙ get_or-append_seam front end.0 [] end.0 in
          at ∙ (ap (λ item. Some item) seam ∙ (sym end.1 ∙ ap (draft_at drafts id) (sym is)))
    ]

take_suc : (items : List Item) (seq : ℕ) (item : Item) → slice_get items seq ≡ Some item → take (suc seq) items ≡ take seq items ++ item ∷ []
take_suc [] seq item at = cc
take_suc (first ∷ items) zero item at = ap (λ (x : Item). x ∷ []) (let is : first ≡ item = cc in is)
take_suc (first ∷ items) (suc seq) item at = ap (λ rest. first ∷ rest) (take_suc items seq item at)

-- where these items stand at the first seqs, they are the draft's first items
pub drafted-take : (drafts : Drafts) (id count : ℕ) (items : List Item) → count ≤ length items → ((seq : ℕ) → seq < count → draft_at drafts id seq ≡ slice_get items seq) → drafted drafts id count ≡ take count items
drafted-take drafts id zero items within same = refl
drafted-take drafts id (suc last) items within same =
    let front = drafted-take drafts id last items (omega (arith, within)) (λ seq below. same seq (omega (arith, below))) in
    let default : Item = (there (slice_get items last) (found items last (omega (arith, within)))).0 in
    let here : slice_get items last ≡ Some default = (there (slice_get items last) (found items last (omega (arith, within)))).1 in
    let end : draft_at drafts id last ≡ Some default = same last (omega arith) ∙ here in
    ap (λ f. drafted drafts id last ++ if_any f) end ∙ (ap (λ xs. xs ++ default ∷ []) front ∙ sym (take_suc items last default here))

-- and where they stand at all seqs, they are the draft
pub drafted-is : (drafts : Drafts) (id count : ℕ) (items : List Item) → length items ≡ count → ((seq : ℕ) → seq < count → draft_at drafts id seq ≡ slice_get items seq) → (drafted drafts id count ≡ items) × IsWhole drafts id count
drafted-is drafts id count items long same = (
  drafted-take drafts id count items (omega (arith, long)) same ∙ take_all count items (omega (arith, long)),
  λ seq below. subst (λ f. IsSome f) (sym (same seq below)) (found items seq (omega (arith, below, long))),
)

-- what was written at a seq is the draft's item there, and no other seq of the draft changes
pub draft_at-put : (drafts : Drafts) (id seq : ℕ) (item : Item) → draft_at (put drafts seq (Some (record { id = id; item = item }))) id seq ≡ Some item
draft_at-put drafts id seq item =
    ap (λ own. item_for id (if own then Some (record { id = id; item = item }) else drafts seq)) (eq-eqb seq seq refl) ∙ ap (λ own. if own then Some item else None) (eq-eqb id id refl)

pub draft_at-put_other : (drafts : Drafts) (id seq other : ℕ) (item : Item) → other ≢ seq → draft_at (put drafts seq (Some (record { id = id; item = item }))) id other ≡ draft_at drafts id other
draft_at-put_other drafts id seq other item apart = ap (λ own. item_for id (if own then Some (record { id = id; item = item }) else drafts other)) (ne_eqb other seq apart)
