-- What a cache knows is what the calls on it brought and left, by induction over the calls; so a cache that is brought a
-- plan's own items knows no others.
use Rattle.std.proofs.Common.{◌≡◌, ◌≢◌, ◌⊎◌, inl, inr, ℕ, zero, suc, ◌+◌, ◌-◌, ◌<◌, ◌≤◌, ◌&&◌, Bool, true, false, cond, List, [], ◌∷◌, length, Option, Some, None, is_some, refl, ap, subst, sym, ◌∙◌, arith, replicate, get_or, length-set}
use Rattle.std.specs.Prelude.{slice_get, ◌↔◌, nat_le, slice_index_or}
use Rattle.std.proofs.lemmas.Grind.{common_steps}
use Rattle.std.proofs.lemmas.Bool.{cases_eq}
use Rattle.std.proofs.lemmas.Bool.Decides.{nat_tests}
use Rattle.std.proofs.lemmas.List.{length-replicate}
use Rattle.mission_model.specs.declared.plan.Item.{Item}
use Rattle.mission_model.specs.declared.plan.PlanHead.{PlanHead}
use Rattle.mission_model.specs.declared.plan.PlanType.{PlanType}
use Rattle.mission_model.specs.declared.plan.PlanType.TheVariants.{Mission, Fence, Safe}
use Rattle.mission_model.specs.declared.request.Client.{Client}
use Rattle.mission_model.specs.declared.request.Asked.{Asked}
use Rattle.mission_model.specs.declared.request.Asked.TheVariants as about
use Rattle.mission_model.specs.declared.request.Reply.{Reply}
use Rattle.mission_model.specs.declared.request.Reply.TheVariants as reply
use Rattle.mission_model.specs.PlanTypes.{is_kind}
use Rattle.mission_model.specs.declared.vehicle.Look.TheVariants.{Here}
use Rattle.client_cache.specs.CacheState.{CacheState, has_id, known_at, look_of, in_window, opened, got, kept, answered_at, known_with, adopted}
use Rattle.client_cache.specs.Moves.{moved, known_from}
use Rattle.client_cache.specs.History.{CacheEvent, Adopts, Looks, Hears, Aims, Resizes, Forgets, CacheCall, CacheCalls, View, at_first, next, after_all, Covers, Brings, Leaves, LeavesAll, Brought, number_known, Remembers}
use Rattle.client_cache.specs.Moving.{length-known_from, known_from-at}

-- the window and the plan of a cache
abbrev pub view_of : CacheState → View
view_of c = record { head = c.head; from = c.from; places = length c.known }

either : (b : Bool) → (b ≡ true) ⊎ (b ≡ false)
either true = inl refl
either false = inr refl

same_items : (a b : Item) → Some a ≡ Some b → a ≡ b
same_items a b h = cc

no_item : (x : Option Item) (item : Item) → x ≡ None → x ≡ Some item → ⊥
no_item x item none some = cc

-- the window's test
pub covers_true : (c : CacheState) (seq : ℕ) → in_window c seq ≡ true → Covers (view_of c) seq
covers_true c seq h = (grind (arith, nat_tests, h), grind (arith, nat_tests, h))

pub true_covers : (c : CacheState) (seq : ℕ) → Covers (view_of c) seq → in_window c seq ≡ true
true_covers c seq h = grind (arith, nat_tests, h.0, h.1)

cond_some : (b : Bool) (x : Option Item) (item : Item) → cond b x None ≡ Some item → (b ≡ true) × (x ≡ Some item)
cond_some true x item h = (refl, h)
cond_some false x item h = absurd cc

place_within : (xs : List (Option Item)) (k : ℕ) (item : Item) → slice_index_or xs k None ≡ Some item → k < length xs
place_within xs k item h = grind (arith, common_steps, h)

le_true : (a b : ℕ) → nat_le a b ≡ true → a ≤ b
le_true a b h = grind (arith, nat_tests, h)

-- a known item stands in the window
pub known_covers : (c : CacheState) (seq : ℕ) (item : Item) → known_at c seq ≡ Some item → Covers (view_of c) seq
known_covers c seq item h =
    let parts = cond_some (nat_le c.from seq) (slice_index_or c.known (seq - c.from) None) item h in
    let le : c.from ≤ seq = le_true c.from seq parts.0 in
    (le, omega (arith, le, place_within c.known (seq - c.from) item parts.1))

-- a place of the window is written
known_own : (c : CacheState) (seq : ℕ) (x : Option Item) → in_window c seq ≡ true → known_at (known_with c seq x) seq ≡ x
known_own c seq x h = grind (arith, common_steps, h)

known_other : (c : CacheState) (place seq : ℕ) (x : Option Item) → place ≢ seq → in_window c place ≡ true → known_at (known_with c place x) seq ≡ known_at c seq
known_other c place seq x ne h = grind (arith, common_steps, ne, h)

-- another window
moved_covered : (c : CacheState) (from places seq : ℕ) → from ≤ seq → seq < from + places → known_at (moved c from places) seq ≡ known_at c seq
moved_covered c from places seq ge lt =
    let there : slice_index_or (known_from c from places) (seq - from) None ≡ known_at c (from + (seq - from)) = known_from-at c from places (seq - from) (omega (arith, ge, lt)) in
    let back : from + (seq - from) ≡ seq = omega (arith, ge) in
    let test : nat_le from seq ≡ true = grind (arith, nat_tests, ge) in
    ap (λ b. cond b (slice_index_or (known_from c from places) (seq - from) None) None) test ∙ there ∙ ap (known_at c) back

-- what happened at one seq
same_step : {L B : Type 0} (x x' : Option Item) (item : Item) → x' ≡ x → (x ≡ Some item → L) → (B → ⊥) → (x' ≡ Some item) ↔ (((x ≡ Some item) × L) ⊎ B)
same_step x x' item same leaves none = (λ h. inl (sym same ∙ h, leaves (sym same ∙ h)), λ h. elim h [ inl p ↦ same ∙ p.0 | inr b ↦ absurd (none b) ])

none_step : {L B : Type 0} (x x' : Option Item) (item : Item) → x' ≡ None → (x ≡ Some item → L → ⊥) → (B → ⊥) → (x' ≡ Some item) ↔ (((x ≡ Some item) × L) ⊎ B)
none_step x x' item gone left none = (λ h. absurd (no_item x' item gone h), λ h. elim h [ inl p ↦ absurd (left p.0 p.1) | inr b ↦ absurd (none b) ])

-- what a call makes of what is known at a seq
abbrev Step : CacheState → ℕ → Item → CacheEvent → CacheState → Type 0
Step c seq item event c' = (known_at c' seq ≡ Some item) ↔ (((known_at c seq ≡ Some item) × Leaves c.kind (view_of c) seq event) ⊎ Brings c.kind (view_of c) seq item event)

abbrev unknown : Option Item
unknown = None

none_known : (n k : ℕ) → get_or (replicate n unknown) k unknown ≡ None
none_known zero k = refl
none_known (suc n) zero = refl
none_known (suc n) (suc k) = none_known n k

nothing_known : (b : Bool) (n k : ℕ) → cond b (get_or (replicate n unknown) k unknown) unknown ≡ None
nothing_known true n k = none_known n k
nothing_known false n k = refl

no_bool : (b : Bool) → b ≡ true → b ≡ false → ⊥
no_bool b yes_ no_ = cc

-- another plan
adopts_if : (b : Bool) (c : CacheState) (head : PlanHead) (seq : ℕ) (item : Item) → b ≡ has_id c.head head.id → Step c seq item (Adopts head) (cond b c (record { client = c.client; kind = c.kind; head = Some head; from = 0; known = replicate (length c.known) None; in_flight = replicate head.count false }))
adopts_if true c head seq item is = same_step (known_at c seq) (known_at c seq) item refl (λ h. sym is) (λ none. none)
adopts_if false c head seq item is = none_step (known_at c seq) (cond (nat_le 0 seq) (get_or (replicate (length c.known) unknown) (seq - 0) unknown) unknown) item (nothing_known (nat_le 0 seq) (length c.known) (seq - 0)) (λ h leaves. no_bool (has_id c.head head.id) leaves (sym is)) (λ none. none)

-- a window
moves : (c : CacheState) (from places seq : ℕ) (item : Item) → (known_at (moved c from places) seq ≡ Some item) ↔ (((known_at c seq ≡ Some item) × ((from ≤ seq) × (seq < from + places))) ⊎ ⊥)
moves c from places seq item = (
  λ h.
      let inside = known_covers (moved c from places) seq item h in
      let lt : seq < from + places = omega (arith, inside.1, length-known_from c from places) in
      inl (sym (moved_covered c from places seq inside.0 lt) ∙ h, (inside.0, lt)),
  λ h. elim h [ inl p ↦ moved_covered c from places seq p.1.0 p.1.1 ∙ p.0 | inr none ↦ absurd none ],
)

-- the kinds
is_kind-own : (kind : PlanType) → is_kind kind kind ≡ true
is_kind-own Mission = refl
is_kind-own Fence = refl
is_kind-own Safe = refl

is_kind-same : (a b : PlanType) → is_kind a b ≡ true → a ≡ b
is_kind-same Mission Mission h = refl
is_kind-same Fence Fence h = refl
is_kind-same Safe Safe h = refl
is_kind-same Mission Fence h = absurd cc
is_kind-same Mission Safe h = absurd cc
is_kind-same Fence Mission h = absurd cc
is_kind-same Fence Safe h = absurd cc
is_kind-same Safe Mission h = absurd cc
is_kind-same Safe Fence h = absurd cc

both_true : (a b : Bool) → a ≡ true → b ≡ true → (a && b) ≡ true
both_true a b p q = cc

both_parts : (a b : Bool) → (a && b) ≡ true → (a ≡ true) × (b ≡ true)
both_parts true b h = (refl, h)
both_parts false b h = absurd cc

-- a reply that brings nothing to the seq leaves what is known
quiet : (c c' : CacheState) (seq : ℕ) (item : Item) (asked : Asked) (given : Reply) → known_at c' seq ≡ known_at c seq → ((other : Item) → Brings c.kind (view_of c) seq other (Hears asked given) → ⊥) → Step c seq item (Hears asked given) c'
quiet c c' seq item asked given same none = same_step (known_at c seq) (known_at c' seq) item same (λ h. none) (none item)

-- a reply to a read of the adopted plan
hears_item : (c : CacheState) (id place seq : ℕ) (given item : Item) → has_id c.head id ≡ true → (b : Bool) → in_window c place ≡ b → Step c seq item (Hears (about.Read c.kind id place) (reply.Item given)) (cond b (known_with (answered_at c place) place (Some given)) (answered_at c place))
hears_item c id place seq given item own false out = quiet c (answered_at c place) seq item (about.Read c.kind id place) (reply.Item given) refl (λ other brings.
    let there : in_window c place ≡ true = true_covers c place (subst (Covers (view_of c)) (sym brings.2) brings.4) in
    no_bool (in_window c place) there out)
hears_item c id place seq given item own true inside = elim (cases_eq place seq) [
  | inl same ↦
      let covers : Covers (view_of c) seq = subst (Covers (view_of c)) same (covers_true c place inside) in
      let brings : Brings c.kind (view_of c) seq given (Hears (about.Read c.kind id place) (reply.Item given)) = (refl, own, same, refl, covers) in
      let now : known_at (known_with (answered_at c place) place (Some given)) seq ≡ Some given = subst (λ k. known_at (known_with (answered_at c place) place (Some given)) k ≡ Some given) same (known_own (answered_at c place) place (Some given) inside) in (
        λ h. inr (refl, own, same, same_items given item (sym now ∙ h), covers),
        λ h. elim h [ inl p ↦ absurd (p.1 given brings) | inr b ↦ now ∙ ap (λ i. Some i) b.3 ],
      )
  | inr apart ↦ quiet c (known_with (answered_at c place) place (Some given)) seq item (about.Read c.kind id place) (reply.Item given) (known_other (answered_at c place) place seq (Some given) apart inside) (λ other brings. apart brings.2)
]

hears_read : (c : CacheState) (id place seq : ℕ) (given : Reply) (item : Item) → has_id c.head id ≡ true → Step c seq item (Hears (about.Read c.kind id place) given) (kept c place given)
hears_read c id place seq (reply.Item other) item own = hears_item c id place seq other item own (in_window c place) refl
hears_read c id place seq (reply.Stale now) item own = quiet c (answered_at c place) seq item (about.Read c.kind id place) (reply.Stale now) refl (λ other none. none)
hears_read c id place seq reply.Done item own = quiet c (answered_at c place) seq item (about.Read c.kind id place) reply.Done refl (λ other none. none)
hears_read c id place seq reply.DiskFailed item own = quiet c (answered_at c place) seq item (about.Read c.kind id place) reply.DiskFailed refl (λ other none. none)
hears_read c id place seq reply.PowerOff item own = quiet c (answered_at c place) seq item (about.Read c.kind id place) reply.PowerOff refl (λ other none. none)
hears_read c id place seq (reply.Spent last) item own = quiet c (answered_at c place) seq item (about.Read c.kind id place) (reply.Spent last) refl (λ other none. none)

-- nothing is brought by a reply to a read of another plan
not_brought : (c : CacheState) (kind : PlanType) (id place seq : ℕ) (given : Reply) (item : Item) → (is_kind kind c.kind && has_id c.head id) ≡ false → Brings c.kind (view_of c) seq item (Hears (about.Read kind id place) given) → ⊥
not_brought c kind id place seq (reply.Item other) item out brings =
    let own : is_kind kind c.kind ≡ true = subst (λ k. is_kind kind k ≡ true) brings.0 (is_kind-own kind) in
    no_bool (is_kind kind c.kind && has_id c.head id) (both_true (is_kind kind c.kind) (has_id c.head id) own brings.1) out
not_brought c kind id place seq (reply.Stale now) item out brings = brings
not_brought c kind id place seq reply.Done item out brings = brings
not_brought c kind id place seq reply.DiskFailed item out brings = brings
not_brought c kind id place seq reply.PowerOff item out brings = brings
not_brought c kind id place seq (reply.Spent last) item out brings = brings

hears_any : (c : CacheState) (kind : PlanType) (id place seq : ℕ) (given : Reply) (item : Item) (b : Bool) → (is_kind kind c.kind && has_id c.head id) ≡ b → Step c seq item (Hears (about.Read kind id place) given) (cond b (kept c place given) c)
hears_any c kind id place seq given item false out = quiet c c seq item (about.Read kind id place) given refl (λ other. not_brought c kind id place seq given other out)
hears_any c kind id place seq given item true is =
    let parts = both_parts (is_kind kind c.kind) (has_id c.head id) is in
    subst (λ k. Step c seq item (Hears (about.Read k id place) given) (kept c place given)) (sym (is_kind-same kind c.kind parts.0)) (hears_read c id place seq given item parts.1)

-- an item is forgotten
forgets_if : (c : CacheState) (place seq : ℕ) (item : Item) (b : Bool) → in_window c place ≡ b → Step c seq item (Forgets place) (cond b (known_with c place None) c)
forgets_if c place seq item true inside = elim (cases_eq place seq) [
  | inl same ↦
      let gone : known_at (known_with c place None) seq ≡ None = subst (λ k. known_at (known_with c place None) k ≡ None) same (known_own c place None inside) in
      none_step (known_at c seq) (known_at (known_with c place None) seq) item gone (λ h leaves. leaves same) (λ none. none)
  | inr apart ↦ same_step (known_at c seq) (known_at (known_with c place None) seq) item (known_other c place seq None apart inside) (λ h. apart) (λ none. none)
]
forgets_if c place seq item false out = same_step (known_at c seq) (known_at c seq) item refl (λ h same. no_bool (in_window c place) (true_covers c place (subst (Covers (view_of c)) (sym same) (known_covers c seq item h))) out) (λ none. none)

-- one call
pub step_to : (event : CacheEvent) (c : CacheState) (seq : ℕ) (item : Item) (c' : CacheState) → CacheCall c event c' → Step c seq item event c'
step_to (Adopts head) c seq item c' call = subst (Step c seq item (Adopts head)) (sym call) (adopts_if (has_id c.head head.id) c head seq item refl)
step_to (Looks seqs) c seq item c' call = subst (Step c seq item (Looks seqs)) (sym call) (same_step (known_at c seq) (known_at c seq) item refl (known_covers c seq item) (λ none. none))
step_to (Hears (about.Read kind id place) given) c seq item c' call = subst (Step c seq item (Hears (about.Read kind id place) given)) (sym call) (hears_any c kind id place seq given item (is_kind kind c.kind && has_id c.head id) refl)
step_to (Hears (about.Write kind id place) given) c seq item c' call = subst (Step c seq item (Hears (about.Write kind id place) given)) (sym call) (quiet c c seq item (about.Write kind id place) given refl (λ other none. none))
step_to (Hears (about.Commit kind id count) given) c seq item c' call = subst (Step c seq item (Hears (about.Commit kind id count) given)) (sym call) (quiet c c seq item (about.Commit kind id count) given refl (λ other none. none))
step_to (Hears (about.SetMark mark) given) c seq item c' call = subst (Step c seq item (Hears (about.SetMark mark) given)) (sym call) (quiet c c seq item (about.SetMark mark) given refl (λ other none. none))
step_to (Aims place) c seq item c' call = subst (Step c seq item (Aims place)) (sym call) (moves c place (length c.known) seq item)
step_to (Resizes capacity) c seq item c' call = subst (Step c seq item (Resizes capacity)) (sym call) (moves c c.from capacity seq item)
step_to (Forgets place) c seq item c' call = subst (Step c seq item (Forgets place)) (sym call) (forgets_if c place seq item (in_window c place) refl)

-- the plan and the window after one call
adopts_view : (b : Bool) (c : CacheState) (head : PlanHead) → view_of (cond b c (record { client = c.client; kind = c.kind; head = Some head; from = 0; known = replicate (length c.known) None; in_flight = replicate head.count false })) ≡ cond b (view_of c) (record { head = Some head; from = 0; places = length c.known })
adopts_view true c head = refl
adopts_view false c head = ap (λ n. (let v : View = record { head = Some head; from = 0; places = n } in v)) (length-replicate (length c.known) unknown)

set_view : (c : CacheState) (place : ℕ) (x : Option Item) → view_of (known_with c place x) ≡ view_of c
set_view c place x = ap (λ n. (let v : View = record { head = c.head; from = c.from; places = n } in v)) (length-set c.known (place - c.from) x)

kept_if : (b : Bool) (c : CacheState) (place : ℕ) (given : Item) → view_of (cond b (known_with (answered_at c place) place (Some given)) (answered_at c place)) ≡ view_of c
kept_if true c place given = set_view (answered_at c place) place (Some given)
kept_if false c place given = refl

kept_view : (c : CacheState) (place : ℕ) (given : Reply) → view_of (kept c place given) ≡ view_of c
kept_view c place (reply.Item given) = kept_if (in_window c place) c place given
kept_view c place (reply.Stale now) = refl
kept_view c place reply.Done = refl
kept_view c place reply.DiskFailed = refl
kept_view c place reply.PowerOff = refl
kept_view c place (reply.Spent last) = refl

got_if : (b : Bool) (c : CacheState) (place : ℕ) (given : Reply) → view_of (cond b (kept c place given) c) ≡ view_of c
got_if true c place given = kept_view c place given
got_if false c place given = refl

got_view : (c : CacheState) (asked : Asked) (given : Reply) → view_of (got c asked given) ≡ view_of c
got_view c (about.Read kind id place) given = got_if (is_kind kind c.kind && has_id c.head id) c place given
got_view c (about.Write kind id place) given = refl
got_view c (about.Commit kind id count) given = refl
got_view c (about.SetMark mark) given = refl

forgotten_view : (b : Bool) (c : CacheState) (place : ℕ) → view_of (cond b (known_with c place None) c) ≡ view_of c
forgotten_view true c place = set_view c place None
forgotten_view false c place = refl

moved_view : (c : CacheState) (from places : ℕ) → view_of (moved c from places) ≡ record { head = c.head; from = from; places = places }
moved_view c from places = ap (λ n. (let v : View = record { head = c.head; from = from; places = n } in v)) (length-known_from c from places)

pub view_to : (event : CacheEvent) (c c' : CacheState) → CacheCall c event c' → view_of c' ≡ next (view_of c) event
view_to (Adopts head) c c' call = ap view_of call ∙ adopts_view (has_id c.head head.id) c head
view_to (Looks seqs) c c' call = ap view_of call
view_to (Hears asked given) c c' call = ap view_of call ∙ got_view c asked given
view_to (Aims place) c c' call = ap view_of call ∙ moved_view c place (length c.known)
view_to (Resizes capacity) c c' call = ap view_of call ∙ moved_view c c.from capacity
view_to (Forgets place) c c' call = ap view_of call ∙ forgotten_view (in_window c place) c place

-- a cache stays its client's, and of its kind
abbrev pub owner_of : CacheState → Client × PlanType
owner_of c = (c.client, c.kind)

owner_if : (b : Bool) (c x y : CacheState) → owner_of x ≡ owner_of c → owner_of y ≡ owner_of c → owner_of (cond b x y) ≡ owner_of c
owner_if true c x y left right = left
owner_if false c x y left right = right

kept_owner : (c : CacheState) (place : ℕ) (given : Reply) → owner_of (kept c place given) ≡ owner_of c
kept_owner c place (reply.Item given) = owner_if (in_window c place) c (known_with (answered_at c place) place (Some given)) (answered_at c place) refl refl
kept_owner c place (reply.Stale now) = refl
kept_owner c place reply.Done = refl
kept_owner c place reply.DiskFailed = refl
kept_owner c place reply.PowerOff = refl
kept_owner c place (reply.Spent last) = refl

got_owner : (c : CacheState) (asked : Asked) (given : Reply) → owner_of (got c asked given) ≡ owner_of c
got_owner c (about.Read kind id place) given = owner_if (is_kind kind c.kind && has_id c.head id) c (kept c place given) c (kept_owner c place given) refl
got_owner c (about.Write kind id place) given = refl
got_owner c (about.Commit kind id count) given = refl
got_owner c (about.SetMark mark) given = refl

pub owner_to : (event : CacheEvent) (c c' : CacheState) → CacheCall c event c' → owner_of c' ≡ owner_of c
owner_to (Adopts head) c c' call = ap owner_of call ∙ owner_if (has_id c.head head.id) c c (record { client = c.client; kind = c.kind; head = Some head; from = 0; known = replicate (length c.known) None; in_flight = replicate head.count false }) refl refl
owner_to (Looks seqs) c c' call = ap owner_of call
owner_to (Hears asked given) c c' call = ap owner_of call ∙ got_owner c asked given
owner_to (Aims place) c c' call = ap owner_of call
owner_to (Resizes capacity) c c' call = ap owner_of call
owner_to (Forgets place) c c' call = ap owner_of call ∙ owner_if (in_window c place) c (known_with c place None) c refl refl

kind_to : (event : CacheEvent) (c c' : CacheState) → CacheCall c event c' → c'.kind ≡ c.kind
kind_to event c c' call = ap (λ (p : Client × PlanType). p.1) (owner_to event c c' call)

-- all calls
pub known_last : (events : List CacheEvent) (c last : CacheState) (seq : ℕ) (item : Item) → CacheCalls c events last → (known_at last seq ≡ Some item) ↔ (((known_at c seq ≡ Some item) × LeavesAll c.kind (view_of c) seq events) ⊎ Brought c.kind (view_of c) seq item events)
known_last [] c last seq item calls = (λ h. inl (ap (λ (x : CacheState). known_at x seq) (sym calls) ∙ h, tt), λ h. elim h [ inl p ↦ ap (λ (x : CacheState). known_at x seq) calls ∙ p.0 | inr none ↦ absurd none ])
known_last (event ∷ events) c last seq item (mid, call, calls) =
    let first = step_to event c seq item mid call in
    let rest' = known_last events mid last seq item calls in
    let rest : (known_at last seq ≡ Some item) ↔ (((known_at mid seq ≡ Some item) × LeavesAll c.kind (next (view_of c) event) seq events) ⊎ Brought c.kind (next (view_of c) event) seq item events) =
    subst (λ (k : PlanType). (known_at last seq ≡ Some item) ↔ (((known_at mid seq ≡ Some item) × LeavesAll k (next (view_of c) event) seq events) ⊎ Brought k (next (view_of c) event) seq item events)) (kind_to event c mid call)
    (subst (λ (v : View). (known_at last seq ≡ Some item) ↔ (((known_at mid seq ≡ Some item) × LeavesAll mid.kind v seq events) ⊎ Brought mid.kind v seq item events)) (view_to event c mid call) rest') in (
      λ h. elim (rest.0 h) [
        | inl p ↦ elim (first.0 p.0) [ inl q ↦ inl (q.0, (q.1, p.1)) | inr b ↦ inr (inl (b, p.1)) ]
        | inr later ↦ inr (inr later)
      ],
      λ h. elim h [
        | inl p ↦ rest.1 (inl (first.1 (inl (p.0, p.1.0)), p.1.1))
        | inr brought ↦ elim brought [ inl b ↦ rest.1 (inl (first.1 (inr b.0), b.1)) | inr later ↦ rest.1 (inr later) ]
      ],
    )

view_last : (events : List CacheEvent) (c last : CacheState) → CacheCalls c events last → view_of last ≡ after_all (view_of c) events
view_last [] c last calls = ap view_of calls
view_last (event ∷ events) c last (mid, call, calls) = view_last events mid last calls ∙ ap (λ v. after_all v events) (view_to event c mid call)

-- a new cache
opened_view : (client : Client) (kind : PlanType) (capacity : ℕ) → view_of (opened client kind capacity) ≡ at_first capacity
opened_view client kind capacity = ap (λ n. (let v : View = record { head = None; from = 0; places = n } in v)) (length-replicate capacity unknown)

one_known : (b : Bool) (n m : ℕ) → n ≤ m → cond b 1 0 + n ≤ suc m
one_known true n m le = omega (arith, le)
one_known false n m le = omega (arith, le)

few_known : (items : List (Option Item)) → number_known items ≤ length items
few_known [] = omega arith
few_known (item ∷ items) = one_known (is_some item) (number_known items) (length items) (few_known items)

look_here : (x : Option Item) (item : Item) → look_of x ≡ Here item → x ≡ Some item
look_here None item h = absurd cc
look_here (Some other) item h = cc

pub remembers : (client : Client) (kind : PlanType) (capacity : ℕ) (events : List CacheEvent) (last : CacheState) → CacheCalls (opened client kind capacity) events last → Remembers kind capacity events last
remembers client kind capacity events last calls =
    let c : CacheState = opened client kind capacity in
    let start = opened_view client kind capacity in
    let known : (seq : ℕ) (item : Item) → (known_at last seq ≡ Some item) ↔ Brought kind (at_first capacity) seq item events = λ seq item.
    let all = known_last events c last seq item calls in
    let all' : (known_at last seq ≡ Some item) ↔ (((known_at c seq ≡ Some item) × LeavesAll kind (at_first capacity) seq events) ⊎ Brought kind (at_first capacity) seq item events) =
    subst (λ (v : View). (known_at last seq ≡ Some item) ↔ (((known_at c seq ≡ Some item) × LeavesAll kind v seq events) ⊎ Brought kind v seq item events)) start all in (
      λ h. elim (all'.0 h) [ inl p ↦ absurd (no_item (known_at c seq) item (nothing_known (nat_le 0 seq) capacity (seq - 0)) p.0) | inr brought ↦ brought ],
      λ h. all'.1 (inr h),
    ) in
    record {
      known = known;
      look = λ seq item. (λ h. (known seq item).0 (look_here (known_at last seq) item h), λ h. ap look_of ((known seq item).1 h));
      few = omega (arith, few_known last.known, ap (λ (v : View). v.places) (view_last events c last calls), ap (λ (v : View). (after_all v events).places) start);
    }

-- outside the window nothing is known
pub known_outside : (c : CacheState) (seq : ℕ) → in_window c seq ≡ false → known_at c seq ≡ None
known_outside c seq out = nothing_there (known_at c seq) (λ item h. no_bool (in_window c seq) (true_covers c seq (known_covers c seq item h)) out)
  where
    nothing_there : (x : Option Item) → ((item : Item) → x ≡ Some item → ⊥) → x ≡ None
    nothing_there None none = refl
    nothing_there (Some item) none = absurd (none item refl)

-- the cache knows items of this plan alone, each at its place
abbrev pub Knows : CacheState → List Item → Type 0
Knows c plan = (seq : ℕ) (item : Item) → known_at c seq ≡ Some item → slice_get plan seq ≡ Some item

-- so it does after a call that brings nothing else
pub knows_after : (event : CacheEvent) (c c' : CacheState) (plan : List Item) → CacheCall c event c' → ((seq : ℕ) (item : Item) → Brings c.kind (view_of c) seq item event → slice_get plan seq ≡ Some item) → Knows c plan → Knows c' plan
knows_after event c c' plan call brings knows seq item h = elim ((step_to event c seq item c' call).0 h) [ inl p ↦ knows seq item p.0 | inr b ↦ brings seq item b ]

-- a cache that has met another plan knows nothing yet
pub knows_anew : (c : CacheState) (head : PlanHead) (plan : List Item) → has_id c.head head.id ≡ false → Knows (adopted c head) plan
knows_anew c head plan other seq item h = elim ((step_to (Adopts head) c seq item (adopted c head) refl).0 h) [ inl p ↦ absurd (no_bool (has_id c.head head.id) p.1 other) | inr none ↦ absurd none ]
