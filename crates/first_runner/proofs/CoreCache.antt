-- The Navigator's cache and what the lines tell of its reads: a reply is taken, another mission is adopted, reads are asked.
use Rattle.std.proofs.Common.{◌≡◌, ◌≢◌, ◌⊎◌, inl, inr, ℕ, zero, suc, ◌+◌, ◌-◌, ◌<◌, ◌≤◌, ◌==◌, ◌&&◌, ◌||◌, min, Bool, true, false, List, [], ◌∷◌, ◌++◌, length, take, drop, get_or, set, replicate, Option, Some, None, refl, sym, ap, ◌∙◌, subst, arith, length-append, length-set}
use Rattle.std.specs.Prelude.{slice_index_or, is_some, nat_le, nat_lt, if◌then◌else◌}
use Rattle.std.proofs.lemmas.Bool.{le-leb, lt-ltb, cases_eq}
use Rattle.std.proofs.lemmas.Bool.Decides.{eqb_tells}
use Rattle.std.proofs.Math.Bool.{or-false, or-true}
use Rattle.std.proofs.lemmas.List.{get_or-set_other, get_or-set_same, length-replicate}
use Rattle.first_model.specs.declared.limits.TheConstants.{MAX_MISSION_ITEMS}
use Rattle.first_model.specs.declared.plan.Item.{Item}
use Rattle.first_model.specs.declared.plan.PlanHead.{PlanHead}
use Rattle.first_model.specs.declared.plan.PlanType.{PlanType}
use Rattle.first_model.specs.declared.plan.PlanType.TheVariants.{Mission, Fence, Safe}
use Rattle.first_model.specs.declared.request.Asked.{Asked}
use Rattle.first_model.specs.declared.request.Asked.TheVariants as about
use Rattle.first_model.specs.declared.request.Reply.{Reply}
use Rattle.first_model.specs.declared.request.Reply.TheVariants as reply
use Rattle.first_board.specs.BoardLaw.{replied}
use Rattle.first_cache.specs.CacheState.{CacheState, known_at, is_in_flight, in_window, same_kind, answered_at, known_with, kept, got, adopted}
use Rattle.first_runner.specs.BootTold.{tells, asks_for}
use Rattle.first_runner.specs.CoreTold.{CacheTold, read_at, reads_of}

-- 1 where it is so
abbrev pub bit : Bool → ℕ
bit b = if b then 1 else 0

-- reads of a seq among some requests and then others
pub reads_of-append : (id seq : ℕ) (xs ys : List Asked) → reads_of id seq (xs ++ ys) ≡ reads_of id seq xs + reads_of id seq ys
reads_of-append id seq [] ys = omega arith
reads_of-append id seq (x ∷ xs) ys = omega (arith, reads_of-append id seq xs ys)

-- a read of it is asked exactly where there is one
asks_head : (b : Bool) (n : ℕ) (rest : Bool) → bit b + n ≡ 0 → (n ≡ 0 → rest ≡ false) → (b || rest) ≡ false
asks_head true n rest none step = absurd (omega (arith, none))
asks_head false n rest none step = step (omega (arith, none))

asks_head_some : (b : Bool) (n : ℕ) (rest : Bool) → 0 < bit b + n → (0 < n → rest ≡ true) → (b || rest) ≡ true
asks_head_some true n rest some step = refl
asks_head_some false n rest some step = step (omega (arith, some))

none_head : (b : Bool) (n : ℕ) (rest : Bool) → (b || rest) ≡ false → (rest ≡ false → n ≡ 0) → bit b + n ≡ 0
none_head true n rest none step = cc
none_head false n rest none step = omega (arith, step none)

pub asks_for-none : (id seq : ℕ) (asks : List Asked) → reads_of id seq asks ≡ 0 → asks_for id seq asks ≡ false
asks_for-none id seq [] none = refl
asks_for-none id seq (about.Read Mission other at ∷ asks) none = asks_head (other == id && at == seq) (reads_of id seq asks) (asks_for id seq asks) none (λ e. asks_for-none id seq asks e)
asks_for-none id seq (about.Read Fence other at ∷ asks) none = asks_for-none id seq asks (omega (arith, none))
asks_for-none id seq (about.Read Safe other at ∷ asks) none = asks_for-none id seq asks (omega (arith, none))
asks_for-none id seq (about.Write kind other at ∷ asks) none = asks_for-none id seq asks (omega (arith, none))
asks_for-none id seq (about.Commit kind other count ∷ asks) none = asks_for-none id seq asks (omega (arith, none))
asks_for-none id seq (about.SetMark mark ∷ asks) none = asks_for-none id seq asks (omega (arith, none))

pub asks_for-some : (id seq : ℕ) (asks : List Asked) → 0 < reads_of id seq asks → asks_for id seq asks ≡ true
asks_for-some id seq [] some = absurd (omega (arith, some))
asks_for-some id seq (about.Read Mission other at ∷ asks) some = asks_head_some (other == id && at == seq) (reads_of id seq asks) (asks_for id seq asks) some (λ e. asks_for-some id seq asks e)
asks_for-some id seq (about.Read Fence other at ∷ asks) some = asks_for-some id seq asks (omega (arith, some))
asks_for-some id seq (about.Read Safe other at ∷ asks) some = asks_for-some id seq asks (omega (arith, some))
asks_for-some id seq (about.Write kind other at ∷ asks) some = asks_for-some id seq asks (omega (arith, some))
asks_for-some id seq (about.Commit kind other count ∷ asks) some = asks_for-some id seq asks (omega (arith, some))
asks_for-some id seq (about.SetMark mark ∷ asks) some = asks_for-some id seq asks (omega (arith, some))

-- so the flag of a seq says whether a read of it is asked
pub flag_is : (id seq : ℕ) (asks : List Asked) (flag : Bool) → bit flag ≡ reads_of id seq asks → flag ≡ asks_for id seq asks
flag_is id seq asks true is = sym (asks_for-some id seq asks (omega (arith, is)))
flag_is id seq asks false is = sym (asks_for-none id seq asks (sym is))

-- where none is asked there is none
pub reads_of-none : (id seq : ℕ) (asks : List Asked) → asks_for id seq asks ≡ false → reads_of id seq asks ≡ 0
reads_of-none id seq [] none = refl
reads_of-none id seq (about.Read Mission other at ∷ asks) none = none_head (other == id && at == seq) (reads_of id seq asks) (asks_for id seq asks) none (λ e. reads_of-none id seq asks e)
reads_of-none id seq (about.Read Fence other at ∷ asks) none = omega (arith, reads_of-none id seq asks none)
reads_of-none id seq (about.Read Safe other at ∷ asks) none = omega (arith, reads_of-none id seq asks none)
reads_of-none id seq (about.Write kind other at ∷ asks) none = omega (arith, reads_of-none id seq asks none)
reads_of-none id seq (about.Commit kind other count ∷ asks) none = omega (arith, reads_of-none id seq asks none)
reads_of-none id seq (about.SetMark mark ∷ asks) none = omega (arith, reads_of-none id seq asks none)

-- what is asked among some and then others
or_assoc : (a b c : Bool) → (a || (b || c)) ≡ ((a || b) || c)
or_assoc true b c = refl
or_assoc false b c = refl

pub asks_for-append : (id seq : ℕ) (xs ys : List Asked) → asks_for id seq (xs ++ ys) ≡ (asks_for id seq xs || asks_for id seq ys)
asks_for-append id seq [] ys = refl
asks_for-append id seq (about.Read Mission other at ∷ xs) ys = ap (λ b. (other == id && at == seq) || b) (asks_for-append id seq xs ys) ∙ or_assoc (other == id && at == seq) (asks_for id seq xs) (asks_for id seq ys)
asks_for-append id seq (about.Read Fence other at ∷ xs) ys = asks_for-append id seq xs ys
asks_for-append id seq (about.Read Safe other at ∷ xs) ys = asks_for-append id seq xs ys
asks_for-append id seq (about.Write kind other at ∷ xs) ys = asks_for-append id seq xs ys
asks_for-append id seq (about.Commit kind other count ∷ xs) ys = asks_for-append id seq xs ys
asks_for-append id seq (about.SetMark mark ∷ xs) ys = asks_for-append id seq xs ys

-- an item that was told was asked
tells_head : (b rest more : Bool) → (b || more) ≡ false → (more ≡ false → rest ≡ false) → (b || rest) ≡ false
tells_head true rest more none step = none
tells_head false rest more none step = step none

or_none : (b more : Bool) → (b || more) ≡ false → more ≡ false
or_none true more none = cc
or_none false more none = none

pub tells-none : (id seq : ℕ) (said : List (Asked × Reply)) → asks_for id seq (replied said) ≡ false → tells id seq said ≡ false
tells-none id seq [] none = refl
tells-none id seq ((about.Read Mission other at, reply.Item item) ∷ said) none = tells_head (other == id && at == seq) (tells id seq said) (asks_for id seq (replied said)) none (λ e. tells-none id seq said e)
tells-none id seq ((about.Read Mission other at, reply.Done) ∷ said) none = tells-none id seq said (or_none (other == id && at == seq) (asks_for id seq (replied said)) none)
tells-none id seq ((about.Read Mission other at, reply.Stale now) ∷ said) none = tells-none id seq said (or_none (other == id && at == seq) (asks_for id seq (replied said)) none)
tells-none id seq ((about.Read Mission other at, reply.DiskFailed) ∷ said) none = tells-none id seq said (or_none (other == id && at == seq) (asks_for id seq (replied said)) none)
tells-none id seq ((about.Read Mission other at, reply.PowerOff) ∷ said) none = tells-none id seq said (or_none (other == id && at == seq) (asks_for id seq (replied said)) none)
tells-none id seq ((about.Read Mission other at, reply.Spent last) ∷ said) none = tells-none id seq said (or_none (other == id && at == seq) (asks_for id seq (replied said)) none)
tells-none id seq ((about.Read Fence other at, given) ∷ said) none = tells-none id seq said none
tells-none id seq ((about.Read Safe other at, given) ∷ said) none = tells-none id seq said none
tells-none id seq ((about.Write kind other at, given) ∷ said) none = tells-none id seq said none
tells-none id seq ((about.Commit kind other count, given) ∷ said) none = tells-none id seq said none
tells-none id seq ((about.SetMark mark, given) ∷ said) none = tells-none id seq said none

-- one more reply
abbrev pub tells_one : ℕ → ℕ → Asked → Reply → Bool
tells_one id seq asked given = tells id seq ((asked, given) ∷ [])

tells-push : (id seq : ℕ) (said : List (Asked × Reply)) (asked : Asked) (given : Reply) → tells id seq (said ++ (asked, given) ∷ []) ≡ (tells id seq said || tells_one id seq asked given)
tells-push id seq [] asked given = refl
tells-push id seq ((about.Read Mission other at, reply.Item item) ∷ said) asked given = ap (λ b. (other == id && at == seq) || b) (tells-push id seq said asked given) ∙ or_assoc (other == id && at == seq) (tells id seq said) (tells_one id seq asked given)
tells-push id seq ((about.Read Mission other at, reply.Done) ∷ said) asked given = tells-push id seq said asked given
tells-push id seq ((about.Read Mission other at, reply.Stale now) ∷ said) asked given = tells-push id seq said asked given
tells-push id seq ((about.Read Mission other at, reply.DiskFailed) ∷ said) asked given = tells-push id seq said asked given
tells-push id seq ((about.Read Mission other at, reply.PowerOff) ∷ said) asked given = tells-push id seq said asked given
tells-push id seq ((about.Read Mission other at, reply.Spent last) ∷ said) asked given = tells-push id seq said asked given
tells-push id seq ((about.Read Fence other at, was) ∷ said) asked given = tells-push id seq said asked given
tells-push id seq ((about.Read Safe other at, was) ∷ said) asked given = tells-push id seq said asked given
tells-push id seq ((about.Write kind other at, was) ∷ said) asked given = tells-push id seq said asked given
tells-push id seq ((about.Commit kind other count, was) ∷ said) asked given = tells-push id seq said asked given
tells-push id seq ((about.SetMark mark, was) ∷ said) asked given = tells-push id seq said asked given

-- a read of this seq, and one of another
own_id : (id : ℕ) → (id == id) ≡ true
own_id id = elim (eqb_tells id id) [ inl same ↦ same.0 | inr other ↦ absurd (other.1 refl) ]

read_here : (id at seq : ℕ) → ((at ≡ seq) × ((id == id && at == seq) ≡ true)) ⊎ ((at ≢ seq) × ((id == id && at == seq) ≡ false))
read_here id at seq = elim (eqb_tells at seq) [
  | inl same ↦ inl (same.1, rw (own_id id, same.0) refl)
  | inr other ↦ inr (other.1, rw (own_id id, other.0) refl)
]

bit_le : (b : Bool) → bit b ≤ 1
bit_le true = omega arith
bit_le false = omega arith

-- the read of a seq has its reply: it is in flight no more
flag_after : (id at seq : ℕ) (flags : List Bool) (unheard : List Asked) → seq < length flags → bit (get_or flags seq false) ≡ read_at id seq (about.Read Mission id at) + reads_of id seq unheard → bit (get_or (set flags at false) seq false) ≡ reads_of id seq unheard
flag_after id at seq flags unheard below is = elim (read_here id at seq) [
  | inl same ↦
      let one : read_at id seq (about.Read Mission id at) ≡ 1 = ap bit same.1 in
      let none : bit (get_or (set flags at false) seq false) ≡ 0 = ap bit (subst (λ i. get_or (set flags i false) seq false ≡ false) (sym same.0) (get_or-set_same flags seq false false below)) in
      omega (arith, none, one, is, bit_le (get_or flags seq false))
  | inr other ↦
      let zero_is : read_at id seq (about.Read Mission id at) ≡ 0 = ap bit other.1 in
      let stays : bit (get_or (set flags at false) seq false) ≡ bit (get_or flags seq false) = ap bit (get_or-set_other flags at seq false false (λ e. other.0 (sym e))) in
      omega (arith, stays, zero_is, is)
]

-- what a cache knows whose window begins at 0
pub known_here : (known : List (Option Item)) (from seq : ℕ) → from ≡ 0 → (if nat_le from seq then slice_index_or known (seq - from) None else None) ≡ slice_index_or known seq None
known_here known from seq zero_is =
    let le : nat_le from seq ≡ true = le-leb from seq (omega (arith, zero_is)) in
    let place : seq - from ≡ seq = omega (arith, zero_is) in
    rw (le, place) refl

inside : (c : CacheState) (seq : ℕ) → c.from ≡ 0 → length c.known ≡ MAX_MISSION_ITEMS → seq < MAX_MISSION_ITEMS → in_window c seq ≡ true
inside c seq from whole below =
    let le : nat_le c.from seq ≡ true = le-leb c.from seq (omega (arith, from)) in
    let lt : nat_lt seq (c.from + length c.known) ≡ true = lt-ltb seq (c.from + length c.known) (omega (arith, from, whole, below)) in
    rw (le, lt) refl

-- the cache of a whole mission
pub record IsWhole (c : CacheState) : Type 0 where
  pub from : c.from ≡ 0
  pub kind : c.kind ≡ Mission
  pub whole : length c.known ≡ MAX_MISSION_ITEMS
  pub count : c.count ≤ MAX_MISSION_ITEMS

-- a reply to something else changes nothing
cache_same : (taken : List (Asked × Reply)) (unheard all : List Asked) (c : CacheState) (asked : Asked) (given : Reply) → ((seq : ℕ) → (tells_one c.id seq asked given ≡ false) × (read_at c.id seq asked ≡ 0)) → CacheTold taken (asked ∷ unheard) all c → CacheTold (taken ++ (asked, given) ∷ []) unheard all c
cache_same taken unheard all c asked given other told = record {
  known = λ seq below. told.known seq below ∙ (sym (or-false (tells c.id seq taken)) ∙ (ap (λ b. tells c.id seq taken || b) (sym (other seq).0) ∙ sym (tells-push c.id seq taken asked given)));
  flying = λ seq below. omega (arith, told.flying seq below, (other seq).1);
  newer = told.newer;
  flags = told.flags;
}

-- the flags once a reply is taken
cache_answered : (taken taken' : List (Asked × Reply)) (unheard all : List Asked) (c : CacheState) (at : ℕ) (known : List (Option Item)) → c.count ≤ MAX_MISSION_ITEMS → ((seq : ℕ) → seq < c.count → is_some (if nat_le c.from seq then slice_index_or known (seq - c.from) None else None) ≡ tells c.id seq taken') → CacheTold taken (about.Read Mission c.id at ∷ unheard) all c →
    CacheTold taken' unheard all (record c { known = known; in_flight = set c.in_flight at false })
cache_answered taken taken' unheard all c at known count knows told = record {
  known = knows;
  flying = λ seq below. flag_after c.id at seq c.in_flight unheard (omega (arith, below, count, told.flags)) (told.flying seq below);
  newer = told.newer;
  flags = omega (arith, told.flags, length-set c.in_flight at false);
}

-- a reply that is no item
cache_no_item : (taken : List (Asked × Reply)) (unheard all : List Asked) (c : CacheState) (at : ℕ) (given : Reply) → c.count ≤ MAX_MISSION_ITEMS → ((seq : ℕ) → tells_one c.id seq (about.Read Mission c.id at) given ≡ false) → CacheTold taken (about.Read Mission c.id at ∷ unheard) all c → CacheTold (taken ++ (about.Read Mission c.id at, given) ∷ []) unheard all (answered_at c at)
cache_no_item taken unheard all c at given count none told =
    cache_answered taken (taken ++ (about.Read Mission c.id at, given) ∷ []) unheard all c at c.known count (λ seq below. told.known seq below ∙ (sym (or-false (tells c.id seq taken)) ∙ (ap (λ b. tells c.id seq taken || b) (sym (none seq)) ∙ sym (tells-push c.id seq taken (about.Read Mission c.id at) given)))) told

-- an item, which the cache keeps
item_known : (taken : List (Asked × Reply)) (unheard all : List Asked) (c : CacheState) (at : ℕ) (item : Item) (seq : ℕ) → IsWhole c → CacheTold taken (about.Read Mission c.id at ∷ unheard) all c → seq < c.count → (elsewhere : Bool) → in_window c at ≡ elsewhere →
    is_some (known_at (if elsewhere then known_with (answered_at c at) at item else answered_at c at) seq) ≡ (tells c.id seq taken || tells_one c.id seq (about.Read Mission c.id at) (reply.Item item))
item_known taken unheard all c at item seq whole told below true window = elim (read_here c.id at seq) [
  | inl same ↦
      let place : at - c.from ≡ seq = omega (arith, whole.from, same.0) in
      let here : get_or (set c.known (at - c.from) (Some item)) seq None ≡ Some item = subst (λ i. get_or (set c.known i (Some item)) seq None ≡ Some item) (sym place) (get_or-set_same c.known seq (Some item) None (omega (arith, below, whole.count, whole.whole))) in
      let knows : is_some (known_at (known_with (answered_at c at) at item) seq) ≡ true = ap is_some (known_here (set c.known (at - c.from) (Some item)) c.from seq whole.from ∙ here) in
      let told_it : tells_one c.id seq (about.Read Mission c.id at) (reply.Item item) ≡ true = ap (λ b. b || false) same.1 in
      knows ∙ sym (ap (λ b. tells c.id seq taken || b) told_it ∙ or-true (tells c.id seq taken))
  | inr other ↦
      let there : get_or (set c.known (at - c.from) (Some item)) seq None ≡ get_or c.known seq None = get_or-set_other c.known (at - c.from) seq (Some item) None (λ e. other.0 (omega (arith, e, whole.from))) in
      let knows : is_some (known_at (known_with (answered_at c at) at item) seq) ≡ is_some (known_at c seq) = ap is_some (known_here (set c.known (at - c.from) (Some item)) c.from seq whole.from ∙ (there ∙ sym (known_here c.known c.from seq whole.from))) in
      let told_none : tells_one c.id seq (about.Read Mission c.id at) (reply.Item item) ≡ false = ap (λ b. b || false) other.1 in
      knows ∙ (told.known seq below ∙ sym (ap (λ b. tells c.id seq taken || b) told_none ∙ or-false (tells c.id seq taken)))
]
item_known taken unheard all c at item seq whole told below false window = elim (read_here c.id at seq) [
  | inl same ↦ let is : in_window c at ≡ true = inside c at whole.from whole.whole (omega (arith, same.0, below, whole.count)) in cc
  | inr other ↦
      let told_none : tells_one c.id seq (about.Read Mission c.id at) (reply.Item item) ≡ false = ap (λ b. b || false) other.1 in
      told.known seq below ∙ sym (ap (λ b. tells c.id seq taken || b) told_none ∙ or-false (tells c.id seq taken))
]

cache_item : (taken : List (Asked × Reply)) (unheard all : List Asked) (c : CacheState) (at : ℕ) (item : Item) → IsWhole c → CacheTold taken (about.Read Mission c.id at ∷ unheard) all c → (window : Bool) → in_window c at ≡ window → CacheTold (taken ++ (about.Read Mission c.id at, reply.Item item) ∷ []) unheard all (if window then known_with (answered_at c at) at item else answered_at c at)
cache_item taken unheard all c at item whole told true window =
    let asked : Asked = about.Read Mission c.id at in
    cache_answered taken (taken ++ (asked, reply.Item item) ∷ []) unheard all c at (set c.known (at - c.from) (Some item)) whole.count (λ seq below. item_known taken unheard all c at item seq whole told below true window ∙ sym (tells-push c.id seq taken asked (reply.Item item))) told
cache_item taken unheard all c at item whole told false window =
    let asked : Asked = about.Read Mission c.id at in
    cache_answered taken (taken ++ (asked, reply.Item item) ∷ []) unheard all c at c.known whole.count (λ seq below. item_known taken unheard all c at item seq whole told below false window ∙ sym (tells-push c.id seq taken asked (reply.Item item))) told

-- a reply to a read of the adopted mission
cache_kept : (taken : List (Asked × Reply)) (unheard all : List Asked) (c : CacheState) (at : ℕ) (given : Reply) → IsWhole c → CacheTold taken (about.Read Mission c.id at ∷ unheard) all c → CacheTold (taken ++ (about.Read Mission c.id at, given) ∷ []) unheard all (kept c at given)
cache_kept taken unheard all c at (reply.Item item) whole told = cache_item taken unheard all c at item whole told (in_window c at) refl
cache_kept taken unheard all c at reply.Done whole told = cache_no_item taken unheard all c at reply.Done whole.count (λ seq. refl) told
cache_kept taken unheard all c at (reply.Stale now) whole told = cache_no_item taken unheard all c at (reply.Stale now) whole.count (λ seq. refl) told
cache_kept taken unheard all c at reply.DiskFailed whole told = cache_no_item taken unheard all c at reply.DiskFailed whole.count (λ seq. refl) told
cache_kept taken unheard all c at reply.PowerOff whole told = cache_no_item taken unheard all c at reply.PowerOff whole.count (λ seq. refl) told
cache_kept taken unheard all c at (reply.Spent last) whole told = cache_no_item taken unheard all c at (reply.Spent last) whole.count (λ seq. refl) told

-- a read of another mission tells nothing of the adopted one
other_mission : (id other at seq : ℕ) (given : Reply) → (other == id) ≡ false → (tells_one id seq (about.Read Mission other at) given ≡ false) × (read_at id seq (about.Read Mission other at) ≡ 0)
other_mission id other at seq (reply.Item item) apart = (rw apart refl, rw apart refl)
other_mission id other at seq reply.Done apart = (refl, rw apart refl)
other_mission id other at seq (reply.Stale now) apart = (refl, rw apart refl)
other_mission id other at seq reply.DiskFailed apart = (refl, rw apart refl)
other_mission id other at seq reply.PowerOff apart = (refl, rw apart refl)
other_mission id other at seq (reply.Spent last) apart = (refl, rw apart refl)

mission_gets : (taken : List (Asked × Reply)) (unheard all : List Asked) (c : CacheState) (id at : ℕ) (given : Reply) → IsWhole c → CacheTold taken (about.Read Mission id at ∷ unheard) all c → CacheTold (taken ++ (about.Read Mission id at, given) ∷ []) unheard all (if id == c.id then kept c at given else c)
mission_gets taken unheard all c id at given whole told = elim (eqb_tells id c.id) [
  | inl same ↦
      subst (λ b. CacheTold (taken ++ (about.Read Mission id at, given) ∷ []) unheard all (if b then kept c at given else c)) (sym same.0)
      (subst (λ i. CacheTold (taken ++ (about.Read Mission i at, given) ∷ []) unheard all (kept c at given)) (sym same.1) (cache_kept taken unheard all c at given whole (subst (λ i. CacheTold taken (about.Read Mission i at ∷ unheard) all c) same.1 told)))
  | inr other ↦
      subst (λ b. CacheTold (taken ++ (about.Read Mission id at, given) ∷ []) unheard all (if b then kept c at given else c)) (sym other.0)
      (cache_same taken unheard all c (about.Read Mission id at) given (λ seq. other_mission c.id id at seq given other.0) told)
]

-- the cache takes a reply
abbrev KindGets : List (Asked × Reply) → List Asked → List Asked → CacheState → PlanType → ℕ → ℕ → Reply → PlanType → Type 0
KindGets taken unheard all c kind id at given own = CacheTold (taken ++ (about.Read kind id at, given) ∷ []) unheard all (if same_kind kind own && id == c.id then kept c at given else c)

pub cache_gets : (taken : List (Asked × Reply)) (unheard all : List Asked) (c : CacheState) (asked : Asked) (given : Reply) → IsWhole c → CacheTold taken (asked ∷ unheard) all c → CacheTold (taken ++ (asked, given) ∷ []) unheard all (got c asked given)
cache_gets taken unheard all c (about.Read Mission id at) given whole told = subst (KindGets taken unheard all c Mission id at given) (sym whole.kind) (mission_gets taken unheard all c id at given whole told)
cache_gets taken unheard all c (about.Read Fence id at) given whole told = subst (KindGets taken unheard all c Fence id at given) (sym whole.kind) (cache_same taken unheard all c (about.Read Fence id at) given (λ seq. (refl, refl)) told)
cache_gets taken unheard all c (about.Read Safe id at) given whole told = subst (KindGets taken unheard all c Safe id at given) (sym whole.kind) (cache_same taken unheard all c (about.Read Safe id at) given (λ seq. (refl, refl)) told)
cache_gets taken unheard all c (about.Write kind id at) given whole told = cache_same taken unheard all c (about.Write kind id at) given (λ seq. (refl, refl)) told
cache_gets taken unheard all c (about.Commit kind id count) given whole told = cache_same taken unheard all c (about.Commit kind id count) given (λ seq. (refl, refl)) told
cache_gets taken unheard all c (about.SetMark mark) given whole told = cache_same taken unheard all c (about.SetMark mark) given (λ seq. (refl, refl)) told

-- another mission is adopted, of which nothing was asked
pub none_known : (k seq : ℕ) → get_or (replicate k (let none : Option Item = None in none)) seq None ≡ None
none_known zero seq = refl
none_known (suc k) zero = refl
none_known (suc k) (suc seq) = none_known k seq

pub none_flying : (k seq : ℕ) → get_or (replicate k false) seq false ≡ false
none_flying zero seq = refl
none_flying (suc k) zero = refl
none_flying (suc k) (suc seq) = none_flying k seq

pub cache_adopts : (taken : List (Asked × Reply)) (unheard all : List Asked) (c : CacheState) (head : PlanHead) → c.id < head.id → ((id seq : ℕ) → asks_for id seq all ≡ false → (tells id seq taken ≡ false) × (asks_for id seq unheard ≡ false)) → CacheTold taken unheard all c →
    CacheTold taken unheard all (record { client = c.client; kind = c.kind; id = head.id; count = head.count; from = 0; known = replicate (length c.known) None; in_flight = replicate (length c.in_flight) false })
cache_adopts taken unheard all c head newer none told = record {
  known = λ seq below. ap is_some (known_here (replicate (length c.known) None) 0 seq refl ∙ none_known (length c.known) seq) ∙ sym (none head.id seq (told.newer head.id seq newer)).0;
  flying = λ seq below. ap bit (none_flying (length c.in_flight) seq) ∙ sym (reads_of-none head.id seq unheard (none head.id seq (told.newer head.id seq newer)).1);
  newer = λ id seq above. told.newer id seq (omega (arith, newer, above));
  flags = omega (arith, told.flags, length-replicate (length c.in_flight) false);
}
