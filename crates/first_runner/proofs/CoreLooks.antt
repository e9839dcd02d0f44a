-- A look at the index asks what the lines tell that is missing, and its reads are in flight then.
use Rattle.std.proofs.Common.{◌≡◌, ◌≢◌, inl, inr, ℕ, zero, suc, ◌+◌, ◌-◌, ◌<◌, ◌≤◌, ◌==◌, ◌&&◌, ◌||◌, min, Bool, true, false, List, [], ◌∷◌, ◌++◌, length, take, get_or, set, refl, sym, ap, ◌∙◌, subst, arith, length-append, length-set}
use Rattle.std.specs.Prelude.{is_some, slice_set, if◌then◌else◌}
use Rattle.std.proofs.Math.Nat.{lt_of_not-le}
use Rattle.std.proofs.lemmas.Bool.{ne_eqb}
use Rattle.std.proofs.lemmas.Bool.Decides.{eqb_tells}
use Rattle.std.proofs.lemmas.List.{get_or-set_other, get_or-set_same}
use Rattle.first_model.specs.declared.plan.PlanType.TheVariants.{Mission}
use Rattle.first_model.specs.declared.request.Client.{Client}
use Rattle.first_model.specs.declared.request.Client.TheVariants as client
use Rattle.first_model.specs.declared.request.Request.{Request}
use Rattle.first_model.specs.declared.request.Request.TheVariants as request
use Rattle.first_model.specs.declared.request.Asked.{Asked}
use Rattle.first_model.specs.declared.request.Asked.TheVariants as about
use Rattle.first_model.specs.declared.request.Reply.{Reply}
use Rattle.first_board.specs.BoardLaw.{abouts}
use Rattle.first_cache.specs.CacheState.{CacheState, known_at, is_in_flight}
use Rattle.first_cache.specs.Wants as cache
use Rattle.first_runner.specs.BootTold.{BootTold, own, tells, asks_for, open_asks, replies_taken, is_known, missing, missing_at, reads}
use Rattle.first_runner.specs.CoreTold.{CacheTold, read_at, reads_of}
use Rattle.first_runner.proofs.CoreCache.{bit, flag_is, reads_of-append, asks_for-append}

-- how often a seq is among some
abbrev pub among : ℕ → List ℕ → ℕ
among seq [] = 0
among seq (other ∷ seqs) = bit (other == seq) + among seq seqs

among-append : (seq : ℕ) (xs ys : List ℕ) → among seq (xs ++ ys) ≡ among seq xs + among seq ys
among-append seq [] ys = omega arith
among-append seq (x ∷ xs) ys = omega (arith, among-append seq xs ys)

among-take : (seq n : ℕ) (xs : List ℕ) → among seq (take n xs) ≤ among seq xs
among-take seq zero xs = omega arith
among-take seq (suc n) [] = omega arith
among-take seq (suc n) (x ∷ xs) = omega (arith, among-take seq n xs)

-- what is missing is below its end, once each, and not in flight
past : (settled : Bool) (seq at : ℕ) → at < seq → among seq (if settled then [] else at ∷ []) ≡ 0
past true seq at below = refl
past false seq at below = ap (λ b. bit b + 0) (ne_eqb at seq (λ e. absurd (omega (arith, e, below)))) ∙ omega arith

missing_past : (c : CacheState) (from n seq : ℕ) → from + n ≤ seq → among seq (cache.missing c from n) ≡ 0
missing_past c from zero seq past_it = refl
missing_past c from (suc n) seq past_it =
    omega (arith, among-append seq (cache.missing c from n) (cache.missing_at c (from + n)), missing_past c from n seq (omega (arith, past_it)), past (is_some (known_at c (from + n)) || is_in_flight c (from + n)) seq (from + n) (omega (arith, past_it)))

one_at_most : (b : Bool) → bit b + 0 ≤ 1
one_at_most true = omega arith
one_at_most false = omega arith

bounded : (b : Bool) → 0 + (bit b + 0) ≤ 1
bounded true = omega arith
bounded false = omega arith

here_once : (known flight : Bool) (at seq : ℕ) → at ≡ seq → bit flight + among seq (if known || flight then [] else at ∷ []) ≤ 1
here_once true true at seq same = omega arith
here_once true false at seq same = omega arith
here_once false true at seq same = omega arith
here_once false false at seq same = bounded (at == seq)

there_none : (settled : Bool) (at seq : ℕ) → (at == seq) ≡ false → among seq (if settled then [] else at ∷ []) ≡ 0
there_none true at seq apart = refl
there_none false at seq apart = ap (λ b. bit b + 0) apart ∙ omega arith

missing_once : (c : CacheState) (from n seq : ℕ) → bit (is_in_flight c seq) + among seq (cache.missing c from n) ≤ 1
missing_once c from zero seq = one_at_most (is_in_flight c seq)
missing_once c from (suc n) seq =
    let parts = among-append seq (cache.missing c from n) (cache.missing_at c (from + n)) in
    elim (eqb_tells (from + n) seq) [
      | inl same ↦
          let none = missing_past c from n seq (omega (arith, same.1)) in
          let one : bit (is_in_flight c seq) + among seq (cache.missing_at c (from + n)) ≤ 1 = subst (λ i. bit (is_in_flight c i) + among seq (cache.missing_at c (from + n)) ≤ 1) same.1 (here_once (is_some (known_at c (from + n))) (is_in_flight c (from + n)) (from + n) seq same.1) in
          omega (arith, parts, none, one)
      | inr other ↦ omega (arith, parts, there_none (is_some (known_at c (from + n)) || is_in_flight c (from + n)) (from + n) seq other.0, missing_once c from n seq)
    ]

-- the flags, once reads of some seqs are in flight
flags_count : (flags : List Bool) (seqs : List ℕ) (seq : ℕ) → bit (get_or flags seq false) + among seq seqs ≤ 1 → (0 < among seq seqs → seq < length flags) → bit (get_or (cache.flags_with flags seqs) seq false) ≡ bit (get_or flags seq false) + among seq seqs
flags_count flags [] seq once within = omega arith
flags_count flags (at ∷ seqs) seq once within = elim (eqb_tells at seq) [
  | inl same ↦
      let one : bit (at == seq) ≡ 1 = ap bit same.0 in
      let below : seq < length flags = within (omega (arith, one)) in
      let set_it : bit (get_or (set flags at true) seq false) ≡ 1 = ap bit (subst (λ i. get_or (set flags i true) seq false ≡ true) (sym same.1) (get_or-set_same flags seq true false below)) in
      let rest = flags_count (set flags at true) seqs seq (omega (arith, once, one, set_it)) (λ some. absurd (omega (arith, some, once, one))) in
      omega (arith, rest, set_it, one, once)
  | inr other ↦
      let none : bit (at == seq) ≡ 0 = ap bit other.0 in
      let stays : bit (get_or (set flags at true) seq false) ≡ bit (get_or flags seq false) = ap bit (get_or-set_other flags at seq true false (λ e. other.1 (sym e))) in
      let rest = flags_count (set flags at true) seqs seq (omega (arith, once, none, stays)) (λ some. omega (arith, within (omega (arith, some, none)), length-set flags at true)) in
      omega (arith, rest, stays, none)
]

flags_long : (flags : List Bool) (seqs : List ℕ) → length (cache.flags_with flags seqs) ≡ length flags
flags_long flags [] = refl
flags_long flags (at ∷ seqs) = flags_long (set flags at true) seqs ∙ length-set flags at true

-- the reads of some seqs
abbrev pub read_asks : ℕ → List ℕ → List Asked
read_asks id [] = []
read_asks id (seq ∷ seqs) = about.Read Mission id seq ∷ read_asks id seqs

own_id : (id : ℕ) → (id == id) ≡ true
own_id id = elim (eqb_tells id id) [ inl same ↦ same.0 | inr other ↦ absurd (other.1 refl) ]

reads_among : (id seq : ℕ) (seqs : List ℕ) → reads_of id seq (read_asks id seqs) ≡ among seq seqs
reads_among id seq [] = refl
reads_among id seq (at ∷ seqs) = let here : read_at id seq (about.Read Mission id at) ≡ bit (at == seq) = ap (λ b. bit (b && at == seq)) (own_id id) in omega (arith, here, reads_among id seq seqs)

reads_elsewhere : (id other seq : ℕ) (seqs : List ℕ) → (id == other) ≡ false → asks_for other seq (read_asks id seqs) ≡ false
reads_elsewhere id other seq [] apart = refl
reads_elsewhere id other seq (at ∷ seqs) apart = rw (apart, reads_elsewhere id other seq seqs apart) refl

pub own_reads : (id : ℕ) (seqs : List ℕ) → own client.Nav (reads id seqs) ≡ read_asks id seqs
own_reads id [] = refl
own_reads id (seq ∷ seqs) = ap (λ l. about.Read Mission id seq ∷ l) (own_reads id seqs)

pub length-read_asks : (id : ℕ) (seqs : List ℕ) → length (read_asks id seqs) ≡ length seqs
length-read_asks id [] = refl
length-read_asks id (seq ∷ seqs) = omega (arith, length-read_asks id seqs)

pub other_reads : (id : ℕ) (seqs : List ℕ) (other : Client) → other ≢ client.Nav → own other (reads id seqs) ≡ []
other_reads id [] other apart = refl
other_reads id (seq ∷ seqs) client.Nav apart = absurd (apart refl)
other_reads id (seq ∷ seqs) (client.Link number) apart = other_reads id seqs (client.Link number) apart
other_reads id (seq ∷ seqs) (client.Watch number) apart = other_reads id seqs (client.Watch number) apart

pub abouts_reads : (id : ℕ) (seqs : List ℕ) → abouts (cache.reads client.Nav Mission id seqs) ≡ reads id seqs
abouts_reads id [] = refl
abouts_reads id (seq ∷ seqs) = ap (λ l. (client.Nav, about.Read Mission id seq) ∷ l) (abouts_reads id seqs)

reach_by : (c : CacheState) (from n room seq : ℕ) → from + n ≤ length c.in_flight → 0 < among seq (take room (cache.missing c from n)) → length c.in_flight ≤ seq → ⊥
reach_by c from n room seq within some beyond = omega (arith, some, among-take seq room (cache.missing c from n), missing_past c from n seq (omega (arith, within, beyond)))

reach : (c : CacheState) (from n room seq : ℕ) → from + n ≤ length c.in_flight → 0 < among seq (take room (cache.missing c from n)) → seq < length c.in_flight
reach c from n room seq within some = lt_of_not-le (λ beyond. reach_by c from n room seq within some beyond)

-- the reads of the missing seqs, as many as there is room for, are in flight
pub cache_flies : (taken : List (Asked × Reply)) (unheard all : List Asked) (c : CacheState) (from n room : ℕ) → from + n ≤ length c.in_flight → CacheTold taken unheard all c →
    CacheTold taken (unheard ++ read_asks c.id (take room (cache.missing c from n))) (all ++ read_asks c.id (take room (cache.missing c from n))) (cache.flying c (take room (cache.missing c from n)))
cache_flies taken unheard all c from n room within told =
    let seqs : List ℕ = take room (cache.missing c from n) in
    record {
      known = told.known;
      flying = λ seq below.
          let once : bit (is_in_flight c seq) + among seq seqs ≤ 1 = omega (arith, missing_once c from n seq, among-take seq room (cache.missing c from n)) in
          let inside : 0 < among seq seqs → seq < length c.in_flight = λ some. reach c from n room seq within some in
          omega (arith, flags_count c.in_flight seqs seq once inside, told.flying seq below, reads_of-append c.id seq unheard (read_asks c.id seqs), reads_among c.id seq seqs);
      newer = λ id seq above. asks_for-append id seq all (read_asks c.id seqs) ∙ (rw (told.newer id seq above, reads_elsewhere c.id id seq seqs (ne_eqb c.id id (λ e. absurd (omega (arith, e, above))))) refl);
      flags = omega (arith, told.flags, flags_long c.in_flight seqs);
    }

-- the cache misses what the lines tell is missing
missing_at_same : (t : BootTold) (all : List Asked) (c : CacheState) (seq : ℕ) → seq < c.count → CacheTold (replies_taken t client.Nav) (open_asks t client.Nav) all c → cache.missing_at c seq ≡ missing_at t c.id seq
missing_at_same t all c seq below told =
    let known = told.known seq below in
    let flight = flag_is c.id seq (open_asks t client.Nav) (is_in_flight c seq) (told.flying seq below) in
    λ k. if known k || flight k then [] else seq ∷ []

pub missing_same : (t : BootTold) (all : List Asked) (c : CacheState) (from n : ℕ) → from + n ≤ c.count → CacheTold (replies_taken t client.Nav) (open_asks t client.Nav) all c → cache.missing c from n ≡ missing t c.id from n
missing_same t all c from zero within told = refl
missing_same t all c from (suc n) within told = λ k. missing_same t all c from n (omega (arith, within)) told k ++ missing_at_same t all c (from + n) (omega (arith, within)) told k
