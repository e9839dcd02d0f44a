-- Each step keeps the rule.
use Rattle.std.proofs.Common.{◌≡◌, ◌≢◌, inl, inr, ◌⊎◌, ℕ, zero, suc, ◌+◌, ◌%◌, ◌<◌, ◌≤◌, List, [], ◌∷◌, ◌++◌, length, set, Bool, true, false, true≢false, Option, Some, None, refl, sym, ap, ◌∙◌, subst, ⊎_elim, arith, length-set, length-append}
use mathlib.Core.Option.{some, some-ne-none, some-injective}
use mathlib.Core.Logic.{dite}
use native.Mathlib.Decide.{ℕ_discrete}
use lib.ListN.{get_elem?}
use Rattle.std.specs.Prelude.{slice_index, slice_set}
use Rattle.atomic_table.specs.Table.{State, Me, Act, keeps, takes, gives, Valid, homes_after, carried_after, Allows, Splits, Joins, opening}
use Rattle.atomic_table.proofs.Lists.{at_set, set_again, set_here, set_else, at_longer}
use Rattle.turn_cell.specs.declared.machine.StepOut.{StepOut}
use Rattle.turn_cell.specs.declared.seat_view.Entry.{Entry}
use Rattle.turn_cell.specs.declared.seat_view.SeatView.{SeatView}
use Rattle.turn_cell.specs.declared.seat_view.Account.{Account}
use Rattle.turn_cell.specs.declared.seat_view.Addition.{Addition}
use Rattle.turn_cell.specs.declared.seat_view.Chest.{Chest}
use Rattle.turn_cell.specs.declared.seat_view.Beginning.{Beginning}
use Rattle.turn_cell.specs.Legal.{EachFits, HasNone, Only, SawOwn}
use Rattle.turn_cell.specs.TableRuled.{waits, holds, ticket, opening_view, gave_number, next_seat, joined_view, with_account, account_of, waiting_with, holding, rested, NobodyHolds, noted, KeepsHistory, KeepsFrom, SeatTied, TableRuled, DrewTicket, SawServing, ServedNext}
use Rattle.turn_cell.proofs.Queue.{draws, stays, leaves, mine_alone, splits, opens}
use Rattle.turn_cell.proofs.Histories.{without_append, without_only, owns_all, owns_more, owns_without}

set_at : {V : Type 0} (vs : List V) (i : ℕ) (u w : V) → get_elem? vs i ≡ some u → get_elem? (set vs i w) i ≡ some w
set_at [] i u w at = absurd (some-ne-none u (sym at))
set_at (x ∷ xs) zero u w at = refl
set_at (x ∷ xs) (suc i) u w at = set_at xs i u w at

at_within : {V : Type 0} (vs : List V) (i : ℕ) (u : V) → get_elem? vs i ≡ some u → i < length vs
at_within [] i u at = absurd (some-ne-none u (sym at))
at_within (x ∷ xs) zero u at = omega arith
at_within (x ∷ xs) (suc i) u at = omega (arith, at_within xs i u at)

same_at : {V : Type 0} (vs : List V) (i j : ℕ) (u v : V) → i ≡ j → get_elem? vs i ≡ some u → get_elem? vs j ≡ some v → u ≡ v
same_at vs i j u v e a b = some-injective u v (sym a ∙ ap (get_elem? vs) e ∙ b)

-- a fact of each view after one was changed
each : {V : Type 0} (P : ℕ → V → Type 0) (vs : List V) (id : ℕ) (w : V) → P id w → ((j : ℕ) (v : V) → j ≢ id → get_elem? vs j ≡ some v → P j v) → (j : ℕ) (v : V) → get_elem? (set vs id w) j ≡ some v → P j v
each {V = V} P vs id w mine others j v e = ⊎_elim (λ (t : (j ≡ id) × (w ≡ v)). subst (λ (x : ℕ × V). P x.0 x.1) (λ i. (sym t.0 i, t.1 i)) mine) (λ (t : (j ≢ id) × (get_elem? vs j ≡ some v)). others j v t.0 t.1) (at_set vs id j w v e)

is_false : (b : Bool) → (b ≡ true → ⊥) → b ≡ false
is_false true h = absurd (h refl)
is_false false h = refl

-- a fact of each view after one was added
added : {V : Type 0} (P : ℕ → V → Type 0) (vs : List V) (w : V) → ((j : ℕ) (v : V) → get_elem? vs j ≡ some v → P j v) → P (length vs) w → (j : ℕ) (v : V) → get_elem? (vs ++ w ∷ []) j ≡ some v → P j v
added P [] w old new zero v e = subst (P 0) (some-injective w v e) new
added P [] w old new (suc j) v e = absurd (some-ne-none v (sym e))
added P (x ∷ xs) w old new zero v e = old zero v e
added P (x ∷ xs) w old new (suc j) v e = added (λ k y. P (suc k) y) xs w (λ k y a. old (suc k) y a) new j v e

still_there : {V : Type 0} (vs : List V) (w : V) (j : ℕ) (y : V) → j < length vs → get_elem? (vs ++ w ∷ []) j ≡ some y → get_elem? vs j ≡ some y
still_there [] w j y lt e = absurd (omega arith)
still_there (x ∷ xs) w zero y lt e = e
still_there (x ∷ xs) w (suc j) y lt e = still_there xs w j y (omega arith) e

module _ {S L I N : Type 0} (number : L → ℕ) (fits : S → L → Type 0) (suits : L → I → Type 0) (steps : S → L → I → StepOut N → S → L → Type 0) (key : Beginning S L) where
  abbrev V : Type 0
  V = SeatView S L I N

  abbrev Slot : Type 0
  Slot = Option (Chest S L I N)

  abbrev St : Type 0
  St = State (Option (Chest S L I N)) (SeatView S L I N)

  abbrev Mine : Type 0
  Mine = Me (Option (Chest S L I N)) (SeatView S L I N)

  abbrev Rule : St → Type 0
  Rule = TableRuled number fits suits steps key

  abbrev Hist : Type 0
  Hist = List (Entry S L I N)

  abbrev T : Hist → ℕ → V → Type 0
  T = SeatTied number fits suits steps key.shared.value key.locals.value.items

  -- what a step on the word i owes where the words are ws
  abbrev Owes : St → ℕ → ℕ → Mine → (ℕ → ℕ) → (ℕ → Mine → Type 0) → List ℕ → Type 0
  Owes s i id m f then ws = (w : V) × (a : Act Slot) × Valid s.homes m.1 a × Rule record { words = slice_set ws i (f (slice_index ws i)); homes = homes_after s.homes m.1 a; views = slice_set s.views id w } × then (slice_index ws i) (w, carried_after m.1 a)

  abbrev Dead : List V → Type 0
  Dead vs = (j : ℕ) (v : V) → get_elem? vs j ≡ some v → (i : ℕ) (t : Account S L I N) → get_elem? v.joined i ≡ some t → (t.number < length vs) × ((u : V) → get_elem? vs t.number ≡ some u → u.spent ≡ true)

  abbrev First : List V → Type 0
  First vs = (v : V) → get_elem? vs 0 ≡ some v → v.spent ≡ false → v.given ≡ length vs

  dead_stays : (vs : List V) (id : ℕ) (v w : V) → get_elem? vs id ≡ some v → w.joined ≡ v.joined → w.spent ≡ v.spent → Dead vs → Dead (set vs id w)
  dead_stays vs id v w at same spent dead = each (λ j x. (i : ℕ) (t : Account S L I N) → get_elem? x.joined i ≡ some t → (t.number < length (set vs id w)) × ((u : V) → get_elem? (set vs id w) t.number ≡ some u → u.spent ≡ true)) vs id w
      (λ i t a. lift t (dead id v at i t (ap (λ (js : List (Account S L I N)). get_elem? js i) (sym same) ∙ a))) (λ j x ne b i t a. lift t (dead j x b i t a))
    where
      lift : (t : Account S L I N) → (t.number < length vs) × ((u : V) → get_elem? vs t.number ≡ some u → u.spent ≡ true) → (t.number < length (set vs id w)) × ((u : V) → get_elem? (set vs id w) t.number ≡ some u → u.spent ≡ true)
      lift t d = (omega (arith, d.0, length-set vs id w), λ u a. each (λ j x. j ≡ t.number → x.spent ≡ true) vs id w (λ e. spent ∙ d.1 v (ap (get_elem? vs) (sym e) ∙ at)) (λ j x ne b e. d.1 x (ap (get_elem? vs) (sym e) ∙ b)) t.number u a refl)

  first_stays : (vs : List V) (id : ℕ) (v w : V) → get_elem? vs id ≡ some v → w.given ≡ v.given → w.spent ≡ v.spent → First vs → First (set vs id w)
  first_stays vs id v w at same spent first u b live = each (λ j x. j ≡ 0 → x.spent ≡ false → x.given ≡ length (set vs id w)) vs id w
      (λ e l. same ∙ first v (ap (get_elem? vs) (sym e) ∙ at) (sym spent ∙ l) ∙ sym (length-set vs id w)) (λ j x ne c e l. first x (ap (get_elem? vs) (sym e) ∙ c) l ∙ sym (length-set vs id w)) 0 u b refl live

  some_same : (a b : S) → Some a ≡ Some b → a ≡ b
  some_same a b e = cc

  nobody_back : (vs : List V) (id : ℕ) (u w : V) → get_elem? vs id ≡ some u → holds u ≡ false → NobodyHolds (set vs id w) → NobodyHolds vs
  nobody_back vs id u w at free h j v a = dite (ℕ_discrete j id) (λ e. ap (λ (x : V). x.holds) (same_at vs j id v u e a at) ∙ free) (λ ne. h j v (set_else vs id j w ne ∙ a))

  pub draw_allowed : (slots id : ℕ) (m : Mine) → m.0.waits ≡ false → m.0.holds ≡ false → Allows Rule slots id m 0 (λ n. (n + 1) % 18446744073709551616) (DrewTicket number fits suits steps m)
  draw_allowed slots id m idle free s r wide at small =
      let mine = r.tied id m.0 at in
      subst (Owes s 0 id m (λ n. (n + 1) % 18446744073709551616) (DrewTicket number fits suits steps m)) (sym r.words) (
        waiting_with r.w0 m.0,
        keeps,
        tt,
        record {
          w0 = (r.w0 + 1) % 18446744073709551616;
          w1 = r.w1;
          words = refl;
          queued = draws waits holds ticket r.w0 r.w1 s.views id m.0 (waiting_with r.w0 m.0) r.queued at idle refl refl free;
          history = r.history;
          tied = each (T r.history) s.views id (waiting_with r.w0 m.0) record { opening = mine.opening; number_is = mine.number_is; own = mine.own; whole = mine.whole; idle = mine.idle; others = mine.others } (λ j v _ a. r.tied j v a);
          dead = dead_stays s.views id m.0 (waiting_with r.w0 m.0) at refl refl r.dead;
          first = first_stays s.views id m.0 (waiting_with r.w0 m.0) at refl refl r.first;
          seats = omega (arith, r.seats, length-set s.views id (waiting_with r.w0 m.0));
          below = λ n le. r.below n (omega (arith, length-set s.views id (waiting_with r.w0 m.0)));
          home = λ h. r.home (nobody_back s.views id m.0 (waiting_with r.w0 m.0) at free h);
        },
        refl,
      )

  pub look_allowed : (slots id : ℕ) (m : Mine) → m.0.waits ≡ true → m.0.holds ≡ false → m.0.spent ≡ false → Allows Rule slots id m 1 (λ n. n) (SawServing number fits suits steps m)
  look_allowed slots id m waiting free alive s r wide at small =
      let mine = r.tied id m.0 at in
      subst (Owes s 1 id m (λ n. n) (SawServing number fits suits steps m)) (sym r.words) (
      dite (ℕ_discrete r.w1 m.0.ticket)
      (λ served_now.
      let alone : NobodyHolds s.views = λ j v a. is_false (holds v) (λ h. dite (ℕ_discrete j id)
      (λ e. true≢false (sym h ∙ (ap (λ (x : V). x.holds) (same_at s.views j id v m.0 e a at) ∙ free)))
      (λ ne. mine_alone waits holds ticket r.w0 r.w1 s.views id m.0 r.queued at waiting (sym served_now) j v ne a h)) in
      let x = r.home alone in
      let w : V = holding r.history m.0 in (
        w,
        takes 0 (Some x.0),
        x.1,
        record {
          w0 = r.w0;
          w1 = r.w1;
          words = refl;
          queued = stays waits holds ticket r.w0 r.w1 s.views id m.0 w r.queued at refl (λ _. refl) (λ _. (waiting, sym served_now));
          history = r.history;
          tied = each (T r.history) s.views id w record { opening = mine.opening; number_is = mine.number_is; own = λ _. owns_all id r.history; whole = λ _. (refl, alive); idle = λ gone. absurd (true≢false (sym gone ∙ alive)); others = mine.others } (λ j v _ a. r.tied j v a);
          dead = dead_stays s.views id m.0 w at refl refl r.dead;
          first = first_stays s.views id m.0 w at refl refl r.first;
          seats = omega (arith, r.seats, length-set s.views id w);
          below = λ n le. r.below n (omega (arith, length-set s.views id w));
          home = λ h. absurd (true≢false (h id w (set_at s.views id m.0 w at)));
        },
        (
          (λ _. (
            x.0,
            r.history,
            refl,
            subst (λ (n : ℕ). SawOwn r.history n m.0.seen) (sym (mine.number_is alive)) (mine.own alive),
            (let o = mine.opening alive in (key.shared.value, o.0, subst (λ (ls : List L). KeepsHistory number fits suits steps key.shared.value ls r.history x.0) (sym o.1) x.2)),
          )),
          (λ ne. absurd (ne served_now)),
        ),
      ))
      (λ other. (
        m.0,
        keeps,
        tt,
        subst (λ (vs : List V). Rule record { words = r.w0 ∷ r.w1 ∷ []; homes = s.homes; views = vs }) (sym (set_again s.views id m.0 at))
            record { w0 = r.w0; w1 = r.w1; words = refl; queued = r.queued; history = r.history; tied = r.tied; dead = r.dead; first = r.first; seats = r.seats; below = r.below; home = r.home },
        ((λ e. absurd (other e)), (λ _. refl)),
      ))
      )

  only_told : (n : ℕ) (x : Chest S L I N) → Only n (noted n x.addition)
  only_told n x = by_note x.addition
    where
      by_note : (o : Option (Addition S L I N)) → Only n (noted n o)
      by_note None = tt
      by_note (Some addition) = (refl, tt)

  pub leave_allowed : (slots id : ℕ) (v : V) (x : Chest S L I N) → 0 < slots → v.holds ≡ true → KeepsFrom number fits suits steps v.shared v.locals (v.seen ++ noted v.number x.addition) x
      → Allows Rule slots id (v, (0, Some x) ∷ []) 1 (λ n. (n + 1) % 18446744073709551616) (ServedNext number fits suits steps (v, (0, Some x) ∷ []))
  leave_allowed slots id v x some_slot held legal s r wide at small =
      let mine = r.tied id v at in
      let whole = mine.whole held in
      let turn = r.queued.holder id v at held in
      let es : Hist = noted v.number x.addition in
      let number_is : v.number ≡ id = mine.number_is whole.1 in
      let w : V = rested (v.seen ++ es) v in
      let alone = mine_alone waits holds ticket r.w0 r.w1 s.views id v r.queued at turn.0 turn.1 in
      let apart : (j : ℕ) → j ≢ id → HasNone j es = λ j ne. without_only v.number j es (λ e. ne (sym e ∙ number_is)) (only_told v.number x) in
      let same_start : v.shared ≡ Some key.shared.value → legal.0 ≡ key.shared.value = λ o. some_same legal.0 key.shared.value (sym legal.1 ∙ o) in
      let grown_others : (j : ℕ) (u : V) → ((i : ℕ) (t : Account S L I N) → get_elem? u.joined i ≡ some t → (z : V) → get_elem? s.views t.number ≡ some z → z.spent ≡ true) → T r.history j u → (i : ℕ) (t : Account S L I N) → get_elem? u.joined i ≡ some t → SawOwn (v.seen ++ es) t.number t.seen =
      λ j u gone tie i t a. owns_more t.number v.seen es t.seen (subst (λ (h : Hist). SawOwn h t.number t.seen) (sym whole.0) (tie.others i t a)) (apart t.number (λ e. true≢false (sym (gone i t a v (ap (get_elem? s.views) e ∙ at)) ∙ whole.1))) in
      subst (Owes s 1 id (v, (0, Some x) ∷ []) (λ n. (n + 1) % 18446744073709551616) (ServedNext number fits suits steps (v, (0, Some x) ∷ []))) (sym r.words) (
        w,
        gives,
        tt,
        record {
          w0 = r.w0;
          w1 = (r.w1 + 1) % 18446744073709551616;
          words = refl;
          queued = leaves waits holds ticket r.w0 r.w1 s.views id v w r.queued at turn.0 turn.1 refl refl;
          history = v.seen ++ es;
          tied = each (T (v.seen ++ es)) s.views id w record { opening = mine.opening; number_is = mine.number_is; own = λ _. owns_all id (v.seen ++ es); whole = λ h. absurd (true≢false (sym h)); idle = λ _. refl; others = grown_others id v (λ i t a. (r.dead id v at i t a).1) mine }
              (λ j u ne a. let theirs = r.tied j u a in record {
                opening = theirs.opening;
                number_is = theirs.number_is;
                own = λ live. owns_more j v.seen es u.seen (subst (λ (h : Hist). SawOwn h j u.seen) (sym whole.0) (theirs.own live)) (apart j ne);
                whole = λ h. absurd (alone j u ne a h);
                idle = theirs.idle;
                others = grown_others j u (λ i t b. (r.dead j u a i t b).1) theirs;
              });
          dead = dead_stays s.views id v w at refl refl r.dead;
          first = first_stays s.views id v w at refl refl r.first;
          seats = omega (arith, r.seats, length-set s.views id w);
          below = λ n le. let inside = at_within s.views id v at in let far : length s.views ≤ n = omega (arith, length-set s.views id w) in
              without_append n v.seen es (subst (HasNone n) (sym whole.0) (r.below n far)) (apart n (λ e. absurd (omega arith)));
          home = λ _. (x, set_here s.homes 0 (some (Some x)) (omega arith), (let o = mine.opening whole.1 in subst (λ (k : S × List L). KeepsHistory number fits suits steps k.0 k.1 (v.seen ++ es) x) (λ i. (same_start o.0 i, o.1 i)) legal.2));
        },
        refl,
      )

  -- the same at a seat that is known to hold the chest
  pub leave_allowed_at : (slots id : ℕ) (m : Mine) (v : V) (x : Chest S L I N) → m ≡ (v, (0, Some x) ∷ []) → 0 < slots → v.holds ≡ true → KeepsFrom number fits suits steps v.shared v.locals (v.seen ++ noted v.number x.addition) x
      → Allows Rule slots id m 1 (λ n. (n + 1) % 18446744073709551616) (ServedNext number fits suits steps m)
  leave_allowed_at slots id m v x is some_slot held legal = subst (λ (k : Mine). Allows Rule slots id k 1 (λ n. (n + 1) % 18446744073709551616) (ServedNext number fits suits steps k)) (sym is) (leave_allowed slots id v x some_slot held legal)

  joined_own : (h : Hist) (v u : V) → SawOwn h u.number u.seen → ((i : ℕ) (t : Account S L I N) → get_elem? v.joined i ≡ some t → SawOwn h t.number t.seen) → (i : ℕ) (t : Account S L I N) → get_elem? (account_of u ∷ v.joined) i ≡ some t → SawOwn h t.number t.seen
  joined_own h v u new old zero t e = subst (λ (z : Account S L I N). SawOwn h z.number z.seen) (some-injective (account_of u) t e) new
  joined_own h v u new old (suc i) t e = old i t e

  joined_dead : (vs : List V) (v u : V) → (u.number < length vs) × ((y : V) → get_elem? vs u.number ≡ some y → y.spent ≡ true) → ((i : ℕ) (t : Account S L I N) → get_elem? v.joined i ≡ some t → (t.number < length vs) × ((y : V) → get_elem? vs t.number ≡ some y → y.spent ≡ true))
      → (i : ℕ) (t : Account S L I N) → get_elem? (account_of u ∷ v.joined) i ≡ some t → (t.number < length vs) × ((y : V) → get_elem? vs t.number ≡ some y → y.spent ≡ true)
  joined_dead vs v u new old zero t e = subst (λ (z : Account S L I N). (z.number < length vs) × ((y : V) → get_elem? vs z.number ≡ some y → y.spent ≡ true)) (some-injective (account_of u) t e) new
  joined_dead vs v u new old (suc i) t e = old i t e

  pub splits_allowed : (id : ℕ) (v : V) → id ≡ 0 → v.waits ≡ false → v.holds ≡ false → v.spent ≡ false → v.given < length key.locals.value.items → length key.locals.value.items < 256
      → Splits Rule id v (gave_number v) (next_seat v)
  splits_allowed id v at_0 idle free alive room bound s r at =
      let mine = r.tied id v at in
      let all : v.given ≡ length s.views = r.first v (ap (get_elem? s.views) (sym at_0) ∙ at) alive in
      let vs : List V = set s.views id (gave_number v) in
      let long : length vs ≡ length s.views = length-set s.views id (gave_number v) in
      let q = stays waits holds ticket r.w0 r.w1 s.views id v (gave_number v) r.queued at refl (λ _. refl) (λ h. absurd (true≢false (sym h ∙ free))) in
      let longer : length (vs ++ next_seat v ∷ []) ≡ length s.views + 1 = omega (arith, length-append vs (next_seat v ∷ [])) in
      let none : HasNone v.given r.history = r.below v.given (omega arith) in
      let dead_set = dead_stays s.views id v (gave_number v) at refl refl r.dead in
      let tied_set = each (T r.history) s.views id (gave_number v) record { opening = mine.opening; number_is = mine.number_is; own = mine.own; whole = mine.whole; idle = mine.idle; others = mine.others } (λ j u _ a. r.tied j u a) in
      record {
        w0 = r.w0;
        w1 = r.w1;
        words = r.words;
        queued = splits waits holds ticket r.w0 r.w1 vs (next_seat v) q (omega arith) idle free;
        history = r.history;
        tied = λ j u a. added (λ k x. T r.history k x) vs (next_seat v) tied_set
            (record { opening = λ _. mine.opening alive; number_is = λ _. all ∙ sym long; own = λ _. subst (λ (k : ℕ). SawOwn r.history k v.seen) (all ∙ sym long) (owns_without r.history v.seen id v.given (mine.own alive) none); whole = λ h. absurd (true≢false (sym h ∙ free)); idle = λ _. free; others = λ i t e. absurd (some-ne-none t (sym e)) }) j u a;
        dead = λ j u a. added (λ k x. (i : ℕ) (t : Account S L I N) → get_elem? x.joined i ≡ some t → (t.number < length (vs ++ next_seat v ∷ [])) × ((y : V) → get_elem? (vs ++ next_seat v ∷ []) t.number ≡ some y → y.spent ≡ true)) vs (next_seat v)
            (λ k x b i t e. let d = dead_set k x b i t e in (omega (arith, d.0, longer), λ y c. d.1 y (still_there vs (next_seat v) t.number y d.0 c))) (λ i t e. absurd (some-ne-none t (sym e))) j u a;
        first = λ u a live. added (λ k x. k ≡ 0 → x.spent ≡ false → x.given ≡ length (vs ++ next_seat v ∷ [])) vs (next_seat v)
            (each (λ k x. k ≡ 0 → x.spent ≡ false → x.given ≡ length (vs ++ next_seat v ∷ [])) s.views id (gave_number v) (λ _ _. ap (λ (n : ℕ). n + 1) all ∙ sym longer) (λ k x ne _ e _. absurd (ne (e ∙ sym at_0))))
            (λ e _. absurd (nonempty vs e (omega (arith, at_within s.views id v at)))) 0 u a refl live;
        seats = omega (arith, longer);
        below = λ n le. r.below n (omega (arith, longer));
        home = λ h. r.home (nobody_back s.views id v (gave_number v) at free (λ j u a. h j u (at_longer vs (next_seat v ∷ []) j u a)));
      }
    where
      nonempty : (vs : List V) → length vs ≡ 0 → 0 < length vs → ⊥
      nonempty vs e lt = omega arith

  pub joins_allowed : (id : ℕ) (v : V) (other : ℕ) (u : V) → v.waits ≡ false → v.holds ≡ false → v.spent ≡ false → u.waits ≡ false → u.holds ≡ false → u.spent ≡ false → Joins Rule id v other u (with_account v u) joined_view
  joins_allowed id v other u idle free alive idle' free' alive' s r at apart there =
      let mine = r.tied id v at in
      let w : V = with_account v u in
      let vs : List V = set s.views id w in
      let at_other : get_elem? s.views other ≡ some u = sym (set_else s.views id other w apart) ∙ there in
      let theirs = r.tied other u at_other in
      let long : length (set vs other joined_view) ≡ length s.views = length-set vs other joined_view ∙ length-set s.views id w in
      let q = stays waits holds ticket r.w0 r.w1 s.views id v w r.queued at refl (λ _. refl) (λ h. absurd (true≢false (sym h ∙ free))) in
      let tied_set = each (T r.history) s.views id w
      record { opening = mine.opening; number_is = mine.number_is; own = mine.own; whole = mine.whole; idle = mine.idle; others = joined_own r.history v u (subst (λ (n : ℕ). SawOwn r.history n u.seen) (sym (theirs.number_is alive')) (theirs.own alive')) mine.others } (λ j x _ a. r.tied j x a) in
      let spent_stays : (k : ℕ) → ((x : V) → get_elem? s.views k ≡ some x → x.spent ≡ true) → (x : V) → get_elem? (set vs other joined_view) k ≡ some x → x.spent ≡ true =
      λ k gone x a. each (λ j y. j ≡ k → y.spent ≡ true) vs other joined_view (λ _. refl)
      (λ j y _ b e. each (λ j' y'. j' ≡ k → y'.spent ≡ true) s.views id w (λ e'. gone v (ap (get_elem? s.views) (sym e') ∙ at)) (λ j' y' _ b' e'. gone y' (ap (get_elem? s.views) (sym e') ∙ b')) j y b e) k x a refl in
      let lift : (t : Account S L I N) → (t.number < length s.views) × ((x : V) → get_elem? s.views t.number ≡ some x → x.spent ≡ true) → (t.number < length (set vs other joined_view)) × ((x : V) → get_elem? (set vs other joined_view) t.number ≡ some x → x.spent ≡ true) =
      λ t d. (omega (arith, d.0), spent_stays t.number d.1) in
      let told_dead : (account_of u).number ≡ other = theirs.number_is alive' in
      let new_dead : ((account_of u).number < length (set vs other joined_view)) × ((x : V) → get_elem? (set vs other joined_view) (account_of u).number ≡ some x → x.spent ≡ true) =
      (omega (arith, at_within s.views other u at_other), λ x a. each (λ j y. j ≡ other → y.spent ≡ true) vs other joined_view (λ _. refl) (λ j y ne _ e. absurd (ne e)) (account_of u).number x a told_dead) in
      record {
        w0 = r.w0;
        w1 = r.w1;
        words = r.words;
        queued = stays waits holds ticket r.w0 r.w1 vs other u joined_view q there (sym idle') (λ h. absurd (true≢false (sym h))) (λ h. absurd (true≢false (sym h)));
        history = r.history;
        tied = each (T r.history) vs other joined_view
            record { opening = λ h. absurd (true≢false h); number_is = λ h. absurd (true≢false h); own = λ h. absurd (true≢false h); whole = λ h. absurd (true≢false (sym h)); idle = λ _. refl; others = λ i t e. absurd (some-ne-none t (sym e)) } (λ j x _ a. tied_set j x a);
        dead = each (λ j x. (i : ℕ) (t : Account S L I N) → get_elem? x.joined i ≡ some t → (t.number < length (set vs other joined_view)) × ((y : V) → get_elem? (set vs other joined_view) t.number ≡ some y → y.spent ≡ true)) vs other joined_view (λ i t e. absurd (some-ne-none t (sym e)))
            (λ j x _ a. each (λ j' x'. (i : ℕ) (t : Account S L I N) → get_elem? x'.joined i ≡ some t → (t.number < length (set vs other joined_view)) × ((y : V) → get_elem? (set vs other joined_view) t.number ≡ some y → y.spent ≡ true)) s.views id w
            (joined_dead (set vs other joined_view) v u new_dead (λ i t e. lift t (r.dead id v at i t e))) (λ j' x' _ a' i t e. lift t (r.dead j' x' a' i t e)) j x a);
        first = λ x a live. each (λ j y. j ≡ 0 → y.spent ≡ false → y.given ≡ length (set vs other joined_view)) vs other joined_view (λ _ h. absurd (true≢false h))
            (λ j y _ b e l. each (λ j' y'. j' ≡ 0 → y'.spent ≡ false → y'.given ≡ length (set vs other joined_view)) s.views id w (λ e' l'. r.first v (ap (get_elem? s.views) (sym e') ∙ at) alive ∙ sym long)
            (λ j' y' _ b' e' l'. r.first y' (ap (get_elem? s.views) (sym e') ∙ b') l' ∙ sym long) j y b e l) 0 x a refl live;
        seats = omega (arith, r.seats, long);
        below = λ n le. r.below n (omega (arith, long));
        home = λ h. r.home (nobody_back s.views id v w at free (nobody_back vs other u joined_view there free' h));
      }

  pub begins : (x : Chest S L I N) (slots : List (Option (Chest S L I N))) → slots ≡ Some x ∷ [] → 0 < length key.locals.value.items → x.shared ≡ key.shared.value → x.lines.items ≡ [] → EachFits number fits key.shared.value key.locals.value.items
      → Rule (opening (0 ∷ 0 ∷ []) slots (opening_view key.shared.value key.locals.value.items 1))
  begins x slots is some_local shared empty fit = subst (λ (ys : List (Option (Chest S L I N))). Rule (opening (0 ∷ 0 ∷ []) ys (opening_view key.shared.value key.locals.value.items 1))) (sym is) record {
    w0 = 0;
    w1 = 0;
    words = refl;
    queued = opens waits holds ticket (opening_view key.shared.value key.locals.value.items 1) refl refl;
    history = [];
    tied = λ j u a. only (λ k y. T [] k y) record { opening = λ _. (refl, refl); number_is = λ _. refl; own = λ _. ([], refl, tt); whole = λ h. absurd (true≢false (sym h)); idle = λ _. refl; others = λ i t e. absurd (some-ne-none t (sym e)) } j u a;
    dead = λ j u a. only (λ k y. (i : ℕ) (t : Account S L I N) → get_elem? y.joined i ≡ some t → (t.number < 1) × ((z : V) → get_elem? (opening_view {I = I} {N = N} key.shared.value key.locals.value.items 1 ∷ []) t.number ≡ some z → z.spent ≡ true)) (λ i t e. absurd (some-ne-none t (sym e))) j u a;
    first = λ u a live. only (λ k y. y.given ≡ 1) refl 0 u a;
    seats = omega arith;
    below = λ n le. tt;
    home = λ _. (x, refl, ((shared, subst (λ (s : S). EachFits number fits s key.locals.value.items) (sym shared) fit), empty));
  }
    where
      only : (P : ℕ → V → Type 0) → P 0 (opening_view key.shared.value key.locals.value.items 1) → (j : ℕ) (u : V) → get_elem? (opening_view key.shared.value key.locals.value.items 1 ∷ []) j ≡ some u → P j u
      only P p zero u a = subst (P 0) (some-injective _ u a) p
      only P p (suc j) u a = absurd (some-ne-none u (sym a))

  -- the last state, where every number is the keeper's or was joined
  pub closes : (s : St) (id : ℕ) (v : V) → Rule s → get_elem? s.views id ≡ some v → v.spent ≡ false → v.holds ≡ false
      → ((k : ℕ) → k < length key.locals.value.items → (v.number ≡ k) ⊎ ((i : ℕ) × (t : Account S L I N) × (get_elem? v.joined i ≡ some t) × (t.number ≡ k)))
      → (x : Chest S L I N) × (h : Hist) × (get_elem? s.homes 0 ≡ some (some (Some x))) × KeepsHistory number fits suits steps key.shared.value key.locals.value.items h x × SawOwn h v.number v.seen
      × ((i : ℕ) (t : Account S L I N) → get_elem? v.joined i ≡ some t → SawOwn h t.number t.seen)
  closes s id v r at alive free all =
      let mine = r.tied id v at in
      let nobody : NobodyHolds s.views = λ j u a. elim (all j (omega (arith, at_within s.views j u a, r.seats))) [
        | inl e ↦ ap (λ (y : V). y.holds) (same_at s.views j id u v (sym e ∙ mine.number_is alive) a at) ∙ free
        | inr t ↦ (r.tied j u a).idle ((r.dead id v at t.0 t.1 t.2).1 u (ap (get_elem? s.views) t.3 ∙ a))
      ] in
      let x = r.home nobody in
      (x.0, r.history, x.1, x.2, subst (λ (n : ℕ). SawOwn r.history n v.seen) (sym (mine.number_is alive)) (mine.own alive), mine.others)
