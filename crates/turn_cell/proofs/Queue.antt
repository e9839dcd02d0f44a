-- Each step keeps the queue of tickets.
use Rattle.std.proofs.Common.{◌≡◌, ◌≢◌, ℕ, zero, suc, ◌+◌, ◌%◌, ◌<◌, ◌≤◌, List, [], ◌∷◌, ◌++◌, length, set, Bool, true, false, true≢false, refl, sym, ap, ◌∙◌, subst, ⊎_elim, arith, length-append, length-set}
use mathlib.Core.Option.{some, some-ne-none, some-injective}
use lib.ListN.{get_elem?}
use Rattle.atomic_table.proofs.Lists.{at_set, at_snoc}
use Rattle.turn_cell.specs.Queue.{one_if, how_many, AmongNext, InQueue}

bit_le : (b : Bool) → one_if b ≤ 1
bit_le true = omega arith
bit_le false = omega arith

module _ {V : Type 0} (p : V → Bool) where
  pub tally_set : (vs : List V) (i : ℕ) (u w : V) → get_elem? vs i ≡ some u → how_many p (set vs i w) + one_if (p u) ≡ how_many p vs + one_if (p w)
  tally_set [] i u w at = absurd (some-ne-none u (sym at))
  tally_set (x ∷ xs) zero u w at = let e : one_if (p x) ≡ one_if (p u) = ap (λ (v : V). one_if (p v)) (some-injective x u at) in omega arith
  tally_set (x ∷ xs) (suc i) u w at = let e = tally_set xs i u w at in omega arith

  pub tally_le : (vs : List V) → how_many p vs ≤ length vs
  tally_le [] = omega arith
  tally_le (x ∷ xs) = omega (arith, bit_le (p x), tally_le xs)

  pub tally_snoc : (vs : List V) (w : V) → how_many p (vs ++ w ∷ []) ≡ how_many p vs + one_if (p w)
  tally_snoc [] w = omega arith
  tally_snoc (x ∷ xs) w = omega (arith, tally_snoc xs w)

  -- where one passes the test, the count is positive
  pub tally_some : (vs : List V) (i : ℕ) (u : V) → get_elem? vs i ≡ some u → p u ≡ true → 0 < how_many p vs
  tally_some [] i u at is = absurd (some-ne-none u (sym at))
  tally_some (x ∷ xs) zero u at is = let e : one_if (p x) ≡ one_if true = ap one_if (ap p (some-injective x u at) ∙ is) in omega arith
  tally_some (x ∷ xs) (suc i) u at is = omega (arith, tally_some xs i u at is)

off : {b : Bool} → b ≡ false → b ≡ true → ⊥
off low high = true≢false (sym high ∙ low)

module _ {V : Type 0} (waits holds : V → Bool) (ticket : V → ℕ) where
  abbrev Q : ℕ → ℕ → List V → Type 0
  Q = InQueue waits holds ticket

  abbrev At : List V → ℕ → V → Type 0
  At vs j v = get_elem? vs j ≡ some v

  -- a fact of each view after one was changed
  each : (P : ℕ → V → Type 0) (vs : List V) (id : ℕ) (w : V) → P id w → ((j : ℕ) (v : V) → j ≢ id → At vs j v → P j v) → (j : ℕ) (v : V) → At (set vs id w) j v → P j v
  each P vs id w mine others j v e = ⊎_elim (λ (t : (j ≡ id) × (w ≡ v)). subst (λ (x : ℕ × V). P x.0 x.1) (λ i. (sym t.0 i, t.1 i)) mine) (λ (t : (j ≢ id) × At vs j v). others j v t.0 t.1) (at_set vs id j w v e)

  -- a view takes no ticket and gives none back
  pub stays : (w0 w1 : ℕ) (vs : List V) (id : ℕ) (u w : V) → Q w0 w1 vs → At vs id u → waits w ≡ waits u → (waits w ≡ true → ticket w ≡ ticket u) → (holds w ≡ true → (waits w ≡ true) × (ticket w ≡ w1)) → Q w0 w1 (set vs id w)
  stays w0 w1 vs id u w q at same tick held =
      let n : how_many waits (set vs id w) ≡ how_many waits vs = omega (arith, tally_set waits vs id u w at, ap one_if same) in record {
        small = q.small;
        few = omega (arith, q.few, length-set vs id w);
        next = q.next ∙ ap (λ (k : ℕ). (w1 + k) % 18446744073709551616) (sym n);
        due = subst (λ (k : ℕ). (j : ℕ) (v : V) → At (set vs id w) j v → waits v ≡ true → AmongNext w1 k (ticket v)) (sym n)
            (each (λ j v. waits v ≡ true → AmongNext w1 (how_many waits vs) (ticket v)) vs id w (λ h. subst (AmongNext w1 (how_many waits vs)) (sym (tick h)) (q.due id u at (sym same ∙ h))) (λ j v _ a. q.due j v a));
        apart = λ i j x y ne a b.
            each (λ i' x'. i' ≢ j → waits x' ≡ true → waits y ≡ true → ticket x' ≢ ticket y) vs id w
            (λ ne' h h'. each (λ j' y'. id ≢ j' → waits y' ≡ true → ticket w ≢ ticket y') vs id w (λ apart_not _. absurd (apart_not refl)) (λ j' y' _ b' ne2 h2 e. q.apart id j' u y' ne2 at b' (sym same ∙ h) h2 (sym (tick h) ∙ e)) j y b ne' h')
            (λ i' x' off_id a' ne' h h'. each (λ j' y'. i' ≢ j' → waits y' ≡ true → ticket x' ≢ ticket y') vs id w (λ apart_not h2 e. q.apart i' id x' u apart_not a' at h (sym same ∙ h2) (e ∙ tick h2)) (λ j' y' _ b' ne2 h2. q.apart i' j' x' y' ne2 a' b' h h2) j y b ne' h')
            i x a ne;
        holder = each (λ j v. holds v ≡ true → (waits v ≡ true) × (ticket v ≡ w1)) vs id w held (λ j v _ a. q.holder j v a);
      }

  pub draws : (w0 w1 : ℕ) (vs : List V) (id : ℕ) (u w : V) → Q w0 w1 vs → At vs id u → waits u ≡ false → waits w ≡ true → ticket w ≡ w0 → holds w ≡ false → Q ((w0 + 1) % 18446744073709551616) w1 (set vs id w)
  draws w0 w1 vs id u w q at idle waits_now tick not_yet =
      let n : how_many waits (set vs id w) ≡ how_many waits vs + 1 = omega (arith, tally_set waits vs id u w at, ap one_if idle, ap one_if waits_now) in
      let t : ℕ = how_many waits vs in
      let room : t + 1 < 18446744073709551616 = omega (arith, q.few, length-set vs id w, tally_le waits (set vs id w)) in
      let last : ticket w ≡ (w1 + t) % 18446744073709551616 = tick ∙ q.next in
      let differs : (j : ℕ) (v : V) → At vs j v → waits v ≡ true → ticket w ≢ ticket v = λ j v a h e. let d = q.due j v a h in let d1 : d.0 < t = d.1 in let d2 : (w1 + t) % 18446744073709551616 ≡ (w1 + d.0) % 18446744073709551616 = sym last ∙ e ∙ d.2 in omega arith in record {
        small = q.small;
        few = omega (arith, q.few, length-set vs id w);
        next = let e : w0 ≡ (w1 + t) % 18446744073709551616 = q.next in omega arith;
        due = subst (λ (k : ℕ). (j : ℕ) (v : V) → At (set vs id w) j v → waits v ≡ true → AmongNext w1 k (ticket v)) (sym n)
            (each (λ j v. waits v ≡ true → AmongNext w1 (t + 1) (ticket v)) vs id w (λ _. (t, omega arith, last)) (λ j v _ a h. let d = q.due j v a h in (d.0, omega (arith, d.1), d.2)));
        apart = λ i j x y ne a b.
            each (λ i' x'. i' ≢ j → waits x' ≡ true → waits y ≡ true → ticket x' ≢ ticket y) vs id w
            (λ ne' h h'. each (λ j' y'. id ≢ j' → waits y' ≡ true → ticket w ≢ ticket y') vs id w (λ apart_not _. absurd (apart_not refl)) (λ j' y' _ b' ne2 h2. differs j' y' b' h2) j y b ne' h')
            (λ i' x' off_id a' ne' h h'. each (λ j' y'. i' ≢ j' → waits y' ≡ true → ticket x' ≢ ticket y') vs id w (λ apart_not h2 e. differs i' x' a' h (sym e)) (λ j' y' _ b' ne2 h2. q.apart i' j' x' y' ne2 a' b' h h2) j y b ne' h')
            i x a ne;
        holder = each (λ j v. holds v ≡ true → (waits v ≡ true) × (ticket v ≡ w1)) vs id w (λ h. absurd (off not_yet h)) (λ j v _ a. q.holder j v a);
      }

  -- at my ticket nobody else holds
  pub mine_alone : (w0 w1 : ℕ) (vs : List V) (id : ℕ) (u : V) → Q w0 w1 vs → At vs id u → waits u ≡ true → ticket u ≡ w1 → (j : ℕ) (v : V) → j ≢ id → At vs j v → holds v ≡ true → ⊥
  mine_alone w0 w1 vs id u q at wait tick j v ne a h = let o = q.holder j v a h in q.apart j id v u ne a at o.0 wait (o.1 ∙ sym tick)

  pub leaves : (w0 w1 : ℕ) (vs : List V) (id : ℕ) (u w : V) → Q w0 w1 vs → At vs id u → waits u ≡ true → ticket u ≡ w1 → waits w ≡ false → holds w ≡ false → Q w0 ((w1 + 1) % 18446744073709551616) (set vs id w)
  leaves w0 w1 vs id u w q at wait tick idle free =
      let t : ℕ = how_many waits (set vs id w) in
      let n : t + 1 ≡ how_many waits vs = omega (arith, tally_set waits vs id u w at, ap one_if wait, ap one_if idle) in
      let alone = mine_alone w0 w1 vs id u q at wait tick in record {
        small = omega arith;
        few = omega (arith, q.few, length-set vs id w);
        next = let e : w0 ≡ (w1 + (t + 1)) % 18446744073709551616 = q.next ∙ ap (λ (k : ℕ). (w1 + k) % 18446744073709551616) (sym n) in omega arith;
        due = each (λ j v. waits v ≡ true → AmongNext ((w1 + 1) % 18446744073709551616) t (ticket v)) vs id w (λ h. absurd (off idle h))
            (λ j v ne a h. nearer j v (q.due j v a h) n (λ e. q.apart j id v u ne a at h wait (e ∙ sym tick)));
        apart = λ i j x y ne a b.
            each (λ i' x'. i' ≢ j → waits x' ≡ true → waits y ≡ true → ticket x' ≢ ticket y) vs id w
            (λ ne' h h'. absurd (off idle h))
            (λ i' x' off_id a' ne' h h'. each (λ j' y'. i' ≢ j' → waits y' ≡ true → ticket x' ≢ ticket y') vs id w (λ apart_not h2. absurd (off idle h2)) (λ j' y' _ b' ne2 h2. q.apart i' j' x' y' ne2 a' b' h h2) j y b ne' h')
            i x a ne;
        holder = each (λ j v. holds v ≡ true → (waits v ≡ true) × (ticket v ≡ (w1 + 1) % 18446744073709551616)) vs id w (λ h. absurd (off free h)) (λ j v ne a h. absurd (alone j v ne a h));
      }
    where
      nearer : (j : ℕ) (v : V) → AmongNext w1 (how_many waits vs) (ticket v) → how_many waits (set vs id w) + 1 ≡ how_many waits vs → ticket v ≢ w1 → AmongNext ((w1 + 1) % 18446744073709551616) (how_many waits (set vs id w)) (ticket v)
      nearer j v (zero, d1, d2) n other = let s : w1 < 18446744073709551616 = q.small in absurd (other (d2 ∙ omega arith))
      nearer j v (suc k, d1, d2) n other = (k, omega arith, d2 ∙ omega arith)

  pub splits : (w0 w1 : ℕ) (vs : List V) (w : V) → Q w0 w1 vs → length vs < 255 → waits w ≡ false → holds w ≡ false → Q w0 w1 (vs ++ w ∷ [])
  splits w0 w1 vs w q room idle free =
      let n : how_many waits (vs ++ w ∷ []) ≡ how_many waits vs = omega (arith, tally_snoc waits vs w, ap one_if idle) in
      let waiting : (j : ℕ) (v : V) → At (vs ++ w ∷ []) j v → waits v ≡ true → At vs j v = λ j v a h. ⊎_elim (λ (o : At vs j v). o) (λ (e : w ≡ v). absurd (off idle (ap waits e ∙ h))) (at_snoc vs w v j a) in record {
        small = q.small;
        few = omega (arith, length-append vs (w ∷ []));
        next = q.next ∙ ap (λ (k : ℕ). (w1 + k) % 18446744073709551616) (sym n);
        due = λ j v a h. subst (λ (k : ℕ). AmongNext w1 k (ticket v)) (sym n) (q.due j v (waiting j v a h) h);
        apart = λ i j x y ne a b h h'. q.apart i j x y ne (waiting i x a h) (waiting j y b h') h h';
        holder = λ j v a h. ⊎_elim (λ (o : At vs j v). q.holder j v o h) (λ (e : w ≡ v). absurd (off free (ap holds e ∙ h))) (at_snoc vs w v j a);
      }

  pub opens : (v : V) → waits v ≡ false → holds v ≡ false → Q 0 0 (v ∷ [])
  opens v idle free = record {
    small = omega arith;
    few = omega arith;
    next = let e : one_if (waits v) ≡ 0 = ap one_if idle in omega arith;
    due = λ j u a h. absurd (off idle (ap waits (one j u a) ∙ h));
    apart = λ i j x y ne a b h h'. absurd (off idle (ap waits (one i x a) ∙ h));
    holder = λ j u a h. absurd (off free (ap holds (one j u a) ∙ h));
  }
    where
      one : (j : ℕ) (u : V) → At (v ∷ []) j u → v ≡ u
      one zero u a = some-injective v u a
      one (suc j) u a = absurd (some-ne-none u (sym a))
