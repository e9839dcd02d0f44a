-- What a turn does with the history.
use Rattle.std.proofs.Common.{◌≡◌, ◌≢◌, ℕ, List, [], ◌∷◌, ◌++◌, length, map, false, Option, Some, None, refl, sym, ap, ◌∙◌, subst, append-nil}
use mathlib.Core.List.{map-append}
use lib.ListN.{length-map}
use Rattle.std.specs.Prelude.{slice_get}
use Rattle.atomic_table.specs.Table.{Me, rest}
use Rattle.turn_cell.specs.declared.machine.StepOut.{StepOut}
use Rattle.turn_cell.specs.declared.machine.StepOut.TheVariants.{Made}
use Rattle.turn_cell.specs.declared.seat_view.Entry.{Entry}
use Rattle.turn_cell.specs.declared.seat_view.SeatView.{SeatView}
use Rattle.turn_cell.specs.declared.seat_view.Addition.{Addition}
use Rattle.turn_cell.specs.declared.seat_view.Chest.{Chest}
use Rattle.turn_cell.specs.Legal.{Legal, EachFits, SawOwn, line_of, locals_left}
use Rattle.turn_cell.specs.TableRuled.{waiting_with, holding, rested, noted, KeepsHistory, KeepsFrom, TurnCame, HoldsTurn}
use Rattle.turn_cell.specs.Turn.{SeesUpTo, SameSeat, OthersOnly, OneEntry}
use Rattle.turn_cell.proofs.Histories.{owns_local, after_append, get_here, runs_snoc, fit_after}

module _ {S L I N : Type 0} (number : L → ℕ) (fits : S → L → Type 0) (suits : L → I → Type 0) (steps : S → L → I → StepOut N → S → L → Type 0) where
  abbrev V : Type 0
  V = SeatView S L I N

  abbrev Mine : Type 0
  Mine = Me (Option (Chest S L I N)) (SeatView S L I N)

  abbrev Hist : Type 0
  Hist = List (Entry S L I N)

  abbrev in_hand : List (ℕ × Option (Chest S L I N)) → Option (Chest S L I N)
  in_hand [] = None
  in_hand (c ∷ cs) = c.1

  -- what a turn that has come and the exchange account_of
  pub taken_out : (m m' m'' : Mine) (v : V) (t : ℕ) (h : Hist) (x y : Chest S L I N) (r : Option (Chest S L I N)) → m ≡ (waiting_with t v, []) → m' ≡ (holding h m.0, (0, Some x) ∷ m.1) → SawOwn h m.0.number m.0.seen → KeepsFrom number fits suits steps m.0.shared m.0.locals h x
      → m'.1 ≡ (0, r) ∷ rest m'.1 → m'' ≡ (m'.0, (0, None) ∷ rest m'.1) → r ≡ Some y → TurnCame number fits suits steps v m'' y
  taken_out m m' m'' v t h x y r is now own legal had has out =
      let e : Some x ≡ Some y = sym (ap (λ (k : Mine). in_hand k.1) now) ∙ ap in_hand had ∙ out in
      let same : x ≡ y = cc in
      let now' : m' ≡ (holding h (waiting_with t v), (0, Some x) ∷ []) = now ∙ ap (λ (k : Mine). (let z : Mine = (holding h k.0, (0, Some x) ∷ k.1) in z)) is in
      let has' : m'' ≡ (holding h (waiting_with t v), (0, None) ∷ []) = has ∙ ap (λ (k : Mine). (let z : Mine = (k.0, (0, None) ∷ rest k.1) in z)) now' in
      (t, h, has', subst (λ (k : Mine). SawOwn h k.0.number k.0.seen) is own, subst (λ (k : Mine × Chest S L I N). KeepsFrom number fits suits steps k.0.0.shared k.0.0.locals h k.1) (λ i. (is i, same i)) legal)

  -- between two turns a seat rests, and its local is the one that it has seen last
  abbrev pub AtRest : Mine → Type 0
  AtRest m = (m.1 ≡ []) × (m.0.waits ≡ false) × (m.0.holds ≡ false) × (m.0.spent ≡ false)

  abbrev pub OwnLocal : V → L → Type 0
  OwnLocal v l = slice_get (locals_left v.locals v.seen) v.number ≡ Some l

  abbrev pub given : Option (Addition S L I N) → Mine → Mine
  given addition m = (rested (m.0.seen ++ noted m.0.number addition) m.0, [])

  abbrev Out : Hist → V → ℕ → Mine
  Out h v t = (holding h (waiting_with t v), (0, None) ∷ [])

  here_now : (v : V) (h : Hist) (l : L) → SawOwn h v.number v.seen → OwnLocal v l → slice_get (locals_left v.locals h) v.number ≡ Some l
  here_now v h l own is = owns_local v.locals v.number h v.seen own ∙ is

  pub fits_now : (v : V) (m : Mine) (x : Chest S L I N) (l : L) → TurnCame number fits suits steps v m x → OwnLocal v l → fits x.shared l
  fits_now v m x l t is = (t.4.2.0.1 v.number l (here_now v t.1 l t.3 is)).1

  pub gives_same : (v : V) (m : Mine) (x : Chest S L I N) (shared : S) (items : List N) → TurnCame number fits suits steps v m x → shared ≡ x.shared → items ≡ x.lines.items
      → HoldsTurn number fits suits steps m × ((s : S) × (m.0.shared ≡ Some s) × (Legal number fits suits steps s m.0.locals (m.0.seen ++ []) shared × (items ≡ map line_of (m.0.seen ++ []))))
  gives_same v m x shared items t is lines = subst (λ (k : Mine). HoldsTurn number fits suits steps k × ((s : S) × (k.0.shared ≡ Some s) × (Legal number fits suits steps s k.0.locals (k.0.seen ++ []) shared × (items ≡ map line_of (k.0.seen ++ []))))) (sym t.2) (
    (refl, refl),
    (
      t.4.0,
      t.4.1,
      subst (λ (h : Hist). Legal number fits suits steps t.4.0 v.locals h shared × (items ≡ map line_of h)) (sym (append-nil t.1))
          (subst (λ (s : S). Legal number fits suits steps t.4.0 v.locals t.1 s) (sym is) t.4.2.0, lines ∙ t.4.2.1),
    ),
  )

  pub rests_same : (v : V) (m m' : Mine) (x : Chest S L I N) (l : L) → TurnCame number fits suits steps v m x → m' ≡ given None m → v.spent ≡ false → OwnLocal v l
      → AtRest m' × OwnLocal m'.0 l × SameSeat number fits suits steps v m'.0 × SeesUpTo number fits suits steps m'.0 x.shared × OthersOnly number fits suits steps v m'.0 × (length m'.0.seen ≡ length x.lines.items)
  rests_same v m m' x l t is alive local =
      let now : m' ≡ given None (Out t.1 v t.0) = is ∙ ap (given None) t.2 in
      let same : t.1 ++ [] ≡ t.1 = append-nil t.1 in
      subst (λ (k : Mine). AtRest k × OwnLocal k.0 l × SameSeat number fits suits steps v k.0 × SeesUpTo number fits suits steps k.0 x.shared × OthersOnly number fits suits steps v k.0 × (length k.0.seen ≡ length x.lines.items)) (sym now) (
        (refl, refl, refl, alive),
        ap (λ (h : Hist). slice_get (locals_left v.locals h) v.number) same ∙ here_now v t.1 l t.3 local,
        (refl, refl, refl),
        (t.4.0, t.4.1, subst (λ (h : Hist). Legal number fits suits steps t.4.0 v.locals h x.shared) (sym same) t.4.2.0),
        (t.3.0, same ∙ t.3.1, t.3.2),
        ap (λ (h : Hist). length h) same ∙ sym (length-map t.1 line_of) ∙ ap length (sym t.4.2.1),
      )

  abbrev entry : ℕ → L → I → N → S → L → Entry S L I N
  entry n before input line shared after = record { number = n; before = before; input = input; line = line; shared = shared; after = after }

  -- what the addition tells
  abbrev pub Tells : Addition S L I N → L → I → N → S → L → Type 0
  Tells addition l i line s' l' = (addition.before.value ≡ l) × (addition.input.value ≡ i) × (addition.line.value ≡ line) × (addition.shared.value ≡ s') × (addition.after.value ≡ l')

  tells_entry : (n : ℕ) (addition : Addition S L I N) (l : L) (i : I) (line : N) (s' : S) (l' : L) → Tells addition l i line s' l' → noted n (Some addition) ≡ entry n l i line s' l' ∷ []
  tells_entry n addition l i line s' l' t = λ k. entry n (t.0 k) (t.1 k) (t.2 k) (t.3 k) (t.4 k) ∷ []

  module _ (same_number : (s : S) (l : L) (i : I) (o : StepOut N) (s' : S) (l' : L) → steps s l i o s' l' → number l' ≡ number l)
      (still_fits : (s : S) (l : L) (i : I) (o : StepOut N) (s' : S) (l' : L) → fits s l → suits l i → steps s l i o s' l' → fits s' l')
      (others_fit : (s : S) (l : L) (i : I) (o : StepOut N) (s' : S) (l' : L) (other : L) → number other ≢ number l → fits s l → suits l i → steps s l i o s' l' → fits s other → fits s' other) where
    grown : (s0 : S) (v : V) (h : Hist) (x : Chest S L I N) (shared : S) (items : List N) (l l' : L) (i : I) (line : N) → KeepsHistory number fits suits steps s0 v.locals h x → slice_get (locals_left v.locals h) v.number ≡ Some l → suits l i
        → steps x.shared l i (Made line) shared l' → items ≡ x.lines.items ++ line ∷ []
        → Legal number fits suits steps s0 v.locals (h ++ entry v.number l i line shared l' ∷ []) shared × (items ≡ map line_of (h ++ entry v.number l i line shared l' ∷ []))
    grown s0 v h x shared items l l' i line legal at su st lines =
        let e = entry v.number l i line shared l' in (
          (
            runs_snoc suits steps s0 v.locals h x.shared e legal.0.0 at su st,
            subst (λ (ls : List L). EachFits number fits shared ls) (sym (after_append v.locals h (e ∷ [])))
                (fit_after number fits suits steps same_number still_fits others_fit x.shared shared (locals_left v.locals h) v.number l l' i (Made line) legal.0.1 at su st),
          ),
          lines ∙ ap (λ (ns : List N). ns ++ line ∷ []) legal.1 ∙ sym (map-append line_of h (e ∷ [])),
        )

    pub gives_made : (v : V) (m : Mine) (x : Chest S L I N) (shared : S) (items : List N) (addition : Addition S L I N) (l l' : L) (i : I) (line : N) → TurnCame number fits suits steps v m x → OwnLocal v l → suits l i → steps x.shared l i (Made line) shared l'
        → items ≡ x.lines.items ++ line ∷ [] → Tells addition l i line shared l'
        → HoldsTurn number fits suits steps m × ((s : S) × (m.0.shared ≡ Some s) × (Legal number fits suits steps s m.0.locals (m.0.seen ++ noted m.0.number (Some addition)) shared × (items ≡ map line_of (m.0.seen ++ noted m.0.number (Some addition)))))
    gives_made v m x shared items addition l l' i line t local su st lines tells =
        subst (λ (k : Mine). HoldsTurn number fits suits steps k × ((s : S) × (k.0.shared ≡ Some s) × (Legal number fits suits steps s k.0.locals (k.0.seen ++ noted k.0.number (Some addition)) shared × (items ≡ map line_of (k.0.seen ++ noted k.0.number (Some addition)))))) (sym t.2) (
          (refl, refl),
          (
            t.4.0,
            t.4.1,
            subst (λ (es : Hist). Legal number fits suits steps t.4.0 v.locals (t.1 ++ es) shared × (items ≡ map line_of (t.1 ++ es))) (sym (tells_entry v.number addition l i line shared l' tells))
                (grown t.4.0 v t.1 x shared items l l' i line t.4.2 (here_now v t.1 l t.3 local) su st lines),
          ),
        )

    pub rests_made : (v : V) (m m' : Mine) (x : Chest S L I N) (shared : S) (addition : Addition S L I N) (l l' : L) (i : I) (line : N) → TurnCame number fits suits steps v m x → OwnLocal v l → suits l i → steps x.shared l i (Made line) shared l'
        → Tells addition l i line shared l' → m' ≡ given (Some addition) m → v.spent ≡ false
        → AtRest m' × OwnLocal m'.0 l' × OneEntry number fits suits steps v l i line l' m'.0
    rests_made v m m' x shared addition l l' i line t local su st tells is alive =
        let e = entry v.number l i line shared l' in
        let now : m' ≡ (rested (t.1 ++ e ∷ []) (holding t.1 (waiting_with t.0 v)), []) =
        is ∙ ap (given (Some addition)) t.2 ∙ ap (λ (es : Hist). (let z : Mine = (rested (t.1 ++ es) (holding t.1 (waiting_with t.0 v)), []) in z)) (tells_entry v.number addition l i line shared l' tells) in
        let here = here_now v t.1 l t.3 local in
        let legal = grown t.4.0 v t.1 x shared (x.lines.items ++ line ∷ []) l l' i line t.4.2 here su st refl in
        subst (λ (k : Mine). AtRest k × OwnLocal k.0 l' × OneEntry number fits suits steps v l i line l' k.0) (sym now) (
          (refl, refl, refl, alive),
          ap (λ (ls : List L). slice_get ls v.number) (after_append v.locals t.1 (e ∷ [])) ∙ get_here (locals_left v.locals t.1) v.number l l' here,
          ((refl, refl, refl), (shared, (t.4.0, t.4.1, legal.0)), (shared, t.3.0, ap (λ (h : Hist). h ++ e ∷ []) t.3.1, t.3.2)),
        )
