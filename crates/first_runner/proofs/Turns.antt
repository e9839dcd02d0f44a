-- Turns one after another, and rounds of them.
use Rattle.std.proofs.Common.{◌≡◌, inl, inr, ℕ, zero, suc, ◌+◌, ◌<◌, List, [], ◌∷◌, ◌++◌, length, get_or, take, refl, sym, ◌∙◌, ap, subst, append_assoc, append-nil, arith, length-append}
use Rattle.std.proofs.Math.Seq.{take-length}
use Rattle.std.proofs.lemmas.List.{take_more}
use Rattle.first_model.specs.declared.flight_line.Actor.{Actor}
use Rattle.first_model.specs.declared.flight_line.Line.{Line}
use Rattle.first_core.specs.declared.StepOut.{StepOut}
use Rattle.first_core.specs.CoreState.{CoreState}
use Rattle.first_store.specs.StoreState.{StoreState}
use Rattle.first_runner.specs.Turn.{Turn, Acts, Rounds, line_of}
use Rattle.first_runner.specs.RunState.{Acted, ActedAll, StoppedAmong, WentOn, StoppedRound, WentRound, SoFar}

-- the same turns from an equal core and store
from_same : (s m : CoreState) (st m_st : StoreState) (actors : List Actor) (lines : List Line) (s' : CoreState) (st' : StoreState) → m ≡ s → m_st ≡ st → Acts m m_st actors lines s' st' → Acts s st actors lines s' st'
from_same s m st m_st actors lines s' st' e e_st acts =
    subst (λ (x : CoreState). Acts x st actors lines s' st') e (subst (λ (x : StoreState). Acts m x actors lines s' st') e_st acts)

-- turns, and then other turns
pub acts_append : (xs ys : List Actor) (s : CoreState) (st : StoreState) (a b : List Line) (m : CoreState) (m_st : StoreState) (s' : CoreState) (st' : StoreState) → Acts s st xs a m m_st → Acts m m_st ys b s' st' → Acts s st (xs ++ ys) (a ++ b) s' st'
acts_append [] ys s st a b m m_st s' st' (none, same, same_st) more =
    subst (λ (l : List Line). Acts s st ys (l ++ b) s' st') (sym none) (from_same s m st m_st ys b s' st' same same_st more)
acts_append (x ∷ xs) ys s st a b m m_st s' st' (out, n, n_st, rest, turn, acts, is) more =
    (out, n, n_st, rest ++ b, turn, acts_append xs ys n n_st rest b m m_st s' st' acts more, ap (λ (l : List Line). l ++ b) is ∙ append_assoc (line_of out) rest b)

-- one turn
one_turn : (s : CoreState) (st : StoreState) (actor : Actor) (out : StepOut Line) (s' : CoreState) (st' : StoreState) → Turn s st actor out s' st' → Acts s st (actor ∷ []) (line_of out) s' st'
one_turn s st actor out s' st' turn = (out, s', st', [], turn, (refl, refl, refl), sym (append-nil (line_of out)))

-- the turns of the actors so far, and the next one
pub one_more : (actors : List Actor) (k : ℕ) (d : Actor) (s : CoreState) (st : StoreState) (old : List Line) (m : CoreState) (m_st : StoreState) (mid : List Line) (s' : CoreState) (st' : StoreState) (new : List Line) →
    k < length actors → ActedAll s st (take k actors) old m m_st mid → Acted m m_st (get_or actors k d) mid s' st' new → ActedAll s st (take (k + 1) actors) old s' st' new
one_more actors k d s st old m m_st mid s' st' new below all one =
    let actor = get_or actors k d in
    record {
      made = all.made ++ line_of one.out;
      acts = subst (λ (l : List Actor). Acts s st l (all.made ++ line_of one.out) s' st') (sym (take_more actors k d below)) (acts_append (take k actors) (actor ∷ []) s st all.made (line_of one.out) m m_st s' st' all.acts (one_turn m m_st actor one.out s' st' one.turn));
      lines = one.lines ∙ (ap (λ (l : List Line). l ++ line_of one.out) all.lines ∙ append_assoc old all.made (line_of one.out));
    }

-- no turn
pub no_turns : (actors : List Actor) (s : CoreState) (st : StoreState) (old : List Line) → ActedAll s st (take 0 actors) old s st old
no_turns actors s st old = record { made = []; acts = (refl, refl, refl); lines = sym (append-nil old) }

-- turns that stopped are some first ones of them
pub stopped : (k : ℕ) (actors : List Actor) (s : CoreState) (st : StoreState) (old : List Line) (m s' : CoreState) (m_st st' : StoreState) (mid new : List Line) → ActedAll s st (take k actors) old m m_st mid → s' ≡ m → st' ≡ m_st → new ≡ mid → StoppedAmong s st actors old s' st' new
stopped k actors s st old m s' m_st st' mid new all e e_st is =
    subst (λ (x : CoreState). StoppedAmong s st actors old x st' new) (sym e) (subst (λ (x : StoreState). StoppedAmong s st actors old m x new) (sym e_st) (subst (StoppedAmong s st actors old m m_st) (sym is) (record { taken = k; acted = all })))

-- rounds from an equal core and store
rounds_same : (round : List Actor) (n : ℕ) (s m : CoreState) (st m_st : StoreState) (lines : List Line) (s' : CoreState) (st' : StoreState) → m ≡ s → m_st ≡ st → Rounds round n m m_st lines s' st' → Rounds round n s st lines s' st'
rounds_same round n s m st m_st lines s' st' e e_st rounds =
    subst (λ (x : CoreState). Rounds round n x st lines s' st') e (subst (λ (x : StoreState). Rounds round n m x lines s' st') e_st rounds)

-- rounds, and one round more
rounds_more : (round : List Actor) (n : ℕ) (s : CoreState) (st : StoreState) (a b : List Line) (m : CoreState) (m_st : StoreState) (s' : CoreState) (st' : StoreState) → Rounds round n s st a m m_st → Acts m m_st round b s' st' → 0 < length b → Rounds round (suc n) s st (a ++ b) s' st'
rounds_more round zero s st a b m m_st s' st' (none, same, same_st) acts some =
    (b, s', st', [], from_same s m st m_st round b s' st' same same_st acts, some, (refl, refl, refl), ap (λ (l : List Line). l ++ b) none ∙ sym (append-nil b))
rounds_more round (suc n) s st a b m m_st s' st' (first, x, x_st, rest, acts, made, rounds, is) more some =
    (first, x, x_st, rest ++ b, acts, made, rounds_more round n x x_st rest b m m_st s' st' rounds more some, ap (λ (l : List Line). l ++ b) is ∙ append_assoc first rest b)

-- no round
pub no_rounds : (s : CoreState) (st : StoreState) (round : List Actor) (old : List Line) → WentOn s st round old s st old
no_rounds s st round old = record { count = 0; made = []; rounds = (refl, refl, refl); lines = sym (append-nil old) }

grew : (mid new made : List Line) → new ≡ mid ++ made → (length new ≡ length mid → ⊥) → 0 < length made
grew mid new made is other = let long : length new ≡ length mid + length made = ap length is ∙ length-append mid made in omega arith

-- a round more, which made a line
pub went_more : (s : CoreState) (st : StoreState) (round : List Actor) (old : List Line) (m : CoreState) (m_st : StoreState) (mid : List Line) (s' : CoreState) (st' : StoreState) (new : List Line) → WentOn s st round old m m_st mid → ActedAll m m_st round mid s' st' new → (length new ≡ length mid → ⊥) → WentOn s st round old s' st' new
went_more s st round old m m_st mid s' st' new went all other = record {
  count = suc went.count;
  made = went.made ++ all.made;
  rounds = rounds_more round went.count s st went.made all.made m m_st s' st' went.rounds all.acts (grew mid new all.made all.lines other);
  lines = all.lines ∙ (ap (λ (l : List Line). l ++ all.made) went.lines ∙ append_assoc old went.made all.made);
}

nothing : (mid new made : List Line) → new ≡ mid ++ made → length new ≡ length mid → made ≡ []
nothing mid new [] is same = refl
nothing mid new (line ∷ lines) is same = let long : length new ≡ length mid + length (line ∷ lines) = ap length is ∙ length-append mid (line ∷ lines) in absurd (omega arith)

-- a round that made no line ends them
pub went_round : (s : CoreState) (st : StoreState) (round : List Actor) (old : List Line) (m : CoreState) (m_st : StoreState) (mid : List Line) (s' : CoreState) (st' : StoreState) (new : List Line) → WentOn s st round old m m_st mid → ActedAll m m_st round mid s' st' new → length new ≡ length mid → WentRound s st round old s' st' new
went_round s st round old m m_st mid s' st' new went all same =
    let none = nothing mid new all.made all.lines same in
    record {
      rounded = m;
      rounded_store = m_st;
      went = subst (WentOn s st round old m m_st) (sym (all.lines ∙ (ap (λ (l : List Line). mid ++ l) none ∙ append-nil mid))) went;
      still = subst (λ (l : List Line). Acts m m_st round l s' st') none all.acts;
    }

-- the turns stopped among the stated ones
pub stopped_first : (s : CoreState) (st : StoreState) (turns round : List Actor) (old : List Line) (s' : CoreState) (st' : StoreState) (new : List Line) → StoppedAmong s st turns old s' st' new → SoFar s st turns round old s' st' new
stopped_first s st turns round old s' st' new first = record {
  made = first.acted.made;
  stops = inl (record { taken = first.taken; turns = first.acted.acts });
  lines = first.acted.lines;
}

-- and within a round
pub stopped_round : (s : CoreState) (st : StoreState) (turns round : List Actor) (old : List Line) (m : CoreState) (m_st : StoreState) (mid : List Line) (s' : CoreState) (st' : StoreState) (new : List Line) → ActedAll s st turns old m m_st mid → StoppedRound m m_st round mid s' st' new → SoFar s st turns round old s' st' new
stopped_round s st turns round old m m_st mid s' st' new all more =
    let last = more.stopped.acted in
    let lines : new ≡ ((old ++ all.made) ++ more.went.made) ++ last.made = last.lines ∙ ap (λ (l : List Line). l ++ last.made) (more.went.lines ∙ ap (λ (l : List Line). l ++ more.went.made) all.lines) in
    record {
      made = all.made ++ more.went.made ++ last.made;
      stops = inr (record {
        first_lines = all.made;
        turned = m;
        turned_store = m_st;
        first = all.acts;
        count = more.went.count;
        round_lines = more.went.made;
        rounded = more.rounded;
        rounded_store = more.rounded_store;
        rounds = more.went.rounds;
        last_lines = last.made;
        stops = record { taken = more.stopped.taken; turns = last.acts };
        all = refl;
      });
      lines = lines ∙ (ap (λ (l : List Line). l ++ last.made) (append_assoc old all.made more.went.made) ∙ append_assoc old (all.made ++ more.went.made) last.made);
    }

-- rounds, and some first turns of the next one
pub stopped_within : (s : CoreState) (st : StoreState) (round : List Actor) (old : List Line) (m : CoreState) (m_st : StoreState) (mid : List Line) (s' : CoreState) (st' : StoreState) (new : List Line) → WentOn s st round old m m_st mid → StoppedAmong m m_st round mid s' st' new → StoppedRound s st round old s' st' new
stopped_within s st round old m m_st mid s' st' new went stopped = record { rounded = m; rounded_store = m_st; rounded_lines = mid; went = went; stopped = stopped }

-- a whole round that makes no line is one in which nothing is left to do
pub round_stopped : (s : CoreState) (st : StoreState) (round : List Actor) (old : List Line) (s' : CoreState) (st' : StoreState) (new : List Line) → WentRound s st round old s' st' new → StoppedRound s st round old s' st' new
round_stopped s st round old s' st' new went = record {
  rounded = went.rounded;
  rounded_store = went.rounded_store;
  rounded_lines = new;
  went = went.went;
  stopped = record {
    taken = length round;
    acted = record { made = []; acts = subst (λ (l : List Actor). Acts went.rounded went.rounded_store l [] s' st') (sym (take-length round)) went.still; lines = sym (append-nil new) };
  };
}
