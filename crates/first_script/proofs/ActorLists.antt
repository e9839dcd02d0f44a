-- The actors of names, one name more at a time.
use Rattle.std.proofs.Common.{◌≡◌, List, [], ◌∷◌, ◌++◌, ℕ, append_assoc, append-nil, ap}
use Rattle.std.specs.Prelude.{Option, Some, None}
use Rattle.first_model.specs.declared.flight_line.Actor.{Actor}
use Rattle.first_script.specs.Actors.{actor_of}
use Rattle.first_script.specs.Entries.{actors_more, actors_of}

pub more_behind : (before : List Actor) (first : Option Actor) (actors : List Actor) → (before ++ actors_more first []) ++ actors ≡ before ++ actors_more first actors
more_behind before None actors = ap (λ (l : List Actor). l ++ actors) (append-nil before)
more_behind before (Some actor) actors = append_assoc before (actor ∷ []) actors

pub actors_behind : (before : List Actor) (name : List ℕ) (names : List (List ℕ)) → (before ++ actors_more (actor_of name) []) ++ actors_of names ≡ before ++ actors_of (name ∷ names)
actors_behind before name names = more_behind before (actor_of name) (actors_of names)
