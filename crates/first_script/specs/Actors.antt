-- The actors that a line `turns` names.
use Rattle.std.specs.Prelude.{ℕ, List, length, get_or, Bool, ◌&&◌, ◌||◌, ◌==◌, nat_le, Option, Some, None, codes, if◌then◌else◌}
use Rattle.first_model.specs.declared.flight_line.Actor.{Actor}
use Rattle.first_model.specs.declared.flight_line.Actor.TheVariants.{Worker, Link, Nav}
use Rattle.first_script.specs.Words.{is_same}

-- whether a name is a letter and a digit up to a last one
abbrev pub is_numbered : ℕ → ℕ → List ℕ → Bool
is_numbered letter last name = (length name == 2) && (get_or name 0 0 == letter) && nat_le 48 (get_or name 1 0) && nat_le (get_or name 1 0) last

-- whether a name is that of an actor: `w`, `n`, a link `l0` to `l7` or a watcher `v0` to `v3`
unfoldable pub is_actor : List ℕ → Bool
is_actor name = is_same name (codes "w") || is_same name (codes "n") || is_numbered 108 55 name || is_numbered 118 51 name

-- the actor of a name, where it is one that a run of today may have
unfoldable pub actor_of : List ℕ → Option Actor
actor_of name =
    if is_same name (codes "w") then Some Worker
    else (if is_same name (codes "n") then Some Nav
    else (if is_same name (codes "l0") then Some (Link 0)
    else None))
