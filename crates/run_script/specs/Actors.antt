-- The actors that a line `turns` names.
use Rattle.std.specs.Prelude.{ℕ, ◌-◌, List, length, get_or, Bool, ◌&&◌, ◌==◌, nat_le, Option, Some, None, codes, if◌then◌else◌}
use Rattle.mission_model.specs.declared.flight_line.Actor.{Actor}
use Rattle.mission_model.specs.declared.flight_line.Actor.TheVariants.{Worker, Link, Nav, Watch}
use Rattle.run_script.specs.Choices.{is_same}

-- whether a name is a letter and a digit from 0 to a last one
abbrev pub is_numbered : ℕ → ℕ → List ℕ → Bool
is_numbered letter last name = (length name == 2) && (get_or name 0 0 == letter) && nat_le 48 (get_or name 1 0) && nat_le (get_or name 1 0) last

-- the actor of a name: `w`, `n`, a link `l0` to `l7` or a watcher `v0` to `v3`
unfoldable pub actor_of : List ℕ → Option Actor
actor_of name =
    if is_same name (codes "w") then Some Worker
    else (if is_same name (codes "n") then Some Nav
    else (if is_numbered 108 55 name then Some (Link (get_or name 1 0 - 48))
    else (if is_numbered 118 51 name then Some (Watch (get_or name 1 0 - 48))
    else None)))
