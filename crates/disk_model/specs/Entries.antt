-- The kept changes of a disk that records its calls.
use Rattle.std.specs.Prelude.{ℕ, ◌-◌, if◌then◌else◌, Bool, true, false, List, [], ◌∷◌, length, take, Option, Some, None, slice_get}
use Rattle.disk_model.specs.History.{Change, Put, Settle}
use Rattle.disk_model.specs.declared.entry.Entry.{Entry}
use Rattle.disk_model.specs.declared.entry.Entry.TheVariants as entry

-- the change that an entry keeps
abbrev pub change_of : Entry → Change
change_of (entry.Write at len bytes) = Put at (take len bytes)
change_of entry.Settle = Settle

abbrev pub changes_of : List Entry → List Change
changes_of [] = []
changes_of (e ∷ es) = change_of e ∷ changes_of es

abbrev pub settles : Option Entry → Bool
settles None = true
settles (Some (entry.Write _ _ _)) = false
settles (Some entry.Settle) = true

-- whether no write came since the last sync or restart
abbrev pub ends_settled : List Entry → Bool
ends_settled es = settles (slice_get es (length es - 1))

-- the room that a restart would take
abbrev pub restart_room : List Entry → ℕ
restart_room es = if ends_settled es then 0 else 1
