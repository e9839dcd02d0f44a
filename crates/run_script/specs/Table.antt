-- Where the rows of the table stand: which first words there are in front of the first boot, and which behind it.
use Rattle.std.specs.Prelude.{ℕ, List, [], Bool, codes, if◌then◌else◌}
use Rattle.run_script.specs.declared.table.Row.{Row}
use Rattle.run_script.specs.declared.table.TheConstants.{PARAM_ROWS, HOME_ROWS, PLAN_ROWS, BOOT_ROWS, LINK_ROWS, NAV_ROWS, WATCH_ROWS}
use Rattle.run_script.specs.Choices.{is_same}

-- the rows of lines of the head that begin with a word
abbrev pub head_rows : List ℕ → List Row
head_rows word =
    if is_same word (codes "param") then PARAM_ROWS
    else (if is_same word (codes "home") then HOME_ROWS
    else (if is_same word (codes "plan") then PLAN_ROWS
    else []))

-- the rows of lines behind a boot
abbrev pub flight_rows : List ℕ → List Row
flight_rows word =
    if is_same word (codes "link") then LINK_ROWS
    else (if is_same word (codes "nav") then NAV_ROWS
    else (if is_same word (codes "watch") then WATCH_ROWS
    else []))

-- the rows of lines that begin with a word, in front of the first boot or behind it
unfoldable pub rows_of : Bool → List ℕ → List Row
rows_of booted word =
    if is_same word (codes "boot") then BOOT_ROWS
    else (if booted then flight_rows word else head_rows word)
