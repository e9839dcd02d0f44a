-- The words that select a form, and the numbers that some of them stand for.
use Rattle.std.specs.Prelude.{ℕ, List, [], ◌∷◌, Bool, nat_eq, Option, Some, None, codes, if◌then◌else◌}
use Rattle.std.specs.Cmp.Lexicographic.{pointwise}
use Rattle.mission_model.specs.declared.plan_type.TheConstants.{ALL_TYPES}
use Rattle.run_script.specs.declared.table.Choice.{Choice}
use Rattle.run_script.specs.declared.table.Choice.TheVariants as choice

-- whether a word has these bytes
abbrev pub is_same : List ℕ → List ℕ → Bool
is_same word text = pointwise nat_eq word text

-- the words that may stand where one of a choice is wanted, each with its number
abbrev pub choices : Choice → List (List ℕ × ℕ)
choices choice.TkoLand = (codes "TKO_LAND", 0) ∷ []
choices choice.TakeoffMin = (codes "TAKEOFF_MIN", 0) ∷ []
choices choice.MaxAlt = (codes "MAX_ALT", 0) ∷ []
choices choice.RtlType = (codes "RTL_TYPE", 0) ∷ []
choices choice.Distance = (codes "DIST_1WP", 0) ∷ (codes "DIST_WPS", 1) ∷ []
choices choice.Kind = (codes "mission", 0) ∷ (codes "fence", 1) ∷ (codes "safe", 2) ∷ []
choices choice.Types = (codes "mission", 0) ∷ (codes "fence", 1) ∷ (codes "safe", 2) ∷ (codes "all", ALL_TYPES) ∷ []
choices choice.HomeFirst = (codes "home-first", 0) ∷ []
choices choice.Cut = (codes "cut", 0) ∷ (codes "cut-read", 1) ∷ []
choices choice.Old = (codes "old", 0) ∷ []
choices choice.New = (codes "new", 0) ∷ []
choices choice.Front = (codes "front", 0) ∷ []
choices choice.Fill = (codes "fill", 0) ∷ []
choices choice.Count = (codes "count", 0) ∷ []
choices choice.Item = (codes "item", 0) ∷ []
choices choice.Clear = (codes "clear", 0) ∷ []
choices choice.SetCurrent = (codes "set-current", 0) ∷ []
choices choice.Cancel = (codes "cancel", 0) ∷ []
choices choice.Timeout = (codes "timeout", 0) ∷ []
choices choice.Upload = (codes "upload", 0) ∷ []
choices choice.Wait = (codes "wait", 0) ∷ []
choices choice.Meet = (codes "meet", 0) ∷ []
choices choice.Tick = (codes "tick", 0) ∷ []
choices choice.Go = (codes "go", 0) ∷ []
choices choice.Reached = (codes "reached", 0) ∷ []
choices choice.Mode = (codes "mode", 0) ∷ []
choices choice.Modes = (codes "hold", 0) ∷ (codes "mission", 1) ∷ (codes "return", 2) ∷ []
choices choice.Position = (codes "position", 0) ∷ []
choices choice.Do = (codes "do", 0) ∷ []

-- the number of the first of these words that is the token
abbrev pub number_in : List (List ℕ × ℕ) → List ℕ → Option ℕ
number_in [] token = None
number_in (word ∷ words) token = if is_same token word.0 then Some word.1 else number_in words token

-- the number of a token in a choice
unfoldable pub number_among : Choice → List ℕ → Option ℕ
number_among choice token = number_in (choices choice) token
