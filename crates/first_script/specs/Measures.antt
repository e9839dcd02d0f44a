-- What lines of scaled numbers state: each is the nearest to what its word writes.
use Rattle.std.specs.Prelude.{◌≡◌, ◌≢◌, ◌⊎◌, ℕ, List, Some, ℤ, pos, neg_ℤ, ◌≤ℤ◌}
use Rattle.first_num.specs.Faults.{ReadsAs}
use Rattle.first_model.specs.declared.plan.Home.{Home}
use Rattle.first_script.specs.declared.bounds.TheConstants.{HEIGHT_SCALE, PLACE_SCALE, MAX_LATITUDE, MAX_LONGITUDE, MIN_HEIGHT, MAX_HEIGHT}
use Rattle.first_script.specs.declared.fault.ScriptFault.{ScriptFault}
use Rattle.first_script.specs.declared.fault.ScriptFault.TheVariants as fault
use Rattle.first_script.specs.declared.form.Measure.{Measure}
use Rattle.first_script.specs.declared.form.Measure.TheVariants as measure
use Rattle.first_script.specs.declared.draft.Draft.{Draft}
use Rattle.first_script.specs.Words.{word}
use Rattle.first_script.specs.Entries.{with_params}

-- the word writes this number at a scale, and the number lies in a range
pub record IsScaledIn (scale : ℕ) (low high : ℤ) (word : List ℕ) (n : ℤ) : Type 0 where
  pub reads : ReadsAs word scale n
  pub above : low ≤ℤ n
  pub below : n ≤ℤ high

-- a height that is not below 0
abbrev pub IsHeight : List ℕ → ℤ → Type 0
IsHeight word n = IsScaledIn HEIGHT_SCALE (pos 0) (pos 2147483647) word n

-- the parts of a home
abbrev pub IsLatitude : List ℕ → ℤ → Type 0
IsLatitude word n = IsScaledIn PLACE_SCALE (neg_ℤ MAX_LATITUDE) MAX_LATITUDE word n

abbrev pub IsLongitude : List ℕ → ℤ → Type 0
IsLongitude word n = IsScaledIn PLACE_SCALE (neg_ℤ MAX_LONGITUDE) MAX_LONGITUDE word n

abbrev pub IsHomeHeight : List ℕ → ℤ → Type 0
IsHomeHeight word n = IsScaledIn HEIGHT_SCALE MIN_HEIGHT MAX_HEIGHT word n

-- nothing is such a number
abbrev pub IsNone : (ℤ → Type 0) → Type 0
IsNone P = (n : ℤ) → ¬ (P n)

-- the home of three words
pub record IsHomeOf (words : List (List ℕ)) (home : Home) : Type 0 where
  pub latitude : IsLatitude (word 1 words) home.x
  pub longitude : IsLongitude (word 2 words) home.y
  pub height : IsHomeHeight (word 3 words) home.z

-- the first word of a home that is no such number
abbrev pub IsHomeFault : List (List ℕ) → ScriptFault → Type 0
IsHomeFault words f =
    ((f ≡ fault.Number 2) × IsNone (IsLatitude (word 1 words)))
    ⊎ (((f ≡ fault.Number 3) × ((n : ℤ) × IsLatitude (word 1 words) n) × IsNone (IsLongitude (word 2 words)))
    ⊎ ((f ≡ fault.Number 4) × ((n : ℤ) × IsLatitude (word 1 words) n) × ((n : ℤ) × IsLongitude (word 2 words) n) × IsNone (IsHomeHeight (word 3 words))))

-- the height of a parameter
abbrev pub TakesHeight : List (List ℕ) → ℤ → Type 0
TakesHeight words n = IsHeight (word 2 words) n

-- what the lines up to this one state
abbrev pub Measures : Draft → Measure → List (List ℕ) → Draft → Type 0
Measures draft measure.Takeoff words next = (n : ℤ) × TakesHeight words n × (next ≡ with_params draft (record draft.params { takeoff_min = n }))
Measures draft measure.Ceiling words next = (n : ℤ) × TakesHeight words n × (next ≡ with_params draft (record draft.params { max_alt = n }))
Measures draft measure.Distance words next = ReadsAs (word 2 words) HEIGHT_SCALE (pos 0) × (next ≡ with_params draft draft.params)
Measures draft measure.Home words next = (home : Home) × IsHomeOf words home × (next ≡ record draft { home = Some home })

-- the fault of such a line: the first of its words that is no such number, or else a distance that is not 0
abbrev pub IsMeasureFault : Measure → List (List ℕ) → ScriptFault → Type 0
IsMeasureFault measure.Takeoff words f = (f ≡ fault.Number 3) × IsNone (TakesHeight words)
IsMeasureFault measure.Ceiling words f = (f ≡ fault.Number 3) × IsNone (TakesHeight words)
IsMeasureFault measure.Distance words f =
    ((f ≡ fault.Number 3) × IsNone (ReadsAs (word 2 words) HEIGHT_SCALE))
    ⊎ ((f ≡ fault.Distance) × ((n : ℤ) × ReadsAs (word 2 words) HEIGHT_SCALE n × (n ≢ pos 0)))
IsMeasureFault measure.Home words f = IsHomeFault words f
