-- The counts of a list of pairs, and a mark at the front of bytes.
use Rattle.std.specs.Prelude.{◌≡◌, ℕ, ◌^◌, ◌-◌, Bool, true, false, List, [], ◌++◌, length, drop, replicate}
use Rattle.std.proofs.Common.{refl}
use Rattle.mission_model.specs.Pairs.{is_kept}
use Rattle.mission_model.specs.declared.limits.TheConstants.{MAX_JUMPS}
use Rattle.mission_model.specs.declared.counts.Counts.{Counts}
use Rattle.mission_model.specs.declared.counts.Mark.{Mark}
use Rattle.record_text.specs.Numbers.{number_at}
use Rattle.record_text.specs.PlanReading.{pairs_at}

-- the cells of pairs: these, and empty ones behind them
abbrev pub cells_of : List (ℕ × ℕ) → List (ℕ × ℕ)
cells_of pairs = pairs ++ replicate (MAX_JUMPS - length pairs) (0, 0)

-- the counts of some cells, none where they are not kept so
unfoldable pub counts_if : (len : ℕ) (cells : List (ℕ × ℕ)) (test : Bool) → is_kept len cells ≡ test → Counts
counts_if len cells true kept = record { len = len; pairs = cells; kept = kept }
counts_if len cells false kept = record { len = 0; pairs = cells_of []; kept = refl }

-- the counts of these pairs
unfoldable pub counts_of : List (ℕ × ℕ) → Counts
counts_of pairs = counts_if (length pairs) (cells_of pairs) (is_kept (length pairs) (cells_of pairs)) refl

-- INDEX PAIRS of a mark on the mission of this id
unfoldable pub index_at : ℕ → List ℕ → Mark × List ℕ
index_at id bytes =
    let index = number_at (2 ^ 16) bytes in
    let pairs = pairs_at index.1 in
    (record { id = id; index = index.0; counts = counts_of pairs.0 }, pairs.1)

-- ID/INDEX PAIRS
unfoldable pub mark_at : List ℕ → Mark × List ℕ
mark_at bytes = let id = number_at (2 ^ 32) bytes in index_at id.0 (drop 1 id.1)
