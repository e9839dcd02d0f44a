-- The record of a mark: the mission's id, the index, and pairs of a jump's seq and its used number, at most so many as the
-- layout allows. It has 7 bytes, and 4 for each pair that it may have.
use Rattle.std.specs.Prelude.{◌≡◌, ℕ, zero, suc, ◌+◌, ◌-◌, ◌*◌, ◌≤◌, true, ◌&&◌, List, [], ◌∷◌, ◌++◌, length, drop, replicate, Option, Some, None, nat_le, if◌then◌else◌}
use Rattle.std.specs.List.{flat_map}
use Rattle.mission_model.specs.declared.counts.Mark.{Mark}
pub use Rattle.mission_model.specs.PlainMark.{PlainMark, plain_mark}
use Rattle.mission_model.specs.Pairs.{rises_from}
use Rattle.dataman_layout.specs.Fields.{number_bytes, number_at, is_zeros}

-- such a mark, if there is one
abbrev pub plain_marks : Option Mark → Option PlainMark
plain_marks None = None
plain_marks (Some mark) = Some (plain_mark mark)

-- the bytes of a pair
abbrev pub pair_bytes : ℕ × ℕ → List ℕ
pair_bytes pair = number_bytes 2 pair.0 ++ number_bytes 2 pair.1

-- the bytes of a mark that may have `most` pairs, field by field
unfoldable pub mark_bytes : ℕ → PlainMark → List ℕ
mark_bytes most mark =
    number_bytes 4 mark.id ++ number_bytes 2 mark.index ++ number_bytes 1 (length mark.pairs)
    ++ flat_map pair_bytes mark.pairs ++ replicate (4 * most - 4 * length mark.pairs) 0

-- the pair in place k of the bytes
abbrev pub pair_at : List ℕ → ℕ → ℕ × ℕ
pair_at bytes k = (number_at (7 + 4 * k) 2 bytes, number_at (9 + 4 * k) 2 bytes)

-- the first n pairs of the bytes
abbrev pub pairs_in : List ℕ → ℕ → List (ℕ × ℕ)
pairs_in bytes zero = []
pairs_in bytes (suc n) = pairs_in bytes n ++ pair_at bytes n ∷ []

-- the bytes are the mark's: the number of so many bytes at each place, rising pairs that are used at least once, and zeros behind them
pub record MarkRecord (most : ℕ) (bytes : List ℕ) (mark : PlainMark) : Type 0 where
  pub size : length bytes ≡ 7 + 4 * most
  pub id : number_at 0 4 bytes ≡ mark.id
  pub index : number_at 4 2 bytes ≡ mark.index
  pub number : number_at 6 1 bytes ≡ length mark.pairs
  pub few : length mark.pairs ≤ most
  pub pairs : pairs_in bytes (length mark.pairs) ≡ mark.pairs
  pub rise : rises_from 0 mark.pairs ≡ true
  pub rest : is_zeros (drop (7 + 4 * length mark.pairs) bytes) ≡ true

-- the mark of these bytes, if they are one's
unfoldable pub mark_in : ℕ → List ℕ → Option PlainMark
mark_in most bytes =
    let n = number_at 6 1 bytes in
    let pairs = pairs_in bytes n in
    if nat_le n most && (rises_from 0 pairs && is_zeros (drop (7 + 4 * n) bytes)) then Some (record { id = number_at 0 4 bytes; index = number_at 4 2 bytes; pairs = pairs }) else None
