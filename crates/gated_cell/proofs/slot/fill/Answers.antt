use Rattle.std.proofs.Common.{rules, List, ℕ, drop, ◌++◌, ap, ◌∙◌}
use Rattle.std.specs.Prelude.{take}
use Rattle.std.specs.Int.{to_le_bytes, w64}
use Rattle.std.proofs.lemmas.Slice.{take-put_mid}
use Rattle.gated_cell.proofs.slot.fill.Goals as goal

pub returns-clause-bytes : goal.returns-clause-bytes
returns-clause-bytes c =
    take-put_mid 8 _ (c.copy_from_slice.new.self ++ drop 8 c.args.bytes.now) c.copy_from_slice-2.new.self _ (search rules) (search rules)
    ∙ ap (λ (l : List ℕ). take 8 (l ++ drop 8 c.args.bytes.now) ++ c.copy_from_slice-2.new.self) (c.copy_from_slice.ensures.after ∙ c.to_le_bytes.ensures)
    ∙ ap (λ (l : List ℕ). to_le_bytes w64 c.args.generation ++ l) c.copy_from_slice-2.ensures.after
