-- The texts of what belongs to plans: plan types, heads, items and marks.
use Rattle.std.specs.Prelude.{ℕ, ℤ, Bool, true, false, List, ◌++◌, codes, decimal}
use Rattle.std.specs.List.{flat_map}
use Rattle.std.specs.Fmt.{signed_decimal}
use Rattle.first_model.specs.declared.plan.Item.{Item}
use Rattle.first_model.specs.declared.plan.Param.{Param}
use Rattle.first_model.specs.declared.plan.Param.TheVariants.{Unset, Milli}
use Rattle.first_model.specs.declared.plan.PlanHead.{PlanHead}
use Rattle.first_model.specs.declared.plan.PlanType.{PlanType}
use Rattle.first_model.specs.declared.plan.PlanType.TheVariants.{Mission, Fence, Safe}

-- a plan type's word
abbrev pub kind_text : PlanType → List ℕ
kind_text Mission = codes "mission"
kind_text Fence = codes "fence"
kind_text Safe = codes "safe"

-- a plan's head: ID/COUNT
abbrev pub head_text : PlanHead → List ℕ
head_text head = decimal head.id ++ codes "/" ++ decimal head.count

-- a parameter: its thousandths, or - where it is not given
abbrev pub param_text : Param → List ℕ
param_text Unset = codes "-"
param_text (Milli thousandths) = signed_decimal thousandths

-- a flag: 1 or 0
abbrev pub flag_text : Bool → List ℕ
flag_text true = codes "1"
flag_text false = codes "0"

-- an item's parameters: P1 P2 P3 P4
abbrev pub params_text : Item → List ℕ
params_text item =
    param_text item.p1 ++ codes " " ++ param_text item.p2 ++ codes " " ++ param_text item.p3 ++ codes " " ++ param_text item.p4

-- a place: X Y Z
abbrev pub place_text : ℤ → ℤ → ℤ → List ℕ
place_text x y z = signed_decimal x ++ codes " " ++ signed_decimal y ++ codes " " ++ signed_decimal z

-- an item: FRAME COMMAND P1 P2 P3 P4 X Y Z AUTO
abbrev pub item_text : Item → List ℕ
item_text item =
    decimal item.frame ++ codes " " ++ decimal item.command ++ codes " " ++ params_text item
    ++ codes " " ++ place_text item.x item.y item.z ++ codes " " ++ flag_text item.auto

-- a pair of a mark, with a space before it: SEQ:USED
abbrev pub pair_text : ℕ × ℕ → List ℕ
pair_text (seq, used) = codes " " ++ decimal seq ++ codes ":" ++ decimal used

-- the pairs, each with a space before it
abbrev pub pairs_text : List (ℕ × ℕ) → List ℕ
pairs_text pairs = flat_map pair_text pairs
