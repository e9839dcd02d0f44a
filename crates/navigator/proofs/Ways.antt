-- The way out of the Navigator and back into it.
use Rattle.std.proofs.Common.{◌≡◌, List, None, refl}
use Rattle.mission_model.specs.declared.plan.Item.{Item}
use Rattle.navigator.specs.NavState.{NavState, with_taken}

pub without_way : (n : NavState) (items : List Item) → n.way ≡ None → with_taken n items ≡ record (with_taken n items) { way = None }
without_way n items h = rw h refl
