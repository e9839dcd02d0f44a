use Rattle.std.proofs.Common.{rules, ◌≡◌, ◌<◌, ◌^◌, ℤ, pos, ◌+ℤ◌, ◌-ℤ◌, Some, arith, ◌∙◌, sym, ap}
use Rattle.std.specs.Prelude.{unsigned_abs, ◌≤ℤ◌, ◌<ℤ◌}
use Rattle.std.specs.Int.{cast_signed, cast_unsigned, w32, w64}
use Rattle.std.proofs.lemmas.Int.{ints, to_z-of_z}
use Rattle.mission_model.specs.Returns.{measure_to, shorter_way}
use Rattle.return_mode.proofs.measure.measure_to.Goals as goal

-- the sum of two numbers of about 32 bits fits, and so is what a cast gives back
cast_sum : (p q : ℤ) → pos 0 ≤ℤ p → p <ℤ pos (2 ^ 32) → unsigned_abs q < 2 ^ 32 → cast_signed w64 (cast_unsigned w64 (cast_signed w64 (cast_unsigned w64 p) +ℤ cast_signed w64 (cast_unsigned w64 q))) ≡ p +ℤ q
cast_sum p q low high small = omega (arith, ints)

cast_difference : (p : ℤ) → pos 0 ≤ℤ p → p <ℤ pos (2 ^ 32) → cast_signed w64 (cast_unsigned w64 p) ≡ p
cast_difference p low high = omega (arith, ints)

pub returns-in-Some : goal.returns-in-Some
returns-in-Some c =
    let here_x : cast_signed w32 (cast_unsigned w32 c.in-Some.here_x) ≡ c.in-Some.here_x = to_z-of_z w32 c.in-Some.here_x (search rules) in
    let here_y : cast_signed w32 (cast_unsigned w32 c.in-Some.here_y) ≡ c.in-Some.here_y = to_z-of_z w32 c.in-Some.here_y (search rules) in
    let x : cast_signed w32 (cast_unsigned w32 c.args.x) ≡ c.args.x = to_z-of_z w32 c.args.x c.ranges.x in
    let y : cast_signed w32 (cast_unsigned w32 c.args.y) ≡ c.args.y = to_z-of_z w32 c.args.y c.ranges.y in
    let over : c.difference.result ≡ pos (unsigned_abs (c.in-Some.here_x -ℤ c.args.x)) = cc (c.difference.ensures.value, here_x, x) in
    let along : cast_signed w64 (cast_unsigned w64 c.difference-in-Some.result) ≡ pos (unsigned_abs (c.in-Some.here_y -ℤ c.args.y)) = cc (cast_difference c.difference-in-Some.result c.difference-in-Some.ensures.low c.difference-in-Some.ensures.high, c.difference-in-Some.ensures.value, here_y, y) in
    let across : c.shorter_way.result ≡ shorter_way (pos (unsigned_abs (c.in-Some.here_y -ℤ c.args.y))) = c.shorter_way.ensures.value ∙ ap shorter_way along in
    let sum : c.difference.result +ℤ c.shorter_way.result ≡ measure_to (Some (c.in-Some.here_x, c.in-Some.here_y)) c.args.x c.args.y = cc (over, across) in
    cast_sum c.difference.result c.shorter_way.result c.difference.ensures.low c.difference.ensures.high c.shorter_way.ensures.small ∙ sum ∙ ap (λ p. measure_to p c.args.x c.args.y) (sym c.in-Some.is)
