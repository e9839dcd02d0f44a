use Rattle.std.proofs.Common.{rules, ◌≡◌, ◌<◌, ◌^◌, ℤ, ◌-ℤ◌, ◌*ℤ◌, arith, ◌∙◌}
use Rattle.std.specs.Prelude.{FitsSigned, unsigned_abs}
use Rattle.std.specs.Int.{cast_signed, cast_unsigned, w32, w64}
use Rattle.std.proofs.lemmas.Int.{ints}
use mir.Syntax.{w128}
use Rattle.fence_polygon.proofs.turn.cross_product.Goals as goal

pub overflow_sub-result : goal.overflow_sub-result
overflow_sub-result c = omega (arith, ints)

-- the difference of two numbers of at most 64 bits fits, and so is what a cast gives back
cast_difference : (p q : ℤ) → unsigned_abs p < 2 ^ 64 → unsigned_abs q < 2 ^ 64 → cast_signed w128 (cast_unsigned w128 (cast_signed w128 (cast_unsigned w128 p) -ℤ cast_signed w128 (cast_unsigned w128 q))) ≡ p -ℤ q
cast_difference p q hp hq = omega (arith, ints)

-- a cast of a number of less than 32 bits and its sign gives it back
cast_small : (d n from : ℤ) → FitsSigned w32 n → FitsSigned w32 from → unsigned_abs d < 2 ^ 32 → d ≡ cast_signed w32 (cast_unsigned w32 n) -ℤ cast_signed w32 (cast_unsigned w32 from) → cast_signed w64 (cast_unsigned w64 d) ≡ n -ℤ from
cast_small d n from hn hf h e = omega (arith, ints)

pub returns : goal.returns
returns c =
    let along = cast_small c.difference.result c.args.b.0 c.args.a.0 (search rules) (search rules) c.difference.ensures.small c.difference.ensures.value in
    let over = cast_small c.difference-2.result c.args.c.1 c.args.a.1 (search rules) (search rules) c.difference-2.ensures.small c.difference-2.ensures.value in
    let across = cast_small c.difference-3.result c.args.b.1 c.args.a.1 (search rules) (search rules) c.difference-3.ensures.small c.difference-3.ensures.value in
    let up = cast_small c.difference-4.result c.args.c.0 c.args.a.0 (search rules) (search rules) c.difference-4.ensures.small c.difference-4.ensures.value in
    let left : c.product.result ≡ (c.args.b.0 -ℤ c.args.a.0) *ℤ (c.args.c.1 -ℤ c.args.a.1) = cc (c.product.ensures.value, along, over) in
    let right : c.product-2.result ≡ (c.args.b.1 -ℤ c.args.a.1) *ℤ (c.args.c.0 -ℤ c.args.a.0) = cc (c.product-2.ensures.value, across, up) in
    cast_difference c.product.result c.product-2.result c.product.ensures.small c.product-2.ensures.small ∙ cc (left, right)
