-- When a straight leg and an edge have a place in common. A place is its latitude and its longitude.
use Rattle.std.specs.Prelude.{◌≡◌, ℕ, ◌≤◌, ℤ, pos, ◌+ℤ◌, ◌-ℤ◌, ◌*ℤ◌}

-- the leg from p to q and the edge from a to b meet: cut into as many parts, at least one, the place after some of the leg's
-- parts is the place after some of the edge's, in both coordinates (here times the number of parts); ends belong to both
pub record Meets (p q a b : ℤ × ℤ) : Type 0 where
  pub parts : ℕ
  pub of_leg : ℕ
  pub of_edge : ℕ
  pub some : 1 ≤ parts
  pub on_leg : of_leg ≤ parts
  pub on_edge : of_edge ≤ parts
  pub latitude : pos parts *ℤ p.0 +ℤ pos of_leg *ℤ (q.0 -ℤ p.0) ≡ pos parts *ℤ a.0 +ℤ pos of_edge *ℤ (b.0 -ℤ a.0)
  pub longitude : pos parts *ℤ p.1 +ℤ pos of_leg *ℤ (q.1 -ℤ p.1) ≡ pos parts *ℤ a.1 +ℤ pos of_edge *ℤ (b.1 -ℤ a.1)
