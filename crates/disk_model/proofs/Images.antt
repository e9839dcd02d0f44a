-- The images that a write leaves.
use Rattle.std.proofs.Common.{◌≡◌, ◌⊎◌, ◌+◌, ◌<◌, ◌≤◌, ◌-◌, ℕ, Bool, false, List, length, get_or, inl, inr, sym, ◌∙◌, ap, subst, arith}
use Rattle.disk_model.specs.Bytes.{field, Outside, Torn}
use Rattle.disk_model.specs.Places.{length-field, get_or-field, sides}
use Rattle.disk_model.specs.Overlay.{overlay, overlay_inside, torn_overlay}
use Rattle.disk_model.specs.Disk.{Follows}
use Rattle.disk_model.specs.Tears.{IsImage}

-- c with the n bytes of b from `at` on
from_before : (at n : ℕ) (b c : List ℕ) → Torn at n c (overlay at (field at n b) c)
from_before at n b c = subst (λ (m : ℕ). Torn at m c (overlay at (field at n b) c)) (length-field b n at) (torn_overlay at (field at n b) c)

-- Each image after a write, whose range is pending, is one from before it but for its range.
pub images_follow : (at n m : ℕ) (b b' : List ℕ) (p p' : List Bool) → m ≤ n → at + n ≤ length b → Torn at m b b'
    → ((k : ℕ) → Outside at n k → get_or p' k false ≡ get_or p k false) → Follows (Torn at n) (IsImage b p) (IsImage b' p')
images_follow at n m b b' p p' short fits torn unmarked c left = (
  overlay at (field at n b) c,
  record { size = before.size ∙ left.size ∙ torn.size; kept = λ k dry. kept k dry (sides at n k) },
  record { size = sym before.size; others = λ k outside. sym (before.others k outside) },
)
  where
    before : Torn at n c (overlay at (field at n b) c)
    before = from_before at n b c

    wider : (k : ℕ) → Outside at n k → Outside at m k
    wider k (inl low) = inl low
    wider k (inr behind) = inr (omega (arith, behind, short))

    inside : (k : ℕ) → at ≤ k → k < at + n → get_or (overlay at (field at n b) c) k 0 ≡ get_or b k 0
    inside k low high =
        let there : at + (k - at) ≡ k = omega (arith, low) in
        let below : k - at < n = omega (arith, low, high) in
        let all : at + length (field at n b) ≤ length c = omega (arith, length-field b n at, fits, left.size, torn.size) in
        ap (λ (j : ℕ). get_or (overlay at (field at n b) c) j 0) (sym there)
        ∙ overlay_inside (field at n b) at c (k - at) all (omega (arith, below, length-field b n at))
        ∙ get_or-field b n at (k - at) below
        ∙ ap (λ (j : ℕ). get_or b j 0) there

    kept : (k : ℕ) → get_or p k false ≡ false → (at ≤ k) × (k < at + n) ⊎ Outside at n k → get_or (overlay at (field at n b) c) k 0 ≡ get_or b k 0
    kept k dry (inl there) = inside k there.0 there.1
    kept k dry (inr outside) = before.others k outside ∙ (left.kept k (unmarked k outside ∙ dry) ∙ torn.others k (wider k outside))
