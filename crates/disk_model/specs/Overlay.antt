-- A list of bytes with some others laid over it.
use Rattle.std.specs.Prelude.{◌≡◌, ℕ, zero, suc, ◌+◌, ◌<◌, ◌≤◌, List, [], ◌∷◌, length, get_or, set}
use Rattle.std.proofs.Common.{inl, inr, refl, ◌∙◌, ap, arith}
use Rattle.std.proofs.lemmas.Grind.{get_or-set_at}
use Rattle.std.proofs.lemmas.List.{length-set, get_or-set_other}
use Rattle.disk_model.specs.Bytes.{Torn, Outside}

-- a list with these bytes from `at` on
abbrev pub overlay : ℕ → List ℕ → List ℕ → List ℕ
overlay at [] old = old
overlay at (x ∷ xs) old = set (overlay (suc at) xs old) at x

-- the size stays
pub length-overlay : (bytes : List ℕ) (at : ℕ) (old : List ℕ) → length (overlay at bytes old) ≡ length old
length-overlay [] at old = refl
length-overlay (x ∷ xs) at old = length-set (overlay (suc at) xs old) at x ∙ length-overlay xs (suc at) old

-- and each byte elsewhere
pub overlay_outside : (bytes : List ℕ) (at : ℕ) (old : List ℕ) (k : ℕ) → Outside at (length bytes) k → get_or (overlay at bytes old) k 0 ≡ get_or old k 0
overlay_outside [] at old k outside = refl
overlay_outside (x ∷ xs) at old k (inl before) =
    get_or-set_other (overlay (suc at) xs old) at k x 0 (λ same. absurd (omega (arith, before, same))) ∙ overlay_outside xs (suc at) old k (inl (omega (arith, before)))
overlay_outside (x ∷ xs) at old k (inr behind) =
    get_or-set_other (overlay (suc at) xs old) at k x 0 (λ same. absurd (omega (arith, behind, same))) ∙ overlay_outside xs (suc at) old k (inr (omega (arith, behind)))

-- what is laid over is there
pub overlay_inside : (bytes : List ℕ) (at : ℕ) (old : List ℕ) (k : ℕ) → at + length bytes ≤ length old → k < length bytes → get_or (overlay at bytes old) (at + k) 0 ≡ get_or bytes k 0
overlay_inside [] at old k fits below = absurd (omega (arith, below))
overlay_inside (x ∷ xs) at old zero fits below =
    let long : at < length (overlay (suc at) xs old) = omega (arith, length-overlay xs (suc at) old, fits) in
    get_or-set_at (overlay (suc at) xs old) at (at + 0) x 0 (omega arith) long
overlay_inside (x ∷ xs) at old (suc k) fits below =
    let step : at + suc k ≡ suc at + k = omega arith in
    get_or-set_other (overlay (suc at) xs old) at (at + suc k) x 0 (λ same. absurd (omega (arith, same)))
    ∙ ap (λ (j : ℕ). get_or (overlay (suc at) xs old) j 0) step
    ∙ overlay_inside xs (suc at) old k (omega (arith, fits)) (omega (arith, below))

-- nothing but its range changes
pub torn_overlay : (at : ℕ) (bytes old : List ℕ) → Torn at (length bytes) old (overlay at bytes old)
torn_overlay at bytes old = record { size = length-overlay bytes at old; others = overlay_outside bytes at old }
