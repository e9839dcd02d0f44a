use Rattle.std.proofs.Common.{◌≡◌, ℕ, ◌+◌, ◌<◌, ◌≤◌, List, length, Option, None, refl, arith}
use Rattle.std.specs.Prelude.{slice_index_or}
use Rattle.std.proofs.lemmas.Grind.{common_steps}
use Rattle.std.specs.Vec.{vec_len}
use Rattle.first_model.specs.declared.plan.Item.{Item}
use Rattle.first_cache.specs.CacheState.{CacheState, known_at}
use Rattle.first_cache.specs.Moves.{moved}
use Rattle.first_cache.specs.contracts.cache.Cache.{the_view}
use Rattle.first_cache.proofs.Moving.{known_from-places}
use Rattle.first_cache.proofs.cache.Cache.resize.Goals as goal

-- a place that was there is as it was, and another one has nothing
resized-at : (c : CacheState) (k : ℕ) (xs : List (Option Item)) → (k < length c.known → slice_index_or xs k None ≡ slice_index_or c.known k None) → (length c.known ≤ k → slice_index_or xs k None ≡ None) → slice_index_or xs k None ≡ known_at c (c.from + k)
resized-at c k xs old new = grind (arith, common_steps)

resized : (c : CacheState) (n : ℕ) (xs : List (Option Item)) → length xs ≡ n → ((k : ℕ) → k < n → k < length c.known → slice_index_or xs k None ≡ slice_index_or c.known k None) → ((k : ℕ) → length c.known ≤ k → k < n → slice_index_or xs k None ≡ None) → record c { known = xs } ≡ moved c c.from n
resized c n xs is old new = rw (known_from-places c c.from n xs is (λ (k : ℕ) (lt : k < n). resized-at c k xs (old k lt) (λ (le : length c.known ≤ k). new k le lt))) refl

pub returns : goal.returns
returns c =
    let h = c.in_ok-resize.ensures in
    let auto = c.resize.auto in
    let old : vec_len c.self.inside.known ≡ length c.self.inside.known.items = omega arith in
    let new : length c.resize.new.self.items ≡ c.args.capacity = omega (arith, h.len) in
    record {
      ok = rw (← c.self.view_is) (resized (the_view c.self.inside) c.args.capacity c.resize.new.self.items new (λ (k : ℕ) (lt : k < c.args.capacity) (in_it : k < length c.self.inside.known.items). h.by_index.0 k None lt (rw old in_it)) (λ (k : ℕ) (le : length c.self.inside.known.items ≤ k) (lt : k < c.args.capacity). h.by_index.1 k None refl (rw old le) lt));
      err = tt;
    }
