use Rattle.std.proofs.Common.{◌≡◌, ℕ, ◌+◌, ◌<◌, length, None, refl, List, Option}
use Rattle.std.specs.Prelude.{slice_index_or}
use Rattle.first_model.specs.declared.plan.Item.{Item}
use Rattle.first_cache.specs.CacheState.{CacheState, known_at}
use Rattle.first_cache.specs.Moves.{moved}
use Rattle.first_cache.specs.contracts.cache.Cache.{the_view}
use Rattle.first_cache.proofs.Moving.{known_from-places}
use Rattle.first_cache.proofs.cache.Cache.aim.Goals as goal

aimed : (c : CacheState) (seq : ℕ) (xs : List (Option Item)) → length xs ≡ length c.known → ((k : ℕ) → k < length c.known → slice_index_or xs k None ≡ known_at c (seq + k)) → record c { from = seq; known = xs } ≡ moved c seq (length c.known)
aimed c seq xs is at = rw (known_from-places c seq (length c.known) xs is at) refl

pub returns : goal.returns
returns c = rw (← c.self.view_is) (aimed (the_view c.self.inside) c.args.seq c.slide.new.known.items c.slide.ensures.length c.slide.ensures.places)
