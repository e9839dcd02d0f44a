-- What the Navigator does to a cache leaves its plan: only a head that is met is another.
use Rattle.std.specs.Prelude.{◌≡◌, ℕ, ◌&&◌, Bool, true, false, Option, Some, None, is_some, nat_lt, if◌then◌else◌, refl}
use Rattle.std.proofs.Common.{ap}
use Rattle.mission_model.specs.declared.plan.Item.{Item}
use Rattle.mission_model.specs.declared.request.Asked.{Asked}
use Rattle.mission_model.specs.declared.request.Asked.TheVariants as about
use Rattle.mission_model.specs.declared.request.Reply.{Reply}
use Rattle.mission_model.specs.declared.request.Reply.TheVariants as reply
use Rattle.mission_model.specs.PlanTypes.{is_kind}
use Rattle.client_cache.specs.CacheState.{CacheState, has_id, count_of, known_at, in_window, known_with, answered_at, forgotten, kept, got}
use Rattle.navigator.specs.Taking.{cache_behind, cache_past}

-- the two caches are of one client, one type and one adopted plan
pub record SamePlan (c c' : CacheState) : Type 0 where
  pub client : c'.client ≡ c.client
  pub kind : c'.kind ≡ c.kind
  pub head : c'.head ≡ c.head

SamePlan-itself : (c : CacheState) → SamePlan c c
SamePlan-itself c = record { client = refl; kind = refl; head = refl }

SamePlan-if : (b : Bool) (c c1 c2 : CacheState) → SamePlan c c1 → SamePlan c c2 → SamePlan c (if b then c1 else c2)
SamePlan-if true c c1 c2 h k = h
SamePlan-if false c c1 c2 h k = k

pub SamePlan-forgotten : (c : CacheState) (seq : ℕ) → SamePlan c (forgotten c seq)
SamePlan-forgotten c seq = SamePlan-if (in_window c seq) c (known_with c seq None) c (record { client = refl; kind = refl; head = refl }) (SamePlan-itself c)

pub SamePlan-behind : (c : CacheState) (seq : ℕ) → SamePlan c (cache_behind c seq)
SamePlan-behind c seq = SamePlan-if (nat_lt seq (count_of c.head) && is_some (known_at c seq)) c (forgotten c seq) c (SamePlan-forgotten c seq) (SamePlan-itself c)

pub SamePlan-past : (c : CacheState) (seq : ℕ) (o : Option Item) → SamePlan c (cache_past c seq o)
SamePlan-past c seq (Some item) = SamePlan-itself c
SamePlan-past c seq None = SamePlan-if (is_some (known_at c seq)) c (forgotten c seq) c (SamePlan-forgotten c seq) (SamePlan-itself c)

SamePlan-answered : (c : CacheState) (seq : ℕ) → SamePlan c (answered_at c seq)
SamePlan-answered c seq = record { client = refl; kind = refl; head = refl }

SamePlan-kept : (c : CacheState) (seq : ℕ) (given : Reply) → SamePlan c (kept c seq given)
SamePlan-kept c seq (reply.Item item) = SamePlan-if (in_window c seq) c (known_with (answered_at c seq) seq (Some item)) (answered_at c seq) (record { client = refl; kind = refl; head = refl }) (SamePlan-answered c seq)
SamePlan-kept c seq (reply.Stale other) = SamePlan-answered c seq
SamePlan-kept c seq reply.Done = SamePlan-answered c seq
SamePlan-kept c seq reply.DiskFailed = SamePlan-answered c seq
SamePlan-kept c seq reply.PowerOff = SamePlan-answered c seq
SamePlan-kept c seq (reply.Spent generation) = SamePlan-answered c seq

pub SamePlan-got : (c : CacheState) (asked : Asked) (given : Reply) → SamePlan c (got c asked given)
SamePlan-got c (about.Read kind id seq) given = SamePlan-if (is_kind kind c.kind && has_id c.head id) c (kept c seq given) c (SamePlan-kept c seq given) (SamePlan-itself c)
SamePlan-got c (about.Write kind id seq) given = SamePlan-itself c
SamePlan-got c (about.Commit kind id count) given = SamePlan-itself c
SamePlan-got c (about.SetMark mark) given = SamePlan-itself c

-- and so its count
pub count-same : (c c' : CacheState) → SamePlan c c' → count_of c'.head ≡ count_of c.head
count-same c c' same = ap count_of same.head
