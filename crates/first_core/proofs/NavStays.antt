-- What the Navigator's parts keep: its cache stays the cache of a whole mission.
use Rattle.std.proofs.Common.{◌≡◌, ℕ, ◌<◌, Bool, true, false, List, length, refl, ◌∙◌, length-set, ◌==◌, ◌&&◌}
use Rattle.std.specs.Prelude.{if◌then◌else◌}
use Rattle.std.specs.List.{All}
use Rattle.std.proofs.lemmas.List.Elements.{All-drop}
use Rattle.first_model.specs.declared.plan.Item.{Item}
use Rattle.first_model.specs.declared.request.Asked.{Asked}
use Rattle.first_model.specs.declared.request.Asked.TheVariants as about
use Rattle.first_model.specs.declared.request.Reply.{Reply}
use Rattle.first_model.specs.declared.request.Reply.TheVariants as reply
use Rattle.first_cache.specs.CacheState.{CacheState, got, kept, answered_at, known_with, in_window, same_kind}
use Rattle.first_cache.specs.Wants.{flying}
use Rattle.first_core.specs.ScheduleState.{ScheduleState, advanced}
use Rattle.first_core.specs.NavState.{NavState, NavFits, IsForNav}

-- the two caches are of one client and kind, of one plan and one window
pub record SameShape (c : CacheState) (c' : CacheState) : Type 0 where
  pub client : c'.client ≡ c.client
  pub kind : c'.kind ≡ c.kind
  pub id : c'.id ≡ c.id
  pub count : c'.count ≡ c.count
  pub from : c'.from ≡ c.from
  pub known : length c'.known ≡ length c.known

pub same : (c : CacheState) → SameShape c c
same c = record { client = refl; kind = refl; id = refl; count = refl; from = refl; known = refl }

answered-shape : (c : CacheState) (seq : ℕ) → SameShape c (answered_at c seq)
answered-shape c seq = record { client = refl; kind = refl; id = refl; count = refl; from = refl; known = refl }

kept_if-shape : (c : CacheState) (seq : ℕ) (item : Item) (b : Bool) → SameShape c (if b then known_with (answered_at c seq) seq item else answered_at c seq)
kept_if-shape c seq item true = record { client = refl; kind = refl; id = refl; count = refl; from = refl; known = length-set _ _ _ }
kept_if-shape c seq item false = answered-shape c seq

kept-shape : (c : CacheState) (seq : ℕ) (given : Reply) → SameShape c (kept c seq given)
kept-shape c seq (reply.Item item) = kept_if-shape c seq item (in_window c seq)
kept-shape c seq (reply.Stale now) = answered-shape c seq
kept-shape c seq reply.Done = answered-shape c seq
kept-shape c seq reply.DiskFailed = answered-shape c seq
kept-shape c seq reply.PowerOff = answered-shape c seq
kept-shape c seq (reply.Spent last) = answered-shape c seq

got_if-shape : (c : CacheState) (seq : ℕ) (given : Reply) (b : Bool) → SameShape c (if b then kept c seq given else c)
got_if-shape c seq given true = kept-shape c seq given
got_if-shape c seq given false = same c

pub got-shape : (c : CacheState) (asked : Asked) (given : Reply) → SameShape c (got c asked given)
got-shape c (about.Read kind id seq) given = got_if-shape c seq given (same_kind kind c.kind && id == c.id)
got-shape c (about.Write kind id seq) given = same c
got-shape c (about.Commit kind id count) given = same c
got-shape c (about.SetMark mark) given = same c

pub flying-shape : (c : CacheState) (seqs : List ℕ) → SameShape c (flying c seqs)
flying-shape c seqs = record { client = refl; kind = refl; id = refl; count = refl; from = refl; known = refl }

-- another cache of the same shape, and other inputs of the Navigator
pub NavFits-with : (n : NavState) (schedule : ScheduleState) (cache : CacheState) (at_leg : Bool) → NavFits n → SameShape n.cache cache → All IsForNav schedule.inputs → (at_leg ≡ true → n.index < n.cache.count) → NavFits (record n { schedule = schedule; cache = cache; at_leg = at_leg })
NavFits-with n schedule cache at_leg fits shape inputs leg = record {
  mode = fits.mode;
  client = shape.client ∙ fits.client;
  kind = shape.kind ∙ fits.kind;
  window = shape.from ∙ fits.window;
  whole = shape.known ∙ fits.whole;
  count = rw shape.count fits.count;
  index = rw shape.count fits.index;
  leg = λ shown. rw shape.count (leg shown);
  inputs = inputs;
}

pub NavFits-advanced : (n : NavState) → NavFits n → NavFits (record n { schedule = advanced n.schedule })
NavFits-advanced n fits = NavFits-with n (advanced n.schedule) n.cache n.at_leg fits (same n.cache) (All-drop IsForNav 1 n.schedule.inputs fits.inputs) fits.leg

pub ruleset nav_stays = (NavFits-advanced)
