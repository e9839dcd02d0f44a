-- How a store of plans is kept in memory: tables of places.
use Rattle.std.specs.Prelude.{◌≡◌, ℕ, List, length, Option, None, replicate, slice_index_or}
use Rattle.first_model.specs.PlainMark.{PlainMark}
use Rattle.first_store.specs.declared.places.Written.{Written}
use Rattle.first_store.specs.StoreState.{Drafts, KindState, StoreState, IsWhole, drafted}

-- what was written last at each place of a table, if anything
abbrev pub at : List (Option Written) → Drafts
at places = λ seq. slice_index_or places seq None

-- a table of so many places at which nothing was written
abbrev pub empty_places : ℕ → List (Option Written)
empty_places count = replicate count None

-- of one kind, the id and the count of the plan in force, its generation, the table that it stands in, and the table for
-- what is written next
pub record KindTables : Type 0 where
  pub id : ℕ
  pub count : ℕ
  pub generation : ℕ
  pub in_force : List (Option Written)
  pub next : List (Option Written)

-- both tables have the same number of places, and each item of the plan in force stands at its place
pub record AreKept (tables : KindTables) : Type 0 where
  pub same : length tables.next ≡ length tables.in_force
  pub whole : IsWhole (at tables.in_force) tables.id tables.count

-- what the tables hold
abbrev pub held_of : KindTables → KindState
held_of tables = record { plan = record { id = tables.id; items = drafted (at tables.in_force) tables.id tables.count }; generation = tables.generation; drafts = at tables.next }

-- the tables of each kind, and the mark with its generation
pub record MapState : Type 0 where
  pub mission : KindTables
  pub fence : KindTables
  pub safe : KindTables
  pub mark : PlainMark
  pub mark_generation : ℕ

-- the store that they hold; in memory nothing is ever in doubt
abbrev pub held : MapState → StoreState
held m = record { mission = held_of m.mission; fence = held_of m.fence; safe = held_of m.safe; mark = m.mark; mark_generation = m.mark_generation; doubt = None }
