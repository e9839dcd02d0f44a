-- The calls of a disk in memory, over its bytes and its power.
use Rattle.std.proofs.Common.{◌≡◌, ◌⊎◌, ◌<◌, ◌≤◌, ◌+◌, ℕ, Bool, true, false, IsTrue, List, length, get_or, Option, Result, Ok, Err, OnOk, inl, inr, refl, sym, ◌∙◌, ap, subst, arith}
use Rattle.std.proofs.lemmas.Bool.{false≢true}
use Rattle.disk_model.specs.Bytes.{Outside, Torn, Holds, field}
use Rattle.disk_model.specs.Places.{is_field, same_bytes, sides, torn_none, torn_wider}
use Rattle.disk_model.specs.Disk.{Elapses, Still, Allows, Reads, Writes, Syncs, Arms, Restarts, AfterChange, AfterRead}
use Rattle.disk_model.specs.Tears.{IsImage, TornBy}
use Rattle.disk_model.specs.Contents.{Puts, IsSettled}
use Rattle.disk_model.specs.Power.{meter_of, step_of}
use Rattle.disk_model.specs.Memory.{shows, TearsTo}
use Rattle.disk_model.proofs.Images.{images_follow}
use Rattle.disk_model.specs.declared.disk.DiskFault.{DiskFault}
use Rattle.disk_model.specs.declared.disk.Tear.{Tear}
use Rattle.disk_model.specs.declared.contents.Contents.{Contents}
use Rattle.disk_model.specs.declared.power.Power.{Power}
use Rattle.disk_model.specs.declared.power.Step.{Step}
use Rattle.disk_model.specs.declared.power.Step.TheVariants.{Goes, Fails, IsOff, IsCut}

-- a disk without a clock
pub time : (c c' : Contents) (p p' : Power) → Elapses (shows c p) (shows c' p')
time c c' p p' = record {
  tells = refl;
  tells_since = refl;
  later = omega arith;
  nothing_else = λ t d le left. inr left;
  keeps = λ since. absurd (false≢true since);
}

pub still : (c : Contents) (p p' : Power) → Still (shows c p) (shows c p')
still c p p' = record { seen = refl; images = λ d left. left; kept = λ d left. left }

pub on_ok : (A B : Type 0) (result : Result (Unit {0}) DiskFault) → (A → B) → OnOk result A → OnOk result B
on_ok A B (Ok u) f a = f a
on_ok A B (Err e) f a = tt

on_ok_all : (B : Type 0) (result : Result (Unit {0}) DiskFault) → B → OnOk result B
on_ok_all B (Ok u) b = b
on_ok_all B (Err e) b = tt

-- a write that changes nothing
pub wrote_none : (at : ℕ) (bytes : List ℕ) (c : Contents) (p p' : Power) (e : DiskFault) → ((size : ℕ) → AfterChange (meter_of size p) (meter_of size p') (Err e)) → Writes at bytes (shows c p) (shows c p') (Err e)
wrote_none at bytes c p p' e after = record {
  written = λ told. tt;
  torn = λ told. torn_none at (length bytes) c.bytes.items;
  images = λ d left. (d, left, torn_none at (length bytes) d);
  allows = tt;
  kept = λ d left. left;
  off = λ off. still c p p';
  time = time c c p p';
  meter = after (length c.bytes.items);
}

-- each torn image is one
allowed : (at m : ℕ) (bytes : List ℕ) (c c' : Contents) → m ≤ length bytes → Puts at m bytes c c'
    → Allows (Torn at (length bytes)) (IsImage c.bytes.items c.pending.items) (IsImage c'.bytes.items c'.pending.items)
allowed at m bytes c c' short puts d e left torn = record {
  size = torn.size ∙ left.size ∙ sym puts.others.size;
  kept = λ k dry. kept k dry (sides at (length bytes) k);
}
  where
    wider : (k : ℕ) → Outside at (length bytes) k → Outside at m k
    wider k (inl before) = inl before
    wider k (inr behind) = inr (omega (arith, behind, short))

    kept : (k : ℕ) → get_or c'.pending.items k false ≡ false → (at ≤ k) × (k < at + length bytes) ⊎ Outside at (length bytes) k → get_or e k 0 ≡ get_or c'.bytes.items k 0
    kept k dry (inl inside) = absurd (false≢true (sym dry ∙ puts.marked k inside.0 inside.1))
    kept k dry (inr outside) = torn.others k outside ∙ left.kept k (sym (puts.unmarked k outside) ∙ dry) ∙ sym (puts.others.others k (wider k outside))

-- a write that puts its first m bytes
pub wrote : (at m : ℕ) (bytes : List ℕ) (c c' : Contents) (p p' : Power) (result : Result (Unit {0}) DiskFault) → IsTrue p.on → m ≤ length bytes → at + length bytes ≤ length c.bytes.items
    → OnOk result (m ≡ length bytes) → Puts at m bytes c c' → ((size : ℕ) → AfterChange (meter_of size p) (meter_of size p') result) → Writes at bytes (shows c p) (shows c' p') result
wrote at m bytes c c' p p' result on short fits whole puts after = record {
  written = λ told. on_ok (m ≡ length bytes) (Holds at bytes c.bytes.items c'.bytes.items) result holds whole;
  torn = λ told. torn_all;
  images = images_follow at (length bytes) m c.bytes.items c'.bytes.items c.pending.items c'.pending.items short fits puts.others puts.unmarked;
  allows = on_ok_all _ result (allowed at m bytes c c' short puts);
  kept = λ d left. allowed at m bytes c c' short puts d d left (torn_none at (length bytes) d);
  off = λ off. absurd (false≢true (sym off ∙ on));
  time = time c c' p p';
  meter = subst (λ (size : ℕ). AfterChange (meter_of (length c.bytes.items) p) (meter_of size p') result) (sym puts.others.size) (after (length c.bytes.items));
}
  where
    torn_all : Torn at (length bytes) c.bytes.items c'.bytes.items
    torn_all = torn_wider at m at (length bytes) c.bytes.items c'.bytes.items (omega arith) (omega (arith, short)) puts.others

    holds : m ≡ length bytes → Holds at bytes c.bytes.items c'.bytes.items
    holds all = record { others = torn_all; here = is_field c'.bytes.items bytes at (λ k below. sym (puts.here k (omega (arith, below, all)))) }

pub synced_none : (c : Contents) (p p' : Power) (e : DiskFault) → ((size : ℕ) → AfterChange (meter_of size p) (meter_of size p') (Err e)) → Syncs (shows c p) (shows c p') (Err e)
synced_none c p p' e after = record { durable = tt; seen = refl; images = λ d left. left; failed = still c p p'; time = time c c p p'; meter = after (length c.bytes.items) }

-- with nothing pending the only image is what is read
pub settled_image : (c : Contents) (d : List ℕ) → IsSettled c → IsImage c.bytes.items c.pending.items d → d ≡ c.bytes.items
settled_image c d settled left = same_bytes d c.bytes.items left.size (λ k. left.kept k (settled.dry k))

pub synced_all : (c c' : Contents) (p p' : Power) → IsSettled c' → c'.bytes ≡ c.bytes → ((size : ℕ) → AfterChange (meter_of size p) (meter_of size p') (Ok tt)) → Syncs (shows c p) (shows c' p') (Ok tt)
synced_all c c' p p' settled same after = record {
  durable = λ d left. settled_image c' d settled left;
  seen = ap (λ (v : _). v.items) same;
  images = λ d left. subst (λ (e : List ℕ). IsImage c.bytes.items c.pending.items e) (sym (settled_image c' d settled left ∙ ap (λ (v : _). v.items) same)) (record { size = refl; kept = λ k was. refl });
  failed = tt;
  time = time c c' p p';
  meter = subst (λ (size : ℕ). AfterChange (meter_of (length c.bytes.items) p) (meter_of size p') (Ok tt)) (ap (λ (v : _). length v.items) (sym same)) (after (length c.bytes.items));
}

pub read_none : (at n : ℕ) (got : List ℕ) (c : Contents) (p p' : Power) (e : DiskFault) → ((size : ℕ) → AfterRead (meter_of size p) (meter_of size p') (Err e)) → Reads at n (shows c p) (shows c p') got (Err e)
read_none at n got c p p' e after = record { read = λ told. tt; still = still c p p'; time = time c c p p'; meter = after (length c.bytes.items) }

pub read_all : (at n : ℕ) (got : List ℕ) (c : Contents) (p p' : Power) → length got ≡ n → ((k : ℕ) → k < length got → get_or got k 0 ≡ get_or c.bytes.items (at + k) 0)
    → ((size : ℕ) → AfterRead (meter_of size p) (meter_of size p') (Ok tt)) → Reads at n (shows c p) (shows c p') got (Ok tt)
read_all at n got c p p' long same after = record {
  read = λ told. sym (is_field c.bytes.items got at same) ∙ ap (λ (m : ℕ). field at m c.bytes.items) long;
  still = still c p p';
  time = time c c p p';
  meter = after (length c.bytes.items);
}

torn_image : (tear : Tear) (synced b b' : List ℕ) (pending : List Bool) → TornBy tear synced pending b b' → IsImage b pending b'
torn_image tear synced b b' pending torn = record { size = torn.size; kept = torn.kept }

pub restarted : (tear : Tear) (c c' : Contents) (p p' : Power) → TearsTo tear c c' → ((size : ℕ) → meter_of size p' ≡ record (meter_of size p) { power = true }) → Restarts (shows c p) (shows c' p')
restarted tear c c' p p' tears is = record {
  image = λ told. torn_image tear c.synced.items c.bytes.items c'.bytes.items c.pending.items tears.torn;
  only = λ d left. settled_image c' d tears.settled left;
  time = time c c' p p';
  meter = ap (λ (size : ℕ). meter_of size p') tears.torn.size ∙ is (length c.bytes.items);
}

pub rearmed : (cut : _) (c : Contents) (p p' : Power) → ((size : ℕ) → meter_of size p' ≡ record (meter_of size p) { armed = cut; changes = 0; reads = 0 }) → Arms cut (shows c p) (shows c p')
rearmed cut c p p' is = record { still = still c p p'; time = time c c p p'; meter = is (length c.bytes.items) }

abbrev is_off : Step → Bool
is_off IsOff = true
is_off Goes = false
is_off Fails = false
is_off (IsCut _) = false

-- what goes, or is cut, comes while the power is on
pub goes_on_power : (on : Bool) (tear : Option Tear) (fails : Bool) (step : Step) → is_off step ≡ false → step ≡ step_of on tear fails → IsTrue on
goes_on_power true tear fails step is same = refl
goes_on_power false tear fails step is same = absurd (false≢true (sym is ∙ ap is_off same))
