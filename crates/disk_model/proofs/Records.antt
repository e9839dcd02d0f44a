-- The calls of a disk that records its changes.
use Rattle.std.proofs.Common.{◌≡◌, if◌then◌else◌, ◌⊎◌, ◌<◌, ◌≤◌, ◌+◌, ◌-◌, ℕ, suc, Bool, true, false, IsTrue, List, [], ◌∷◌, ◌++◌, length, get_or, slice_get, Some, Result, Ok, Err, inl, inr, ⊎_elim, refl, sym, ◌∙◌, ap, subst, arith, length-append}
use Rattle.std.proofs.lemmas.Bool.{false≢true, true≢false}
use Rattle.disk_model.specs.Bytes.{Outside, Torn, field}
use Rattle.disk_model.specs.Places.{is_field, same_bytes, sides, torn_none}
use Rattle.disk_model.specs.Disk.{Only, Elapses, Reads, Writes, Syncs, Restarts, AfterCall, AfterChange, AfterRead, next_call}
use Rattle.disk_model.specs.File.{uncut_meter}
use Rattle.disk_model.specs.History.{Change, Put, Settle, Moment, changed, replay, zero_moment, replay_last, nothing_else, keeps, seen_in}
use Rattle.disk_model.specs.Overlay.{overlay, length-overlay, overlay_inside, torn_overlay}
use Rattle.disk_model.specs.Entries.{change_of, changes_of, settles, ends_settled, restart_room}
use Rattle.disk_model.specs.Record.{shows}
use Rattle.disk_model.specs.declared.disk.DiskFault.{DiskFault}
use Rattle.disk_model.specs.declared.entry.Entry.{Entry}
use Rattle.disk_model.specs.declared.entry.Entry.TheVariants as entry
use Rattle.disk_model.specs.declared.tally.Tally.{Tally}

-- an entry more is a change more
pub changes_of-append : (es : List Entry) (e : Entry) → changes_of (es ++ e ∷ []) ≡ changes_of es ++ change_of e ∷ []
changes_of-append [] e = refl
changes_of-append (x ∷ es) e = ap (λ (l : List Change). change_of x ∷ l) (changes_of-append es e)

pub recorded : (es es' : List Entry) (e : Entry) (x : Change) → es' ≡ es ++ e ∷ [] → change_of e ≡ x → changes_of es' ≡ changes_of es ++ x ∷ []
recorded es es' e x more is = ap changes_of more ∙ changes_of-append es e ∙ ap (λ (y : Change). changes_of es ++ y ∷ []) is

get_last : (es : List Entry) (e : Entry) → slice_get (es ++ e ∷ []) (length es) ≡ Some e
get_last [] e = refl
get_last (x ∷ es) e = get_last es e

pub ends_settled-append : (es es' : List Entry) (e : Entry) → es' ≡ es ++ e ∷ [] → ends_settled es' ≡ settles (Some e)
ends_settled-append es es' e more =
    let last : length (es ++ e ∷ []) - 1 ≡ length es = omega (arith, length-append es (e ∷ [])) in
    ap ends_settled more ∙ ap (λ (k : ℕ). settles (slice_get (es ++ e ∷ []) k)) last ∙ ap settles (get_last es e)

pub restart_room_small : (es : List Entry) → restart_room es ≤ 1
restart_room_small es = grind (arith)

pub restart_room_none : (es es' : List Entry) → es' ≡ es ++ entry.Settle ∷ [] → restart_room es' ≡ 0
restart_room_none es es' more = ap (λ (b : Bool). if b then 0 else 1) (ends_settled-append es es' entry.Settle more)

-- bytes that were written are laid over the others
pub overlay_is : (at : ℕ) (bytes old new : List ℕ) → at + length bytes ≤ length old → Torn at (length bytes) old new → ((k : ℕ) → k < length bytes → get_or new (at + k) 0 ≡ get_or bytes k 0) → new ≡ overlay at bytes old
overlay_is at bytes old new fits torn here = same_bytes new (overlay at bytes old) (torn.size ∙ sym (length-overlay bytes at old)) (λ k. each k (sides at (length bytes) k))
  where
    each : (k : ℕ) → (at ≤ k) × (k < at + length bytes) ⊎ Outside at (length bytes) k → get_or new k 0 ≡ get_or (overlay at bytes old) k 0
    each k (inl inside) =
        let there : at + (k - at) ≡ k = omega (arith, inside.0) in
        let below : k - at < length bytes = omega (arith, inside.0, inside.1) in
        ap (λ (j : ℕ). get_or new j 0) (sym there) ∙ here (k - at) below ∙ sym (overlay_inside bytes at old (k - at) fits below) ∙ ap (λ (j : ℕ). get_or (overlay at bytes old) j 0) there
    each k (inr outside) = torn.others k outside ∙ sym ((torn_overlay at bytes old).others k outside)

-- the bytes agree with the changes after a write
pub agrees_written : (at : ℕ) (bytes old new : List ℕ) (xs xs' : List Change) → old ≡ (replay (zero_moment (length old)) xs).bytes → xs' ≡ xs ++ Put at bytes ∷ [] → length new ≡ length old → new ≡ overlay at bytes old
    → new ≡ (replay (zero_moment (length new)) xs').bytes
agrees_written at bytes old new xs xs' agrees more long is =
    is ∙ ap (overlay at bytes) agrees ∙ ap (λ (m : Moment). m.bytes) (sym (replay_last (zero_moment (length old)) xs (Put at bytes)))
    ∙ ap (λ (l : List Change). (replay (zero_moment (length old)) l).bytes) (sym more) ∙ ap (λ (n : ℕ). (replay (zero_moment n) xs').bytes) (sym long)

-- and after a sync or a restart
pub agrees_settled : (old : List ℕ) (xs xs' : List Change) → old ≡ (replay (zero_moment (length old)) xs).bytes → xs' ≡ xs ++ Settle ∷ [] → old ≡ (replay (zero_moment (length old)) xs').bytes
agrees_settled old xs xs' agrees more =
    agrees ∙ ap (λ (m : Moment). m.bytes) (sym (replay_last (zero_moment (length old)) xs Settle)) ∙ ap (λ (l : List Change). (replay (zero_moment (length old)) l).bytes) (sym more)

-- nothing is kept
pub same_time : (size : ℕ) (b b' : List ℕ) (xs : List Change) (t t' : Tally) → Elapses (shows size b xs t) (shows size b' xs t')
same_time size b b' xs t t' = record { tells = refl; tells_since = refl; later = omega arith; nothing_else = λ m c le left. inl left; keeps = λ told m c le left. left }

-- one change more is kept
time : (size : ℕ) (b b' : List ℕ) (xs : List Change) (x : Change) (t t' : Tally) → Elapses (shows size b xs t) (shows size b' (xs ++ x ∷ []) t')
time size b b' xs x t t' = record {
  tells = refl;
  tells_since = refl;
  later = omega (arith, length-append xs (x ∷ []));
  nothing_else = λ m c le left. ⊎_elim (λ was. inl was) (λ now. inr (subst (λ (s : Moment). s.images c) (sym (replay_last (zero_moment size) xs x)) now)) (nothing_else (zero_moment size) xs x m c le left);
  keeps = λ told m c le left. keeps (zero_moment size) xs x m c le left;
}

was_done : Result (Unit {0}) DiskFault → Bool
was_done (Ok _) = true
was_done (Err _) = false

-- a call that is done counts no fault
done : (named : Bool) (size : ℕ) (t t' : Tally) → t'.faults ≡ t.faults → AfterCall named (uncut_meter size t) (uncut_meter size t') (Ok tt)
unfolding was_done
done named size t t' same = record {
  size = refl;
  can_cut = refl;
  faults = omega (arith, same);
  failed = λ bad. absurd (true≢false (ap was_done bad));
  calm = inr same;
  cut = λ bad. absurd (true≢false (ap was_done bad));
  comes = inr (record { cuts = refl; power = refl; armed = refl });
  off = λ off. absurd (true≢false off);
  exactly = λ can. absurd (false≢true can);
}

counted_change : (size : ℕ) (t t' : Tally) → t' ≡ record t { changes = next_call t.changes } → AfterChange (uncut_meter size t) (uncut_meter size t') (Ok tt)
counted_change size t t' is = record { call = done _ size t t' (ap (λ (x : Tally). x.faults) is); changes = ap (λ (x : Tally). x.changes) is; reads = ap (λ (x : Tally). x.reads) is }

counted_read : (size : ℕ) (t t' : Tally) → t' ≡ record t { reads = next_call t.reads } → AfterRead (uncut_meter size t) (uncut_meter size t') (Ok tt)
counted_read size t t' is = record { call = done _ size t t' (ap (λ (x : Tally). x.faults) is); changes = ap (λ (x : Tally). x.changes) is; reads = ap (λ (x : Tally). x.reads) is }

pub was_read : (size at n : ℕ) (got b : List ℕ) (xs : List Change) (t t' : Tally) → length got ≡ n → ((k : ℕ) → k < length got → get_or got k 0 ≡ get_or b (at + k) 0) → t' ≡ record t { reads = next_call t.reads }
    → Reads at n (shows size b xs t) (shows size b xs t') got (Ok tt)
was_read size at n got b xs t t' long same is = record {
  read = λ told. sym (is_field b got at same) ∙ ap (λ (m : ℕ). field at m b) long;
  still = record { seen = refl; images = λ c left. left; kept = λ c left. left };
  time = same_time size b b xs t t';
  meter = counted_read size t t' is;
}

written : (size at : ℕ) (bytes b b' : List ℕ) (xs : List Change) (t t' : Tally) → Torn at (length bytes) b b' → ((k : ℕ) → k < length bytes → get_or b' (at + k) 0 ≡ get_or bytes k 0) → t' ≡ record t { changes = next_call t.changes }
    → Writes at bytes (shows size b xs t) (shows size b' (xs ++ Put at bytes ∷ []) t') (Ok tt)
written size at bytes b b' xs t t' torn here is = record {
  written = λ told. record { others = torn; here = is_field b' bytes at (λ k below. sym (here k below)) };
  torn = λ told. torn;
  images = λ c left. subst (λ (s : Moment). s.images c) (replay_last (zero_moment size) xs (Put at bytes)) left;
  allows = λ d c left changes. subst (λ (s : Moment). s.images c) (sym (replay_last (zero_moment size) xs (Put at bytes))) (d, left, changes);
  kept = λ c left. subst (λ (s : Moment). s.images c) (sym (replay_last (zero_moment size) xs (Put at bytes))) (c, left, torn_none at (length bytes) c);
  off = λ off. absurd (true≢false off);
  time = time size b b' xs (Put at bytes) t t';
  meter = counted_change size t t' is;
}

pub was_written : (size size' at : ℕ) (bytes b b' : List ℕ) (xs xs' : List Change) (t t' : Tally) → size' ≡ size → xs' ≡ xs ++ Put at bytes ∷ [] → Torn at (length bytes) b b' → ((k : ℕ) → k < length bytes → get_or b' (at + k) 0 ≡ get_or bytes k 0) → t' ≡ record t { changes = next_call t.changes }
    → Writes at bytes (shows size b xs t) (shows size' b' xs' t') (Ok tt)
was_written size size' at bytes b b' xs xs' t t' same more torn here is =
    subst (λ (n : ℕ). Writes at bytes (shows size b xs t) (shows n b' xs' t') (Ok tt)) (sym same)
    (subst (λ (l : List Change). Writes at bytes (shows size b xs t) (shows size b' l t') (Ok tt)) (sym more) (written size at bytes b b' xs t t' torn here is))

-- after it is settled, what is read is the only image
settled : (size : ℕ) (b : List ℕ) (xs : List Change) → b ≡ (replay (zero_moment size) xs).bytes → Only b (replay (zero_moment size) (xs ++ Settle ∷ [])).images
settled size b xs agrees c left = subst (λ (s : Moment). s.images c) (replay_last (zero_moment size) xs Settle) left ∙ sym agrees

seen : (size : ℕ) (b : List ℕ) (xs : List Change) → b ≡ (replay (zero_moment size) xs).bytes → (replay (zero_moment size) xs).images b
seen size b xs agrees = subst (replay (zero_moment size) xs).images (sym agrees) (seen_in (zero_moment size) xs refl)

synced : (size : ℕ) (b : List ℕ) (xs : List Change) (t t' : Tally) → b ≡ (replay (zero_moment size) xs).bytes → t' ≡ record t { changes = next_call t.changes } → Syncs (shows size b xs t) (shows size b (xs ++ Settle ∷ []) t') (Ok tt)
synced size b xs t t' agrees is = record {
  durable = settled size b xs agrees;
  seen = refl;
  images = λ c left. subst (replay (zero_moment size) xs).images (sym (settled size b xs agrees c left)) (seen size b xs agrees);
  failed = tt;
  time = time size b b xs Settle t t';
  meter = counted_change size t t' is;
}

pub was_synced : (size : ℕ) (b : List ℕ) (xs xs' : List Change) (t t' : Tally) → b ≡ (replay (zero_moment size) xs).bytes → xs' ≡ xs ++ Settle ∷ [] → t' ≡ record t { changes = next_call t.changes } → Syncs (shows size b xs t) (shows size b xs' t') (Ok tt)
was_synced size b xs xs' t t' agrees more is = subst (λ (l : List Change). Syncs (shows size b xs t) (shows size b l t') (Ok tt)) (sym more) (synced size b xs t t' agrees is)

restarted : (size : ℕ) (b : List ℕ) (xs : List Change) (t : Tally) → b ≡ (replay (zero_moment size) xs).bytes → Restarts (shows size b xs t) (shows size b (xs ++ Settle ∷ []) t)
restarted size b xs t agrees = record { image = λ told. seen size b xs agrees; only = settled size b xs agrees; time = time size b b xs Settle t t; meter = refl }

pub was_restarted : (size : ℕ) (b : List ℕ) (xs xs' : List Change) (t : Tally) → b ≡ (replay (zero_moment size) xs).bytes → xs' ≡ xs ++ Settle ∷ [] → Restarts (shows size b xs t) (shows size b xs' t)
was_restarted size b xs xs' t agrees more = subst (λ (l : List Change). Restarts (shows size b xs t) (shows size b l t)) (sym more) (restarted size b xs t agrees)

-- where the last change settled what is read, it is the only image
settled_since : (s : Moment) (e : Entry) (es : List Entry) → IsTrue (ends_settled (e ∷ es)) → (c : List ℕ) → (replay s (changes_of (e ∷ es))).images c → c ≡ (replay s (changes_of (e ∷ es))).bytes
settled_since s (entry.Write at n bytes) [] ends c left = absurd (false≢true ends)
settled_since s entry.Settle [] ends c left = left
settled_since s e (f ∷ es) ends c left = settled_since (changed s (change_of e)) f es (later e f es ends) c left
  where
    later : (e f : Entry) (es : List Entry) → IsTrue (ends_settled (e ∷ f ∷ es)) → IsTrue (ends_settled (f ∷ es))
    later e f es ends =
        let far : length (e ∷ f ∷ es) - 1 ≡ suc (length es) = omega arith in
        let near : length (f ∷ es) - 1 ≡ length es = omega arith in
        ap (λ (k : ℕ). settles (slice_get (f ∷ es) k)) near ∙ sym (ap (λ (k : ℕ). settles (slice_get (e ∷ f ∷ es) k)) far) ∙ ends

only_settled : (size : ℕ) (es : List Entry) → IsTrue (ends_settled es) → (c : List ℕ) → (replay (zero_moment size) (changes_of es)).images c → c ≡ (replay (zero_moment size) (changes_of es)).bytes
only_settled size [] ends c left = left
only_settled size (e ∷ es) ends c left = settled_since (zero_moment size) e es ends c left

-- a restart with nothing to settle
pub not_restarted : (size : ℕ) (b : List ℕ) (es : List Entry) (t : Tally) → b ≡ (replay (zero_moment size) (changes_of es)).bytes → IsTrue (ends_settled es) → Restarts (shows size b (changes_of es) t) (shows size b (changes_of es) t)
not_restarted size b es t agrees ends = record {
  image = λ told. seen size b (changes_of es) agrees;
  only = λ c left. only_settled size es ends c left ∙ sym agrees;
  time = same_time size b b (changes_of es) t t;
  meter = refl;
}
