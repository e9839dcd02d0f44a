-- The calls of a shelf in memory.
use Rattle.std.proofs.Common.{◌≡◌, ◌↔◌, ◌≤◌, ℕ, Bool, true, false, List, [], ◌∷◌, ◌++◌, length, Option, Some, Result, Ok, Err, inl, inr, refl, sym, ◌∙◌, ap, subst, arith}
use Rattle.std.proofs.lemmas.Bool.{true≢false}
use Rattle.disk_model.specs.Disk.{counted}
use Rattle.disk_model.specs.Tears.{IsImage}
use Rattle.disk_model.specs.Contents.{IsSettled}
use Rattle.disk_model.specs.Power.{renewed}
use Rattle.disk_model.specs.Memory.{state_of as disk_state_of}
use Rattle.disk_model.specs.Shelf.{ShelfCall, AfterShelf, IsStored}
use Rattle.disk_model.specs.MemoryShelf.{call_of, calls_of, kept_images, Keeps, state_of}
use Rattle.disk_model.specs.declared.shelf.ShelfFault.{ShelfFault}
use Rattle.disk_model.specs.declared.shelf.ShelfFault.TheVariants as fault
use Rattle.disk_model.specs.declared.memory_disk.MemoryDisk.{MemoryDisk}
use Rattle.disk_model.specs.declared.memory_shelf.MemoryShelf.{MemoryShelf}
use Rattle.disk_model.specs.declared.memory_shelf.ShelfEntry.{ShelfEntry}
use Rattle.disk_model.proofs.Calls.{settled_image}

-- an entry more is a call more
calls_of-append : (es : List ShelfEntry) (e : ShelfEntry) → calls_of (es ++ e ∷ []) ≡ calls_of es ++ call_of e ∷ []
calls_of-append [] e = refl
calls_of-append (x ∷ es) e = ap (λ (l : List ShelfCall). call_of x ∷ l) (calls_of-append es e)

one_more : (call : ShelfCall) (old new : MemoryShelf) (e : ShelfEntry) → new.calls.items ≡ old.calls.items ++ e ∷ [] → call_of e ≡ call → calls_of new.calls.items ≡ calls_of old.calls.items ++ call ∷ []
one_more call old new e logged is = ap calls_of logged ∙ calls_of-append old.calls.items e ∙ ap (λ (x : ShelfCall). calls_of old.calls.items ++ x ∷ []) is

is_failed : {D : Type 0} → Result D ShelfFault → Bool
is_failed (Ok _) = false
is_failed (Err fault.Failed) = true
is_failed (Err (fault.Memory _)) = false

-- a call that was Ok
pub gave : (D : Type 0) (call : Bool → ShelfCall) (old new : MemoryShelf) (e : ShelfEntry) (d : D) → new.faults ≡ old.faults → new.calls.items ≡ old.calls.items ++ e ∷ [] → call_of e ≡ call true
    → AfterShelf D call (state_of old) (state_of new) (Ok d)
unfolding is_failed
gave D call old new e d faults logged is = record {
  tells = refl;
  tells_calls = refl;
  faults = omega (arith, faults);
  failed = λ bad. absurd (true≢false (sym (ap is_failed bad)));
  calm = inr faults;
  calls = λ told. one_more (call true) old new e logged is;
}

-- a call that failed
pub refused : (D : Type 0) (call : Bool → ShelfCall) (old new : MemoryShelf) (e : ShelfEntry) → new.faults ≡ counted old.faults → old.faults ≤ new.faults → new.calls.items ≡ old.calls.items ++ e ∷ [] → call_of e ≡ call false
    → AfterShelf D call (state_of old) (state_of new) (Err fault.Failed)
refused D call old new e faults later logged is = record {
  tells = refl;
  tells_calls = refl;
  faults = later;
  failed = λ bad. faults;
  calm = inl refl;
  calls = λ told. one_more (call false) old new e logged is;
}

keeps_room : (fails : Bool) (kept : Option MemoryDisk) (was : MemoryDisk) (size : ℕ) → kept ≡ Some was → Keeps fails kept size → size ≤ length was.contents.bytes.items
keeps_room true kept was size is keeps = absurd keeps
keeps_room false kept was size is keeps = subst (λ (o : Option MemoryDisk). Keeps false o size) is keeps

told_images : (fails : Bool) (kept : Option MemoryDisk) (was disk : MemoryDisk) (size : ℕ) → kept ≡ Some was → Keeps fails kept size → IsSettled disk.contents → disk.contents.bytes ≡ was.contents.bytes
    → (c : List ℕ) → (disk_state_of disk).images c ↔ kept_images fails kept c
told_images true kept was disk size is keeps settled same c = absurd keeps
told_images false kept was disk size is keeps settled same c = subst (λ (o : Option MemoryDisk). IsImage disk.contents.bytes.items disk.contents.pending.items c ↔ kept_images false o c) (sym is) (
  (λ left. settled_image disk.contents c settled left ∙ ap (λ (v : _). v.items) same),
  (λ at. subst (λ (d : List ℕ). IsImage disk.contents.bytes.items disk.contents.pending.items d) (ap (λ (v : _). v.items) same ∙ sym at) (record { size = refl; kept = λ k dry. refl })),
)

-- the kept disk is given
pub stored : (size : ℕ) (shelf : MemoryShelf) (was disk : MemoryDisk) → shelf.kept ≡ Some was → Keeps shelf.open_fails shelf.kept size → IsSettled disk.contents → disk.contents.bytes ≡ was.contents.bytes → disk.power ≡ renewed was.power
    → IsStored size (state_of shelf) (disk_state_of disk)
stored size shelf was disk is keeps settled same power = record {
  given = record {
    room = subst (λ (v : _). size ≤ length v.items) (sym same) (keeps_room shelf.open_fails shelf.kept was size is keeps);
    power = ap (λ (p : _). p.on) power;
    armed = ap (λ (p : _). p.armed) power;
    faults = ap (λ (p : _). p.tally.faults) power;
    cuts = ap (λ (p : _). p.cuts) power;
    only = λ c left. settled_image disk.contents c settled left;
  };
  tells = λ told. refl;
  images = λ told. told_images shelf.open_fails shelf.kept was disk size is keeps settled same;
}
