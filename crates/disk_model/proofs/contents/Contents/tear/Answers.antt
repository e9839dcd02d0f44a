use Rattle.std.proofs.Common.{◌≡◌, ◌+◌, ℕ, Bool, List, false, get_or, inr, subst, sym, ◌∙◌, ap, arith}
use Rattle.std.specs.List.{AllWithin}
use Rattle.std.proofs.lemmas.List.Elements.{AllWithin-more_set}
use Rattle.disk_model.specs.Places.{same_bytes}
use Rattle.disk_model.specs.Spans.{Beside}
use Rattle.disk_model.specs.Tears.{torn_or_read}
use Rattle.disk_model.specs.Contents.{left_at}
use Rattle.disk_model.specs.declared.spans.Span.{Span}
use Rattle.disk_model.proofs.Covers.{nowhere}
use Rattle.disk_model.proofs.contents.Contents.tear.Goals as goal

pub loop-i-preserved : goal.loop-i-preserved
loop-i-preserved c = record {
  size = c.retire.ensures.size ∙ c.loop-i.invariant.size;
  left = λ k. c.retire.ensures.left k ∙ c.loop-i.invariant.left k;
  done = λ k. subst (λ (l : List Span). AllWithin (Beside k) l 0 (c.loop-i.i + 1)) (sym c.retire.ensures.written)
      (AllWithin-more_set c.loop-i.self.written c.loop-i.i nowhere (omega (arith, c.loop-i.self.places)) (Beside k) (c.loop-i.invariant.done k) (inr (omega arith)));
  same = λ new. c.retire.ensures.same new ∙ c.loop-i.invariant.same new;
}

pub returns-clause-torn : goal.returns-clause-torn
returns-clause-torn c = record {
  size = c.loop-i.invariant.size;
  torn = λ k below pending. here k ∙ ap (λ (p : Bool). torn_or_read c.args.tear p (get_or c.args.self.now.synced.items k 0) (get_or c.args.self.now.bytes.items k 0)) pending;
  kept = λ k before. here k ∙ ap (λ (p : Bool). torn_or_read c.args.tear p (get_or c.args.self.now.synced.items k 0) (get_or c.args.self.now.bytes.items k 0)) before;
}
  where
    dry : (k : ℕ) → get_or c.loop-i.self.pending.items k false ≡ false
    dry k = c.loop-i.self.dry k (λ j d below. c.loop-i.invariant.done k j d (omega arith) (omega (arith, below, c.loop-i.self.places)))

    here : (k : ℕ) → get_or c.loop-i.self.bytes.items k 0 ≡ left_at c.args.tear c.args.self.now k
    here k = sym (ap (λ (p : Bool). torn_or_read c.args.tear p (get_or c.loop-i.self.synced.items k 0) (get_or c.loop-i.self.bytes.items k 0)) (dry k)) ∙ c.loop-i.invariant.left k

pub returns-clause-settled : goal.returns-clause-settled
returns-clause-settled c = record {
  synced = same_bytes c.loop-i.self.synced.items c.loop-i.self.bytes.items c.loop-i.self.synced_size (λ k. c.loop-i.self.kept k (dry k));
  dry = dry;
}
  where
    dry : (k : ℕ) → get_or c.loop-i.self.pending.items k false ≡ false
    dry k = c.loop-i.self.dry k (λ j d below. c.loop-i.invariant.done k j d (omega arith) (omega (arith, below, c.loop-i.self.places)))
