use Rattle.std.proofs.Common.{ℕ, length, inl, inr, ⊎_elim, subst, sym, ◌∙◌, arith}
use Rattle.std.proofs.lemmas.Bool.{false≢true}
use Rattle.disk_model.specs.Bytes.{Outside}
use Rattle.disk_model.specs.Places.{sides}
use Rattle.disk_model.specs.Spans.{EndBy}
use Rattle.disk_model.proofs.contents.Contents.put.Goals as goal

pub invariant_of-self-clause-end : goal.invariant_of-self-clause-end
invariant_of-self-clause-end c = c.cover.ensures.end (length c.copy_in.new.all.items) (subst (λ (n : ℕ). EndBy n c.args.self.now.written) (sym c.copy_in.ensures.others.size) c.args.self.now.end)
    (omega (arith, c.copy_in.ensures.others.size, c.requires.room))

pub invariant_of-self-clause-dry : goal.invariant_of-self-clause-dry
invariant_of-self-clause-dry c k out = c.mark.ensures.unmarked k (c.cover.ensures.span k out) ∙ c.args.self.now.dry k (c.cover.ensures.covers k out)

pub invariant_of-self-clause-kept : goal.invariant_of-self-clause-kept
invariant_of-self-clause-kept c k dry = ⊎_elim (λ inside. absurd (false≢true (sym dry ∙ c.mark.ensures.marked k inside.0 inside.1)))
    (λ outside. c.args.self.now.kept k (sym (c.mark.ensures.unmarked k outside) ∙ dry) ∙ sym (c.copy_in.ensures.others.others k (wider outside))) (sides c.args.at (length c.args.bytes.now) k)
  where
    wider : Outside c.args.at (length c.args.bytes.now) k → Outside c.args.at c.args.n k
    wider (inl before) = inl before
    wider (inr behind) = inr (omega (arith, behind, c.requires.front))
