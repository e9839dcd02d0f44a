use Rattle.std.proofs.Common.{◌≤◌, length, get_or, subst, sym, ◌∙◌, ap, arith, ℕ, List}
use Rattle.std.proofs.lemmas.List.Elements.{All-set}
use Rattle.disk_model.specs.Spans.{Beside, EndBy}
use Rattle.disk_model.specs.declared.spans.Span.{Span}
use Rattle.disk_model.proofs.Covers.{all_but_one, parts, nowhere, long}
use Rattle.disk_model.proofs.contents.Contents.retire.Goals as goal

pub invariant_of-self-clause-end : goal.invariant_of-self-clause-end
invariant_of-self-clause-end c = All-set (λ (span : Span). span.to ≤ length c.tear_range.new.all.items) c.args.self.now.written c.args.i nowhere (omega arith)
    (subst (λ (n : ℕ). EndBy n c.args.self.now.written) (sym c.tear_range.ensures.size) c.args.self.now.end)

pub invariant_of-self-clause-dry : goal.invariant_of-self-clause-dry
invariant_of-self-clause-dry c k out = parts k (get_or c.args.self.now.written c.args.i nowhere) (c.unmark.ensures.dry k)
    (λ beside. c.unmark.ensures.others k beside ∙ c.args.self.now.dry k (all_but_one (Beside k) c.args.self.now.written c.args.i nowhere nowhere (omega arith) beside out))

pub invariant_of-self-clause-kept : goal.invariant_of-self-clause-kept
invariant_of-self-clause-kept c k dry = parts k (get_or c.args.self.now.written c.args.i nowhere) (λ low high. c.copy_range.ensures.here k low high ∙ ap (λ (l : List ℕ). get_or l k 0) c.deref-3.ensures.value)
    (λ beside. c.copy_range.ensures.others k beside ∙ c.args.self.now.kept k (sym (c.unmark.ensures.others k beside) ∙ dry) ∙ sym (c.tear_range.ensures.others k beside))

pub invariant_of-self-clause-places : goal.invariant_of-self-clause-places
invariant_of-self-clause-places c = long c.args.self.now.written c.args.i nowhere ∙ c.args.self.now.places
