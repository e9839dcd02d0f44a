-- Where a line's text begins the bytes, it is the line that was read.
use Rattle.std.proofs.Common.{◌≡◌, ◌++◌, ℕ, List, rules, ap, sym, ◌∙◌, subst, drop, length}
use Rattle.std.specs.Prelude.{IsTrue}
use Rattle.std.proofs.lemmas.Bool.{false≢true}
use Rattle.std.proofs.lemmas.Bool.Decides.{Decides-eqb}
use Rattle.std.proofs.lemmas.Slice.Eq.{starts_is}
use Rattle.record_text.specs.Record.{IsPrintable, line_text_of}
use Rattle.record_text.specs.LineReading.{line_at}
use Rattle.record_text.proofs.LineLaws.{line-again}
use Rattle.record_text.proofs.reading.first_line.Goals as goal

pub returns-then-not-is_printable : goal.returns-then-not-is_printable
returns-then-not-is_printable c = λ line more is text.
    let same : c.read_line-line.result ≡ line = c.read_line-line.ensures ∙ ap line_at text ∙ line-again line more is in
    false≢true (subst IsTrue c.if-not-is_printable.true (c.is_printable.ensures.1 (subst IsPrintable (sym same) is.0)))

pub returns-then-begins_with : goal.returns-then-begins_with
returns-then-begins_with c =
    let text : c.append_line.new.out.items ≡ line_text_of c.read_line-line.result = c.in_ok-append_line.ensures ∙ ap (λ (front : List ℕ). front ++ line_text_of c.read_line-line.result) c.clear.ensures.items in
    let front = (starts_is Decides-eqb c.args.bytes.now c.deref.result.now c.begins_with.result c.begins_with.ensures).0 c.if-begins_with.true in
    record {
      writable = (search rules, c.line_is_typed.ensures);
      line_text = text;
      front = subst (λ (t : List ℕ). c.args.bytes.now ≡ t ++ drop (length t) c.args.bytes.now) c.deref.ensures.value front;
    }

pub returns-else-begins_with : goal.returns-else-begins_with
returns-else-begins_with c = λ line more is text.
    let same : c.read_line-line.result ≡ line = c.read_line-line.ensures ∙ ap line_at text ∙ line-again line more is in
    let printed : c.deref.result.now ≡ line_text_of line = c.deref.ensures.value ∙ c.in_ok-append_line.ensures ∙ ap (λ (front : List ℕ). front ++ line_text_of c.read_line-line.result) c.clear.ensures.items ∙ ap line_text_of same in
    false≢true (sym c.if-begins_with.false
    ∙ (starts_is Decides-eqb c.args.bytes.now c.deref.result.now c.begins_with.result c.begins_with.ensures).1 more (text ∙ ap (λ (t : List ℕ). t ++ more) (sym printed)))
