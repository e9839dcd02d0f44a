-- The words of a row where it has as many as there are places.
use Rattle.std.proofs.Common.{◌≡◌, ℕ, List, [], length, map, get_or, sym, ap, ◌∙◌, arith}
use Rattle.std.proofs.lemmas.List.{same_lists, length-map, get_or-map, get_or_default}
use Rattle.nav_text.specs.declared.span.Span.{Span}
use Rattle.nav_text.specs.Spans.{text_of}
use Rattle.nav_text.specs.Words.{words_in}
use Rattle.nav_text.specs.FirstWords.{AreFirstWords}
use Rattle.wpl_items.specs.Fields.{named}

pub named_words : (text : List ℕ) (line : Span) (old new : List Span) → AreFirstWords text line old new → length (words_in (text_of text line)) ≡ length old → named text new ≡ words_in (text_of text line)
named_words text line old new are many =
    let none : Span = record { from = 0; to = 0 } in
    let size : length (named text new) ≡ length new = length-map new (text_of text) in
    same_lists (named text new) (words_in (text_of text line)) (size ∙ are.size ∙ sym many)
    (λ k d below. get_or-map (text_of text) new k none d (omega (arith, size, below)) ∙ are.words k none (omega (arith, size, are.size, below)) (omega (arith, size, are.size, many, below)) ∙ get_or_default (words_in (text_of text line)) k [] d (omega (arith, size, are.size, many, below)))
