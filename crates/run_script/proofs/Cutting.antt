-- The places of a line's first six words.
use Rattle.std.proofs.Common.{◌≡◌, ℕ, ◌<◌, ◌≤◌, List, [], ◌∷◌, length, get_or, sym, ap, ◌∙◌, arith, inl, inr, refl}
use Rattle.std.specs.Prelude.{All}
use Rattle.std.proofs.lemmas.List.{get_or_past}
use Rattle.std.proofs.lemmas.List.Elements.{All-cons, All-nil}
use Rattle.std.proofs.lemmas.Bool.{cases_lt}
use Rattle.nav_text.specs.declared.span.Span.{Span}
use Rattle.nav_text.specs.Spans.{text_of, IsInside}
use Rattle.nav_text.specs.Words.{words_in}
use Rattle.nav_text.specs.FirstWords.{AreFirstWords}
use Rattle.run_script.specs.Cuts.{nothing, IsCut}

-- six places that name nothing
abbrev pub blank : List Span
blank = nothing ∷ nothing ∷ nothing ∷ nothing ∷ nothing ∷ nothing ∷ []

all_blank : (P : Span → Type 0) → P nothing → All P blank
all_blank P h =
    let one = All-cons P nothing [] h (All-nil P) in
    let two = All-cons P nothing (nothing ∷ []) h one in
    let three = All-cons P nothing (nothing ∷ nothing ∷ []) h two in
    let four = All-cons P nothing (nothing ∷ nothing ∷ nothing ∷ []) h three in
    let five = All-cons P nothing (nothing ∷ nothing ∷ nothing ∷ nothing ∷ []) h four in
    All-cons P nothing (nothing ∷ nothing ∷ nothing ∷ nothing ∷ nothing ∷ []) h five

pub cut_of : (text : List ℕ) (line : Span) (spans : List Span) (count : ℕ) → count ≡ length (words_in (text_of text line)) → AreFirstWords text line blank spans → IsCut text spans count (words_in (text_of text line))
cut_of text line spans count all are =
    let six : length spans ≡ 6 = are.size in
    record {
      all = all;
      six = six;
      inside = λ k below. are.inside (all_blank (IsInside text) (omega arith, omega arith)) k nothing (omega (arith, six, below));
      named = λ k below. elim (cases_lt k (length (words_in (text_of text line)))) [
        | inl less ↦ are.words k nothing below less
        | inr more ↦ ap (text_of text) (are.rest k nothing below more ∙ all_blank (λ s. s ≡ nothing) refl k nothing below) ∙ sym (get_or_past (words_in (text_of text line)) k [] more)
      ];
    }
