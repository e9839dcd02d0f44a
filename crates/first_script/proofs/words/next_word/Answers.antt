use Rattle.std.proofs.Common.{◌≤◌, arith, ◌≡◌, ◌<◌, [], length, ℕ, ◌-◌, drop, take, ◌∙◌, ap, List, sym}
use Rattle.std.proofs.lemmas.Grind.{common_steps}
use Rattle.first_text.specs.Words.{words_in}
use Rattle.first_script.proofs.FirstWord.{words_in-cons, words_in-none, words_in-drop_blanks, rest-is}
use Rattle.first_script.proofs.words.next_word.Goals as goal

pub returns-then-is_empty : goal.returns-then-is_empty
returns-then-is_empty c =
    let line = c.args.line.now in
    let none : take (length line - c.blanks_len.result) (drop c.blanks_len.result line) ≡ [] = grind (arith, common_steps) in
    let rest : drop c.blanks_len.result line ≡ [] = sym (rest-is c.blanks_len.result line) ∙ none in
    sym (words_in-drop_blanks line) ∙ (ap (λ (n : ℕ). words_in (drop n line)) (sym c.blanks_len.ensures.place) ∙ (ap words_in rest ∙ words_in-none))

pub returns : goal.returns
returns c =
    let line = c.args.line.now in
    let end = c.word_len-end.result in
    let text : List ℕ = take (length line - c.blanks_len.result) (drop c.blanks_len.result line) in
    let t = rest-is c.blanks_len.result line ∙ ap (λ (n : ℕ). drop n line) c.blanks_len.ensures.place in
    let some : 0 < length text = grind (arith, common_steps) in
    let cut = words_in-cons line text end t c.word_len-end.ensures.place c.word_len-end.ensures.within some in
    let short : length text ≤ length line = grind (arith, common_steps) in
    rw (rest-is end text) (cut.0, grind (arith, common_steps))
