-- What is written, part by part.
use Rattle.std.proofs.Common.{◌≡◌, ℕ, ◌+◌, ◌<◌, List, [], ◌∷◌, ◌++◌, length, take, get_or, ap, ◌∙◌, arith, append_assoc, Bool, true, false, refl, subst, Result, Vec, Global, IfOk, codes}
use mir.Val.{bool_byte}
use Rattle.std.specs.declared.alloc.AllocError.{AllocError}
use Rattle.first_text.specs.Joined.{text_of_lines}
use Rattle.std.proofs.lemmas.List.{take_more, length-take-le}
use Rattle.first_model.specs.declared.plan.Item.{Item}
use Rattle.first_wpl.specs.Writing.{flag_of, row_text, row_texts, wpl_text}

-- four parts
pub regroup : (a b c d : List ℕ) → ((a ++ b) ++ c) ++ d ≡ a ++ (b ++ (c ++ d))
regroup a b c d = append_assoc (a ++ b) c d ∙ append_assoc a b (c ++ d)

-- one more row
pub texts_push : (place : ℕ) (items : List Item) (item : Item) (at : ℕ) → at ≡ place + length items → row_texts place (items ++ item ∷ []) ≡ row_texts place items ++ row_text at item ∷ []
texts_push place [] item at e = let same : place ≡ at = omega arith in ap (λ n. row_text n item ∷ []) same
texts_push place (first ∷ items) item at e = ap (λ rows. row_text place first ∷ rows) (texts_push (place + 1) items item at (omega arith))

pub texts_more : (items : List Item) (i : ℕ) (d : Item) → i < length items → row_texts 0 (take (i + 1) items) ≡ row_texts 0 (take i items) ++ row_text i (get_or items i d) ∷ []
texts_more items i d h =
    let size = length-take-le i items (omega arith) in
    ap (row_texts 0) (take_more items i d h) ∙ texts_push 0 (take i items) (get_or items i d) i (omega arith)

-- a flag as a byte
pub flag_byte : (flag : Bool) → bool_byte flag ≡ flag_of flag
flag_byte true = refl
flag_byte false = refl

-- a text that is another by its lines
pub text_same : (answer : Result (Vec ℕ Global) AllocError) (a b : List ℕ) → a ≡ b → IfOk answer (λ text. text.items ≡ a) → IfOk answer (λ text. text.items ≡ b)
text_same answer a b same told = let P : List ℕ → Type 0 = λ bytes. IfOk answer (λ text. text.items ≡ bytes) in subst P same told

-- the lines of a plan text make it
pub text_made : (lines : List (List ℕ)) (items : List Item) → lines ≡ codes "QGC WPL 110" ∷ row_texts 0 items → text_of_lines lines ≡ wpl_text items
unfolding wpl_text
text_made lines items same = ap text_of_lines same
