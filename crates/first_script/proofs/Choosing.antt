-- What an answer tells of the tests that it was chosen by.
use Rattle.std.proofs.Common.{◌≡◌, ℕ, List, Bool, true, false, cond, refl, subst}
use Rattle.std.specs.Prelude.{Result, Ok, Err}
use Rattle.first_script.specs.declared.fault.ScriptFault.{ScriptFault}
use Rattle.first_script.specs.declared.form.Form.{Form}
use Rattle.first_script.specs.Reads.{◌>>=◌}
use Rattle.first_script.specs.Forms.{sized, unlisted}
use Rattle.std.specs.Prelude.{length, ◌==◌, nat_lt}

pub choose : {A : Type 0} (b : Bool) (r s : Result A ScriptFault) (y : A) (P : Type 0) → cond b r s ≡ Ok y → (b ≡ true → r ≡ Ok y → P) → (b ≡ false → s ≡ Ok y → P) → P
choose true r s y P e first second = first refl e
choose false r s y P e first second = second refl e

pub same_ok : {A : Type 0} (x y : A) → ◌≡◌ {A = Result A ScriptFault} (Ok x) (Ok y) → x ≡ y
same_ok x y e = cc

-- a value that is given is the one
pub given : {A : Type 0} (x y : A) (P : A → Type 0) → P x → ◌≡◌ {A = Result A ScriptFault} (Ok x) (Ok y) → P y
given x y P h e = subst P (same_ok x y e) h

pub refused : {A : Type 0} (f : ScriptFault) (y : A) (P : Type 0) → ◌≡◌ {A = Result A ScriptFault} (Err f) (Ok y) → P
refused f y P e = cc

-- a value in two steps
pub bound : {A B : Type 0} (r : Result A ScriptFault) (f : A → Result B ScriptFault) (y : B) (P : Type 0) → r >>= f ≡ Ok y → ((x : A) → r ≡ Ok x → f x ≡ Ok y → P) → P
bound (Ok x) f y P e next = next x refl e
bound (Err fault) f y P e next = refused fault y P e

pub sized_gives : (count : ℕ) (x : Form) (words : List (List ℕ)) (form : Form) (P : Form → Type 0) → P x → sized count x words ≡ Ok form → P form
sized_gives count x words form P h e = choose (length words == count) _ _ form (P form) e (λ b r. given x form P h r) (λ b r. refused _ form (P form) r)

pub unlisted_never : (place : ℕ) (words : List (List ℕ)) (form : Form) (P : Type 0) → unlisted place words ≡ Ok form → P
unlisted_never place words form P e = choose (nat_lt place (length words)) _ _ form P e (λ b r. refused _ form P r) (λ b r. refused _ form P r)
