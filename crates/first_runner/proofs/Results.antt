-- What is said of a result, at each of its variants.
use Rattle.std.proofs.Common.{◌≡◌, true}
use Rattle.std.specs.Prelude.{Result, Ok, Err, OnErr, OnOk, false}
use Rattle.std.specs.Result.{is_err}

-- what holds where a call fails, and where it does not
pub at_err : {T E : Type 0} (r : Result T E) (P : Type 0) → OnErr r P → is_err r ≡ true → P
at_err (Ok x) P h e = cc
at_err (Err x) P h e = h

pub at_ok : {T E : Type 0} (r : Result T E) (P : Type 0) → OnOk r P → is_err r ≡ false → P
at_ok (Ok x) P h e = h
at_ok (Err x) P h e = cc

-- what holds anyway, and what follows from what holds
pub any_err : {T E : Type 0} (r : Result T E) (P : Type 0) → P → OnErr r P
any_err (Ok x) P h = tt
any_err (Err x) P h = h

pub then_ok : {T E : Type 0} (r : Result T E) (P Q : Type 0) → (P → Q) → OnOk r P → OnOk r Q
then_ok (Ok x) P Q f h = f h
then_ok (Err x) P Q f h = tt

pub then_err : {T E : Type 0} (r : Result T E) (P Q : Type 0) → (P → Q) → OnErr r P → OnErr r Q
then_err (Ok x) P Q f h = tt
then_err (Err x) P Q f h = f h
