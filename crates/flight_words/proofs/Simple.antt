-- The program is a simple command without rules between its arguments, so `clap` says what it takes of any words.
use Rattle.std.specs.Prelude.{◌≡◌, true, Option, refl}
use Rattle.std.proofs.Common.{ap, ◌∙◌}
use Rattle.clap.specs.Walk.{Text}
use Rattle.clap.specs.Simple.{is_simple}
use Rattle.clap.specs.Faults.{is_simple_and_free}
use Rattle.clap.proofs.OnLiterals.{clap_on_literals}
use Rattle.flight_words.specs.Commands.{Told, program}

pub program_is_simple : is_simple program ≡ true
unfolding clap_on_literals
program_is_simple = refl

pub program_is_free : is_simple_and_free program ≡ true
unfolding clap_on_literals
program_is_free = refl

-- what is told is the same where each part is
pub told_same : (name name' value value' store store' : Option Text) → name ≡ name' → value ≡ value' → store ≡ store' → (let t : Told = record { name = name; value = value; store = store } in t) ≡ (let t : Told = record { name = name'; value = value'; store = store' } in t)
told_same name name' value value' store store' n v s =
    ap (λ (o : Option Text). let t : Told = record { name = o; value = value; store = store } in t) n
    ∙ (ap (λ (o : Option Text). let t : Told = record { name = name'; value = o; store = store } in t) v
    ∙ ap (λ (o : Option Text). let t : Told = record { name = name'; value = value'; store = o } in t) s)
