-- What parts of the reader answer.
use Rattle.std.specs.Prelude.{◌≡◌, Option, Some, None, Result, Ok, Err}
use Rattle.first_script.specs.declared.fault.ScriptFault.{ScriptFault}
use Rattle.first_script.specs.declared.fault.ScriptFault.TheVariants as fault
use Rattle.first_script.specs.declared.fault.Stop.{Stop}
use Rattle.first_script.specs.declared.fault.Stop.TheVariants.{Memory, Fault}

infixl 10 ◌>>=◌
abbrev pub ◌>>=◌ : {A B : Type 0} → Result A ScriptFault → (A → Result B ScriptFault) → Result B ScriptFault
(Ok x) >>= f = f x
(Err e) >>= f = Err e

-- a value, or this fault where there is none
abbrev pub or_fault : {A : Type 0} → ScriptFault → Option A → Result A ScriptFault
or_fault e (Some x) = Ok x
or_fault e None = Err e

-- a part gave up for want of memory
abbrev pub IsMemory : Stop → Type 0
IsMemory (Memory _) = Unit {0}
IsMemory (Fault _) = ⊥

-- what is said of every fault but want of memory
abbrev pub UnlessMemory : (ScriptFault → Type 0) → ScriptFault → Type 0
UnlessMemory Q (fault.Memory _) = Unit {0}
UnlessMemory Q f = Q f

-- the fault that is told of a line
abbrev pub told : Stop → ScriptFault
told (Fault f) = f
told (Memory source) = fault.Memory source

-- the answer is what is wanted, a value or a fault, or want of memory
abbrev pub Gives : {A : Type 0} → Result A Stop → Result A ScriptFault → Type 0
Gives (Ok found) wanted = wanted ≡ Ok found
Gives (Err (Fault f)) wanted = wanted ≡ Err f
Gives (Err (Memory _)) wanted = Unit {0}

-- the answer is the one value that may come, or a fault where none may, or want of memory
abbrev pub Answers : {A : Type 0} → Result A Stop → (A → Type 0) → (ScriptFault → Type 0) → Type 0
Answers {A} (Ok found) Comes IsFault = Comes found × ((other : A) → Comes other → other ≡ found)
Answers {A} (Err (Fault f)) Comes IsFault = IsFault f × ((other : A) → ¬ (Comes other))
Answers (Err (Memory _)) Comes IsFault = Unit {0}
