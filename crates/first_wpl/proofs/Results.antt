-- What an answer says of its value.
use Rattle.std.proofs.Common.{◌≡◌, Result, Ok, Err, subst, sym, refl, List}
use Rattle.first_wpl.specs.declared.fault.WplFault.{WplFault}
use Rattle.first_wpl.specs.declared.fault.WplFault.TheVariants.{Text, Header, TooMany, FieldCount, BadWhole, BadIndex, Num, Memory}
use Rattle.first_model.specs.declared.plan.Item.{Item}
use Rattle.first_wpl.specs.Faults.{Gives, GivesItems}

pub ok_same : {A E : Type 0} (x y : A) → ◌≡◌ {A = Result A E} (Ok x) (Ok y) → x ≡ y
ok_same x y e = cc

pub no_value : {A E : Type 0} (fault : E) (x : A) → ◌≡◌ {A = Result A E} (Err fault) (Ok x) → ⊥
no_value fault x e = cc

-- the answer is the value that is expected
pub gives_same : {A : Type 0} (answer : Result A WplFault) (value : A) → answer ≡ Ok value → Gives answer value
gives_same {A} answer value e = let P : Result A WplFault → Type 0 = λ r. Gives r value in subst P (sym e) refl

-- a fault that rules out every item rules out every list of them
pub gives_fault : (fault : WplFault) (item : Item) (items : List Item) → Gives (Err fault) item → GivesItems (Err fault) items
gives_fault (Text _) item items h = h
gives_fault Header item items h = h
gives_fault (TooMany _) item items h = h
gives_fault (FieldCount _) item items h = h
gives_fault (BadWhole _ _) item items h = h
gives_fault (BadIndex _) item items h = h
gives_fault (Num _ _ _) item items h = h
gives_fault (Memory _) item items h = h
