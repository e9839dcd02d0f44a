-- What lines tell of the requests of a client, as these are asked, served and heard.
use Rattle.std.proofs.Common.{◌≡◌, ◌≢◌, ◌⊎◌, inl, inr, ℕ, zero, suc, ◌+◌, ◌<◌, ◌≤◌, ◌==◌, Bool, true, false, List, [], ◌∷◌, ◌++◌, length, take, drop, Option, Some, None, refl, sym, ap, ◌∙◌, subst, arith, cond, append_assoc, append-nil, length-append}
use Rattle.std.specs.Prelude.{slice_get, is_some, if◌then◌else◌}
use Rattle.std.proofs.lemmas.Bool.Decides.{eqb_tells}
use Rattle.std.proofs.lemmas.List.{drop-append-le, take-append-drop, length-drop}
use Rattle.std.proofs.lemmas.Option.{same_Some}
use Rattle.first_model.specs.declared.request.Client.{Client}
use Rattle.first_model.specs.declared.request.Client.TheVariants.{Nav, Link, Watch}
use Rattle.first_model.specs.declared.request.Request.{Request}
use Rattle.first_model.specs.declared.request.Asked.{Asked}
use Rattle.first_model.specs.declared.request.Reply.{Reply}
use Rattle.first_board.specs.BoardState.{same_client, asks_of, serving}
use Rattle.first_board.specs.BoardCalls.{asked_of, in_service}
use Rattle.first_board.specs.BoardLaw.{abouts, replied, listed}
use Rattle.first_runner.specs.BootTold.{own, times, replies_to}

-- two clients are one and the test says so, or they are not and the test says so
pub tell : (a b : Client) → ((same_client a b ≡ true) × (a ≡ b)) ⊎ ((same_client a b ≡ false) × (a ≢ b))
tell Nav Nav = inl (refl, refl)
tell Nav (Link m) = inr (refl, λ e. cc)
tell Nav (Watch m) = inr (refl, λ e. cc)
tell (Link n) Nav = inr (refl, λ e. cc)
tell (Link n) (Link m) = elim (eqb_tells n m) [ inl same ↦ inl (same.0, ap (λ k. Link k) same.1) | inr other ↦ inr (other.0, λ e. other.1 cc) ]
tell (Link n) (Watch m) = inr (refl, λ e. cc)
tell (Watch n) Nav = inr (refl, λ e. cc)
tell (Watch n) (Link m) = inr (refl, λ e. cc)
tell (Watch n) (Watch m) = elim (eqb_tells n m) [ inl same ↦ inl (same.0, ap (λ k. Watch k) same.1) | inr other ↦ inr (other.0, λ e. other.1 cc) ]

pub own_test : (a : Client) → same_client a a ≡ true
own_test a = elim (tell a a) [ inl same ↦ same.0 | inr other ↦ absurd (other.1 refl) ]

-- one thing, where the client is this one
abbrev pub if_own : {A : Type 0} → Client → Client → A → List A
if_own client other a = if same_client client other then a ∷ [] else []

-- the requests of a client among some and then others
own_if : (b : Bool) (asked : Asked) (xs ys : List Asked) → (if b then asked ∷ (xs ++ ys) else (xs ++ ys)) ≡ (if b then asked ∷ xs else xs) ++ ys
own_if true asked xs ys = refl
own_if false asked xs ys = refl

pub own-append : (client : Client) (xs ys : List (Client × Asked)) → own client (xs ++ ys) ≡ own client xs ++ own client ys
own-append client [] ys = refl
own-append client ((other, asked) ∷ xs) ys = ap (λ (l : List Asked). if same_client client other then asked ∷ l else l) (own-append client xs ys) ∙ own_if (same_client client other) asked (own client xs) (own client ys)

-- a client's place in the list of who heard
pub times-push : (client other : Client) (xs : List Client) → times client (xs ++ other ∷ []) ≡ times client xs + (if same_client client other then 1 else 0)
times-push client other [] = omega arith
times-push client other (x ∷ xs) = omega (arith, times-push client other xs)

-- nothing was served
pub replies_to-none : (client : Client) (asks : List (Client × Asked)) → replies_to client asks [] ≡ []
replies_to-none client [] = refl
replies_to-none client (ask ∷ asks) = refl

-- later requests change no reply
pub replies_to-asks : (client : Client) (asks more : List (Client × Asked)) (replies : List Reply) → length replies ≤ length asks → replies_to client (asks ++ more) replies ≡ replies_to client asks replies
replies_to-asks client [] more [] within = replies_to-none client more
replies_to-asks client [] more (given ∷ replies) within = absurd (omega (arith, within))
replies_to-asks client (ask ∷ asks) more [] within = refl
replies_to-asks client ((other, asked) ∷ asks) more (given ∷ replies) within =
    ap (λ (l : List (Asked × Reply)). if same_client client other then (asked, given) ∷ l else l) (replies_to-asks client asks more replies (omega (arith, within)))

-- one more reply is that of the first request that was not served
serve_if : (b : Bool) (said : Asked × Reply) (xs ys : List (Asked × Reply)) → (if b then said ∷ (xs ++ ys) else (xs ++ ys)) ≡ (if b then said ∷ xs else xs) ++ ys
serve_if true said xs ys = refl
serve_if false said xs ys = refl

pub replies_to-serve : (client other : Client) (asks : List (Client × Asked)) (replies : List Reply) (asked : Asked) (given : Reply) → slice_get asks (length replies) ≡ Some (other, asked) → replies_to client asks (replies ++ given ∷ []) ≡ replies_to client asks replies ++ if_own client other (asked, given)
replies_to-serve client other [] replies asked given at = cc
replies_to-serve client other ((first, about) ∷ asks) [] asked given at =
    let pair : (first, about) ≡ (other, asked) = same_Some (first, about) (other, asked) at in
    let same : first ≡ other = ap (λ (x : Client × Asked). x.0) pair in
    let is : about ≡ asked = ap (λ (x : Client × Asked). x.1) pair in
    let rest : List (Asked × Reply) = replies_to client asks [] in
    let none : rest ≡ [] = replies_to-none client asks in
    ap (λ (l : List (Asked × Reply)). if same_client client first then (about, given) ∷ l else l) none ∙ (λ k. if same_client client (same k) then (is k, given) ∷ [] else [])
replies_to-serve client other ((first, about) ∷ asks) (was ∷ replies) asked given at =
    ap (λ (l : List (Asked × Reply)). if same_client client first then (about, was) ∷ l else l) (replies_to-serve client other asks replies asked given at) ∙ serve_if (same_client client first) (about, was) (replies_to client asks replies) (if_own client other (asked, given))

-- what the replies to a client are on
replied_if : (b : Bool) (said : Asked × Reply) (xs : List (Asked × Reply)) → replied (if b then said ∷ xs else xs) ≡ (if b then said.0 ∷ replied xs else replied xs)
replied_if true said xs = refl
replied_if false said xs = refl

pub replied-replies_to : (client : Client) (asks : List (Client × Asked)) (replies : List Reply) → replied (replies_to client asks replies) ≡ own client (take (length replies) asks)
replied-replies_to client [] [] = refl
replied-replies_to client [] (given ∷ replies) = refl
replied-replies_to client (ask ∷ asks) [] = refl
replied-replies_to client ((other, asked) ∷ asks) (given ∷ replies) =
    replied_if (same_client client other) (asked, given) (replies_to client asks replies) ∙ ap (λ (l : List Asked). if same_client client other then asked ∷ l else l) (replied-replies_to client asks replies)

pub replied-drop : (n : ℕ) (xs : List (Asked × Reply)) → replied (drop n xs) ≡ drop n (replied xs)
replied-drop zero xs = refl
replied-drop (suc n) [] = refl
replied-drop (suc n) ((about, given) ∷ xs) = replied-drop n xs

pub length-replied : (xs : List (Asked × Reply)) → length (replied xs) ≡ length xs
length-replied [] = refl
length-replied ((about, given) ∷ xs) = omega (arith, length-replied xs)

-- the first of what is left
pub drop_first : {A : Type 0} → (n : ℕ) (xs : List A) (x : A) (rest : List A) → drop n xs ≡ x ∷ rest → (slice_get xs n ≡ Some x) × (drop (suc n) xs ≡ rest) × (n < length xs)
drop_first zero [] x rest is = cc
drop_first zero (y ∷ xs) x rest is = (cc, cc, omega arith)
drop_first (suc n) [] x rest is = cc
drop_first (suc n) (y ∷ xs) x rest is = let here = drop_first n xs x rest is in (here.0, here.1, omega (arith, here.2))

pub drop_none : {A : Type 0} → (n : ℕ) (xs : List A) → drop n xs ≡ [] → (slice_get xs n ≡ None) × (length xs ≤ n)
drop_none zero [] is = (refl, omega arith)
drop_none zero (y ∷ xs) is = cc
drop_none (suc n) [] is = (refl, omega arith)
drop_none (suc n) (y ∷ xs) is = let here = drop_none n xs is in (here.0, omega (arith, here.1))

pub drop_at : {A : Type 0} → (n : ℕ) (xs : List A) (x : A) → slice_get xs n ≡ Some x → drop n xs ≡ x ∷ drop (suc n) xs
drop_at n [] x at = cc
drop_at zero (y ∷ xs) x at = let same : y ≡ x = cc in ap (λ z. z ∷ xs) same
drop_at (suc n) (y ∷ xs) x at = drop_at n xs x at

-- an element stays where more follow
pub slice_get-append : {A : Type 0} → (n : ℕ) (xs ys : List A) (x : A) → slice_get xs n ≡ Some x → slice_get (xs ++ ys) n ≡ Some x
slice_get-append n [] ys x at = cc
slice_get-append zero (y ∷ xs) ys x at = at
slice_get-append (suc n) (y ∷ xs) ys x at = slice_get-append n xs ys x at

pub take_step : {A : Type 0} → (n : ℕ) (xs : List A) (x : A) → slice_get xs n ≡ Some x → take (suc n) xs ≡ take n xs ++ x ∷ []
take_step n [] x at = cc
take_step zero (y ∷ xs) x at = let same : y ≡ x = cc in ap (λ z. z ∷ []) same
take_step (suc n) (y ∷ xs) x at = ap (λ l. y ∷ l) (take_step n xs x at)

-- requests without the items that they write
pub abouts-append : (xs ys : List (Client × Request)) → abouts (xs ++ ys) ≡ abouts xs ++ abouts ys
abouts-append [] ys = refl
abouts-append ((client, request) ∷ xs) ys = ap (λ (l : List (Client × Asked)). (client, asked_of request) ∷ l) (abouts-append xs ys)

counted : (b : Bool) (asked : Asked) (rest : List Asked) (n : ℕ) → n ≡ length rest → (if b then 1 else 0) + n ≡ length (if b then asked ∷ rest else rest)
counted true asked rest n is = omega (arith, is)
counted false asked rest n is = omega (arith, is)

pub asks_of-own : (client : Client) (xs : List (Client × Request)) → asks_of client xs ≡ length (own client (abouts xs))
asks_of-own client [] = refl
asks_of-own client ((other, request) ∷ xs) = counted (same_client client other) (asked_of request) (own client (abouts xs)) (asks_of client xs) (asks_of-own client xs)

pub serving-own : (client : Client) (taken : Option (Client × Request)) → serving client taken ≡ length (own client (listed (in_service taken)))
serving-own client None = refl
serving-own client (Some (other, request)) = omega (arith, counted (same_client client other) (asked_of request) [] 0 refl)
