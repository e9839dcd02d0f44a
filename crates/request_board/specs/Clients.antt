-- Clients are told apart, and lists of requests are cut by client.
use Rattle.std.specs.Prelude.{◌≡◌, ◌≢◌, true, false, List, [], ◌∷◌, ◌++◌, refl}
use Rattle.std.proofs.Common.{◌⊎◌, inl, inr, cond, ap, ◌∙◌, sym}
use Rattle.std.proofs.lemmas.Bool.Decides.{eqb_tells}
use Rattle.mission_model.specs.declared.request.Client.{Client}
use Rattle.mission_model.specs.declared.request.Client.TheVariants.{Nav, Link, Watch}
use Rattle.mission_model.specs.declared.request.Request.{Request}
use Rattle.mission_model.specs.declared.request.Asked.{Asked}
use Rattle.mission_model.specs.declared.request.Reply.{Reply}
use Rattle.mission_model.specs.Shown.{asked_of}
use Rattle.request_board.specs.Asks.{same_client, abouts, own_abouts, replied}

-- two clients are one and the test says so, or they are not and the test says so
pub tell : (a b : Client) → ((same_client a b ≡ true) × (a ≡ b)) ⊎ ((same_client a b ≡ false) × (a ≢ b))
tell Nav Nav = inl (refl, refl)
tell Nav (Link m) = inr (refl, λ e. cc)
tell Nav (Watch m) = inr (refl, λ e. cc)
tell (Link n) Nav = inr (refl, λ e. cc)
tell (Link n) (Link m) = elim (eqb_tells n m) [ inl same ↦ inl (same.0, ap (λ k. Link k) same.1) | inr other ↦ inr (other.0, λ e. other.1 cc) ]
tell (Link n) (Watch m) = inr (refl, λ e. cc)
tell (Watch n) Nav = inr (refl, λ e. cc)
tell (Watch n) (Link m) = inr (refl, λ e. cc)
tell (Watch n) (Watch m) = elim (eqb_tells n m) [ inl same ↦ inl (same.0, ap (λ k. Watch k) same.1) | inr other ↦ inr (other.0, λ e. other.1 cc) ]

pub own_test : (a : Client) → same_client a a ≡ true
own_test a = elim (tell a a) [ inl same ↦ same.0 | inr other ↦ absurd (other.1 refl) ]

pub other_test : (a b : Client) → a ≢ b → same_client a b ≡ false
other_test a b ne = elim (tell a b) [ inl same ↦ absurd (ne same.1) | inr other ↦ other.0 ]

-- the test on clients decides which of two lists
pub own_list : {X : Type 0} (client other : Client) (xs ys : List X) → client ≡ other → cond (same_client client other) xs ys ≡ xs
own_list client other xs ys same = ap (λ c. cond (same_client client c) xs ys) (sym same) ∙ ap (λ b. cond b xs ys) (own_test client)

pub other_list : {X : Type 0} (client other : Client) (xs ys : List X) → client ≢ other → cond (same_client client other) xs ys ≡ ys
other_list client other xs ys apart = ap (λ b. cond b xs ys) (other_test client other apart)

-- two lists, one behind the other
pub abouts-append : (xs ys : List (Client × Request)) → abouts (xs ++ ys) ≡ abouts xs ++ abouts ys
abouts-append [] ys = refl
abouts-append ((client, request) ∷ xs) ys = ap (λ l. (client, asked_of request) ∷ l) (abouts-append xs ys)

pub own_abouts-append : (client : Client) (xs ys : List (Client × Asked)) → own_abouts client (xs ++ ys) ≡ own_abouts client xs ++ own_abouts client ys
own_abouts-append client [] ys = refl
own_abouts-append client ((other, about) ∷ xs) ys = elim (tell client other) [
  | inl same ↦ own_list client other (about ∷ own_abouts client (xs ++ ys)) (own_abouts client (xs ++ ys)) same.1 ∙ ap (λ l. about ∷ l) (own_abouts-append client xs ys) ∙ ap (λ l. l ++ own_abouts client ys) (sym (own_list client other (about ∷ own_abouts client xs) (own_abouts client xs) same.1))
  | inr apart ↦ other_list client other (about ∷ own_abouts client (xs ++ ys)) (own_abouts client (xs ++ ys)) apart.1 ∙ own_abouts-append client xs ys ∙ ap (λ l. l ++ own_abouts client ys) (sym (other_list client other (about ∷ own_abouts client xs) (own_abouts client xs) apart.1))
]

pub replied-append : (xs ys : List (Asked × Reply)) → replied (xs ++ ys) ≡ replied xs ++ replied ys
replied-append [] ys = refl
replied-append ((about, reply) ∷ xs) ys = ap (λ l. about ∷ l) (replied-append xs ys)

-- the first request is the client's own, or another's
pub own_first : (client : Client) (about : Asked) (asks : List (Client × Asked)) → own_abouts client ((client, about) ∷ asks) ≡ about ∷ own_abouts client asks
own_first client about asks = own_list client client (about ∷ own_abouts client asks) (own_abouts client asks) refl

pub other_first : (client other : Client) (about : Asked) (asks : List (Client × Asked)) → client ≢ other → own_abouts client ((other, about) ∷ asks) ≡ own_abouts client asks
other_first client other about asks apart = other_list client other (about ∷ own_abouts client asks) (own_abouts client asks) apart
