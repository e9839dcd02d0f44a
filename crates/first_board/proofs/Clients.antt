-- Clients are told apart, and their requests are counted.
use Rattle.std.proofs.Common.{◌≡◌, ◌≢◌, ◌⊎◌, inl, inr, ◌+◌, ◌++◌, true, false, cond, List, [], ◌∷◌, Some, refl, ap, ◌∙◌, arith}
use Rattle.std.proofs.lemmas.Bool.Decides.{eqb_tells}
use Rattle.first_model.specs.declared.request.Client.{Client}
use Rattle.first_model.specs.declared.request.Client.TheVariants.{Nav, Link, Watch}
use Rattle.first_model.specs.declared.request.Request.{Request}
use Rattle.first_board.specs.BoardState.{same_client, asks_of, serving}

-- two clients are one and the test says so, or they are not and the test says so
pub tell : (a b : Client) → ((same_client a b ≡ true) × (a ≡ b)) ⊎ ((same_client a b ≡ false) × (a ≢ b))
tell Nav Nav = inl (refl, refl)
tell Nav (Link m) = inr (refl, λ e. cc)
tell Nav (Watch m) = inr (refl, λ e. cc)
tell (Link n) Nav = inr (refl, λ e. cc)
tell (Link n) (Link m) = elim (eqb_tells n m) [ inl same ↦ inl (same.0, ap (λ k. Link k) same.1) | inr other ↦ inr (other.0, λ e. other.1 cc) ]
tell (Link n) (Watch m) = inr (refl, λ e. cc)
tell (Watch n) Nav = inr (refl, λ e. cc)
tell (Watch n) (Link m) = inr (refl, λ e. cc)
tell (Watch n) (Watch m) = elim (eqb_tells n m) [ inl same ↦ inl (same.0, ap (λ k. Watch k) same.1) | inr other ↦ inr (other.0, λ e. other.1 cc) ]

pub own_test : (a : Client) → same_client a a ≡ true
own_test a = elim (tell a a) [ inl same ↦ same.0 | inr other ↦ absurd (other.1 refl) ]

pub other_test : (a b : Client) → a ≢ b → same_client a b ≡ false
other_test a b ne = elim (tell a b) [ inl same ↦ absurd (ne same.1) | inr other ↦ other.0 ]

-- the requests of two queues, one behind the other
pub asks_of-append : (client : Client) (xs ys : List (Client × Request)) → asks_of client (xs ++ ys) ≡ asks_of client xs + asks_of client ys
asks_of-append client [] ys = omega arith
asks_of-append client ((other, request) ∷ xs) ys = omega (arith, asks_of-append client xs ys)

-- one request more of the client, and none of another
pub own_ask : (client : Client) (request : Request) (xs : List (Client × Request)) → asks_of client ((client, request) ∷ xs) ≡ asks_of client xs + 1
own_ask client request xs = ap (λ b. cond b 1 0 + asks_of client xs) (own_test client) ∙ omega arith

pub other_ask : (other client : Client) (request : Request) (xs : List (Client × Request)) → other ≢ client → asks_of other ((client, request) ∷ xs) ≡ asks_of other xs
other_ask other client request xs ne = ap (λ b. cond b 1 0 + asks_of other xs) (other_test other client ne) ∙ omega arith

-- the service counts for its client alone
pub own_service : (client : Client) (request : Request) → serving client (Some (client, request)) ≡ 1
own_service client request = ap (λ b. cond b 1 0) (own_test client)

pub other_service : (other client : Client) (request : Request) → other ≢ client → serving other (Some (client, request)) ≡ 0
other_service other client request ne = ap (λ b. cond b 1 0) (other_test other client ne)
