-- After a step of one actor the parts of the core fit one another still.
use Rattle.std.proofs.Common.{◌≡◌, ◌≢◌, ℕ, ◌<◌, Bool, true, false, length, refl, sym, ◌∙◌, ap, arith, subst, get_or, set, length-set, nat_eq}
use Rattle.std.proofs.lemmas.List.{get_or-set_other}
use Rattle.std.proofs.lemmas.Grind.{get_or-set_at}
use Rattle.std.proofs.lemmas.Bool.{true≢false}
use Rattle.first_model.specs.declared.request.Client.{Client}
use Rattle.first_model.specs.declared.request.Client.TheVariants.{Nav, Link, Watch}
use Rattle.first_board.specs.BoardState.{outstanding, OthersStay, OutstandingStays}
use Rattle.first_core.specs.SharedState.{SharedState}
use Rattle.first_core.specs.LinkState.{LinkState, LinkFits}
use Rattle.first_core.specs.NavState.{NavFits}
use Rattle.first_core.specs.Keeps.{BoardKeeps, LinkKeeps}
use Rattle.first_core.specs.PlansFit.{PlansFit}
use Rattle.first_core.specs.CoreState.{CoreState, CoreFits}

pub LinkFits-counts : (s s' : SharedState) (l : LinkState) → LinkFits s l → outstanding s'.board (Link l.number) ≡ outstanding s.board (Link l.number) → LinkFits s' l
LinkFits-counts s s' l fits e = record { outstanding = e ∙ fits.outstanding; session = fits.session; inputs = fits.inputs }

number_of : Client → ℕ
number_of (Link number) = number
number_of Nav = 0
number_of (Watch number) = 0

is_nav : Client → Bool
is_nav Nav = true
is_nav (Link number) = false
is_nav (Watch number) = false

Link-other : (a b : ℕ) → a ≢ b → Link a ≢ Link b
unfolding number_of
Link-other a b ne e = ne (ap number_of e)

Link-Nav : (a : ℕ) → Link a ≢ Nav
unfolding is_nav
Link-Nav a e = true≢false (sym (ap is_nav e))

-- the link at a place fits
pub link_at : (c : CoreState) (number : ℕ) (l : LinkState) → CoreFits c → number < length c.links → l ≡ get_or c.links number l → (l.number ≡ number) × LinkFits c.shared l
link_at c number l fits below is = subst (λ (x : LinkState). (x.number ≡ number) × LinkFits c.shared x) (sym is) (fits.each number l below)

-- the worker moved
pub worker_moved : (c c' : CoreState) → CoreFits c → c'.links ≡ c.links → c'.nav ≡ c.nav → c'.shared.board.service ≡ c'.taken → length c'.shared.board.link_posted ≡ length c.shared.board.link_posted → OutstandingStays c.shared.board c'.shared.board → PlansFit c'.shared c.links c.nav → CoreFits c'
worker_moved c c' fits links nav service places counts plans = record {
  service = service;
  links = rw links (places ∙ fits.links);
  each = rw links (λ k d below. ((fits.each k d below).0, LinkFits-counts c.shared c'.shared (get_or c.links k d) (fits.each k d below).1 (counts (Link (get_or c.links k d).number))));
  nav = rw nav fits.nav;
  one = rw links fits.one;
  plans = rw (links, nav) plans;
}

-- the Navigator moved
pub nav_moved : (c c' : CoreState) → CoreFits c → c'.links ≡ c.links → c'.taken ≡ c.taken → NavFits c'.nav → OthersStay Nav c.shared.board c'.shared.board → BoardKeeps c.shared.board c'.shared.board → PlansFit c'.shared c.links c'.nav → CoreFits c'
nav_moved c c' fits links taken nav others board plans = record {
  service = board.service ∙ fits.service ∙ sym taken;
  links = rw links (board.links ∙ fits.links);
  each = rw links (λ k d below. ((fits.each k d below).0, LinkFits-counts c.shared c'.shared (get_or c.links k d) (fits.each k d below).1 (others (Link (get_or c.links k d).number) (Link-Nav _)).1));
  nav = nav;
  one = rw links fits.one;
  plans = rw links plans;
}

-- the other links are as they were
link_other : (c : CoreState) (number : ℕ) (old new : LinkState) (s' : SharedState) → CoreFits c → number < length c.links → old ≡ get_or c.links number old → LinkKeeps c.shared old s' new → (k : ℕ) (d : LinkState) → k < length c.links → (same : Bool) → nat_eq k number ≡ same → ((get_or (set c.links number new) k d).number ≡ k) × LinkFits s' (get_or (set c.links number new) k d)
link_other c number old new s' fits below is keeps k d within true e =
    let at : k ≡ number = grind (arith, e) in
    let here : get_or (set c.links number new) k d ≡ new = get_or-set_at c.links number k new d at below in
    rw here (keeps.number ∙ (link_at c number old fits below is).0 ∙ sym at, keeps.fits)
link_other c number old new s' fits below is keeps k d within false e =
    let apart : k ≢ number = grind (arith, e) in
    let there : get_or (set c.links number new) k d ≡ get_or c.links k d = get_or-set_other c.links number k new d apart in
    let was = fits.each k d within in
    let differs : (get_or c.links k d).number ≢ old.number = rw (was.0, (link_at c number old fits below is).0) apart in
    rw there (was.0, LinkFits-counts c.shared s' (get_or c.links k d) was.1 (keeps.others (Link (get_or c.links k d).number) (Link-other _ _ differs)).1)

-- a link moved
pub link_moved : (c : CoreState) (number : ℕ) (old new : LinkState) (s' : SharedState) → CoreFits c → number < length c.links → old ≡ get_or c.links number old → LinkKeeps c.shared old s' new → PlansFit s' (set c.links number new) c.nav → CoreFits (record { shared = s'; taken = c.taken; links = set c.links number new; nav = c.nav })
link_moved c number old new s' fits below is keeps plans = record {
  service = keeps.board.service ∙ fits.service;
  links = keeps.board.links ∙ fits.links ∙ sym (length-set c.links number new);
  each = λ k d within. link_other c number old new s' fits below is keeps k d (rw (← length-set c.links number new) within) (nat_eq k number) refl;
  nav = fits.nav;
  one = rw (length-set c.links number new) fits.one;
  plans = plans;
}
