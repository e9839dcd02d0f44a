-- What is true of the board's fields stays true when a reply is posted or taken.
use Rattle.std.proofs.Common.{◌≡◌, ℕ, suc, ◌-◌, ◌<◌, ◌≤◌, ◌++◌, length, List, [], ◌∷◌, Some, refl, ap, subst, sym, ◌∙◌, arith, set, get_or, length-append, length-set}
use Rattle.mission_model.specs.declared.limits.TheConstants.{NAV_ROOM}
use Rattle.mission_model.specs.declared.request.Client.{Client}
use Rattle.mission_model.specs.declared.request.Client.TheVariants.{Nav, Link, Watch}
use Rattle.mission_model.specs.declared.request.Asked.{Asked}
use Rattle.mission_model.specs.declared.request.Reply.{Reply}
use Rattle.request_board.specs.declared.board.Board.TheInside.{Inside}
use Rattle.request_board.specs.Asks.{in_service, listed, abouts, own_abouts, replied}
use Rattle.request_board.specs.BoardState.{BoardState, HasClient, posted, limit, unanswered, OpenStays}
use Rattle.request_board.specs.BoardCalls.{answered, heard}
use Rattle.request_board.specs.Clients.{own_first}
use Rattle.request_board.specs.Frames.{answered_open, lengths_with}
use Rattle.request_board.specs.Kept.{view_of, Kept, Sound, Counted, seat_of}
use Rattle.request_board.proofs.Sound.{sound_answered, sound_heard, served_has}
use Rattle.request_board.proofs.Seats.{counted_answered, counted_heard}

length-replied : (replies : List (Asked × Reply)) → length (replied replies) ≡ length replies
length-replied [] = refl
length-replied ((about, reply) ∷ replies) = ap suc (length-replied replies)

limit_most : (client : Client) → limit client ≤ NAV_ROOM
limit_most Nav = omega arith
limit_most (Link n) = omega arith
limit_most (Watch n) = omega arith

-- the client that is served has a place for its reply
pub posted_room : (b : BoardState) (client : Client) (about : Asked) → Sound b → in_service b.service ≡ Some (client, about) → length (posted b client) < NAV_ROOM
posted_room b client about sound is =
    let has : HasClient b client = served_has b client about sound is in
    let one : own_abouts client (unanswered b) ≡ about ∷ own_abouts client (abouts b.waiting) = ap (λ s. own_abouts client (listed s ++ abouts b.waiting)) is ∙ own_first client about (abouts b.waiting) in
    let parts = length-append (replied (posted b client)) (own_abouts client (unanswered b)) in
    let long : length (own_abouts client (unanswered b)) ≡ suc (length (own_abouts client (abouts b.waiting))) = ap length one in
    omega (arith, parts, length-replied (posted b client), long, sound.within client has, limit_most client)

-- a reply is posted
pub kept_answered : (a a' : Inside) (client : Client) (about : Asked) (reply : Reply) → Kept a → in_service (view_of a).service ≡ Some (client, about) → view_of a' ≡ answered (view_of a) client about reply → a'.waiting.capacity ≡ a.waiting.capacity → a'.counts ≡ a.counts → Kept a'
kept_answered a a' client about reply kept is now room counts =
    let b : BoardState = view_of a in
    let lengths = lengths_with b client (posted b client ++ (about, reply) ∷ []) in
    let links : length a'.links.items ≡ length a.links.items = ap (λ (s : BoardState). length s.link_posted) now ∙ lengths.0 in
    let watchers : length a'.watchers.items ≡ length a.watchers.items = ap (λ (s : BoardState). length s.watch_posted) now ∙ lengths.1 in
    let has : HasClient b client = served_has b client about kept.sound is in
    record {
      sound = subst Sound (sym now) (sound_answered b client about reply kept.sound is);
      room = room ∙ kept.room ∙ sym (rw (links, watchers) refl);
      links = omega (arith, links, kept.links);
      watchers = omega (arith, watchers, kept.watchers);
      seats = ap length counts ∙ kept.seats;
      counts = subst (λ (n : List ℕ). Counted n (view_of a')) (sym counts) (subst (Counted a.counts) (sym now) (counted_answered a.counts b client about reply has is kept.counts));
    }

pub open_answered : (now b b' : BoardState) (client : Client) (about : Asked) (reply : Reply) → b ≡ now → Sound b → in_service b.service ≡ Some (client, about) → b' ≡ answered b client about reply → OpenStays now b'
open_answered now b b' client about reply same sound is after = subst (λ s. OpenStays s b') same (subst (OpenStays b) (sym after) (answered_open b client about reply (served_has b client about sound is) is))

-- a reply is taken
pub kept_heard : (a a' : Inside) (client : Client) (first : Asked × Reply) (seat : ℕ) → Kept a → HasClient (view_of a) client → posted (view_of a) client ≡ first ∷ posted (view_of a') client → view_of a' ≡ heard (view_of a) client (posted (view_of a') client) → a'.waiting.capacity ≡ a.waiting.capacity → seat ≡ seat_of client → a'.counts ≡ set a.counts seat (get_or a.counts seat 0 - 1) → Kept a'
kept_heard a a' client first seat kept has is now room place counts =
    let b : BoardState = view_of a in
    let rest : List (Asked × Reply) = posted (view_of a') client in
    let lengths = lengths_with b client rest in
    let links : length a'.links.items ≡ length a.links.items = ap (λ (s : BoardState). length s.link_posted) now ∙ lengths.0 in
    let watchers : length a'.watchers.items ≡ length a.watchers.items = ap (λ (s : BoardState). length s.watch_posted) now ∙ lengths.1 in
    let less : a'.counts ≡ set a.counts (seat_of client) (get_or a.counts (seat_of client) 0 - 1) = counts ∙ ap (λ n. set a.counts n (get_or a.counts n 0 - 1)) place in
    record {
      sound = subst Sound (sym now) (sound_heard b client first rest kept.sound has is);
      room = room ∙ kept.room ∙ sym (rw (links, watchers) refl);
      links = omega (arith, links, kept.links);
      watchers = omega (arith, watchers, kept.watchers);
      seats = ap length less ∙ length-set a.counts (seat_of client) (get_or a.counts (seat_of client) 0 - 1) ∙ kept.seats;
      counts = subst (λ (n : List ℕ). Counted n (view_of a')) (sym less) (subst (Counted (set a.counts (seat_of client) (get_or a.counts (seat_of client) 0 - 1))) (sym now) (counted_heard a.counts b client first rest kept.seats kept.links kept.watchers has is kept.counts));
    }
