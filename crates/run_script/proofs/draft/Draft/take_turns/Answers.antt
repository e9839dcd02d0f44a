use Rattle.std.proofs.Common.{◌≡◌, ◌≤◌, ◌-◌, ap, ◌∙◌, sym, drop, subst, ℕ}
use Rattle.mission_model.specs.declared.limits.TheConstants.{MAX_TURN_WORDS}
use Rattle.nav_text.specs.Cursors.{words_left}
use Rattle.run_script.specs.Gathered.{Gathered}
use Rattle.run_script.proofs.TurnLines.{turns_follow}
use Rattle.run_script.proofs.draft.Draft.take_turns.Goals as goal

pub returns : goal.returns
returns c =
    let words = c.args.line.now in
    let left = words_left c.args.text.now c.behind_first-names.result in
    let same : left ≡ drop 1 words = c.behind_first-names.ensures.words ∙ ap (drop 1) (sym c.requires) in
    let few = subst (λ (n : ℕ). n ≤ MAX_TURN_WORDS - c.saturating_sub-count.result) (ap (λ (g : Gathered). g.turn_words) c.self.view_is) c.if-self-count.false in
    turns_follow c.args.self.now _ words left c.saturating_sub-count.result same (sym c.are_actors.ensures ∙ c.if-not-are_actors.false) (λ one. c.if-count-eq1.false (c.count.ensures ∙ one))
    (c.saturating_sub-count.ensures ∙ ap (λ (n : ℕ). n - 1) c.count-2.ensures) c.if-count-gt-MAX_TURN_WORDS.false few (c.self-2.view_is ∙ c.in_ok-add_turns.ensures.turns)
