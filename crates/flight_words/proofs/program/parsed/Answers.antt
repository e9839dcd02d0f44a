use Rattle.std.proofs.Common.{rules, ap, sym, ◌≡◌, ◌∙◌, codes, []}
use Rattle.clap.specs.Walk.{texts, first_of, rows_of}
use Rattle.clap.specs.Matches.{found_of, first_value}
use Rattle.clap.specs.Simple.{App, app_of, is_simple, matches_of}
use Rattle.clap.specs.Faults.{fault_of, is_simple_and_free}
use Rattle.clap.proofs.WalkLemmas.{first_value-rows}
use Rattle.flight_words.specs.Commands.{program, text_of}
use Rattle.flight_words.proofs.Simple.{program_is_simple, program_is_free, told_same}
use Rattle.flight_words.proofs.program.parsed.Goals as goal

pub returns-clause-faults : goal.returns-clause-faults
returns-clause-faults c =
    let is : app_of c.in_ok-program.field-0 ≡ program = c.in_ok-program.ensures in
    ap (λ (a : App). fault_of a (texts c.args.words.now)) (sym is) ∙ c.in_ok-matches.ensures.kinds (ap is_simple_and_free is ∙ program_is_free)

pub returns-clause-matches : goal.returns-clause-matches
returns-clause-matches c =
    let is : app_of c.in_ok-program.field-0 ≡ program = c.in_ok-program.ensures in
    let none : fault_of program (texts c.args.words.now) ≡ [] = ap (λ (a : App). fault_of a (texts c.args.words.now)) (sym is) ∙ c.in_ok-matches.ensures.kinds (ap is_simple_and_free is ∙ program_is_free) in
    let found = found_of c.in_ok-matches.matches in
    let rows : rows_of found ≡ matches_of program (texts c.args.words.now) = (c.in_ok-matches.ensures.matches (ap is_simple is ∙ program_is_simple)).0 ∙ ap (λ (a : App). matches_of a (texts c.args.words.now)) is in
    let name : text_of c.get_str.result ≡ first_value found (codes "command") = search rules in
    let value : text_of c.get_str-2.result ≡ first_value found (codes "value") = search rules in
    let store : text_of c.get_str-3.result ≡ first_value found (codes "store") = search rules in (
      none,
      told_same _ _ _ _ _ _
          (name ∙ (first_value-rows found (codes "command") ∙ ap (first_of (codes "command")) rows))
          (value ∙ (first_value-rows found (codes "value") ∙ ap (first_of (codes "value")) rows))
          (store ∙ (first_value-rows found (codes "store") ∙ ap (first_of (codes "store")) rows)),
    )
