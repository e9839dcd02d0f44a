use Rattle.std.proofs.Common.{rules, ap, ap₂, ◌≡◌, ◌∙◌, codes, true}
use Rattle.std.proofs.lemmas.Result.{IfOk-weaker}
use Rattle.clap.specs.Walk.{rule_of}
use Rattle.clap.specs.Simple.{App, Shape, app_of, app_of_fields, new_rule, on_top, with_rule}
use Rattle.flight_words.specs.Commands.{name_rule, store_rule, bare, program}
use Rattle.flight_words.proofs.program.program.Goals as goal

pub returns : goal.returns
returns c =
    let name_is : rule_of c.required-name.result ≡ name_rule = search rules in
    let value_is : rule_of c.new-value.result ≡ new_rule (codes "value") = search rules in
    let store_is : rule_of c.long-store.result ≡ store_rule = search rules in
    let bare_is : app_of c.disable_version_flag-bare.result ≡ bare = ap app_of_fields c.disable_version_flag-bare.ensures
    ∙ ap (on_top (λ (s : Shape). record s { disable_version_flag = true })) (ap app_of_fields c.disable_help_flag.ensures
    ∙ ap (on_top (λ (s : Shape). record s { disable_help_flag = true })) (ap app_of_fields c.no_binary_name.ensures
    ∙ ap (on_top (λ (s : Shape). record s { no_binary_name = true })) c.new-3.ensures.app)) in
    let named : app_of c.in_ok-arg.field-0 ≡ with_rule bare name_rule = c.in_ok-arg.ensures.shape (search rules) ∙ ap₂ with_rule bare_is name_is in
    let valued : app_of c.in_ok-arg-2.field-0 ≡ with_rule (with_rule bare name_rule) (new_rule (codes "value")) = c.in_ok-arg-2.ensures.shape (search rules) ∙ ap₂ with_rule named value_is in
    IfOk-weaker c.arg-3.result _ _ (λ command h. h.shape (search rules) ∙ ap₂ with_rule valued store_is) c.arg-3.ensures
