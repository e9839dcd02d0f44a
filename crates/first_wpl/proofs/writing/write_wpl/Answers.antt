use Rattle.std.proofs.Common.{◌≡◌, ◌++◌, ◌∷◌, [], ℕ, List, Vec, Global, map, take, get_or, ap, ◌∙◌, sym, subst, arith, pos, false, codes}
use Rattle.std.proofs.lemmas.List.{map_push, take_all}
use Rattle.first_model.specs.declared.plan.Item.{Item}
use Rattle.first_model.specs.declared.plan.Param.TheVariants.{Unset}
use Rattle.first_wpl.specs.Printed.{ReadsBack}
use Rattle.first_wpl.specs.Writing.{row_text, row_texts, wpl_text}
use Rattle.first_wpl.proofs.Writes.{texts_more, text_same, text_made}
use Rattle.first_wpl.proofs.PlanBack.{each_back, views_plain, made_back, back_more}
use Rattle.first_wpl.proofs.writing.write_wpl.Goals as goal

pub loop-place-preserved : goal.loop-place-preserved
loop-place-preserved c =
    let none : Item = record { frame = 0; command = 0; p1 = Unset; p2 = Unset; p3 = Unset; p4 = Unset; x = pos 0; y = pos 0; z = pos 0; auto = false } in
    let items = c.args.items.now in
    let place = c.loop-place.place in
    let view : Vec ℕ Global → List ℕ = λ line. line.items in
    let header : List ℕ = codes "QGC WPL 110" in
    record {
      text =
          ap (map view) c.in_ok-push-2.ensures.items
          ∙ map_push view c.loop-place.lines.items c.in_ok-row.row
          ∙ ap (λ lines. lines ++ c.in_ok-row.row.items ∷ []) c.loop-place.invariant.text
          ∙ ap (λ row. (header ∷ row_texts 0 (take place items)) ++ row ∷ []) c.in_ok-row.ensures.text
          ∙ ap (λ rows. header ∷ rows) (sym (texts_more items place none c.loop-place-test.true));
      back = back_more items place none c.loop-place-test.true c.loop-place.invariant.back c.in_ok-row.ensures.back;
    }

pub returns-clause-text : goal.returns-clause-text
returns-clause-text c =
    let items = c.args.items.now in
    let view : Vec ℕ Global → List ℕ = λ line. line.items in
    let header : List ℕ = codes "QGC WPL 110" in
    let all = take_all c.loop-place.place items c.loop-place-test.false in
    let lines = ap (map view) c.deref.ensures.value ∙ c.loop-place.invariant.text ∙ ap (λ xs. header ∷ row_texts 0 xs) all in
    text_same c.join_text.result _ (wpl_text items) (text_made (map view c.deref.result.now) items lines) c.join_text.ensures.text

pub returns-clause-read_back : goal.returns-clause-read_back
returns-clause-read_back c limit frames =
    let items = c.args.items.now in
    let view : Vec ℕ Global → List ℕ = λ line. line.items in
    let header : List ℕ = codes "QGC WPL 110" in
    let all = take_all c.loop-place.place items c.loop-place-test.false in
    let lines = ap (map view) c.deref.ensures.value ∙ c.loop-place.invariant.text ∙ ap (λ xs. header ∷ row_texts 0 xs) all in
    let back = each_back 0 items (λ k at d e h.
    let same : k ≡ at = omega arith in
    let P : ℕ → Type 0 = λ n. ReadsBack (row_text n (get_or items k d)) n (get_or items k d) in
    subst P same (c.loop-place.invariant.back k d (omega arith) (omega arith) (frames k d h))) in
    made_back c.join_text.result (map view c.deref.result.now) items lines limit back c.join_text.ensures.text (c.join_text.ensures.read_back (views_plain c.deref.result.now items lines back))
