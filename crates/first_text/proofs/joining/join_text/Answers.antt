use Rattle.std.proofs.Common.{◌≡◌, ◌+◌, ◌++◌, ◌∷◌, [], map, take, ap, ◌∙◌, sym}
use Rattle.std.proofs.lemmas.List.{take_more, take_all, map_push}
use Rattle.first_text.specs.Lines.{lines_of}
use Rattle.first_text.specs.Joined.{text_of_lines}
use Rattle.first_text.proofs.JoinSteps.{text_more, read_back}
use Rattle.first_text.proofs.joining.join_text.Goals as goal

pub loop-line-preserved : goal.loop-line-preserved
loop-line-preserved c =
    let read : take (c.loop-line.line-index + 1) c.args.lines.now ≡ take c.loop-line.line-index c.args.lines.now ++ c.line-item.result ∷ [] =
    take_more c.args.lines.now c.loop-line.line-index c.line-item.result c.loop-line-test.true ∙ ap (λ line. take c.loop-line.line-index c.args.lines.now ++ line ∷ []) (sym c.line-item.is) in
    let more : text_of_lines (map (λ line. line.items) (take (c.loop-line.line-index + 1) c.args.lines.now)) ≡ (c.loop-line.text.items ++ c.line-item.result.items) ++ 10 ∷ [] =
    ap (λ lines. text_of_lines (map (λ line. line.items) lines)) read
    ∙ ap text_of_lines (map_push (λ line. line.items) (take c.loop-line.line-index c.args.lines.now) c.line-item.result)
    ∙ text_more (map (λ line. line.items) (take c.loop-line.line-index c.args.lines.now)) c.line-item.result.items
    ∙ ap (λ text. (text ++ c.line-item.result.items) ++ 10 ∷ []) (sym c.loop-line.invariant) in
    c.in_ok-push.ensures.items ∙ ap (λ text. text ++ 10 ∷ []) (c.in_ok-extend_from_slice.ensures.items ∙ ap (λ line. c.loop-line.text.items ++ line) c.deref.ensures.value) ∙ sym more

pub returns-clause-read_back : goal.returns-clause-read_back
returns-clause-read_back c plain =
    let all : take c.loop-line.line-index c.args.lines.now ≡ c.args.lines.now = take_all c.loop-line.line-index c.args.lines.now c.loop-line-test.false in
    ap lines_of c.loop-line.invariant ∙ ap (λ lines. lines_of (text_of_lines (map (λ line. line.items) lines))) all ∙ read_back (λ line. line.items) c.args.lines.now plain
