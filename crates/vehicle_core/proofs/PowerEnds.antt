-- The reply that the power went ends the lines of its boot, and no other line leaves the power off.
use Rattle.std.proofs.Common.{◌≡◌, ◌⊎◌, inl, inr, Bool, true, false, List, [], ◌∷◌, ◌++◌, refl, sym, subst, ap, ◌∙◌, true≢false}
use Rattle.mission_model.specs.declared.flight_line.Line.{Line}
use Rattle.mission_model.specs.declared.flight_line.Line.TheVariants as line
use Rattle.mission_model.specs.declared.request.Client.{Client}
use Rattle.mission_model.specs.declared.request.Reply.{Reply}
use Rattle.mission_model.specs.declared.request.Reply.TheVariants as reply
use Rattle.mission_model.specs.declared.schedule.BootScript.{BootScript}
use Rattle.request_board.specs.WatchLaw.{WatchRules}
use Rattle.vehicle_core.specs.Told.{BootTold, begun}
use Rattle.vehicle_core.specs.CoreRun.{LineStep, Leads, BootCut, BootUp, BootEnded, Ended, Part}
use Rattle.vehicle_core.specs.LineTells.{power_by}
use Rattle.vehicle_core.proofs.Runs.{cut_twice, both_empty, leads_cut, ended_last}
use Rattle.vehicle_core.proofs.Names.{line_on}

pub told_true : (b : Bool) → (b ≡ true) ⊎ (b ≡ false)
told_true true = inl refl
told_true false = inr refl

-- only the reply that the power went leaves it off
off_served : (who : Client) (given : Reply) → power_by (line.Served who given) ≡ false → given ≡ reply.PowerOff
off_served who reply.PowerOff off = refl
off_served who other off = absurd (true≢false off)

off_line : (made : Line) → power_by made ≡ false → (who : Client) × (made ≡ line.Served who reply.PowerOff)
off_line (line.Served who given) off = (who, ap (λ (r : Reply). line.Served who r) (off_served who given off))
off_line other off = absurd (true≢false off)

-- a boot that was cut has no such reply
cut_off : (front rest : List Line) (who : Client) → BootCut (front ++ line.Served who reply.PowerOff ∷ rest) → rest ≡ []
cut_off [] rest who is =
    let whole : line.Served who reply.PowerOff ∷ rest ≡ line.BootCut is.number ∷ [] = is.lines_are in
    absurd cc
cut_off (first ∷ front) rest who is =
    let whole : first ∷ front ++ line.Served who reply.PowerOff ∷ rest ≡ line.BootCut is.number ∷ [] = is.lines_are in
    let tail : front ++ line.Served who reply.PowerOff ∷ rest ≡ [] = cc in
    let none : line.Served who reply.PowerOff ∷ rest ≡ [] = (both_empty front (line.Served who reply.PowerOff ∷ rest) tail).1 in
    absurd cc

module _ {W : Type 0} where
  -- while the power is off no line comes
  none_off : (rules : WatchRules W) (t t' : BootTold W) (lines : List Line) → t.shared.power ≡ false → Leads rules t lines t' → (lines ≡ []) × (t' ≡ t)
  none_off rules t t' [] off run = (refl, run)
  none_off rules t t' (made ∷ lines) off run = absurd (true≢false (sym (line_on rules t run.0 made run.1).0 ∙ off))

  -- where the power is off, the last line was the reply that it went
  pub off_comes : (rules : WatchRules W) (t t' : BootTold W) (lines : List Line) → t.shared.power ≡ true → Leads rules t lines t' → t'.shared.power ≡ false → (front : List Line) × (who : Client) × (lines ≡ front ++ line.Served who reply.PowerOff ∷ [])
  off_comes rules t t' [] on run off = absurd (true≢false (sym on ∙ ap (λ (x : BootTold W). x.shared.power) (sym run) ∙ off))
  off_comes rules t t' (made ∷ lines) on run off = elim (told_true run.0.shared.power) [
    | inl still ↦
        let rest = off_comes rules run.0 t' lines still run.2 off in
        (made ∷ rest.0, rest.1, ap (λ (l : List Line). made ∷ l) rest.2)
    | inr gone ↦
        let here = off_line made (sym (line_on rules t run.0 made run.1).1 ∙ gone) in
        let end = none_off rules run.0 t' lines gone run.2 in
        ([], here.0, ap (λ (l : Line). l ∷ lines) here.1 ∙ ap (λ (ls : List Line). line.Served here.0 reply.PowerOff ∷ ls) end.0)
  ]

  -- that reply leaves the power off, and no line comes behind it
  pub off_last : (rules : WatchRules W) (t t' : BootTold W) (front rest : List Line) (who : Client) → Leads rules t (front ++ line.Served who reply.PowerOff ∷ rest) t' → (rest ≡ []) × (t'.shared.power ≡ false)
  off_last rules t t' front rest who run =
      let cut = leads_cut rules t t' front (line.Served who reply.PowerOff ∷ rest) run in
      let gone = (line_on rules cut.0 cut.2.0 (line.Served who reply.PowerOff) cut.2.1).1 in
      let end = none_off rules cut.2.0 t' rest gone cut.2.2 in
      (end.0, ap (λ (x : BootTold W). x.shared.power) end.1 ∙ gone)

  -- nor an ending
  ended_off : (t : BootTold W) (lines : List Line) → t.shared.power ≡ false → Ended t lines → lines ≡ []
  ended_off t [] off h = refl
  ended_off t (line.End ∷ []) off h = absurd (true≢false (sym h.0 ∙ off))
  ended_off t (line.Stuck ∷ []) off h = absurd (true≢false (sym h.0 ∙ off))
  ended_off t (made ∷ next ∷ lines) off h = absurd (ended_last t made next lines h)
  ended_off t (other ∷ []) off h = elim h [ ]

  served_ends : (t : BootTold W) (who : Client) (given : Reply) (lines : List Line) → Ended t (line.Served who given ∷ lines) → ⊥
  served_ends t who given [] h = h
  served_ends t who given (next ∷ lines) h = h

  in_ending : (t : BootTold W) (before rest : List Line) (who : Client) (given : Reply) → Ended t (before ++ line.Served who given ∷ rest) → ⊥
  in_ending t [] rest who given h = served_ends t who given rest h
  in_ending t (made ∷ []) rest who given h = ended_last t made (line.Served who given) rest h
  in_ending t (made ∷ next ∷ before) rest who given h = ended_last t made next (before ++ line.Served who given ∷ rest) h

  in_front : (rules : WatchRules W) (boot : BootScript) (own : List W) (front after : List Line) (who : Client) (lines : List Line) (up : BootUp rules boot own lines) → lines ≡ front ++ line.Served who reply.PowerOff ∷ after → (after ≡ []) × (up.told.shared.power ≡ false)
  in_front rules boot own [] after who lines up is =
      let both : line.Boot up.number up.state.heads up.state.mark ∷ up.made ≡ line.Served who reply.PowerOff ∷ after = sym up.lines_are ∙ is in
      absurd cc
  in_front rules boot own (first ∷ front) after who lines up is =
      let both : line.Boot up.number up.state.heads up.state.mark ∷ up.made ≡ first ∷ front ++ line.Served who reply.PowerOff ∷ after = sym up.lines_are ∙ is in
      let tail : up.made ≡ front ++ line.Served who reply.PowerOff ∷ after = cc in
      off_last rules (begun boot up.state own) up.told front after who (subst (λ (ls : List Line). Leads rules (begun boot up.state own) ls up.told) tail up.leads)

  -- the reply stands in front of the ending
  before_end : (rules : WatchRules W) (boot : BootScript) (own : List W) (front rest : List Line) (who : Client) (lines ending e : List Line) (up : BootUp rules boot own lines) → Ended up.told ending → lines ≡ front ++ e → line.Served who reply.PowerOff ∷ rest ≡ e ++ ending → rest ≡ []
  before_end rules boot own front rest who lines ending [] up ended is behind = absurd (served_ends up.told who reply.PowerOff rest (subst (λ (ls : List Line). Ended up.told ls) (sym behind) ended))
  before_end rules boot own front rest who lines ending (made ∷ e) up ended is behind =
      let head : made ≡ line.Served who reply.PowerOff = cc in
      let tail : rest ≡ e ++ ending = cc in
      let here = in_front rules boot own front e who lines up (is ∙ ap (λ (l : Line). front ++ l ∷ e) head) in
      tail ∙ ap (λ (ls : List Line). ls ++ ending) here.0 ∙ ended_off up.told ending here.1 ended

  whole_off : (rules : WatchRules W) (boot : BootScript) (own : List W) (front rest : List Line) (who : Client) → BootEnded rules boot own (front ++ line.Served who reply.PowerOff ∷ rest) → rest ≡ []
  whole_off rules boot own front rest who whole = elim (cut_twice front (line.Served who reply.PowerOff ∷ rest) whole.front whole.ending whole.lines_are) [
    | inl e ↦ before_end rules boot own front rest who whole.front whole.ending e.0 whole.up whole.ended e.1 e.2
    | inr e ↦ absurd (in_ending whole.up.told e.0 rest who reply.PowerOff (subst (λ (ls : List Line). Ended whole.up.told ls) e.2 whole.ended))
  ]

  -- in a whole part nothing comes behind that reply
  pub part_off : (rules : WatchRules W) (boot : BootScript) (own : List W) (front rest : List Line) (who : Client) → Part rules boot own (front ++ line.Served who reply.PowerOff ∷ rest) → rest ≡ []
  part_off rules boot own front rest who (inl cut) = cut_off front rest who cut
  part_off rules boot own front rest who (inr whole) = whole_off rules boot own front rest who whole
