use Rattle.std.proofs.Common.{◌≡◌, ℕ, Ok, Err, sym, ◌∙◌, arith}
use Rattle.nav_num.specs.declared.fault.NumFault.{NumFault}
use Rattle.nav_num.specs.WholeLaws.{whole_number-numeral, numeral-whole_number}
use Rattle.wpl_items.proofs.fields.whole.Goals as goal

not_both : (fault : NumFault) (n : ℕ) → Err fault ≡ Ok n → ⊥
not_both fault n h = cc

pub returns-in-Ok : goal.returns-in-Ok
returns-in-Ok c = numeral-whole_number 0 c.args.limit c.args.word.now c.in-Ok.number (sym c.in-Ok.ensures)

pub returns-in-Err : goal.returns-in-Err
returns-in-Err c n h = not_both _ _ (c.in-Err.ensures ∙ whole_number-numeral 0 c.args.limit c.args.word.now h.numeral h.short (omega arith) (omega (arith, h.value, h.high)))
