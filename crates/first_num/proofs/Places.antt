-- Where a token that was taken apart breaks off.
use Rattle.std.proofs.Common.{◌≡◌, ℕ, suc, ◌+◌, ◌-◌, ◌<◌, ◌≤◌, ◌⊎◌, false, List, [], ◌∷◌, ◌++◌, length, Option, Some, None, slice_index, refl, sym, ap, ◌∙◌, subst, inl, inr, arith, lit<}
use Rattle.std.specs.Str.Parse.{AllDigits, IsNumeral, digits_value}
use Rattle.std.proofs.lemmas.List.{append_assoc, append-nil, length-append}
use Rattle.first_num.specs.declared.token.Sign.{Sign}
use Rattle.first_num.specs.declared.token.Sign.TheVariants.{Bare, Plus, Minus}
use Rattle.first_num.specs.Token.{IsToken, Begins, BreaksAt, sign_text, fraction_text, fraction_digits}
use Rattle.first_num.specs.Parts.{StartsNoSign, StartsNoDigit, StartsNoMark, EndsFraction, StandsBehindMark, StopsInPower, BreaksPower, ReadsFraction, ReadsPower}
use Rattle.first_num.proofs.Machine.{AllDigits-append, State, at_sign, in_whole, at_point, in_fraction, at_mark, in_power, next, run, run-append, ends, move, by_symbol, after_mantissa, run_mantissa, run_power_front, run_power_digits, breaks}

-- a sign, digits, and a point with digits stand in front of what is left
pub record FrontOf (bytes : List ℕ) (s : Sign) (ws : List ℕ) (f : Option (List ℕ)) (left : List ℕ) : Type 0 where
  pub text : bytes ≡ sign_text s ++ (ws ++ (fraction_text f ++ left))
  pub no_sign : s ≡ Bare → StartsNoSign bytes
  pub digits : AllDigits 10 ws
  pub no_digit : StartsNoDigit (fraction_text f ++ left)
  pub fraction : EndsFraction f left

fraction_all : (f : Option (List ℕ)) (left : List ℕ) → EndsFraction f left → AllDigits 10 (fraction_digits f)
fraction_all None left h = tt
fraction_all (Some ds) left h = h.0

-- no digit stands behind the fraction
left_no_digit : (f : Option (List ℕ)) (left : List ℕ) → StartsNoDigit (fraction_text f ++ left) → EndsFraction f left → StartsNoDigit left
left_no_digit None left g h = g
left_no_digit (Some ds) left g h = h.1

-- a sign and perhaps a point without a digit go no further
no_move_empty : (s : Sign) (f : Option (List ℕ)) (left : List ℕ) → fraction_digits f ≡ [] → StartsNoDigit left → EndsFraction f left → (s ≡ Bare → f ≡ None → StartsNoSign left)
    → next (Some (after_mantissa s [] f)) (slice_index left 0) ≡ None
no_move_empty Bare None left e g h n = by_symbol (λ k. move (at_sign Bare) k ≡ None) (slice_index left 0) g (λ p. absurd ((n refl refl).0 p)) (λ p. absurd ((n refl refl).1 p)) (λ p. absurd (h p)) (λ _. refl) (λ _. refl) refl
no_move_empty Plus None left e g h n = by_symbol (λ k. move (at_sign Plus) k ≡ None) (slice_index left 0) g (λ _. refl) (λ _. refl) (λ p. absurd (h p)) (λ _. refl) (λ _. refl) refl
no_move_empty Minus None left e g h n = by_symbol (λ k. move (at_sign Minus) k ≡ None) (slice_index left 0) g (λ _. refl) (λ _. refl) (λ p. absurd (h p)) (λ _. refl) (λ _. refl) refl
no_move_empty s (Some []) left e g h n = by_symbol (λ k. move (at_point s) k ≡ None) (slice_index left 0) g (λ _. refl) (λ _. refl) (λ _. refl) (λ _. refl) (λ _. refl) refl
no_move_empty s (Some (d ∷ ds)) left e g h n = cc

no_end_empty : (s : Sign) (f : Option (List ℕ)) → fraction_digits f ≡ [] → ends (after_mantissa s [] f) ≡ false
no_end_empty s None e = refl
no_end_empty s (Some []) e = refl
no_end_empty s (Some (d ∷ ds)) e = cc

-- what is no mark goes no further behind digits
no_move_mantissa : (s : Sign) (ws : List ℕ) (f : Option (List ℕ)) (left : List ℕ) → 0 < length (ws ++ fraction_digits f) → StartsNoDigit left → EndsFraction f left → StartsNoMark left
    → next (Some (after_mantissa s ws f)) (slice_index left 0) ≡ None
no_move_mantissa s [] None left some g h n = absurd (omega arith)
no_move_mantissa s (w ∷ ws) None left some g h n = by_symbol (λ k. move (in_whole s (digits_value 10 (w ∷ ws))) k ≡ None) (slice_index left 0) g (λ _. refl) (λ _. refl) (λ p. absurd (h p)) (λ p. absurd (n.0 p)) (λ p. absurd (n.1 p)) refl
no_move_mantissa s [] (Some []) left some g h n = absurd (omega arith)
no_move_mantissa s [] (Some (d ∷ ds)) left some g h n = by_symbol (λ k. move (in_fraction s (digits_value 10 (d ∷ ds)) (suc (length ds))) k ≡ None) (slice_index left 0) g (λ _. refl) (λ _. refl) (λ _. refl) (λ p. absurd (n.0 p)) (λ p. absurd (n.1 p)) refl
no_move_mantissa s (w ∷ ws) (Some ds) left some g h n = by_symbol (λ k. move (in_fraction s (digits_value 10 ((w ∷ ws) ++ ds)) (length ds)) k ≡ None) (slice_index left 0) g (λ _. refl) (λ _. refl) (λ _. refl) (λ p. absurd (n.0 p)) (λ p. absurd (n.1 p)) refl

-- a place counted from the end
placed : (bytes x left : List ℕ) → bytes ≡ x ++ left → BreaksAt (x ++ left) (length x) → BreaksAt bytes (length bytes - length left)
placed bytes x left e h =
    let n : length bytes ≡ length x + length left = ap length e ∙ length-append x left in
    let k : length x ≡ length bytes - length left = omega arith in
    subst (BreaksAt bytes) k (subst (λ bs. BreaksAt bs (length x)) (sym e) h)

-- a 0 makes a token of a sign and a point
viable_empty : (s : Sign) (f : Option (List ℕ)) → fraction_digits f ≡ [] → Begins (sign_text s ++ fraction_text f)
viable_empty s None e = (
  48 ∷ [],
  record { sign = s; whole = 48 ∷ []; fraction = None; power = None },
  record {
    text = ap (λ v. v ++ (48 ∷ [])) (append-nil (sign_text s));
    mantissa = (lit< tt, (lit< tt, tt));
    power = tt;
  },
)
viable_empty s (Some []) e = (
  48 ∷ [],
  record { sign = s; whole = []; fraction = Some (48 ∷ []); power = None },
  record {
    text = append_assoc (sign_text s) (46 ∷ []) (48 ∷ []);
    mantissa = (lit< tt, (lit< tt, tt));
    power = tt;
  },
)
viable_empty s (Some (d ∷ ds)) e = cc

-- where no digit stands before or behind the point
pub breaks_empty : (bytes : List ℕ) (s : Sign) (ws : List ℕ) (f : Option (List ℕ)) (left : List ℕ) → FrontOf bytes s ws f left → ws ≡ [] → fraction_digits f ≡ []
    → BreaksAt bytes (length bytes - length left)
breaks_empty bytes s ws f left h w e = placed bytes (sign_text s ++ fraction_text f) left text
    (breaks (sign_text s ++ fraction_text f) left (after_mantissa s [] f) (run_mantissa s [] f tt (fraction_all f left h.fraction)) (viable_empty s f e)
    (no_move_empty s f left e (left_no_digit f left h.no_digit h.fraction) h.fraction clear) (λ _. no_end_empty s f e))
  where
    text : bytes ≡ (sign_text s ++ fraction_text f) ++ left
    text = h.text ∙ (ap (λ v. sign_text s ++ (v ++ (fraction_text f ++ left))) w ∙ sym (append_assoc (sign_text s) (fraction_text f) left))

    clear : s ≡ Bare → f ≡ None → StartsNoSign left
    clear p q = subst StartsNoSign (text ∙ (ap (λ v. (sign_text v ++ fraction_text f) ++ left) p ∙ ap (λ v. fraction_text v ++ left) q)) (h.no_sign p)

-- a mantissa with a digit is a token
mantissa_token : (s : Sign) (ws : List ℕ) (f : Option (List ℕ)) → IsNumeral 10 (ws ++ fraction_digits f) → Begins (sign_text s ++ (ws ++ fraction_text f))
mantissa_token s ws f h = (
  [],
  record { sign = s; whole = ws; fraction = f; power = None },
  record {
    text = simp (append_assoc, append-nil);
    mantissa = h;
    power = tt;
  },
)

-- where behind a mantissa stands neither a mark nor the end
breaks_mantissa : (bytes : List ℕ) (s : Sign) (ws : List ℕ) (f : Option (List ℕ)) (left : List ℕ) → FrontOf bytes s ws f left → 0 < length (ws ++ fraction_digits f)
    → 0 < length left → StartsNoMark left → BreaksAt bytes (length bytes - length left)
breaks_mantissa bytes s ws f left h some more unmarked = placed bytes (sign_text s ++ (ws ++ fraction_text f)) left (h.text ∙ simp append_assoc)
    (breaks (sign_text s ++ (ws ++ fraction_text f)) left (after_mantissa s ws f) (run_mantissa s ws f h.digits (fraction_all f left h.fraction))
    (mantissa_token s ws f (some, AllDigits-append ws (fraction_digits f) h.digits (fraction_all f left h.fraction)))
    (no_move_mantissa s ws f left some (left_no_digit f left h.no_digit h.fraction) h.fraction unmarked)
    (λ e. absurd (let n : length left ≡ 0 = ap length e in omega arith)))

-- the state behind a mark, a sign and digits
abbrev after_power : Sign → ℕ → ℕ → Sign → List ℕ → State
after_power s m p r [] = at_mark s m p r
after_power s m p r (d ∷ ds) = in_power s m p r (digits_value 10 (d ∷ ds))

run_after_power : (s : Sign) (m p : ℕ) (r : Sign) (ds : List ℕ) → AllDigits 10 ds → run (Some (at_mark s m p r)) ds ≡ Some (after_power s m p r ds)
run_after_power s m p r [] h = refl
run_after_power s m p r (d ∷ ds) h = run_power_digits s m p r (d ∷ ds) (omega arith, h)

no_move_power : (s : Sign) (m p : ℕ) (r : Sign) (ds left : List ℕ) → StartsNoDigit left → (r ≡ Bare → ds ≡ [] → StartsNoSign left) → next (Some (after_power s m p r ds)) (slice_index left 0) ≡ None
no_move_power s m p Bare [] left g n = by_symbol (λ k. move (at_mark s m p Bare) k ≡ None) (slice_index left 0) g (λ e. absurd ((n refl refl).0 e)) (λ e. absurd ((n refl refl).1 e)) (λ _. refl) (λ _. refl) (λ _. refl) refl
no_move_power s m p Plus [] left g n = by_symbol (λ k. move (at_mark s m p Plus) k ≡ None) (slice_index left 0) g (λ _. refl) (λ _. refl) (λ _. refl) (λ _. refl) (λ _. refl) refl
no_move_power s m p Minus [] left g n = by_symbol (λ k. move (at_mark s m p Minus) k ≡ None) (slice_index left 0) g (λ _. refl) (λ _. refl) (λ _. refl) (λ _. refl) (λ _. refl) refl
no_move_power s m p r (d ∷ ds) left g n = by_symbol (λ k. move (in_power s m p r (digits_value 10 (d ∷ ds))) k ≡ None) (slice_index left 0) g (λ _. refl) (λ _. refl) (λ _. refl) (λ _. refl) (λ _. refl) refl

-- a 0 makes a token of a mantissa, a mark, a sign and digits
viable_power : (s : Sign) (ws : List ℕ) (f : Option (List ℕ)) (c : ℕ) (r : Sign) (ds : List ℕ) → IsNumeral 10 (ws ++ fraction_digits f) → (c ≡ 101) ⊎ (c ≡ 69) → AllDigits 10 ds
    → Begins ((sign_text s ++ (ws ++ fraction_text f)) ++ ((c ∷ sign_text r) ++ ds))
viable_power s ws f c r ds h k all = (
  48 ∷ [],
  record { sign = s; whole = ws; fraction = f; power = Some (record { mark = c; sign = r; digits = ds ++ (48 ∷ []) }) },
  record {
    text = simp append_assoc;
    mantissa = h;
    power = (k, (omega (arith, length-append ds (48 ∷ [])), AllDigits-append ds (48 ∷ []) all (lit< tt, tt)));
  },
)

breaks_in_power : (bytes : List ℕ) (s : Sign) (ws : List ℕ) (f : Option (List ℕ)) (rest left : List ℕ) → FrontOf bytes s ws f rest → 0 < length (ws ++ fraction_digits f)
    → StopsInPower rest left → BreaksAt bytes (length bytes - length left)
breaks_in_power bytes s ws f rest left h some stop = placed bytes x left text
    (breaks x left (after_power s m p stop.sign stop.digits) runs
    (viable_power s ws f stop.mark stop.sign stop.digits (some, AllDigits-append ws (fraction_digits f) h.digits all) stop.is_mark stop.all_digits)
    (no_move_power s m p stop.sign stop.digits left stop.no_digit stop.no_sign)
    (λ e. subst (λ ds. ends (after_power s m p stop.sign ds) ≡ false) (sym (stop.early e)) refl))
  where
    x : List ℕ
    x = (sign_text s ++ (ws ++ fraction_text f)) ++ ((stop.mark ∷ sign_text stop.sign) ++ stop.digits)

    m : ℕ
    m = digits_value 10 (ws ++ fraction_digits f)

    p : ℕ
    p = length (fraction_digits f)

    all : AllDigits 10 (fraction_digits f)
    all = fraction_all f rest h.fraction

    text : bytes ≡ x ++ left
    text = h.text ∙ (ap (λ v. sign_text s ++ (ws ++ (fraction_text f ++ v))) stop.text ∙ simp append_assoc)

    runs : run (Some (at_sign Bare)) x ≡ Some (after_power s m p stop.sign stop.digits)
    runs = run-append (Some (at_sign Bare)) (sign_text s ++ (ws ++ fraction_text f)) ((stop.mark ∷ sign_text stop.sign) ++ stop.digits)
        ∙ (ap (λ o. run o ((stop.mark ∷ sign_text stop.sign) ++ stop.digits)) (run_mantissa s ws f h.digits all)
        ∙ (run-append (Some (after_mantissa s ws f)) (stop.mark ∷ sign_text stop.sign) stop.digits
        ∙ (ap (λ o. run o stop.digits) (run_power_front s ws f stop.mark stop.sign some stop.is_mark)
        ∙ run_after_power s m p stop.sign stop.digits stop.all_digits)))

-- where what stands behind a mantissa is no power of ten
pub breaks_power : (bytes : List ℕ) (s : Sign) (ws : List ℕ) (f : Option (List ℕ)) (rest left : List ℕ) → FrontOf bytes s ws f rest → 0 < length (ws ++ fraction_digits f)
    → BreaksPower rest left → BreaksAt bytes (length bytes - length left)
breaks_power bytes s ws f rest left h some (inl b) =
    subst (λ v. BreaksAt bytes (length bytes - length v)) (sym b.0) (breaks_mantissa bytes s ws f rest h some b.1 b.2)
breaks_power bytes s ws f rest left h some (inr b) = breaks_in_power bytes s ws f rest left h some b

-- a mantissa and a power of ten are a token
pub whole_token : (bytes : List ℕ) (s : Sign) (ws : List ℕ) (f : Option (List ℕ)) (rest : List ℕ) (r : Sign) (ds : List ℕ) → FrontOf bytes s ws f rest → 0 < length (ws ++ fraction_digits f)
    → (power : ReadsPower rest r ds) → IsToken bytes (record { sign = s; whole = ws; fraction = f; power = power.power })
whole_token bytes s ws f rest r ds h some power = record {
  text = h.text ∙ ap (λ v. sign_text s ++ (ws ++ (fraction_text f ++ v))) power.text;
  mantissa = (some, AllDigits-append ws (fraction_digits f) h.digits (fraction_all f rest h.fraction));
  power = power.well_formed;
}

pub left_of_front : (bytes : List ℕ) (s : Sign) (ws : List ℕ) (f : Option (List ℕ)) (left : List ℕ) → FrontOf bytes s ws f left → length left ≤ length bytes
left_of_front bytes s ws f left h = omega (arith, ap length h.text, length-append (sign_text s) (ws ++ (fraction_text f ++ left)), length-append ws (fraction_text f ++ left), length-append (fraction_text f) left)

pub left_of_power : (rest left : List ℕ) → BreaksPower rest left → length left ≤ length rest
left_of_power rest left (inl b) = omega (arith, ap length b.0)
left_of_power rest left (inr b) = omega (arith, ap length b.text, length-append (sign_text b.sign) (b.digits ++ left), length-append b.digits left)

-- a mark, a sign and digits to the end are a power of ten
pub reads_power : (bytes behind unsigned digits left : List ℕ) (s : Sign) → StandsBehindMark bytes behind → behind ≡ sign_text s ++ unsigned → unsigned ≡ digits ++ left
    → 0 < length digits → AllDigits 10 digits → length left ≡ 0 → ReadsPower bytes s digits
reads_power bytes behind unsigned digits [] s m e d some all none = record {
  power = Some (record { mark = m.mark; sign = s; digits = digits });
  well_formed = (m.is_mark, (some, all));
  text = m.text ∙ ap (λ v. m.mark ∷ v) (e ∙ ap (λ v. sign_text s ++ v) (d ∙ append-nil digits));
  same_sign = refl;
  same_digits = refl;
}
reads_power bytes behind unsigned digits (c ∷ left) s m e d some all none = absurd (omega arith)

pub empty_from_length : (xs : List ℕ) → length xs ≡ 0 → xs ≡ []
empty_from_length [] e = refl
empty_from_length (x ∷ xs) e = absurd (omega arith)

-- the steps of taking a token apart, put together
pub front : (bytes unsigned ws behind digits left : List ℕ) (s : Sign) → bytes ≡ sign_text s ++ unsigned → (s ≡ Bare → StartsNoSign bytes) → unsigned ≡ ws ++ behind
    → AllDigits 10 ws → StartsNoDigit behind → (f : ReadsFraction behind digits left) → FrontOf bytes s ws f.fraction left
front bytes unsigned ws behind digits left s e bare d all no_digit f = record {
  text = e ∙ ap (λ v. sign_text s ++ v) (d ∙ ap (λ v. ws ++ v) f.text);
  no_sign = bare;
  digits = all;
  no_digit = subst StartsNoDigit f.text no_digit;
  fraction = f.ends;
}
