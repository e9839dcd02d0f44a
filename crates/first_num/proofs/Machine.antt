-- The grammar as a machine that reads a token byte by byte. It is deterministic, so a token has one value, and what it
-- refuses no token begins with.
use Rattle.std.proofs.Common.{◌≡◌, ℕ, suc, ◌+◌, ◌*◌, ◌<◌, ◌≤◌, ◌⊎◌, Bool, true, false, cond, nat_lt, ◌==◌, List, [], ◌∷◌, ◌++◌, length, Option, Some, None, slice_index, refl, sym, ap, ◌∙◌, subst, inl, inr, arith}
use Rattle.std.specs.Char.{digit_value}
use Rattle.std.specs.Str.Parse.{AllDigits, IsNumeral, digits_value, digits_value_after}
use Rattle.std.proofs.lemmas.Bool.{cond_both, le-ltb, lt-ltb, eqb-true, false≢true}
use Rattle.std.proofs.lemmas.List.{append_assoc, append-nil, length-append}
use Rattle.std.proofs.Math.Seq.{take-append_seam, take-append-add}
use Rattle.first_num.specs.declared.token.Sign.{Sign}
use Rattle.first_num.specs.declared.token.Sign.TheVariants.{Bare, Plus, Minus}
use Rattle.first_num.specs.Token.{Token, Power, IsToken, IsPower, Begins, BreaksAt, sign_text, fraction_text, fraction_digits, power_text}
use Rattle.first_num.specs.Scaled.{mantissa}

-- what a byte is to the grammar
pub data Class : Type 0 where
  digit : ℕ → Class
  sign : Sign → Class
  point : Class
  mark : Class
  other : Class

abbrev pub symbol : ℕ → Class
symbol c = cond (c == 43) (sign Plus) (cond (c == 45) (sign Minus) (cond (c == 46) point (cond (c == 101) mark (cond (c == 69) mark other))))

abbrev pub classify : ℕ → Class
classify c = cond (nat_lt (digit_value c) 10) (digit (digit_value c)) (symbol c)

-- what was read: a sign, digits before the point, a point without a digit, digits with a point, a mark and a sign, digits of the power
pub data State : Type 0 where
  at_sign : Sign → State
  in_whole : Sign → ℕ → State
  at_point : Sign → State
  in_fraction : Sign → ℕ → ℕ → State
  at_mark : Sign → ℕ → ℕ → Sign → State
  in_power : Sign → ℕ → ℕ → Sign → ℕ → State

-- a sign may stand only where none stands yet
abbrev pub if_bare : Sign → Option State → Option State
if_bare Bare o = o
if_bare Plus o = None
if_bare Minus o = None

abbrev pub move : State → Class → Option State
move (at_sign s) (digit d) = Some (in_whole s (0 * 10 + d))
move (at_sign s) (sign r) = if_bare s (Some (at_sign r))
move (at_sign s) point = Some (at_point s)
move (at_sign s) mark = None
move (at_sign s) other = None
move (in_whole s m) (digit d) = Some (in_whole s (m * 10 + d))
move (in_whole s m) (sign r) = None
move (in_whole s m) point = Some (in_fraction s m 0)
move (in_whole s m) mark = Some (at_mark s m 0 Bare)
move (in_whole s m) other = None
move (at_point s) (digit d) = Some (in_fraction s (0 * 10 + d) 1)
move (at_point s) (sign r) = None
move (at_point s) point = None
move (at_point s) mark = None
move (at_point s) other = None
move (in_fraction s m p) (digit d) = Some (in_fraction s (m * 10 + d) (suc p))
move (in_fraction s m p) (sign r) = None
move (in_fraction s m p) point = None
move (in_fraction s m p) mark = Some (at_mark s m p Bare)
move (in_fraction s m p) other = None
move (at_mark s m p r) (digit d) = Some (in_power s m p r (0 * 10 + d))
move (at_mark s m p r) (sign q) = if_bare r (Some (at_mark s m p q))
move (at_mark s m p r) point = None
move (at_mark s m p r) mark = None
move (at_mark s m p r) other = None
move (in_power s m p r e) (digit d) = Some (in_power s m p r (e * 10 + d))
move (in_power s m p r e) (sign q) = None
move (in_power s m p r e) point = None
move (in_power s m p r e) mark = None
move (in_power s m p r e) other = None

-- whether a token may end here
abbrev pub ends : State → Bool
ends (at_sign s) = false
ends (in_whole s m) = true
ends (at_point s) = false
ends (in_fraction s m p) = true
ends (at_mark s m p r) = false
ends (in_power s m p r e) = true

abbrev pub next : Option State → ℕ → Option State
next None c = None
next (Some s) c = move s (classify c)

abbrev pub run : Option State → List ℕ → Option State
run o [] = o
run o (c ∷ cs) = run (next o c) cs

pub run-append : (o : Option State) (xs ys : List ℕ) → run o (xs ++ ys) ≡ run (run o xs) ys
run-append o [] ys = refl
run-append o (x ∷ xs) ys = run-append (next o x) xs ys

pub run_none : (xs : List ℕ) → run None xs ≡ None
run_none [] = refl
run_none (x ∷ xs) = run_none xs

-- a digit is read as a digit
pub classify_digit : (c : ℕ) → digit_value c < 10 → classify c ≡ digit (digit_value c)
classify_digit c h = ap (λ b. cond b (digit (digit_value c)) (symbol c)) (lt-ltb (digit_value c) 10 h)

pub classify_no_digit : (c : ℕ) → 10 ≤ digit_value c → classify c ≡ symbol c
classify_no_digit c h = ap (λ b. cond b (digit (digit_value c)) (symbol c)) (le-ltb (digit_value c) 10 h)

-- what holds of each symbol that a byte may be holds of the byte's class
pub by_symbol : (P : Class → Type 0) (c : ℕ) → 10 ≤ digit_value c
    → (c ≡ 43 → P (sign Plus)) → (c ≡ 45 → P (sign Minus)) → (c ≡ 46 → P point) → (c ≡ 101 → P mark) → (c ≡ 69 → P mark) → P other → P (classify c)
by_symbol P c h plus minus dot small big none = subst P (sym (classify_no_digit c h))
    (cond_both (c == 43) _ _ P (λ e. plus (eqb-true c 43 e)) (λ _.
    cond_both (c == 45) _ _ P (λ e. minus (eqb-true c 45 e)) (λ _.
    cond_both (c == 46) _ _ P (λ e. dot (eqb-true c 46 e)) (λ _.
    cond_both (c == 101) _ _ P (λ e. small (eqb-true c 101 e)) (λ _.
    cond_both (c == 69) _ _ P (λ e. big (eqb-true c 69 e)) (λ _. none))))))

-- digits lead on in the state that holds their value
pub run_whole : (s : Sign) (m : ℕ) (ds : List ℕ) → AllDigits 10 ds → run (Some (in_whole s m)) ds ≡ Some (in_whole s (digits_value_after 10 m ds))
run_whole s m [] h = refl
run_whole s m (d ∷ ds) h = ap (λ k. run (move (in_whole s m) k) ds) (classify_digit d h.0) ∙ run_whole s (m * 10 + digit_value d) ds h.1

pub run_fraction : (s : Sign) (m p : ℕ) (ds : List ℕ) → AllDigits 10 ds → run (Some (in_fraction s m p)) ds ≡ Some (in_fraction s (digits_value_after 10 m ds) (p + length ds))
run_fraction s m p [] h = ap (λ q. Some (in_fraction s m q)) (omega arith)
run_fraction s m p (d ∷ ds) h = ap (λ k. run (move (in_fraction s m p) k) ds) (classify_digit d h.0)
    ∙ (run_fraction s (m * 10 + digit_value d) (suc p) ds h.1
    ∙ ap (λ q. Some (in_fraction s (digits_value_after 10 (m * 10 + digit_value d) ds) q)) (omega arith))

pub run_power : (s : Sign) (m p : ℕ) (r : Sign) (e : ℕ) (ds : List ℕ) → AllDigits 10 ds → run (Some (in_power s m p r e)) ds ≡ Some (in_power s m p r (digits_value_after 10 e ds))
run_power s m p r e [] h = refl
run_power s m p r e (d ∷ ds) h = ap (λ k. run (move (in_power s m p r e) k) ds) (classify_digit d h.0) ∙ run_power s m p r (e * 10 + digit_value d) ds h.1

pub run_sign : (s : Sign) → run (Some (at_sign Bare)) (sign_text s) ≡ Some (at_sign s)
run_sign Bare = refl
run_sign Plus = refl
run_sign Minus = refl

pub run_mark_sign : (s : Sign) (m p : ℕ) (r : Sign) → run (Some (at_mark s m p Bare)) (sign_text r) ≡ Some (at_mark s m p r)
run_mark_sign s m p Bare = refl
run_mark_sign s m p Plus = refl
run_mark_sign s m p Minus = refl

-- where a mantissa's digits end
abbrev pub after_whole : Sign → List ℕ → State
after_whole s [] = at_sign s
after_whole s (w ∷ ws) = in_whole s (digits_value 10 (w ∷ ws))

abbrev pub after_fraction : Sign → List ℕ → List ℕ → State
after_fraction s [] [] = at_point s
after_fraction s [] (d ∷ ds) = in_fraction s (digits_value 10 (d ∷ ds)) (suc (length ds))
after_fraction s (w ∷ ws) ds = in_fraction s (digits_value 10 ((w ∷ ws) ++ ds)) (length ds)

abbrev pub after_mantissa : Sign → List ℕ → Option (List ℕ) → State
after_mantissa s ws None = after_whole s ws
after_mantissa s ws (Some ds) = after_fraction s ws ds

pub digits_value-append : (m : ℕ) (xs ys : List ℕ) → digits_value_after 10 m (xs ++ ys) ≡ digits_value_after 10 (digits_value_after 10 m xs) ys
digits_value-append m [] ys = refl
digits_value-append m (x ∷ xs) ys = digits_value-append (m * 10 + digit_value x) xs ys

pub AllDigits-left : (xs ys : List ℕ) → AllDigits 10 (xs ++ ys) → AllDigits 10 xs
AllDigits-left [] ys h = tt
AllDigits-left (x ∷ xs) ys h = (h.0, AllDigits-left xs ys h.1)

pub AllDigits-right : (xs ys : List ℕ) → AllDigits 10 (xs ++ ys) → AllDigits 10 ys
AllDigits-right [] ys h = h
AllDigits-right (x ∷ xs) ys h = AllDigits-right xs ys h.1

pub AllDigits-append : (xs ys : List ℕ) → AllDigits 10 xs → AllDigits 10 ys → AllDigits 10 (xs ++ ys)
AllDigits-append [] ys g h = h
AllDigits-append (x ∷ xs) ys g h = (g.0, AllDigits-append xs ys g.1 h)

run_digits : (s : Sign) (ws : List ℕ) → AllDigits 10 ws → run (Some (at_sign s)) ws ≡ Some (after_whole s ws)
run_digits s [] h = refl
run_digits s (w ∷ ws) h = ap (λ k. run (move (at_sign s) k) ws) (classify_digit w h.0) ∙ run_whole s (0 * 10 + digit_value w) ws h.1

run_behind_point : (s : Sign) (ws ds : List ℕ) → AllDigits 10 ds → run (Some (after_whole s ws)) (46 ∷ ds) ≡ Some (after_fraction s ws ds)
run_behind_point s [] [] h = refl
run_behind_point s [] (d ∷ ds) h = ap (λ k. run (move (at_point s) k) ds) (classify_digit d h.0) ∙ (run_fraction s (0 * 10 + digit_value d) 1 ds h.1
    ∙ ap (λ q. Some (in_fraction s (digits_value 10 (d ∷ ds)) q)) (omega arith))
run_behind_point s (w ∷ ws) ds h = run_fraction s (digits_value 10 (w ∷ ws)) 0 ds h
    ∙ (ap (λ q. Some (in_fraction s (digits_value_after 10 (digits_value 10 (w ∷ ws)) ds) q)) (omega arith)
    ∙ ap (λ v. Some (in_fraction s v (length ds))) (sym (digits_value-append 0 (w ∷ ws) ds)))

run_fraction_text : (s : Sign) (ws : List ℕ) (f : Option (List ℕ)) → AllDigits 10 (fraction_digits f) → run (Some (after_whole s ws)) (fraction_text f) ≡ Some (after_mantissa s ws f)
run_fraction_text s ws None h = refl
run_fraction_text s ws (Some ds) h = run_behind_point s ws ds h

-- a sign and a mantissa's digits lead to the state after them
pub run_mantissa : (s : Sign) (ws : List ℕ) (f : Option (List ℕ)) → AllDigits 10 ws → AllDigits 10 (fraction_digits f)
    → run (Some (at_sign Bare)) (sign_text s ++ (ws ++ fraction_text f)) ≡ Some (after_mantissa s ws f)
run_mantissa s ws f g h = run-append _ (sign_text s) (ws ++ fraction_text f)
    ∙ (ap (λ o. run o (ws ++ fraction_text f)) (run_sign s)
    ∙ (run-append _ ws (fraction_text f)
    ∙ (ap (λ o. run o (fraction_text f)) (run_digits s ws g) ∙ run_fraction_text s ws f h)))

-- a mark behind a mantissa with a digit
move_mark : (s : Sign) (ws : List ℕ) (f : Option (List ℕ)) → 0 < length (ws ++ fraction_digits f)
    → move (after_mantissa s ws f) mark ≡ Some (at_mark s (digits_value 10 (ws ++ fraction_digits f)) (length (fraction_digits f)) Bare)
move_mark s [] None h = absurd (omega arith)
move_mark s (w ∷ ws) None h = ap (λ ds. Some (at_mark s (digits_value 10 ds) 0 Bare)) (sym (append-nil (w ∷ ws)))
move_mark s [] (Some []) h = absurd (omega arith)
move_mark s [] (Some (d ∷ ds)) h = refl
move_mark s (w ∷ ws) (Some ds) h = refl

classify_mark : (c : ℕ) → (c ≡ 101) ⊎ (c ≡ 69) → classify c ≡ mark
classify_mark c (inl e) = ap classify e
classify_mark c (inr e) = ap classify e

pub run_mark : (s : Sign) (ws : List ℕ) (f : Option (List ℕ)) (c : ℕ) → 0 < length (ws ++ fraction_digits f) → (c ≡ 101) ⊎ (c ≡ 69)
    → next (Some (after_mantissa s ws f)) c ≡ Some (at_mark s (digits_value 10 (ws ++ fraction_digits f)) (length (fraction_digits f)) Bare)
run_mark s ws f c some h = ap (move (after_mantissa s ws f)) (classify_mark c h) ∙ move_mark s ws f some

-- what a state holds: the sign, the digits' value, how many stand behind the point, the exponent's sign and value
pub record Numbers : Type 0 where
  pub sign : Sign
  pub digits : ℕ
  pub places : ℕ
  pub power_sign : Sign
  pub power : ℕ

abbrev pub numbers : State → Numbers
numbers (at_sign s) = record { sign = s; digits = 0; places = 0; power_sign = Bare; power = 0 }
numbers (in_whole s m) = record { sign = s; digits = m; places = 0; power_sign = Bare; power = 0 }
numbers (at_point s) = record { sign = s; digits = 0; places = 0; power_sign = Bare; power = 0 }
numbers (in_fraction s m p) = record { sign = s; digits = m; places = p; power_sign = Bare; power = 0 }
numbers (at_mark s m p r) = record { sign = s; digits = m; places = p; power_sign = r; power = 0 }
numbers (in_power s m p r e) = record { sign = s; digits = m; places = p; power_sign = r; power = e }

abbrev pub power_numbers : Option Power → Sign × ℕ
power_numbers None = (Bare, 0)
power_numbers (Some power) = (power.sign, digits_value 10 power.digits)

abbrev pub token_numbers : Token → Numbers
token_numbers t = record { sign = t.sign; digits = mantissa t; places = length (fraction_digits t.fraction); power_sign = (power_numbers t.power).0; power = (power_numbers t.power).1 }

-- the machine reads a token to its end, and holds its numbers there
pub record Read (bytes : List ℕ) (n : Numbers) : Type 0 where
  pub state : State
  pub runs : run (Some (at_sign Bare)) bytes ≡ Some state
  pub at_end : ends state ≡ true
  pub holds : numbers state ≡ n

mantissa_ends : (s : Sign) (ws : List ℕ) (f : Option (List ℕ)) → 0 < length (ws ++ fraction_digits f) → ends (after_mantissa s ws f) ≡ true
mantissa_ends s [] None h = absurd (omega arith)
mantissa_ends s (w ∷ ws) None h = refl
mantissa_ends s [] (Some []) h = absurd (omega arith)
mantissa_ends s [] (Some (d ∷ ds)) h = refl
mantissa_ends s (w ∷ ws) (Some ds) h = refl

mantissa_numbers : (s : Sign) (ws : List ℕ) (f : Option (List ℕ)) → 0 < length (ws ++ fraction_digits f)
    → numbers (after_mantissa s ws f) ≡ record { sign = s; digits = digits_value 10 (ws ++ fraction_digits f); places = length (fraction_digits f); power_sign = Bare; power = 0 }
mantissa_numbers s [] None h = absurd (omega arith)
mantissa_numbers s (w ∷ ws) None h = ap (λ ds. numbers (in_whole s (digits_value 10 ds))) (sym (append-nil (w ∷ ws)))
mantissa_numbers s [] (Some []) h = absurd (omega arith)
mantissa_numbers s [] (Some (d ∷ ds)) h = refl
mantissa_numbers s (w ∷ ws) (Some ds) h = refl

-- the digits of a power of ten
pub run_power_digits : (s : Sign) (m p : ℕ) (r : Sign) (ds : List ℕ) → IsNumeral 10 ds → run (Some (at_mark s m p r)) ds ≡ Some (in_power s m p r (digits_value 10 ds))
run_power_digits s m p r [] h = absurd (omega arith)
run_power_digits s m p r (d ∷ ds) h = ap (λ k. run (move (at_mark s m p r) k) ds) (classify_digit d h.1.0) ∙ run_power s m p r (0 * 10 + digit_value d) ds h.1.1

-- a mark, a sign and digits behind a mantissa
pub run_power_front : (s : Sign) (ws : List ℕ) (f : Option (List ℕ)) (c : ℕ) (r : Sign) → 0 < length (ws ++ fraction_digits f) → (c ≡ 101) ⊎ (c ≡ 69)
    → run (Some (after_mantissa s ws f)) (c ∷ sign_text r) ≡ Some (at_mark s (digits_value 10 (ws ++ fraction_digits f)) (length (fraction_digits f)) r)
run_power_front s ws f c r some h = ap (λ o. run o (sign_text r)) (run_mark s ws f c some h) ∙ run_mark_sign s _ _ r

read_text : (s : Sign) (ws : List ℕ) (f : Option (List ℕ)) (p : Option Power) → IsNumeral 10 (ws ++ fraction_digits f) → IsPower p
    → Read (sign_text s ++ (ws ++ (fraction_text f ++ power_text p))) (token_numbers (record { sign = s; whole = ws; fraction = f; power = p }))
read_text s ws f None m h = record {
  state = after_mantissa s ws f;
  runs = ap (λ ys. run (Some (at_sign Bare)) (sign_text s ++ (ws ++ ys))) (append-nil (fraction_text f)) ∙ run_mantissa s ws f (AllDigits-left ws (fraction_digits f) m.1) (AllDigits-right ws (fraction_digits f) m.1);
  at_end = mantissa_ends s ws f m.0;
  holds = mantissa_numbers s ws f m.0;
}
read_text s ws f (Some p) m h = record {
  state = in_power s (digits_value 10 (ws ++ fraction_digits f)) (length (fraction_digits f)) p.sign (digits_value 10 p.digits);
  runs = ap (run (Some (at_sign Bare))) (regroup (sign_text s) ws (fraction_text f) (p.mark ∷ sign_text p.sign) p.digits)
      ∙ (run-append _ (sign_text s ++ (ws ++ fraction_text f)) ((p.mark ∷ sign_text p.sign) ++ p.digits)
      ∙ (ap (λ o. run o ((p.mark ∷ sign_text p.sign) ++ p.digits)) (run_mantissa s ws f (AllDigits-left ws (fraction_digits f) m.1) (AllDigits-right ws (fraction_digits f) m.1))
      ∙ (run-append (Some (after_mantissa s ws f)) (p.mark ∷ sign_text p.sign) p.digits
      ∙ (ap (λ o. run o p.digits) (run_power_front s ws f p.mark p.sign m.0 h.0)
      ∙ run_power_digits s _ _ p.sign p.digits h.1))));
  at_end = refl;
  holds = refl;
}
  where
    regroup : (a b c d e : List ℕ) → a ++ (b ++ (c ++ (d ++ e))) ≡ (a ++ (b ++ c)) ++ (d ++ e)
    regroup a b c d e = simp append_assoc

-- the machine reads every token
pub read_token : (bytes : List ℕ) (t : Token) → IsToken bytes t → Read bytes (token_numbers t)
read_token bytes t h = subst (λ bs. Read bs (token_numbers t)) (sym h.text) (read_text t.sign t.whole t.fraction t.power h.mantissa h.power)

-- two ways to take bytes apart give the same numbers
pub same_numbers : (bytes : List ℕ) (t u : Token) → IsToken bytes t → IsToken bytes u → token_numbers t ≡ token_numbers u
same_numbers bytes t u h k =
    let a = read_token bytes t h in let b = read_token bytes u k in
    let e : a.state ≡ b.state = cc (a.runs, b.runs) in
    sym a.holds ∙ (ap numbers e ∙ b.holds)

-- where the machine stops, no token goes on
stuck : (x : List ℕ) (s : State) (c : ℕ) → run (Some (at_sign Bare)) x ≡ Some s → next (Some s) c ≡ None → ¬ (Begins (x ++ (c ∷ [])))
stuck x s c r n b =
    let read = read_token _ b.1 b.2 in
    let dead : run (Some (at_sign Bare)) ((x ++ (c ∷ [])) ++ b.0) ≡ None =
    run-append _ (x ++ (c ∷ [])) b.0 ∙ (ap (λ o. run o b.0) (run-append _ x (c ∷ []) ∙ (ap (λ o. next o c) r ∙ n)) ∙ run_none b.0) in
    cc (read.runs, dead)

pub unended : (x : List ℕ) (s : State) → run (Some (at_sign Bare)) x ≡ Some s → ends s ≡ false → ¬ ((t : Token) × IsToken x t)
unended x s r n h =
    let read = read_token x h.0 h.1 in
    let e : read.state ≡ s = cc (read.runs, r) in
    false≢true (sym n ∙ (ap ends (sym e) ∙ read.at_end))

-- the machine has read x, from which a token goes on, and what is left cannot stand there
pub breaks : (x left : List ℕ) (s : State) → run (Some (at_sign Bare)) x ≡ Some s → Begins x
    → next (Some s) (slice_index left 0) ≡ None → (left ≡ [] → ends s ≡ false) → BreaksAt (x ++ left) (length x)
breaks x [] s r b n e = record {
  within = omega (arith, length-append x []);
  before = subst Begins (sym (take-append_seam x [])) b;
  there = λ h. absurd (omega (arith, h, length-append x []));
  early = λ _. subst (λ bs. ¬ ((t : Token) × IsToken bs t)) (sym (append-nil x)) (unended x s r (e refl));
}
breaks x (c ∷ cs) s r b n e = record {
  within = omega (arith, length-append x (c ∷ cs));
  before = subst Begins (sym (take-append_seam x (c ∷ cs))) b;
  there = λ _. subst (λ bs. ¬ (Begins bs)) (sym (take-append-add x (c ∷ cs) 1)) (stuck x s c r n);
  early = λ h. absurd (omega (arith, h, length-append x (c ∷ cs)));
}
