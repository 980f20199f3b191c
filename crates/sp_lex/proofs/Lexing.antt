-- Tokens of a whole text.
use Rattle.std.proofs.Common.{◌≡◌, ◌≢◌, ℕ, ◌+◌, ◌-◌, ◌≤◌, ◌<◌, Bool, true, false, ◌==◌, List, [], ◌∷◌, ◌++◌, length, refl, sym, ◌∙◌, ap, subst, arith, append_assoc, length-append, append-nil}
use Rattle.std.specs.List.{list_all}
use Rattle.std.proofs.lemmas.Bool.Decides.{nat_tests}
use Rattle.std.proofs.lemmas.List.{append_cancel_left}
use Rattle.sp_lex.specs.declared.token.Kernel.{Kernel}
use Rattle.sp_lex.specs.declared.token.Kernel.TheVariants as k
use Rattle.sp_lex.specs.declared.token.Token.{Token}
use Rattle.sp_lex.specs.declared.fault.Fault.{Fault}
use Rattle.sp_lex.specs.declared.fault.Fault.TheVariants as fault
use Rattle.sp_lex.specs.declared.token.LexFault.TheVariants as place
use Rattle.sp_lex.specs.Spelling.{is_letter, is_digit, is_quote, is_blank, heads, doubled, number_of, IsNumber, Spells, as_word, as_name, as_whole, as_decimal, as_literal, as_mark, IsToken, IsLong, Next, Reaches, Tokens, Gets, Refuses}
use Rattle.sp_lex.specs.Reading.{IsRun, Stops, is_mark_byte}
use Rattle.sp_lex.specs.Placed.{placed}
use Rattle.sp_lex.proofs.Tables.{same_word, same_mark}
use Rattle.sp_lex.proofs.Literals.{same_inside}
use Rattle.sp_lex.proofs.Longest.{same_run, class, class_begins, clash, and_left, and_right, apart, flip, digit_no_letter, quote_no_letter, quote_no_digit, mark_no_letter, mark_no_digit, mark_no_quote}

-- Read so far: the tokens lead here, and each list of tokens of the text begins with them and goes on with tokens of the rest.
pub record Underway (text : List ℕ) (at : ℕ) (rest : List ℕ) (ts : List Token) : Type 0 where
  pub front : List ℕ
  pub cut : text ≡ front ++ rest
  pub reaches : Reaches 0 text ts at rest
  pub leads : (more : List Token) → Tokens at rest more → Tokens 0 text (ts ++ more)
  pub only : (all : List Token) → Tokens 0 text all → (more : List Token) × (all ≡ ts ++ more) × Tokens at rest more

pub starts : (text : List ℕ) (at : ℕ) → at ≡ 0 → Underway text at text []
starts text at e = record { front = []; cut = refl; reaches = (sym e, refl); leads = λ more t. subst (λ n. Tokens n text more) e t; only = λ all t. (all, refl, subst (λ n. Tokens n text all) (sym e) t) }

letter_no_blank : (b : ℕ) → is_letter b ≡ true → is_blank b ≡ false
letter_no_blank b h = grind (arith, nat_tests)

pub digit_no_blank : (b : ℕ) → is_digit b ≡ true → is_blank b ≡ false
digit_no_blank b h = grind (arith, nat_tests)

pub quote_no_blank : (b : ℕ) → is_quote b ≡ true → is_blank b ≡ false
quote_no_blank b h = grind (arith, nat_tests)

mark_no_blank : (b : ℕ) → is_mark_byte b ≡ true → is_blank b ≡ false
mark_no_blank b h = grind (arith, nat_tests)

class_no_blank : (kernel : Kernel) (f r : List ℕ) (s : Spells kernel f r) (b : ℕ) → class s b ≡ true → is_blank b ≡ false
class_no_blank kernel f r (as_word w e d) = letter_no_blank
class_no_blank kernel f r (as_name e n o) = letter_no_blank
class_no_blank kernel f r (as_whole e n) = digit_no_blank
class_no_blank kernel f r (as_decimal w p e d n m s) = digit_no_blank
class_no_blank kernel f r (as_literal v e d c) = quote_no_blank
class_no_blank kernel f r (as_mark e) = mark_no_blank

first_no_blank : (p : ℕ → Bool) (f r : List ℕ) → ((b : ℕ) → p b ≡ true → is_blank b ≡ false) → heads p f ≡ true → heads is_blank (f ++ r) ≡ false
first_no_blank p [] r n h = cc
first_no_blank p (b ∷ f) r n h = n b h

pub no_blank : (kernel : Kernel) (f r : List ℕ) → Spells kernel f r → heads is_blank (f ++ r) ≡ false
no_blank kernel f r s = first_no_blank (class s) f r (class_no_blank kernel f r s) (class_begins kernel f r s)

same_front : (f r g q : List ℕ) → f ++ r ≡ g ++ q → length f ≡ length g → f ≡ g
same_front [] r [] q e h = refl
same_front [] r (b ∷ g) q e h = absurd (omega arith)
same_front (a ∷ f) r [] q e h = absurd (omega arith)
same_front (a ∷ f) r (b ∷ g) q e h =
    let l : length f ≡ length g = omega arith in
    let i : f ≡ g = same_front f r g q (cc) l in
    let j : a ≡ b = cc in
    cc

point_in : (w p : List ℕ) → list_all is_digit (w ++ 46 ∷ p) ≡ true → ⊥
point_in [] p h = clash (is_digit 46) (and_left (is_digit 46) (list_all is_digit p) h) refl
point_in (b ∷ w) p h = point_in w p (and_right (is_digit b) (list_all is_digit (w ++ 46 ∷ p)) h)

whole_no_decimal : (f w p : List ℕ) → IsNumber f → f ≡ w ++ 46 ∷ p → ⊥
whole_no_decimal f w p n d = point_in w p (sym (ap (list_all is_digit) d) ∙ n.all)

same_decimal : (f w p v q : List ℕ) → IsNumber w → IsNumber v → f ≡ w ++ 46 ∷ p → f ≡ v ++ 46 ∷ q → (w ≡ v) × (p ≡ q)
same_decimal f w p v q n m a b =
    let i : w ≡ v = same_run is_digit w (46 ∷ p) v (46 ∷ q) n.all m.all refl refl (sym a ∙ b) in
    let j : 46 ∷ p ≡ 46 ∷ q = append_cancel_left w _ _ (sym a ∙ b ∙ ap (λ l. l ++ 46 ∷ q) (sym i)) in
    (i, cc)

same_value : (f v u : List ℕ) → f ≡ 39 ∷ (doubled v ++ 39 ∷ []) → f ≡ 39 ∷ (doubled u ++ 39 ∷ []) → v ≡ u
same_value f v u a b =
    let e : 39 ∷ (doubled v ++ 39 ∷ []) ≡ 39 ∷ (doubled u ++ 39 ∷ []) = sym a ∙ b in
    let d : doubled v ++ 39 ∷ [] ≡ doubled u ++ 39 ∷ [] = cc in
    (same_inside (doubled v ++ 39 ∷ []) v [] u [] (record { cut = refl; closed = refl }) (record { cut = d; closed = refl })).0

-- a spelling has one kernel
same_kernel : (one other : Kernel) (f r q : List ℕ) → Spells one f r → Spells other f q → one ≡ other
same_kernel one other f r q (as_word w e d) (as_word w' e' d') = e ∙ ap k.Word (same_word w w' (sym d ∙ d')) ∙ sym e'
same_kernel one other f r q (as_word w e d) (as_name e' n' o') = absurd (o' w d)
same_kernel one other f r q (as_word w e d) (as_whole e' n') = absurd (apart is_letter is_digit (flip is_digit is_letter digit_no_letter) f (class_begins one f r (as_word w e d)) (class_begins other f q (as_whole e' n')))
same_kernel one other f r q (as_word w e d) (as_decimal w' p' e' d' n' m' s') = absurd (apart is_letter is_digit (flip is_digit is_letter digit_no_letter) f (class_begins one f r (as_word w e d)) (class_begins other f q (as_decimal w' p' e' d' n' m' s')))
same_kernel one other f r q (as_word w e d) (as_literal v' e' d' c') = absurd (apart is_letter is_quote (flip is_quote is_letter quote_no_letter) f (class_begins one f r (as_word w e d)) (class_begins other f q (as_literal v' e' d' c')))
same_kernel one other f r q (as_word w e d) (as_mark e') = absurd (apart is_letter is_mark_byte (flip is_mark_byte is_letter mark_no_letter) f (class_begins one f r (as_word w e d)) (class_begins other f q (as_mark e')))
same_kernel one other f r q (as_name e n o) (as_word w' e' d') = absurd (o w' d')
same_kernel one other f r q (as_name e n o) (as_name e' n' o') = e ∙ sym e'
same_kernel one other f r q (as_name e n o) (as_whole e' n') = absurd (apart is_letter is_digit (flip is_digit is_letter digit_no_letter) f (class_begins one f r (as_name e n o)) (class_begins other f q (as_whole e' n')))
same_kernel one other f r q (as_name e n o) (as_decimal w' p' e' d' n' m' s') = absurd (apart is_letter is_digit (flip is_digit is_letter digit_no_letter) f (class_begins one f r (as_name e n o)) (class_begins other f q (as_decimal w' p' e' d' n' m' s')))
same_kernel one other f r q (as_name e n o) (as_literal v' e' d' c') = absurd (apart is_letter is_quote (flip is_quote is_letter quote_no_letter) f (class_begins one f r (as_name e n o)) (class_begins other f q (as_literal v' e' d' c')))
same_kernel one other f r q (as_name e n o) (as_mark e') = absurd (apart is_letter is_mark_byte (flip is_mark_byte is_letter mark_no_letter) f (class_begins one f r (as_name e n o)) (class_begins other f q (as_mark e')))
same_kernel one other f r q (as_whole e n) (as_word w' e' d') = absurd (apart is_digit is_letter digit_no_letter f (class_begins one f r (as_whole e n)) (class_begins other f q (as_word w' e' d')))
same_kernel one other f r q (as_whole e n) (as_name e' n' o') = absurd (apart is_digit is_letter digit_no_letter f (class_begins one f r (as_whole e n)) (class_begins other f q (as_name e' n' o')))
same_kernel one other f r q (as_whole e n) (as_whole e' n') = e ∙ sym e'
same_kernel one other f r q (as_whole e n) (as_decimal w' p' e' d' n' m' s') = absurd (whole_no_decimal f w' p' n d')
same_kernel one other f r q (as_whole e n) (as_literal v' e' d' c') = absurd (apart is_digit is_quote (flip is_quote is_digit quote_no_digit) f (class_begins one f r (as_whole e n)) (class_begins other f q (as_literal v' e' d' c')))
same_kernel one other f r q (as_whole e n) (as_mark e') = absurd (apart is_digit is_mark_byte (flip is_mark_byte is_digit mark_no_digit) f (class_begins one f r (as_whole e n)) (class_begins other f q (as_mark e')))
same_kernel one other f r q (as_decimal w p e d n m s) (as_word w' e' d') = absurd (apart is_digit is_letter digit_no_letter f (class_begins one f r (as_decimal w p e d n m s)) (class_begins other f q (as_word w' e' d')))
same_kernel one other f r q (as_decimal w p e d n m s) (as_name e' n' o') = absurd (apart is_digit is_letter digit_no_letter f (class_begins one f r (as_decimal w p e d n m s)) (class_begins other f q (as_name e' n' o')))
same_kernel one other f r q (as_decimal w p e d n m s) (as_whole e' n') = absurd (whole_no_decimal f w p n' d)
same_kernel one other f r q (as_decimal w p e d n m s) (as_decimal w' p' e' d' n' m' s') = let x = same_decimal f w p w' p' n n' d d' in e ∙ (λ i. k.Decimal (number_of (x.0 i ++ x.1 i)) (length (x.1 i))) ∙ sym e'
same_kernel one other f r q (as_decimal w p e d n m s) (as_literal v' e' d' c') = absurd (apart is_digit is_quote (flip is_quote is_digit quote_no_digit) f (class_begins one f r (as_decimal w p e d n m s)) (class_begins other f q (as_literal v' e' d' c')))
same_kernel one other f r q (as_decimal w p e d n m s) (as_mark e') = absurd (apart is_digit is_mark_byte (flip is_mark_byte is_digit mark_no_digit) f (class_begins one f r (as_decimal w p e d n m s)) (class_begins other f q (as_mark e')))
same_kernel one other f r q (as_literal v e d c) (as_word w' e' d') = absurd (apart is_quote is_letter quote_no_letter f (class_begins one f r (as_literal v e d c)) (class_begins other f q (as_word w' e' d')))
same_kernel one other f r q (as_literal v e d c) (as_name e' n' o') = absurd (apart is_quote is_letter quote_no_letter f (class_begins one f r (as_literal v e d c)) (class_begins other f q (as_name e' n' o')))
same_kernel one other f r q (as_literal v e d c) (as_whole e' n') = absurd (apart is_quote is_digit quote_no_digit f (class_begins one f r (as_literal v e d c)) (class_begins other f q (as_whole e' n')))
same_kernel one other f r q (as_literal v e d c) (as_decimal w' p' e' d' n' m' s') = absurd (apart is_quote is_digit quote_no_digit f (class_begins one f r (as_literal v e d c)) (class_begins other f q (as_decimal w' p' e' d' n' m' s')))
same_kernel one other f r q (as_literal v e d c) (as_literal v' e' d' c') = e ∙ ap k.Literal (same_value f v v' d d') ∙ sym e'
same_kernel one other f r q (as_literal v e d c) (as_mark e') = absurd (apart is_quote is_mark_byte (flip is_mark_byte is_quote mark_no_quote) f (class_begins one f r (as_literal v e d c)) (class_begins other f q (as_mark e')))
same_kernel one other f r q (as_mark e) (as_word w' e' d') = absurd (apart is_mark_byte is_letter mark_no_letter f (class_begins one f r (as_mark e)) (class_begins other f q (as_word w' e' d')))
same_kernel one other f r q (as_mark e) (as_name e' n' o') = absurd (apart is_mark_byte is_letter mark_no_letter f (class_begins one f r (as_mark e)) (class_begins other f q (as_name e' n' o')))
same_kernel one other f r q (as_mark e) (as_whole e' n') = absurd (apart is_mark_byte is_digit mark_no_digit f (class_begins one f r (as_mark e)) (class_begins other f q (as_whole e' n')))
same_kernel one other f r q (as_mark e) (as_decimal w' p' e' d' n' m' s') = absurd (apart is_mark_byte is_digit mark_no_digit f (class_begins one f r (as_mark e)) (class_begins other f q (as_decimal w' p' e' d' n' m' s')))
same_kernel one other f r q (as_mark e) (as_literal v' e' d' c') = absurd (apart is_mark_byte is_quote mark_no_quote f (class_begins one f r (as_mark e)) (class_begins other f q (as_literal v' e' d' c')))
same_kernel one other f r q (as_mark e) (as_mark e') = same_mark one other f e e'

pub next_same : (at : ℕ) (s : List ℕ) (t u : Token) (r q : List ℕ) → Next at s t r → Next at s u q → (t ≡ u) × (r ≡ q)
next_same at s t u r q x y =
    let b : x.blanks ≡ y.blanks = same_run is_blank x.blanks (x.front ++ r) y.blanks (y.front ++ q) x.blank y.blank (no_blank t.kernel x.front r x.token.spells) (no_blank u.kernel y.front q y.token.spells) (sym x.cut ∙ y.cut) in
    let c : x.front ++ r ≡ y.front ++ q = append_cancel_left x.blanks _ _ (sym x.cut ∙ y.cut ∙ ap (λ l. l ++ (y.front ++ q)) (sym b)) in
    let one : length y.front ≤ length x.front = x.token.longest u.kernel y.front q c y.token.spells in
    let two : length x.front ≤ length y.front = y.token.longest t.kernel x.front r (sym c) x.token.spells in
    let both : length x.front ≡ length y.front = omega arith in
    let f : x.front ≡ y.front = same_front x.front r y.front q c both in
    let kernels : t.kernel ≡ u.kernel = same_kernel t.kernel u.kernel x.front r q x.token.spells (subst (λ l. Spells u.kernel l q) (sym f) y.token.spells) in
    let froms : t.span.from ≡ u.span.from = x.from ∙ ap (λ l. at + length l) b ∙ sym y.from in
    let tos : t.span.to ≡ u.span.to = x.to ∙ (λ i. froms i + length (f i)) ∙ sym y.to in
    (λ i. record { kernel = kernels i; span = record { from = froms i; to = tos i } }, append_cancel_left x.front _ _ (c ∙ ap (λ l. l ++ q) (sym f)))

reaches_more : (at : ℕ) (s : List ℕ) (ts : List Token) (e : ℕ) (m : List ℕ) (t : Token) (r : List ℕ) → Reaches at s ts e m → Next e m t r → Reaches at s (ts ++ t ∷ []) t.span.to r
reaches_more at s [] e m t r x y = (r, subst (λ n. Next n s t r) (sym x.0) (subst (λ l. Next e l t r) (sym x.1) y), (refl, refl))
reaches_more at s (u ∷ ts) e m t r x y = (x.0, x.1, reaches_more u.span.to x.0 ts e m t r x.2 y)

blank_in : (z r : List ℕ) → list_all is_blank (z ++ r) ≡ true → r ≢ [] → heads is_blank r ≡ false → ⊥
blank_in [] [] h n i = n refl
blank_in [] (b ∷ r) h n i = clash (is_blank b) (and_left (is_blank b) (list_all is_blank r) h) i
blank_in (a ∷ z) r h n i = blank_in z r (and_right (is_blank a) (list_all is_blank (z ++ r)) h) n i

blank_stops : (z s r : List ℕ) → list_all is_blank s ≡ true → s ≡ z ++ r → r ≢ [] → heads is_blank r ≡ false → ⊥
blank_stops z s r h e n i = blank_in z r (sym (ap (list_all is_blank) e) ∙ h) n i

some_front : (p : ℕ → Bool) (f r : List ℕ) → heads p f ≡ true → f ++ r ≡ [] → ⊥
some_front p [] r h e = cc
some_front p (b ∷ f) r h e = cc

not_nothing : (kernel : Kernel) (f r : List ℕ) → Spells kernel f r → f ++ r ≢ []
not_nothing kernel f r s e = some_front (class s) f r (class_begins kernel f r s) e

-- what goes on from here begins with the token here
pub split : (at : ℕ) (s : List ℕ) (t : Token) (r : List ℕ) → Next at s t r → (more : List Token) → Tokens at s more → (z : List Token) × (more ≡ t ∷ z) × Tokens t.span.to r z
split at s t r x [] q = absurd (blank_stops x.blanks s (x.front ++ r) q x.cut (not_nothing t.kernel x.front r x.token.spells) (no_blank t.kernel x.front r x.token.spells))
split at s t r x (u ∷ z) q =
    let p = next_same at s t u r q.0 x q.1 in
    (z, (λ i. sym p.0 i ∷ z), subst (λ (w : Token × List ℕ). Tokens w.0.span.to w.1 z) (λ i. (sym p.0 i, sym p.1 i)) q.2)

next_cut : (text rest after : List ℕ) (at : ℕ) (t : Token) (front : List ℕ) → text ≡ front ++ rest → (x : Next at rest t after) → text ≡ (front ++ (x.blanks ++ x.front)) ++ after
next_cut text rest after at t front e x = e ∙ ap (λ l. front ++ l) (x.cut ∙ sym (append_assoc x.blanks x.front after)) ∙ sym (append_assoc front (x.blanks ++ x.front) after)

-- one token more
pub takes : (text rest after : List ℕ) (at : ℕ) (ts : List Token) (t : Token) → Underway text at rest ts → Next at rest t after → Underway text t.span.to after (ts ++ t ∷ [])
takes text rest after at ts t g x = record {
  front = g.front ++ (x.blanks ++ x.front);
  cut = next_cut text rest after at t g.front g.cut x;
  reaches = reaches_more 0 text ts at rest t after g.reaches x;
  leads = λ more q. subst (λ l. Tokens 0 text l) (sym (append_assoc ts (t ∷ []) more)) (g.leads (t ∷ more) (after, x, q));
  only = λ all q.
      let p = g.only all q in
      let i = split at rest t after x p.0 p.2 in
      (i.0, p.1 ∙ ap (λ l. ts ++ l) i.1 ∙ sym (append_assoc ts (t ∷ []) i.0), i.2);
}

nothing_more : (at : ℕ) (s : List ℕ) → list_all is_blank s ≡ true → (more : List Token) → Tokens at s more → more ≡ []
nothing_more at s h [] q = refl
nothing_more at s h (u ∷ z) q = absurd (blank_stops q.1.blanks s (q.1.front ++ q.0) h q.1.cut (not_nothing u.kernel q.1.front q.0 q.1.token.spells) (no_blank u.kernel q.1.front q.0 q.1.token.spells))

pub no_next : (at : ℕ) (rest z here : List ℕ) → rest ≡ z ++ here → IsRun is_blank z here
    → ((kernel : Kernel) (f r : List ℕ) → here ≡ f ++ r → Spells kernel f r → (IsLong here → ⊥) → ⊥) → (t : Token) (r : List ℕ) → Next at rest t r → ⊥
no_next at rest z here e run none t r x =
    let b : x.blanks ≡ z = same_run is_blank x.blanks (x.front ++ r) z here x.blank run.all (no_blank t.kernel x.front r x.token.spells) run.stops (sym x.cut ∙ e) in
    let c : here ≡ x.front ++ r = append_cancel_left z _ _ (sym e ∙ x.cut ∙ ap (λ l. l ++ (x.front ++ r)) b) in
    none t.kernel x.front r c x.token.spells (λ long. x.short (subst (λ l. IsLong l) c long))

pub no_start : (at : ℕ) (rest z here : List ℕ) → rest ≡ z ++ here → IsRun is_blank z here → length here ≢ 0
    → ((kernel : Kernel) (f r : List ℕ) → here ≡ f ++ r → Spells kernel f r → (IsLong here → ⊥) → ⊥) → (more : List Token) → Tokens at rest more → ⊥
no_start at rest z here e run some none [] q = blank_stops z rest here q e (λ i. some (ap length i)) run.stops
no_start at rest z here e run some none (u ∷ l) q = no_next at rest z here e run none u q.0 q.1

-- ---- as the code asks

some_length : (p : ℕ → Bool) (f : List ℕ) → heads p f ≡ true → 0 < length f
some_length p [] h = absurd cc
some_length p (b ∷ f) h = omega arith

pub within : (text rest : List ℕ) (at : ℕ) (ts : List Token) → Underway text at rest ts → length rest ≤ length text
within text rest at ts g = omega (arith, ap length g.cut, length-append g.front rest)

pub place_here : (text rest z here : List ℕ) (at : ℕ) (ts : List Token) → Underway text at rest ts → rest ≡ z ++ here → (front : List ℕ) × (text ≡ front ++ here)
place_here text rest z here at ts g e = (g.front ++ z, g.cut ∙ ap (λ l. g.front ++ l) e ∙ sym (append_assoc g.front z here))

pub next_here : (rest z here front after : List ℕ) (text : List ℕ) (kernel : Kernel) → length rest ≤ length text → rest ≡ z ++ here → IsRun is_blank z here → here ≡ front ++ after → IsToken kernel front after → (IsLong here → ⊥)
    → Next (length text - length rest) rest (record { kernel = kernel; span = record { from = length text - length here; to = length text - length after } }) after
next_here rest z here front after text kernel w e run c token short = record {
  blanks = z;
  front = front;
  cut = e ∙ ap (λ l. z ++ l) c;
  blank = run.all;
  token = token;
  short = λ long. short (subst (λ l. IsLong l) (sym c) long);
  from = omega (arith, ap length e, length-append z here);
  to = omega (arith, ap length e, length-append z here, ap length c, length-append front after);
}

pub shorter : (rest z here front after : List ℕ) (kernel : Kernel) → rest ≡ z ++ here → here ≡ front ++ after → Spells kernel front after → length after < length rest
shorter rest z here front after kernel e c s =
    let h : 0 < length front = some_length (class s) front (class_begins kernel front after s) in
    omega (arith, ap length e, length-append z here, ap length c, length-append front after)

all_blank : (z here : List ℕ) → list_all is_blank z ≡ true → length here ≡ 0 → list_all is_blank (z ++ here) ≡ true
all_blank z [] h e = ap (list_all is_blank) (append-nil z) ∙ h
all_blank z (b ∷ here) h e = cc

pub ends : (text rest : List ℕ) (at : ℕ) (ts : List Token) → Underway text at rest ts → list_all is_blank rest ≡ true → Tokens 0 text ts
ends text rest at ts g h = subst (λ l. Tokens 0 text l) (append-nil ts) (g.leads [] h)

pub ends_only : (text rest : List ℕ) (at : ℕ) (ts : List Token) → Underway text at rest ts → list_all is_blank rest ≡ true → (all : List Token) → Tokens 0 text all → all ≡ ts
ends_only text rest at ts g h all q = let p = g.only all q in p.1 ∙ ap (λ l. ts ++ l) (nothing_more at rest h p.0 p.2) ∙ append-nil ts

pub blank_rest : (rest z here : List ℕ) → rest ≡ z ++ here → IsRun is_blank z here → length here ≡ 0 → list_all is_blank rest ≡ true
blank_rest rest z here e run h = ap (list_all is_blank) e ∙ all_blank z here run.all h

pub empty_rest : (rest : List ℕ) → length rest ≡ 0 → list_all is_blank rest ≡ true
empty_rest [] h = refl
empty_rest (b ∷ rest) h = cc

pub gets : (text rest z here : List ℕ) (at from : ℕ) (ts : List Token) → Underway text at rest ts → rest ≡ z ++ here → IsRun is_blank z here → from ≡ at + length z → Gets text from here
gets text rest z here at from ts g e run i = record { tokens = ts; place = at; blanks = z; reaches = subst (λ l. Reaches 0 text ts at l) e g.reaches; blank = run.all; at_is = i }

-- what stands here refuses the text at this place
pub refuses : (stop : Fault) (text rest z here : List ℕ) (at from : ℕ) (ts : List Token) → Underway text at rest ts → rest ≡ z ++ here → IsRun is_blank z here → length here ≢ 0 → from ≡ at + length z → Stops here stop → Refuses text (placed stop from)
refuses fault.Memory text rest z here at from ts g e run some i s = tt {0}
refuses fault.BadCharacter text rest z here at from ts g e run some i s = (here, (λ n. some (ap length n)), gets text rest z here at from ts g e run i, run.stops, s.0, s.1)
refuses fault.OpenText text rest z here at from ts g e run some i s = (here, gets text rest z here at from ts g e run i, s.0, s.1)
refuses fault.LongNumber text rest z here at from ts g e run some i s = (here, gets text rest z here at from ts g e run i, s)

-- where no token stands here, the text has no tokens, and the fault is Memory for want of it alone
pub refused : (stop : Fault) (text rest z here : List ℕ) (at from : ℕ) (ts : List Token) → Underway text at rest ts → rest ≡ z ++ here → IsRun is_blank z here → length here ≢ 0 → Stops here stop → (all : List Token) → Tokens 0 text all → placed stop from ≡ place.Memory
refused fault.Memory text rest z here at from ts g e run some s all q = refl
refused fault.BadCharacter text rest z here at from ts g e run some s all q = let p = g.only all q in absurd (no_start at rest z here e run some (λ kernel f r c t short. s.1 kernel f r c t) p.0 p.2)
refused fault.OpenText text rest z here at from ts g e run some s all q = let p = g.only all q in absurd (no_start at rest z here e run some (λ kernel f r c t short. s.1 kernel f r c t) p.0 p.2)
refused fault.LongNumber text rest z here at from ts g e run some s all q = let p = g.only all q in absurd (no_start at rest z here e run some (λ kernel f r c t short. short s) p.0 p.2)

pub from_here : (text rest z here : List ℕ) → length rest ≤ length text → rest ≡ z ++ here → length text - length here ≡ (length text - length rest) + length z
from_here text rest z here w e = omega (arith, ap length e, length-append z here)

pub zero_of : (b : Bool) (n : ℕ) → b ≡ (n == 0) → b ≡ true → n ≡ 0
zero_of b n e h = grind (arith, nat_tests)

pub positive_of : (b : Bool) (n : ℕ) → b ≡ (n == 0) → b ≡ false → n ≢ 0
positive_of b n e h i = grind (arith, nat_tests)
