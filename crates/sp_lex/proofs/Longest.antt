-- Which front of a text is the longest token.
use Rattle.std.proofs.Common.{◌≡◌, ℕ, ◌≤◌, Bool, true, false, ◌&&◌, ◌||◌, Some, List, [], ◌∷◌, ◌++◌, length, refl, sym, ◌∙◌, ap, arith, append_assoc, length-append}
use Rattle.std.specs.List.{list_all}
use Rattle.std.proofs.lemmas.Bool.Decides.{nat_tests}
use Rattle.std.proofs.lemmas.List.{append_cancel_left}
use Rattle.sp_lex.specs.declared.token.Kernel.{Kernel}
use Rattle.sp_lex.specs.Spelling.{is_letter, is_digit, is_quote, is_name_byte, heads, mark, doubled, IsNumber, IsName, Spells, as_word, as_name, as_whole, as_decimal, as_literal, as_mark, IsLongest, HasNone}
use Rattle.sp_lex.specs.Reading.{IsRun, Inside, is_mark_byte}
use Rattle.sp_lex.proofs.Tables.{word_begins, word_all, mark_begins}
use Rattle.sp_lex.proofs.Literals.{same_inside}

pub and_left : (a b : Bool) → (a && b) ≡ true → a ≡ true
and_left true b h = refl
and_left false b h = cc

pub and_right : (a b : Bool) → (a && b) ≡ true → b ≡ true
and_right true b h = h
and_right false b h = cc

pub clash : (b : Bool) → b ≡ true → b ≡ false → ⊥
clash b h i = cc

pub run_longest : (p : ℕ → Bool) (f rest g r : List ℕ) → heads p rest ≡ false → f ++ rest ≡ g ++ r → list_all p g ≡ true → length g ≤ length f
run_longest p f rest [] r stops e all = omega arith
run_longest p [] [] (b ∷ g) r stops e all = absurd cc
run_longest p [] (a ∷ rest) (b ∷ g) r stops e all =
    let c : a ≡ b = cc in
    let d : p b ≡ true = and_left (p b) (list_all p g) all in
    absurd cc
run_longest p (a ∷ f) rest (b ∷ g) r stops e all =
    let c : f ++ rest ≡ g ++ r = cc in
    let d : length g ≤ length f = run_longest p f rest g r stops c (and_right (p b) (list_all p g) all) in
    omega arith

-- such bytes in front of a text begin the run that is in front of it
pub run_prefix : (p : ℕ → Bool) (f rest g r : List ℕ) → heads p rest ≡ false → f ++ rest ≡ g ++ r → list_all p g ≡ true → (h : List ℕ) × (f ≡ g ++ h)
run_prefix p f rest [] r stops e all = (f, refl)
run_prefix p [] rest (b ∷ g) r stops e all = absurd (let h : length (b ∷ g) ≤ 0 = run_longest p [] rest (b ∷ g) r stops e all in omega arith)
run_prefix p (a ∷ f) rest (b ∷ g) r stops e all =
    let c : f ++ rest ≡ g ++ r = cc in
    let d : a ≡ b = cc in
    let i = run_prefix p f rest g r stops c (and_right (p b) (list_all p g) all) in
    (i.0, (λ j. d j ∷ i.1 j))

-- two runs in front of one text are one
pub same_run : (p : ℕ → Bool) (f rest g r : List ℕ) → list_all p f ≡ true → list_all p g ≡ true → heads p rest ≡ false → heads p r ≡ false → f ++ rest ≡ g ++ r → f ≡ g
same_run p [] rest [] r a b c d e = refl
same_run p [] rest (y ∷ g) r a b c d e = absurd (let h : length (y ∷ g) ≤ 0 = run_longest p [] rest (y ∷ g) r c e b in omega arith)
same_run p (x ∷ f) rest [] r a b c d e = absurd (let h : length (x ∷ f) ≤ 0 = run_longest p [] r (x ∷ f) rest d (sym e) a in omega arith)
same_run p (x ∷ f) rest (y ∷ g) r a b c d e =
    let h : f ≡ g = same_run p f rest g r (and_right (p x) (list_all p f) a) (and_right (p y) (list_all p g) b) c d cc in
    let i : x ≡ y = cc in
    cc

-- what a token begins with
abbrev pub class : {kernel : Kernel} {f r : List ℕ} → Spells kernel f r → ℕ → Bool
class (as_word w e d) = is_letter
class (as_name e n o) = is_letter
class (as_whole e n) = is_digit
class (as_decimal w p e d n m s) = is_digit
class (as_literal v e d c) = is_quote
class (as_mark e) = is_mark_byte

pub number_begins : (f : List ℕ) → IsNumber f → heads is_digit f ≡ true
number_begins [] n = absurd (n.some refl)
number_begins (b ∷ f) n = and_left (is_digit b) (list_all is_digit f) n.all

pub heads_append : (p : ℕ → Bool) (f r : List ℕ) → heads p f ≡ true → heads p (f ++ r) ≡ true
heads_append p [] r h = cc
heads_append p (b ∷ f) r h = h

pub class_begins : (kernel : Kernel) (f r : List ℕ) (s : Spells kernel f r) → heads (class s) f ≡ true
class_begins kernel f r (as_word w e d) = ap (heads is_letter) d ∙ word_begins w
class_begins kernel f r (as_name e n o) = n.begins
class_begins kernel f r (as_whole e n) = number_begins f n
class_begins kernel f r (as_decimal w p e d n m s) = ap (heads is_digit) d ∙ heads_append is_digit w (46 ∷ p) (number_begins w n)
class_begins kernel f r (as_literal v e d c) = ap (heads is_quote) d
class_begins kernel f r (as_mark e) = mark_begins kernel f e

pub flip : (p q : ℕ → Bool) → ((b : ℕ) → p b ≡ true → q b ≡ true → ⊥) → (b : ℕ) → q b ≡ true → p b ≡ true → ⊥
flip p q n b h i = n b i h

pub digit_no_letter : (b : ℕ) → is_digit b ≡ true → is_letter b ≡ true → ⊥
digit_no_letter b d l = grind (arith, nat_tests)

pub quote_no_letter : (b : ℕ) → is_quote b ≡ true → is_letter b ≡ true → ⊥
quote_no_letter b d l = grind (arith, nat_tests)

pub quote_no_digit : (b : ℕ) → is_quote b ≡ true → is_digit b ≡ true → ⊥
quote_no_digit b d l = grind (arith, nat_tests)

pub mark_no_letter : (b : ℕ) → is_mark_byte b ≡ true → is_letter b ≡ true → ⊥
mark_no_letter b d l = grind (arith, nat_tests)

pub mark_no_digit : (b : ℕ) → is_mark_byte b ≡ true → is_digit b ≡ true → ⊥
mark_no_digit b d l = grind (arith, nat_tests)

pub mark_no_quote : (b : ℕ) → is_mark_byte b ≡ true → is_quote b ≡ true → ⊥
mark_no_quote b d l = grind (arith, nat_tests)

pub apart : (p q : ℕ → Bool) → ((b : ℕ) → p b ≡ true → q b ≡ true → ⊥) → (s : List ℕ) → heads p s ≡ true → heads q s ≡ true → ⊥
apart p q n [] h i = cc
apart p q n (b ∷ s) h i = n b h i

-- a text begins with no token of another class
pub other_class : (p : ℕ → Bool) (kernel : Kernel) (text f r : List ℕ) (s : Spells kernel f r) → ((b : ℕ) → class s b ≡ true → p b ≡ true → ⊥) → heads p text ≡ true → text ≡ f ++ r → ⊥
other_class p kernel text f r s n h e = apart (class s) p n text (ap (heads (class s)) e ∙ heads_append (class s) f r (class_begins kernel f r s)) h

both_true : (a b c : Bool) → b ≡ true → c ≡ true → ((a || b) && c) ≡ true
both_true true b c h i = i
both_true false b c h i = ap (λ x. x && c) h ∙ i

or_true : (a b : Bool) → a ≡ true → (a || b) ≡ false → ⊥
or_true true b h i = cc
or_true false b h i = cc

letter_name : (b : ℕ) → is_letter b ≡ true → is_name_byte b ≡ false → ⊥
letter_name b h i = or_true (is_letter b) (is_digit b) h i

digits_name : (f : List ℕ) → list_all is_digit f ≡ true → list_all is_name_byte f ≡ true
digits_name [] h = refl
digits_name (b ∷ f) h =
    let i : is_digit b ≡ true = and_left (is_digit b) (list_all is_digit f) h in
    let j : list_all is_name_byte f ≡ true = digits_name f (and_right (is_digit b) (list_all is_digit f) h) in
    both_true (is_letter b) (is_digit b) (list_all is_name_byte f) i j

-- ---- names and words

pub name_longest : (f rest : List ℕ) → heads is_letter (f ++ rest) ≡ true → IsRun is_name_byte f rest → IsLongest f rest
name_longest f rest h run kernel g r e (as_word w d c) = run_longest is_name_byte f rest g r run.stops e (ap (list_all is_name_byte) c ∙ word_all w)
name_longest f rest h run kernel g r e (as_name d n o) = run_longest is_name_byte f rest g r run.stops e n.all
name_longest f rest h run kernel g r e (as_whole d n) = run_longest is_name_byte f rest g r run.stops e (digits_name g n.all)
name_longest f rest h run kernel g r e (as_decimal w p d c n m s) = absurd (other_class is_letter kernel (f ++ rest) g r (as_decimal w p d c n m s) digit_no_letter h e)
name_longest f rest h run kernel g r e (as_literal v d c b) = absurd (other_class is_letter kernel (f ++ rest) g r (as_literal v d c b) quote_no_letter h e)
name_longest f rest h run kernel g r e (as_mark d) = absurd (other_class is_letter kernel (f ++ rest) g r (as_mark d) mark_no_letter h e)

run_head : (f rest : List ℕ) → heads is_letter (f ++ rest) ≡ true → heads is_name_byte rest ≡ false → heads is_letter f ≡ true
run_head [] [] h i = h
run_head [] (b ∷ rest) h i = absurd (letter_name b h i)
run_head (b ∷ f) rest h i = h

pub is_name : (f rest : List ℕ) → heads is_letter (f ++ rest) ≡ true → IsRun is_name_byte f rest → IsName f
is_name f rest h run = record { begins = run_head f rest h run.stops; all = run.all }

-- ---- numbers

-- a point and a digit
abbrev pub IsPart : List ℕ → Type 0
IsPart rest = (part : List ℕ) (r : List ℕ) → rest ≡ 46 ∷ (part ++ r) → IsNumber part → ⊥

pub decimal_begins : (f rest g r w p : List ℕ) → IsRun is_digit f rest → f ++ rest ≡ g ++ r → g ≡ w ++ 46 ∷ p → IsNumber w → (f ≡ w) × (rest ≡ 46 ∷ (p ++ r))
decimal_begins f rest g r w p run e d n =
    let e2 : f ++ rest ≡ w ++ (46 ∷ (p ++ r)) = e ∙ ap (λ l. l ++ r) d ∙ append_assoc w (46 ∷ p) r in
    let i : f ≡ w = same_run is_digit f rest w (46 ∷ (p ++ r)) run.all n.all run.stops refl e2 in
    (i, append_cancel_left f _ _ (e2 ∙ ap (λ l. l ++ (46 ∷ (p ++ r))) (sym i)))

pub whole_longest : (f rest : List ℕ) → heads is_digit (f ++ rest) ≡ true → IsRun is_digit f rest → IsPart rest → IsLongest f rest
whole_longest f rest h run none kernel g r e (as_word w d c) = absurd (other_class is_digit kernel (f ++ rest) g r (as_word w d c) (flip is_digit is_letter digit_no_letter) h e)
whole_longest f rest h run none kernel g r e (as_name d n o) = absurd (other_class is_digit kernel (f ++ rest) g r (as_name d n o) (flip is_digit is_letter digit_no_letter) h e)
whole_longest f rest h run none kernel g r e (as_whole d n) = run_longest is_digit f rest g r run.stops e n.all
whole_longest f rest h run none kernel g r e (as_decimal w p d c n m s) = let q = decimal_begins f rest g r w p run e c n in absurd (none p r q.1 m)
whole_longest f rest h run none kernel g r e (as_literal v d c b) = absurd (other_class is_digit kernel (f ++ rest) g r (as_literal v d c b) quote_no_digit h e)
whole_longest f rest h run none kernel g r e (as_mark d) = absurd (other_class is_digit kernel (f ++ rest) g r (as_mark d) mark_no_digit h e)

decimal_case : (f part rest text : List ℕ) → text ≡ f ++ (46 ∷ (part ++ rest)) → heads is_digit text ≡ true → IsRun is_digit f (46 ∷ (part ++ rest)) → IsRun is_digit part rest
    → (kernel : Kernel) (g r : List ℕ) → text ≡ g ++ r → Spells kernel g r → length g ≤ length (f ++ (46 ∷ part))
decimal_case f part rest text t h run below kernel g r e (as_word w d c) = absurd (other_class is_digit kernel text g r (as_word w d c) (flip is_digit is_letter digit_no_letter) h e)
decimal_case f part rest text t h run below kernel g r e (as_name d n o) = absurd (other_class is_digit kernel text g r (as_name d n o) (flip is_digit is_letter digit_no_letter) h e)
decimal_case f part rest text t h run below kernel g r e (as_whole d n) =
    let i : length g ≤ length f = run_longest is_digit f (46 ∷ (part ++ rest)) g r refl (sym t ∙ e) n.all in
    omega (arith, length-append f (46 ∷ part))
decimal_case f part rest text t h run below kernel g r e (as_decimal w p d c n m s) =
    let o = decimal_begins f (46 ∷ (part ++ rest)) g r w p run (sym t ∙ e) c n in
    let q : part ++ rest ≡ p ++ r = cc o.1 in
    let i : length p ≤ length part = run_longest is_digit part rest p r below.stops q m.all in
    let j : length f ≡ length w = ap length o.0 in
    omega (arith, ap length c, length-append w (46 ∷ p), length-append f (46 ∷ part))
decimal_case f part rest text t h run below kernel g r e (as_literal v d c b) = absurd (other_class is_digit kernel text g r (as_literal v d c b) quote_no_digit h e)
decimal_case f part rest text t h run below kernel g r e (as_mark d) = absurd (other_class is_digit kernel text g r (as_mark d) mark_no_digit h e)

pub decimal_longest : (f part rest : List ℕ) → heads is_digit (f ++ (46 ∷ (part ++ rest))) ≡ true → IsRun is_digit f (46 ∷ (part ++ rest)) → IsRun is_digit part rest → IsLongest (f ++ (46 ∷ part)) rest
decimal_longest f part rest h run below kernel g r e s = decimal_case f part rest (f ++ (46 ∷ (part ++ rest))) refl h run below kernel g r (sym (append_assoc f (46 ∷ part) rest) ∙ e) s

-- ---- marks

pub mark_longest : (f rest text : List ℕ) → text ≡ f ++ rest → heads is_mark_byte text ≡ true → ((kernel : Kernel) (g r : List ℕ) → text ≡ g ++ r → mark kernel ≡ Some g → length g ≤ length f) → IsLongest f rest
mark_longest f rest text t h most kernel g r e (as_word w d c) = absurd (other_class is_mark_byte kernel text g r (as_word w d c) (flip is_mark_byte is_letter mark_no_letter) h (t ∙ e))
mark_longest f rest text t h most kernel g r e (as_name d n o) = absurd (other_class is_mark_byte kernel text g r (as_name d n o) (flip is_mark_byte is_letter mark_no_letter) h (t ∙ e))
mark_longest f rest text t h most kernel g r e (as_whole d n) = absurd (other_class is_mark_byte kernel text g r (as_whole d n) (flip is_mark_byte is_digit mark_no_digit) h (t ∙ e))
mark_longest f rest text t h most kernel g r e (as_decimal w p d c n m s) = absurd (other_class is_mark_byte kernel text g r (as_decimal w p d c n m s) (flip is_mark_byte is_digit mark_no_digit) h (t ∙ e))
mark_longest f rest text t h most kernel g r e (as_literal v d c b) = absurd (other_class is_mark_byte kernel text g r (as_literal v d c b) (flip is_mark_byte is_quote mark_no_quote) h (t ∙ e))
mark_longest f rest text t h most kernel g r e (as_mark d) = most kernel g r (t ∙ e) d

-- ---- literals

-- behind the first quote of a literal stands its inside
pub behind_quote : (m f r v : List ℕ) → 39 ∷ m ≡ f ++ r → f ≡ 39 ∷ (doubled v ++ 39 ∷ []) → heads is_quote r ≡ false → Inside m v r
behind_quote m f r v e d c =
    let i : 39 ∷ m ≡ 39 ∷ ((doubled v ++ 39 ∷ []) ++ r) = e ∙ ap (λ l. l ++ r) d in
    let j : m ≡ (doubled v ++ 39 ∷ []) ++ r = cc in
    record { cut = j ∙ append_assoc (doubled v) (39 ∷ []) r; closed = c }

pub literal_longest : (m f rest v : List ℕ) → 39 ∷ m ≡ f ++ rest → f ≡ 39 ∷ (doubled v ++ 39 ∷ []) → heads is_quote rest ≡ false → IsLongest f rest
literal_longest m f rest v t q b kernel g r e (as_word w d c) = absurd (other_class is_quote kernel (39 ∷ m) g r (as_word w d c) (flip is_quote is_letter quote_no_letter) refl (t ∙ e))
literal_longest m f rest v t q b kernel g r e (as_name d n o) = absurd (other_class is_quote kernel (39 ∷ m) g r (as_name d n o) (flip is_quote is_letter quote_no_letter) refl (t ∙ e))
literal_longest m f rest v t q b kernel g r e (as_whole d n) = absurd (other_class is_quote kernel (39 ∷ m) g r (as_whole d n) (flip is_quote is_digit quote_no_digit) refl (t ∙ e))
literal_longest m f rest v t q b kernel g r e (as_decimal w p d c n o s) = absurd (other_class is_quote kernel (39 ∷ m) g r (as_decimal w p d c n o s) (flip is_quote is_digit quote_no_digit) refl (t ∙ e))
literal_longest m f rest v t q b kernel g r e (as_literal u d c a) =
    let i = same_inside m v rest u r (behind_quote m f rest v t q b) (behind_quote m g r u (t ∙ e) c a) in
    let j : length g ≡ length f = ap length (c ∙ ap (λ x. 39 ∷ (doubled x ++ 39 ∷ [])) (sym i.0) ∙ sym q) in
    omega arith
literal_longest m f rest v t q b kernel g r e (as_mark d) = absurd (other_class is_quote kernel (39 ∷ m) g r (as_mark d) mark_no_quote refl (t ∙ e))

-- where a literal has no end, no token is in front
pub open_none : (m : List ℕ) → ((value rest : List ℕ) → Inside m value rest → ⊥) → HasNone (39 ∷ m)
open_none m none kernel g r e (as_word w d c) = other_class is_quote kernel (39 ∷ m) g r (as_word w d c) (flip is_quote is_letter quote_no_letter) refl e
open_none m none kernel g r e (as_name d n o) = other_class is_quote kernel (39 ∷ m) g r (as_name d n o) (flip is_quote is_letter quote_no_letter) refl e
open_none m none kernel g r e (as_whole d n) = other_class is_quote kernel (39 ∷ m) g r (as_whole d n) (flip is_quote is_digit quote_no_digit) refl e
open_none m none kernel g r e (as_decimal w p d c n o s) = other_class is_quote kernel (39 ∷ m) g r (as_decimal w p d c n o s) (flip is_quote is_digit quote_no_digit) refl e
open_none m none kernel g r e (as_literal u d c a) = none u r (behind_quote m g r u e c a)
open_none m none kernel g r e (as_mark d) = other_class is_quote kernel (39 ∷ m) g r (as_mark d) mark_no_quote refl e

-- ---- no token

stands : (p : ℕ → Bool) (text f r : List ℕ) → text ≡ f ++ r → heads p f ≡ true → heads p text ≡ false → ⊥
stands p text f r e h i = clash (heads p text) (ap (heads p) e ∙ heads_append p f r h) i

pub no_token : (text : List ℕ) → heads is_letter text ≡ false → heads is_digit text ≡ false → heads is_quote text ≡ false → heads is_mark_byte text ≡ false → HasNone text
no_token text a b q m kernel f r e (as_word w d c) = stands is_letter text f r e (class_begins kernel f r (as_word w d c)) a
no_token text a b q m kernel f r e (as_name d n o) = stands is_letter text f r e (class_begins kernel f r (as_name d n o)) a
no_token text a b q m kernel f r e (as_whole d n) = stands is_digit text f r e (class_begins kernel f r (as_whole d n)) b
no_token text a b q m kernel f r e (as_decimal w p d c n o s) = stands is_digit text f r e (class_begins kernel f r (as_decimal w p d c n o s)) b
no_token text a b q m kernel f r e (as_literal v d c s) = stands is_quote text f r e (class_begins kernel f r (as_literal v d c s)) q
no_token text a b q m kernel f r e (as_mark d) = stands is_mark_byte text f r e (class_begins kernel f r (as_mark d)) m
