-- Texts that grow piece by piece.
use Rattle.std.proofs.Common.{◌≡◌, ℕ, ◌≤◌, List, [], ◌∷◌, ◌++◌, length, get_or, take, drop, ◌-◌, codes, Result, Ok, Err, OnOk, refl, sym, ◌∙◌, ap, arith, append_assoc, append-nil}
use Rattle.std.proofs.lemmas.List.{take_all}
use Rattle.sp_lex.specs.Spelling.{doubled}
use Rattle.sp_lex.proofs.Literals.{HasNoQuote, plain_at, first_plain, more_plain}
use Rattle.sp_syntax.specs.Printing.{Adds}

pub on_ok : {A E : Type 0} (r : Result A E) (P Q : Type 0) → (P → Q) → OnOk r P → OnOk r Q
on_ok (Ok a) P Q f h = f h
on_ok (Err e) P Q f h = h

pub adds_map : (old new : List ℕ) (P Q : List ℕ → Type 0) → ((x : List ℕ) → P x → Q x) → Adds old new P → Adds old new Q
adds_map old new P Q f a = record { added = a.added; is = a.is; so = f a.added a.so }

pub adds_text : (old new x : List ℕ) (P : List ℕ → Type 0) → new ≡ old ++ x → P x → Adds old new P
adds_text old new x P e p = record { added = x; is = e; so = p }

-- a text in front
pub adds_behind : (old mid new x : List ℕ) (P R : List ℕ → Type 0) → mid ≡ old ++ x → Adds mid new P → ((y : List ℕ) → P y → R (x ++ y)) → Adds old new R
adds_behind old mid new x P R e a f = record { added = x ++ a.added; is = a.is ∙ ap (λ l. l ++ a.added) e ∙ append_assoc old x a.added; so = f a.added a.so }

-- a text behind
pub adds_before : (old mid new z : List ℕ) (P R : List ℕ → Type 0) → Adds old mid P → new ≡ mid ++ z → ((y : List ℕ) → P y → R (y ++ z)) → Adds old new R
adds_before old mid new z P R a e f = record { added = a.added ++ z; is = e ∙ ap (λ l. l ++ z) a.is ∙ append_assoc old a.added z; so = f a.added a.so }

-- one piece, and then another
pub adds_both : (old mid new : List ℕ) (P Q R : List ℕ → Type 0) → Adds old mid P → Adds mid new Q → ((x y : List ℕ) → P x → Q y → R (x ++ y)) → Adds old new R
adds_both old mid new P Q R a b f = record { added = a.added ++ b.added; is = b.is ∙ ap (λ l. l ++ b.added) a.is ∙ append_assoc old a.added b.added; so = f a.added b.added a.so b.so }

-- a piece between two texts
pub adds_between : (old a b new x z : List ℕ) (P R : List ℕ → Type 0) → a ≡ old ++ x → Adds a b P → new ≡ b ++ z → ((y : List ℕ) → P y → R (x ++ (y ++ z))) → Adds old new R
adds_between old a b new x z P R e d i f = adds_behind old a new x (λ y. R (x ++ y)) R e (adds_before a b new z P (λ y. R (x ++ y)) d i f) (λ y h. h)

-- two pieces with a text between them
pub adds_infix : (old a b new x : List ℕ) (P Q R : List ℕ → Type 0) → Adds old a P → b ≡ a ++ x → Adds b new Q → ((y z : List ℕ) → P y → Q z → R (y ++ (x ++ z))) → Adds old new R
adds_infix old a b new x P Q R d e g f = adds_both old a new P (λ z. (y : List ℕ) → P y → R (y ++ z)) R d (adds_behind a b new x Q (λ z. (y : List ℕ) → P y → R (y ++ z)) e g (λ z q y p. f y z p q)) (λ y z p q. q y p)

pub adds_nothing : (old : List ℕ) (P : List ℕ → Type 0) → P [] → Adds old old P
adds_nothing old P p = record { added = []; is = sym (append-nil old); so = p }

-- two texts
pub adds_texts : (old mid new x y : List ℕ) (P : List ℕ → Type 0) → mid ≡ old ++ x → new ≡ mid ++ y → P (x ++ y) → Adds old new P
adds_texts old mid new x y P e d p = record { added = x ++ y; is = d ∙ ap (λ l. l ++ y) e ∙ append_assoc old x y; so = p }

-- ---- quotes

doubled_on : (piece rest : List ℕ) → HasNoQuote piece → doubled (piece ++ rest) ≡ piece ++ doubled rest
doubled_on [] rest h = refl
doubled_on (b ∷ piece) rest h = plain_at b (piece ++ rest) (first_plain b piece h) ∙ ap (λ l. b ∷ l) (doubled_on piece rest (more_plain b piece h))

-- a piece without a quote, and a doubled quote
pub piece_doubled : (start out rest piece behind out1 out2 : List ℕ) → out ++ doubled rest ≡ start → rest ≡ piece ++ 39 ∷ behind → HasNoQuote piece → out1 ≡ out ++ piece → out2 ≡ out1 ++ codes "''" → out2 ++ doubled behind ≡ start
piece_doubled start out rest piece behind out1 out2 e cut h a b =
    ap (λ l. l ++ doubled behind) (b ∙ ap (λ l. l ++ codes "''") a) ∙ append_assoc (out ++ piece) (codes "''") (doubled behind) ∙ append_assoc out piece (39 ∷ 39 ∷ doubled behind)
    ∙ ap (λ l. out ++ l) (sym (doubled_on piece (39 ∷ behind) h)) ∙ ap (λ l. out ++ doubled l) (sym cut) ∙ e

pub last_doubled : (old out rest text out1 out2 : List ℕ) → out ++ doubled rest ≡ old ++ (39 ∷ doubled text) → HasNoQuote rest → out1 ≡ out ++ rest → out2 ≡ out1 ++ codes "' " → out2 ≡ old ++ (39 ∷ (doubled text ++ 39 ∷ 32 ∷ []))
last_doubled old out rest text out1 out2 e h a b =
    b ∙ ap (λ l. l ++ codes "' ") (a ∙ ap (λ l. out ++ l) (sym (ap doubled (sym (append-nil rest)) ∙ doubled_on rest [] h ∙ append-nil rest)) ∙ e) ∙ append_assoc old (39 ∷ doubled text) (codes "' ")

-- ---- slices

pub first_and_rest : {A : Type 0} (xs : List A) (a : A) → 1 ≤ length xs → a ≡ get_or xs 0 a → xs ≡ a ∷ take (length xs - 1) (drop 1 xs)
first_and_rest [] a h e = absurd (omega arith)
first_and_rest (x ∷ xs) a h e = (λ i. sym e i ∷ sym (take_all (length (x ∷ xs) - 1) xs (omega arith)) i)
