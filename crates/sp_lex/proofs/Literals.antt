-- Literals with doubled quotes.
use Rattle.std.proofs.Common.{suc, ◌≡◌, ◌≢◌, ◌<◌, ℕ, get_or, length, Bool, true, false, List, [], ◌∷◌, ◌++◌, cond, ◌⊎◌, inl, inr, refl, sym, ◌∙◌, ap, subst, arith, append_assoc, append-nil}
use Rattle.std.proofs.lemmas.Bool.Decides.{nat_tests}
use Rattle.sp_lex.specs.Spelling.{heads, is_quote, doubled}
use Rattle.sp_lex.specs.Reading.{Inside}

clash : (b : Bool) → b ≡ true → b ≡ false → ⊥
clash b h i = cc

-- Read so far: whatever the rest is inside of a literal, the text is, with what was read in front.
pub record Within (text sofar rest : List ℕ) : Type 0 where
  pub leads : (value behind : List ℕ) → Inside rest value behind → Inside text (sofar ++ value) behind
  pub only : (whole behind : List ℕ) → Inside text whole behind → (value : List ℕ) × (whole ≡ sofar ++ value) × Inside rest value behind

pub starts : (text : List ℕ) → Within text [] text
starts text = record { leads = λ v b i. i; only = λ w b i. (w, refl, i) }

double_at : (b : ℕ) (v : List ℕ) → is_quote b ≡ true → doubled (b ∷ v) ≡ 39 ∷ 39 ∷ doubled v
double_at b v h = ap (λ x. cond x (39 ∷ 39 ∷ doubled v) (b ∷ doubled v)) h

pub plain_at : (b : ℕ) (v : List ℕ) → is_quote b ≡ false → doubled (b ∷ v) ≡ b ∷ doubled v
plain_at b v h = ap (λ x. cond x (39 ∷ 39 ∷ doubled v) (b ∷ doubled v)) h

-- which way the first byte of a value goes
either_way : (x : Bool) → (x ≡ true) ⊎ (x ≡ false)
either_way true = inl refl
either_way false = inr refl

is_39 : (b : ℕ) → is_quote b ≡ true → b ≡ 39
is_39 b h = grind (arith, nat_tests)

-- inside at two quotes
quote_inside : (m value behind : List ℕ) → Inside (39 ∷ 39 ∷ m) value behind → (v : List ℕ) × (value ≡ 39 ∷ v) × Inside m v behind
quote_inside m [] behind i = absurd (let e : 39 ∷ m ≡ behind = cc i.cut in clash (heads is_quote behind) (sym (ap (heads is_quote) e)) i.closed)
quote_inside m (b ∷ v) behind i = elim (either_way (is_quote b)) [
  | inl h ↦ (let e : 39 ∷ 39 ∷ m ≡ 39 ∷ 39 ∷ (doubled v ++ 39 ∷ behind) = i.cut ∙ ap (λ l. l ++ 39 ∷ behind) (double_at b v h) in
      let d : m ≡ doubled v ++ 39 ∷ behind = cc in
      (v, (λ k. is_39 b h k ∷ v), record { cut = d; closed = i.closed }))
  | inr h ↦ (let e : 39 ∷ 39 ∷ m ≡ b ∷ (doubled v ++ 39 ∷ behind) = i.cut ∙ ap (λ l. l ++ 39 ∷ behind) (plain_at b v h) in
      let d : 39 ≡ b = cc in
      absurd (clash (is_quote b) (sym (ap is_quote d)) h))
]

end_inside : (m value behind : List ℕ) → heads is_quote m ≡ false → Inside (39 ∷ m) value behind → (value ≡ []) × (behind ≡ m)
end_inside m [] behind out i = (refl, cc i.cut)
end_inside m (b ∷ v) behind out i = elim (either_way (is_quote b)) [
  | inl h ↦ (let e : 39 ∷ m ≡ 39 ∷ 39 ∷ (doubled v ++ 39 ∷ behind) = i.cut ∙ ap (λ l. l ++ 39 ∷ behind) (double_at b v h) in
      let d : m ≡ 39 ∷ (doubled v ++ 39 ∷ behind) = cc in
      absurd (clash (heads is_quote m) (ap (heads is_quote) d) out))
  | inr h ↦ (let e : 39 ∷ m ≡ b ∷ (doubled v ++ 39 ∷ behind) = i.cut ∙ ap (λ l. l ++ 39 ∷ behind) (plain_at b v h) in
      let d : 39 ≡ b = cc in
      absurd (clash (is_quote b) (sym (ap is_quote d)) h))
]

byte_inside : (c : ℕ) (m value behind : List ℕ) → is_quote c ≡ false → Inside (c ∷ m) value behind → (v : List ℕ) × (value ≡ c ∷ v) × Inside m v behind
byte_inside c m [] behind out i = absurd (let e : c ≡ 39 = cc i.cut in clash (is_quote c) (ap is_quote e) out)
byte_inside c m (b ∷ v) behind out i = elim (either_way (is_quote b)) [
  | inl h ↦ (let e : c ∷ m ≡ 39 ∷ 39 ∷ (doubled v ++ 39 ∷ behind) = i.cut ∙ ap (λ l. l ++ 39 ∷ behind) (double_at b v h) in
      let d : c ≡ 39 = cc in
      absurd (clash (is_quote c) (ap is_quote d) out))
  | inr h ↦ (let e : c ∷ m ≡ b ∷ (doubled v ++ 39 ∷ behind) = i.cut ∙ ap (λ l. l ++ 39 ∷ behind) (plain_at b v h) in
      let d : m ≡ doubled v ++ 39 ∷ behind = cc in
      let f : c ≡ b = cc in
      (v, (λ k. sym f k ∷ v), record { cut = d; closed = i.closed }))
]

-- what is inside of a literal, and what is behind it, is one
pub same_inside : (text v r w q : List ℕ) → Inside text v r → Inside text w q → (v ≡ w) × (r ≡ q)
same_inside text [] r w q a b =
    let e = end_inside r w q a.closed (subst (λ l. Inside l w q) a.cut b) in
    (sym e.0, sym e.1)
same_inside text (b ∷ v) r w q x y = elim (either_way (is_quote b)) [
  | inl h ↦ (let e : text ≡ 39 ∷ 39 ∷ (doubled v ++ 39 ∷ r) = x.cut ∙ ap (λ l. l ++ 39 ∷ r) (double_at b v h) in
      let i = quote_inside (doubled v ++ 39 ∷ r) w q (subst (λ l. Inside l w q) e y) in
      let j = same_inside (doubled v ++ 39 ∷ r) v r i.0 q (record { cut = refl; closed = x.closed }) i.2 in
      ((λ n. is_39 b h n ∷ j.0 n) ∙ sym i.1, j.1))
  | inr h ↦ (let e : text ≡ b ∷ (doubled v ++ 39 ∷ r) = x.cut ∙ ap (λ l. l ++ 39 ∷ r) (plain_at b v h) in
      let i = byte_inside b (doubled v ++ 39 ∷ r) w q h (subst (λ l. Inside l w q) e y) in
      let j = same_inside (doubled v ++ 39 ∷ r) v r i.0 q (record { cut = refl; closed = x.closed }) i.2 in
      ((λ n. b ∷ j.0 n) ∙ sym i.1, j.1))
]

-- ---- as the code asks

pub quote_on : (text sofar rest m : List ℕ) → Within text sofar rest → rest ≡ 39 ∷ 39 ∷ m → Within text (sofar ++ 39 ∷ []) m
quote_on text sofar rest m w e = record {
  leads = λ v b i. subst (λ l. Inside text l b) (sym (append_assoc sofar (39 ∷ []) v)) (w.leads (39 ∷ v) b (record { cut = e ∙ ap (λ l. 39 ∷ 39 ∷ l) i.cut; closed = i.closed }));
  only = λ whole b i.
      let p = w.only whole b i in
      let q = quote_inside m p.0 b (subst (λ l. Inside l p.0 b) e p.2) in
      (q.0, p.1 ∙ ap (λ l. sofar ++ l) q.1 ∙ sym (append_assoc sofar (39 ∷ []) q.0), q.2);
}

pub byte_on : (text sofar rest m : List ℕ) (c : ℕ) → Within text sofar rest → rest ≡ c ∷ m → is_quote c ≡ false → Within text (sofar ++ c ∷ []) m
byte_on text sofar rest m c w e out = record {
  leads = λ v b i. subst (λ l. Inside text l b) (sym (append_assoc sofar (c ∷ []) v)) (w.leads (c ∷ v) b (record { cut = e ∙ ap (λ l. c ∷ l) i.cut ∙ sym (ap (λ l. l ++ 39 ∷ b) (plain_at c v out)); closed = i.closed }));
  only = λ whole b i.
      let p = w.only whole b i in
      let q = byte_inside c m p.0 b out (subst (λ l. Inside l p.0 b) e p.2) in
      (q.0, p.1 ∙ ap (λ l. sofar ++ l) q.1 ∙ sym (append_assoc sofar (c ∷ []) q.0), q.2);
}

pub closes : (text sofar rest m : List ℕ) → Within text sofar rest → rest ≡ 39 ∷ m → heads is_quote m ≡ false → Inside text sofar m
closes text sofar rest m w e out = subst (λ l. Inside text l m) (append-nil sofar) (w.leads [] m (record { cut = e; closed = out }))

-- ---- whole pieces without a quote

-- no byte of these is a quote
abbrev pub HasNoQuote : List ℕ → Type 0
HasNoQuote bytes = (i : ℕ) → i < length bytes → get_or bytes i 0 ≢ 39

pub first_plain : (b : ℕ) (bytes : List ℕ) → HasNoQuote (b ∷ bytes) → is_quote b ≡ false
first_plain b bytes h = let i : b ≢ 39 = h 0 (omega arith) in grind (arith, nat_tests)

pub more_plain : (b : ℕ) (bytes : List ℕ) → HasNoQuote (b ∷ bytes) → HasNoQuote bytes
more_plain b bytes h i l = h (suc i) (omega arith)

plain_on : (text sofar piece m : List ℕ) → HasNoQuote piece → Within text sofar (piece ++ m) → Within text (sofar ++ piece) m
plain_on text sofar [] m h w = subst (λ l. Within text l m) (sym (append-nil sofar)) w
plain_on text sofar (b ∷ piece) m h w =
    let x : Within text (sofar ++ b ∷ []) (piece ++ m) = byte_on text sofar (b ∷ (piece ++ m)) (piece ++ m) b w refl (first_plain b piece h) in
    subst (λ l. Within text l m) (append_assoc sofar (b ∷ []) piece) (plain_on text (sofar ++ b ∷ []) piece m (more_plain b piece h) x)

-- a piece, and then a doubled quote
pub piece_on : (text sofar rest piece behind m : List ℕ) → Within text sofar rest → rest ≡ piece ++ 39 ∷ behind → HasNoQuote piece → behind ≡ 39 ∷ m → Within text ((sofar ++ piece) ++ 39 ∷ []) m
piece_on text sofar rest piece behind m w e h d = quote_on text (sofar ++ piece) (39 ∷ behind) m (plain_on text sofar piece (39 ∷ behind) h (subst (λ l. Within text sofar l) e w)) (ap (λ l. 39 ∷ l) d)

no_quote_heads : (behind : List ℕ) → ((m : List ℕ) → behind ≢ 39 ∷ m) → heads is_quote behind ≡ false
no_quote_heads [] h = refl
no_quote_heads (b ∷ behind) h = let i : b ≢ 39 = λ e. h behind (λ j. e j ∷ behind) in grind (arith, nat_tests)

-- a piece, and then the end
pub piece_closes : (text sofar rest piece behind : List ℕ) → Within text sofar rest → rest ≡ piece ++ 39 ∷ behind → HasNoQuote piece → ((m : List ℕ) → behind ≢ 39 ∷ m) → Inside text (sofar ++ piece) behind
piece_closes text sofar rest piece behind w e h d = closes text (sofar ++ piece) (39 ∷ behind) behind (plain_on text sofar piece (39 ∷ behind) h (subst (λ l. Within text sofar l) e w)) refl (no_quote_heads behind d)

quote_place : (front rest : List ℕ) → HasNoQuote (front ++ 39 ∷ rest) → ⊥
quote_place [] rest h = h 0 (omega arith) refl
quote_place (b ∷ front) rest h = quote_place front rest (more_plain b (front ++ 39 ∷ rest) h)

-- without a quote there is no end
pub never_closes : (text sofar rest : List ℕ) → Within text sofar rest → HasNoQuote rest → (value behind : List ℕ) → Inside text value behind → ⊥
never_closes text sofar rest w h value behind i =
    let p = w.only value behind i in
    quote_place (doubled p.0) behind (subst (λ l. HasNoQuote l) p.2.cut h)
