-- How phrases are read from their parts.
use Rattle.std.proofs.Common.{◌≡◌, ℕ, zero, suc, ◌≤◌, Bool, true, false, ◌||◌, List, [], ◌∷◌, ◌++◌, Option, Some, None, is_some, Result, Ok, Err, IsErrAnd, Bor, inl, inr, refl, sym, ◌∙◌, ap, subst, arith, append_assoc, length, length-append, ◌<◌}
use Rattle.std.proofs.lemmas.Result.{err_from_is_err_and}
use Rattle.std.proofs.lemmas.List.{append_cancel_left}
use Rattle.sp_lex.specs.declared.token.Token.{Token}
use Rattle.sp_parse.specs.declared.stop.Stop.{Stop}
use Rattle.sp_parse.specs.declared.stop.Stop.TheVariants as stop
use Rattle.sp_query.specs.Phrase.{One, Both, Either, left, right, Built, Optional}
use Rattle.sp_parse.specs.Reads.{Deeper, heads, look, never, reads_as, among, Found, Fault, wrong, deep, Within, Opens, Stuck, Stops, Answers, TakesNone, head_as, PassesOn}

pub look_more : (s f m next : List Token) → s ≡ f ++ m → (n : List Token) × (look s n ≡ f ++ look m next)
look_more s [] m next e = (next, ap (λ l. look l next) e)
look_more s (t ∷ f) m next e = (f ++ look m next, ap (λ l. look l (f ++ look m next)) e)

pub heads_never : (s : List Token) → heads never s ≡ false
heads_never [] = refl
heads_never (t ∷ s) = refl

one_same : {A : Type 0} (f : Token → Option A) (t t' : Token) (w u v : List Token) (a b : A) → f t ≡ Some a → f t' ≡ Some b → u ≡ t' ∷ [] → t ∷ w ≡ u ++ v → (u ≡ t ∷ []) × (b ≡ a)
one_same f t t' w u v a b e d p q =
    let r : t ∷ w ≡ t' ∷ v = q ∙ ap (λ l. l ++ v) p in
    let s : t ≡ t' = cc in
    (cc, cc)

pub one_found : {A : Type 0} (f : Token → Option A) (room : ℕ) (t : Token) (ts : List Token) (a : A) → f t ≡ Some a → Found (λ _. One f) never room (t ∷ ts) a ts
one_found f room t ts a e = record {
  front = t ∷ [];
  cut = refl;
  derives = λ n h. record { token = t; alone = refl; is = e };
  only = λ n next u v b p h q. one_same f t p.token (look ts next) u v a b e p.is p.alone q;
}

-- ---- a token that opens a level

pub opens_map : {A B : Type 0} (f : Fault) (L : List Token → A → Type 0) (M : List Token → B → Type 0) (front front' rest : List Token)
    → ((z : List Token) (a : A) → L (front ++ z) a → (b : B) × M (front' ++ z) b) → Opens f L front rest → Opens f M front' rest
opens_map wrong L M front front' rest g o = tt
opens_map deep L M front front' rest g o = let p = g (look rest o.0) o.1 o.3 in (o.0, p.0, o.2, p.1)

pub opens_after : {A B : Type 0} (f : Fault) (L : List Token → A → Type 0) (M : List Token → B → Type 0) (front front' rest y : List Token)
    → ((z : List Token) (a : A) → L (front ++ z) a → (b : B) × M (front' ++ (z ++ y)) b) → Opens f L front rest → Opens f M front' rest
opens_after wrong L M front front' rest y g o = tt
opens_after deep L M front front' [] y g o = absurd cc
opens_after deep L M front front' (t ∷ rest) y g o = let p = g (t ∷ o.0) o.1 o.3 in (o.0 ++ y, p.0, o.2, p.1)

-- ---- one phrase and another

module _ {A B : Type 0} (L : ℕ → List Token → A → Type 0) (M : ℕ → List Token → B → Type 0) (C D : Token → Bool) (room : ℕ)
    (apart : (n : ℕ) (y v : List Token) (b : B) → M n y b → heads D v ≡ false → heads C (y ++ v) ≡ false) where
  pub both_found : (s m r : List Token) (a : A) (b : B) → Found L C room s a m → Found M D room m b r → Found (λ n. Both (L n) (M n)) D room s (a, b) r
  both_found s m r a b x y = record {
    front = x.front ++ y.front;
    cut = x.cut ∙ ap (λ l. x.front ++ l) y.cut ∙ sym (append_assoc x.front y.front r);
    derives = λ n h. record { front = x.front; back = y.front; cut = refl; left = x.derives n h; right = y.derives n h };
    only = λ n next u v p q h e.
        let k = look_more m y.front r next y.cut in
        let d : x.front ++ look m k.0 ≡ q.front ++ (q.back ++ v) =
        ap (λ l. x.front ++ l) k.1 ∙ sym (append_assoc x.front y.front (look r next)) ∙ e ∙ ap (λ l. l ++ v) q.cut ∙ append_assoc q.front q.back v in
        let i = x.only n k.0 q.front (q.back ++ v) p.0 q.left (apart n q.back v p.1 q.right h) d in
        let d2 : x.front ++ (y.front ++ look r next) ≡ x.front ++ (q.back ++ v) =
        ap (λ l. x.front ++ l) (sym k.1) ∙ d ∙ ap (λ l. l ++ (q.back ++ v)) i.0 in
        let j = y.only n next q.back v p.1 q.right h (append_cancel_left x.front _ _ d2) in
        (q.cut ∙ (λ t. i.0 t ++ j.0 t), λ t. (i.1 t, j.1 t));
  }

  pub both_stuck_right : (s m r : List Token) (a : A) (f : Fault) → Found L C room s a m → Stuck M D room m f r → Stuck (λ n. Both (L n) (M n)) D room s f r
  both_stuck_right s m r a f x y = record {
    front = x.front ++ y.front;
    cut = x.cut ∙ ap (λ l. x.front ++ l) y.cut ∙ sym (append_assoc x.front y.front r);
    more = y.more;
    value = (a, y.value);
    begins = record { front = x.front; back = y.front ++ y.more; cut = append_assoc x.front y.front y.more; left = x.derives room (omega arith); right = y.begins };
    opens = opens_map f (M (suc room)) (Both (L (suc room)) (M (suc room))) y.front (x.front ++ y.front) r
        (λ z b d. ((a, b), record { front = x.front; back = y.front ++ z; cut = append_assoc x.front y.front z; left = x.derives (suc room) (omega arith); right = d })) y.opens;
    none = λ n next u v p w q h e.
        let k = look_more m y.front r next y.cut in
        let d : x.front ++ look m k.0 ≡ q.front ++ (q.back ++ v) =
        ap (λ l. x.front ++ l) k.1 ∙ sym (append_assoc x.front y.front (look r next)) ∙ e ∙ ap (λ l. l ++ v) q.cut ∙ append_assoc q.front q.back v in
        let i = x.only n k.0 q.front (q.back ++ v) p.0 q.left (apart n q.back v p.1 q.right h) d in
        let d2 : x.front ++ (y.front ++ look r next) ≡ x.front ++ (q.back ++ v) =
        ap (λ l. x.front ++ l) (sym k.1) ∙ d ∙ ap (λ l. l ++ (q.back ++ v)) i.0 in
        y.none n next q.back v p.1 w q.right h (append_cancel_left x.front _ _ d2);
  }

  pub both_stuck_left : (s r : List Token) (f : Fault) → ((n : ℕ) → (y : List Token) × (b : B) × M n y b) → Stuck L C room s f r → Stuck (λ n. Both (L n) (M n)) D room s f r
  both_stuck_left s r f some x = record {
    front = x.front;
    cut = x.cut;
    more = x.more ++ (some room).0;
    value = (x.value, (some room).1);
    begins = record { front = x.front ++ x.more; back = (some room).0; cut = sym (append_assoc x.front x.more (some room).0); left = x.begins; right = (some room).2 };
    opens = opens_after f (L (suc room)) (Both (L (suc room)) (M (suc room))) x.front x.front r (some (suc room)).0
        (λ z a d. ((a, (some (suc room)).1), record { front = x.front ++ z; back = (some (suc room)).0; cut = sym (append_assoc x.front z (some (suc room)).0); left = d; right = (some (suc room)).2 })) x.opens;
    none = λ n next u v p w q h e.
        x.none n next q.front (q.back ++ v) p.0 w q.left (apart n q.back v p.1 q.right h) (e ∙ ap (λ l. l ++ v) q.cut ∙ append_assoc q.front q.back v);
  }

-- ---- a value made of another

module _ {A B : Type 0} (g : List Token → A → B) (L : ℕ → List Token → A → Type 0) (C : Token → Bool) (room : ℕ) where
  pub built_found : (s r : List Token) (a : A) → (x : Found L C room s a r) → Found (λ n. Built g (L n)) C room s (g x.front a) r
  built_found s r a x = record {
    front = x.front;
    cut = x.cut;
    derives = λ n h. record { of = a; is = refl; phrase = x.derives n h };
    only = λ n next u v b q h e.
        let i = x.only n next u v q.of q.phrase h e in
        (i.0, q.is ∙ λ t. g (i.0 t) (i.1 t));
  }

  pub built_stuck : (s r : List Token) (f : Fault) → Stuck L C room s f r → Stuck (λ n. Built g (L n)) C room s f r
  built_stuck s r f x = record {
    front = x.front;
    cut = x.cut;
    more = x.more;
    value = g (x.front ++ x.more) x.value;
    begins = record { of = x.value; is = refl; phrase = x.begins };
    opens = opens_map f (L (suc room)) (Built g (L (suc room))) x.front x.front r (λ z a d. (g (x.front ++ z) a, record { of = a; is = refl; phrase = d })) x.opens;
    none = λ n next u v b w q h e. x.none n next u v q.of w q.phrase h e;
  }

-- ---- one phrase or another

pub look_heads : (F : Token → Bool) (s next : List Token) → heads F s ≡ false → heads F (look s next) ≡ true → ⊥
look_heads F [] next h i = cc
look_heads F (t ∷ s) next h i = cc

pub look_stops : (F : Token → Bool) (s next : List Token) → heads F s ≡ true → heads F (look s next) ≡ false → ⊥
look_stops F [] next h i = cc
look_stops F (t ∷ s) next h i = cc

or_left : (a b : Bool) → (a || b) ≡ false → a ≡ false
or_left true b h = cc
or_left false b h = refl

or_right : (a b : Bool) → (a || b) ≡ false → b ≡ false
or_right true b h = cc
or_right false b h = h

or_true : (a b : Bool) → b ≡ true → (a || b) ≡ true
or_true true b h = refl
or_true false b h = h

pub or_false : (a b : Bool) → a ≡ false → b ≡ false → (a || b) ≡ false
or_false true b h i = cc
or_false false b h i = i

-- each such phrase begins with one of these tokens
abbrev pub Begins : {A : Type 0} → (Token → Bool) → (ℕ → List Token → A → Type 0) → Type 0
Begins {A} F L = (n : ℕ) (u : List Token) (a : A) → L n u a → heads F u ≡ true

pub heads_append : (F : Token → Bool) (u v : List Token) → heads F u ≡ true → heads F (u ++ v) ≡ true
heads_append F [] v h = absurd cc
heads_append F (t ∷ u) v h = h

-- what begins with another token than these isn't such a phrase
pub excluded : (F : Token → Bool) (s f m next u v : List Token) → s ≡ f ++ m → heads F s ≡ false → heads F u ≡ true → f ++ look m next ≡ u ++ v → ⊥
excluded F s f m next u v c h b e =
    let k = look_more s f m next c in
    let i : heads F (look s k.0) ≡ true = ap (heads F) (k.1 ∙ e) ∙ heads_append F u v b in
    look_heads F s k.0 h i

module _ {A : Type 0} (L M : ℕ → List Token → A → Type 0) (C F : Token → Bool) (room : ℕ) where
  pub left_found : (s r : List Token) (a : A) → Begins F M → heads F s ≡ false → Found L C room s a r → Found (λ n. Either (L n) (M n)) C room s a r
  left_found s r a begins out x = record {
    front = x.front;
    cut = x.cut;
    derives = λ n h. left (x.derives n h);
    only = λ n next u v b q h e. elim q [
      | left d ↦ x.only n next u v b d h e
      | right d ↦ absurd (excluded F s x.front r next u v x.cut out (begins n u b d) e)
    ];
  }

  pub right_found : (s r : List Token) (a : A) → Begins F L → heads F s ≡ false → Found M C room s a r → Found (λ n. Either (L n) (M n)) C room s a r
  right_found s r a begins out x = record {
    front = x.front;
    cut = x.cut;
    derives = λ n h. right (x.derives n h);
    only = λ n next u v b q h e. elim q [
      | right d ↦ x.only n next u v b d h e
      | left d ↦ absurd (excluded F s x.front r next u v x.cut out (begins n u b d) e)
    ];
  }

  pub left_stuck : (s r : List Token) (f : Fault) → Begins F M → heads F s ≡ false → Stuck L C room s f r → Stuck (λ n. Either (L n) (M n)) C room s f r
  left_stuck s r f begins out x = record {
    front = x.front;
    cut = x.cut;
    more = x.more;
    value = x.value;
    begins = left x.begins;
    opens = opens_map f (L (suc room)) (Either (L (suc room)) (M (suc room))) x.front x.front r (λ z a d. (a, left d)) x.opens;
    none = λ n next u v b w q h e. elim q [
      | left d ↦ x.none n next u v b w d h e
      | right d ↦ excluded F s x.front r next u v x.cut out (begins n u b d) e
    ];
  }

  pub right_stuck : (s r : List Token) (f : Fault) → Begins F L → heads F s ≡ false → Stuck M C room s f r → Stuck (λ n. Either (L n) (M n)) C room s f r
  right_stuck s r f begins out x = record {
    front = x.front;
    cut = x.cut;
    more = x.more;
    value = x.value;
    begins = right x.begins;
    opens = opens_map f (M (suc room)) (Either (L (suc room)) (M (suc room))) x.front x.front r (λ z a d. (a, right d)) x.opens;
    none = λ n next u v b w q h e. elim q [
      | right d ↦ x.none n next u v b w d h e
      | left d ↦ excluded F s x.front r next u v x.cut out (begins n u b d) e
    ];
  }

-- where no such phrase begins
pub none_begins : {A : Type 0} (L : ℕ → List Token → A → Type 0) (C F : Token → Bool) (room : ℕ) (s : List Token)
    → ((n : ℕ) → (y : List Token) × (a : A) × L n y a) → Begins F L → heads F s ≡ false → Stuck L C room s wrong s
none_begins L C F room s some begins out = record {
  front = [];
  cut = refl;
  more = (some room).0;
  value = (some room).1;
  begins = (some room).2;
  opens = tt;
  none = λ n next u v b w q h e. excluded F s [] s next u v refl out (begins n u b q) e;
}

-- ---- which tokens may go on

pub among_left : (C D : Token → Bool) (v : List Token) → heads (among C D) v ≡ false → heads C v ≡ false
among_left C D [] h = refl
among_left C D (t ∷ v) h = or_left (C t) (D t) h

pub among_right : (C D : Token → Bool) (v : List Token) → heads (among C D) v ≡ false → heads D v ≡ false
among_right C D [] h = refl
among_right C D (t ∷ v) h = or_right (C t) (D t) h

pub found_within : {A : Type 0} (L : ℕ → List Token → A → Type 0) (C D : Token → Bool) (room : ℕ) (s r : List Token) (a : A)
    → ((v : List Token) → heads D v ≡ false → heads C v ≡ false) → Found L C room s a r → Found L D room s a r
found_within L C D room s r a w x = record {
  front = x.front;
  cut = x.cut;
  derives = x.derives;
  only = λ n next u v b q h e. x.only n next u v b q (w v h) e;
}

pub stuck_within : {A : Type 0} (L : ℕ → List Token → A → Type 0) (C D : Token → Bool) (room : ℕ) (s r : List Token) (f : Fault)
    → ((v : List Token) → heads D v ≡ false → heads C v ≡ false) → Stuck L C room s f r → Stuck L D room s f r
stuck_within L C D room s r f w x = record {
  front = x.front;
  cut = x.cut;
  more = x.more;
  value = x.value;
  begins = x.begins;
  opens = x.opens;
  none = λ n next u v b i q h e. x.none n next u v b i q (w v h) e;
}

-- ---- a phrase or nothing

module _ {A : Type 0} (L : ℕ → List Token → A → Type 0) (C F : Token → Bool) (room : ℕ) where
  only_some : (s r : List Token) (a : A) → heads F s ≡ true → (x : Found L C room s a r) → (n : ℕ) (next u v : List Token) (b : Option A) → Optional (L n) u b
      → heads (among F C) v ≡ false → x.front ++ look r next ≡ u ++ v → (u ≡ x.front) × (b ≡ Some a)
  only_some s r a is x n next u v None q h e =
      let k = look_more s x.front r next x.cut in
      let i : v ≡ look s k.0 = sym (k.1 ∙ e ∙ ap (λ l. l ++ v) q) in
      absurd (look_stops F s k.0 is (ap (heads F) (sym i) ∙ among_left F C v h))
  only_some s r a is x n next u v (Some b) q h e =
      let i = x.only n next u v b q (among_right F C v h) e in
      (i.0, ap Some i.1)

  pub optional_found : (s r : List Token) (a : A) → heads F s ≡ true → Found L C room s a r → Found (λ n. Optional (L n)) (among F C) room s (Some a) r
  optional_found s r a is x = record {
    front = x.front;
    cut = x.cut;
    derives = λ n h. x.derives n h;
    only = λ n next u v b q h e. only_some s r a is x n next u v b q h e;
  }

  only_none : (s : List Token) → Begins F L → heads F s ≡ false → (n : ℕ) (next u v : List Token) (b : Option A) → Optional (L n) u b
      → look s next ≡ u ++ v → (u ≡ []) × (b ≡ None)
  only_none s begins out n next u v None q e = (q, refl)
  only_none s begins out n next u v (Some b) q e = absurd (excluded F s [] s next u v refl out (begins n u b q) e)

  pub optional_none : (D : Token → Bool) (s : List Token) → Begins F L → heads F s ≡ false → Found (λ n. Optional (L n)) D room s None s
  optional_none D s begins out = record {
    front = [];
    cut = refl;
    derives = λ n h. refl;
    only = λ n next u v b q h e. only_none s begins out n next u v b q e;
  }

  none_some : (s r : List Token) (f : Fault) → heads F s ≡ true → (x : Stuck L C room s f r) → (n : ℕ) (next u v : List Token) (b : Option A) → Within f room n → Optional (L n) u b
      → heads (among F C) v ≡ false → x.front ++ look r next ≡ u ++ v → ⊥
  none_some s r f is x n next u v None w q h e =
      let k = look_more s x.front r next x.cut in
      let i : v ≡ look s k.0 = sym (k.1 ∙ e ∙ ap (λ l. l ++ v) q) in
      look_stops F s k.0 is (ap (heads F) (sym i) ∙ among_left F C v h)
  none_some s r f is x n next u v (Some b) w q h e = x.none n next u v b w q (among_right F C v h) e

  pub optional_stuck : (s r : List Token) (f : Fault) → heads F s ≡ true → Stuck L C room s f r → Stuck (λ n. Optional (L n)) (among F C) room s f r
  optional_stuck s r f is x = record {
    front = x.front;
    cut = x.cut;
    more = x.more;
    value = Some x.value;
    begins = x.begins;
    opens = opens_map f (L (suc room)) (Optional (L (suc room))) x.front x.front r (λ z a d. (Some a, d)) x.opens;
    none = λ n next u v b w q h e. none_some s r f is x n next u v b w q h e;
  }

-- ---- the same phrases under another name

pub found_as : {A : Type 0} (L M : ℕ → List Token → A → Type 0) (C : Token → Bool) (room : ℕ) (s r : List Token) (a : A)
    → ((n : ℕ) (u : List Token) (b : A) → L n u b → M n u b) → ((n : ℕ) (u : List Token) (b : A) → M n u b → L n u b)
    → Found L C room s a r → Found M C room s a r
found_as L M C room s r a to from x = record {
  front = x.front;
  cut = x.cut;
  derives = λ n h. to n x.front a (x.derives n h);
  only = λ n next u v b q h e. x.only n next u v b (from n u b q) h e;
}

pub stuck_as : {A : Type 0} (L M : ℕ → List Token → A → Type 0) (C : Token → Bool) (room : ℕ) (s r : List Token) (f : Fault)
    → ((n : ℕ) (u : List Token) (b : A) → L n u b → M n u b) → ((n : ℕ) (u : List Token) (b : A) → M n u b → L n u b)
    → Stuck L C room s f r → Stuck M C room s f r
stuck_as L M C room s r f to from x = record {
  front = x.front;
  cut = x.cut;
  more = x.more;
  value = x.value;
  begins = to room _ _ x.begins;
  opens = opens_map f (L (suc room)) (M (suc room)) x.front x.front r (λ z b d. (b, to (suc room) _ _ d)) x.opens;
  none = λ n next u v b w q h e. x.none n next u v b w (from n u b q) h e;
}

-- ---- one level deeper

module _ {A : Type 0} (L : ℕ → List Token → A → Type 0) (C : Token → Bool) (room : ℕ) where
  climbs : (n : ℕ) {s r : List Token} {a : A} → suc room ≤ n → (x : Found L C room s a r) → Deeper L n x.front a
  climbs zero h x = absurd (omega arith)
  climbs (suc n) h x = record { below = n; is = refl; phrase = x.derives n (omega arith) }

  within : (f : Fault) (n m : ℕ) → Within f (suc room) n → n ≡ suc m → Within f room m
  within wrong n m w e = tt
  within deep n m w e = omega arith

  pub deeper_found : (s r : List Token) (a : A) → Found L C room s a r → Found (Deeper L) C (suc room) s a r
  deeper_found s r a x = record {
    front = x.front;
    cut = x.cut;
    derives = λ n h. climbs n h x;
    only = λ n next u v b q h e. x.only q.below next u v b q.phrase h e;
  }

  pub deeper_stuck : (s r : List Token) (f : Fault) → Stuck L C room s f r → Stuck (Deeper L) C (suc room) s f r
  deeper_stuck s r f x = record {
    front = x.front;
    cut = x.cut;
    more = x.more;
    value = x.value;
    begins = record { below = room; is = refl; phrase = x.begins };
    opens = opens_map f (L (suc room)) (Deeper L (suc (suc room))) x.front x.front r (λ z b d. (b, record { below = suc room; is = refl; phrase = d })) x.opens;
    none = λ n next u v b w q h e. x.none q.below next u v b (within f n q.below w q.is) q.phrase h e;
  }

not_deeper : (n m : ℕ) → n ≡ 0 → n ≡ suc m → ⊥
not_deeper n m w e = omega arith

-- where no level more may be opened
pub full : {A : Type 0} (B L : ℕ → List Token → A → Type 0) (C F : Token → Bool) (s : List Token) (b : A) (y next : List Token) (a : A) → B 0 y b → heads (λ _. true) s ≡ true → L 0 (look s next) a
    → Begins F B → heads F s ≡ false → Stuck (λ n. Either (B n) (Deeper L n)) C 0 s deep s
full B L C F s b y next a i j d begins out = record {
  front = [];
  cut = refl;
  more = y;
  value = b;
  begins = left i;
  opens = (next, a, j, right (record { below = 0; is = refl; phrase = d }));
  none = λ n next u v b w q h e. elim q [
    | left d ↦ excluded F s [] s next u v refl out (begins n u b d) e
    | right d ↦ not_deeper n d.below w d.is
  ];
}

-- ---- which tokens phrases begin with

pub one_begins : {A : Type 0} (f : Token → Option A) → Begins (reads_as f) (λ _. One f)
one_begins f n u a d = ap (heads (reads_as f)) d.alone ∙ ap (λ x. is_some x) d.is

pub both_begins : {A B : Type 0} (F : Token → Bool) (L : ℕ → List Token → A → Type 0) (M : ℕ → List Token → B → Type 0) → Begins F L → Begins F (λ n. Both (L n) (M n))
both_begins F L M b n u a d = ap (heads F) d.cut ∙ heads_append F d.front d.back (b n d.front a.0 d.left)

pub built_begins : {A B : Type 0} (g : List Token → A → B) (F : Token → Bool) (L : ℕ → List Token → A → Type 0) → Begins F L → Begins F (λ n. Built g (L n))
built_begins g F L b n u a d = b n u d.of d.phrase

pub among_first : (F G : Token → Bool) (u : List Token) → heads F u ≡ true → heads (among F G) u ≡ true
among_first F G [] h = absurd cc
among_first F G (t ∷ u) h = ap (λ x. x || G t) h

pub among_second : (F G : Token → Bool) (u : List Token) → heads G u ≡ true → heads (among F G) u ≡ true
among_second F G [] h = absurd cc
among_second F G (t ∷ u) h = or_true (F t) (G t) h

pub among_neither : (F G : Token → Bool) (u : List Token) → heads F u ≡ false → heads G u ≡ false → heads (among F G) u ≡ false
among_neither F G [] h i = refl
among_neither F G (t ∷ u) h i = or_false (F t) (G t) h i

pub either_begins : {A : Type 0} (F G : Token → Bool) (L M : ℕ → List Token → A → Type 0) → Begins F L → Begins G M → Begins (among F G) (λ n. Either (L n) (M n))
either_begins F G L M b c n u a (left d) = among_first F G u (b n u a d)
either_begins F G L M b c n u a (right d) = among_second F G u (c n u a d)

pub deeper_begins : {A : Type 0} (F : Token → Bool) (L : ℕ → List Token → A → Type 0) → Begins F L → Begins F (Deeper L)
deeper_begins F L b n u a d = b d.below u a d.phrase

-- ---- what a function answers

pub stops_as : {A B : Type 0} (L : ℕ → List Token → A → Type 0) (M : ℕ → List Token → B → Type 0) (C D : Token → Bool) (n k : ℕ) (s t : List Token) (e : Stop)
    → ((f : Fault) (r : List Token) → Stuck L C n s f r → Stuck M D k t f r) → Stops L C n s e → Stops M D k t e
stops_as L M C D n k s t stop.Memory g h = tt
stops_as L M C D n k s t (stop.Unexpected count) g h = (h.0, h.1, g wrong h.0 h.2)
stops_as L M C D n k s t (stop.TooDeep count) g h = (h.0, h.1, g deep h.0 h.2)

pub answers_as : {Y A : Type 0} (L M : ℕ → List Token → A → Type 0) (C D : Token → Bool) (n k : ℕ) (s t : List Token) (view : Y → A × List Token) (y : Result Y Stop)
    → ((r : List Token) (a : A) → Found L C n s a r → Found M D k t a r) → ((f : Fault) (r : List Token) → Stuck L C n s f r → Stuck M D k t f r)
    → Answers L C n s view y → Answers M D k t view y
answers_as L M C D n k s t view (Ok y) f g h = f (view y).1 (view y).0 h
answers_as L M C D n k s t view (Err e) f g h = stops_as L M C D n k s t e g h

pub head_none : {A : Type 0} (f : Token → Option A) (s : List Token) → head_as f s ≡ None → heads (reads_as f) s ≡ false
head_none f [] h = refl
head_none f (t ∷ s) h = ap (λ x. is_some x) h

pub head_test : {A : Type 0} (f : Token → Option A) (s : List Token) → heads (reads_as f) s ≡ is_some (head_as f s)
head_test f [] = refl
head_test f (t ∷ s) = refl

pub head_some : {A : Type 0} (f : Token → Option A) (s : List Token) (a : A) → head_as f s ≡ Some a → (t : Token) × (m : List Token) × (s ≡ t ∷ m) × (f t ≡ Some a)
head_some f [] a h = absurd cc
head_some f (t ∷ s) a h = (t, s, refl, h)

-- ---- values

pub found_value : {A : Type 0} (L : ℕ → List Token → A → Type 0) (C : Token → Bool) (room : ℕ) (s r : List Token) (a b : A) → b ≡ a → Found L C room s a r → Found L C room s b r
found_value L C room s r a b e x = subst (λ y. Found L C room s y r) (sym e) x

-- a value that is what any front would give
pub built_as : {A B : Type 0} (g : List Token → A → B) (L : ℕ → List Token → A → Type 0) (C : Token → Bool) (room : ℕ) (s r : List Token) (a : A) (b : B)
    → ((front : List Token) → s ≡ front ++ r → b ≡ g front a) → Found L C room s a r → Found (λ n. Built g (L n)) C room s b r
built_as g L C room s r a b e x = found_value (λ n. Built g (L n)) C room s r (g x.front a) b (e x.front x.cut) (built_found g L C room s r a x)

shorter : (F : Token → Bool) (f r s : List Token) → heads F f ≡ true → s ≡ f ++ r → length r < length s
shorter F [] r s h e = absurd cc
shorter F (t ∷ f) r s h e = omega (arith, ap length e, length-append f r)

-- a phrase has tokens
pub found_shorter : {A : Type 0} (L : ℕ → List Token → A → Type 0) (C F : Token → Bool) (room : ℕ) (s r : List Token) (a : A) → Begins F L → Found L C room s a r → length r < length s
found_shorter L C F room s r a b x =
    let h : heads F x.front ≡ true = b room x.front a (x.derives room (omega arith)) in
    shorter F x.front r s h x.cut

-- the exit of a `?`
pub exit : {Y A : Type 0} (M : ℕ → List Token → A → Type 0) (D : Token → Bool) (k : ℕ) (t : List Token) (view : Y → A × List Token) (y : Result Y Stop) (e : Stop)
    → IsErrAnd y (λ z. z ≡ e) → Stops M D k t e → Answers M D k t view y
exit M D k t view y e h g =
    let p = err_from_is_err_and y h in
    subst (λ r. Answers M D k t view r) (sym p.1) (subst (λ x. Stops M D k t x) (sym p.2) g)

pub exit_memory : {Y A : Type 0} (M : ℕ → List Token → A → Type 0) (D : Token → Bool) (k : ℕ) (t : List Token) (view : Y → A × List Token) (y : Result Y Stop)
    → IsErrAnd y (λ z. z ≡ stop.Memory) → Answers M D k t view y
exit_memory M D k t view y h = exit M D k t view y stop.Memory h tt

pub taken_found : {A : Type 0} (f : Token → Option A) (n : ℕ) (s r : List Token) (a : A) → (t : Token) × (s ≡ t ∷ r) × (f t ≡ Some a) → Found (λ _. One f) never n s a r
taken_found f n s r a h = subst (λ l. Found (λ _. One f) never n l a r) (sym h.1) (one_found f n h.0 r a h.2)

pub untaken_stops : {A : Type 0} (f : Token → Option A) (sample : Token) (b : A) → f sample ≡ Some b → (n : ℕ) (s : List Token) (e : Stop) → TakesNone f s e → Stops (λ _. One f) never n s e
untaken_stops f sample b d n s stop.Memory h = tt
untaken_stops f sample b d n s (stop.Unexpected count) h =
    (s, sym h.1, none_begins (λ _. One f) never (reads_as f) n s (λ n. (sample ∷ [], b, record { token = sample; alone = refl; is = d })) (one_begins f) (head_none f s h.0))
untaken_stops f sample b d n s (stop.TooDeep count) h = absurd h

pub shorter_still : (s m r : List Token) (t : Token) → s ≡ t ∷ m → length r < length m → length r < length s
shorter_still s m r t e h = omega (arith, ap length e)

pub shorter_after : (s m r : List Token) (t : Token) (f : List Token) → s ≡ t ∷ m → m ≡ f ++ r → length r < length s
shorter_after s m r t f e d = omega (arith, ap length e, ap length d, length-append f r)

unit_in : (o : Option (Unit {0})) → is_some o ≡ true → o ≡ Some tt
unit_in None h = cc
unit_in (Some x) h = refl

pub unit_of : (f : Token → Option (Unit {0})) (t : Token) → is_some (f t) ≡ true → f t ≡ Some tt
unit_of f t h = unit_in (f t) h

pub look_self : (s : List Token) → (n : List Token) × (look s n ≡ s)
look_self [] = ([], refl)
look_self (t ∷ s) = (s, refl)

-- what was read, where it is known to have been
pub read_found : {A : Type 0} (M : ℕ → List Token → A → Type 0) (D : Token → Bool) (k : ℕ) (t : List Token) (read : Result (A × Bor (List Token)) Stop) (a : A) (rest : Bor (List Token))
    → Answers M D k t (λ p. (p.0, p.1.now)) read → read ≡ Ok (a, rest) → Found M D k t a rest.now
read_found M D k t read a rest h e = subst (λ r. Answers M D k t (λ p. (p.0, p.1.now)) r) e h

-- why nothing was read, where that is passed on
pub read_stops : {A : Type 0} (M : ℕ → List Token → A → Type 0) (D : Token → Bool) (k : ℕ) (t : List Token) (read : Result (A × Bor (List Token)) Stop) (x : Stop)
    → Answers M D k t (λ p. (p.0, p.1.now)) read → PassesOn read x → Stops M D k t x
read_stops M D k t read x h e = elim e as (λ _. Stops M D k t x) [ inl m ↦ subst (λ y. Stops M D k t y) (sym m) tt | inr i ↦ subst (λ r. Answers M D k t (λ p. (p.0, p.1.now)) r) i h ]
