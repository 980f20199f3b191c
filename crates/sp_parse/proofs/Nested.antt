-- Forms that several productions share: a mark before a phrase, a phrase between two marks, and a phrase that holds itself one level deeper.
use Rattle.std.proofs.Common.{◌≡◌, ◌≢◌, ◌++◌, ◌-◌, ℕ, suc, Bool, true, false, List, [], ◌∷◌, length, is_some, Result, refl, sym, ◌∙◌, ap, subst, arith}
use Rattle.sp_lex.specs.declared.token.Token.{Token}
use Rattle.sp_query.specs.declared.mark.Mark.{Mark}
use Rattle.sp_parse.specs.declared.stop.Stop.{Stop}
use Rattle.sp_query.specs.Phrase.{One, Both, Either, Built}
use Rattle.sp_parse.specs.Reads.{Deeper, heads, look, never, reads_as, Found, Fault, deep, Stuck, Stops, Answers, TakesNone}
use Rattle.sp_query.specs.Grammar.{kernel, mark}
use Rattle.sp_parse.proofs.Reading as r
use Rattle.sp_parse.proofs.Reading.{Begins}
use Rattle.sp_parse.proofs.Marks.{sample, mark_kernel, mark_sample, mark_stops, one_found, IsOne}

-- some tokens are such a phrase, whatever the room
abbrev pub Some_of : {A : Type 0} → (ℕ → List Token → A → Type 0) → Type 0
Some_of {A} L = (n : ℕ) → (y : List Token) × (b : A) × L n y b

apart_mark : {A : Type 0} (L : ℕ → List Token → A → Type 0) (C : Token → Bool) (n : ℕ) (y v : List Token) (b : A) → L n y b → heads C v ≡ false → heads never (y ++ v) ≡ false
apart_mark L C n y v b d h = r.heads_never (y ++ v)

-- ---- a mark, and then a phrase

module _ {A B : Type 0} (mark_ : Mark) (L : ℕ → List Token → A → Type 0) (C : Token → Bool) (some : Some_of L) (g : List Token → Unit {0} × A → B) where
  pub prefix_begins : Begins (reads_as (kernel (mark mark_))) (λ n. Built g (Both (One (kernel (mark mark_))) (L n)))
  prefix_begins = r.built_begins g (reads_as (kernel (mark mark_))) (λ n. Both (One (kernel (mark mark_))) (L n)) (r.both_begins (reads_as (kernel (mark mark_))) (λ _. One (kernel (mark mark_))) L (r.one_begins (kernel (mark mark_))))

  module _ (room : ℕ) (s : List Token) where
    pub prefix_stops : (e : Stop) → TakesNone (kernel (mark mark_)) s e → Stops (λ n. Built g (Both (One (kernel (mark mark_))) (L n))) C room s e
    prefix_stops e h = r.stops_as (λ _. One (kernel (mark mark_))) (λ n. Built g (Both (One (kernel (mark mark_))) (L n))) never C room room s s e
        (λ f rest x. r.built_stuck g (λ n. Both (One (kernel (mark mark_))) (L n)) C room s rest f (r.both_stuck_left (λ _. One (kernel (mark mark_))) L never C room (apart_mark L C) s rest f some x))
        (mark_stops mark_ room s e h)

    pub prefix_stops_later : (m_ : List Token) (e : Stop) → IsOne (mark mark_) s tt m_ → Stops L C room m_ e → Stops (λ n. Built g (Both (One (kernel (mark mark_))) (L n))) C room s e
    prefix_stops_later m_ e i h = r.stops_as L (λ n. Built g (Both (One (kernel (mark mark_))) (L n))) C C room room m_ s e
        (λ f rest x. r.built_stuck g (λ n. Both (One (kernel (mark mark_))) (L n)) C room s rest f (r.both_stuck_right (λ _. One (kernel (mark mark_))) L never C room (apart_mark L C) s m_ rest tt f (one_found (mark mark_) room s m_ tt i) x))
        h

    pub prefix_found : (m_ rest : List Token) (a : A) (b : B) → IsOne (mark mark_) s tt m_ → Found L C room m_ a rest → ((front : List Token) → s ≡ front ++ rest → b ≡ g front (tt, a))
        → Found (λ n. Built g (Both (One (kernel (mark mark_))) (L n))) C room s b rest
    prefix_found m_ rest a b i x e = r.built_as g (λ n. Both (One (kernel (mark mark_))) (L n)) C room s rest (tt, a) b e
        (r.both_found (λ _. One (kernel (mark mark_))) L never C room (apart_mark L C) s m_ rest tt a (one_found (mark mark_) room s m_ tt i) x)

-- ---- a phrase, and then a mark

module _ {A : Type 0} (mark_ : Mark) (L : ℕ → List Token → A → Type 0) (C : Token → Bool) (some : Some_of L)
    (out : (x : Token) → is_some (mark mark_ x.kernel) ≡ true → C x ≡ false) where
  abbrev pub Closed : ℕ → List Token → A × Unit {0} → Type 0
  Closed = λ n. Both (L n) (One (kernel (mark mark_)))

  out_apart : (n : ℕ) (y v : List Token) (b : Unit {0}) → One (kernel (mark mark_)) y b → heads never v ≡ false → heads C (y ++ v) ≡ false
  out_apart n y v b d h = ap (λ l. heads C (l ++ v)) d.alone ∙ out d.token (ap (λ x. is_some x) d.is)

  pub some_closed : Some_of (λ n. Both (L n) (One (kernel (mark mark_))))
  some_closed n = (
    (some n).0 ++ sample (mark_kernel mark_) ∷ [],
    ((some n).1, tt),
    record { front = (some n).0; back = sample (mark_kernel mark_) ∷ []; cut = refl; left = (some n).2; right = record { token = sample (mark_kernel mark_); alone = refl; is = mark_sample mark_ } },
  )

  pub closed_stuck_left : (room : ℕ) (s rest : List Token) (f : Fault) → Stuck L C room s f rest → Stuck (λ n. Both (L n) (One (kernel (mark mark_)))) never room s f rest
  closed_stuck_left room s rest f x = r.both_stuck_left L (λ _. One (kernel (mark mark_))) C never room out_apart s rest f
      (λ n. (sample (mark_kernel mark_) ∷ [], tt, record { token = sample (mark_kernel mark_); alone = refl; is = mark_sample mark_ })) x

  pub closed_stuck_right : (room : ℕ) (s after rest : List Token) (a : A) (f : Fault) → Found L C room s a after → Stuck (λ _. One (kernel (mark mark_))) never room after f rest → Stuck (λ n. Both (L n) (One (kernel (mark mark_)))) never room s f rest
  closed_stuck_right room s after rest a f x y = r.both_stuck_right L (λ _. One (kernel (mark mark_))) C never room out_apart s after rest a f x y

  pub closed_found : (room : ℕ) (s after rest : List Token) (a : A) → Found L C room s a after → IsOne (mark mark_) after tt rest → Found (λ n. Both (L n) (One (kernel (mark mark_)))) never room s (a, tt) rest
  closed_found room s after rest a x i = r.both_found L (λ _. One (kernel (mark mark_))) C never room out_apart s after rest a tt x (one_found (mark mark_) room after rest tt i)

-- ---- a phrase that holds itself one level deeper

module _ {A Y : Type 0} (X B Inner : ℕ → List Token → A → Type 0) (C F G : Token → Bool)
    (to : (n : ℕ) (u : List Token) (a : A) → Either (B n) (Deeper Inner n) u a → X n u a) (from : (n : ℕ) (u : List Token) (a : A) → X n u a → Either (B n) (Deeper Inner n) u a)
    (base : Begins F B) (inner : Begins G Inner) (s : List Token) (view : Y → A × List Token) (y : Result Y Stop) where
  pub nested_inner : (room : ℕ) → heads F s ≡ false → room ≢ 0 → Answers Inner C (room - 1) s view y → Answers X C room s view y
  nested_inner room out h a =
      let e : suc (room - 1) ≡ room = omega arith in
      subst (λ z. Answers X C z s view y) e
      (r.answers_as Inner X C C (room - 1) (suc (room - 1)) s s view y
      (λ rest b x. r.found_as (λ n. Either (B n) (Deeper Inner n)) X C (suc (room - 1)) s rest b to from
      (r.right_found B (Deeper Inner) C F (suc (room - 1)) s rest b base out (r.deeper_found Inner C (room - 1) s rest b x)))
      (λ f rest x. r.stuck_as (λ n. Either (B n) (Deeper Inner n)) X C (suc (room - 1)) s rest f to from
      (r.right_stuck B (Deeper Inner) C F (suc (room - 1)) s rest f base out (r.deeper_stuck Inner C (room - 1) s rest f x)))
      a)

  pub nested_base : (room : ℕ) → heads G s ≡ false → Answers B C room s view y → Answers X C room s view y
  nested_base room out a = r.answers_as B X C C room room s s view y
      (λ rest b x. r.found_as (λ n. Either (B n) (Deeper Inner n)) X C room s rest b to from (r.left_found B (Deeper Inner) C G room s rest b (r.deeper_begins G Inner inner) out x))
      (λ f rest x. r.stuck_as (λ n. Either (B n) (Deeper Inner n)) X C room s rest f to from (r.left_stuck B (Deeper Inner) C G room s rest f (r.deeper_begins G Inner inner) out x))
      a

module _ {A : Type 0} (X B Inner : ℕ → List Token → A → Type 0) (C F : Token → Bool)
    (to : (n : ℕ) (u : List Token) (a : A) → Either (B n) (Deeper Inner n) u a → X n u a) (from : (n : ℕ) (u : List Token) (a : A) → X n u a → Either (B n) (Deeper Inner n) u a)
    (base : Begins F B) (some : Some_of B) (s : List Token) where
  pub nested_full : (room : ℕ) → room ≡ 0 → heads F s ≡ false → (next : List Token) (a : A) → heads (λ _. true) s ≡ true → Inner 0 (look s next) a
      → (x : List Token) × (length x ≡ length s) × Stuck X C room s deep x
  nested_full room e out next a j d = (
    s,
    refl,
    subst (λ z. Stuck X C z s deep s) (sym e)
        (r.stuck_as (λ n. Either (B n) (Deeper Inner n)) X C 0 s s deep to from (r.full B Inner C F s (some 0).1 (some 0).0 next a (some 0).2 j d base out)),
  )
