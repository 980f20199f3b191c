-- The forms of productions, each once: one token, a mark and then a phrase, a phrase between two marks, two phrases, a choice, and lists.
use Rattle.std.proofs.Common.{◌≡◌, ◌<◌, ◌++◌, ℕ, Bool, true, false, List, [], ◌∷◌, length, Option, Some, None, is_some, Result, Ok, Err, Bor, inl, inr, refl, sym, ◌∙◌, ap, subst, append-nil}
use Rattle.sp_lex.specs.declared.token.Token.{Token}
use Rattle.sp_lex.specs.declared.token.Kernel.{Kernel}
use Rattle.sp_query.specs.declared.mark.Mark.{Mark}
use Rattle.sp_query.specs.declared.mark.Mark.TheVariants as m
use Rattle.sp_parse.specs.declared.stop.Stop.{Stop}
use Rattle.sp_query.specs.Phrase.{One, Both, Either, left, Built, ends}
use Rattle.sp_query.specs.Grammar.{kernel, mark, After, Between, Alone, ListOf, MoreOf}
use Rattle.sp_parse.specs.Reads.{heads, never, reads_as, among, head_as, Found, Stops, Answers, Takes, TakesNone, Closes}
use Rattle.sp_parse.proofs.Reading as r
use Rattle.sp_parse.proofs.Reading.{Begins}
use Rattle.sp_parse.proofs.Repeats as e
use Rattle.sp_parse.proofs.Repeats.{Underway}
use Rattle.sp_parse.proofs.Nested as d
use Rattle.sp_parse.proofs.Nested.{Some_of}
use Rattle.sp_parse.proofs.Marks.{sample, mark_kernel, mark_sample, mark_stops, one_found, IsOne}

-- ---- one token

-- what a function answers that reads one token, said of the phrase of that token
pub takes_answers : {Y A : Type 0} (f : Kernel → Option A) (kernel_ : Kernel) (a : A) → f kernel_ ≡ Some a → (room : ℕ) (s : List Token) (view : Y → A × List Token) (y : Result Y Stop)
    → Takes (kernel f) s view y → Answers (λ _. One (kernel f)) never room s view y
takes_answers f kernel_ a is room s view (Ok y) h = one_found f room s (view y).1 (view y).0 h
takes_answers f kernel_ a is room s view (Err x) h = r.untaken_stops (kernel f) (sample kernel_) a is room s x h

-- ---- a value made of another

module _ {A B : Type 0} (g : List Token → A → B) (L : ℕ → List Token → A → Type 0) where
  pub built_some : Some_of L → Some_of (λ n. Built g (L n))
  built_some x n = ((x n).0, g (x n).0 (x n).1, record { of = (x n).1; is = refl; phrase = (x n).2 })

  pub built_stops : (C : Token → Bool) (room : ℕ) (s : List Token) (x : Stop) → Stops L C room s x → Stops (λ n. Built g (L n)) C room s x
  built_stops C room s x h = r.stops_as L (λ n. Built g (L n)) C C room room s s x (λ f rest y. r.built_stuck g L C room s rest f y) h

-- ---- more tokens may go on

module _ {A : Type 0} (L : ℕ → List Token → A → Type 0) (C D : Token → Bool) (within : (v : List Token) → heads D v ≡ false → heads C v ≡ false) (room : ℕ) (s : List Token) where
  pub within_stops : (x : Stop) → Stops L C room s x → Stops L D room s x
  within_stops x h = r.stops_as L L C D room room s s x (λ f rest y. r.stuck_within L C D room s rest f within y) h

  pub within_answers : {Y : Type 0} (view : Y → A × List Token) (y : Result Y Stop) → Answers L C room s view y → Answers L D room s view y
  within_answers view y h = r.answers_as L L C D room room s s view y (λ rest a x. r.found_within L C D room s rest a within x) (λ f rest x. r.stuck_within L C D room s rest f within x) h

-- ---- one phrase and another, where nothing goes on with the first

module _ {A B : Type 0} (L : ℕ → List Token → A → Type 0) (M : ℕ → List Token → B → Type 0) where
  pub pair_some : Some_of L → Some_of M → Some_of (λ n. Both (L n) (M n))
  pair_some x y n = ((x n).0 ++ (y n).0, ((x n).1, (y n).1), record { front = (x n).0; back = (y n).0; cut = refl; left = (x n).2; right = (y n).2 })

  module _ (D : Token → Bool) where
    pair_apart : (n : ℕ) (y v : List Token) (b : B) → M n y b → heads D v ≡ false → heads never (y ++ v) ≡ false
    pair_apart n y v b d h = r.heads_never (y ++ v)

    module _ (room : ℕ) (s : List Token) where
      pub pair_first_stops : Some_of M → (x : Stop) → Stops L never room s x → Stops (λ n. Both (L n) (M n)) D room s x
      pair_first_stops some x h = r.stops_as L (λ n. Both (L n) (M n)) never D room room s s x (λ f rest y. r.both_stuck_left L M never D room pair_apart s rest f some y) h

      pub pair_second_stops : (m_ : List Token) (a : A) (x : Stop) → Found L never room s a m_ → Stops M D room m_ x → Stops (λ n. Both (L n) (M n)) D room s x
      pair_second_stops m_ a x i h = r.stops_as M (λ n. Both (L n) (M n)) D D room room m_ s x (λ f rest y. r.both_stuck_right L M never D room pair_apart s m_ rest a f i y) h

      pub pair_found : (m_ rest : List Token) (a : A) (b : B) → Found L never room s a m_ → Found M D room m_ b rest → Found (λ n. Both (L n) (M n)) D room s (a, b) rest
      pair_found m_ rest a b i h = r.both_found L M never D room pair_apart s m_ rest a b i h

-- ---- a mark, and then a phrase

module _ {A : Type 0} (which : Mark) (L : ℕ → List Token → A → Type 0) (C : Token → Bool) (some : Some_of L) where
  pub after_begins : Begins (reads_as (kernel (mark which))) (λ n. After which (L n))
  after_begins = d.prefix_begins which L C some (λ tokens p. p.1)

  pub after_some : Some_of (λ n. After which (L n))
  after_some n = (
    sample (mark_kernel which) ∷ (some n).0,
    (some n).1,
    record {
      of = (tt, (some n).1);
      is = refl;
      phrase = record { front = sample (mark_kernel which) ∷ []; back = (some n).0; cut = refl; left = record { token = sample (mark_kernel which); alone = refl; is = mark_sample which }; right = (some n).2 };
    },
  )

  module _ (room : ℕ) (s : List Token) where
    -- the mark isn't there
    pub after_mark_stops : (x : Stop) → TakesNone (kernel (mark which)) s x → Stops (λ n. After which (L n)) C room s x
    after_mark_stops x h = d.prefix_stops which L C some (λ tokens p. p.1) room s x h

    -- the phrase behind it isn't
    pub after_stops : (m_ : List Token) (x : Stop) → IsOne (mark which) s tt m_ → Stops L C room m_ x → Stops (λ n. After which (L n)) C room s x
    after_stops m_ x i h = d.prefix_stops_later which L C some (λ tokens p. p.1) room s m_ x i h

    pub after_found : (m_ rest : List Token) (a : A) → IsOne (mark which) s tt m_ → Found L C room m_ a rest → Found (λ n. After which (L n)) C room s a rest
    after_found m_ rest a i h = d.prefix_found which L C some (λ tokens p. p.1) room s m_ rest a a i h (λ front cut. refl)

    pub after_answers : {Y : Type 0} (m_ : List Token) (view : Y → A × List Token) (y : Result Y Stop) → IsOne (mark which) s tt m_ → Answers L C room m_ view y → Answers (λ n. After which (L n)) C room s view y
    after_answers m_ view (Ok y) i h = after_found m_ (view y).1 (view y).0 i h
    after_answers m_ view (Err x) i h = after_stops m_ x i h

-- ---- a phrase between two marks, of which the second doesn't go on with the phrase

module _ {A : Type 0} (first : Mark) (L : ℕ → List Token → A → Type 0) (last : Mark) (C : Token → Bool) (some : Some_of L)
    (out : (t : Token) → is_some (mark last t.kernel) ≡ true → C t ≡ false) where
  closed_some : Some_of (λ n. Both (L n) (One (kernel (mark last))))
  closed_some = d.some_closed last L C some out

  pub between_begins : Begins (reads_as (kernel (mark first))) (λ n. Between first (L n) last)
  between_begins = d.prefix_begins first (λ n. Both (L n) (One (kernel (mark last)))) never closed_some (λ tokens p. p.1.0)

  pub between_some : Some_of (λ n. Between first (L n) last)
  between_some n = (
    sample (mark_kernel first) ∷ (closed_some n).0,
    (closed_some n).1.0,
    record {
      of = (tt, (closed_some n).1);
      is = refl;
      phrase = record { front = sample (mark_kernel first) ∷ []; back = (closed_some n).0; cut = refl; left = record { token = sample (mark_kernel first); alone = refl; is = mark_sample first }; right = (closed_some n).2 };
    },
  )

  module _ (room : ℕ) (s : List Token) where
    -- the first mark isn't there
    pub between_first_stops : (x : Stop) → TakesNone (kernel (mark first)) s x → Stops (λ n. Between first (L n) last) never room s x
    between_first_stops x h = d.prefix_stops first (λ n. Both (L n) (One (kernel (mark last)))) never closed_some (λ tokens p. p.1.0) room s x h

    closed_stops : (m_ : List Token) (x : Stop) → IsOne (mark first) s tt m_ → Stops (λ n. Both (L n) (One (kernel (mark last)))) never room m_ x → Stops (λ n. Between first (L n) last) never room s x
    closed_stops m_ x i h = d.prefix_stops_later first (λ n. Both (L n) (One (kernel (mark last)))) never closed_some (λ tokens p. p.1.0) room s m_ x i h

    -- the phrase behind it isn't
    pub between_stops : (m_ : List Token) (x : Stop) → IsOne (mark first) s tt m_ → Stops L C room m_ x → Stops (λ n. Between first (L n) last) never room s x
    between_stops m_ x i h = closed_stops m_ x i
        (r.stops_as L (λ n. Both (L n) (One (kernel (mark last)))) C never room room m_ m_ x (λ f rest y. d.closed_stuck_left last L C some out room m_ rest f y) h)

    -- the last mark isn't there
    pub between_last_stops : (m_ after : List Token) (a : A) (x : Stop) → IsOne (mark first) s tt m_ → Found L C room m_ a after → TakesNone (kernel (mark last)) after x
        → Stops (λ n. Between first (L n) last) never room s x
    between_last_stops m_ after a x i y h = closed_stops m_ x i
        (r.stops_as (λ _. One (kernel (mark last))) (λ n. Both (L n) (One (kernel (mark last)))) never never room room after m_ x
        (λ f rest z. d.closed_stuck_right last L C some out room m_ after rest a f y z) (mark_stops last room after x h))

    pub between_found : (m_ after rest : List Token) (a : A) → IsOne (mark first) s tt m_ → Found L C room m_ a after → IsOne (mark last) after tt rest → Found (λ n. Between first (L n) last) never room s a rest
    between_found m_ after rest a i y j = d.prefix_found first (λ n. Both (L n) (One (kernel (mark last)))) never closed_some (λ tokens p. p.1.0) room s m_ rest (a, tt) a i
        (d.closed_found last L C some out room m_ after rest a y j) (λ front cut. refl)

    -- the last mark is read behind whatever was read
    pub between_closes : (m_ : List Token) (read y : Result (A × Bor (List Token)) Stop) → IsOne (mark first) s tt m_ → Answers L C room m_ (λ p. (p.0, p.1.now)) read → Closes (kernel (mark last)) read y
        → Answers (λ n. Between first (L n) last) never room s (λ p. (p.0, p.1.now)) y
    between_closes m_ read (Ok p) i a h = between_found m_ h.0.now p.1.now p.0 i (r.read_found L C room m_ read p.0 h.0 a h.1) h.2
    between_closes m_ read (Err x) i a h = elim h as (λ _. Stops (λ n. Between first (L n) last) never room s x) [
      | inl g ↦ between_stops m_ x i (r.read_stops L C room m_ read x a g)
      | inr g ↦ between_last_stops m_ g.1.now g.0 x i (r.read_found L C room m_ read g.0 g.1 a g.2) g.3
    ]

-- ---- a mark, and then a phrase in round brackets

module _ {A : Type 0} (which : Mark) (L : ℕ → List Token → A → Type 0) (C : Token → Bool) (some : Some_of L) (out : (t : Token) → is_some (mark m.RightRound t.kernel) ≡ true → C t ≡ false) where
  inside_some : Some_of (λ n. Between m.LeftRound (L n) m.RightRound)
  inside_some = between_some m.LeftRound L m.RightRound C some out

  pub clause_begins : Begins (reads_as (kernel (mark which))) (λ n. After which (Between m.LeftRound (L n) m.RightRound))
  clause_begins = after_begins which (λ n. Between m.LeftRound (L n) m.RightRound) never inside_some

  pub clause_some : Some_of (λ n. After which (Between m.LeftRound (L n) m.RightRound))
  clause_some = after_some which (λ n. Between m.LeftRound (L n) m.RightRound) never inside_some

  module _ (room : ℕ) (s : List Token) where
    -- the mark isn't there
    pub clause_mark_stops : (x : Stop) → TakesNone (kernel (mark which)) s x → Stops (λ n. After which (Between m.LeftRound (L n) m.RightRound)) never room s x
    clause_mark_stops x h = after_mark_stops which (λ n. Between m.LeftRound (L n) m.RightRound) never inside_some room s x h

    behind_stops : (m_ : List Token) (x : Stop) → IsOne (mark which) s tt m_ → Stops (λ n. Between m.LeftRound (L n) m.RightRound) never room m_ x
        → Stops (λ n. After which (Between m.LeftRound (L n) m.RightRound)) never room s x
    behind_stops m_ x i h = after_stops which (λ n. Between m.LeftRound (L n) m.RightRound) never inside_some room s m_ x i h

    -- the bracket behind it isn't
    pub clause_left_stops : (m_ : List Token) (x : Stop) → IsOne (mark which) s tt m_ → TakesNone (kernel (mark m.LeftRound)) m_ x → Stops (λ n. After which (Between m.LeftRound (L n) m.RightRound)) never room s x
    clause_left_stops m_ x i h = behind_stops m_ x i (between_first_stops m.LeftRound L m.RightRound C some out room m_ x h)

    -- the last bracket is read behind whatever was read inside
    pub clause_closes : (m_ o : List Token) (read y : Result (A × Bor (List Token)) Stop) → IsOne (mark which) s tt m_ → IsOne (mark m.LeftRound) m_ tt o → Answers L C room o (λ p. (p.0, p.1.now)) read
        → Closes (kernel (mark m.RightRound)) read y → Answers (λ n. After which (Between m.LeftRound (L n) m.RightRound)) never room s (λ p. (p.0, p.1.now)) y
    clause_closes m_ o read y i j a h =
        after_answers which (λ n. Between m.LeftRound (L n) m.RightRound) never inside_some room s m_ (λ p. (p.0, p.1.now)) y i (between_closes m.LeftRound L m.RightRound C some out room m_ o read y j a h)

-- ---- one phrase or another, told apart by the first token

module _ {Y A : Type 0} (L M : ℕ → List Token → A → Type 0) (C F : Token → Bool) (room : ℕ) (s : List Token) (view : Y → A × List Token) (y : Result Y Stop) where
  pub left_answers : Begins F M → heads F s ≡ false → Answers L C room s view y → Answers (λ n. Either (L n) (M n)) C room s view y
  left_answers begins out h = r.answers_as L (λ n. Either (L n) (M n)) C C room room s s view y
      (λ rest a x. r.left_found L M C F room s rest a begins out x) (λ f rest x. r.left_stuck L M C F room s rest f begins out x) h

  pub right_answers : Begins F L → heads F s ≡ false → Answers M C room s view y → Answers (λ n. Either (L n) (M n)) C room s view y
  right_answers begins out h = r.answers_as M (λ n. Either (L n) (M n)) C C room room s s view y
      (λ rest a x. r.right_found L M C F room s rest a begins out x) (λ f rest x. r.right_stuck L M C F room s rest f begins out x) h

module _ {A : Type 0} (L M : ℕ → List Token → A → Type 0) where
  pub left_some : Some_of L → Some_of (λ n. Either (L n) (M n))
  left_some some n = ((some n).0, (some n).1, left (some n).2)

module _ {A : Type 0} (L M : ℕ → List Token → A → Type 0) (C F : Token → Bool) (room : ℕ) (s : List Token) (x : Stop) where
  pub left_stops : Begins F M → heads F s ≡ false → Stops L C room s x → Stops (λ n. Either (L n) (M n)) C room s x
  left_stops begins out h = r.stops_as L (λ n. Either (L n) (M n)) C C room room s s x (λ f rest y. r.left_stuck L M C F room s rest f begins out y) h

  pub right_stops : Begins F L → heads F s ≡ false → Stops M C room s x → Stops (λ n. Either (L n) (M n)) C room s x
  right_stops begins out h = r.stops_as M (λ n. Either (L n) (M n)) C C room room s s x (λ f rest y. r.right_stuck L M C F room s rest f begins out y) h

-- ---- lists with commas

abbrev pub push : {A : Type 0} → List Token → List A → Unit {0} × A → List A
push tokens xs p = xs ++ p.1 ∷ []

abbrev pub Next : {A : Type 0} → (ℕ → List Token → A → Type 0) → ℕ → List Token → Unit {0} × A → Type 0
Next L n = Both (One (kernel (mark m.Comma))) (L n)

-- what a loop over a list with commas keeps
abbrev pub Listing : {A : Type 0} → (ℕ → List Token → A → Type 0) → (Token → Bool) → ℕ → List Token → List A → List Token → Type 0
Listing L C room s xs rest = Underway (λ n. Alone (L n)) (Next L) push C (reads_as (kernel (mark m.Comma))) room s xs rest

module _ {A : Type 0} (L : ℕ → List Token → A → Type 0) (C : Token → Bool) (apart : (t : Token) → is_some (mark m.Comma t.kernel) ≡ true → C t ≡ false) where
  pub list_some : Some_of L → Some_of (λ n. ListOf (L n))
  list_some some n = ((some n).0, (some n).1 ∷ [], record { front = (some n).0; rest = []; first = (some n).1 ∷ []; cut = sym (append-nil (some n).0); begins = record { of = (some n).1; is = refl; phrase = (some n).2 }; goes_on = ends })

  comma_begins : Begins (reads_as (kernel (mark m.Comma))) (Next L)
  comma_begins = r.both_begins (reads_as (kernel (mark m.Comma))) (λ _. One (kernel (mark m.Comma))) L (r.one_begins (kernel (mark m.Comma)))

  comma_heads : (m_ behind : List Token) → IsOne (mark m.Comma) m_ tt behind → heads (reads_as (kernel (mark m.Comma))) m_ ≡ true
  comma_heads m_ behind i = ap (heads (reads_as (kernel (mark m.Comma)))) i.1 ∙ ap (λ x. is_some x) i.2

  next_apart : (n : ℕ) (y v : List Token) (b : A) → L n y b → heads C v ≡ false → heads never (y ++ v) ≡ false
  next_apart n y v b x h = r.heads_never (y ++ v)

  -- A step takes tokens.
  pub list_falls : (room : ℕ) (F : Token → Bool) → Begins F L → (m_ behind rest : List Token) (x : A) → IsOne (mark m.Comma) m_ tt behind → Found L C room behind x rest → length rest < length m_
  list_falls room F b m_ behind rest x i h = r.shorter_still m_ behind rest i.0 i.1 (r.found_shorter L C F room behind rest x b h)

  module _ (room : ℕ) (s : List Token) where
    -- the first one isn't there
    pub list_first_stops : (x : Stop) → Stops L C room s x → Stops (λ n. ListOf (L n)) (among C (reads_as (kernel (mark m.Comma)))) room s x
    list_first_stops x h = r.stops_as L (λ n. ListOf (L n)) C (among C (reads_as (kernel (mark m.Comma)))) room room s s x
        (λ f rest y. e.start_stuck (λ n. Alone (L n)) (Next L) push C (reads_as (kernel (mark m.Comma))) comma_begins apart room s rest f
        (r.built_stuck (λ tokens x. x ∷ []) L C room s rest f y)) h

    pub list_sets_out : (rest : List Token) (x : A) (none xs : List A) → none ≡ [] → xs ≡ none ++ x ∷ [] → Found L C room s x rest → Listing L C room s xs rest
    list_sets_out rest x none xs is value h = subst (λ l. Listing L C room s l rest) (sym (value ∙ ap (λ l. l ++ x ∷ []) is))
        (e.sets_out (λ n. Alone (L n)) (Next L) push C (reads_as (kernel (mark m.Comma))) comma_begins apart room s rest (x ∷ []) (r.built_found (λ tokens x. x ∷ []) L C room s rest x h))

    -- the one behind a comma isn't there
    pub list_next_stops : (m_ behind : List Token) (xs : List A) (x : Stop) → IsOne (mark m.Comma) m_ tt behind → Listing L C room s xs m_ → Stops L C room behind x
        → Stops (λ n. ListOf (L n)) (among C (reads_as (kernel (mark m.Comma)))) room s x
    list_next_stops m_ behind xs x i g h = r.stops_as L (λ n. ListOf (L n)) C (among C (reads_as (kernel (mark m.Comma)))) room room behind s x
        (λ f rest y. e.step_stuck (λ n. Alone (L n)) (Next L) push C (reads_as (kernel (mark m.Comma))) comma_begins apart room s m_ rest xs f (comma_heads m_ behind i) g
        (r.both_stuck_right (λ _. One (kernel (mark m.Comma))) L never C room next_apart m_ behind rest tt f (one_found (mark m.Comma) room m_ behind tt i) y)) h

    pub list_goes_on : (m_ behind rest : List Token) (xs ys : List A) (x : A) → ys ≡ xs ++ x ∷ [] → IsOne (mark m.Comma) m_ tt behind → Listing L C room s xs m_ → Found L C room behind x rest
        → Listing L C room s ys rest
    list_goes_on m_ behind rest xs ys x value i g h =
        e.goes_on (λ n. Alone (L n)) (Next L) push C (reads_as (kernel (mark m.Comma))) comma_begins apart room s m_ rest xs (tt, x) ys (comma_heads m_ behind i) g
        (r.both_found (λ _. One (kernel (mark m.Comma))) L never C room next_apart m_ behind rest tt x (one_found (mark m.Comma) room m_ behind tt i) h) (λ front cut. value)

    pub list_arrives : (m_ : List Token) (xs : List A) → head_as (kernel (mark m.Comma)) m_ ≡ None → Listing L C room s xs m_ → Found (λ n. ListOf (L n)) (among C (reads_as (kernel (mark m.Comma)))) room s xs m_
    list_arrives m_ xs out g = e.arrives (λ n. Alone (L n)) (Next L) push C (reads_as (kernel (mark m.Comma))) comma_begins apart room s m_ xs (r.head_none (kernel (mark m.Comma)) m_ out) g

-- ---- some, and then more with nothing between them

abbrev pub add : {A : Type 0} → List Token → List A → A → List A
add tokens xs x = xs ++ x ∷ []

-- what a loop keeps over more that begin with a token of F
abbrev pub Rowing : {A : Type 0} → (ℕ → List Token → List A → Type 0) → (ℕ → List Token → A → Type 0) → (C F : Token → Bool) → ℕ → List Token → List A → List Token → Type 0
Rowing M L C F room s xs rest = Underway M L add C F room s xs rest

module _ {A : Type 0} (L : ℕ → List Token → A → Type 0) where
  pub alone_some : Some_of L → Some_of (λ n. Alone (L n))
  alone_some some = built_some (λ tokens x. x ∷ []) L some

  module _ (C : Token → Bool) (room : ℕ) (s : List Token) where
    pub alone_stops : (x : Stop) → Stops L C room s x → Stops (λ n. Alone (L n)) C room s x
    alone_stops x h = built_stops (λ tokens x. x ∷ []) L C room s x h

    pub alone_found : (rest : List Token) (x : A) (none xs : List A) → none ≡ [] → xs ≡ none ++ x ∷ [] → Found L C room s x rest → Found (λ n. Alone (L n)) C room s xs rest
    alone_found rest x none xs is value h = r.built_as (λ tokens x. x ∷ []) L C room s rest x xs (λ front cut. value ∙ ap (λ l. l ++ x ∷ []) is) h

module _ {A : Type 0} (M : ℕ → List Token → List A → Type 0) (L : ℕ → List Token → A → Type 0) where
  pub more_some : Some_of M → Some_of (λ n. MoreOf (M n) (L n))
  more_some some n = ((some n).0, (some n).1, record { front = (some n).0; rest = []; first = (some n).1; cut = sym (append-nil (some n).0); begins = (some n).2; goes_on = ends })

  module _ (C F : Token → Bool) (begins : Begins F L) (apart : (t : Token) → F t ≡ true → C t ≡ false) (room : ℕ) (s : List Token) where
    -- the first ones aren't there
    pub more_first_stops : (x : Stop) → Stops M C room s x → Stops (λ n. MoreOf (M n) (L n)) (among C F) room s x
    more_first_stops x h = r.stops_as M (λ n. MoreOf (M n) (L n)) C (among C F) room room s s x (λ f rest y. e.start_stuck M L add C F begins apart room s rest f y) h

    pub more_sets_out : (rest : List Token) (xs : List A) → Found M C room s xs rest → Rowing M L C F room s xs rest
    more_sets_out rest xs h = e.sets_out M L add C F begins apart room s rest xs h

    -- one more begins, and isn't there
    pub more_next_stops : (m_ : List Token) (xs : List A) (x : Stop) → heads F m_ ≡ true → Rowing M L C F room s xs m_ → Stops L C room m_ x → Stops (λ n. MoreOf (M n) (L n)) (among C F) room s x
    more_next_stops m_ xs x is g h = r.stops_as L (λ n. MoreOf (M n) (L n)) C (among C F) room room m_ s x (λ f rest y. e.step_stuck M L add C F begins apart room s m_ rest xs f is g y) h

    pub more_goes_on : (m_ rest : List Token) (xs ys : List A) (x : A) → ys ≡ xs ++ x ∷ [] → heads F m_ ≡ true → Rowing M L C F room s xs m_ → Found L C room m_ x rest → Rowing M L C F room s ys rest
    more_goes_on m_ rest xs ys x value is g h = e.goes_on M L add C F begins apart room s m_ rest xs x ys is g h (λ front cut. value)

    pub more_arrives : (m_ : List Token) (xs : List A) → heads F m_ ≡ false → Rowing M L C F room s xs m_ → Found (λ n. MoreOf (M n) (L n)) (among C F) room s xs m_
    more_arrives m_ xs out g = e.arrives M L add C F begins apart room s m_ xs out g
