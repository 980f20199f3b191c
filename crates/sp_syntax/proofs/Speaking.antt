-- Texts that are written of tokens, one behind another.
use Rattle.std.proofs.Common.{◌≡◌, ℕ, Option, Some, None, List, [], ◌∷◌, ◌++◌, refl, sym, ◌∙◌, ap, subst, append_assoc}
use Rattle.sp_lex.specs.declared.token.Token.{Token}
use Rattle.sp_lex.specs.declared.token.Kernel.{Kernel}
use Rattle.sp_query.specs.declared.mark.Mark.{Mark}
use Rattle.sp_query.specs.Phrase.{One, Both, Either, left, right, Built, Optional}
use Rattle.sp_query.specs.Grammar.{kernel, mark, After, Between}
use Rattle.sp_syntax.specs.Written.{Written, none, some, kernels, IsSpelled}
use Rattle.sp_syntax.specs.Printing.{ArePlain, Spoken, Has, Again, Prints}

pub plain_left : (us vs : List Token) → ArePlain (us ++ vs) → ArePlain us
plain_left [] vs p = tt
plain_left (t ∷ us) vs p = (p.0, plain_left us vs p.1)

pub plain_right : (us vs : List Token) → ArePlain (us ++ vs) → ArePlain vs
plain_right [] vs p = p
plain_right (t ∷ us) vs p = plain_right us vs p.1

pub written_append : (ks ls : List Kernel) (x y : List ℕ) → Written ks x → Written ls y → Written (ks ++ ls) (x ++ y)
written_append ks ls x y none v = v
written_append ks ls x y (some kernel front more text s w) v =
    subst (λ l. Written (kernel ∷ (more ++ ls)) l) (sym (append_assoc front (32 ∷ text) y)) (some kernel front (more ++ ls) (text ++ y) s (written_append more ls text y w v))

-- Tokens of which the first are one thing and the rest another.
pub record Two (K M : List Token → Type 0) (tokens : List Token) : Type 0 where
  pub front : List Token
  pub back : List Token
  pub cut : tokens ≡ front ++ back
  pub first : K front
  pub second : M back

-- Tokens of these kernels, cut where the kernels are.
record Cut (ts : List Token) (ks ls : List Kernel) : Type 0 where
  front : List Token
  back : List Token
  cut : ts ≡ front ++ back
  first : kernels front ≡ ks
  second : kernels back ≡ ls

cut_at : (ks ls : List Kernel) (ts : List Token) → kernels ts ≡ ks ++ ls → Cut ts ks ls
cut_at [] ls ts e = record { front = []; back = ts; cut = refl; first = refl; second = e }
cut_at (k ∷ ks) ls [] e = absurd cc
cut_at (k ∷ ks) ls (t ∷ ts) e =
    let d : kernels ts ≡ ks ++ ls = cc in
    let h : t.kernel ≡ k = cc in
    let c = cut_at ks ls ts d in
    record { front = t ∷ c.front; back = c.back; cut = ap (λ l. t ∷ l) c.cut; first = (λ i. h i ∷ c.first i); second = c.second }

pub spoken_map : (K M : List Token → Type 0) (x : List ℕ) → ((ts : List Token) → K ts → M ts) → Spoken K x → Spoken M x
spoken_map K M x f s = record { of = s.of; written = s.written; reads = λ ts e. f ts (s.reads ts e) }

pub spoken_append : (K M : List Token → Type 0) (x y : List ℕ) → Spoken K x → Spoken M y → Spoken (Two K M) (x ++ y)
spoken_append K M x y s r = record {
  of = s.of ++ r.of;
  written = written_append s.of r.of x y s.written r.written;
  reads = λ ts e. let c = cut_at s.of r.of ts e in record { front = c.front; back = c.back; cut = c.cut; first = s.reads c.front c.first; second = r.reads c.back c.second };
}

one_token : (ts : List Token) (k : Kernel) → kernels ts ≡ k ∷ [] → (t : Token) × (ts ≡ t ∷ []) × (t.kernel ≡ k)
one_token [] k e = absurd cc
one_token (t ∷ []) k e = (t, refl, cc)
one_token (t ∷ u ∷ ts) k e = absurd cc

pub spoken_one : (K : List Token → Type 0) (k : Kernel) (front : List ℕ) → IsSpelled k front → ((t : Token) → t.kernel ≡ k → K (t ∷ [])) → Spoken K (front ++ 32 ∷ [])
spoken_one K k front s f = record {
  of = k ∷ [];
  written = some k front [] [] s none;
  reads = λ ts e. let o = one_token ts k e in subst K (sym o.1) (f o.0 o.2);
}

-- ---- phrases

-- a token of which the kernel is known
pub prints_one : {A : Type 0} (f : Kernel → Option A) (R : A → A → Type 0) (a : A) (k : Kernel) (front : List ℕ) → f k ≡ Some a → IsSpelled k front → R a a → Prints (One (kernel f)) R a (front ++ 32 ∷ [])
prints_one f R a k front e s r has = spoken_one (Again (One (kernel f)) R a) k front s (λ t d. record { other = a; phrase = record { token = t; alone = refl; is = ap f d ∙ e }; same = r })

abbrev pub Unlike : Unit {0} → Unit {0} → Type 0
Unlike x y = Unit {0}

abbrev pub Paired : {A B : Type 0} → (A → A → Type 0) → (B → B → Type 0) → A × B → A × B → Type 0
Paired R S p q = R p.0 q.0 × S p.1 q.1

pub has_left : {A B : Type 0} (L : List Token → A → Type 0) (M : List Token → B → Type 0) (p : A × B) → Has (Both L M) p → Has L p.0
has_left L M p h = record { tokens = h.phrase.front; plain = plain_left h.phrase.front h.phrase.back (subst ArePlain h.phrase.cut h.plain); phrase = h.phrase.left }

pub has_right : {A B : Type 0} (L : List Token → A → Type 0) (M : List Token → B → Type 0) (p : A × B) → Has (Both L M) p → Has M p.1
has_right L M p h = record { tokens = h.phrase.back; plain = plain_right h.phrase.front h.phrase.back (subst ArePlain h.phrase.cut h.plain); phrase = h.phrase.right }

pub prints_both : {A B : Type 0} (L : List Token → A → Type 0) (M : List Token → B → Type 0) (R : A → A → Type 0) (S : B → B → Type 0) (p : A × B) (x y : List ℕ) → Prints L R p.0 x → Prints M S p.1 y → Prints (Both L M) (Paired R S) p (x ++ y)
prints_both L M R S p x y f g has =
    spoken_map (Two (Again L R p.0) (Again M S p.1)) (Again (Both L M) (Paired R S) p) (x ++ y)
    (λ ts w. record {
      other = (w.first.other, w.second.other);
      phrase = record { front = w.front; back = w.back; cut = w.cut; left = w.first.phrase; right = w.second.phrase };
      same = (w.first.same, w.second.same);
    })
    (spoken_append (Again L R p.0) (Again M S p.1) x y (f (has_left L M p has)) (g (has_right L M p has)))

pub prints_built : {A B : Type 0} (g : List Token → A → B) (L : List Token → A → Type 0) (R : A → A → Type 0) (S : B → B → Type 0) (b : B) (x : List ℕ)
    → ((u : List Token) (a : A) → b ≡ g u a → Prints L R a x) → ((u ts : List Token) (a c : A) → b ≡ g u a → R a c → S b (g ts c)) → Prints (Built g L) S b x
prints_built g L R S b x f same has =
    spoken_map (Again L R has.phrase.of) (Again (Built g L) S b) x
    (λ ts w. record { other = g ts w.other; phrase = record { of = w.other; is = refl; phrase = w.phrase }; same = same has.tokens ts has.phrase.of w.other has.phrase.is w.same })
    (f has.tokens has.phrase.of has.phrase.is (record { tokens = has.tokens; plain = has.plain; phrase = has.phrase.phrase }))

-- a mark, and then a phrase
pub prints_after : {A : Type 0} (which : Mark) (L : List Token → A → Type 0) (R : A → A → Type 0) (a : A) (k : Kernel) (front x : List ℕ) → mark which k ≡ Some tt → IsSpelled k front → Prints L R a x → Prints (After which L) R a ((front ++ 32 ∷ []) ++ x)
prints_after which L R a k front x e s f =
    prints_built (λ ts p. p.1) (Both (One (kernel (mark which))) L) (Paired Unlike R) R a ((front ++ 32 ∷ []) ++ x)
    (λ u p is. prints_both (One (kernel (mark which))) L Unlike R p (front ++ 32 ∷ []) x (prints_one (mark which) Unlike tt k front e s tt) (subst (λ z. Prints L R z x) is f))
    (λ u ts p c is h. subst (λ z. R z c.1) (sym is) h.1)

pub spoken_mark : (which : Mark) (k : Kernel) (front : List ℕ) → mark which k ≡ Some tt → IsSpelled k front → Spoken (λ ts. One (kernel (mark which)) ts tt) (front ++ 32 ∷ [])
spoken_mark which k front e s = spoken_one (λ ts. One (kernel (mark which)) ts tt) k front s (λ t d. record { token = t; alone = refl; is = ap (mark which) d ∙ e })

-- a phrase between two marks
pub spoken_between : {A : Type 0} (before : Mark) (L : List Token → A → Type 0) (after : Mark) (R : A → A → Type 0) (a : A) (k m : Kernel) (front back x : List ℕ)
    → mark before k ≡ Some tt → IsSpelled k front → mark after m ≡ Some tt → IsSpelled m back → Spoken (Again L R a) x → Spoken (Again (Between before L after) R a) ((front ++ 32 ∷ []) ++ (x ++ (back ++ 32 ∷ [])))
spoken_between before L after R a k m front back x e s d t f =
    let One_ = λ (which : Mark) (ts : List Token). One (kernel (mark which)) ts tt in
    spoken_map (Two (One_ before) (Two (Again L R a) (One_ after))) (Again (Between before L after) R a) ((front ++ 32 ∷ []) ++ (x ++ (back ++ 32 ∷ [])))
    (λ ts w. record {
      other = w.second.first.other;
      phrase = record { of = (tt, (w.second.first.other, tt)); is = refl; phrase = record { front = w.front; back = w.back; cut = w.cut; left = w.first; right = record { front = w.second.front; back = w.second.back; cut = w.second.cut; left = w.second.first.phrase; right = w.second.second } } };
      same = w.second.first.same;
    })
    (spoken_append (One_ before) (Two (Again L R a) (One_ after)) (front ++ 32 ∷ []) (x ++ (back ++ 32 ∷ [])) (spoken_mark before k front e s)
    (spoken_append (Again L R a) (One_ after) x (back ++ 32 ∷ []) f (spoken_mark after m back d t)))

-- what stands between two marks
pub has_inner : {A : Type 0} (before : Mark) (L : List Token → A → Type 0) (after : Mark) (a : A) → Has (Between before L after) a → Has L a
has_inner before L after a h = record {
  tokens = h.phrase.phrase.right.front;
  plain = plain_left h.phrase.phrase.right.front h.phrase.phrase.right.back (subst ArePlain h.phrase.phrase.right.cut (plain_right h.phrase.phrase.front h.phrase.phrase.back (subst ArePlain h.phrase.phrase.cut h.plain)));
  phrase = subst (λ z. L h.phrase.phrase.right.front z) (sym h.phrase.is) h.phrase.phrase.right.left;
}

pub prints_between : {A : Type 0} (before : Mark) (L : List Token → A → Type 0) (after : Mark) (R : A → A → Type 0) (a : A) (k m : Kernel) (front back x : List ℕ)
    → mark before k ≡ Some tt → IsSpelled k front → mark after m ≡ Some tt → IsSpelled m back → Prints L R a x → Prints (Between before L after) R a ((front ++ 32 ∷ []) ++ (x ++ (back ++ 32 ∷ [])))
prints_between before L after R a k m front back x e s d t f has = spoken_between before L after R a k m front back x e s d t (f (has_inner before L after a has))

-- ---- choices

-- what neither of two phrases makes
pub has_neither : {A : Type 0} (L M : List Token → A → Type 0) (a : A) → (Has L a → ⊥) → (Has M a → ⊥) → Has (Either L M) a → ⊥
has_neither L M a not_one not_other has = elim has.phrase [
  | left d ↦ not_one (record { tokens = has.tokens; plain = has.plain; phrase = d })
  | right d ↦ not_other (record { tokens = has.tokens; plain = has.plain; phrase = d })
]

pub prints_left : {A : Type 0} (L M : List Token → A → Type 0) (R : A → A → Type 0) (a : A) (x : List ℕ) → (Has M a → ⊥) → Prints L R a x → Prints (Either L M) R a x
prints_left L M R a x n f has = elim has.phrase [
  | left d ↦ spoken_map (Again L R a) (Again (Either L M) R a) x (λ ts w. record { other = w.other; phrase = left w.phrase; same = w.same }) (f (record { tokens = has.tokens; plain = has.plain; phrase = d }))
  | right d ↦ absurd (n (record { tokens = has.tokens; plain = has.plain; phrase = d }))
]

pub prints_right : {A : Type 0} (L M : List Token → A → Type 0) (R : A → A → Type 0) (a : A) (x : List ℕ) → (Has L a → ⊥) → Prints M R a x → Prints (Either L M) R a x
prints_right L M R a x n f has = elim has.phrase [
  | left d ↦ absurd (n (record { tokens = has.tokens; plain = has.plain; phrase = d }))
  | right d ↦ spoken_map (Again M R a) (Again (Either L M) R a) x (λ ts w. record { other = w.other; phrase = right w.phrase; same = w.same }) (f (record { tokens = has.tokens; plain = has.plain; phrase = d }))
]

no_kernels : (ts : List Token) → kernels ts ≡ [] → ts ≡ []
no_kernels [] e = refl
no_kernels (t ∷ ts) e = absurd cc

pub spoken_none : (K : List Token → Type 0) → K [] → Spoken K []
spoken_none K h = record { of = []; written = none; reads = λ ts e. subst K (sym (no_kernels ts e)) h }

pub prints_none : {A : Type 0} (L : List Token → A → Type 0) (S : Option A → Option A → Type 0) → S None None → Prints (Optional L) S None []
prints_none L S h has = spoken_none (Again (Optional L) S None) (record { other = None; phrase = refl; same = h })

pub prints_some : {A : Type 0} (L : List Token → A → Type 0) (R : A → A → Type 0) (S : Option A → Option A → Type 0) (a : A) (x : List ℕ) → ((b : A) → R a b → S (Some a) (Some b)) → Prints L R a x → Prints (Optional L) S (Some a) x
prints_some L R S a x same f has =
    spoken_map (Again L R a) (Again (Optional L) S (Some a)) x (λ ts w. record { other = Some w.other; phrase = w.phrase; same = same w.other w.same })
    (f (record { tokens = has.tokens; plain = has.plain; phrase = has.phrase }))

pub prints_map : {A : Type 0} (L : List Token → A → Type 0) (R S : A → A → Type 0) (a : A) (x : List ℕ) → ((b : A) → R a b → S a b) → Prints L R a x → Prints L S a x
prints_map L R S a x same f has = spoken_map (Again L R a) (Again L S a) x (λ ts w. record { other = w.other; phrase = w.phrase; same = same w.other w.same }) (f has)
