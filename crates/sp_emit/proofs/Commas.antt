-- Numbers joined by commas in front of texts.
use Rattle.std.proofs.Common.{◌≡◌, ◌≢◌, ℕ, ◌<◌, ◌≤◌, ◌^◌, true, false, List, [], ◌∷◌, ◌++◌, refl, sym, ◌∙◌, ap, subst, arith, append_assoc, append-nil}
use Rattle.std.specs.Prelude.{codes}
use Rattle.std.specs.List.{All}
use Rattle.std.specs.Fmt.{decimal}
use Rattle.std.proofs.lemmas.Bool.Decides.{nat_tests}
use Rattle.std.proofs.lemmas.Grind.{flat_map-append}
use Rattle.std.proofs.lemmas.List.Elements.{All-nil, All-cons, All-head, All-tail, All-push}
use Rattle.std.specs.List.Sorted.{IsStrictlyIncreasing}
use Rattle.sp_base.specs.Commas.{more, commas}
use Rattle.sp_emit.specs.Reading.{heads, is_digit, goes_on, NumberAt, NumbersAt, PlacesAt}
use Rattle.sp_emit.proofs.Runs.{ends_number}
use Rattle.sp_emit.proofs.Numbers.{decimal_one}

abbrev pub IsShort : ℕ → Type 0
IsShort n = n < 2 ^ 32

long : (n : ℕ) → n < 2 ^ 32 → n < 2 ^ 64
long n h = omega arith

-- what follows a number of a list ends it
more_ends : (ns r : List ℕ) → heads goes_on r ≡ false → heads is_digit (more ns ++ r) ≡ false
more_ends [] r h = ends_number r h
more_ends (n ∷ ns) r h = refl

-- a list and what ends it are known by their text
more_one : (ms ns r s : List ℕ) → All IsShort ms → All IsShort ns → heads goes_on r ≡ false → heads goes_on s ≡ false → more ms ++ r ≡ more ns ++ s → (ms ≡ ns) × (r ≡ s)
more_one [] [] r s a b c d e = (refl, e)
more_one [] (n ∷ ns) r s a b c d e = absurd (let f : true ≡ false = sym (ap (heads goes_on) e) ∙ c in cc)
more_one (m ∷ ms) [] r s a b c d e = absurd (let f : true ≡ false = ap (heads goes_on) e ∙ d in cc)
more_one (m ∷ ms) (n ∷ ns) r s a b c d e =
    let tail : (decimal m ++ more ms) ++ r ≡ (decimal n ++ more ns) ++ s = cc in
    let p = decimal_one m n (more ms ++ r) (more ns ++ s) (long m (All-head IsShort m ms a)) (long n (All-head IsShort n ns b)) (more_ends ms r c) (more_ends ns s d)
    (sym (append_assoc (decimal m) (more ms) r) ∙ tail ∙ append_assoc (decimal n) (more ns) s) in
    let q = more_one ms ns r s (All-tail IsShort m ms a) (All-tail IsShort n ns b) c d p.1 in
    ((λ i. p.0 i ∷ q.0 i), q.1)

-- the first number of a list, with the rest of the text behind it
pub first_number : (text : List ℕ) (n : ℕ) (ns r : List ℕ) → NumbersAt text (n ∷ ns) r → NumberAt 4294967295 text n (more ns ++ r)
first_number text n ns r a = record {
  within = let w : n < 2 ^ 32 = All-head IsShort n ns a.small in omega arith;
  cut = a.cut ∙ append_assoc (decimal n) (more ns) r;
  ends = more_ends ns r a.ends;
}

one_number : (text : List ℕ) (m n : ℕ) (r s : List ℕ) → NumberAt 4294967295 text m r → NumberAt 4294967295 text n s → (m ≡ n) × (r ≡ s)
one_number text m n r s a b = decimal_one m n r s (let w : m ≤ 4294967295 = a.within in omega arith) (let w : n ≤ 4294967295 = b.within in omega arith) a.ends b.ends (sym a.cut ∙ b.cut)

-- two lists in front of one text are one
pub numbers_one : (text ms ns r s : List ℕ) → NumbersAt text ms r → NumbersAt text ns s → (ms ≡ ns) × (r ≡ s)
numbers_one text [] ns r s a b = absurd (a.some refl)
numbers_one text (m ∷ ms) [] r s a b = absurd (b.some refl)
numbers_one text (m ∷ ms) (n ∷ ns) r s a b =
    let p = one_number text m n (more ms ++ r) (more ns ++ s) (first_number text m ms r a) (first_number text n ns s b) in
    let q = more_one ms ns r s (All-tail IsShort m ms a.small) (All-tail IsShort n ns b.small) a.ends b.ends p.1 in
    ((λ i. p.0 i ∷ q.0 i), q.1)

-- The numbers read so far, and that each list in front of the text begins with them.
pub record Going (text ns rest : List ℕ) : Type 0 where
  pub some : ns ≢ []
  pub small : All IsShort ns
  pub cut : text ≡ commas ns ++ rest
  pub ends : heads is_digit rest ≡ false
  pub only : (ms r : List ℕ) → NumbersAt text ms r → (ys : List ℕ) × (ms ≡ ns ++ ys) × (rest ≡ more ys ++ r)

pub none_first : (text : List ℕ) → ((n : ℕ) (rest : List ℕ) → NumberAt 4294967295 text n rest → ⊥) → (ms r : List ℕ) → NumbersAt text ms r → ⊥
none_first text none [] r a = a.some refl
none_first text none (m ∷ ms) r a = none m (more ms ++ r) (first_number text m ms r a)

pub sets_out : (text items : List ℕ) (n : ℕ) (rest : List ℕ) → items ≡ n ∷ [] → NumberAt 4294967295 text n rest → Going text items rest
sets_out text items n rest e a = subst (λ (l : List ℕ). Going text l rest) (sym e) (record {
  some = λ none. cc;
  small = All-cons IsShort n [] (let w : n ≤ 4294967295 = a.within in omega arith) (All-nil IsShort);
  cut = a.cut ∙ ap (λ (l : List ℕ). l ++ rest) (sym (append-nil (decimal n)));
  ends = a.ends;
  only = only;
})
  where
    only : (ms r : List ℕ) → NumbersAt text ms r → (ys : List ℕ) × (ms ≡ (n ∷ []) ++ ys) × (rest ≡ more ys ++ r)
    only [] r b = absurd (b.some refl)
    only (m ∷ ms) r b =
        let p = one_number text m n (more ms ++ r) rest (first_number text m ms r b) a in
        (ms, (λ i. p.0 i ∷ ms), sym p.1)

commas_more : (ns : List ℕ) (n : ℕ) → ns ≢ [] → commas (ns ++ n ∷ []) ≡ commas ns ++ (codes "," ++ decimal n)
commas_more [] n some = absurd (some refl)
commas_more (m ∷ ns) n some =
    ap (λ (l : List ℕ). decimal m ++ l) (flat_map-append (λ n. codes "," ++ decimal n) ns (n ∷ []) ∙ ap (λ (l : List ℕ). more ns ++ l) (append-nil (codes "," ++ decimal n)))
    ∙ sym (append_assoc (decimal m) (more ns) (codes "," ++ decimal n))

module _ (text ns rest behind : List ℕ) (g : Going text ns rest) (comma : rest ≡ codes "," ++ behind) where
  -- behind a comma a list in front of the text goes on
  next_number : (ms r : List ℕ) → NumbersAt text ms r → (y : ℕ) × (ys : List ℕ) × (ms ≡ ns ++ y ∷ ys) × NumberAt 4294967295 behind y (more ys ++ r)
  next_number ms r a = by (g.only ms r a)
    where
      by : ((ys : List ℕ) × (ms ≡ ns ++ ys) × (rest ≡ more ys ++ r)) → (y : ℕ) × (ys : List ℕ) × (ms ≡ ns ++ y ∷ ys) × NumberAt 4294967295 behind y (more ys ++ r)
      by ([], e, f) = absurd (let h : true ≡ false = ap (heads goes_on) (sym comma ∙ f) ∙ a.ends in cc)
      by (y ∷ ys, e, f) =
          let h : behind ≡ (decimal y ++ more ys) ++ r = cc in (
            y,
            ys,
            e,
            record {
              within = let w : y < 2 ^ 32 = All-head IsShort y ys (tail ns (subst (λ (l : List ℕ). All IsShort l) e a.small)) in omega arith;
              cut = h ∙ append_assoc (decimal y) (more ys) r;
              ends = more_ends ys r a.ends;
            },
          )
        where
          tail : (xs : List ℕ) → All IsShort (xs ++ y ∷ ys) → All IsShort (y ∷ ys)
          tail [] all = all
          tail (x ∷ xs) all = tail xs (All-tail IsShort x (xs ++ y ∷ ys) all)

  pub none_behind : ((n : ℕ) (after : List ℕ) → NumberAt 4294967295 behind n after → ⊥) → (ms r : List ℕ) → NumbersAt text ms r → ⊥
  none_behind none ms r a = let p = next_number ms r a in none p.0 (more p.1 ++ r) p.3

  pub goes : (items : List ℕ) (n : ℕ) (after : List ℕ) → items ≡ ns ++ n ∷ [] → NumberAt 4294967295 behind n after → Going text items after
  goes items n after e b = subst (λ (l : List ℕ). Going text l after) (sym e) (record {
    some = λ none. some ns none;
    small = All-push IsShort ns n g.small (let w : n ≤ 4294967295 = b.within in omega arith);
    cut = g.cut ∙ ap (λ (l : List ℕ). commas ns ++ l) (comma ∙ ap (λ (l : List ℕ). codes "," ++ l) b.cut)
        ∙ sym (append_assoc (commas ns) (codes "," ++ decimal n) after) ∙ ap (λ (l : List ℕ). l ++ after) (sym (commas_more ns n g.some));
    ends = b.ends;
    only = λ ms r a. only ms r (next_number ms r a);
  })
    where
      some : (xs : List ℕ) → xs ++ n ∷ [] ≡ [] → ⊥
      some [] none = cc
      some (x ∷ xs) none = cc

      only : (ms r : List ℕ) → ((y : ℕ) × (ys : List ℕ) × (ms ≡ ns ++ y ∷ ys) × NumberAt 4294967295 behind y (more ys ++ r)) → (ys : List ℕ) × (ms ≡ (ns ++ n ∷ []) ++ ys) × (after ≡ more ys ++ r)
      only ms r (y, ys, f, c) =
          let p = one_number behind y n (more ys ++ r) after c b in
          (ys, f ∙ ap (λ (k : ℕ). ns ++ k ∷ ys) p.0 ∙ sym (append_assoc ns (n ∷ []) ys), sym p.1)

-- a list ends where no comma follows
pub arrives : (text ns rest : List ℕ) → Going text ns rest → ((behind : List ℕ) → rest ≢ codes "," ++ behind) → NumbersAt text ns rest
arrives text ns rest g none = record { some = g.some; small = g.small; cut = g.cut; ends = ends rest g.ends none }
  where
    ends : (rest : List ℕ) → heads is_digit rest ≡ false → ((behind : List ℕ) → rest ≢ codes "," ++ behind) → heads goes_on rest ≡ false
    ends [] h n = refl
    ends (b ∷ rest) h n =
        let unequal : b ≢ 44 = λ e. n rest (λ i. e i ∷ rest) in
        grind (arith, nat_tests)

-- numbers of events in front of a text are numbers
pub places_numbers : (text ns r : List ℕ) → PlacesAt text ns r → NumbersAt text ns r
places_numbers text ns r a = record { some = a.some; small = a.are.small; cut = a.cut; ends = a.ends }

pub places_one : (text ms ns r s : List ℕ) → PlacesAt text ms r → PlacesAt text ns s → (ms ≡ ns) × (r ≡ s)
places_one text ms ns r s a b = numbers_one text ms ns r s (places_numbers text ms r a) (places_numbers text ns s b)

-- numbers that don't rise are no numbers of events
pub none_rising : (text ns rest list : List ℕ) → NumbersAt text ns rest → list ≡ ns → (IsStrictlyIncreasing list → ⊥) → (ms r : List ℕ) → PlacesAt text ms r → ⊥
none_rising text ns rest list a e not_rising ms r b =
    let p = numbers_one text ms ns r rest (places_numbers text ms r b) a in
    not_rising (subst (λ (l : List ℕ). IsStrictlyIncreasing l) (p.0 ∙ sym e) b.are.rising)
