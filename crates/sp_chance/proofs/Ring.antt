-- A pair more in a ring, so many times.
use Rattle.std.proofs.Common.{◌≡◌, ℕ, zero, suc, ◌+◌, ◌-◌, ◌%◌, ◌<◌, ◌≤◌, ◌⊎◌, inl, inr, ⊎_elim, Bool, true, false, ◌||◌, nat_le, cond, List, [], ◌∷◌, ◌++◌, length, map, take, drop, replicate, refl, sym, ap, ◌∙◌, arith, append_assoc, append-nil, length-append, length-take, length-drop, drop-drop, take_all}
use Rattle.std.proofs.Math.Nat.{eq-or-lt_of_le}
use Rattle.std.proofs.Math.Seq.{drop-length}
use Rattle.std.proofs.lemmas.Bool.{cases_lt}
use Rattle.std.proofs.lemmas.Bool.Decides.{nat_tests}
use Rattle.std.proofs.lemmas.List.{drop-append-le, drop-map, length-map, length-replicate, map-append}
use Rattle.std.proofs.lemmas.Slice.{drop-put_mid, take-put_mid}
use borrow.Rule.Slice.PartMut.{mid_of, put_mid, same_len_mid}
use Rattle.circular_buffer.specs.Buffer.{keep_last}
use Rattle.sp_base.specs.Limits.{renewal}
use Rattle.sp_chance.specs.Counted.{decoded}
use Rattle.sp_chance.specs.Recent.{around, ring_of}

-- A part of the ring, of so many places from a place on, was filled with one number.
pub record IsFilled (codes now : List ℕ) (p n x : ℕ) : Type 0 where
  pub size : length codes ≡ 256
  pub same : length now ≡ 256
  pub room : p + n ≤ 256
  pub front : take (p + n) now ≡ take p codes ++ replicate n x
  pub behind : drop (p + n) now ≡ drop (p + n) codes

length-around : (codes : List ℕ) (p : ℕ) → p ≤ length codes → length (around codes p) ≡ length codes
length-around codes p within =
    omega (arith, length-append (drop p codes) (take p codes), length-drop p codes, length-take p codes)

-- so many places further the oldest are let go
further : (codes now : List ℕ) (p n x : ℕ) → IsFilled codes now p n x → around now (p + n) ≡ drop n (around codes p ++ replicate n x)
further codes now p n x is =
    let size = is.size in
    let room = is.room in
    let new : List ℕ = take p codes ++ replicate n x in
    let some : n ≤ length (drop p codes) = omega (arith, size, room, length-drop p codes) in
    (λ i. is.behind i ++ is.front i)
    ∙ ap (λ l. l ++ new) (sym (drop-drop n p codes))
    ∙ sym (ap (drop n) (append_assoc (drop p codes) (take p codes) (replicate n x)) ∙ drop-append-le n (drop p codes) new some)

-- what is behind the last place, and in front of the first, is nothing
turned-around : (codes : List ℕ) → around codes (length codes) ≡ around codes 0
turned-around codes =
    ap (λ l. l ++ take (length codes) codes) (drop-length codes)
    ∙ take_all (length codes) codes (omega arith)
    ∙ sym (append-nil codes)

-- the place behind, round the ring
behind : (codes now : List ℕ) (p n q x : ℕ) → IsFilled codes now p n x → q ≡ (p + n) % 256
    → around now q ≡ drop n (around codes p ++ replicate n x)
behind codes now p n q x is place =
    let room = is.room in
    ⊎_elim
    (λ (last : p + n ≡ 256).
    let begun : q ≡ 0 = omega arith in
    ap (around now) begun ∙ sym (turned-around now) ∙ ap (around now) (is.same ∙ sym last) ∙ further codes now p n x is)
    (λ (more : p + n < 256). let next : q ≡ p + n = omega arith in ap (around now) next ∙ further codes now p n x is)
    (eq-or-lt_of_le room)

keep-all : (xs : List ℕ) → length xs ≤ 256 → keep_last 256 xs ≡ xs
keep-all xs few = let none : length xs - 256 ≡ 0 = omega arith in ap (λ n. drop n xs) none

keep-most : (xs : List ℕ) (n : ℕ) → length xs ≡ 256 + n → keep_last 256 xs ≡ drop n xs
keep-most xs n many = let some : length xs - 256 ≡ n = omega arith in ap (λ k. drop k xs) some

ring-around : (codes : List ℕ) (since : ℕ) (full : Bool) → (full || nat_le 256 since) ≡ true
    → ring_of codes since full ≡ around codes (since % 256)
unfolding ring_of
ring-around codes since full is = ap (λ b. cond b (around codes (since % 256)) (take since codes)) is

ring-first : (codes : List ℕ) (since : ℕ) (full : Bool) → (full || nat_le 256 since) ≡ false
    → ring_of codes since full ≡ take since codes
unfolding ring_of
ring-first codes since full is = ap (λ b. cond b (around codes (since % 256)) (take since codes)) is

tells : (full : Bool) (since : ℕ) → ((full || nat_le 256 since) ≡ true) ⊎ (((full || nat_le 256 since) ≡ false) × (full ≡ false) × (since < 256))
tells true since = inl refl
tells false since =
    ⊎_elim
    (λ (less : since < 256). inr (let no : nat_le 256 since ≡ false = grind (arith, nat_tests) in no, refl, less))
    (λ (more : 256 ≤ since). inl (let yes : nat_le 256 since ≡ true = grind (arith, nat_tests) in yes))
    (cases_lt since 256)

stays : (full : Bool) (since n : ℕ) → (full || nat_le 256 since) ≡ true → (full || nat_le 256 (since + n)) ≡ true
stays true since n is = refl
stays false since n is = grind (arith, nat_tests)

reached : (full : Bool) (since : ℕ) → 256 ≤ since → (full || nat_le 256 since) ≡ true
reached true since more = refl
reached false since more = grind (arith, nat_tests)

short : (full : Bool) (since : ℕ) → full ≡ false → since < 256 → (full || nat_le 256 since) ≡ false
short true since empty less = absurd (cc)
short false since empty less = grind (arith, nat_tests)

-- where no place is empty
pushed-full : (codes now : List ℕ) (since n next x : ℕ) (full : Bool) → IsFilled codes now (since % 256) n x → (full || nat_le 256 since) ≡ true
    → next % 256 ≡ (since + n) % 256
    → around now (next % 256) ≡ keep_last 256 (ring_of codes since full ++ replicate n x)
pushed-full codes now since n next x full is filled place =
    let size = is.size in
    let all : length (around codes (since % 256) ++ replicate n x) ≡ 256 + n
    = omega (arith, length-append (around codes (since % 256)) (replicate n x), length-around codes (since % 256) (omega (arith, size)), length-replicate n x, size) in
    behind codes now (since % 256) n (next % 256) x is (omega (arith, place))
    ∙ sym (keep-most (around codes (since % 256) ++ replicate n x) n all)
    ∙ ap (λ l. keep_last 256 (l ++ replicate n x)) (sym (ring-around codes since full filled))

-- the first pairs
pushed-first : (codes now : List ℕ) (since n x : ℕ) (full : Bool) → IsFilled codes now (since % 256) n x
    → (full || nat_le 256 since) ≡ false → since < 256
    → take (since + n) now ≡ keep_last 256 (ring_of codes since full ++ replicate n x)
pushed-first codes now since n x full is empty below =
    let size = is.size in
    let room = is.room in
    let here : since % 256 ≡ since = omega arith in
    let few : length (take since codes ++ replicate n x) ≤ 256
    = omega (arith, here, room, size, length-append (take since codes) (replicate n x), length-take since codes, length-replicate n x) in
    ap (λ p. take (p + n) now) (sym here)
    ∙ is.front
    ∙ ap (λ p. take p codes ++ replicate n x) here
    ∙ sym (keep-all (take since codes ++ replicate n x) few)
    ∙ ap (λ l. keep_last 256 (l ++ replicate n x)) (sym (ring-first codes since full empty))

-- the 256th pair fills the ring
filled : (codes : List ℕ) (since : ℕ) (full : Bool) → length codes ≡ 256 → since ≡ 256
    → ring_of codes since full ≡ take since codes
filled codes since full size is =
    let place : since % 256 ≡ 0 = omega arith in
    ring-around codes since full (reached full since (omega arith))
    ∙ ap (around codes) place
    ∙ append-nil codes
    ∙ sym (take_all since codes (omega arith))

pushed : (codes now : List ℕ) (since n x : ℕ) (full : Bool) → IsFilled codes now (since % 256) n x
    → ring_of now (since + n) full ≡ keep_last 256 (ring_of codes since full ++ replicate n x)
pushed codes now since n x full is =
    let room = is.room in
    ⊎_elim
    (λ (whole : (full || nat_le 256 since) ≡ true).
    ring-around now (since + n) full (stays full since n whole) ∙ pushed-full codes now since n (since + n) x full is whole refl)
    (λ (part : ((full || nat_le 256 since) ≡ false) × (full ≡ false) × (since < 256)).
    let few : since < 256 = part.2 in
    let most : since + n ≤ 256 = omega (arith, few, room) in
    ⊎_elim
    (λ (last : since + n ≡ 256). filled now (since + n) full is.same last ∙ pushed-first codes now since n x full is part.0 part.2)
    (λ (more : since + n < 256).
    ring-first now (since + n) full (short full (since + n) part.1 more) ∙ pushed-first codes now since n x full is part.0 part.2)
    (eq-or-lt_of_le most))
    (tells full since)

pushed-turn : (codes now : List ℕ) (since n x : ℕ) (full : Bool) → IsFilled codes now (since % 256) n x → since + n ≡ renewal → since < renewal
    → ring_of now 0 true ≡ keep_last 256 (ring_of codes since full ++ replicate n x)
pushed-turn codes now since n x full is last below =
    let room = is.room in
    ring-around now 0 true refl
    ∙ pushed-full codes now since n 0 x full is (reached full since (omega (arith, room, last, below))) (omega (arith, last))

decoded-same : (n x : ℕ) → map decoded (replicate n x) ≡ replicate n (decoded x)
decoded-same zero x = refl
decoded-same (suc n) x = ap (λ l. decoded x ∷ l) (decoded-same n x)

-- the same, of the pairs
with-pairs : (codes now : List ℕ) (n x from to : ℕ) → now ≡ keep_last 256 (codes ++ replicate n x) → decoded x ≡ (from, to)
    → map decoded now ≡ keep_last 256 (map decoded codes ++ replicate n (from, to))
with-pairs codes now n x from to is pair =
    let all : List ℕ = codes ++ replicate n x in
    let pairs : map decoded all ≡ map decoded codes ++ replicate n (from, to)
    = map-append decoded codes (replicate n x) ∙ ap (λ l. map decoded codes ++ l) (decoded-same n x ∙ ap (replicate n) pair) in
    ap (map decoded) is
    ∙ sym (drop-map decoded (length all - 256) all)
    ∙ ap (λ k. drop (k - 256) (map decoded all)) (sym (length-map all decoded))
    ∙ ap (keep_last 256) pairs

pub pairs-pushed : (codes now : List ℕ) (since n x from to : ℕ) (full : Bool) → IsFilled codes now (since % 256) n x → decoded x ≡ (from, to)
    → map decoded (ring_of now (since + n) full) ≡ keep_last 256 (map decoded (ring_of codes since full) ++ replicate n (from, to))
pairs-pushed codes now since n x from to full is pair =
    with-pairs (ring_of codes since full) (ring_of now (since + n) full) n x from to (pushed codes now since n x full is) pair

pub pairs-pushed-turn : (codes now : List ℕ) (since n x from to : ℕ) (full : Bool) → IsFilled codes now (since % 256) n x → decoded x ≡ (from, to)
    → since + n ≡ renewal → since < renewal
    → map decoded (ring_of now 0 true) ≡ keep_last 256 (map decoded (ring_of codes since full) ++ replicate n (from, to))
pairs-pushed-turn codes now since n x from to full is pair last below =
    with-pairs (ring_of codes since full) (ring_of now 0 true) n x from to (pushed-turn codes now since n x full is last below) pair

-- what it does to write one number over a part of the ring
pub part-filled : (codes ys : List ℕ) (p n m x : ℕ) → length codes ≡ 256 → p + n ≤ 256 → m ≡ n
    → length ys ≡ length (mid_of p m codes) → ys ≡ replicate (length (mid_of p m codes)) x → IsFilled codes (put_mid p m codes ys) p n x
part-filled codes ys p n m x size room same many is =
    let within : p ≤ length codes = omega (arith, size, room) in
    let long : length (mid_of p m codes) ≡ n = omega (arith, size, room, same, length-take m (drop p codes), length-drop p codes) in
    record {
      size = size;
      same = same_len_mid p m codes ys many ∙ size;
      room = room;
      front = take-put_mid p m codes ys (p + n) (ap (λ k. p + k) (sym (many ∙ long))) within ∙ ap (λ l. take p codes ++ l) (is ∙ ap (λ k. replicate k x) long);
      behind = drop-put_mid p m codes ys (p + n) (omega (arith, same)) within (many ∙ long ∙ sym same);
    }

pub whole-full : (codes : List ℕ) (since : ℕ) (full : Bool) → since ≡ 0 → full ≡ true → ring_of codes since full ≡ codes
whole-full codes since full begun is =
    ap (λ n. ring_of codes n full) begun ∙ ap (ring_of codes 0) is ∙ ring-around codes 0 true refl ∙ append-nil codes

pub whole-fresh : (codes : List ℕ) (since : ℕ) (full : Bool) → since ≡ 0 → full ≡ false → ring_of codes since full ≡ []
whole-fresh codes since full begun is =
    ap (λ n. ring_of codes n full) begun ∙ ap (ring_of codes 0) is ∙ ring-first codes 0 false refl
