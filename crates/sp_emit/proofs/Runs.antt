-- Runs of bytes in front of texts.
use Rattle.std.proofs.Common.{◌≡◌, ℕ, Bool, true, false, ◌&&◌, ◌||◌, ◌==◌, List, [], ◌∷◌, ◌++◌, refl}
use Rattle.std.specs.List.{list_all}
use Rattle.sp_emit.specs.Reading.{heads, is_digit, goes_on}

pub and_left : (a b : Bool) → (a && b) ≡ true → a ≡ true
and_left true b h = refl
and_left false b h = cc

and_right : (a b : Bool) → (a && b) ≡ true → b ≡ true
and_right true b h = h
and_right false b h = cc

or_left : (a b : Bool) → (a || b) ≡ false → a ≡ false
or_left true b h = cc
or_left false b h = refl

-- two runs in front of one text are one
pub same_run : (p : ℕ → Bool) (f rest g r : List ℕ) → list_all p f ≡ true → list_all p g ≡ true → heads p rest ≡ false → heads p r ≡ false → f ++ rest ≡ g ++ r → f ≡ g
same_run p [] rest [] r a b c d e = refl
same_run p [] [] (y ∷ g) r a b c d e = absurd cc
same_run p [] (x ∷ rest) (y ∷ g) r a b c d e =
    let i : x ≡ y = cc in
    let j : p y ≡ true = and_left (p y) (list_all p g) b in
    absurd cc
same_run p (x ∷ f) rest [] [] a b c d e = absurd cc
same_run p (x ∷ f) rest [] (y ∷ r) a b c d e =
    let i : x ≡ y = cc in
    let j : p x ≡ true = and_left (p x) (list_all p f) a in
    absurd cc
same_run p (x ∷ f) rest (y ∷ g) r a b c d e =
    let h : f ≡ g = same_run p f rest g r (and_right (p x) (list_all p f) a) (and_right (p y) (list_all p g) b) c d cc in
    let i : x ≡ y = cc in
    cc

-- what ends a list ends its last number
pub ends_number : (r : List ℕ) → heads goes_on r ≡ false → heads is_digit r ≡ false
ends_number [] h = refl
ends_number (b ∷ r) h = or_left (is_digit b) (b == 44) h
