-- What options say of numbers, one behind another.
use Rattle.std.proofs.Common.{◌≡◌, ◌∙◌, ◌<◌, ◌+◌, ℕ, zero, suc, List, [], ◌∷◌, ◌++◌, Option, Some, None, length, get_or, set, map, take, refl, sym, ap, ap₂, arith}
use Rattle.std.specs.Prelude.{fold}
use Rattle.std.proofs.lemmas.List.{take_more, take_more_set, map-append}
use Rattle.std.proofs.lemmas.List.Sums.{fold-append}
use Rattle.clap.specs.Words.{App}
use Rattle.sp_cli.specs.Numbers.{NumberOption, number_said, put_number, numbers_said}
use Rattle.sp_cli.specs.Options.{with_number}
use Rattle.sp_cli.specs.Commands.{number_seen}
use Rattle.sp_cli.specs.declared.values.NumberOption.{NumberOption as FoundNumber}

-- the options of one number more
pub options_more : (before old new : App) (xs : List FoundNumber) (i : ℕ) (d : FoundNumber) → i < length xs → new ≡ with_number old (number_seen (get_or xs i d))
    → old ≡ fold with_number before (map number_seen (take i xs)) → new ≡ fold with_number before (map number_seen (take (i + 1) xs))
options_more before old new xs i d low is was =
    is ∙ ap (λ (app : App). with_number app (number_seen (get_or xs i d))) was
    ∙ sym (fold-append with_number before (map number_seen (take i xs)) (number_seen (get_or xs i d) ∷ []))
    ∙ ap (fold with_number before) (sym (map-append number_seen (take i xs) (get_or xs i d ∷ [])))
    ∙ ap (λ (l : List FoundNumber). fold with_number before (map number_seen l)) (sym (take_more xs i d low))

abbrev one_more : Option (List ℕ) → Option ℕ → Option (List ℕ)
one_more (Some numbers) (Some n) = Some (numbers ++ n ∷ [])
one_more _ _ = None

module _ (text_of : List ℕ → Option (List ℕ)) where
  abbrev said : NumberOption → Option ℕ
  said one = number_said one (text_of one.name)

  first : (a : Option ℕ) → put_number a (Some []) ≡ one_more (Some []) a
  first None = refl
  first (Some n) = refl

  behind : (b a : Option ℕ) (s : Option (List ℕ)) → put_number b (one_more s a) ≡ one_more (put_number b s) a
  behind None a s = refl
  behind (Some n) None None = refl
  behind (Some n) None (Some numbers) = refl
  behind (Some n) (Some m) None = refl
  behind (Some n) (Some m) (Some numbers) = refl

  said_behind : (ones : List NumberOption) (one : NumberOption) → numbers_said text_of (ones ++ one ∷ []) ≡ one_more (numbers_said text_of ones) (said one)
  said_behind [] one = first (said one)
  said_behind (x ∷ ones) one = ap (put_number (said x)) (said_behind ones one) ∙ behind (said x) (said one) (numbers_said text_of ones)

  -- the numbers of one option more, whose number is written behind those of the options before it
  pub said_more : (xs : List FoundNumber) (numbers : List ℕ) (i n : ℕ) (d : FoundNumber) → i < length xs → i < length numbers
      → numbers_said text_of (map number_seen (take i xs)) ≡ Some (take i numbers) → said (number_seen (get_or xs i d)) ≡ Some n
      → numbers_said text_of (map number_seen (take (i + 1) xs)) ≡ Some (take (i + 1) (set numbers i n))
  said_more xs numbers i n d low short before says =
      ap (λ (l : List FoundNumber). numbers_said text_of (map number_seen l)) (take_more xs i d low)
      ∙ ap (numbers_said text_of) (map-append number_seen (take i xs) (get_or xs i d ∷ []))
      ∙ said_behind (map number_seen (take i xs)) (number_seen (get_or xs i d)) ∙ ap₂ one_more before says
      ∙ ap (λ (l : List ℕ). Some l) (sym (take_more_set numbers i n short))

  nothing : (a : Option ℕ) → put_number a None ≡ None
  nothing None = refl
  nothing (Some n) = refl

  -- where one option says none, they say none
  pub said_none : (xs : List FoundNumber) (i : ℕ) (d : FoundNumber) → i < length xs → said (number_seen (get_or xs i d)) ≡ None
      → numbers_said text_of (map number_seen xs) ≡ None
  said_none [] i d low none = absurd (omega (arith, low))
  said_none (y ∷ ys) zero d low none = ap (λ (a : Option ℕ). put_number a (numbers_said text_of (map number_seen ys))) none
  said_none (y ∷ ys) (suc i) d low none = ap (put_number (said (number_seen y))) (said_none ys i d (omega (arith, low)) none) ∙ nothing (said (number_seen y))
