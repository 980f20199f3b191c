-- The tables of words and marks: each word and each mark is listed, so a computation over the list tells of all of them.
use Rattle.std.proofs.Common.{◌≡◌, ℕ, ◌≤◌, ◌<◌, Bool, true, ◌==◌, nat_le, Option, Some, None, List, [], ◌∷◌, take, length, get_or, lit<, refl, sym, ◌∙◌, ap, subst, zero-add}
use Rattle.std.specs.List.{list_all, All, position_or_len, range_with_len}
use Rattle.std.proofs.lemmas.Bool.{eqb-true, leb-true}
use Rattle.std.proofs.lemmas.List.{take_all}
use Rattle.std.proofs.lemmas.List.FromFn.{get_or-range_with_len, length-range_with_len}
use Rattle.std.proofs.lemmas.List.Sums.{AllPass-from_list_all}
use Rattle.std.specs.Str.{bytes_eq}
use Rattle.sp_lex.specs.declared.token.Word.{Word}
use Rattle.sp_lex.specs.declared.token.Word.TheVariants as w
use Rattle.sp_lex.specs.declared.token.Kernel.{Kernel}
use Rattle.sp_lex.specs.declared.token.Kernel.TheVariants as k
use Rattle.sp_lex.specs.Spelling.{is_letter, is_name_byte, heads, spelling, mark}
use Rattle.sp_lex.specs.Reading.{is_mark_byte}

pub none_some : {A : Type 0} (a : A) → None ≡ Some a → ⊥
none_some a e = cc

-- ---- listed items

-- An item stands in a list; `d` is only what is read past its end.
abbrev pub IsListed : {A : Type 0} → List A → A → A → Type 0
IsListed xs d x = (i : ℕ) × (i < length xs) × (get_or xs i d ≡ x)

-- It passes each test that all items pass.
pub listed_passes : {A : Type 0} (p : A → Bool) (xs : List A) (d x : A) → IsListed xs d x → list_all p xs ≡ true → p x ≡ true
listed_passes p xs d x l h = subst (λ z. p z ≡ true) l.2 (AllPass-from_list_all p xs h l.0 d l.1)

-- where the first item stands that is written so
abbrev pub place : {A : Type 0} → (A → List ℕ) → List A → List ℕ → ℕ
place spell xs bytes = position_or_len (λ x. bytes_eq bytes (spell x)) xs

-- whether each item is the first that is written as it is
abbrev pub first_so : {A : Type 0} → (A → List ℕ) → List A → A → Bool
first_so spell xs d = list_all (λ i. place spell xs (spell (get_or xs i d)) == i) (range_with_len 0 (length xs))

place_is : {A : Type 0} (spell : A → List ℕ) (xs : List A) (d : A) → first_so spell xs d ≡ true → (i : ℕ) → i < length xs → place spell xs (spell (get_or xs i d)) ≡ i
place_is spell xs d h i b =
    let there : i < length (range_with_len 0 (length xs)) = subst (λ n. i < n) (sym (length-range_with_len 0 (length xs))) b in
    let is : get_or (range_with_len 0 (length xs)) i 0 ≡ i = get_or-range_with_len 0 (length xs) i 0 b ∙ zero-add i in
    eqb-true _ _ (subst (λ n. (place spell xs (spell (get_or xs n d)) == n) ≡ true) is (AllPass-from_list_all (λ n. place spell xs (spell (get_or xs n d)) == n) (range_with_len 0 (length xs)) h i 0 there))

-- Then two that are written alike are one.
pub listed_once : {A : Type 0} (spell : A → List ℕ) (xs : List A) (d x y : A) → first_so spell xs d ≡ true → IsListed xs d x → IsListed xs d y → spell x ≡ spell y → x ≡ y
listed_once spell xs d x y h l m e =
    let same : l.0 ≡ m.0 = sym (place_is spell xs d h l.0 l.1) ∙ ap (place spell xs) (ap spell l.2 ∙ e ∙ sym (ap spell m.2)) ∙ place_is spell xs d h m.0 m.1 in
    sym l.2 ∙ ap (λ n. get_or xs n d) same ∙ m.2

-- ---- words

abbrev pub words : List Word
words = w.Event ∷ w.Time ∷ w.Pattern ∷ w.Define ∷ w.As ∷ w.Within ∷ w.Events ∷ w.From ∷ w.Every ∷ w.When ∷ w.Select ∷ w.First ∷ w.Last ∷ w.Each ∷ w.Consume ∷ w.All ∷ w.None ∷ w.Set ∷ w.Int ∷ w.Dec ∷ w.Text ∷ w.And ∷ w.Or ∷ w.Not ∷ []

listed : (word : Word) → IsListed words w.Event word
listed w.Event = (0, lit< tt, refl)
listed w.Time = (1, lit< tt, refl)
listed w.Pattern = (2, lit< tt, refl)
listed w.Define = (3, lit< tt, refl)
listed w.As = (4, lit< tt, refl)
listed w.Within = (5, lit< tt, refl)
listed w.Events = (6, lit< tt, refl)
listed w.From = (7, lit< tt, refl)
listed w.Every = (8, lit< tt, refl)
listed w.When = (9, lit< tt, refl)
listed w.Select = (10, lit< tt, refl)
listed w.First = (11, lit< tt, refl)
listed w.Last = (12, lit< tt, refl)
listed w.Each = (13, lit< tt, refl)
listed w.Consume = (14, lit< tt, refl)
listed w.All = (15, lit< tt, refl)
listed w.None = (16, lit< tt, refl)
listed w.Set = (17, lit< tt, refl)
listed w.Int = (18, lit< tt, refl)
listed w.Dec = (19, lit< tt, refl)
listed w.Text = (20, lit< tt, refl)
listed w.And = (21, lit< tt, refl)
listed w.Or = (22, lit< tt, refl)
listed w.Not = (23, lit< tt, refl)

pub word_begins : (word : Word) → heads is_letter (spelling word) ≡ true
word_begins word = listed_passes (λ x. heads is_letter (spelling x)) words w.Event word (listed word) refl

pub word_all : (word : Word) → list_all is_name_byte (spelling word) ≡ true
word_all word = listed_passes (λ x. list_all is_name_byte (spelling x)) words w.Event word (listed word) refl

-- two words that are written alike are one
pub same_word : (one other : Word) → spelling one ≡ spelling other → one ≡ other
same_word one other e = listed_once spelling words w.Event one other refl (listed one) (listed other) e

-- what holds of each of the words in turn holds of every word
pub all_words : (P : Word → Type 0) (i : ℕ) → 24 ≤ i → All P (take i words) → (word : Word) → P word
all_words P i h all word =
    let l = listed word in
    let each : All P words = subst (All P) (take_all i words h) all in
    subst P l.2 (each l.0 w.Event l.1)

-- ---- marks

abbrev pub marks : List Kernel
marks = k.LeftRound ∷ k.RightRound ∷ k.LeftSquare ∷ k.RightSquare ∷ k.Comma ∷ k.Dot ∷ k.Plus ∷ k.Minus ∷ k.Star ∷ k.Bang ∷ k.Equal ∷ k.Unequal ∷ k.Less ∷ k.AtMost ∷ k.Greater ∷ k.AtLeast ∷ []

marked : (kernel : Kernel) (f : List ℕ) → mark kernel ≡ Some f → IsListed marks k.Comma kernel
marked k.LeftRound f e = (0, lit< tt, refl)
marked k.RightRound f e = (1, lit< tt, refl)
marked k.LeftSquare f e = (2, lit< tt, refl)
marked k.RightSquare f e = (3, lit< tt, refl)
marked k.Comma f e = (4, lit< tt, refl)
marked k.Dot f e = (5, lit< tt, refl)
marked k.Plus f e = (6, lit< tt, refl)
marked k.Minus f e = (7, lit< tt, refl)
marked k.Star f e = (8, lit< tt, refl)
marked k.Bang f e = (9, lit< tt, refl)
marked k.Equal f e = (10, lit< tt, refl)
marked k.Unequal f e = (11, lit< tt, refl)
marked k.Less f e = (12, lit< tt, refl)
marked k.AtMost f e = (13, lit< tt, refl)
marked k.Greater f e = (14, lit< tt, refl)
marked k.AtLeast f e = (15, lit< tt, refl)
marked _ f e = absurd (none_some f e)

-- the bytes of a mark
abbrev pub bytes_of : Option (List ℕ) → List ℕ
bytes_of None = []
bytes_of (Some f) = f

-- a mark's bytes pass each test that the bytes of all marks pass
pub mark_passes : (p : List ℕ → Bool) → list_all (λ x. p (bytes_of (mark x))) marks ≡ true → (kernel : Kernel) (f : List ℕ) → mark kernel ≡ Some f → p f ≡ true
mark_passes p h kernel f e = ap (λ o. p (bytes_of o)) (sym e) ∙ listed_passes (λ x. p (bytes_of (mark x))) marks k.Comma kernel (marked kernel f e) h

pub mark_begins : (kernel : Kernel) (f : List ℕ) → mark kernel ≡ Some f → heads is_mark_byte f ≡ true
mark_begins = mark_passes (heads is_mark_byte) refl

pub mark_short : (kernel : Kernel) (f : List ℕ) → mark kernel ≡ Some f → length f ≤ 2
mark_short kernel f e = leb-true (length f) 2 (mark_passes (λ bytes. nat_le (length bytes) 2) refl kernel f e)

-- two marks that are written alike are one
pub same_mark : (one other : Kernel) (f : List ℕ) → mark one ≡ Some f → mark other ≡ Some f → one ≡ other
same_mark one other f e d = listed_once (λ x. bytes_of (mark x)) marks k.Comma one other refl (marked one f e) (marked other f d) (ap bytes_of (e ∙ sym d))
