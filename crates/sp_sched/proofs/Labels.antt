-- Labels as texts.
use Rattle.std.proofs.Common.{◌≡◌, ◌≢◌, ℕ, ◌+◌, ◌<◌, ◌≤◌, ◌^◌, false, List, [], ◌∷◌, ◌++◌, map, length, get_or, take, refl, sym, ◌∙◌, ap, subst, arith, append-nil, Option, Some, None, Result, Ok, Err}
use Rattle.std.specs.Prelude.{codes, IfOk, IfSome, IsSome, IsNone}
use Rattle.std.specs.List.{All, join_with_byte}
use Rattle.std.specs.Fmt.{decimal}
use Rattle.std.proofs.lemmas.List.{map-append, take_more, length-map, get_or-map}
use Rattle.std.proofs.Math.Seq.{take-length}
use Rattle.std.proofs.lemmas.List.Elements.{All-nil, All-push, All-get_or, All-head, All-tail, All-weaker}
use Rattle.std.proofs.lemmas.List.Splits.{slice_split_none}
use Rattle.std.proofs.lemmas.Fmt.{decimal_injective}
use Rattle.sp_base.specs.Commas.{commas, list_text}
use Rattle.sp_group.specs.Rising.{IsLabel}
use Rattle.sp_sched.specs.Reading.{Answers, IsNumberText, AreCommaText, AreRunsText, parts}
use Rattle.sp_sched.proofs.Parts.{is_mark, parts_some, joined, front_part}
use Rattle.sp_sched.proofs.Numbers.{decimal_free}

abbrev IsShort : ℕ → Type 0
IsShort n = n ≤ 4294967295

long : (n : ℕ) → IsShort n → n < 2 ^ 64
long n h = omega arith

free : (n : ℕ) → IsShort n → All (λ b. is_mark 44 b ≡ false) (decimal n)
free n h = decimal_free 44 n (omega arith) (omega arith)

-- The numbers of the first parts of a text.
pub record Going (text numbers : List ℕ) (read : ℕ) : Type 0 where
  pub some : All (λ n. 1 ≤ n) numbers
  pub small : All (λ n. n ≤ 4294967295) numbers
  pub is : map decimal numbers ≡ take read (parts 44 text)

pub sets_out : (text numbers : List ℕ) → numbers ≡ [] → Going text numbers 0
sets_out text numbers e = subst (λ (l : List ℕ). Going text l 0) (sym e) (record { some = All-nil (λ n. 1 ≤ n); small = All-nil (λ n. n ≤ 4294967295); is = refl })

module _ (text : List ℕ) (read : ℕ) (part : List ℕ) (turn : (read < length (parts 44 text)) × (part ≡ get_or (parts 44 text) read part)) (most : ℕ) (top : most ≡ 4294967295) where
  -- a part that is no number
  pub none_at : ((n : ℕ) → IsNumberText most part n → ⊥) → (numbers : List ℕ) → AreCommaText text numbers → ⊥
  none_at none numbers a =
      let inside : read < length numbers = omega (arith, turn.0, ap length a.is, length-map numbers decimal) in
      none (get_or numbers read 0) (record {
        some = All-get_or (λ n. 1 ≤ n) numbers read 0 inside a.some;
        within = let w = All-get_or (λ n. n ≤ 4294967295) numbers read 0 inside a.small in omega arith;
        is = sym (get_or-map decimal numbers read 0 part inside) ∙ ap (λ (l : List (List ℕ)). get_or l read part) a.is ∙ sym turn.1;
      })

  pub goes : (numbers items : List ℕ) (n next : ℕ) → Going text numbers read → IsNumberText most part n → items ≡ numbers ++ n ∷ [] → next ≡ read + 1 → Going text items next
  goes numbers items n next g a e f = subst (λ (l : List ℕ). Going text l next) (sym e) (subst (λ (k : ℕ). Going text (numbers ++ n ∷ []) k) (sym f) (record {
    some = All-push (λ n. 1 ≤ n) numbers n g.some a.some;
    small = All-push (λ n. n ≤ 4294967295) numbers n g.small (let w : n ≤ most = a.within in omega arith);
    is = map-append decimal numbers (n ∷ []) ∙ (λ i. g.is i ++ (a.is ∙ turn.1) i ∷ []) ∙ sym (take_more (parts 44 text) read part turn.0);
  }))

pub arrives : (text numbers : List ℕ) (read : ℕ) → Going text numbers read → read ≡ length (parts 44 text) → AreCommaText text numbers
arrives text numbers read g e = record { some = g.some; small = g.small; is = g.is ∙ ap (λ (k : ℕ). take k (parts 44 text)) e ∙ take-length (parts 44 text) }

-- ---- runs and their text

-- numbers, joined by commas
joined_commas : (n : ℕ) (ns : List ℕ) → join_with_byte 44 (map decimal (n ∷ ns)) ≡ commas (n ∷ ns)
joined_commas n [] = sym (append-nil (decimal n))
joined_commas n (m ∷ ns) = ap (λ (l : List ℕ). decimal n ++ 44 ∷ l) (joined_commas m ns)

comma_parts : (n : ℕ) (ns : List ℕ) → All IsShort (n ∷ ns) → map decimal (n ∷ ns) ≡ parts 44 (commas (n ∷ ns))
comma_parts n [] all = sym (ap (parts 44) (append-nil (decimal n)) ∙ slice_split_none (is_mark 44) (decimal n) (free n (All-head IsShort n [] all)))
comma_parts n (m ∷ ns) all =
    ap (λ (l : List (List ℕ)). decimal n ∷ l) (comma_parts m ns (All-tail IsShort n (m ∷ ns) all)) ∙ sym (front_part 44 (decimal n) (commas (m ∷ ns)) (free n (All-head IsShort n (m ∷ ns) all)))

-- numbers are known by their texts
same_numbers : (ms ns : List ℕ) → All IsShort ms → All IsShort ns → map decimal ms ≡ map decimal ns → ms ≡ ns
same_numbers [] [] a b e = refl
same_numbers [] (n ∷ ns) a b e = cc
same_numbers (m ∷ ms) [] a b e = cc
same_numbers (m ∷ ms) (n ∷ ns) a b e =
    let head : m ≡ n = decimal_injective m n (long m (All-head IsShort m ms a)) (long n (All-head IsShort n ns b)) (cc) in
    let tail = same_numbers ms ns (All-tail IsShort m ms a) (All-tail IsShort n ns b) (cc) in
    λ i. head i ∷ tail i

no_text : (text : List ℕ) → AreCommaText text [] → ⊥
no_text text a = parts_some 44 text (sym a.is)

-- runs that a text names stand in it, joined by commas
runs_joined : (text : List ℕ) (n : ℕ) (ns : List ℕ) → AreRunsText text (n ∷ ns) → AreCommaText text (n ∷ ns)
runs_joined text n ns a = record {
  some = All-weaker (λ r. r ≢ 0) (λ r. 1 ≤ r) (λ r h. omega arith) (n ∷ ns) a.are.0.given;
  small = All-weaker (λ r. r < 2 ^ 32) IsShort (λ r h. omega arith) (n ∷ ns) a.are.1;
  is = comma_parts n ns (All-weaker (λ r. r < 2 ^ 32) IsShort (λ r h. omega arith) (n ∷ ns) a.are.1) ∙ ap (parts 44) a.is;
}

pub none_named : (text : List ℕ) → text ≢ codes "-" → ((numbers : List ℕ) → AreCommaText text numbers → ⊥) → (runs : List ℕ) → AreRunsText text runs → ⊥
none_named text dash none [] a = dash (sym a.is)
none_named text dash none (n ∷ ns) a = none (n ∷ ns) (runs_joined text n ns a)

pub dash_named : (text runs : List ℕ) → text ≡ codes "-" → runs ≡ [] → AreRunsText text runs
dash_named text runs e f = subst (λ (l : List ℕ). AreRunsText text l) (sym f) (record {
  are = (record { rising = λ k h. absurd (omega arith); given = All-nil (λ r. r ≢ 0) }, All-nil (λ r. r < 2 ^ 32));
  is = sym e;
})

module _ (text numbers : List ℕ) (a : AreCommaText text numbers) where
  pub named : IsLabel numbers → AreRunsText text numbers
  named label = record { are = (label, All-weaker IsShort (λ r. r < 2 ^ 32) (λ r h. omega arith) numbers a.small); is = is numbers a }
    where
      is : (ns : List ℕ) → AreCommaText text ns → list_text ns ≡ text
      is [] b = absurd (no_text text b)
      is (n ∷ ns) b = sym (joined_commas n ns) ∙ ap (join_with_byte 44) b.is ∙ joined 44 text

  pub not_named : text ≢ codes "-" → (IsLabel numbers → ⊥) → (runs : List ℕ) → AreRunsText text runs → ⊥
  not_named dash unlabelled [] b = dash (sym b.is)
  not_named dash unlabelled (n ∷ ns) b =
      let j = runs_joined text n ns b in
      unlabelled (subst (λ (l : List ℕ). IsLabel l) (same_numbers (n ∷ ns) numbers j.small a.small (j.is ∙ sym a.is)) b.are.0)

-- what `Label::new` says of numbers that a text joins by commas
pub label_answered : (text numbers given : List ℕ) → AreCommaText text numbers → given ≡ numbers → text ≢ codes "-" → {E : Type 0} (r : Result (Option (List ℕ)) E)
    → IfOk r (λ label. IfSome label (λ l. l ≡ given)) → IfOk r (λ label. IsSome label → IsLabel given) → IfOk r (λ label. IsNone label → ¬ IsLabel given)
    → IfOk r (Answers (AreRunsText text))
label_answered text numbers given a e dash (Ok (Some label)) value some none =
    subst (λ (l : List ℕ). AreRunsText text l) (sym e ∙ sym value) (named text numbers a (subst (λ (l : List ℕ). IsLabel l) e (some refl)))
label_answered text numbers given a e dash (Ok None) value some none = not_named text numbers a dash (λ label. none refl (subst (λ (l : List ℕ). IsLabel l) (sym e) label))
label_answered text numbers given a e dash (Err err) value some none = tt
