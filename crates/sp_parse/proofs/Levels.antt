-- Phrases that hold themselves one level deeper: behind a mark, or between two marks.
use Rattle.std.proofs.Common.{◌≡◌, ◌≢◌, ◌-◌, ℕ, Bool, true, false, List, [], ◌∷◌, length, Option, is_some, Result, refl, ◌∙◌}
use Rattle.sp_lex.specs.declared.token.Token.{Token}
use Rattle.sp_lex.specs.declared.token.Kernel.{Kernel}
use Rattle.sp_query.specs.declared.mark.Mark.{Mark}
use Rattle.sp_query.specs.declared.tree.Tree.{Tree}
use Rattle.sp_query.specs.declared.tree.Node.{Node}
use Rattle.sp_query.specs.Phrase.{One, Both, Either, left, right}
use Rattle.sp_query.specs.Grammar.{tree, kernel, mark, Applied, Between}
use Rattle.sp_parse.specs.declared.stop.Stop.{Stop}
use Rattle.sp_parse.specs.Reads.{Deeper, heads, never, reads_as, among, deep, Stuck, Answers, head_as}
use Rattle.sp_parse.proofs.Reading as r
use Rattle.sp_parse.proofs.Reading.{Begins}
use Rattle.sp_parse.proofs.Marks.{other}
use Rattle.sp_parse.proofs.Nested as d
use Rattle.sp_parse.proofs.Nested.{Some_of}
use Rattle.sp_parse.proofs.Forms as f

-- what a mark makes of its operand
abbrev pub applied : Node → List Token → Unit {0} × Tree → Tree
applied node tokens p = tree node (p.1 ∷ []) tokens

-- ---- plain, or behind a mark, or between two marks

pub turned : (a b : Bool) → (a ≡ true → b ≡ false) → b ≡ true → a ≡ false
turned true b f h = let i : b ≡ false = f refl in absurd cc
turned false b f h = refl

-- tokens of a kind begin no phrase that begins otherwise
head_out : (f : Kernel → Option (Unit {0})) (F : Token → Bool) → ((x : Token) → is_some (f x.kernel) ≡ true → F x ≡ false) → (s : List Token) → is_some (head_as (kernel f) s) ≡ true → heads F s ≡ false
head_out f F apart [] h = refl
head_out f F apart (t ∷ s) h = apart t h

-- The one or the other, one level deeper.
abbrev pub Held : Mark → Node → Mark → Mark → (ℕ → List Token → Tree → Type 0) → (ℕ → List Token → Tree → Type 0) → ℕ → List Token → Tree → Type 0
Held which node opens closes X I = λ n. Either (Applied which node (X n)) (Between opens (I n) closes)

-- X is B, or X behind a mark, or I between two marks. C are the tokens that go on with an X, and D with an I; each B begins with one of F.
module _ (X B I : ℕ → List Token → Tree → Type 0) (which : Mark) (node : Node) (opens closes : Mark) (C D F : Token → Bool)
    (to : (n : ℕ) (u : List Token) (a : Tree) → Either (B n) (Deeper (Held which node opens closes X I) n) u a → X n u a)
    (from : (n : ℕ) (u : List Token) (a : Tree) → X n u a → Either (B n) (Deeper (Held which node opens closes X I) n) u a)
    (base : Begins F B) (some_plain : Some_of B) (some_inside : Some_of I) (out : (x : Token) → is_some (mark closes x.kernel) ≡ true → D x ≡ false)
    (which_out : (x : Token) → is_some (mark which x.kernel) ≡ true → F x ≡ false) (opens_out : (x : Token) → is_some (mark opens x.kernel) ≡ true → F x ≡ false)
    (apart : (x : Kernel) → is_some (mark which x) ≡ true → is_some (mark opens x) ≡ false) where
  some_held : Some_of X
  some_held n = ((some_plain n).0, (some_plain n).1, to n (some_plain n).0 (some_plain n).1 (left (some_plain n).2))

  turned_apart : (x : Kernel) → is_some (mark opens x) ≡ true → is_some (mark which x) ≡ false
  turned_apart x h = turned (is_some (mark which x)) (is_some (mark opens x)) (apart x) h

  abbrev pub held_head : Token → Bool
  held_head = among (reads_as (kernel (mark which))) (reads_as (kernel (mark opens)))

  applied_begins : Begins (reads_as (kernel (mark which))) (λ n. Applied which node (X n))
  applied_begins = d.prefix_begins which X C some_held (applied node)

  within_begins : Begins (reads_as (kernel (mark opens))) (λ n. Between opens (I n) closes)
  within_begins = f.between_begins opens I closes D some_inside out

  pub held_begins : Begins held_head (Held which node opens closes X I)
  held_begins = r.either_begins (reads_as (kernel (mark which))) (reads_as (kernel (mark opens))) (λ n. Applied which node (X n)) (λ n. Between opens (I n) closes) applied_begins within_begins

  pub any_begins : Begins (among F held_head) X
  any_begins n u a x = r.either_begins F held_head B (Deeper (Held which node opens closes X I)) base (r.deeper_begins held_head (Held which node opens closes X I) held_begins) n u a (from n u a x)

  module _ {Y : Type 0} (s : List Token) (view : Y → Tree × List Token) (y : Result Y Stop) (room : ℕ) where
    pub at_mark : room ≢ 0 → is_some (head_as (kernel (mark which)) s) ≡ true → Answers (λ n. Applied which node (X n)) C (room - 1) s view y → Answers X C room s view y
    at_mark h is a = d.nested_inner X B (Held which node opens closes X I) C F held_head to from base held_begins s view y room (head_out (mark which) F which_out s is) h
        (r.answers_as (λ n. Applied which node (X n)) (Held which node opens closes X I) C C (room - 1) (room - 1) s s view y
        (λ rest b x. r.left_found (λ n. Applied which node (X n)) (λ n. Between opens (I n) closes) C (reads_as (kernel (mark opens))) (room - 1) s rest b within_begins (other (mark which) (mark opens) apart s is) x)
        (λ f rest x. r.left_stuck (λ n. Applied which node (X n)) (λ n. Between opens (I n) closes) C (reads_as (kernel (mark opens))) (room - 1) s rest f within_begins (other (mark which) (mark opens) apart s is) x)
        a)

    pub at_opening : room ≢ 0 → is_some (head_as (kernel (mark opens)) s) ≡ true → Answers (λ n. Between opens (I n) closes) never (room - 1) s view y → Answers X C room s view y
    at_opening h is a = d.nested_inner X B (Held which node opens closes X I) C F held_head to from base held_begins s view y room (head_out (mark opens) F opens_out s is) h
        (r.answers_as (λ n. Between opens (I n) closes) (Held which node opens closes X I) never C (room - 1) (room - 1) s s view y
        (λ rest b x. r.right_found (λ n. Applied which node (X n)) (λ n. Between opens (I n) closes) C (reads_as (kernel (mark which))) (room - 1) s rest b applied_begins (other (mark opens) (mark which) turned_apart s is)
        (r.found_within (λ n. Between opens (I n) closes) never C (room - 1) s rest b (λ v _. r.heads_never v) x))
        (λ f rest x. r.right_stuck (λ n. Applied which node (X n)) (λ n. Between opens (I n) closes) C (reads_as (kernel (mark which))) (room - 1) s rest f applied_begins (other (mark opens) (mark which) turned_apart s is)
        (r.stuck_within (λ n. Between opens (I n) closes) never C (room - 1) s rest f (λ v _. r.heads_never v) x))
        a)

    pub at_plain : is_some (head_as (kernel (mark which)) s) ≡ false → is_some (head_as (kernel (mark opens)) s) ≡ false → Answers B C room s view y → Answers X C room s view y
    at_plain no_mark no_opening a = d.nested_base X B (Held which node opens closes X I) C F held_head to from base held_begins s view y room
        (r.among_neither (reads_as (kernel (mark which))) (reads_as (kernel (mark opens))) s (r.head_test (kernel (mark which)) s ∙ no_mark) (r.head_test (kernel (mark opens)) s ∙ no_opening)) a

  pub full_mark : (s : List Token) (room : ℕ) → room ≡ 0 → is_some (head_as (kernel (mark which)) s) ≡ true → (x : List Token) × (length x ≡ length s) × Stuck X C room s deep x
  full_mark [] room e is = absurd cc
  full_mark (t ∷ s) room e is = d.nested_full X B (Held which node opens closes X I) C F to from base some_plain (t ∷ s) room e (head_out (mark which) F which_out (t ∷ s) is)
      (some_held 0).0 (applied node (t ∷ (some_held 0).0) (tt, (some_held 0).1)) refl
      (left (record { of = (tt, (some_held 0).1); is = refl; phrase = record { front = t ∷ []; back = (some_held 0).0; cut = refl; left = record { token = t; alone = refl; is = r.unit_of (kernel (mark which)) t is }; right = (some_held 0).2 } }))

  some_behind : Some_of (λ n. Both (I n) (One (kernel (mark closes))))
  some_behind = d.some_closed closes I D some_inside out

  pub full_opening : (s : List Token) (room : ℕ) → room ≡ 0 → is_some (head_as (kernel (mark opens)) s) ≡ true → (x : List Token) × (length x ≡ length s) × Stuck X C room s deep x
  full_opening [] room e is = absurd cc
  full_opening (t ∷ s) room e is = d.nested_full X B (Held which node opens closes X I) C F to from base some_plain (t ∷ s) room e (head_out (mark opens) F opens_out (t ∷ s) is)
      (some_behind 0).0 (some_behind 0).1.0 refl
      (right (record { of = (tt, (some_behind 0).1); is = refl; phrase = record { front = t ∷ []; back = (some_behind 0).0; cut = refl; left = record { token = t; alone = refl; is = r.unit_of (kernel (mark opens)) t is }; right = (some_behind 0).2 } }))
