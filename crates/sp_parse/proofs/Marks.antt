-- Single tokens.
use Rattle.std.proofs.Common.{◌≡◌, ℕ, true, false, List, [], ◌∷◌, Option, Some, is_some, refl}
use Rattle.sp_lex.specs.declared.token.Token.{Token}
use Rattle.sp_lex.specs.declared.token.Kernel.{Kernel}
use Rattle.sp_lex.specs.declared.token.Kernel.TheVariants as k
use Rattle.sp_lex.specs.declared.token.Word.TheVariants as w
use Rattle.sp_query.specs.declared.mark.Mark.{Mark}
use Rattle.sp_query.specs.declared.mark.Mark.TheVariants as m
use Rattle.sp_parse.specs.declared.stop.Stop.{Stop}
use Rattle.sp_query.specs.Phrase.{One}
use Rattle.sp_query.specs.Grammar.{kernel, mark, name}
use Rattle.sp_parse.specs.Reads.{heads, never, reads_as, Found, Stops, TakesNone, head_as}
use Rattle.sp_parse.proofs.Reading as r

abbrev pub sample : Kernel → Token
sample kernel = record { kernel = kernel; span = record { from = 0; to = 0 } }

abbrev pub mark_kernel : Mark → Kernel
mark_kernel m.LeftRound = k.LeftRound
mark_kernel m.RightRound = k.RightRound
mark_kernel m.LeftSquare = k.LeftSquare
mark_kernel m.RightSquare = k.RightSquare
mark_kernel m.Comma = k.Comma
mark_kernel m.Dot = k.Dot
mark_kernel m.Plus = k.Plus
mark_kernel m.Minus = k.Minus
mark_kernel m.Bang = k.Bang
mark_kernel m.Event = k.Word w.Event
mark_kernel m.Time = k.Word w.Time
mark_kernel m.Pattern = k.Word w.Pattern
mark_kernel m.Set = k.Word w.Set
mark_kernel m.Define = k.Word w.Define
mark_kernel m.As = k.Word w.As
mark_kernel m.Within = k.Word w.Within
mark_kernel m.From = k.Word w.From
mark_kernel m.Every = k.Word w.Every
mark_kernel m.When = k.Word w.When
mark_kernel m.Select = k.Word w.Select
mark_kernel m.Consume = k.Word w.Consume
mark_kernel m.Dec = k.Word w.Dec
mark_kernel m.Not = k.Word w.Not

pub mark_sample : (mark_ : Mark) → mark mark_ (mark_kernel mark_) ≡ Some tt
mark_sample m.LeftRound = refl
mark_sample m.RightRound = refl
mark_sample m.LeftSquare = refl
mark_sample m.RightSquare = refl
mark_sample m.Comma = refl
mark_sample m.Dot = refl
mark_sample m.Plus = refl
mark_sample m.Minus = refl
mark_sample m.Bang = refl
mark_sample m.Event = refl
mark_sample m.Time = refl
mark_sample m.Pattern = refl
mark_sample m.Set = refl
mark_sample m.Define = refl
mark_sample m.As = refl
mark_sample m.Within = refl
mark_sample m.From = refl
mark_sample m.Every = refl
mark_sample m.When = refl
mark_sample m.Select = refl
mark_sample m.Consume = refl
mark_sample m.Dec = refl
mark_sample m.Not = refl

-- one token that is read as this
abbrev pub IsOne : {A : Type 0} → (Kernel → Option A) → List Token → A → List Token → Type 0
IsOne f s a rest = (t : Token) × (s ≡ t ∷ rest) × (f t.kernel ≡ Some a)

pub one_found : {A : Type 0} (f : Kernel → Option A) (room : ℕ) (s rest : List Token) (a : A) → IsOne f s a rest → Found (λ _. One (kernel f)) never room s a rest
one_found f room s rest a h = r.taken_found (kernel f) room s rest a h

pub mark_stops : (mark_ : Mark) (room : ℕ) (s : List Token) (e : Stop) → TakesNone (kernel (mark mark_)) s e → Stops (λ _. One (kernel (mark mark_))) never room s e
mark_stops mark_ room s e h = r.untaken_stops (kernel (mark mark_)) (sample (mark_kernel mark_)) tt (mark_sample mark_) room s e h

pub name_stops : (room : ℕ) (s : List Token) (e : Stop) → TakesNone (kernel name) s e → Stops (λ _. One (kernel name)) never room s e
name_stops room s e h = r.untaken_stops (kernel name) (sample (k.Name [])) [] refl room s e h

pub some_one : {A : Type 0} (f : Kernel → Option A) (kernel_ : Kernel) (a : A) → f kernel_ ≡ Some a → (n : ℕ) → (y : List Token) × (b : A) × One (kernel f) y b
some_one f kernel_ a e n = (sample kernel_ ∷ [], a, record { token = sample kernel_; alone = refl; is = e })

-- tokens of one kind are of no other
pub other : {A B : Type 0} (f : Kernel → Option A) (g : Kernel → Option B) → ((x : Kernel) → is_some (f x) ≡ true → is_some (g x) ≡ false) → (s : List Token) → is_some (head_as (kernel f) s) ≡ true
    → heads (reads_as (kernel g)) s ≡ false
other f g apart [] h = refl
other f g apart (t ∷ s) h = apart t.kernel h
