-- Items of what matches return.
use Rattle.std.proofs.Common.{◌≡◌, ◌++◌, ℕ, true, false, List, [], ◌∷◌, is_some, refl}
use Rattle.sp_lex.specs.declared.token.Token.{Token}
use Rattle.sp_lex.specs.declared.token.Word.TheVariants as w
use Rattle.sp_lex.specs.declared.token.Kernel.{Kernel}
use Rattle.sp_lex.specs.declared.token.Kernel.TheVariants as k
use Rattle.sp_query.specs.declared.mark.Mark.TheVariants as m
use Rattle.sp_query.specs.declared.tree.Tree.{Tree}
use Rattle.sp_query.specs.declared.query.Ident.{Ident}
use Rattle.sp_query.specs.Phrase.{Both}
use Rattle.sp_query.specs.Grammar.{kernel, mark, After, Name, Sum}
use Rattle.sp_parse.specs.declared.stop.Stop.{Stop}
use Rattle.sp_parse.specs.Follow.{after_sum}
use Rattle.sp_parse.specs.Reads.{heads, never, reads_as, Found, Fault, Stuck, Stops}
use Rattle.sp_parse.proofs.Reading as r
use Rattle.sp_parse.proofs.Reading.{Begins}
use Rattle.sp_parse.proofs.Forms as f
use Rattle.sp_parse.proofs.Marks.{sample}
use Rattle.sp_parse.proofs.Nested.{Some_of}
use Rattle.sp_parse.proofs.EventClause.{name_some}
use Rattle.sp_parse.proofs.Factors.{factor_head, sum_begins}
use Rattle.sp_returns.specs.Grammar.{item, Item}

-- ---- AS name

abbrev pub Target : ℕ → List Token → Ident → Type 0
Target = λ n. After m.As Name

target_some : Some_of Target
target_some = f.after_some m.As (λ _. Name) never name_some

target_begins : Begins (reads_as (kernel (mark m.As))) Target
target_begins = f.after_begins m.As (λ _. Name) never name_some

-- AS doesn't go on with a sum
pub as_out : (x : Kernel) → is_some (mark m.As x) ≡ true → after_sum (sample x) ≡ false
as_out (k.Word w.As) h = refl
as_out _ h = absurd cc

head_out : (y v : List Token) → heads (reads_as (kernel (mark m.As))) y ≡ true → heads after_sum (y ++ v) ≡ false
head_out [] v h = absurd cc
head_out (t ∷ y) v h = as_out t.kernel h

target_apart : (n : ℕ) (y v : List Token) (b : Ident) → Target n y b → heads never v ≡ false → heads after_sum (y ++ v) ≡ false
target_apart n y v b d h = head_out y v (target_begins n y b d)

-- ---- sum AS name

abbrev pub Parts : ℕ → List Token → Tree × Ident → Type 0
Parts = λ n. Both (Sum n) (Target n)

pub item_begins : Begins factor_head Item
item_begins = r.built_begins item factor_head Parts (r.both_begins factor_head Sum Target sum_begins)

module _ (room : ℕ) (s : List Token) where
  as_item : (e : Fault) (rest : List Token) → Stuck Parts never room s e rest → Stuck Item never room s e rest
  as_item e rest x = r.built_stuck item Parts never room s rest e x

  pub sum_stops : (x : Stop) → Stops Sum after_sum room s x → Stops Item never room s x
  sum_stops x h = r.stops_as Sum Item after_sum never room room s s x
      (λ e rest y. as_item e rest (r.both_stuck_left Sum Target after_sum never room target_apart s rest e target_some y)) h

  pub target_stops : (m_ : List Token) (a : Tree) (x : Stop) → Found Sum after_sum room s a m_ → Stops Target never room m_ x → Stops Item never room s x
  target_stops m_ a x i h = r.stops_as Target Item never never room room m_ s x
      (λ e rest y. as_item e rest (r.both_stuck_right Sum Target after_sum never room target_apart s m_ rest a e i y)) h

  pub item_found : (m_ rest : List Token) (a : Tree) (b : Ident) → Found Sum after_sum room s a m_ → Found Target never room m_ b rest → Found Item never room s (record { tree = a; name = b }) rest
  item_found m_ rest a b i h = r.built_as item Parts never room s rest (a, b) (record { tree = a; name = b }) (λ front cut. refl)
      (r.both_found Sum Target after_sum never room target_apart s m_ rest a b i h)
