-- Lines of entries have their line feed at the end alone.
use Rattle.std.proofs.Common.{◌≡◌, ◌≢◌, ℕ, ◌+◌, ◌<◌, ◌≤◌, ◌^◌, ◌%◌, ◌==◌, Bool, true, false, List, [], ◌∷◌, ◌++◌, map, zero, suc, refl, sym, ◌∙◌, ap, arith, append_assoc}
use Rattle.std.specs.Prelude.{codes, not, slice_get}
use Rattle.std.specs.List.{All, flat_map, list_all}
use Rattle.std.specs.Fmt.{decimal}
use Rattle.std.proofs.lemmas.Fmt.{decimal_by_steps}
use Rattle.std.proofs.lemmas.Bool.Decides.{nat_tests}
use Rattle.std.proofs.lemmas.List.Sums.{AllPass-from_list_all}
use Rattle.std.proofs.lemmas.List.Elements.{All-nil, All-cons, All-head, All-tail, All-append, All-push, All-weaker}
use Rattle.sp_base.specs.Commas.{commas, more, list_text}
use Rattle.sp_plan.specs.declared.plan.Plan.{Plan}
use Rattle.sp_plan.specs.declared.plan.Name.{Name}
use Rattle.sp_plan.specs.declared.found.Match.{Match}
use Rattle.sp_plan.specs.Lines.{binding_text, line, name_text}
use Rattle.sp_emit.specs.Matches.{ArePlaces, IsHeld}
use Rattle.sp_listing.specs.Lines.{lines}
use Rattle.sp_listing.specs.Listing.{Entry, HoldsNumbers, IsMatch, IsEntry, entry_lines, head_line, listing_lines}
use Rattle.sp_listing.specs.Written.{HasPlainNames, WrittenIsListing}
use Rattle.sp_listing.proofs.Cutting.{IsInner, line_cut}
use Rattle.sp_listing.proofs.Going.{listing_joined}

-- ---- texts without a line feed

-- The text has no line feed.
record IsFree (bs : List ℕ) : Type 0 where
  all : All IsInner bs

empty : IsFree []
empty = record { all = All-nil IsInner }

then : {front behind : List ℕ} → IsFree front → IsFree behind → IsFree (front ++ behind)
then {front} {behind} a b = record { all = All-append IsInner front behind a.all b.all }

-- whether a fixed text has none
abbrev is_free : List ℕ → Bool
is_free bs = list_all (λ b. not (b == 10)) bs

fixed : (bs : List ℕ) → is_free bs ≡ true → IsFree bs
fixed bs h = record { all = All-weaker (λ b. not (b == 10) ≡ true) IsInner (λ b t. inner (b == 10) t) bs (AllPass-from_list_all (λ b. not (b == 10)) bs h) }
  where
    inner : (feed : Bool) → not feed ≡ true → feed ≡ false
    inner true t = cc
    inner false t = refl

free_decimal : (n : ℕ) → n < 2 ^ 64 → IsFree (decimal n)
free_decimal n h = decimal_by_steps (λ n ds. IsFree ds) one next n h
  where
    digit : (n : ℕ) → IsInner (48 + n)
    digit n = let other : 48 + n ≢ 10 = λ e. absurd (omega arith) in grind (arith, nat_tests)

    one : (n : ℕ) → n < 10 → IsFree ((48 + n) ∷ [])
    one n h = record { all = All-cons IsInner (48 + n) [] (digit n) (All-nil IsInner) }

    next : (n : ℕ) (ds : List ℕ) → 10 ≤ n → IsFree ds → IsFree (ds ++ ((48 + n % 10) ∷ []))
    next n ds h ih = record { all = All-push IsInner ds (48 + n % 10) ih.all (digit (n % 10)) }

free_short : (n : ℕ) → n < 2 ^ 32 → IsFree (decimal n)
free_short n h = free_decimal n (omega arith)

abbrev IsShort : ℕ → Type 0
IsShort n = n < 2 ^ 32

free_more : (ns : List ℕ) → All IsShort ns → IsFree (more ns)
free_more [] h = empty
free_more (n ∷ ns) h = then (then (fixed (codes ",") refl) (free_short n (All-head IsShort n ns h))) (free_more ns (All-tail IsShort n ns h))

free_list : (ns : List ℕ) → ArePlaces ns → IsFree (list_text ns)
free_list [] h = fixed (codes "-") refl
free_list (n ∷ ns) h = then (free_short n (All-head IsShort n ns h.small)) (free_more ns (All-tail IsShort n ns h.small))

free_commas : (ns : List ℕ) → ArePlaces ns → IsFree (commas ns)
free_commas [] h = empty
free_commas (n ∷ ns) h = free_list (n ∷ ns) h

-- ---- the plan's names and their events

abbrev IsPlainName : Name → Type 0
IsPlainName name = All (λ b. b ≢ 10) name.text

free_text : (bs : List ℕ) → All (λ b. b ≢ 10) bs → IsFree bs
free_text bs h = record { all = All-weaker (λ b. b ≢ 10) IsInner (λ b other. grind (arith, nat_tests)) bs h }

free_name : (names : List Name) (i : ℕ) → All IsPlainName names → IsFree (name_text (slice_get names i))
free_name [] i h = empty
free_name (name ∷ names) zero h = free_text name.text (All-head IsPlainName name names h)
free_name (name ∷ names) (suc i) h = free_name names i (All-tail IsPlainName name names h)

abbrev HasPlaces : ℕ × List ℕ → Type 0
HasPlaces pair = ArePlaces pair.1

module _ (q : Plan) (plain : HasPlainNames q) where
  free_binding : (pair : ℕ × List ℕ) → HasPlaces pair → IsFree (binding_text q pair)
  free_binding pair h = then (then (then (fixed (codes " ") refl) (free_name q.names pair.0 plain)) (fixed (codes "=") refl)) (free_commas pair.1 h)

  free_bindings : (bound : List (ℕ × List ℕ)) → All HasPlaces bound → IsFree (flat_map (binding_text q) bound)
  free_bindings [] h = empty
  free_bindings (pair ∷ bound) h = then (free_binding pair (All-head HasPlaces pair bound h)) (free_bindings bound (All-tail HasPlaces pair bound h))

-- ---- lines

-- The line has one line feed, at its end.
record HasOneFeed (line : List ℕ) : Type 0 where
  front : List ℕ
  free : IsFree front
  is : line ≡ front ++ codes "\n"

-- a label behind a text, and what stands behind it
labelled : {front behind : List ℕ} (label : List ℕ) → is_free label ≡ true → IsFree front → IsFree behind → IsFree (front ++ label ++ behind)
labelled label h a b = then (then a (fixed label h)) b

head_feed : (e : Entry) → HoldsNumbers e → HasOneFeed (head_line e)
head_feed e h =
    let window = then (fixed (codes "p w=") refl) (free_short e.window h.window) in
    let first = labelled (codes " from=") refl window (free_short e.first h.first) in
    let last = labelled (codes " to=") refl first (free_short e.last h.last) in
    let skipped = labelled (codes " skip=") refl last (free_list e.skipped h.skipped) in
    record { front = _; free = labelled (codes " used=") refl skipped (free_list e.used h.used); is = refl }

match_feed : (q : Plan) → HasPlainNames q → (m : Match) → IsHeld m → HasOneFeed (line q m)
match_feed q plain m h =
    let window = then (fixed (codes "w=") refl) (free_short m.window h.window) in
    let number = labelled (codes " m=") refl window (free_decimal m.number h.number) in
    let bound = then number (free_bindings q plain m.bound h.bound) in
    record { front = _; free = labelled (codes " used=") refl bound (free_list m.used h.used); is = refl }

-- lines that end so, joined and cut again
lines_cut : (ls : List (List ℕ)) → All HasOneFeed ls → lines (flat_map (λ l. l) ls) ≡ ls
lines_cut [] h = refl
lines_cut (l ∷ ls) h =
    let end = All-head HasOneFeed l ls h in
    let more = flat_map (λ l. l) ls in
    ap lines (ap (λ (k : List ℕ). k ++ more) end.is ∙ append_assoc end.front (codes "\n") more) ∙ line_cut end.front more end.free.all
    ∙ (λ i. sym end.is i ∷ lines_cut ls (All-tail HasOneFeed l ls h) i)

module _ (q : Plan) (plain : HasPlainNames q) where
  match_feeds : (ms : List Match) → All (IsMatch q) ms → All HasOneFeed (map (line q) ms)
  match_feeds [] h = All-nil HasOneFeed
  match_feeds (m ∷ ms) h =
      All-cons HasOneFeed (line q m) (map (line q) ms) (match_feed q plain m (All-head (IsMatch q) m ms h).0) (match_feeds ms (All-tail (IsMatch q) m ms h))

  entry_feeds : (es : List Entry) → All (IsEntry q) es → All HasOneFeed (listing_lines q es)
  entry_feeds [] h = All-nil HasOneFeed
  entry_feeds (e ∷ es) h =
      let own = All-head (IsEntry q) e es h in
      All-append HasOneFeed (entry_lines q e) (listing_lines q es)
      (All-cons HasOneFeed (head_line e) (map (line q) e.matches) (head_feed e own.numbers) (match_feeds e.matches own.matches)) (entry_feeds es (All-tail (IsEntry q) e es h))

pub written_is_listing : WrittenIsListing
written_is_listing q es plain held = record {
  held = held;
  are = ap lines (sym (listing_joined q es)) ∙ lines_cut (listing_lines q es) (entry_feeds q plain es held);
}
