-- What the functions that read one token ask for.
use Rattle.std.proofs.Common.{◌≡◌, ◌≢◌, ℕ, ◌+◌, ◌-◌, ◌≤◌, ◌<◌, ◌⊎◌, inl, inr, Bool, true, false, Some, List, [], ◌∷◌, ◌++◌, length, suc, slice_range, get_or, take, drop, fold, refl, sym, ◌∙◌, ap, subst, arith, append_assoc, append-nil, length-append}
use Rattle.std.specs.List.{list_all}
use Rattle.std.specs.Str.{IsUtf8, IsCharBoundary}
use Rattle.std.proofs.lemmas.Str.{IsCharBoundary-after_ascii}
use Rattle.std.proofs.lemmas.Bool.Decides.{nat_tests}
use Rattle.std.proofs.lemmas.List.{append_cancel_left, take_all}
use Rattle.std.proofs.lemmas.List.Sums.{fold-append}
use Rattle.sp_base.specs.Limits.{number_limit}
use Rattle.sp_lex.specs.declared.token.Word.{Word}
use Rattle.sp_lex.specs.declared.token.Kernel.{Kernel}
use Rattle.sp_lex.specs.declared.token.Kernel.TheVariants as k
use Rattle.sp_lex.specs.Spelling.{is_letter, is_digit, is_quote, is_name_byte, heads, spelling, mark, doubled, number_of, pointed, IsNumber, IsLong, Spells, as_word, as_name, as_whole, as_decimal, as_literal, as_mark}
use Rattle.sp_lex.specs.Reading.{IsRun, Inside, Reads, is_mark_byte, is_point, with_digit, capped, with_more}
use Rattle.sp_lex.proofs.Tables.{mark_begins, mark_short}
use Rattle.sp_lex.proofs.Longest.{clash, run_longest, run_prefix, same_run, number_begins, heads_append, apart, IsPart, name_longest, is_name, whole_longest, decimal_longest, mark_longest, literal_longest}

-- ---- names

pub name_reads : (text f rest : List ℕ) (kernel : Kernel) → heads is_letter text ≡ true → text ≡ f ++ rest → IsRun is_name_byte f rest → Spells kernel f rest → Reads text kernel rest
name_reads text f rest kernel h e run s = record { front = f; cut = e; token = record { spells = s; longest = name_longest f rest (sym (ap (heads is_letter) e) ∙ h) run } }

pub word_reads : (text f rest : List ℕ) (word : Word) → heads is_letter text ≡ true → text ≡ f ++ rest → IsRun is_name_byte f rest → f ≡ spelling word → Reads text (k.Word word) rest
word_reads text f rest word h e run s = name_reads text f rest (k.Word word) h e run (as_word word refl s)

pub own_reads : (text f rest name : List ℕ) → heads is_letter text ≡ true → text ≡ f ++ rest → IsRun is_name_byte f rest → ((word : Word) → f ≢ spelling word) → name ≡ f → Reads text (k.Name name) rest
own_reads text f rest name h e run none same = name_reads text f rest (k.Name name) h e run (as_name (ap k.Name same) (is_name f rest (sym (ap (heads is_letter) e) ∙ h) run) none)

-- ---- marks

pub pair_reads : (text rest : List ℕ) (kernel : Kernel) (b c : ℕ) → text ≡ b ∷ c ∷ rest → mark kernel ≡ Some (b ∷ c ∷ []) → Reads text kernel rest
pair_reads text rest kernel b c e m = record {
  front = b ∷ c ∷ [];
  cut = e;
  token = record {
    spells = as_mark m;
    longest = mark_longest (b ∷ c ∷ []) rest text e (ap (heads is_mark_byte) e ∙ mark_begins kernel (b ∷ c ∷ []) m) (λ other g r d n. mark_short other g n);
  };
}

pub first_and_rest : (text : List ℕ) → 1 ≤ length text → text ≡ get_or text 0 0 ∷ take (length text - 1) (drop 1 text)
first_and_rest [] h = absurd (omega arith)
first_and_rest (b ∷ t) h = λ i. b ∷ sym (take_all (length (b ∷ t) - 1) t (omega arith)) i

pub mark_reads : (text rest : List ℕ) (kernel : Kernel) (b : ℕ) → text ≡ b ∷ rest → mark kernel ≡ Some (b ∷ []) → ((other : Kernel) (g r : List ℕ) → text ≡ g ++ r → mark other ≡ Some g → length g ≤ 1) → Reads text kernel rest
mark_reads text rest kernel b e m most = record {
  front = b ∷ [];
  cut = e;
  token = record {
    spells = as_mark m;
    longest = mark_longest (b ∷ []) rest text e (ap (heads is_mark_byte) e ∙ mark_begins kernel (b ∷ []) m) most;
  };
}

-- ---- literals

pub literal_reads : (text m value rest : List ℕ) → text ≡ 39 ∷ m → Inside m value rest → Reads text (k.Literal value) rest
literal_reads text m value rest e i =
    let c : 39 ∷ m ≡ (39 ∷ (doubled value ++ 39 ∷ [])) ++ rest = ap (λ l. 39 ∷ l) (i.cut ∙ sym (append_assoc (doubled value) (39 ∷ []) rest)) in
    record {
      front = 39 ∷ (doubled value ++ 39 ∷ []);
      cut = e ∙ c;
      token = record { spells = as_literal value refl refl i.closed; longest = literal_longest m (39 ∷ (doubled value ++ 39 ∷ [])) rest value c refl i.closed };
    }

-- ---- numbers

not_empty : (p : ℕ → Bool) (f rest : List ℕ) → heads p (f ++ rest) ≡ true → heads p rest ≡ false → f ≢ []
not_empty p f rest h s e = clash (heads p rest) (sym (ap (λ l. heads p (l ++ rest)) e) ∙ h) s

pub number_is : (text f rest : List ℕ) → heads is_digit text ≡ true → text ≡ f ++ rest → IsRun is_digit f rest → IsNumber f
number_is text f rest h e run = record { some = not_empty is_digit f rest (sym (ap (heads is_digit) e) ∙ h) run.stops; all = run.all }

pub no_point : (rest : List ℕ) → heads is_point rest ≡ false → IsPart rest
no_point rest h part r e n = clash (heads is_point rest) (ap (heads is_point) e) h

pub no_part : (rest behind part after : List ℕ) → rest ≡ 46 ∷ behind → behind ≡ part ++ after → IsRun is_digit part after → length part ≡ 0 → IsPart rest
no_part rest behind [] after e d run h part r i n =
    let j : after ≡ part ++ r = cc in
    clash (heads is_digit after) (ap (heads is_digit) j ∙ heads_append is_digit part r (number_begins part n)) run.stops
no_part rest behind (b ∷ p) after e d run h part r i n = cc

part_is : (part after : List ℕ) → IsRun is_digit part after → length part ≢ 0 → IsNumber part
part_is part after run h = record { some = λ e. h (ap length e); all = run.all }

small_capped : (n : ℕ) → capped n ≤ number_limit → capped n ≡ n
small_capped n h = omega arith

great_capped : (n : ℕ) → number_limit < capped n → number_limit < n
great_capped n h = omega arith

small_is : (n : ℕ) → capped n ≤ number_limit → n ≤ number_limit
small_is n h = omega arith

-- it makes no difference whether a number past the bound stops growing before more digits come
capped_before : (n : ℕ) (digits : List ℕ) → with_more (capped n) digits ≡ with_more n digits
capped_before n [] = omega arith
capped_before n (d ∷ ds) =
    let same : capped (with_digit (capped n) d) ≡ capped (with_digit n d) = omega arith in
    sym (capped_before (with_digit (capped n) d) ds) ∙ ap (λ (m : ℕ). with_more m ds) same ∙ capped_before (with_digit n d) ds

pub in_two : (whole part : List ℕ) → with_more (with_more 0 whole) part ≡ capped (number_of (whole ++ part))
in_two whole part = capped_before (fold with_digit 0 whole) part ∙ ap capped (sym (fold-append with_digit 0 whole part))

-- more digits make no smaller number
grows : (n : ℕ) (digits : List ℕ) → n ≤ fold with_digit n digits
grows n [] = omega arith
grows n (d ∷ ds) = let i : with_digit n d ≤ fold with_digit (with_digit n d) ds = grows (with_digit n d) ds in omega arith

pub number_grows : (f g : List ℕ) → number_of f ≤ number_of (f ++ g)
number_grows f g = let i : number_of f ≤ fold with_digit (number_of f) g = grows (number_of f) g in let j : number_of (f ++ g) ≡ fold with_digit (number_of f) g = fold-append with_digit 0 f g in omega arith

-- a number that is past the bound without its decimals
pub whole_long : (text f rest : List ℕ) (n : ℕ) → heads is_digit text ≡ true → text ≡ f ++ rest → IsRun is_digit f rest → n ≡ with_more 0 f → number_limit < n → IsLong text
whole_long text f rest n h e run d big = record {
  whole = f;
  part = [];
  rest = rest;
  cut = e;
  is_whole = number_is text f rest h e run;
  is_part = refl;
  long = inr (let i : number_limit < number_of f = great_capped (number_of f) (subst (λ m. number_limit < m) d big) in subst (λ l. number_limit < number_of l) (sym (append-nil f)) i);
}

pub whole_reads : (text f rest : List ℕ) (n : ℕ) → heads is_digit text ≡ true → text ≡ f ++ rest → IsRun is_digit f rest → IsPart rest → n ≡ with_more 0 f → n ≤ number_limit → Reads text (k.Whole n) rest
whole_reads text f rest n h e run none d small = record {
  front = f;
  cut = e;
  token = record {
    spells = as_whole (ap k.Whole (d ∙ small_capped (number_of f) (subst (λ m. m ≤ number_limit) d small))) (number_is text f rest h e run);
    longest = whole_longest f rest (sym (ap (heads is_digit) e) ∙ h) run none;
  };
}

pointed_cut : (text f behind part after : List ℕ) → part ≢ [] → text ≡ f ++ (46 ∷ (part ++ after)) → text ≡ f ++ (pointed part ++ after)
pointed_cut text f behind [] after n e = absurd (n refl)
pointed_cut text f behind (b ∷ part) after n e = e

-- what a number's own digits say
small_number : (text f rest : List ℕ) (n : ℕ) → text ≡ f ++ rest → IsRun is_digit f rest → n ≡ with_more 0 f → n ≤ number_limit → (whole more : List ℕ) → text ≡ whole ++ more → IsNumber whole → number_limit < number_of whole → ⊥
small_number text f rest n e run d small whole more c w big =
    let p = run_prefix is_digit f rest whole more run.stops (sym e ∙ c) w.all in
    let i : number_of whole ≤ number_of (whole ++ p.0) = number_grows whole p.0 in
    let j : number_of f ≡ number_of (whole ++ p.0) = ap number_of p.1 in
    let l : number_of f ≤ number_limit = small_is (number_of f) (subst (λ m. m ≤ number_limit) d small) in
    absurd (omega arith)

pub long_rest : (text f rest whole part more : List ℕ) → text ≡ f ++ rest → IsRun is_digit f rest → text ≡ whole ++ (46 ∷ (part ++ more)) → IsNumber whole → (f ≡ whole) × (rest ≡ 46 ∷ (part ++ more))
long_rest text f rest whole part more e run c w =
    let i : f ≡ whole = same_run is_digit f rest whole (46 ∷ (part ++ more)) run.all w.all run.stops refl (sym e ∙ c) in
    (i, append_cancel_left f _ _ (sym e ∙ c ∙ ap (λ x. x ++ (46 ∷ (part ++ more))) (sym i)))

-- a number with these decimals is not long
IsBrief : List ℕ → List ℕ → List ℕ → Type 0
IsBrief text f rest = (part more : List ℕ) → rest ≡ 46 ∷ (part ++ more) → IsNumber part → ((6 < length part) ⊎ (number_limit < number_of (f ++ part))) → ⊥

either_long : (whole part : List ℕ) → ((6 < 0) ⊎ (number_limit < number_of (whole ++ []))) → number_limit < number_of whole
either_long whole part (inl h) = absurd (omega arith)
either_long whole part (inr h) = subst (λ l. number_limit < number_of l) (append-nil whole) h

brief_case : (text f rest : List ℕ) (n : ℕ) → text ≡ f ++ rest → IsRun is_digit f rest → n ≡ with_more 0 f → n ≤ number_limit → IsBrief text f rest
    → (whole part more : List ℕ) → text ≡ whole ++ (pointed part ++ more) → IsNumber whole → list_all is_digit part ≡ true → ((6 < length part) ⊎ (number_limit < number_of (whole ++ part))) → ⊥
unfolding IsBrief
brief_case text f rest n e run d small none whole [] more c w a long = small_number text f rest n e run d small whole more c w (either_long whole [] long)
brief_case text f rest n e run d small none whole (b ∷ part) more c w a long =
    let p = long_rest text f rest whole (b ∷ part) more e run c w in
    none (b ∷ part) more p.1 (record { some = λ x. cc; all = a }) (subst (λ l. (6 < length (b ∷ part)) ⊎ (number_limit < number_of (l ++ (b ∷ part)))) (sym p.0) long)

pub whole_short : (text f rest : List ℕ) (n : ℕ) → text ≡ f ++ rest → IsRun is_digit f rest → n ≡ with_more 0 f → n ≤ number_limit → IsPart rest → IsLong text → ⊥
unfolding IsBrief
whole_short text f rest n e run d small none l = brief_case text f rest n e run d small (λ part more c m long. none part more c m) l.whole l.part l.rest l.cut l.is_whole l.is_part l.long

module _ (text f rest behind part after : List ℕ) (n u : ℕ) (h : heads is_digit text ≡ true) (e : text ≡ f ++ rest) (run : IsRun is_digit f rest) (p : rest ≡ 46 ∷ behind) (d : behind ≡ part ++ after) (below : IsRun is_digit part after) (some : length part ≢ 0) (a : n ≡ with_more 0 f) (b : u ≡ with_more n part) where
  whole_cut : text ≡ f ++ (46 ∷ (part ++ after))
  whole_cut = e ∙ ap (λ l. f ++ l) (p ∙ ap (λ l. 46 ∷ l) d)

  units_is : u ≡ capped (number_of (f ++ part))
  units_is = b ∙ ap (λ (m : ℕ). with_more m part) a ∙ in_two f part

  pub decimal_reads : (scale : ℕ) → scale ≡ length part → length part ≤ 6 → u ≤ number_limit → Reads text (k.Decimal u scale) after
  decimal_reads scale s short small = record {
    front = f ++ 46 ∷ part;
    cut = whole_cut ∙ sym (append_assoc f (46 ∷ part) after);
    token = record {
      spells = as_decimal f part (λ i. k.Decimal ((units_is ∙ small_capped (number_of (f ++ part)) (subst (λ m. m ≤ number_limit) units_is small)) i) (s i)) refl (number_is text f rest h e run) (part_is part after below some) short;
      longest = decimal_longest f part after (sym (ap (heads is_digit) whole_cut) ∙ h) (record { all = run.all; stops = refl }) below;
    };
  }

  long_of : ((6 < length part) ⊎ (number_limit < number_of (f ++ part))) → IsLong text
  long_of long = record { whole = f; part = part; rest = after; cut = pointed_cut text f behind part after (λ x. some (ap length x)) whole_cut; is_whole = number_is text f rest h e run; is_part = below.all; long = long }

  pub long_decimals : 6 < length part → IsLong text
  long_decimals long = long_of (inl long)

  pub long_units : number_limit < u → IsLong text
  long_units big = long_of (inr (great_capped (number_of (f ++ part)) (subst (λ m. number_limit < m) units_is big)))

  decimal_brief : length part ≤ 6 → u ≤ number_limit → (q more : List ℕ) → part ++ after ≡ q ++ more → IsNumber q → ((6 < length q) ⊎ (number_limit < number_of (f ++ q))) → ⊥
  decimal_brief short small q more c m (inl long) =
      let i : length q ≤ length part = run_longest is_digit part after q more below.stops c m.all in
      absurd (omega arith)
  decimal_brief short small q more c m (inr big) =
      let x = run_prefix is_digit part after q more below.stops c m.all in
      let i : number_of (f ++ q) ≤ number_of ((f ++ q) ++ x.0) = number_grows (f ++ q) x.0 in
      let j : number_of (f ++ part) ≡ number_of ((f ++ q) ++ x.0) = ap (λ l. number_of (f ++ l)) x.1 ∙ ap number_of (sym (append_assoc f q x.0)) in
      let l : number_of (f ++ part) ≤ number_limit = small_is (number_of (f ++ part)) (subst (λ m. m ≤ number_limit) units_is small) in
      absurd (omega arith)

  pub decimal_short : n ≤ number_limit → length part ≤ 6 → u ≤ number_limit → IsLong text → ⊥
  unfolding IsBrief
  decimal_short first short small l = brief_case text f rest n e run a first (λ q more c m long. decimal_brief short small q more (cc (c, p, d)) m long) l.whole l.part l.rest l.cut l.is_whole l.is_part l.long

pub not_long : (text : List ℕ) → heads is_digit text ≡ false → IsLong text → ⊥
not_long text h l = clash (heads is_digit text) (ap (heads is_digit) l.cut ∙ heads_append is_digit l.whole (pointed l.part ++ l.rest) (number_begins l.whole l.is_whole)) h

pub other_short : (p : ℕ → Bool) (text : List ℕ) → ((b : ℕ) → is_digit b ≡ true → p b ≡ true → ⊥) → heads p text ≡ true → IsLong text → ⊥
other_short p text n h l = apart is_digit p n text (ap (heads is_digit) l.cut ∙ heads_append is_digit l.whole (pointed l.part ++ l.rest) (number_begins l.whole l.is_whole)) h

pub heads_first : (p : ℕ → Bool) (here : List ℕ) (b : ℕ) (v : Bool) → 0 < length here → b ≡ get_or here 0 0 → p b ≡ v → heads p here ≡ v
heads_first p [] b v l e h = absurd (omega arith)
heads_first p (a ∷ here) b v l e h = ap p (sym e) ∙ h

pub no_quote : (b : ℕ) → b ≢ 39 → is_quote b ≡ false
no_quote b h = grind (arith, nat_tests)

-- ---- the place of a literal's inside

quote_begins : (here : List ℕ) → heads is_quote here ≡ true → (m : List ℕ) × (here ≡ 39 ∷ m)
quote_begins [] h = absurd cc
quote_begins (b ∷ here) h = let e : b ≡ 39 = grind (arith, nat_tests) in (here, (λ i. e i ∷ here))

get_seam : (front m : List ℕ) (b : ℕ) → get_or (front ++ b ∷ m) (length front) 0 ≡ b
get_seam [] m b = refl
get_seam (a ∷ front) m b = get_seam front m b

drop_seam : (front m : List ℕ) (b : ℕ) → drop (suc (length front)) (front ++ b ∷ m) ≡ m
drop_seam [] m b = refl
drop_seam (a ∷ front) m b = drop_seam front m b

place_is : (text front here : List ℕ) → text ≡ front ++ here → length text - length here ≡ length front
place_is text front here e = omega (arith, ap length e, length-append front here)

-- behind a quote a character begins
pub behind_boundary : (text front here : List ℕ) → IsUtf8 text → text ≡ front ++ here → heads is_quote here ≡ true → IsCharBoundary text ((length text - length here) + 1)
behind_boundary text front here u e h =
    let q = quote_begins here h in
    let c : text ≡ front ++ 39 ∷ q.0 = e ∙ ap (λ l. front ++ l) q.1 in
    let i : length text - length here ≡ length front = place_is text front here e in
    let g : get_or text (length text - length here) 0 ≡ 39 = (λ j. get_or (c j) (i j) 0) ∙ get_seam front q.0 39 in
    let s : length front < length text = omega (arith, ap length c, length-append front (39 ∷ q.0)) in
    IsCharBoundary-after_ascii text (length text - length here) u (omega arith) (omega arith)

pub behind_end : (text front here : List ℕ) → text ≡ front ++ here → heads is_quote here ≡ true → (length text - length here) + 1 ≤ length text
behind_end text front here e h =
    let q = quote_begins here h in
    omega (arith, ap length q.1, ap length e, length-append front here)

pub here_is : (text front here inside : List ℕ) → text ≡ front ++ here → heads is_quote here ≡ true → inside ≡ slice_range text ((length text - length here) + 1) (length text) → here ≡ 39 ∷ inside
here_is text front here inside e h s =
    let q = quote_begins here h in
    let c : text ≡ front ++ 39 ∷ q.0 = e ∙ ap (λ l. front ++ l) q.1 in
    let i : (length text - length here) + 1 ≡ suc (length front) = let x : length text - length here ≡ length front = place_is text front here e in omega arith in
    let d : drop ((length text - length here) + 1) text ≡ q.0 = (λ j. drop (i j) (c j)) ∙ drop_seam front q.0 39 in
    let n : length q.0 ≤ length text - ((length text - length here) + 1) = omega (arith, ap length c, length-append front (39 ∷ q.0)) in
    let t : inside ≡ q.0 = s ∙ ap (take (length text - ((length text - length here) + 1))) d ∙ take_all (length text - ((length text - length here) + 1)) q.0 n in
    q.1 ∙ ap (λ l. 39 ∷ l) (sym t)
