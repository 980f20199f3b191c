-- Texts read line by line.
use Rattle.std.proofs.Common.{◌≡◌, ℕ, ◌+◌, ◌≤◌, List, [], ◌∷◌, ◌++◌, length, map, refl, sym, ◌∙◌, ap, subst, arith, append_assoc, append-nil, length-append, get_or, take, ◌<◌}
use Rattle.std.specs.List.{All, flat_map}
use Rattle.std.proofs.lemmas.Grind.{flat_map-append}
use Rattle.std.proofs.lemmas.List.{map-append, take_all, take_more, take_more_set}
use Rattle.std.proofs.Math.ListN.{set, length-set}
use Rattle.std.proofs.lemmas.List.Elements.{All-nil, All-cons, All-head, All-tail, All-push}
use Rattle.std.proofs.lemmas.List.Folds.{flat_map-map}
use Rattle.sp_plan.specs.declared.plan.Plan.{Plan}
use Rattle.sp_plan.specs.declared.found.Match.{Match}
use Rattle.sp_plan.specs.Lines.{line}
use Rattle.sp_emit.specs.Matches.{IsLine}
use Rattle.sp_listing.specs.declared.proof.WindowProof.{WindowProof}
use Rattle.sp_listing.specs.Lines.{lines}
use Rattle.sp_listing.specs.Listing.{Entry, Begins, IsMatch, IsEntry, IsListing, entry_lines, entry_text, head_line, listing_lines, listing_text, seen}
use Rattle.sp_listing.specs.Reading.{Adds, window, found, IsFirstLine, with_match}
use Rattle.sp_listing.proofs.Cutting.{joined}

both_parts : (P : Entry → Type 0) (xs ys : List Entry) → All P (xs ++ ys) → All P xs × All P ys
both_parts P [] ys h = (All-nil P, h)
both_parts P (x ∷ xs) ys h =
    let more = both_parts P xs ys (All-tail P x (xs ++ ys) h) in
    (All-cons P x xs (All-head P x (xs ++ ys) h) more.0, more.1)

-- ---- one line more

-- the lines of one entry behind those of others
then_entry : (q : Plan) (es : List Entry) (e : Entry) → listing_lines q (es ++ e ∷ []) ≡ listing_lines q es ++ entry_lines q e
then_entry q es e = flat_map-append (entry_lines q) es (e ∷ []) ∙ ap (λ (ls : List (List ℕ)). listing_lines q es ++ ls) (append-nil (entry_lines q e))

module _ (q : Plan) (l : List ℕ) where
  -- an entry more, which the line begins
  window_lines : (es : List Entry) (e : Entry) → Begins l e → listing_lines q (es ++ e ∷ []) ≡ listing_lines q es ++ l ∷ []
  window_lines es e b = then_entry q es e ∙ (λ i. listing_lines q es ++ sym b.is i ∷ map (line q) (b.none i))

  -- a match more of the last entry
  found_lines : (es : List Entry) (e : Entry) (m : Match) → IsLine q m l → listing_lines q (es ++ with_match e m ∷ []) ≡ listing_lines q (es ++ e ∷ []) ++ l ∷ []
  found_lines es e m is =
      then_entry q es (with_match e m)
      ∙ (λ i. listing_lines q es ++ head_line e ∷ (map-append (line q) e.matches (m ∷ []) ∙ ap (λ (k : List ℕ). map (line q) e.matches ++ k ∷ []) (sym is.is)) i)
      ∙ sym (append_assoc (listing_lines q es) (entry_lines q e) (l ∷ []))
      ∙ ap (λ (ls : List (List ℕ)). ls ++ l ∷ []) (sym (then_entry q es e))

  -- lines that were those of entries are those of entries with one line more
  more_lines : (old new : List Entry) → Adds q l old new → listing_lines q new ≡ listing_lines q old ++ l ∷ []
  more_lines old new (window e b same) = ap (listing_lines q) same ∙ window_lines old e b
  more_lines old new (found front e m is was same) =
      ap (listing_lines q) same ∙ found_lines front e m is ∙ ap (λ (es : List Entry). listing_lines q es ++ l ∷ []) (sym was)

  held_window : (e : Entry) → Begins l e → IsEntry q e
  held_window e b = record { numbers = b.numbers; matches = subst (λ (ms : List Match). All (IsMatch q) ms) (sym b.none) (All-nil (IsMatch q)) }

  held_found : (e : Entry) (m : Match) → IsLine q m l → IsEntry q e → IsEntry q (with_match e m)
  held_found e m is h = record {
    numbers = record { window = h.numbers.window; first = h.numbers.first; last = h.numbers.last; skipped = h.numbers.skipped; used = h.numbers.used };
    matches = All-push (IsMatch q) e.matches m h.matches (is.held, is.binds);
  }

  -- so they are entries that a listing can have
  more_held : (old new : List Entry) → Adds q l old new → All (IsEntry q) old → All (IsEntry q) new
  more_held old new (window e b same) h = subst (λ (es : List Entry). All (IsEntry q) es) (sym same) (All-push (IsEntry q) old e h (held_window e b))
  more_held old new (found front e m is was same) h =
      let both = both_parts (IsEntry q) front (e ∷ []) (subst (λ (es : List Entry). All (IsEntry q) es) was h) in
      subst (λ (es : List Entry). All (IsEntry q) es) (sym same)
      (All-push (IsEntry q) front (with_match e m) both.0 (held_found e m is (All-head (IsEntry q) e [] both.1)))

-- ---- line by line

-- The lines read so far are those of these entries.
pub record Going (q : Plan) (text rest : List ℕ) (entries : List Entry) (number : ℕ) : Type 0 where
  pub held : All (IsEntry q) entries
  pub are : lines text ≡ listing_lines q entries ++ lines rest
  pub count : length (listing_lines q entries) ≡ number
  pub within : number + length rest ≤ length text

pub sets_out : (q : Plan) (text : List ℕ) (entries : List Entry) → entries ≡ [] → Going q text text entries 0
sets_out q text entries e = subst (λ (es : List Entry). Going q text text es 0) (sym e) (record { held = All-nil (IsEntry q); are = refl; count = refl; within = omega arith })

module _ (q : Plan) (text rest : List ℕ) (old : List Entry) (number : ℕ) (g : Going q text rest old number) where
  module _ (l behind : List ℕ) (first : IsFirstLine rest l behind) where
    pub goes : (new : List Entry) → Adds q l old new → Going q text behind new (number + 1)
    goes new a = record {
      held = more_held q l old new a g.held;
      are = g.are ∙ ap (λ (ls : List (List ℕ)). listing_lines q old ++ ls) first.lines ∙ sym (append_assoc (listing_lines q old) (l ∷ []) (lines behind))
          ∙ ap (λ (ls : List (List ℕ)). ls ++ lines behind) (sym (more_lines q l old new a));
      count = ap length (more_lines q l old new a) ∙ length-append (listing_lines q old) (l ∷ []) ∙ (let n = g.count in omega arith);
      within = let v = g.within in let w = first.shorter in omega arith;
    }

  -- where no text is left
  pub arrives : rest ≡ [] → IsListing q text old
  arrives over = record {
    held = g.held;
    are = g.are ∙ ap (λ (t : List ℕ). listing_lines q old ++ lines t) over ∙ append-nil (listing_lines q old);
  }

-- ---- the whole text

entry_joined : (q : Plan) (e : Entry) → flat_map (λ l. l) (entry_lines q e) ≡ entry_text q e
entry_joined q e = ap (λ (t : List ℕ). head_line e ++ t) (flat_map-map (λ (l : List ℕ). l) (line q) e.matches)

-- the lines of entries are their texts, joined
pub listing_joined : (q : Plan) (es : List Entry) → flat_map (λ l. l) (listing_lines q es) ≡ listing_text q es
listing_joined q [] = refl
listing_joined q (e ∷ es) = flat_map-append (λ (l : List ℕ). l) (entry_lines q e) (listing_lines q es) ∙ (λ i. entry_joined q e i ++ listing_joined q es i)

-- a listing is the texts of its entries, one after another
pub whole_text : (q : Plan) (text : List ℕ) (es : List Entry) → IsListing q text es → text ≡ listing_text q es
whole_text q text es is = sym (joined text) ∙ ap (λ (ls : List (List ℕ)). flat_map (λ l. l) ls) is.are ∙ listing_joined q es

-- ---- what the program holds

module _ (q : Plan) (l : List ℕ) where
  -- an entry more at the end
  pub adds_window : (old new : List WindowProof) (p : WindowProof) → Begins l (seen p) → new ≡ old ++ p ∷ [] → Adds q l (map seen old) (map seen new)
  adds_window old new p b same = window (seen p) b (ap (map seen) same ∙ map-append seen old (p ∷ []))

  -- a match more in the last entry
  pub adds_found : (old : List WindowProof) (at : ℕ) (p more : WindowProof) (m : Match) → length old ≡ at + 1 → p ≡ get_or old at p → IsLine q m l → seen more ≡ with_match (seen p) m
      → Adds q l (map seen old) (map seen (set old at more))
  adds_found old at p more m size is found_line same =
      let inside : at < length old = omega arith in
      found (map seen (take at old)) (seen p) m found_line
      (ap (map seen) (sym (take_all (at + 1) old (omega arith)) ∙ take_more old at p inside ∙ ap (λ (x : WindowProof). take at old ++ x ∷ []) (sym is)) ∙ map-append seen (take at old) (p ∷ []))
      (ap (map seen) (sym (take_all (at + 1) (set old at more) (omega (arith, length-set old at more))) ∙ take_more_set old at more inside) ∙ map-append seen (take at old) (more ∷ [])
      ∙ ap (λ (e : Entry). map seen (take at old) ++ e ∷ []) same)
