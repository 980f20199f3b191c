-- What the driving of parts has come to, round after round.
use Rattle.std.proofs.Common.{◌≡◌, ℕ, ◌+◌, ◌<◌, List, [], ◌∷◌, ◌++◌, length, map, refl, sym, ◌∙◌, ap, subst, arith, append_assoc, length-append}
use Rattle.std.specs.List.{All}
use Rattle.std.proofs.lemmas.List.{append-nil, length-map, map-append}
use Rattle.sp_plan.specs.declared.found.Match.{Match}
use Rattle.sp_plan.specs.declared.plan.Plan.{Plan}
use Rattle.sp_ports.specs.Taking.{OutletState, Took, TookFirst}
use Rattle.sp_split.specs.Driving.{FailedWithin}
use Rattle.sp_split.proofs.Taken.{took_first, took_none}
use Rattle.sp_parts.specs.declared.part.Part as kept
use Rattle.sp_forest.specs.Dealing.{woven}
use Rattle.sp_forest.specs.Drivable.{DroveFirst, moved_matches}
use Rattle.sp_forest.specs.Numbering.{numbered_from, numbered_up}
use Rattle.sp_parts.specs.Parts.{Part}
use Rattle.sp_parts.specs.Seen.{seen}
use Rattle.sp_parts.specs.Shifted.{own_matches, shifted, shifted_all, shifted_from}
use Rattle.sp_parts.proofs.Lists.{map_map}
use Rattle.sp_parts.proofs.Places.{all_back}
use Rattle.sp_forest.proofs.PutOn.{all_first, failed_on, short_on, taken_on}
use Rattle.sp_forest.proofs.Weaving.{woven_map}

-- what was found in the parts that were dealt, in their order
pub round_found : {T U P V W : Type 0} (parts_in : T → List P) (found_in : U → List V) (items : V → W) (f : P → W) (groups : ℕ) (ts : List T) (us : List U) (all : List V)
    → all ≡ woven groups (map found_in us) → map (λ u. map items (found_in u)) us ≡ map (λ t. map f (parts_in t)) ts → map items all ≡ map f (woven groups (map parts_in ts))
round_found parts_in found_in items f groups ts us all are made =
    ap (map items) are ∙ sym (woven_map items groups (map found_in us))
    ∙ ap (woven groups) (map_map found_in (map items) us ∙ made ∙ sym (map_map parts_in (map f) ts))
    ∙ woven_map f groups (map parts_in ts)

-- the matches of parts, and of others behind them
shifted_append : (q : Plan) (n : ℕ) (ps rs : List Part) → shifted_from q n (ps ++ rs) ≡ shifted_from q n ps ++ shifted_from q (n + length (shifted_from q n ps)) rs
shifted_append q n [] rs = let at : n ≡ n + 0 = omega arith in ap (λ (k : ℕ). shifted_from q k rs) at
shifted_append q n (p ∷ ps) rs =
    let own : List Match = map (shifted p n) (own_matches q p) in
    let later : List Match = shifted_from q (n + length (own_matches q p)) ps in
    let many = length-append own later in
    let same = length-map (own_matches q p) (shifted p n) in
    let at : (n + length (own_matches q p)) + length later ≡ n + length (own ++ later) = omega arith in
    ap (λ (l : List Match). own ++ l) (shifted_append q (n + length (own_matches q p)) ps rs ∙ ap (λ (k : ℕ). later ++ shifted_from q k rs) at)
    ∙ sym (append_assoc own later (shifted_from q (n + length (own ++ later)) rs))

-- a match that is moved on and then numbered
moved_up : (part : Part) (n : ℕ) (found : Match) → numbered_up n (shifted part 0 found) ≡ shifted part n found
moved_up part n found = let at : (found.number + 0) + n ≡ found.number + n = omega arith in ap (λ (k : ℕ). record (shifted part n found) { number = k }) at

all_moved_up : (part : Part) (n : ℕ) (own : List Match) → map (numbered_up n) (map (shifted part 0) own) ≡ map (shifted part n) own
all_moved_up part n [] = refl
all_moved_up part n (found ∷ own) = λ i. moved_up part n found i ∷ all_moved_up part n own i

numbered_shifted : (q : Plan) (n : ℕ) (ps : List Part) → numbered_from n (map (moved_matches q) ps) ≡ shifted_from q n ps
numbered_shifted q n [] = refl
numbered_shifted q n (p ∷ ps) =
    ap (λ (l : List Match). l ++ numbered_from (n + length (moved_matches q p)) (map (moved_matches q) ps)) (all_moved_up p n (own_matches q p))
    ∙ ap (λ (k : ℕ). map (shifted p n) (own_matches q p) ++ numbered_from (n + k) (map (moved_matches q) ps)) (length-map (own_matches q p) (shifted p 0))
    ∙ ap (λ (l : List Match). map (shifted p n) (own_matches q p) ++ l) (numbered_shifted q (n + length (own_matches q p)) ps)

-- Of all parts some were driven, and the outlet took their matches, which are so many; these are left.
pub record DroveSoFar (q : Plan) (all left : List kept.Part) (matches : ℕ) (a b : OutletState) : Type 0 where
  pub done : List kept.Part
  pub are : all ≡ done ++ left
  pub took : Took q (shifted_all q (map seen done)) a b
  pub count : matches ≡ length (shifted_all q (map seen done))

pub drove_none : (q : Plan) (all : List kept.Part) (a : OutletState) → DroveSoFar q all all 0 a a
drove_none q all a = record { done = []; are = refl; took = took_none q a; count = refl }

-- all were driven
pub drove_all : (q : Plan) (all left : List kept.Part) (matches : ℕ) (a b : OutletState) → length left ≡ 0 → DroveSoFar q all left matches a b
    → Took q (shifted_all q (map seen all)) a b × (matches ≡ length (shifted_all q (map seen all)))
drove_all q all [] matches a b none so =
    let are : all ≡ so.done = so.are ∙ append-nil so.done in
    (subst (λ (l : List kept.Part). Took q (shifted_all q (map seen l)) a b) (sym are) so.took, so.count ∙ ap (λ (l : List kept.Part). length (shifted_all q (map seen l))) (sym are))
drove_all q all (part ∷ left) matches a b none so = absurd (omega arith)

-- what was taken are the first of all matches
pub drove_first : (q : Plan) (all left : List kept.Part) (matches : ℕ) (a b : OutletState) → DroveSoFar q all left matches a b → TookFirst q (shifted_all q (map seen all)) a b
drove_first q all left matches a b so =
    took_first q (shifted_all q (map seen so.done)) (shifted_from q (0 + length (shifted_all q (map seen so.done))) (map seen left)) (shifted_all q (map seen all)) a b
    (ap (λ (l : List kept.Part). shifted_all q (map seen l)) so.are ∙ ap (shifted_all q) (map-append seen so.done left) ∙ shifted_append q 0 (map seen so.done) (map seen left)) so.took

-- Of all parts some were driven, and their matches are these; the others are left.
pub record FoundSoFar (q : Plan) (all left : List kept.Part) (found : List Match) : Type 0 where
  pub done : List kept.Part
  pub are : all ≡ done ++ left
  pub matches : found ≡ shifted_all q (map seen done)

pub found_none : (q : Plan) (all left : List kept.Part) (found : List Match) → left ≡ all → found ≡ [] → FoundSoFar q all left found
found_none q all left found same none = record { done = []; are = sym same; matches = none }

pub found_all : (q : Plan) (all left : List kept.Part) (found : List Match) → length left ≡ 0 → FoundSoFar q all left found → found ≡ shifted_all q (map seen all)
found_all q all [] found none so = so.matches ∙ ap (λ (l : List kept.Part). shifted_all q (map seen l)) (sym (so.are ∙ append-nil so.done))
found_all q all (part ∷ left) found none so = absurd (omega arith)

-- a round more, behind the parts that are done
module _ (q : Plan) (all waiting left done : List kept.Part) (are : all ≡ done ++ waiting) (found : List (List Match)) (drove : DroveFirst q waiting left found)
    (matches : ℕ) (count : matches ≡ length (shifted_all q (map seen done))) where
  abbrev whole : List Match
  whole = shifted_all q (map seen all)

  abbrev taken : List Match
  taken = shifted_all q (map seen done)

  abbrev new : List Match
  new = numbered_from matches found

  abbrev rest : List Match
  rest = shifted_from q (matches + length (shifted_from q matches (map seen drove.driven))) (map seen left)

  new_is : new ≡ shifted_from q matches (map seen drove.driven)
  new_is = ap (numbered_from matches) (drove.matches ∙ sym (map_map seen (moved_matches q) drove.driven)) ∙ numbered_shifted q matches (map seen drove.driven)

  count_on : matches ≡ 0 + length taken
  count_on = omega (arith, count)

  behind : (ps : List Part) → shifted_from q 0 (map seen done ++ ps) ≡ taken ++ shifted_from q matches ps
  behind ps = shifted_append q 0 (map seen done) ps ∙ ap (λ (k : ℕ). taken ++ shifted_from q k ps) (sym count_on)

  in_parts : whole ≡ (taken ++ new) ++ rest
  in_parts =
      ap (λ (l : List kept.Part). shifted_all q (map seen l)) (are ∙ ap (λ (l : List kept.Part). done ++ l) drove.are)
      ∙ ap (shifted_all q) (map-append seen done (drove.driven ++ left) ∙ ap (λ (l : List Part). map seen done ++ l) (map-append seen drove.driven left))
      ∙ behind (map seen drove.driven ++ map seen left)
      ∙ ap (λ (l : List Match). taken ++ l) (shifted_append q matches (map seen drove.driven) (map seen left))
      ∙ sym (append_assoc taken (shifted_from q matches (map seen drove.driven)) rest)
      ∙ ap (λ (l : List Match). (taken ++ l) ++ rest) (sym new_is)

  -- the parts that are done then, and their matches
  are_on : all ≡ (done ++ drove.driven) ++ left
  are_on = are ∙ ap (λ (l : List kept.Part). done ++ l) drove.are ∙ sym (append_assoc done drove.driven left)

  taken_then : shifted_all q (map seen (done ++ drove.driven)) ≡ taken ++ new
  taken_then = ap (shifted_all q) (map-append seen done drove.driven) ∙ behind (map seen drove.driven) ∙ ap (λ (l : List Match). taken ++ l) (sym new_is)

  all_fit : (P : Match → Type 0) → All P whole → All P new
  all_fit P held = all_back P taken new (all_first P (taken ++ new) rest (subst (All P) in_parts held))

  all_few : (most : ℕ) → length whole < most → matches + length new < most
  all_few most few =
      let lengths = ap length in_parts ∙ length-append (taken ++ new) rest in
      let both = length-append taken new in
      let before = count_on in
      omega arith

-- whose matches are put to an outlet
module _ (q p : Plan) (same : p ≡ q) (all waiting left : List kept.Part) (matches : ℕ) (found : List (List Match)) (a b : OutletState) (so : DroveSoFar q all waiting matches a b)
    (drove : DroveFirst q waiting left found) where
  abbrev put : List Match
  put = numbered_from matches found

  abbrev taken_before : List Match
  taken_before = shifted_all q (map seen so.done)

  abbrev later : List Match
  later = rest q all waiting left so.done so.are found drove matches so.count

  parts_are : shifted_all q (map seen all) ≡ (taken_before ++ put) ++ later
  parts_are = in_parts q all waiting left so.done so.are found drove matches so.count

  before : matches ≡ 0 + length taken_before
  before = count_on q all waiting left so.done so.are found drove matches so.count

  pub round_fit : (P : Match → Type 0) → All P (shifted_all q (map seen all)) → All P put
  round_fit = all_fit q all waiting left so.done so.are found drove matches so.count

  pub round_few : (most : ℕ) → length (shifted_all q (map seen all)) < most → matches + length put < most
  round_few = all_few q all waiting left so.done so.are found drove matches so.count

  module _ (c : OutletState) (m : ℕ) where
    pub round_next : Took p put b c → m ≡ matches + length put → DroveSoFar q all left m a c
    round_next took count =
        let both = taken_then q all waiting left so.done so.are found drove matches so.count in
        let many = length-append taken_before put in
        let so_far = before in
        let sum : m ≡ length (taken_before ++ put) = omega arith in
        record {
          done = so.done ++ drove.driven;
          are = are_on q all waiting left so.done so.are found drove matches so.count;
          took = subst (λ (l : List Match). Took q l a c) (sym both) (taken_on q p same (shifted_all q (map seen all)) taken_before put later parts_are 0 matches before a b c so.took took);
          count = sum ∙ ap length (sym both);
        }

    -- the outlet failed at one of its matches
    pub round_failed : (f : FailedWithin p put b c) × (m ≡ matches + length f.first) → (f : FailedWithin q (shifted_all q (map seen all)) a c) × (m ≡ length f.first)
    round_failed f =
        let failed = failed_on q p same (shifted_all q (map seen all)) taken_before put later parts_are 0 matches before a b c so.took m f in
        let count = failed.1 in
        (failed.0, omega arith)

    -- there was no memory for one of them
    pub round_short : TookFirst p put b c → TookFirst q (shifted_all q (map seen all)) a c
    round_short = short_on q p same (shifted_all q (map seen all)) taken_before put later parts_are 0 matches before a b c so.took

-- whose matches are listed
module _ (q : Plan) (all waiting left : List kept.Part) (listed : List Match) (found : List (List Match)) (so : FoundSoFar q all waiting listed) (drove : DroveFirst q waiting left found) where
  pub list_fit : (P : Match → Type 0) → All P (shifted_all q (map seen all)) → All P (numbered_from (length listed) found)
  list_fit = all_fit q all waiting left so.done so.are found drove (length listed) (ap length so.matches)

  pub list_next : (more : List Match) → more ≡ listed ++ numbered_from (length listed) found → FoundSoFar q all left more
  list_next more is = record {
    done = so.done ++ drove.driven;
    are = are_on q all waiting left so.done so.are found drove (length listed) (ap length so.matches);
    matches = is ∙ ap (λ (l : List Match). l ++ numbered_from (length listed) found) so.matches
        ∙ sym (taken_then q all waiting left so.done so.are found drove (length listed) (ap length so.matches));
  }
