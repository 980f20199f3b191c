-- Lines are those of one list of entries.
use Rattle.std.proofs.Common.{◌≡◌, ℕ, ◌+◌, List, [], ◌∷◌, ◌++◌, length, map, refl, sym, ◌∙◌, ap, subst, append_assoc, append-nil}
use Rattle.std.specs.List.{All}
use Rattle.std.proofs.lemmas.List.Elements.{All-head, All-tail}
use Rattle.sp_plan.specs.declared.plan.Plan.{Plan}
use Rattle.sp_plan.specs.declared.found.Match.{Match}
use Rattle.sp_plan.specs.Lines.{line}
use Rattle.sp_emit.specs.Matches.{IsLine}
use Rattle.sp_emit.proofs.Lines.{one_match}
use Rattle.sp_listing.specs.Listing.{Entry, Begins, HoldsNumbers, IsMatch, IsEntry, IsBadLine, OneListing, head_line, listing_lines}
use Rattle.sp_listing.proofs.Heads.{one_begun, head_alone}

-- the match and its line
own_line : (q : Plan) (m : Match) → IsMatch q m → IsLine q m (line q m)
own_line q m is = record { held = is.0; binds = is.1; is = refl }

-- The first of these lines, if there is one, is that of no match.
abbrev NoMatch : Plan → List (List ℕ) → Type 0
NoMatch q ls = (l : List ℕ) (rest : List (List ℕ)) (m : Match) → ls ≡ l ∷ rest → IsLine q m l → ⊥

-- lines of matches, up to the first that is none
same_matches : (q : Plan) (ms ns : List Match) (r s : List (List ℕ)) → All (IsMatch q) ms → All (IsMatch q) ns → NoMatch q r → NoMatch q s
    → map (line q) ms ++ r ≡ map (line q) ns ++ s → (ms ≡ ns) × (r ≡ s)
same_matches q [] [] r s a b c d e = (refl, e)
same_matches q [] (n ∷ ns) r s a b c d e = absurd (c (line q n) (map (line q) ns ++ s) n e (own_line q n (All-head (IsMatch q) n ns b)))
same_matches q (m ∷ ms) [] r s a b c d e = absurd (d (line q m) (map (line q) ms ++ r) m (sym e) (own_line q m (All-head (IsMatch q) m ms a)))
same_matches q (m ∷ ms) (n ∷ ns) r s a b c d e =
    let first : line q m ≡ line q n = cc in
    let one : m ≡ n = one_match q (line q n) m n
    (record { held = (All-head (IsMatch q) m ms a).0; binds = (All-head (IsMatch q) m ms a).1; is = sym first }) (own_line q n (All-head (IsMatch q) n ns b)) in
    let more = same_matches q ms ns r s (All-tail (IsMatch q) m ms a) (All-tail (IsMatch q) n ns b) c d cc in
    ((λ i. one i ∷ more.0 i), more.1)

-- The first of these lines, if there is one, can't stand behind these entries.
pub record Ends (q : Plan) (before : List Entry) (ls : List (List ℕ)) : Type 0 where
  pub window : (l : List ℕ) (rest : List (List ℕ)) (e : Entry) → ls ≡ l ∷ rest → Begins l e → ⊥
  pub found : (l : List ℕ) (rest : List (List ℕ)) (m : Match) → ls ≡ l ∷ rest → IsLine q m l → before ≡ []

-- the entry as its line begins it
abbrev bare : Entry → Entry
bare e = record e { matches = [] }

own_head : (e : Entry) → HoldsNumbers e → Begins (head_line e) (bare e)
own_head e h = record { numbers = record { window = h.window; first = h.first; last = h.last; skipped = h.skipped; used = h.used }; none = refl; is = refl }

-- behind the matches of an entry no line of a match comes
no_match : (q : Plan) (e : Entry) (es : List Entry) (t : List (List ℕ)) → Ends q (e ∷ es) t → NoMatch q (listing_lines q es ++ t)
no_match q e [] t ends = λ l rest m same is. let none : e ∷ [] ≡ [] = ends.found l rest m same is in cc
no_match q e (f ∷ es) t ends = λ l rest m same is. head_alone q f m (let first : head_line f ≡ l = cc in first ∙ is.is)

later : (q : Plan) (e : Entry) (es : List Entry) (t : List (List ℕ)) → Ends q (e ∷ es) t → Ends q es t
later q e es t ends = record { window = ends.window; found = λ l rest m same is. absurd (let none : e ∷ es ≡ [] = ends.found l rest m same is in cc) }

-- lines of entries, up to the first that can't stand there
same_entries : (q : Plan) (es fs : List Entry) (t u : List (List ℕ)) → All (IsEntry q) es → All (IsEntry q) fs → Ends q es t → Ends q fs u
    → listing_lines q es ++ t ≡ listing_lines q fs ++ u → (es ≡ fs) × (t ≡ u)
same_entries q [] [] t u a b c d same = (refl, same)
same_entries q [] (f ∷ fs) t u a b c d same =
    absurd (c.window (head_line f) (map (line q) f.matches ++ listing_lines q fs ++ u) (bare f) same (own_head f (All-head (IsEntry q) f fs b).numbers))
same_entries q (e ∷ es) [] t u a b c d same =
    absurd (d.window (head_line e) (map (line q) e.matches ++ listing_lines q es ++ t) (bare e) (sym same) (own_head e (All-head (IsEntry q) e es a).numbers))
same_entries q (e ∷ es) (f ∷ fs) t u a b c d same =
    let first : head_line e ≡ head_line f = cc in
    let one : bare e ≡ bare f = one_begun (head_line f) (bare e) (bare f)
    (subst (λ (l : List ℕ). Begins l (bare e)) first (own_head e (All-head (IsEntry q) e es a).numbers)) (own_head f (All-head (IsEntry q) f fs b).numbers) in
    let behind : (map (line q) e.matches ++ listing_lines q es) ++ t ≡ (map (line q) f.matches ++ listing_lines q fs) ++ u = cc in
    let found = same_matches q e.matches f.matches (listing_lines q es ++ t) (listing_lines q fs ++ u)
    (All-head (IsEntry q) e es a).matches (All-head (IsEntry q) f fs b).matches (no_match q e es t c) (no_match q f fs u d)
    (sym (append_assoc (map (line q) e.matches) (listing_lines q es) t) ∙ behind ∙ append_assoc (map (line q) f.matches) (listing_lines q fs) u) in
    let more = same_entries q es fs t u (All-tail (IsEntry q) e es a) (All-tail (IsEntry q) f fs b) (later q e es t c) (later q f fs u d) found.1 in
    ((λ i. record (one i) { matches = found.0 i } ∷ more.0 i), more.1)

-- behind a whole listing no line stands
over : (q : Plan) (es : List Entry) → Ends q es []
over q es = record { window = λ l rest e same is. absurd cc; found = λ l rest m same is. absurd cc }

bad_ends : (q : Plan) (text : List ℕ) (number : ℕ) (b : IsBadLine q text number) → Ends q b.before (b.line ∷ b.rest)
bad_ends q text number b = record {
  window = λ l rest e same is. b.bad.window e (subst (λ (k : List ℕ). Begins k e) (let s : l ≡ b.line = cc in s) is);
  found = λ l rest m same is. b.bad.found m (subst (λ (k : List ℕ). IsLine q m k) (let s : l ≡ b.line = cc in s) is);
}

pub one_listing : OneListing
one_listing = record {
  entries = λ q text one other a b.
      let same = same_entries q one other [] [] a.held b.held (over q one) (over q other)
      (append-nil (listing_lines q one) ∙ sym a.are ∙ b.are ∙ sym (append-nil (listing_lines q other))) in
      same.0;
  bad = λ q text one other a b.
      let same = same_entries q a.before b.before (a.line ∷ a.rest) (b.line ∷ b.rest) a.held b.held (bad_ends q text one a) (bad_ends q text other b) (sym a.are ∙ b.are) in
      a.at ∙ ap (λ (es : List Entry). length (listing_lines q es) + 1) same.0 ∙ sym b.at;
  apart = λ q text entries number a b.
      let same = same_entries q entries b.before [] (b.line ∷ b.rest) a.held b.held (over q entries) (bad_ends q text number b)
      (append-nil (listing_lines q entries) ∙ sym a.are ∙ b.are) in
      let none : [] ≡ b.line ∷ b.rest = same.1 in
      cc;
}
