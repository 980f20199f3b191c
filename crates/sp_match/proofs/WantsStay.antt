-- What the runs want, from one event to the next.
use Rattle.std.proofs.Common.{◌≡◌, ℕ, eqb, ◌&&◌, zero, suc, ◌+◌, ◌-◌, ◌<◌, ◌≤◌, Bool, true, false, cond, List, [], ◌∷◌, ◌++◌, map, filter, length, take, take-append-drop, take_all, drop, get_or, replicate, refl, sym, ap, ◌∙◌, arith, append_assoc, length-append, length-drop}
use Rattle.std.specs.Prelude.{if◌then◌else◌}
use Rattle.std.specs.List.{All, flat_map, zip}
use borrow.Author.Tests.{eqb-true}
use Rattle.std.proofs.Math.Seq.{take-add}
use Rattle.std.proofs.lemmas.Grind.{flat_map-append}
use Rattle.std.proofs.lemmas.List.{append-nil, drop-map, length-map, length-replicate, length-take-le, map-append, replicate_more, take-map, take_more}
use Rattle.std.proofs.lemmas.List.Sums.{count_by-le-length, length-filter}
use Rattle.std.proofs.lemmas.List.Elements.{All-head, All-tail}
use Rattle.sp_wants.specs.declared.stretch.Stretch.{Stretch}
use Rattle.sp_wants.specs.Stretches.{all_pairs, pairs_of}
use Rattle.sp_plan.specs.declared.plan.Plan.{Plan}
use Rattle.sp_plan.specs.Runs.{Started}
use Rattle.sp_plan.specs.Moves.{left}
use Rattle.sp_match.specs.declared.run.Run.{Run}
use Rattle.sp_match.specs.declared.lefts.Lefts.{Lefts}
use Rattle.sp_match.specs.public.Matching.{Matching, wanted_as_before}
use Rattle.sp_match.specs.inside.Kept.{Kept, kept, pairs, started, stays}
use Rattle.sp_match.specs.inside.Effects.{open_runs}
use Rattle.sp_match.specs.inside.Going.{IsIdle}
use Rattle.sp_match.specs.inside.Tally.{is_leaving}
use Rattle.sp_match.specs.inside.Wanted.{AreLeft, HaveWanted, all_as_before, all_left, befores, wanted_all, wanted_by}

-- a run more of the stretch at hand
pub longer : (ws all : List (ℕ × ℕ)) (n : ℕ) (p : ℕ × ℕ) → ws ++ replicate n p ≡ all → ws ++ replicate (n + 1) p ≡ all ++ p ∷ []
longer ws all n p is =
    ap (λ (l : List (ℕ × ℕ)). ws ++ l) (sym (replicate_more n p)) ∙ sym (append_assoc ws (replicate n p) (p ∷ [])) ∙ ap (λ (l : List (ℕ × ℕ)). l ++ p ∷ []) is

-- a run that begins another one
pub begun : (ws later all : List (ℕ × ℕ)) (n : ℕ) (p r : ℕ × ℕ) → later ≡ ws ++ replicate n p → ws ++ replicate n p ≡ all → later ++ replicate 1 r ≡ all ++ r ∷ []
begun ws later all n p r ended is = ap (λ (l : List (ℕ × ℕ)). l ++ r ∷ []) (ended ∙ is)

zip_append : {X Y : Type 0} (xs more : List X) (ys others : List Y) → length xs ≡ length ys → zip (xs ++ more) (ys ++ others) ≡ zip xs ys ++ zip more others
zip_append [] more [] others same = refl
zip_append [] more (y ∷ ys) others same = absurd (omega (arith, same))
zip_append (x ∷ xs) more [] others same = absurd (omega (arith, same))
zip_append {X} {Y} (x ∷ xs) more (y ∷ ys) others same = ap {B = List (X × Y)} (λ l. (x, y) ∷ l) (zip_append xs more ys others (omega (arith, same)))

-- what runs want of which all wanted the same
stretch_wanted : (q : Plan) (before after n : ℕ) (ks : List Kept) → length ks ≡ n → wanted_all q (befores (replicate n (before, after))) ks ≡ flat_map (λ k. wanted_by q (before, k)) ks
stretch_wanted q before after zero [] many = refl
stretch_wanted q before after zero (k ∷ ks) many = absurd (omega (arith, many))
stretch_wanted q before after (suc n) [] many = absurd (omega (arith, many))
stretch_wanted q before after (suc n) (k ∷ ks) many =
    ap (λ (l : List (ℕ × ℕ)). wanted_by q (before, k) ++ l) (stretch_wanted q before after n ks (omega (arith, many)))

-- the runs of a stretch
pub these_are : (rs : List Run) (at n : ℕ) → map kept (take (at + n - at) (drop at rs)) ≡ take n (drop at (map kept rs))
these_are rs at n =
    let same : at + n - at ≡ n = omega arith in
    ap (λ (m : ℕ). map kept (take m (drop at rs))) same ∙ sym (take-map kept n (drop at rs)) ∙ ap (take n) (sym (drop-map kept at rs))

-- the pairs of a stretch more
stretch_behind : (ss : List Stretch) (i : ℕ) (d : Stretch) → i < length ss → all_pairs (take (i + 1) ss) ≡ all_pairs (take i ss) ++ pairs_of (get_or ss i d)
stretch_behind ss i d inside =
    let s : Stretch = get_or ss i d in
    ap all_pairs (take_more ss i d inside) ∙ flat_map-append pairs_of (take i ss) (s ∷ []) ∙ ap (λ (l : List (ℕ × ℕ)). all_pairs (take i ss) ++ l) (append-nil (pairs_of s))

-- a stretch more is so many pairs more
pub more_pairs : (ss : List Stretch) (i : ℕ) (d : Stretch) → i < length ss → length (all_pairs (take (i + 1) ss)) ≡ length (all_pairs (take i ss)) + (get_or ss i d).times
more_pairs ss i d inside =
    let s : Stretch = get_or ss i d in
    ap length (stretch_behind ss i d inside) ∙ length-append (all_pairs (take i ss)) (pairs_of s) ∙ ap (λ (n : ℕ). length (all_pairs (take i ss)) + n) (length-replicate s.times (s.before, s.after))

-- a stretch more
pub stretch_more : (q : Plan) (ss : List Stretch) (i at : ℕ) (d : Stretch) (ks these : List Kept) (ws later : List (ℕ × ℕ))
    → i < length ss → at ≡ length (all_pairs (take i ss)) → at + (get_or ss i d).times ≤ length ks → these ≡ take (get_or ss i d).times (drop at ks)
    → ws ≡ wanted_all q (befores (all_pairs (take i ss))) (take at ks) → later ≡ ws ++ flat_map (λ k. wanted_by q ((get_or ss i d).before, k)) these
    → later ≡ wanted_all q (befores (all_pairs (take (i + 1) ss))) (take (at + (get_or ss i d).times) ks)
stretch_more q ss i at d ks these ws later inside place within are told added =
    let s : Stretch = get_or ss i d in
    let front : List (ℕ × ℕ) = all_pairs (take i ss) in
    let rest : length ks ≡ at + length (drop at ks) = omega (arith, length-drop at ks, within) in
    let long : length (befores front) ≡ length (take at ks) = length-map front (λ (p : ℕ × ℕ). p.0) ∙ sym place ∙ sym (length-take-le at ks (omega (arith, within))) in
    let many : length (take s.times (drop at ks)) ≡ s.times = length-take-le s.times (drop at ks) (omega (arith, rest, within)) in
    let pairs_are : all_pairs (take (i + 1) ss) ≡ front ++ pairs_of s = stretch_behind ss i d inside in
    added
    ∙ (λ j. told j ++ flat_map (λ k. wanted_by q (s.before, k)) (are j))
    ∙ ap (λ (l : List (ℕ × ℕ)). wanted_all q (befores front) (take at ks) ++ l) (sym (stretch_wanted q s.before s.after s.times (take s.times (drop at ks)) many))
    ∙ sym (flat_map-append (wanted_by q) (zip (befores front) (take at ks)) (zip (befores (pairs_of s)) (take s.times (drop at ks))))
    ∙ ap (flat_map (wanted_by q)) (sym (zip_append (befores front) (befores (pairs_of s)) (take at ks) (take s.times (drop at ks)) long))
    ∙ (λ j. wanted_all q (sym (ap befores pairs_are ∙ map-append (λ (p : ℕ × ℕ). p.0) front (pairs_of s)) j) (sym (take-add at s.times ks) j))

-- what they wanted before an event that changes nothing
pub befores_same : (q : Plan) (ks : List Kept) → befores (all_as_before q ks) ≡ all_left q ks
befores_same q [] = refl
befores_same q (k ∷ ks) = ap (λ (l : List ℕ). left q (pairs k) ∷ l) (befores_same q ks)

-- runs that stay want what they want
pub idle_wanted : (q : Plan) (ks : List Kept) → All IsIdle ks → wanted_all q (all_left q ks) ks ≡ all_as_before q ks
idle_wanted q [] idle = refl
idle_wanted q (k ∷ ks) idle =
    (λ i. (if is_leaving (All-head IsIdle k ks idle i) then [] else (left q (pairs k), left q (pairs k)) ∷ []) ++ idle_wanted q ks (All-tail IsIdle k ks idle) i)

-- no more is told than there were runs
few_wanted : (q : Plan) (lefts : List ℕ) (ks : List Kept) → length (wanted_all q lefts ks) ≤ length lefts
few_wanted q [] ks = omega arith
few_wanted q (n ∷ lefts) [] = omega arith
few_wanted q (n ∷ lefts) (k ∷ ks) = one (is_leaving k.fate) (few_wanted q lefts ks)
  where
    one : (b : Bool) → length (wanted_all q lefts ks) ≤ length lefts → length ((if b then [] else (n, left q (pairs k)) ∷ []) ++ wanted_all q lefts ks) ≤ length (n ∷ lefts)
    one true few = omega (arith, few)
    one false few = omega (arith, few)

-- where nothing changes in what runs want, each wants what it wanted
pub unmoved : (q : Plan) (old ks : List Kept) → length old ≡ length ks → wanted_all q (all_left q old) ks ≡ all_as_before q old → all_as_before q ks ≡ all_as_before q old
unmoved q [] [] many same = refl
unmoved q [] (k ∷ ks) many same = absurd (omega (arith, many))
unmoved q (o ∷ old) [] many same = absurd (omega (arith, many))
unmoved q (o ∷ old) (k ∷ ks) many same = one (is_leaving k.fate) (unmoved q old ks (omega (arith, many))) same
  where
    one : (b : Bool) → (wanted_all q (all_left q old) ks ≡ all_as_before q old → all_as_before q ks ≡ all_as_before q old)
        → (if b then [] else (left q (pairs o), left q (pairs k)) ∷ []) ++ wanted_all q (all_left q old) ks ≡ all_as_before q (o ∷ old) → all_as_before q (k ∷ ks) ≡ all_as_before q (o ∷ old)
    one true rest is =
        let few = few_wanted q (all_left q old) ks in
        let as_many : length (wanted_all q (all_left q old) ks) ≡ length (all_as_before q (o ∷ old)) = ap length is in
        let these : length (all_left q old) ≡ length old = length-map old (λ (j : Kept). left q (pairs j)) in
        let those : length (all_as_before q old) ≡ length old = length-map old (λ (j : Kept). (left q (pairs j), left q (pairs j))) in
        absurd (omega (arith, few, as_many, these, those))
    one false rest is =
        let tail : wanted_all q (all_left q old) ks ≡ all_as_before q old = cc in
        let head : (left q (pairs o), left q (pairs k)) ≡ (left q (pairs o), left q (pairs o)) = cc in
        let now : left q (pairs k) ≡ left q (pairs o) = ap (λ (p : ℕ × ℕ). p.1) head in
        λ i. (now i, now i) ∷ rest tail i

-- as callers see the runs
pub as_started : (q : Plan) (ks : List Kept) → all_as_before q ks ≡ map {B = ℕ × ℕ} (λ (run : Started). (left q run.1, left q run.1)) (map started ks)
as_started q [] = refl
as_started q (k ∷ ks) = ap (λ (l : List (ℕ × ℕ)). (left q (pairs k), left q (pairs k)) ∷ l) (as_started q ks)

-- a filter that lets as many through as there are lets all through
all_through : {X : Type 0} (p : X → Bool) (xs : List X) → length (filter p xs) ≡ length xs → filter p xs ≡ xs
all_through p [] many = refl
all_through {X} p (x ∷ xs) many = one (p x) (all_through p xs) many
  where
    one : (b : Bool) → (length (filter p xs) ≡ length xs → filter p xs ≡ xs) → length (cond b (x ∷ filter p xs) (filter p xs)) ≡ length (x ∷ xs) → cond b (x ∷ filter p xs) (filter p xs) ≡ x ∷ xs
    one true rest is = ap {B = List X} (λ l. x ∷ l) (rest (omega (arith, is)))
    one false rest is = absurd (omega (arith, is, length-filter p xs, count_by-le-length p xs))

-- where as many runs are left as there were, they want the same
pub settled_want : (q : Plan) (handled settled : List Kept) → map started settled ≡ open_runs handled → length settled ≡ length handled → all_as_before q settled ≡ all_as_before q handled
settled_want q handled settled is many =
    let stay : List Kept = filter (λ k. stays k.fate) handled in
    let as_many : length stay ≡ length handled =
    sym (length-map stay started) ∙ ap length (sym is) ∙ length-map settled started ∙ many in
    as_started q settled
    ∙ ap (map {B = ℕ × ℕ} (λ (run : Started). (left q run.1, left q run.1))) (is ∙ ap (map started) (all_through (λ (k : Kept). stays k.fate) handled as_many))
    ∙ sym (as_started q handled)

-- runs that want what they wanted, with those behind them
pub followed : (q : Plan) (rs : List Run) (count : ℕ) (old : List Kept) (was wanted now : List (ℕ × ℕ)) → length old ≡ count → count ≤ length rs → was ≡ all_as_before q old
    → wanted ≡ wanted_all q (befores was) (take count (map kept rs)) → wanted ≡ was → now ≡ was ++ all_as_before q (map kept (drop count rs)) → now ≡ all_as_before q (map kept rs)
followed q rs count old was wanted now size within is told same more =
    let ks : List Kept = map kept rs in
    let many : length old ≡ length (take count ks) = size ∙ sym (length-take-le count ks (omega (arith, within, length-map rs kept))) in
    let lefts : befores was ≡ all_left q old = ap befores is ∙ befores_same q old in
    let stay : all_as_before q (take count ks) ≡ all_as_before q old =
    unmoved q old (take count ks) many (sym (told ∙ ap (λ (l : List ℕ). wanted_all q l (take count ks)) lefts) ∙ same ∙ is) in
    more
    ∙ (λ i. (is ∙ sym stay) i ++ all_as_before q (sym (drop-map kept count rs) i))
    ∙ sym (map-append (λ (k : Kept). (left q (pairs k), left q (pairs k))) (take count ks) (drop count ks))
    ∙ ap (all_as_before q) (take-append-drop count ks)

-- where the event did nothing, the runs want what they wanted
pub quiet_want : (q : Plan) (count : ℕ) (wants : List (ℕ × ℕ)) (quiet : Bool) (old new : List Kept) → HaveWanted q count wants quiet old new → quiet ≡ true → wants ≡ wanted_all q (all_left q old) (take count new)
quiet_want q count wants quiet old new have is =
    have.wants_are ∙ sym (idle_wanted q old have.idle)
    ∙ ap (wanted_all q (all_left q old)) (sym (take_all count old (omega (arith, have.size))) ∙ ap (take count) (sym (have.quiet_is is)))

-- and what is kept of that stays so
pub quiet_left : (q : Plan) (count : ℕ) (wants : List (ℕ × ℕ)) (quiet : Bool) (old new : List Kept) → HaveWanted q count wants quiet old new → quiet ≡ true → wants ≡ all_as_before q new
quiet_left q count wants quiet old new have is = have.wants_are ∙ ap (all_as_before q) (sym (have.quiet_is is))

-- as many as there were
pub many : (q : Plan) (count : ℕ) (wants : List (ℕ × ℕ)) (quiet : Bool) (old new : List Kept) → HaveWanted q count wants quiet old new → length wants ≡ count
many q count wants quiet old new have = ap length have.wants_are ∙ length-map old (λ (k : Kept). (left q (pairs k), left q (pairs k))) ∙ have.size

-- else each of those that were open wants what it is told to want
pub told_want : (q : Plan) (count : ℕ) (wants ws : List (ℕ × ℕ)) (quiet : Bool) (old new : List Kept) → HaveWanted q count wants quiet old new → ws ≡ wanted_all q (befores wants) (take (length wants) new) → ws ≡ wanted_all q (all_left q old) (take count new)
told_want q count wants ws quiet old new have is =
    is ∙ λ i. wanted_all q ((ap befores have.wants_are ∙ befores_same q old) i) (take (many q count wants quiet old new have i) new)

both : (a b : Bool) → (a && b) ≡ true → (a ≡ true) × (b ≡ true)
both true b is = (refl, is)
both false b is = absurd cc

-- what is kept stays so where as many runs are left as there were when the event was handled
pub left_after : (p q : Plan) (handled settled : List Kept) (lefts now : Lefts) (a b : ℕ) → p ≡ q → AreLeft p handled lefts → map started settled ≡ open_runs handled
    → now.is_fresh ≡ (lefts.is_fresh && eqb a b) → now.wants ≡ lefts.wants → a ≡ length settled → b ≡ length handled → AreLeft q settled now
left_after p q handled settled lefts now a b plan left is fresh_is wants_are size count = λ fresh.
    let stayed = both lefts.is_fresh (eqb a b) (sym fresh_is ∙ fresh) in
    let as_many : length settled ≡ length handled = sym size ∙ eqb-true a b stayed.1 ∙ count in
    wants_are ∙ left stayed.0 ∙ sym (settled_want p handled settled is as_many) ∙ ap (λ (r : Plan). all_as_before r settled) plan

-- as callers see what is kept of what the runs want
pub as_wanted : (q : Plan) (ks : List Kept) (m : Matching) (count : ℕ) → record { plan = q; open_runs = map started ks; started = count } ≡ m → all_as_before q ks ≡ wanted_as_before m
as_wanted q ks m count view = as_started q ks ∙ ap wanted_as_before view
