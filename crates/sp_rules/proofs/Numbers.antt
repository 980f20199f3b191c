-- What soundness and leading on say of run numbers, and of the numbers of events that matches used.
use Rattle.std.proofs.Common.{◌≡◌, ℕ, ◌≤◌, Bool, true, false, cond, ◌||◌, ◌==◌, List, [], ◌∷◌, ◌++◌, map, refl, sym, ap, ◌∙◌, arith}
use Rattle.std.specs.Prelude.{slice_get}
use Rattle.std.specs.List.{All, filter, flat_map, list_any}
use Rattle.std.proofs.lemmas.Bool.Decides.{nat_tests}
use Rattle.std.proofs.lemmas.List.{map-append}
use Rattle.std.proofs.lemmas.List.Concat.{flat_map-append}
use Rattle.std.proofs.lemmas.List.Elements.{All-head, All-tail, filter-append}
use Rattle.std.proofs.lemmas.List.Folds.{list_any-append}
use Rattle.sp_base.specs.Numbers.{is_among}
use Rattle.sp_plan.specs.declared.plan.Plan.{Plan}
use Rattle.sp_plan.specs.Runs.{Pair, Run, Started, State, used, is_consumed}
use Rattle.sp_plan.specs.Moves.{is_run, pairs_of}
use Rattle.sp_match.specs.public.Laws.{Leads, is_matched, used_by_all}
use Rattle.sp_rules.specs.Lawful.{NumbersAreLawful}

or_left : (a b : Bool) → a ≡ true → (a || b) ≡ true
or_left true b is = refl
or_left false b is = absurd (cc)

or_right : (a b : Bool) → b ≡ true → (a || b) ≡ true
or_right true b is = refl
or_right false b is = is

-- a number was given
abbrev IsGiven : ℕ → Started → Type 0
IsGiven n run = (1 ≤ run.0) × (run.0 ≤ n)

-- the number of a run that is there was given
there_given : (n r : ℕ) (runs : List Started) → All (IsGiven n) runs → list_any (is_run r) runs ≡ true → (1 ≤ r) × (r ≤ n)
there_given n r [] given there = absurd (cc)
there_given n r (x ∷ runs) given there = one (is_run r x) refl there (there_given n r runs (All-tail (IsGiven n) x runs given))
  where
    one : (b : Bool) → is_run r x ≡ b → (b || list_any (is_run r) runs) ≡ true → (list_any (is_run r) runs ≡ true → (1 ≤ r) × (r ≤ n)) → (1 ≤ r) × (r ≤ n)
    one true is there rest =
        let here = All-head (IsGiven n) x runs given in
        let same : x.0 ≡ r = grind (arith, nat_tests) in
        (omega (arith, here.0), omega (arith, here.1))
    one false is there rest = rest there

-- the numbers that these runs use
abbrev used_in : Plan → List Started → List ℕ
used_in q runs = flat_map (used q) (map (λ (run : Started). run.1) runs)

used_append : (q : Plan) (a b : Run) → used q (a ++ b) ≡ used q a ++ used q b
used_append q a b =
    let consumed : Pair → Bool = λ pair. is_consumed (slice_get q.names pair.name) in
    ap (map (λ (pair : Pair). pair.number)) (filter-append consumed a b) ∙ map-append (λ (pair : Pair). pair.number) (filter consumed a) (filter consumed b)

among_append : (ms ns : List ℕ) (i : ℕ) → is_among (ms ++ ns) i ≡ (is_among ms i || is_among ns i)
among_append ms ns i = list_any-append (λ (m : ℕ). m == i) ms ns

used_in_append : (q : Plan) (xs ys : List Started) → used_in q (xs ++ ys) ≡ used_in q xs ++ used_in q ys
used_in_append q xs ys =
    ap (flat_map (used q)) (map-append (λ (run : Started). run.1) xs ys)
    ∙ flat_map-append (used q) (map (λ (run : Started). run.1) xs) (map (λ (run : Started). run.1) ys)

-- a run of a number that uses an event is one of those that use it
used_by_one : (q : Plan) (runs : List Started) (r i : ℕ) → is_among (used q (pairs_of runs r)) i ≡ true → is_among (used_in q runs) i ≡ true
used_by_one q [] r i among = among
used_by_one q (x ∷ runs) r i among = among_append (used q x.1) (used_in q runs) i ∙ one (is_run r x) among (used_by_one q runs r i)
  where
    either : (a b c : Bool) → (a || b) ≡ true → (b ≡ true → c ≡ true) → (a || c) ≡ true
    either true b c holds rest = refl
    either false b c holds rest = rest holds

    one : (b : Bool) → is_among (used q (flat_map (λ (run : Started). run.1) (cond b (x ∷ filter (is_run r) runs) (filter (is_run r) runs)))) i ≡ true
        → (is_among (used q (pairs_of runs r)) i ≡ true → is_among (used_in q runs) i ≡ true) → (is_among (used q x.1) i || is_among (used_in q runs) i) ≡ true
    one true among rest =
        let parts = ap (λ (ns : List ℕ). is_among ns i) (used_append q x.1 (pairs_of runs r)) ∙ among_append (used q x.1) (used q (pairs_of runs r)) i in
        either (is_among (used q x.1) i) (is_among (used q (pairs_of runs r)) i) (is_among (used_in q runs) i) (sym parts ∙ among) rest
    one false among rest = or_right (is_among (used q x.1) i) (is_among (used_in q runs) i) (rest among)

-- a run with a group is there
group_there : (q : Plan) (runs : List Started) (r i : ℕ) → is_among (used q (pairs_of runs r)) i ≡ true → list_any (is_run r) runs ≡ true
group_there q [] r i among = absurd (cc)
group_there q (x ∷ runs) r i among = one (is_run r x) among (group_there q runs r i)
  where
    one : (b : Bool) → is_among (used q (flat_map (λ (run : Started). run.1) (cond b (x ∷ filter (is_run r) runs) (filter (is_run r) runs)))) i ≡ true
        → (is_among (used q (pairs_of runs r)) i ≡ true → list_any (is_run r) runs ≡ true) → (b || list_any (is_run r) runs) ≡ true
    one true among rest = refl
    one false among rest = rest among

match_stays : (q : Plan) (s t : State) (r : ℕ) → Leads q s t → is_matched s r ≡ true → is_matched t r ≡ true
match_stays q s t r leads matched =
    let stays = leads.matched_stays in
    ap (list_any (is_run r)) stays.1 ∙ list_any-append (is_run r) s.matched stays.0 ∙ or_left (is_matched s r) (list_any (is_run r) stays.0) matched

used_stays : (q : Plan) (s t : State) (i : ℕ) → Leads q s t → is_among (used_by_all q s) i ≡ true → is_among (used_by_all q t) i ≡ true
used_stays q s t i leads among =
    let stays = leads.matched_stays in
    ap (λ (runs : List Started). is_among (used_in q runs) i) stays.1
    ∙ ap (λ (ns : List ℕ). is_among ns i) (used_in_append q s.matched stays.0)
    ∙ among_append (used_in q s.matched) (used_in q stays.0) i
    ∙ or_left (is_among (used_in q s.matched) i) (is_among (used_in q stays.0) i) among

-- the law of numbers
pub numbers_are_lawful : (q : Plan) → NumbersAreLawful q
numbers_are_lawful q = record {
  open_given = λ s r sound there. there_given s.started r s.open_runs sound.ordered.given there;
  matched_given = λ s r sound there. there_given s.started r s.matched sound.given there;
  group_open = λ s r i among. group_there q s.open_runs r i among;
  match_stays = match_stays q;
  used_stays = used_stays q;
  group_used = λ s t r i leads matched among. used_by_one q t.matched r i (leads.match_contains r i matched among);
}
