-- A run with one pair more keeps what every run keeps, and taking the pair away gives the run before.
use Rattle.std.proofs.Common.{◌≡◌, ◌≢◌, ℕ, ◌+◌, ◌-◌, ◌<◌, ◌≤◌, Bool, true, false, cond, ◌||◌, ◌==◌, List, [], ◌∷◌, ◌++◌, map, length, get_or, set, Option, Some, None, refl, sym, ap, subst, ◌∙◌, arith, get_or-set_other, append-nil}
use Rattle.std.specs.Prelude.{IfSome, slice_get, if◌then◌else◌}
use Rattle.std.specs.List.{All, AllPairs, filter, last_or, zip}
use Rattle.std.proofs.lemmas.Bool.Decides.{nat_tests}
use Rattle.std.proofs.lemmas.List.{length-set, length_push, set-set, set-get_or, take_at, map_push, get_or-replicate}
use Rattle.std.proofs.lemmas.Grind.{get_or-set_at}
use Rattle.std.proofs.lemmas.List.Elements.{All-head, All-nil, All-push, All-tail, filter-append}
use Rattle.std.proofs.lemmas.List.Folds.{list_any-append}
use Rattle.std.proofs.lemmas.List.Quantifiers.{all_pairs_push}
use Rattle.sp_base.specs.Numbers.{is_among}
use Rattle.sp_plan.specs.declared.event.Event.{Event}
use Rattle.sp_plan.specs.declared.plan.Plan.{Plan}
use Rattle.sp_plan.specs.Bounds.{IsSmall}
use Rattle.sp_plan.specs.Compiled.{IsCompiled}
use Rattle.sp_plan.specs.Windows.{Numbered}
use Rattle.sp_plan.specs.Runs.{Pair, Run, bound_names, is_bound, is_consumed, used}
use Rattle.sp_match.specs.declared.run.Fate.{Fate}
use Rattle.sp_match.specs.declared.run.Fate.TheVariants.{Stays}
use Rattle.sp_match.specs.inside.Kept.{Kept, before, binds, but_last, empty, grown, last_under, name_under, pair_of, pairs, undone}
use Rattle.sp_match.specs.inside.Good.{Good, NumbersBelow, bound_count}
use Rattle.sp_match.specs.inside.Effects.{looking, run_with_event}
use Rattle.sp_match.proofs.NamesAreCounted.{bound_grown}
use Rattle.sp_match.proofs.PairsOfRuns.{pairs_push}
use Rattle.sp_match.proofs.RunsAfterBinding.{used_below}

-- a run of which it has to be looked for what it may take next, and that stays open
abbrev pub looked_for : Kept → Kept
looked_for k = record k { ahead = None; fate = Stays }

-- what a run was before doesn't hang on whether it stays
pub before_fate : (n : ℕ) (f : Fate) (k : Kept) → before n (record k { fate = f }) ≡ before n k
before_fate n f k = one (last_under n k)
  where
    one : (o : Option ℕ) → undone n o (record k { fate = f }) ≡ undone n o k
    one None = refl
    one (Some name) = refl

pub good_fate : (q : Plan) (f : Fate) (k : Kept) → Good q k → Good q (record k { fate = f })
good_fate q f k g = record {
  same_names = g.same_names;
  named = g.named;
  flags = g.flags;
  marks = g.marks;
  counted = g.counted;
  ahead_is = g.ahead_is;
  used_is = g.used_is;
  rising = g.rising;
  small = g.small;
  undoes = g.undoes;
}

pub good_looked : (q : Plan) (k : Kept) → Good q k → Good q (looked_for k)
good_looked q k g = record {
  same_names = g.same_names;
  named = g.named;
  flags = g.flags;
  marks = g.marks;
  counted = g.counted;
  ahead_is = tt;
  used_is = g.used_is;
  rising = g.rising;
  small = g.small;
  undoes = g.undoes;
}

pub good_looking : (q : Plan) (k : Kept) → Good q k → Good q (looking q k)
good_looking q k g = record {
  same_names = g.same_names;
  named = g.named;
  flags = g.flags;
  marks = g.marks;
  counted = g.counted;
  ahead_is = (refl, refl, refl);
  used_is = g.used_is;
  rising = g.rising;
  small = g.small;
  undoes = g.undoes;
}

but_last_push : {X : Type 0} (xs : List X) (x : X) → but_last (xs ++ x ∷ []) ≡ xs
but_last_push xs x = let e : length xs ≡ length (xs ++ x ∷ []) - 1 = omega (arith, length_push xs x) in take_at xs (x ∷ []) (length (xs ++ x ∷ []) - 1) e

pub last_push : {X : Type 0} (o : Option X) (xs : List X) (x : X) → last_or o (xs ++ x ∷ []) ≡ Some x
last_push o [] x = refl
last_push o (y ∷ ys) x = last_push (Some y) ys x

-- the flag of a name is as before, where it was set
flag_back : (flags : List Bool) (name : ℕ) (b : Bool) → get_or flags name false ≡ b → (if b then set flags name true else set (set flags name true) name false) ≡ flags
flag_back flags name true e = ap (set flags name) (sym e) ∙ set-get_or flags name false
flag_back flags name false e = set-set flags name true false ∙ ap (set flags name) (sym e) ∙ set-get_or flags name false

-- and the count of the flags
count_back : (b : Bool) (n : ℕ) → (if b then (if b then n else n + 1) else (if b then n else n + 1) - 1) ≡ n
count_back true n = refl
count_back false n = omega arith

-- a number above all isn't among them
not_among : (ns : List ℕ) (n : ℕ) → All (λ m. m < n) ns → is_among ns n ≡ false
not_among [] n below = refl
not_among (m ∷ ns) n below =
    let less : m < n = All-head (λ m. m < n) m ns below in
    let other : (m == n) ≡ false = grind (arith, nat_tests) in
    λ i. other i || not_among ns n (All-tail (λ m. m < n) m ns below) i

pub itself : (n : ℕ) → (n == n) ≡ true
itself n = grind (arith, nat_tests)

among_push : (ns : List ℕ) (n : ℕ) → is_among (ns ++ n ∷ []) n ≡ true
among_push ns n = list_any-append (λ m. m == n) ns (n ∷ []) ∙ (λ i. is_among ns n || (itself n i || false)) ∙ any_true (is_among ns n)
  where
    any_true : (b : Bool) → (b || (true || false)) ≡ true
    any_true true = refl
    any_true false = refl

used_back : (c : Bool) (ns : List ℕ) (n : ℕ) → All (λ m. m < n) ns
    → (if is_among (if c then ns ++ n ∷ [] else ns) n then but_last (if c then ns ++ n ∷ [] else ns) else (if c then ns ++ n ∷ [] else ns)) ≡ ns
used_back true ns n below = (λ i. if among_push ns n i then but_last (ns ++ n ∷ []) else ns ++ n ∷ []) ∙ but_last_push ns n
used_back false ns n below = λ i. if not_among ns n below i then but_last ns else ns

-- a pair of a name, as the definitions and as the run have it
bound_pairs : (name : ℕ) (bs : List (ℕ × ℕ)) (es : List (ℕ × Event)) → map (λ p. p.0) bs ≡ map (λ p. p.0) es → is_bound (map pair_of (zip bs es)) name ≡ binds name bs
bound_pairs name [] [] same = refl
bound_pairs name [] (e ∷ es) same = refl
bound_pairs name (b ∷ bs) [] same = cc
bound_pairs name (b ∷ bs) (e ∷ es) same =
    let tail : map (λ p. p.0) bs ≡ map (λ p. p.0) es = cc in
    ap (λ rest. (b.0 == name) || rest) (bound_pairs name bs es tail)

-- where a name is bound there is a pair
some_pair : (name : ℕ) (bs : List (ℕ × ℕ)) → binds name bs ≡ true → 0 < length bs
some_pair name [] bound = cc
some_pair name (b ∷ bs) bound = omega arith

-- the last of numbers below n is not n
last_below : (n : ℕ) (bs : List (ℕ × ℕ)) (o : Option (ℕ × ℕ)) → IfSome o (λ p. p.1 < n) → All (λ m. m < n) (map (λ p. p.1) bs) → IfSome (last_or o bs) (λ p. p.1 < n)
last_below n [] o first below = first
last_below n (b ∷ bs) o first below = last_below n bs (Some b) (All-head (λ m. m < n) b.1 (map (λ p. p.1) bs) below) (All-tail (λ m. m < n) b.1 (map (λ p. p.1) bs) below)

not_under : (n : ℕ) (o : Option (ℕ × ℕ)) → IfSome o (λ p. p.1 < n) → name_under n o ≡ None
not_under n None below = refl
not_under n (Some p) below = let other : (p.1 == n) ≡ false = grind (arith, nat_tests) in λ i. if other i then Some p.0 else None

-- a run that hasn't bound the event of this number is as before
pub before_below : (n : ℕ) (k : Kept) → NumbersBelow n k → before n k ≡ looked_for k
before_below n k below = ap (λ (o : Option ℕ). undone n o k) (not_under n (last_or None k.bound) (last_below n k.bound None tt below))

-- a run that has bound the event is as before, where that is undone
pub before_bound : (q : Plan) (name : ℕ) (x : Numbered) (k : Kept) → Good q k → name < 32 → NumbersBelow x.0 k → before x.0 (run_with_event q name x k) ≡ before x.0 k
before_bound q name x k g named below =
    ap (λ (o : Option ℕ). undone x.0 o (run_with_event q name x k)) (ap (name_under x.0) (last_push None k.bound (name, x.0)) ∙ λ i. if itself x.0 i then Some name else None)
    ∙ back ∙ sym (before_below x.0 k below)
  where
    flag : get_or k.names name false ≡ binds name k.bound
    flag = g.marks name named ∙ bound_pairs name k.bound k.events g.same_names

    flags : (if binds name (but_last (k.bound ++ (name, x.0) ∷ [])) then set k.names name true else set (set k.names name true) name false) ≡ k.names
    flags = (λ i. if binds name (but_last_push k.bound (name, x.0) i) then set k.names name true else set (set k.names name true) name false) ∙ flag_back k.names name (binds name k.bound) flag

    count : (if binds name (but_last (k.bound ++ (name, x.0) ∷ [])) then (if get_or k.names name false then k.bound_names else k.bound_names + 1)
        else (if get_or k.names name false then k.bound_names else k.bound_names + 1) - 1) ≡ k.bound_names
    count =
        (λ i. if binds name (but_last_push k.bound (name, x.0) i) then (if flag i then k.bound_names else k.bound_names + 1) else (if flag i then k.bound_names else k.bound_names + 1) - 1)
        ∙ count_back (binds name k.bound) k.bound_names

    back : undone x.0 (Some name) (run_with_event q name x k) ≡ looked_for k
    back = λ i. record {
      number = k.number;
      bound = but_last_push k.bound (name, x.0) i;
      used = used_back (is_consumed (slice_get q.names name)) k.used x.0 (used_below q x.0 k g below) i;
      events = but_last_push k.events (name, x.1) i;
      names = flags i;
      bound_names = count i;
      ahead = None;
      fate = Stays;
    }

pub used_push : (q : Plan) (r : Run) (p : Pair) → used q (r ++ p ∷ []) ≡ (if is_consumed (slice_get q.names p.name) then used q r ++ p.number ∷ [] else used q r)
used_push q r p =
    ap (λ pairs. map (λ pair. pair.number) pairs) (filter-append (λ pair. is_consumed (slice_get q.names pair.name)) r (p ∷ []))
    ∙ one (is_consumed (slice_get q.names p.name))
  where
    one : (b : Bool) → map (λ pair. pair.number) (filter (λ pair. is_consumed (slice_get q.names pair.name)) r ++ cond b (p ∷ []) []) ≡ (if b then used q r ++ p.number ∷ [] else used q r)
    one true = map_push (λ pair. pair.number) (filter (λ pair. is_consumed (slice_get q.names pair.name)) r) p
    one false = ap (map (λ pair. pair.number)) (append-nil (filter (λ pair. is_consumed (slice_get q.names pair.name)) r))

-- the numbers that it would use
pub used_grown : (q : Plan) (name number : ℕ) (event : Event) (k : Kept) → map (λ p. p.0) k.bound ≡ map (λ p. p.0) k.events → k.used ≡ used q (pairs k)
    → (grown name (is_consumed (slice_get q.names name)) number event k).used ≡ used q (pairs (grown name (is_consumed (slice_get q.names name)) number event k))
used_grown q name number event k same is =
    (λ i. if is_consumed (slice_get q.names name) then is i ++ number ∷ [] else is i) ∙ sym (used_push q (pairs k) (record { name = name; number = number; event = event }))
    ∙ ap (used q) (sym (pairs_push k.bound k.events name number event same))

pub good_grown : (q : Plan) (name number : ℕ) (event : Event) (k : Kept) → Good q k → name < length q.names → IsCompiled q → is_among (bound_names q) name ≡ true → IsSmall event → NumbersBelow number k
    → Good q (grown name (is_consumed (slice_get q.names name)) number event k)
good_grown q name number event k g named compiled among small below = record {
  same_names = map_push (λ p. p.0) k.bound (name, number) ∙ (λ i. g.same_names i ++ name ∷ []) ∙ sym (map_push (λ p. p.0) k.events (name, event));
  named = All-push (λ p. p.0 < length q.names) k.bound (name, number) g.named named;
  flags = length-set k.names name true ∙ g.flags;
  marks = marks;
  counted = counted;
  ahead_is = tt;
  used_is = used_grown q name number event k g.same_names g.used_is;
  rising = subst (AllPairs (λ m n. m < n)) (sym (map_push (λ p. p.1) k.bound (name, number)))
      (all_pairs_push (λ m n. m < n) (map (λ p. p.1) k.bound) number g.rising (λ i d within. below i d within));
  small = All-push (λ pair. IsSmall pair.1) k.events (name, event) g.small small;
  undoes = record {
    named = All-push (λ p. p.0 < 32) k.bound (name, number) g.undoes.named (let small_enough = compiled.names in omega (arith, named, small_enough));
    same = length_push k.bound (name, number) ∙ ap (λ n. n + 1) g.undoes.same ∙ sym (length_push k.events (name, event));
    some_name = λ some. some_bound (get_or k.names name false) refl;
  };
}
  where
    few : length q.names ≤ 32
    few = compiled.names

    pair : Pair
    pair = record { name = name; number = number; event = event }

    more : map pair_of (zip (k.bound ++ (name, number) ∷ []) (k.events ++ (name, event) ∷ [])) ≡ pairs k ++ pair ∷ []
    more = pairs_push k.bound k.events name number event g.same_names

    own_flag : get_or k.names name false ≡ is_bound (pairs k) name
    own_flag = g.marks name (omega (arith, named, few))

    -- the name was bound before, or is now
    counted : (if get_or k.names name false then k.bound_names else k.bound_names + 1)
        ≡ bound_count q (map pair_of (zip (k.bound ++ (name, number) ∷ []) (k.events ++ (name, event) ∷ [])))
    counted =
        (λ i. if own_flag i then g.counted i else g.counted i + 1) ∙ one (is_bound (pairs k) name) ∙ sym (bound_grown q (pairs k) pair compiled among) ∙ sym (ap (bound_count q) more)
      where
        one : (b : Bool) → (if b then bound_count q (pairs k) else bound_count q (pairs k) + 1) ≡ bound_count q (pairs k) + cond b 0 1
        one true = omega arith
        one false = refl

    some_bound : (b : Bool) → get_or k.names name false ≡ b → 0 < (if b then k.bound_names else k.bound_names + 1)
    some_bound true e = g.undoes.some_name (some_pair name k.bound (sym (bound_pairs name k.bound k.events g.same_names) ∙ sym own_flag ∙ e))
    some_bound false e = omega arith

    marks : (n : ℕ) → n < 32 → get_or (set k.names name true) n false ≡ is_bound (map pair_of (zip (k.bound ++ (name, number) ∷ []) (k.events ++ (name, event) ∷ []))) n
    marks n within =
        one (name == n) refl ∙ sym (list_any-append (λ p. p.name == n) (pairs k) (pair ∷ [])) ∙ sym (ap (λ r. is_bound r n) more)
      where
        any_true : (b : Bool) → true ≡ (b || true)
        any_true true = refl
        any_true false = refl

        any_same : (b : Bool) → b ≡ (b || false)
        any_same true = refl
        any_same false = refl

        one : (b : Bool) → (name == n) ≡ b → get_or (set k.names name true) n false ≡ (is_bound (pairs k) n || ((name == n) || false))
        one true e =
            let same : n ≡ name = grind (arith, nat_tests) in
            get_or-set_at k.names name n true false same (omega (arith, g.flags)) ∙ any_true (is_bound (pairs k) n) ∙ ap (λ b. is_bound (pairs k) n || (b || false)) (sym e)
        one false e =
            let other : n ≢ name = grind (arith, nat_tests) in
            get_or-set_other k.names name n true false other ∙ g.marks n within ∙ any_same (is_bound (pairs k) n) ∙ ap (λ b. is_bound (pairs k) n || (b || false)) (sym e)

-- a run that has bound nothing keeps what every run keeps
none_bound : (names : List ℕ) → 0 ≡ length (filter (is_bound []) names)
none_bound [] = refl
none_bound (name ∷ names) = none_bound names

pub good_empty : (q : Plan) (number : ℕ) → Good q (empty number)
good_empty q number = record {
  same_names = refl;
  named = All-nil (λ p. p.0 < length q.names);
  flags = refl;
  marks = λ name within. get_or-replicate 32 name false false within;
  counted = none_bound (bound_names q);
  ahead_is = tt;
  used_is = refl;
  rising = λ i j d less inside. absurd (omega arith);
  small = All-nil (λ pair. IsSmall pair.1);
  undoes = record { named = All-nil (λ p. p.0 < 32); same = refl; some_name = λ some. absurd (omega (arith, some)) };
}
