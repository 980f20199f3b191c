-- What is kept of runs stays where they go on.
use Rattle.std.proofs.Common.{◌≡◌, ℕ, ◌+◌, ◌-◌, ◌<◌, ◌≤◌, Bool, true, false, cond, not, ◌||◌, ◌==◌, List, [], ◌∷◌, ◌++◌, map, length, take, get_or, Option, Some, None, refl, sym, ap, subst, ◌∙◌, inl, inr, arith}
use Rattle.std.specs.Prelude.{IfSome, if◌then◌else◌}
use Rattle.std.specs.Option.{option_map}
use Rattle.std.specs.List.{All, filter, last_or, list_any, zip}
use Rattle.std.proofs.lemmas.Bool.{cases_Bool}
use Rattle.std.proofs.lemmas.Bool.Decides.{nat_tests}
use Rattle.std.proofs.lemmas.List.{append-nil, get_or-map, get_or-take, length-map, length-take, map_push, take_all, take_more}
use Rattle.std.proofs.lemmas.List.Elements.{filter-append}
use Rattle.sp_base.specs.Numbers.{is_among}
use Rattle.sp_plan.specs.declared.event.Event.{Event}
use Rattle.sp_plan.specs.declared.plan.Element.{Element}
use Rattle.sp_plan.specs.declared.plan.Name.{Name}
use Rattle.sp_plan.specs.declared.plan.Plan.{Plan}
use Rattle.sp_plan.specs.Held.{HeldSidesStandAlone, blank, held_columns}
use Rattle.sp_plan.specs.Runs.{Pair, again, binds, bound_events, is_bound, is_plus, unbound}
use Rattle.sp_plan.specs.Values.{last_bound}
use Rattle.sp_match.specs.declared.holdings.Holding.{Holding}
use Rattle.sp_match.specs.inside.Kept.{Kept, before, but_last, empty, last_under, name_under, pair_of, pairs, undone}
use Rattle.sp_match.specs.inside.Effects.{run_at}
use Rattle.sp_match.specs.inside.Good.{Good, NumbersBelow, Undoes}
use Rattle.sp_match.specs.inside.Taking.{next_element}
use Rattle.sp_match.specs.inside.Takers.{AreAlike, AreHeld, GoesOn, IsRepeated, asked, columns_over, is_read, is_read_by, run_in}
use Rattle.sp_match.proofs.AheadStays.{is_last_bound, same_bound, same_guards, same_next}
use Rattle.sp_match.proofs.GrownRunIsGood.{before_below, last_push, looked_for}
use Rattle.sp_match.proofs.PairsOfRuns.{last_name}
use Rattle.sp_match.proofs.WantedIsTold.{zip_push}

abbrev name_of : Option Pair → Option ℕ
name_of o = option_map (λ (x : Pair). x.name) o

again_by_name : (elements : List Element) (o : Option Pair) (n : ℕ) → name_of o ≡ Some n → again elements o ≡ (if list_any (is_plus n) elements then n ∷ [] else [])
again_by_name elements None n is = absurd (cc is)
again_by_name elements (Some pair) n is = let same : pair.name ≡ n = cc in ap (λ (m : ℕ). if list_any (is_plus m) elements then m ∷ [] else []) same

last_is_bound : (r : List Pair) (o : Option Pair) (n : ℕ) → last_or None r ≡ o → name_of o ≡ Some n → is_bound r n ≡ true
last_is_bound r None n last is = absurd (cc is)
last_is_bound r (Some pair) n last is = let same : pair.name ≡ n = cc in subst (λ (m : ℕ). is_bound r m ≡ true) same (is_last_bound r pair last)

same_unbound : (r : List Pair) (p : Pair) → is_bound r p.name ≡ true → (o : Option Element) → unbound (r ++ p ∷ []) o ≡ unbound r o
same_unbound r p bound None = refl
same_unbound r p bound (Some element) = λ i. filter (λ name. not (same_bound r p bound name i)) (binds element)

filter_other : {X : Type 0} (test : X → Bool) (xs : List X) (x : X) → test x ≡ false → filter test (xs ++ x ∷ []) ≡ filter test xs
filter_other test xs x other = filter-append test xs (x ∷ []) ∙ (λ i. filter test xs ++ cond (other i) (x ∷ []) []) ∙ append-nil (filter test xs)

-- a run that binds its last name once more, which no held side reads
module _ (q : Plan) (r : List Pair) (p : Pair) (last : name_of (last_or None r) ≡ Some p.name) (unread : is_read q p.name ≡ false) where
  bound : is_bound r p.name ≡ true
  bound = last_is_bound r (last_or None r) p.name refl last

  wants_on : asked q r ≡ asked q (r ++ p ∷ [])
  wants_on =
      let first : unbound r (next_element q r) ≡ unbound (r ++ p ∷ []) (next_element q (r ++ p ∷ [])) = sym (same_unbound r p bound (next_element q r)) ∙ ap (unbound (r ++ p ∷ [])) (sym (same_next q r p bound)) in
      let rest : again q.elements (last_or None r) ≡ again q.elements (last_or None (r ++ p ∷ [])) =
      again_by_name q.elements (last_or None r) p.name last ∙ sym (again_by_name q.elements (last_or None (r ++ p ∷ [])) p.name (ap name_of (last_push None r p))) in
      λ i. (first i ++ rest i) ++ same_guards q r p bound last i

  reads_on : (name : ℕ) → is_read q name ≡ true → last_bound name (bound_events r) ≡ last_bound name (bound_events (r ++ p ∷ []))
  reads_on name read =
      let x : ℕ × Event = (p.name, p.event) in
      let test = λ (pair : ℕ × Event). pair.0 == name in
      let other : (p.name == name) ≡ false = elim (cases_Bool (p.name == name)) [
        | inl here ↦ let same : p.name ≡ name = grind (arith, nat_tests) in absurd (let so : is_read q p.name ≡ true = ap (is_read q) same ∙ read in cc (so, unread))
        | inr apart ↦ apart
      ] in
      let events : bound_events (r ++ p ∷ []) ≡ bound_events r ++ x ∷ [] = map_push (λ (pair : Pair). (pair.name, pair.event)) r p in
      let same : last_bound name (bound_events r ++ x ∷ []) ≡ last_bound name (bound_events r) = ap (last_or None) (filter_other test (bound_events r) x other) in
      sym (ap (last_bound name) events ∙ same)

  alike_more : AreAlike q r (r ++ p ∷ [])
  alike_more = record { wants = wants_on; reads = reads_on }

-- the last pair
under_name : (n : ℕ) (b : ℕ × ℕ) (name : ℕ) → name_under n (Some b) ≡ Some name → b.0 ≡ name
under_name n b name is = one (b.1 == n) is
  where
    one : (t : Bool) → (if t then Some b.0 else None) ≡ Some name → b.0 ≡ name
    one true e = cc
    one false e = absurd (cc e)

some_last : (n : ℕ) (bs : List (ℕ × ℕ)) (name : ℕ) → name_under n (last_or None bs) ≡ Some name → 0 < length bs
some_last n [] name is = absurd (cc is)
some_last n (b ∷ bs) name is = omega arith

but_the_last : {X : Type 0} (xs : List X) (d : X) → 0 < length xs → xs ≡ but_last xs ++ get_or xs (length xs - 1) d ∷ []
but_the_last xs d some = sym (take_all (length xs - 1 + 1) xs (omega (arith, some))) ∙ take_more xs (length xs - 1) d (omega (arith, some))

-- a run before and after an event that it may have bound
module _ (q : Plan) (n : ℕ) (k k' : Kept) (good : Good q k) (good' : Good q k') (below : NumbersBelow n k) (back : before n k' ≡ before n k) where
  was : (o : Option ℕ) → last_under n k' ≡ o → undone n o k' ≡ looked_for k
  was o is = sym (ap (λ (o : Option ℕ). undone n o k') is) ∙ back ∙ before_below n k below

  not_bound : last_under n k' ≡ None → AreAlike q (pairs k) (pairs k')
  not_bound is =
      let same : pairs k' ≡ pairs k = ap pairs (was None is) in
      subst (AreAlike q (pairs k)) (sym same) (record { wants = refl; reads = λ name read. refl })

  bound_again : (name : ℕ) → last_under n k' ≡ Some name → IsRepeated q name k' → AreAlike q (pairs k) (pairs k')
  bound_again name is repeated =
      let some : 0 < length k'.bound = some_last n k'.bound name is in
      let b = get_or k'.bound (length k'.bound - 1) (0, 0) in
      let e = get_or k'.events (length k'.events - 1) (0, blank) in
      let front : but_last k'.bound ≡ k.bound = ap (λ (m : Kept). m.bound) (was (Some name) is) in
      let events : but_last k'.events ≡ k.events = ap (λ (m : Kept). m.events) (was (Some name) is) in
      let bounds : k'.bound ≡ k.bound ++ b ∷ [] = but_the_last k'.bound (0, 0) some ∙ ap (λ (l : List (ℕ × ℕ)). l ++ b ∷ []) front in
      let all_events : k'.events ≡ k.events ++ e ∷ [] = but_the_last k'.events (0, blank) (omega (arith, some, good'.undoes.same)) ∙ ap (λ (l : List (ℕ × Event)). l ++ e ∷ []) events in
      let p = pair_of (b, e) in
      let more : pairs k' ≡ pairs k ++ p ∷ [] = (λ i. map pair_of (zip (bounds i) (all_events i))) ∙ ap (map pair_of) (zip_push k.bound k.events b e good.undoes.same) ∙ map_push pair_of (zip k.bound k.events) (b, e) in
      let named : b.0 ≡ name = under_name n b name (sym (ap (name_under n) (ap (last_or None) bounds ∙ last_push None k.bound b)) ∙ is) in
      let last : name_of (last_or None (pairs k)) ≡ Some p.name =
      last_name k.bound k.events None None good.same_names refl ∙ ap (λ (l : List (ℕ × ℕ)). option_map (λ (pair : ℕ × ℕ). pair.0) (last_or None l)) (sym front) ∙ repeated.again ∙ ap Some (sym named) in
      subst (AreAlike q (pairs k)) (sym more) (alike_more q (pairs k) p last (ap (is_read q) named ∙ repeated.unread))

  goes : IfSome (last_under n k') (λ name. IsRepeated q name k') → AreAlike q (pairs k) (pairs k')
  goes so = one (last_under n k') refl so
    where
      one : (o : Option ℕ) → last_under n k' ≡ o → IfSome o (λ name. IsRepeated q name k') → AreAlike q (pairs k) (pairs k')
      one None is so = not_bound is
      one (Some name) is so = bound_again name is so

-- so of the run at a place
module _ (q : Plan) (n : ℕ) (old new : List Kept) (good : All (Good q) old) (below : All (NumbersBelow n) old) (undoes : Undoes q n old (take (length old) new)) (long : length old ≤ length new) where
  pub alike_at : (at : ℕ) → at < length old → GoesOn q n (run_at new at) → AreAlike q (run_in (map pairs old) at) (pairs (run_at new at))
  alike_at at within on =
      let k = get_or old at (empty 0) in
      let k' = get_or new at (empty 0) in
      let front = take (length old) new in
      let inside : at < length front = omega (arith, within, long, length-take (length old) new) in
      let same : get_or front at (empty 0) ≡ k' = get_or-take (length old) new at (empty 0) within in
      let good' : Good q k' = subst (Good q) same (undoes.good at (empty 0) inside) in
      let back : before n k' ≡ before n k = ap (before n) (sym same) ∙ sym (get_or-map (before n) front at (empty 0) (empty 0) inside) ∙ ap (λ (l : List Kept). get_or l at (empty 0)) undoes.before ∙ get_or-map (before n) old at (empty 0) (empty 0) within in
      subst (λ (r : List Pair). AreAlike q r (pairs k')) (sym (get_or-map pairs old at (empty 0) [] within)) (goes q n k k' (good at (empty 0) within) good' (below at (empty 0) within) back on.bound)

-- what is kept is the same of runs that are alike
module _ (alone : HeldSidesStandAlone) (q : Plan) (rs ss : List (List Pair)) (size : length rs ≡ length ss) (alike : (at : ℕ) → at < length rs → AreAlike q (run_in rs at) (run_in ss at)) where
  columns_same : (names : List Name) → ((name : ℕ) → list_any (is_read_by name) names ≡ true → is_read q name ≡ true) → columns_over rs names ≡ columns_over ss names
  columns_same [] within = refl
  columns_same (x ∷ names) within =
      let first : held_columns x.pred (map bound_events rs) ≡ held_columns x.pred (map bound_events ss) =
      alone x.pred (map bound_events rs) (map bound_events ss) (length-map rs bound_events ∙ size ∙ sym (length-map ss bound_events)) (λ run name inside reads.
      let there : run < length rs = omega (arith, inside, length-map rs bound_events) in
      ap (last_bound name) (get_or-map bound_events rs run [] [] there) ∙ (alike run there).reads name (within name (λ i. reads i || list_any (is_read_by name) names))
      ∙ sym (ap (last_bound name) (get_or-map bound_events ss run [] [] (omega (arith, there, size))))) in
      λ i. first i ∷ columns_same names (λ name is. within name (later (is_read_by name x) (list_any (is_read_by name) names) is)) i
    where
      later : (a b : Bool) → b ≡ true → (a || b) ≡ true
      later true b is = refl
      later false b is = is

  pub held_same : (hs : List Holding) → AreHeld q rs hs → AreHeld q ss hs
  held_same hs held = record {
    few = omega (arith, held.few, size);
    wanting = λ name at named within.
        let there : at < length rs = omega (arith, within, size) in
        held.wanting name at named there ∙ ap (λ (l : List ℕ). is_among l name) (alike at there).wants;
    columns = held.columns ∙ columns_same q.names (λ name is. is);
    reads = held.reads;
  }
