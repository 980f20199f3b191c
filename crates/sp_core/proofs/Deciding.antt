-- The groups of a version that comes home are decided: this does to the versions of the machine what the reading does to them.
use Rattle.std.proofs.Common.{◌≡◌, ⊎_elim, ℕ, Bool, true, false, cond, not, ◌&&◌, ◌||◌, ◌==◌, List, [], ◌∷◌, filter, map, Option, Some, None, refl, sym, ap, ◌∙◌, arith, get_or}
use Rattle.std.specs.List.{All, flat_map, list_all, list_any}
use Rattle.std.specs.Option.{option_map}
use Rattle.std.proofs.lemmas.List.Elements.{All-nil, All-cons, All-head, All-tail, All-map}
use Rattle.std.proofs.lemmas.Bool.Decides.{nat_tests}
use Rattle.std.proofs.lemmas.Simd.{map-map}
use Rattle.sp_base.specs.Numbers.{is_among}
use Rattle.sp_plan.specs.declared.plan.Plan.{Plan}
use Rattle.sp_plan.specs.Groups.{is_open}
use Rattle.sp_plan.specs.Moves.{is_run, pairs_of}
use Rattle.sp_plan.specs.Runs.{Started, State, used}
use Rattle.sp_match.specs.public.Laws.{OpenHasNoMatch, Sound}
use Rattle.sp_match.specs.public.Matching.{Matching}
use Rattle.sp_group.specs.declared.outcome.Outcome.{Outcome}
use Rattle.sp_group.specs.declared.outcome.Outcome.TheVariants.{Completed, Abandoned}
use Rattle.sp_group.specs.Deciding.{foresaw, foresaw_all, others_than}
use Rattle.sp_group.specs.Effects.{is_newly_spent}
use Rattle.sp_group.specs.Family.{is_parent, prune}
use Rattle.sp_group.specs.Machine as machine
use Rattle.sp_group.specs.Machine.{is_group, is_spent}
use Rattle.sp_group.specs.Rising.{has_number}
use Rattle.sp_rules.specs.ByGroups.{AreToDecide, after_decisions, ended, outcome_in}
use Rattle.sp_version.specs.declared.version.Version.{Version}
use Rattle.sp_tree.specs.Decided.{rule_of}
use Rattle.sp_tree.specs.Grown.{Entry, kin, lifted, with_version}
use Rattle.sp_core.specs.Holding.{version_of}
use Rattle.sp_core.specs.Homecoming.{ended_in, is_grouped, outcome_of}
use Rattle.sp_core.proofs.Owner.{pruned_alike, settled, settled_if}
use Rattle.sp_core.proofs.Pruning.{AreAlike, versions_pruned}

nothing_left : (r : ℕ) (runs : List Started) → list_any (is_run r) runs ≡ false → filter (is_run r) runs ≡ []
nothing_left r [] none = refl
nothing_left r (x ∷ xs) none = one (is_run r x) none (nothing_left r xs)
  where
    one : (b : Bool) → (b || list_any (is_run r) xs) ≡ false → (list_any (is_run r) xs ≡ false → filter (is_run r) xs ≡ []) → cond b (x ∷ filter (is_run r) xs) (filter (is_run r) xs) ≡ []
    one true none rest = absurd (cc)
    one false none rest = rest none

-- a run that is nowhere among others has no numbers there
none_there : (q : Plan) (runs : List Started) (r : ℕ) → list_any (is_run r) runs ≡ false → has_number (used q (pairs_of runs r)) ≡ false
none_there q runs r none = ap (λ (rs : List Started). has_number (used q (flat_map (λ (run : Started). run.1) rs))) (nothing_left r runs none)

-- a run with a group has no match, and has used nothing
pub unspent : OpenHasNoMatch → (q : Plan) (s : State) (r : ℕ) → Sound s → is_group q s r ≡ true → is_spent q s r ≡ false
unspent law q s r sound group = one (is_open s r) refl
  where
    one : (b : Bool) → is_open s r ≡ b → is_spent q s r ≡ false
    one true here = none_there q s.matched r (law s r sound here)
    one false closed = let none = none_there q s.open_runs r closed in absurd (cc)

-- tests that agree on all elements
pub all_alike : {A : Type 0} (f g : A → Bool) (xs : List A) → All (λ x. f x ≡ g x) xs → list_all f xs ≡ list_all g xs
all_alike f g [] same = refl
all_alike f g (x ∷ xs) same =
    ap (λ b. b && list_all f xs) (All-head (λ y. f y ≡ g y) x xs same) ∙ ap (λ b. g x && b) (all_alike f g xs (All-tail (λ y. f y ≡ g y) x xs same))

pub filter_alike : {A : Type 0} (f g : A → Bool) → ((x : A) → f x ≡ g x) → (xs : List A) → filter f xs ≡ filter g xs
filter_alike f g same [] = refl
filter_alike f g same (x ∷ xs) =
    ap (λ b. cond b (x ∷ filter f xs) (filter f xs)) (same x) ∙ ap (λ ys. cond (g x) (x ∷ ys) ys) (filter_alike f g same xs)

-- what holds of each number that passes and is among a list holds of all that are left of it
pub all_left : (P : ℕ → Type 0) (f : ℕ → Bool) (ns : List ℕ) → ((n : ℕ) → is_among ns n ≡ true → f n ≡ true → P n) → All P (filter f ns)
all_left P f [] h = All-nil P
all_left P f (n ∷ ns) h = one (f n) refl (all_left P f ns (λ i among passes. h i (behind i among) passes))
  where
    behind : (i : ℕ) → is_among ns i ≡ true → (n == i || is_among ns i) ≡ true
    behind i among = two (n == i)
      where
        two : (b : Bool) → (b || is_among ns i) ≡ true
        two true = refl
        two false = among

    here : (n == n || is_among ns n) ≡ true
    here = let same : (n == n) ≡ true = grind (arith, nat_tests) in rw same refl

    one : (b : Bool) → f n ≡ b → All P (filter f ns) → All P (cond b (n ∷ filter f ns) (filter f ns))
    one true passes rest = All-cons P n (filter f ns) (h n here passes) rest
    one false fails rest = rest

-- Runs that went from s to t, and the groups to decide: those that completed and used an event are told.
module _ (law : OpenHasNoMatch) (q : Plan) (s t : State) (sound : Sound s) (groups completed : List ℕ) (decide : AreToDecide q s t groups)
    (told : (r : ℕ) → is_newly_spent q s t r ≡ is_among completed r) where
  -- what became of each group that ended is what the core says of it
  same_outcome : (r : ℕ) → is_among groups r ≡ true → not (is_group q t r) ≡ true → outcome_of completed r ≡ outcome_in q t r
  same_outcome r among ends =
      ap (λ (b : Bool). let o : Outcome = cond b Completed Abandoned in o)
      (sym (told r) ∙ ⊎_elim (λ (group : is_group q s r ≡ true). by_group group) (⊎_elim (λ (stays : is_group q t r ≡ true). by_open stays) (λ (spent : is_newly_spent q s t r ≡ true). by_spent spent)) (decide.only r among))
    where
      by_group : is_group q s r ≡ true → is_newly_spent q s t r ≡ is_spent q t r
      by_group group = ap (λ b. is_spent q t r && not b) (unspent law q s r sound group) ∙ two (is_spent q t r)
        where
          two : (b : Bool) → (b && true) ≡ b
          two true = refl
          two false = refl

      by_open : is_group q t r ≡ true → is_newly_spent q s t r ≡ is_spent q t r
      by_open stays = absurd (cc)

      by_spent : is_newly_spent q s t r ≡ true → is_newly_spent q s t r ≡ is_spent q t r
      by_spent spent = two (is_spent q t r) (not (is_spent q s r)) spent
        where
          two : (b c : Bool) → (b && c) ≡ true → (b && c) ≡ b
          two true c h = h
          two false c h = absurd (cc)

  pub outcomes : All (λ r. outcome_of completed r ≡ outcome_in q t r) (ended q t groups)
  outcomes = all_left (λ r. outcome_of completed r ≡ outcome_in q t r) (λ run. not (is_group q t run)) groups same_outcome

  -- so a label foresaw them alike
  pub foresaw_alike : (label : List ℕ) → foresaw_all (outcome_of completed) (ended q t groups) label ≡ foresaw_all (outcome_in q t) (ended q t groups) label
  foresaw_alike label =
      all_alike (λ r. foresaw r (outcome_of completed r) label) (λ r. foresaw r (outcome_in q t r) label) (ended q t groups)
      (λ k d l. ap (λ (o : Outcome). foresaw (get_or (ended q t groups) k d) o label) (outcomes k d l))

-- the groups that are open no more in a matcher that has those of these runs
pub ended_alike : (q : Plan) (t : State) (m : Matching) (groups : List ℕ) → ((r : ℕ) → is_grouped m r ≡ is_group q t r) → ended_in m groups ≡ ended q t groups
ended_alike q t m groups same = filter_alike (λ r. not (is_grouped m r)) (λ r. not (is_group q t r)) (λ r. ap not (same r)) groups

-- The entries with the owner's new groups and value, by whose rule groups are decided: their versions are those by the machine's rule.
module _ (owner : Entry Version) (new : machine.Version) (groups : List ℕ) (value : Version) (outcome other : ℕ → Outcome) (runs : List ℕ)
    (foreseen : (label : List ℕ) → foresaw_all outcome runs label ≡ foresaw_all other runs label) (is_new : version_of (settled groups value owner) ≡ new) where
  abbrev id : ℕ
  id = owner.version.id

  abbrev rule : Entry Version → Option (Entry Version)
  rule = lifted (rule_of id outcome runs)

  abbrev ruled : machine.Version → Option machine.Version
  ruled = after_decisions id new other runs

  child_alike : (x : Entry Version) (b : Bool) → foresaw_all outcome runs x.version.label ≡ b
      → option_map version_of (with_version x.value (cond b (Some (record x.version { label = others_than runs x.version.label })) None))
      ≡ cond b (Some (record (version_of x) { label = others_than runs x.version.label })) None
  child_alike x true is = refl
  child_alike x false is = refl

  beside_alike : (x : Entry Version) (b : Bool) → is_parent id x.version.parent ≡ b
      → option_map version_of (with_version x.value (cond b (cond (foresaw_all outcome runs x.version.label) (Some (record x.version { label = others_than runs x.version.label })) None) (Some x.version)))
      ≡ cond b (cond (foresaw_all other runs x.version.label) (Some (record (version_of x) { label = others_than runs x.version.label })) None) (Some (version_of x))
  beside_alike x true is =
      child_alike x (foresaw_all outcome runs x.version.label) refl
      ∙ ap (λ b. cond b (Some (record (version_of x) { label = others_than runs x.version.label })) None) (foreseen x.version.label)
  beside_alike x false is = refl

  rule_alike : (x : Entry Version) → (x.version.id ≡ id → x ≡ owner) → AreAlike rule ruled (settled_if id groups value x)
  rule_alike x only = one (x.version.id == id) refl
    where
      one : (b : Bool) → (x.version.id == id) ≡ b → AreAlike rule ruled (cond b (settled groups value x) x)
      one true is =
          let same = only (grind (arith, nat_tests)) in
          let here : version_of (settled groups value x) ≡ new = ap (λ (y : Entry Version). version_of (settled groups value y)) same ∙ is_new in
          rw is (ap Some here)
      one false is = rw is (beside_alike x (is_parent id x.version.parent) refl)

  owner_apart : (x : Entry Version) → ruled (version_of (settled_if id groups value x)) ≡ ruled (version_of x)
  owner_apart x = one (x.version.id == id) refl
    where
      one : (b : Bool) → (x.version.id == id) ≡ b → ruled (version_of (cond b (settled groups value x) x)) ≡ ruled (version_of x)
      one true is = rw is refl
      one false is = refl

  pub versions_decided : (es : List (Entry Version)) → All (λ x. x.version.id ≡ id → x ≡ owner) es
      → map version_of (prune kin rule (map (settled_if id groups value) es)) ≡ prune machine.kin ruled (map version_of es)
  versions_decided es only =
      versions_pruned rule ruled (map (settled_if id groups value) es)
      (All-map (AreAlike rule ruled) (settled_if id groups value) es (λ k d l. rule_alike (get_or es k d) (only k d l)))
      ∙ ap (prune machine.kin ruled) (map-map version_of (settled_if id groups value) es)
      ∙ pruned_alike machine.kin ruled (λ x. version_of (settled_if id groups value x)) version_of es (λ k d l. owner_apart (get_or es k d))
