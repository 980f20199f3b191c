-- One group of an owner is opened and decided before the others are set and decided: that comes to what all come to at once.
use Rattle.std.proofs.Common.{◌≡◌, ℕ, ◌<◌, ◌≤◌, Bool, true, false, cond, not, ◌&&◌, ◌||◌, ◌==◌, List, [], ◌∷◌, filter, map, Option, Some, None, is_some, refl, sym, ap, ◌∙◌, subst, arith}
use Rattle.std.specs.Prelude.{reverse}
use Rattle.std.proofs.lemmas.Bool.Decides.{nat_tests}
use Rattle.std.proofs.lemmas.List.Elements.{filter_agree}
use Rattle.std.proofs.lemmas.Map.Views.{any-filter_same}
use Rattle.sp_base.specs.Numbers.{is_among}
use Rattle.sp_group.specs.declared.outcome.Outcome.{Outcome}
use Rattle.sp_group.specs.declared.outcome.Outcome.TheVariants.{Completed, Abandoned}
use Rattle.sp_group.specs.Deciding.{others, others_than, foresaw, foresaw_all}
use Rattle.sp_group.specs.Family.{entry_at, parent_there, kept, prune, is_parent}
use Rattle.sp_tree.specs.Version.{Version}
use Rattle.sp_tree.specs.Changes.{decided, child_decided, with_run}
use Rattle.sp_tree.specs.Children.{AreFamily, AreOver, children_of, plain}
use Rattle.sp_tree.specs.Grown.{Entry, AreRooted, FallFrom, kin, with_version, lifted, opened_for, regrouped}
use Rattle.sp_tree.specs.Decided.{child_of_decided, rule_of, OneDecisionFirst}
use Rattle.sp_tree.specs.Paths.{ids_under}
use Rattle.sp_tree.proofs.Decided.{and_then, filter_both, id_below, lifted_then, prune_alike, prune_then, rule_aside, rule_id}
use Rattle.sp_tree.proofs.Zipped.{rooted_pruned}

-- Labels and groups without one run.
among_filter : (p : ℕ → Bool) (xs : List ℕ) (r : ℕ) → is_among (filter p xs) r ≡ (p r && is_among xs r)
among_filter p xs r = any-filter_same (λ m. m == r) p (p r) (λ k e. ap p (same k e)) xs
  where
    same : (k : ℕ) → (k == r) ≡ true → k ≡ r
    same k e = grind (arith, nat_tests)

others_left : (runs : List ℕ) (run : ℕ) (ns : List ℕ) → is_among runs run ≡ true → others_than (others run runs) (others run ns) ≡ others_than runs ns
others_left runs run ns among =
    filter_both (λ n. not (is_among (others run runs) n)) (λ n. not (n == run)) ns
    ∙ filter_agree (λ n. not (n == run) && not (is_among (others run runs) n)) (λ n. not (is_among runs n)) passes ns
  where
    one : (a b c : Bool) → c ≡ (not a && b) → (a ≡ true → b ≡ true) → (not a && not c) ≡ not b
    one true b c is has = let all = has refl in ap not (sym all)
    one false b c is has = ap not is

    passes : (n : ℕ) → (not (n == run) && not (is_among (others run runs) n)) ≡ not (is_among runs n)
    passes n = one (n == run) (is_among runs n) (is_among (others run runs) n) (among_filter (λ r. not (r == run)) runs n) (λ e. let same : n ≡ run = grind (arith, nat_tests) in ap (is_among runs) same ∙ among)

foresaw_apart : (o : Outcome) (n run : ℕ) (label : List ℕ) → (n == run) ≡ false → foresaw n o (others run label) ≡ foresaw n o label
foresaw_apart Completed n run label apart = among_filter (λ r. not (r == run)) label n ∙ ap (λ (b : Bool). not b && is_among label n) apart
foresaw_apart Abandoned n run label apart = ap not (among_filter (λ r. not (r == run)) label n ∙ ap (λ (b : Bool). not b && is_among label n) apart)

module _ (outcome : ℕ → Outcome) (run : ℕ) (label : List ℕ) where
  abbrev guessed : Bool
  guessed = foresaw run (outcome run) label

  abbrev all : List ℕ → Bool
  all runs = foresaw_all outcome runs label

  abbrev all_others : List ℕ → Bool
  all_others runs = foresaw_all outcome (others run runs) (others run label)

  -- the head of a list is the run, or another
  guess_here : (n : ℕ) → (n == run) ≡ true → foresaw n (outcome n) label ≡ guessed
  guess_here n is = let same : n ≡ run = grind (arith, nat_tests) in ap (λ (k : ℕ). foresaw k (outcome k) label) same

  -- where the run was foreseen, the others are looked at alone
  foreseen_apart : (runs : List ℕ) → (guessed && all runs) ≡ (guessed && all_others runs)
  foreseen_apart [] = refl
  foreseen_apart (n ∷ ns) = one (n == run) refl (foreseen_apart ns)
    where
      twice : (a b c : Bool) → (a && b) ≡ (a && c) → (a && (a && b)) ≡ (a && c)
      twice true b c h = h
      twice false b c h = refl

      under_one : (a x b c : Bool) → (a && b) ≡ (a && c) → (a && (x && b)) ≡ (a && (x && c))
      under_one true true b c h = h
      under_one true false b c h = refl
      under_one false x b c h = refl

      one : (b : Bool) → (n == run) ≡ b → (guessed && all ns) ≡ (guessed && all_others ns)
          → (guessed && (foresaw n (outcome n) label && all ns)) ≡ (guessed && foresaw_all outcome (cond (not b) (n ∷ others run ns) (others run ns)) (others run label))
      one true is rest = ap (λ (b : Bool). guessed && (b && all ns)) (guess_here n is) ∙ twice guessed (all ns) (all_others ns) rest
      one false is rest =
          under_one guessed (foresaw n (outcome n) label) (all ns) (all_others ns) rest
          ∙ ap (λ (b : Bool). guessed && (b && all_others ns)) (sym (foresaw_apart (outcome n) n run label is))

  -- all were foreseen, and so was the run, which is among them
  foreseen_with : (runs : List ℕ) → is_among runs run ≡ true → all runs ≡ (guessed && all runs)
  foreseen_with [] among = absurd (cc)
  foreseen_with (n ∷ ns) among = one (n == run) refl among (foreseen_with ns)
    where
      twice : (a b : Bool) → (a && b) ≡ (a && (a && b))
      twice true b = refl
      twice false b = refl

      under_one : (a x b : Bool) → b ≡ (a && b) → (x && b) ≡ (a && (x && b))
      under_one true x b h = refl
      under_one false true b h = h
      under_one false false b h = refl

      one : (b : Bool) → (n == run) ≡ b → (b || is_among ns run) ≡ true → (is_among ns run ≡ true → all ns ≡ (guessed && all ns))
          → (foresaw n (outcome n) label && all ns) ≡ (guessed && (foresaw n (outcome n) label && all ns))
      one true is there rest =
          ap (λ (b : Bool). b && all ns) (guess_here n is) ∙ twice guessed (all ns) ∙ ap (λ (b : Bool). guessed && (b && all ns)) (sym (guess_here n is))
      one false is there rest = under_one guessed (foresaw n (outcome n) label) (all ns) (rest there)

  foreseen_first : (runs : List ℕ) → is_among runs run ≡ true → (guessed && all_others runs) ≡ all runs
  foreseen_first runs among = sym (foreseen_apart runs) ∙ sym (foreseen_with runs among)

-- the version of an owner is changed, and each other stays
abbrev at_owner : ℕ → (Version → Version) → Version → Option Version
at_owner owner f v = cond (v.id == owner) (Some (f v)) (Some v)

at_here : (owner : ℕ) (f : Version → Version) (v : Version) → (v.id == owner) ≡ true → at_owner owner f v ≡ Some (f v)
at_here owner f v is = ap (λ (b : Bool). cond b (Some (f v)) (Some v)) is

at_aside : (owner : ℕ) (f : Version → Version) (v : Version) → (v.id == owner) ≡ false → at_owner owner f v ≡ Some v
at_aside owner f v is = ap (λ (b : Bool). cond b (Some (f v)) (Some v)) is

decided_here : (owner run : ℕ) (o : Outcome) (v : Version) → (v.id == owner) ≡ true → decided owner run o v ≡ Some (record v { groups = others run v.groups })
decided_here owner run o v is = ap (λ (b : Bool). cond b (Some (record v { groups = others run v.groups })) (cond (is_parent owner v.parent) (child_decided run o v) (Some v))) is

decided_child : (owner run : ℕ) (o : Outcome) (v : Version) → (v.id == owner) ≡ false → is_parent owner v.parent ≡ true → decided owner run o v ≡ child_decided run o v
decided_child owner run o v is at =
    ap (λ (b : Bool). cond b (Some (record v { groups = others run v.groups })) (cond (is_parent owner v.parent) (child_decided run o v) (Some v))) is
    ∙ ap (λ (b : Bool). cond b (child_decided run o v) (Some v)) at

decided_aside : (owner run : ℕ) (o : Outcome) (v : Version) → (v.id == owner) ≡ false → is_parent owner v.parent ≡ false → decided owner run o v ≡ Some v
decided_aside owner run o v is at =
    ap (λ (b : Bool). cond b (Some (record v { groups = others run v.groups })) (cond (is_parent owner v.parent) (child_decided run o v) (Some v))) is
    ∙ ap (λ (b : Bool). cond b (child_decided run o v) (Some v)) at

rule_here : (owner : ℕ) (outcome : ℕ → Outcome) (runs : List ℕ) (v : Version) → (v.id == owner) ≡ true → rule_of owner outcome runs v ≡ Some (record v { groups = others_than runs v.groups })
rule_here owner outcome runs v is =
    ap (λ (b : Bool). cond b (Some (record v { groups = others_than runs v.groups })) (cond (is_parent owner v.parent) (child_of_decided outcome runs v) (Some v))) is

rule_child : (owner : ℕ) (outcome : ℕ → Outcome) (runs : List ℕ) (v : Version) → (v.id == owner) ≡ false → is_parent owner v.parent ≡ true → rule_of owner outcome runs v ≡ child_of_decided outcome runs v
rule_child owner outcome runs v is at =
    ap (λ (b : Bool). cond b (Some (record v { groups = others_than runs v.groups })) (cond (is_parent owner v.parent) (child_of_decided outcome runs v) (Some v))) is
    ∙ ap (λ (b : Bool). cond b (child_of_decided outcome runs v) (Some v)) at

-- these are the open groups of a version
abbrev grouped : List ℕ → Version → Version
grouped groups v = record v { groups = groups }

-- of one version both say the same
module _ (owner : ℕ) (outcome : ℕ → Outcome) (runs : List ℕ) (run : ℕ) (groups : List ℕ) (among : is_among runs run ≡ true) where
  abbrev left : List ℕ
  left = others run groups

  abbrev last : Version → Option Version
  last = rule_of owner outcome (others run runs)

  abbrev set : Version → Option Version
  set = at_owner owner (grouped left)

  abbrev decide : Version → Option Version
  decide = decided owner run (outcome run)

  abbrev opened : Version → Option Version
  opened = at_owner owner (with_run run)

  abbrev by_one : Version → Option Version
  by_one v = and_then last (and_then set (and_then decide (opened v)))

  abbrev at_once : Version → Option Version
  at_once v = and_then (rule_of owner outcome runs) (at_owner owner (grouped groups) v)

  ruled : (v : Version) → by_one v ≡ at_once v
  ruled v = one (v.id == owner) refl (is_parent owner v.parent) refl
    where
      -- a child that the first decision leaves, or not
      child : (b : Bool) → foresaw run (outcome run) v.label ≡ b → (v.id == owner) ≡ false → is_parent owner v.parent ≡ true
          → and_then last (and_then set (cond b (Some (record v { label = others run v.label })) None)) ≡ child_of_decided outcome runs v
      child false is apart at =
          ap (λ (b : Bool). cond b (Some (record v { label = others_than runs v.label })) None)
          (ap (λ (b : Bool). b && foresaw_all outcome (others run runs) (others run v.label)) (sym is) ∙ foreseen_first outcome run v.label runs among)
      child true is apart at =
          let w : Version = record v { label = others run v.label } in
          ap (and_then last) (at_aside owner (grouped left) w apart)
          ∙ rule_child owner outcome (others run runs) w apart at
          ∙ ap (λ (b : Bool). cond b (Some (record v { label = others_than (others run runs) (others run v.label) })) None)
          (ap (λ (b : Bool). b && foresaw_all outcome (others run runs) (others run v.label)) (sym is) ∙ foreseen_first outcome run v.label runs among)
          ∙ ap {B = Option Version} (λ (l : List ℕ). cond (foresaw_all outcome runs v.label) (Some (record v { label = l })) None) (others_left runs run v.label among)

      one : (a : Bool) → (v.id == owner) ≡ a → (b : Bool) → is_parent owner v.parent ≡ b → by_one v ≡ at_once v
      one true is b at =
          let w : Version = record (with_run run v) { groups = others run (with_run run v).groups } in
          ap (λ (o : Option Version). and_then last (and_then set (and_then decide o))) (at_here owner (with_run run) v is)
          ∙ ap (λ (o : Option Version). and_then last (and_then set o)) (decided_here owner run (outcome run) (with_run run v) is)
          ∙ ap (and_then last) (at_here owner (grouped left) w is)
          ∙ rule_here owner outcome (others run runs) (grouped left w) is
          ∙ ap {B = Option Version} (λ (l : List ℕ). Some (record v { groups = l })) (others_left runs run groups among)
          ∙ sym (ap (and_then (rule_of owner outcome runs)) (at_here owner (grouped groups) v is) ∙ rule_here owner outcome runs (grouped groups v) is)
      one false is true at =
          ap (λ (o : Option Version). and_then last (and_then set (and_then decide o))) (at_aside owner (with_run run) v is)
          ∙ ap (λ (o : Option Version). and_then last (and_then set o)) (decided_child owner run (outcome run) v is at)
          ∙ child (foresaw run (outcome run) v.label) refl is at
          ∙ sym (ap (and_then (rule_of owner outcome runs)) (at_aside owner (grouped groups) v is) ∙ rule_child owner outcome runs v is at)
      one false is false at =
          ap (λ (o : Option Version). and_then last (and_then set (and_then decide o))) (at_aside owner (with_run run) v is)
          ∙ ap (λ (o : Option Version). and_then last (and_then set o)) (decided_aside owner run (outcome run) v is at)
          ∙ ap (and_then last) (at_aside owner (grouped left) v is)
          ∙ rule_aside owner outcome (others run runs) v is at
          ∙ sym (ap (and_then (rule_of owner outcome runs)) (at_aside owner (grouped groups) v is) ∙ rule_aside owner outcome runs v is at)

-- rules that keep ids and parents
abbrev Keeps : (Version → Option Version) → Type 0
Keeps rule = (v w : Version) → rule v ≡ Some w → (w.id ≡ v.id) × (w.parent ≡ v.parent)

at_owner_keeps : (owner : ℕ) (f : Version → Version) → ((v : Version) → ((f v).id ≡ v.id) × ((f v).parent ≡ v.parent)) → Keeps (at_owner owner f)
at_owner_keeps owner f same v w h = one (v.id == owner) h
  where
    one : (b : Bool) → cond b (Some (f v)) (Some v) ≡ Some w → (w.id ≡ v.id) × (w.parent ≡ v.parent)
    one true h = let is : f v ≡ w = cc in (ap (λ (z : Version). z.id) (sym is) ∙ (same v).0, ap (λ (z : Version). z.parent) (sym is) ∙ (same v).1)
    one false h = let is : v ≡ w = cc in (ap (λ (z : Version). z.id) (sym is), ap (λ (z : Version). z.parent) (sym is))

rule_keeps : (owner : ℕ) (outcome : ℕ → Outcome) (runs : List ℕ) → Keeps (rule_of owner outcome runs)
rule_keeps owner outcome runs v w h = (rule_id owner outcome runs v w h, one (v.id == owner) (is_parent owner v.parent) (foresaw_all outcome runs v.label) h)
  where
    one : (a b c : Bool) → cond a (Some (record v { groups = others_than runs v.groups })) (cond b (cond c (Some (record v { label = others_than runs v.label })) None) (Some v)) ≡ Some w → w.parent ≡ v.parent
    one true b c h = let is : record v { groups = others_than runs v.groups } ≡ w = cc in ap (λ (z : Version). z.parent) (sym is)
    one false true true h = let is : record v { label = others_than runs v.label } ≡ w = cc in ap (λ (z : Version). z.parent) (sym is)
    one false true false h = absurd (cc)
    one false false c h = let is : v ≡ w = cc in ap (λ (z : Version). z.parent) (sym is)

decision_keeps : (owner run : ℕ) (o : Outcome) → Keeps (decided owner run o)
decision_keeps owner run o v w h = one (v.id == owner) (is_parent owner v.parent) (foresaw run o v.label) h
  where
    one : (a b c : Bool) → cond a (Some (record v { groups = others run v.groups })) (cond b (cond c (Some (record v { label = others run v.label })) None) (Some v)) ≡ Some w → (w.id ≡ v.id) × (w.parent ≡ v.parent)
    one true b c h = let is : record v { groups = others run v.groups } ≡ w = cc in (ap (λ (z : Version). z.id) (sym is), ap (λ (z : Version). z.parent) (sym is))
    one false true true h = let is : record v { label = others run v.label } ≡ w = cc in (ap (λ (z : Version). z.id) (sym is), ap (λ (z : Version). z.parent) (sym is))
    one false true false h = absurd (cc)
    one false false c h = let is : v ≡ w = cc in (ap (λ (z : Version). z.id) (sym is), ap (λ (z : Version). z.parent) (sym is))

then_keeps : (first second : Version → Option Version) → Keeps first → Keeps second → Keeps (λ v. and_then second (first v))
then_keeps first second a b v w h = one (first v) refl h
  where
    one : (o : Option Version) → first v ≡ o → and_then second o ≡ Some w → (w.id ≡ v.id) × (w.parent ≡ v.parent)
    one None is h = absurd (cc)
    one (Some x) is h = let one = a v x is in let two = b x w h in (two.0 ∙ one.0, two.1 ∙ one.1)

-- a group that wasn't open completes
abbrev completed : ℕ → ℕ → Version → Option Version
completed owner run v = and_then (decided owner run Completed) (at_owner owner (with_run run) v)

completed_keeps : (owner run : ℕ) → Keeps (completed owner run)
completed_keeps owner run = then_keeps (at_owner owner (with_run run)) (decided owner run Completed) (at_owner_keeps owner (with_run run) (λ v. (refl, refl))) (decision_keeps owner run Completed)

module _ {V : Type 0} where
  lifted_keeps : (rule : Version → Option Version) → Keeps rule → (x y : Entry V) → lifted rule x ≡ Some y → (y.version.id ≡ x.version.id) × (y.version.parent ≡ x.version.parent)
  lifted_keeps rule keeps x y h = one (rule x.version) refl h
    where
      one : (o : Option Version) → rule x.version ≡ o → with_version x.value o ≡ Some y → (y.version.id ≡ x.version.id) × (y.version.parent ≡ x.version.parent)
      one None is h = absurd (cc)
      one (Some w) is h =
          let e : Entry V = record { version = w; value = x.value } in
          let same : e ≡ y = cc in
          let both = keeps x.version w is in
          (ap (λ (z : Entry V). z.version.id) (sym same) ∙ both.0, ap (λ (z : Entry V). z.version.parent) (sym same) ∙ both.1)

  -- two rules, one after the other
  both_rules : (first second : Version → Option Version) → Keeps second → (es : List (Entry V)) → prune kin (lifted second) (prune kin (lifted first) es) ≡ prune kin (lifted (λ v. and_then second (first v))) es
  both_rules first second keeps es =
      prune_then kin (lifted first) (lifted second) (lifted_keeps second keeps) es
      ∙ prune_alike kin (λ e. and_then (lifted second) (lifted first e)) (lifted (λ v. and_then second (first v))) (lifted_then first second) es

  fall_higher : (low top : ℕ) (es : List (Entry V)) → low ≤ top → FallFrom low es → FallFrom top es
  fall_higher low top [] most fall = tt
  fall_higher low top (e ∷ es) most fall = (let below = fall.0 in omega arith, fall.1)

  fall_ruled : (rule : Version → Option Version) → Keeps rule → (top : ℕ) (es : List (Entry V)) → FallFrom top es → FallFrom top (prune kin (lifted rule) es)
  fall_ruled rule keeps top [] fall = tt
  fall_ruled rule keeps top (e ∷ es) fall = one (lifted rule e) refl (fall_ruled rule keeps e.version.id es fall.1)
    where
      rest : List (Entry V)
      rest = prune kin (lifted rule) es

      two : (b : Bool) (x : Entry V) → x.version.id ≡ e.version.id → FallFrom e.version.id rest → FallFrom top (cond b (x ∷ rest) rest)
      two true x same falls = (let below = fall.0 in omega arith, subst (λ (n : ℕ). FallFrom n rest) (sym same) falls)
      two false x same falls = fall_higher e.version.id top rest (let below = fall.0 in omega arith) falls

      one : (o : Option (Entry V)) → lifted rule e ≡ o → FallFrom e.version.id rest → FallFrom top (kept kin o rest)
      one None is falls = fall_higher e.version.id top rest (let below = fall.0 in omega arith) falls
      one (Some x) is falls = two (parent_there kin rest x.version.parent) x (lifted_keeps rule keeps e x is).0 falls

  -- A change of the owner's entry is a rule.
  module _ (owner : ℕ) (f : Version → Version) (same : (v : Version) → ((f v).id ≡ v.id) × ((f v).parent ≡ v.parent)) (op : List (Entry V) → List (Entry V)) (op_nil : op [] ≡ [])
      (op_cons : (e : Entry V) (es : List (Entry V)) → op (e ∷ es) ≡ cond (e.version.id == owner) (record { version = f e.version; value = e.value } ∷ es) (e ∷ op es)) where
    there_op : (es : List (Entry V)) (p : ℕ) → is_some (entry_at kin (op es) p) ≡ is_some (entry_at kin es p)
    there_op [] p = ap (λ (z : List (Entry V)). is_some (entry_at kin z p)) op_nil
    there_op (e ∷ es) p = ap (λ (z : List (Entry V)). is_some (entry_at kin z p)) (op_cons e es) ∙ one (e.version.id == owner) (there_op es p)
      where
        mine : Entry V
        mine = record { version = f e.version; value = e.value }

        two : (b : Bool) → is_some (cond b (Some mine) (entry_at kin es p)) ≡ is_some (cond b (Some e) (entry_at kin es p))
        two true = refl
        two false = refl

        three : (b : Bool) → is_some (entry_at kin (op es) p) ≡ is_some (entry_at kin es p) → is_some (cond b (Some e) (entry_at kin (op es) p)) ≡ is_some (cond b (Some e) (entry_at kin es p))
        three true rest = refl
        three false rest = rest

        one : (b : Bool) → is_some (entry_at kin (op es) p) ≡ is_some (entry_at kin es p) → is_some (entry_at kin (cond b (mine ∷ es) (e ∷ op es)) p) ≡ is_some (cond (e.version.id == p) (Some e) (entry_at kin es p))
        one true rest = ap (λ (n : ℕ). is_some (cond (n == p) (Some mine) (entry_at kin es p))) (same e.version).0 ∙ two (e.version.id == p)
        one false rest = three (e.version.id == p) rest

    there_parent : (es : List (Entry V)) (o : Option ℕ) → parent_there kin (op es) o ≡ parent_there kin es o
    there_parent es None = refl
    there_parent es (Some p) = there_op es p

    older_stay : (top : ℕ) (es : List (Entry V)) → FallFrom top es → top ≤ owner → AreRooted es → prune kin (lifted (at_owner owner f)) es ≡ es
    older_stay top [] fall most rooted = refl
    older_stay top (e ∷ es) fall most rooted =
        let low = fall.0 in
        let apart : (e.version.id == owner) ≡ false = grind (arith, nat_tests) in
        ap (λ (b : Bool). kept kin (with_version e.value (cond b (Some (f e.version)) (Some e.version))) (prune kin (lifted (at_owner owner f)) es)) apart
        ∙ ap (λ (z : List (Entry V)). cond (parent_there kin z e.version.parent) (e ∷ z) z) (older_stay e.version.id es fall.1 (omega arith) rooted.1)
        ∙ ap (λ (b : Bool). cond b (e ∷ es) es) rooted.0

    as_rule : (top : ℕ) (es : List (Entry V)) → FallFrom top es → AreRooted es → op es ≡ prune kin (lifted (at_owner owner f)) es
    as_rule top [] fall rooted = op_nil
    as_rule top (e ∷ es) fall rooted = op_cons e es ∙ one (e.version.id == owner) refl (as_rule e.version.id es fall.1 rooted.1)
      where
        mine : Entry V
        mine = record { version = f e.version; value = e.value }

        rest : List (Entry V)
        rest = prune kin (lifted (at_owner owner f)) es

        one : (b : Bool) → (e.version.id == owner) ≡ b → op es ≡ rest → cond b (mine ∷ es) (e ∷ op es) ≡ kept kin (with_version e.value (cond b (Some (f e.version)) (Some e.version))) rest
        one true is alike =
            let here : e.version.id ≡ owner = grind (arith, nat_tests) in
            sym (ap (λ (z : List (Entry V)). cond (parent_there kin z (f e.version).parent) (mine ∷ z) z) (older_stay e.version.id es fall.1 (omega arith) rooted.1)
            ∙ ap (λ (o : Option ℕ). cond (parent_there kin es o) (mine ∷ es) es) (same e.version).1
            ∙ ap (λ (b : Bool). cond b (mine ∷ es) es) rooted.0)
        one false is alike =
            let there : parent_there kin rest e.version.parent ≡ true = ap (λ (z : List (Entry V)). parent_there kin z e.version.parent) (sym alike) ∙ there_parent es e.version.parent ∙ rooted.0 in
            ap (λ (z : List (Entry V)). e ∷ z) alike ∙ ap (λ (b : Bool). cond b (e ∷ rest) rest) (sym there)

  opened_rule : (owner run top : ℕ) (es : List (Entry V)) → FallFrom top es → AreRooted es → opened_for owner run es ≡ prune kin (lifted (at_owner owner (with_run run))) es
  opened_rule owner run = as_rule owner (with_run run) (λ v. (refl, refl)) (opened_for owner run) refl (λ e es. refl)

  grouped_rule : (owner : ℕ) (groups : List ℕ) (top : ℕ) (es : List (Entry V)) → FallFrom top es → AreRooted es → regrouped owner groups es ≡ prune kin (lifted (at_owner owner (grouped groups))) es
  grouped_rule owner groups = as_rule owner (grouped groups) (λ v. (refl, refl)) (regrouped owner groups) refl (λ e es. refl)

  same_at_once : (owner : ℕ) (outcome : ℕ → Outcome) (runs : List ℕ) (run : ℕ) (groups : List ℕ) (top : ℕ) (es : List (Entry V)) → FallFrom top es → AreRooted es → is_among runs run ≡ true
      → prune kin (lifted (rule_of owner outcome (others run runs))) (regrouped owner (others run groups) (prune kin (lifted (decided owner run (outcome run))) (opened_for owner run es)))
      ≡ prune kin (lifted (rule_of owner outcome runs)) (regrouped owner groups es)
  same_at_once owner outcome runs run groups top es fall rooted among =
      ap (λ (z : List (Entry V)). prune kin (lifted end) (regrouped owner (others run groups) z)) (ap (prune kin (lifted decide)) (opened_rule owner run top es fall rooted) ∙ both_rules opening decide (decision_keeps owner run (outcome run)) es)
      ∙ ap (prune kin (lifted end)) (grouped_rule owner (others run groups) top (prune kin (lifted first) es)
      (fall_ruled first (then_keeps opening decide (at_owner_keeps owner (with_run run) (λ v. (refl, refl))) (decision_keeps owner run (outcome run))) top es fall) (rooted_pruned (lifted first) es))
      ∙ ap (prune kin (lifted end)) (both_rules first set (at_owner_keeps owner (grouped (others run groups)) (λ v. (refl, refl))) es)
      ∙ both_rules (λ v. and_then set (first v)) end (rule_keeps owner outcome (others run runs)) es
      ∙ prune_alike kin (lifted (λ v. and_then end (and_then set (first v)))) (lifted (λ v. and_then whole (all v))) (λ e. ap (with_version e.value) (ruled owner outcome runs run groups among e.version)) es
      ∙ sym (ap (prune kin (lifted whole)) (grouped_rule owner groups top es fall rooted) ∙ both_rules all whole (rule_keeps owner outcome runs) es)
    where
      end : Version → Option Version
      end = rule_of owner outcome (others run runs)

      decide : Version → Option Version
      decide = decided owner run (outcome run)

      opening : Version → Option Version
      opening = at_owner owner (with_run run)

      first : Version → Option Version
      first v = and_then decide (opening v)

      set : Version → Option Version
      set = at_owner owner (grouped (others run groups))

      whole : Version → Option Version
      whole = rule_of owner outcome runs

      all : Version → Option Version
      all = at_owner owner (grouped groups)

  -- no child of the owner foresaw it
  no_child_left : (owner run : ℕ) (groups : List ℕ) (top : ℕ) (es : List (Entry V)) → FallFrom top es → AreRooted es → AreOver groups (children_of owner (map (λ x. x.version) es)) → is_among groups run ≡ false
      → filter (λ x. is_parent owner x.version.parent) (prune kin (lifted (completed owner run)) es) ≡ []
  no_child_left owner run groups top [] fall rooted over new = refl
  no_child_left owner run groups top (e ∷ es) fall rooted over new = one (is_parent owner e.version.parent) refl over (λ held. no_child_left owner run groups e.version.id es fall.1 rooted.1 held new)
    where
      v : Version
      v = e.version

      rest : List (Entry V)
      rest = prune kin (lifted (completed owner run)) es

      is_under : Entry V → Bool
      is_under x = is_parent owner x.version.parent

      owner_there : (o : Option ℕ) → is_parent owner o ≡ true → parent_there kin es o ≡ true → is_some (entry_at kin es owner) ≡ true
      owner_there None is there = absurd (cc)
      owner_there (Some p) is there = let same : p ≡ owner = grind (arith, nat_tests) in subst (λ (n : ℕ). is_some (entry_at kin es n) ≡ true) same there

      unforeseen : (b : Bool) → is_among v.label run ≡ b → (b ≡ true → is_among groups run ≡ true) → b ≡ false
      unforeseen false is h = refl
      unforeseen true is h = let there = h refl in absurd (cc)

      gone : is_parent owner v.parent ≡ true → is_among v.label run ≡ false → completed owner run v ≡ None
      gone at label =
          let below : owner < v.id = id_below v.id es owner fall.1 (owner_there v.parent at rooted.0) in
          let apart : (v.id == owner) ≡ false = grind (arith, nat_tests) in
          ap (and_then (decided owner run Completed)) (at_aside owner (with_run run) v apart)
          ∙ decided_child owner run Completed v apart at
          ∙ ap (λ (b : Bool). cond b (Some (record v { label = others run v.label })) None) label

      left : (o : Option Version) → completed owner run v ≡ o → is_parent owner v.parent ≡ false → filter is_under rest ≡ [] → filter is_under (kept kin (with_version e.value o) rest) ≡ []
      left None is aside none = none
      left (Some w) is aside none = two (parent_there kin rest w.parent)
        where
          under : is_parent owner w.parent ≡ false
          under = ap (is_parent owner) (completed_keeps owner run v w is).1 ∙ aside

          two : (b : Bool) → filter is_under (cond b (record { version = w; value = e.value } ∷ rest) rest) ≡ []
          two true = ap (λ (b : Bool). cond b (record { version = w; value = e.value } ∷ filter is_under rest) (filter is_under rest)) under ∙ none
          two false = none

      behind : List (List ℕ × ℕ)
      behind = children_of owner (map (λ x. x.version) es)

      one : (b : Bool) → is_parent owner v.parent ≡ b → AreOver groups (cond b ((v.label, v.id) ∷ behind) behind) → (AreOver groups behind → filter is_under rest ≡ [])
          → filter is_under (kept kin (with_version e.value (completed owner run v)) rest) ≡ []
      one true is held none =
          ap (λ (o : Option Version). filter is_under (kept kin (with_version e.value o) rest)) (gone is (unforeseen (is_among v.label run) refl (held.0 run))) ∙ none held.1
      one false is held none = left (completed owner run v) refl is (none held)

  -- the versions of entries
  plain_at : (es : List (Entry V)) (id : ℕ) (e : Entry V) → entry_at kin es id ≡ Some e → entry_at plain (map (λ x. x.version) es) id ≡ Some e.version
  plain_at [] id e at = absurd (cc)
  plain_at (x ∷ es) id e at = one (x.version.id == id) at (plain_at es id e)
    where
      one : (b : Bool) → cond b (Some x) (entry_at kin es id) ≡ Some e → (entry_at kin es id ≡ Some e → entry_at plain (map (λ x. x.version) es) id ≡ Some e.version)
          → cond b (Some x.version) (entry_at plain (map (λ x. x.version) es) id) ≡ Some e.version
      one true at rest = let same : x ≡ e = cc in ap (λ (z : Entry V). Some z.version) same
      one false at rest = rest at

  none_stays : (owner run top : ℕ) (es : List (Entry V)) (e : Entry V) → FallFrom top es → AreRooted es → AreFamily (map (λ x. x.version) es) → entry_at kin es owner ≡ Some e → is_among e.version.groups run ≡ false
      → ids_under (prune kin (lifted (decided owner run Completed)) (opened_for owner run es)) owner ≡ []
  none_stays owner run top es e fall rooted family at new =
      ap (λ (z : List (Entry V)). reverse (map (λ x. x.version.id) (filter (λ x. is_parent owner x.version.parent) z)))
      (ap (prune kin (lifted (decided owner run Completed))) (opened_rule owner run top es fall rooted) ∙ both_rules (at_owner owner (with_run run)) (decided owner run Completed) (decision_keeps owner run Completed) es)
      ∙ ap (λ (z : List (Entry V)). reverse (map (λ x. x.version.id) z)) (no_child_left owner run e.version.groups top es fall rooted (family.held owner e.version (plain_at es owner e at)).over new)

pub one_first : (V : Type 0) → OneDecisionFirst V
one_first V = record { same = same_at_once; none_stays = none_stays }
