-- A group that opened and completed in one reading is set and decided before the others: that comes to the same.
use Rattle.std.proofs.Common.{◌≡◌, ◌≢◌, ℕ, Bool, true, false, cond, not, ◌&&◌, ◌||◌, ◌==◌, List, [], ◌∷◌, filter, map, Option, Some, Result, Ok, Err, refl, sym, ap, subst, ◌∙◌, arith}
use Rattle.std.specs.Prelude.{nat_lt, IfSome}
use Rattle.std.specs.List.{All, AllByRecursion}
use Rattle.std.specs.List.Sorted.{IsStrictlyIncreasing}
use Rattle.std.specs.Option.{IsSome}
use Rattle.std.specs.Result.{OnErr, OnOk}
use Rattle.std.proofs.lemmas.Bool.Decides.{nat_tests}
use Rattle.std.proofs.lemmas.List.Elements.{All-from_recursion, recursion_from_All}
use Rattle.std.proofs.lemmas.Map.Views.{any-filter_same}
use Rattle.std.proofs.lemmas.Option.{same_Some}
use Rattle.sp_base.specs.Numbers.{is_among, with_number}
use Rattle.sp_piece.specs.Pieced.{Pieced}
use Rattle.sp_version.specs.declared.version.Version.{Version}
use Rattle.sp_group.specs.declared.outcome.Outcome.{Outcome}
use Rattle.sp_group.specs.declared.outcome.Outcome.TheVariants.{Completed, Abandoned}
use Rattle.sp_group.specs.Deciding.{others, others_than}
use Rattle.sp_group.specs.Family.{entry_at, prune}
use Rattle.sp_group.specs.Rising.{IsLabel}
use Rattle.sp_tree.specs.Changes.{decided}
use Rattle.sp_tree.specs.Children.{AreFamily}
use Rattle.sp_tree.specs.Decided.{DecisionsAddUp, OneDecisionFirst, rule_of, with_groups}
use Rattle.sp_tree.specs.Grown.{AreGrown, Entry, Grown, groups_of, kin, lifted, opened_for, pruned, with_all_groups, with_group, with_value, written}
use Rattle.sp_tree.specs.Paths.{ids_under}
use Rattle.sp_core.specs.declared.homecoming.Brought.{Brought}
use Rattle.sp_core.specs.Homecoming.{CanDecide, IsDecided, IsReady, IsTakenUp, ended_in, is_grouped, outcome_of}
use Rattle.sp_core.specs.Settling.{CanSettle, CanTakeUp, HasRooms, HasTakenUp, IsPassing, IsSettled}
use Rattle.sp_core.proofs.HomeSettled.{grouped_at, ready_ungrouped, taken_grouped, written_at}
use Rattle.sp_core.proofs.Owner.{settled}
use Rattle.sp_core.proofs.Written.{grown_written}

-- what holds unless an error came, where none came
pub no_error : {A E : Type 0} (result : Result A E) (P Q : Type 0) → OnOk result P → OnErr result Q → (Q → ⊥) → P
no_error (Ok a) P Q p q never = p
no_error (Err e) P Q p q never = absurd (never q)

among_filter : (p : ℕ → Bool) (xs : List ℕ) (r : ℕ) → is_among (filter p xs) r ≡ (p r && is_among xs r)
among_filter p xs r = any-filter_same (λ m. m == r) p (p r) (λ k e. ap p (same k e)) xs
  where
    same : (k : ℕ) → (k == r) ≡ true → k ≡ r
    same k e = grind (arith, nat_tests)

both : (a b : Bool) → (a && b) ≡ true → (a ≡ true) × (b ≡ true)
both true true h = (refl, refl)
both true false h = absurd (cc)
both false b h = absurd (cc)

or_right : (a b : Bool) → b ≡ true → (a || b) ≡ true
or_right true b h = refl
or_right false b h = h

-- a number that is among the others and one more, and is not that one
among_old : (ns : List ℕ) (n r : ℕ) → (r == n) ≡ false → is_among (with_number ns n) r ≡ true → is_among ns r ≡ true
among_old [] n r other h = absurd (let turned : (n == r) ≡ false = grind (arith, nat_tests) in cc)
among_old (m ∷ ms) n r other h = one (nat_lt n m) (m == n) h (among_old ms n r other)
  where
    first : (a : Bool) (b : Bool) → a ≡ false → (a || b) ≡ true → b ≡ true
    first true b off h = absurd (cc)
    first false b off h = h

    two : (c : Bool) → (c || is_among (with_number ms n) r) ≡ true → (is_among (with_number ms n) r ≡ true → is_among ms r ≡ true) → (c || is_among ms r) ≡ true
    two true h rest = refl
    two false h rest = rest h

    one : (a b : Bool) → is_among (cond a (n ∷ m ∷ ms) (cond b (m ∷ ms) (m ∷ with_number ms n))) r ≡ true → (is_among (with_number ms n) r ≡ true → is_among ms r ≡ true) → (m == r || is_among ms r) ≡ true
    one true b h rest = first (n == r) (m == r || is_among ms r) (grind (arith, nat_tests)) h
    one false true h rest = h
    one false false h rest = two (m == r) h rest

pub all_among : (more gs : List ℕ) → ((r : ℕ) → is_among gs r ≡ true → is_among more r ≡ true) → All (λ r. is_among more r ≡ true) gs
all_among more gs h = All-from_recursion (λ r. is_among more r ≡ true) gs (go gs h)
  where
    itself : (n : ℕ) → (n == n) ≡ true
    itself n = grind (arith, nat_tests)

    go : (ns : List ℕ) → ((r : ℕ) → is_among ns r ≡ true → is_among more r ≡ true) → AllByRecursion (λ r. is_among more r ≡ true) ns
    go [] h = tt
    go (n ∷ ns) h = (h n (ap (λ (b : Bool). b || is_among ns n) (itself n)), go ns (λ r m. h r (or_right (n == r) (is_among ns r) m)))

-- what holds of all numbers of a list holds of each among them
pub of_each : (P : ℕ → Type 0) (ns : List ℕ) → AllByRecursion P ns → (r : ℕ) → is_among ns r ≡ true → P r
of_each P [] h r m = absurd (cc)
of_each P (n ∷ ns) h r m = one (n == r) refl m (of_each P ns h.1 r)
  where
    one : (b : Bool) → (n == r) ≡ b → (b || is_among ns r) ≡ true → (is_among ns r ≡ true → P r) → P r
    one true is m rest = let same : n ≡ r = grind (arith, nat_tests) in subst P same h.0
    one false is m rest = rest m

-- two filters, in either order
filters_turn : (p q : ℕ → Bool) (ns : List ℕ) → filter p (filter q ns) ≡ filter q (filter p ns)
filters_turn p q [] = refl
filters_turn p q (n ∷ ns) = one (p n) refl (q n) refl (filters_turn p q ns)
  where
    one : (a : Bool) → p n ≡ a → (b : Bool) → q n ≡ b → filter p (filter q ns) ≡ filter q (filter p ns)
        → filter p (cond b (n ∷ filter q ns) (filter q ns)) ≡ filter q (cond a (n ∷ filter p ns) (filter p ns))
    one true f true g rest = ap (λ b. cond b (n ∷ filter p (filter q ns)) (filter p (filter q ns))) f ∙ ap (λ (z : List ℕ). n ∷ z) rest ∙ sym (ap (λ b. cond b (n ∷ filter q (filter p ns)) (filter q (filter p ns))) g)
    one true f false g rest = rest ∙ sym (ap (λ b. cond b (n ∷ filter q (filter p ns)) (filter q (filter p ns))) g)
    one false f true g rest = ap (λ b. cond b (n ∷ filter p (filter q ns)) (filter p (filter q ns))) f ∙ rest
    one false f false g rest = rest

-- a value is written before or after a group opens
written_opened : (es : List (Entry Version)) (id run : ℕ) (w : Version) → written (opened_for id run es) id w ≡ opened_for id run (written es id w)
written_opened [] id run w = refl
written_opened (x ∷ es) id run w = one (x.version.id == id) refl (written_opened es id run w)
  where
    mine : Entry Version
    mine = record { version = record x.version { groups = with_number x.version.groups run }; value = x.value }

    one : (b : Bool) → (x.version.id == id) ≡ b → written (opened_for id run es) id w ≡ opened_for id run (written es id w)
        → written (cond b (mine ∷ es) (x ∷ opened_for id run es)) id w ≡ opened_for id run (cond b (record x { value = w } ∷ es) (x ∷ written es id w))
    one true is rest =
        ap (λ b. cond b (record mine { value = w } ∷ es) (mine ∷ written es id w)) is
        ∙ sym (ap (λ b. cond b (record mine { value = w } ∷ es) (record x { value = w } ∷ opened_for id run es)) is)
    one false is rest =
        ap (λ b. cond b (record x { value = w } ∷ opened_for id run es) (x ∷ written (opened_for id run es) id w)) is
        ∙ ap (λ (z : List (Entry Version)). x ∷ z) rest
        ∙ sym (ap (λ b. cond b (mine ∷ written es id w) (x ∷ opened_for id run (written es id w))) is)

-- the entry of the id has the group that opened
opened_at : (es : List (Entry Version)) (id run : ℕ) (e : Entry Version) → entry_at kin es id ≡ Some e → entry_at kin (opened_for id run es) id ≡ Some (settled (with_number e.version.groups run) e.value e)
opened_at [] id run e at = absurd (cc)
opened_at (x ∷ es) id run e at = one (x.version.id == id) refl at (opened_at es id run e)
  where
    mine : Entry Version
    mine = settled (with_number x.version.groups run) x.value x

    one : (b : Bool) → (x.version.id == id) ≡ b → cond b (Some x) (entry_at kin es id) ≡ Some e
        → (entry_at kin es id ≡ Some e → entry_at kin (opened_for id run es) id ≡ Some (settled (with_number e.version.groups run) e.value e))
        → entry_at kin (cond b (mine ∷ es) (x ∷ opened_for id run es)) id ≡ Some (settled (with_number e.version.groups run) e.value e)
    one true is here rest =
        let same : x ≡ e = cc in
        ap (λ b. cond b (Some mine) (entry_at kin es id)) is ∙ ap (λ (y : Entry Version). Some (settled (with_number y.version.groups run) y.value y)) same
    one false is there rest = ap (λ b. cond b (Some x) (entry_at kin (opened_for id run es) id)) is ∙ rest there

-- a value says nothing of where its version stands
versions_written : (es : List (Entry Version)) (id : ℕ) (w : Version) → map (λ e. e.version) (written es id w) ≡ map (λ e. e.version) es
versions_written [] id w = refl
versions_written (x ∷ es) id w = one (x.version.id == id) (versions_written es id w)
  where
    one : (b : Bool) → map (λ e. e.version) (written es id w) ≡ map (λ e. e.version) es → map (λ e. e.version) (cond b (record x { value = w } ∷ es) (x ∷ written es id w)) ≡ x.version ∷ map (λ e. e.version) es
    one true rest = refl
    one false rest = ap (λ z. x.version ∷ z) rest

module _ (old : Grown Version) (p : Pieced) (b : Brought) (can : CanSettle old p b) (id : ℕ) (id_is : id ≡ p.job.version) (run : ℕ) (passing : IsPassing old p b.completed.items run) where
  live : entry_at kin old.entries id ≡ Some can.entry
  live = ap (entry_at kin old.entries) id_is ∙ can.live

  abbrev gs : List ℕ
  gs = can.entry.version.groups

  new_run : is_among gs run ≡ false
  new_run = ap (λ (o : Option (Entry Version)). is_among (groups_of o) run) (sym can.live) ∙ passing.closed

  pub closed_here : is_among (groups_of (entry_at kin old.entries id)) run ≡ false
  closed_here = ap (λ (o : Option (Entry Version)). is_among (groups_of o) run) live ∙ new_run

  pub owner_live : IsSome (entry_at kin old.entries id)
  owner_live = subst IsSome (sym live) refl

  pub run_given : IsLabel b.groups → run ≢ 0
  run_given label = of_each (λ r. r ≢ 0) b.groups (recursion_from_All (λ r. r ≢ 0) b.groups label.given) run (can.spent run passing.among)

  module _ (passed : List ℕ) (rooms : HasRooms old p passed b) (none : List ℕ) (set : Grown Version) (set_is : set ≡ with_group old id run) where
    ready : IsReady can.entry.value p passed b
    ready = subst (λ (o : Option (Entry Version)). IfSome o (λ e. IsReady e.value p passed b)) can.live rooms

    abbrev mine : Entry Version
    mine = settled (with_number gs run) can.entry.value can.entry

    set_live : entry_at kin set.entries p.job.version ≡ Some mine
    set_live = ap (λ (t : Grown Version). entry_at kin t.entries p.job.version) set_is ∙ ap (entry_at kin (opened_for id run old.entries)) (sym id_is) ∙ opened_at old.entries id run can.entry live

    pub can_take_first : CanTakeUp set p passed (record b { groups = none })
    can_take_first = record { entry = mine; live = set_live; few = can.few; ready = ready_ungrouped can.entry.value p passed b none ready }

    module _ (now : Grown Version) (taken : HasTakenUp set p (record b { groups = none }) now) (grown : AreGrown old) where
      abbrev over : Grown Version
      over = with_value old id taken.value

      over_grown : AreGrown over
      over_grown = grown_written old id taken.value grown

      now_is : now ≡ with_group over id run
      now_is =
          taken.tree
          ∙ ap (λ (k : ℕ). with_value set k taken.value) (sym id_is)
          ∙ ap (λ (t : Grown Version). with_value t id taken.value) set_is
          ∙ ap (λ (es : List (Entry Version)). record old { entries = es }) (written_opened old.entries id run taken.value)

      over_live : entry_at kin over.entries id ≡ Some (record can.entry { value = taken.value })
      over_live = written_at old.entries id taken.value can.entry live

      abbrev now_entry : Entry Version
      now_entry = settled (with_number gs run) taken.value can.entry

      now_live : entry_at kin now.entries id ≡ Some now_entry
      now_live = ap (λ (t : Grown Version). entry_at kin t.entries id) now_is ∙ opened_at over.entries id run (record can.entry { value = taken.value }) over_live

      is_taken : IsTakenUp can.entry.value p b taken.value
      is_taken =
          let same : taken.entry ≡ mine = same_Some taken.entry mine (sym taken.live ∙ set_live) in
          taken_grouped can.entry.value p b none taken.value (subst (λ (e : Entry Version). IsTakenUp e.value p (record b { groups = none }) taken.value) same taken.taken)

      -- it was opened
      pub is_open_now : is_among (groups_of (entry_at kin now.entries id)) run ≡ true
      is_open_now = ap (λ (o : Option (Entry Version)). is_among (groups_of o) run) now_live ∙ put gs
        where
          itself : (n : ℕ) → (n == n) ≡ true
          itself n = grind (arith, nat_tests)

          put : (ns : List ℕ) → is_among (with_number ns run) run ≡ true
          put [] = ap (λ (c : Bool). c || false) (itself run)
          put (m ∷ ms) = one (nat_lt run m) (m == run) refl (put ms)
            where
              one : (a c : Bool) → (m == run) ≡ c → is_among (with_number ms run) run ≡ true → is_among (cond a (run ∷ m ∷ ms) (cond c (m ∷ ms) (m ∷ with_number ms run))) run ≡ true
              one true c is rest = ap (λ (z : Bool). z || (m == run || is_among ms run)) (itself run)
              one false true is rest = ap (λ (z : Bool). z || is_among ms run) is
              one false false is rest = or_right (m == run) (is_among (with_number ms run) run) rest

      module _ (then : Grown Version) (then_is : then ≡ pruned (decided id run Completed) now) where
        then_over : then ≡ pruned (decided id run Completed) (with_group over id run)
        then_over = then_is ∙ ap (pruned (decided id run Completed)) now_is

        -- no child of the owner is left
        pub none_left : OneDecisionFirst Version → AreFamily (map (λ e. e.version) old.entries) → ids_under then.entries id ≡ []
        none_left first family =
            ap (λ (t : Grown Version). ids_under t.entries id) then_over
            ∙ first.none_stays id run over.next over.entries (record can.entry { value = taken.value }) over_grown.fall over_grown.rooted
            (subst AreFamily (sym (versions_written old.entries id taken.value)) family) over_live new_run

        abbrev left : List ℕ
        left = others_than (run ∷ []) (with_number gs run)

        -- the owner is there still
        then_live : DecisionsAddUp Version → AreGrown now → entry_at kin then.entries id ≡ Some (with_groups left now_entry)
        then_live add kept =
            ap (λ (t : Grown Version). entry_at kin t.entries id) then_is
            ∙ ap (λ (es : List (Entry Version)). entry_at kin es id)
            (ap (prune kin (lifted (decided id run Completed))) (sym (add.none id (λ n. Completed) now.entries kept.rooted)) ∙ add.more id (λ n. Completed) [] run now.entries refl)
            ∙ add.owner_stays id (λ n. Completed) (run ∷ []) now.next now.entries now_entry kept.fall kept.rooted now_live

        pub live_then : DecisionsAddUp Version → AreGrown now → IsSome (entry_at kin then.entries id)
        live_then add kept = subst IsSome (sym (then_live add kept)) refl

        -- its open groups are among those that are brought, but for the one
        pub more_then : DecisionsAddUp Version → AreGrown now → All (λ r. is_among (others run b.groups) r ≡ true) (groups_of (entry_at kin then.entries id))
        more_then add kept =
            subst (λ (ns : List ℕ). All (λ r. is_among (others run b.groups) r ≡ true) ns) (sym (ap groups_of (then_live add kept))) (all_among (others run b.groups) left within)
          where
            apart : (r : ℕ) → not (run == r || false) ≡ true → (r == run) ≡ false
            apart r h = one (run == r) refl h
              where
                one : (c : Bool) → (run == r) ≡ c → not (c || false) ≡ true → (r == run) ≡ false
                one true is h = absurd (cc)
                one false is h = grind (arith, nat_tests)

            within : (r : ℕ) → is_among left r ≡ true → is_among (others run b.groups) r ≡ true
            within r m =
                let parts = both (not (run == r || false)) (is_among (with_number gs run) r) (sym (among_filter (λ n. not (is_among (run ∷ []) n)) (with_number gs run) r) ∙ m) in
                let other = apart r parts.0 in
                let old_one = among_old gs run r other parts.1 in
                among_filter (λ n. not (n == run)) b.groups r ∙ ap (λ (c : Bool). not c && is_among b.groups r) other ∙ more r old_one
              where
                more : (r : ℕ) → is_among gs r ≡ true → is_among b.groups r ≡ true
                more = of_each (λ r. is_among b.groups r ≡ true) gs (recursion_from_All (λ r. is_among b.groups r ≡ true) gs can.more)

        module _ (add : DecisionsAddUp Version) (kept : AreGrown now) (end : Grown Version) (end_is : end ≡ with_all_groups then id (others run b.groups)) where
          abbrev end_entry : Entry Version
          end_entry = settled (others run b.groups) taken.value (with_groups left now_entry)

          end_live : entry_at kin end.entries id ≡ Some end_entry
          end_live = ap (λ (t : Grown Version). entry_at kin t.entries id) end_is ∙ grouped_at then.entries id (others run b.groups) (with_groups left now_entry) (then_live add kept)

          pub can_decide_last : IsStrictlyIncreasing (others run b.groups) → AreGrown end → CanDecide end id
          can_decide_last rising whole = record { entry = end_entry; live = end_live; rising = rising; grown = whole }

          pub is_settled_last : OneDecisionFirst Version → (completed : List ℕ) (new : Grown Version) → completed ≡ b.completed.items → IsDecided end id completed new → IsSettled old p b new
          is_settled_last first completed new runs decided_are = record {
            entry = can.entry;
            live = can.live;
            value = taken.value;
            taken = is_taken;
            tree =
                decided_are end_entry end_live
                ∙ ap (λ (ns : List ℕ). pruned (rule_of id (outcome_of ns) (ended_in taken.value.matcher (others run b.groups))) end) runs
                ∙ ap (λ (ns : List ℕ). pruned (rule_of id outcome ns) end) (filters_turn (λ r. not (is_grouped taken.value.matcher r)) (λ r. not (r == run)) b.groups)
                ∙ ap (pruned (rule_of id outcome (others run ended))) (end_is ∙ ap (λ (t : Grown Version). with_all_groups t id (others run b.groups)) then_over)
                ∙ ap (λ (o : Outcome). pruned (rule_of id outcome (others run ended)) (with_all_groups (pruned (decided id run o) (with_group over id run)) id (others run b.groups))) (sym completes)
                ∙ ap (λ (es : List (Entry Version)). record old { entries = es }) (first.same id outcome ended run b.groups over.next over.entries over_grown.fall over_grown.rooted among)
                ∙ ap (λ (k : ℕ). pruned (rule_of k outcome ended) (with_all_groups (with_value old k taken.value) k b.groups)) id_is;
          }
            where
              outcome : ℕ → Outcome
              outcome = outcome_of b.completed.items

              ended : List ℕ
              ended = ended_in taken.value.matcher b.groups

              completes : outcome_of b.completed.items run ≡ Completed
              completes = ap (λ (c : Bool). cond c Completed Abandoned) passing.among

              among : is_among ended run ≡ true
              among =
                  let gone : is_grouped taken.value.matcher run ≡ false = can.alike taken.value.matcher passing.after is_taken.matcher passing.led run ∙ passing.ended in
                  among_filter (λ r. not (is_grouped taken.value.matcher r)) b.groups run
                  ∙ ap (λ (c : Bool). not c && is_among b.groups run) gone
                  ∙ can.spent run passing.among
