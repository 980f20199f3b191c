-- Which versions a return, a roll and a finish lose.
use Rattle.std.proofs.Common.{◌≡◌, ◌≢◌, ℕ, ◌⊎◌, Bool, true, false, cond, ◌==◌, List, [], ◌∷◌, Option, Some, None, is_some, inl, inr, ⊎_elim, refl, sym, ap, ◌∙◌, subst, arith}
use Rattle.std.specs.Prelude.{⊤}
use Rattle.std.proofs.lemmas.Bool.Decides.{nat_tests}
use Rattle.sp_plan.specs.declared.plan.Plan.{Plan}
use Rattle.sp_plan.specs.Runs.{State}
use Rattle.sp_group.specs.Family.{is_parent, parent_there, kept, prune}
use Rattle.sp_group.specs.declared.refusal.Refusal.{Refusal}
use Rattle.sp_group.specs.Machine.{Version, Ticket, Machine, kin, version_at, ticket_at, root_in, inner}
use Rattle.sp_group.specs.Refusing.{return_refusal, roll_refusal, finish_refusal}
use Rattle.sp_group.specs.Effects.{fresh, after_ticket, child_after, after_reading, but, home, returned, rolled, promoted, popped, settled, finished_one}
use Rattle.sp_group.specs.Steps.{unless_refused}
use Rattle.sp_rules.specs.Kept.{Stands, Placed, Shape, Kept}
use Rattle.sp_rules.specs.Schedules.{StandsBelow, child, deeper, LosesBelow, LosesRolled, LosesRoot, LosesFew}
use Rattle.sp_rules.proofs.Facts.{Facts}
use Rattle.sp_rules.proofs.Labels.{child_is, but_prunes}
use Rattle.sp_rules.proofs.Tree.{at_later, at_cases, at_head, at_id, Each, each_tail, Prunes}
use Rattle.sp_rules.proofs.Home.{home_prunes}
use Rattle.sp_rules.proofs.Finish.{Promoted, up, idle_one, promoted_is, rises_id}

-- What a rule does to the versions of a list, and which of them go by it: those that it drops, and those whose parent goes and which keep it.
record Sheds (q : Plan) (f : Version → State) (fin : ℕ) (rule : Version → Option Version) (Is : Version → Type 0) (Goes : List Version → ℕ → Type 0) : Type 0 where
  same_id : (v w : Version) → Is v → rule v ≡ Some w → w.id ≡ v.id
  parent : (v w : Version) → Is v → rule v ≡ Some w → (w.parent ≡ None) ⊎ (w.parent ≡ v.parent)
  drops : (x : Version) (vs : List Version) → rule x ≡ None → Goes (x ∷ vs) x.id
  orphans : (x w : Version) (vs : List Version) (p : ℕ) → Placed q f fin vs x → rule x ≡ Some w → x.parent ≡ Some p → w.parent ≡ Some p → Goes vs p → Goes (x ∷ vs) x.id
  later : (x : Version) (vs : List Version) (id : ℕ) → Placed q f fin vs x → Goes vs id → Goes (x ∷ vs) id

module _ (q : Plan) (f : Version → State) (fin : ℕ) (rule : Version → Option Version) (Is : Version → Type 0) (Goes : List Version → ℕ → Type 0) (g : Sheds q f fin rule Is Goes) where
  -- a version that is found behind another is found where that one stays, and where it goes
  behind : (o : Option Version) (ws : List Version) (id : ℕ) (w : Version) → ((y : Version) → o ≡ Some y → y.id ≢ id) → version_at ws id ≡ Some w → version_at (kept kin o ws) id ≡ Some w
  behind None ws id w other is = is
  behind (Some y) ws id w other is = one (parent_there kin ws y.parent)
    where
      one : (b : Bool) → version_at (cond b (y ∷ ws) ws) id ≡ Some w
      one true = let apart = other y refl in grind (arith, nat_tests)
      one false = is

  -- a version stays, or goes
  lost : (vs : List Version) → Shape q f fin vs → Each Is vs → (id : ℕ) (v : Version) → version_at vs id ≡ Some v → ((w : Version) × (version_at (prune kin rule vs) id ≡ Some w)) ⊎ Goes vs id
  lost [] shape each id v is = absurd (cc)
  lost (x ∷ vs) shape each id v is = ⊎_elim
      (λ (y : (x.id ≡ id) × (x ≡ v)). subst (λ (n : ℕ). ((w : Version) × (version_at (kept kin (rule x) (prune kin rule vs)) n ≡ Some w)) ⊎ Goes (x ∷ vs) n) y.0 (here (rule x) refl (λ p u isu. lost vs shape.1 deep p u isu)))
      (λ (y : (x.id ≢ id) × (version_at vs id ≡ Some v)). ⊎_elim
      (λ (z : (w : Version) × (version_at (prune kin rule vs) id ≡ Some w)). inl (z.0, behind (rule x) (prune kin rule vs) id z.0 (λ u isu same. y.0 (sym (g.same_id x u isx isu) ∙ same)) z.1))
      (λ (z : Goes vs id). inr (g.later x vs id shape.0 z))
      (lost vs shape.1 deep id v y.1))
      (at_cases x vs id v is)
    where
      deep : Each Is vs
      deep = each_tail q Is f fin x vs shape.0 each

      isx : Is x
      isx = each x.id x (at_head x vs)

      -- the newest version, where its parent is there after it
      stays : (u : Version) → rule x ≡ Some u → (b : Bool) → b ≡ true → (w : Version) × (version_at (cond b (u ∷ prune kin rule vs) (prune kin rule vs)) x.id ≡ Some w)
      stays u isu true there = (u, subst (λ (n : ℕ). version_at (u ∷ prune kin rule vs) n ≡ Some u) (g.same_id x u isx isu) (at_head u (prune kin rule vs)))
      stays u isu false there = absurd (cc)

      here : (o : Option Version) → rule x ≡ o → ((p : ℕ) (u : Version) → version_at vs p ≡ Some u → ((w : Version) × (version_at (prune kin rule vs) p ≡ Some w)) ⊎ Goes vs p)
          → ((w : Version) × (version_at (kept kin o (prune kin rule vs)) x.id ≡ Some w)) ⊎ Goes (x ∷ vs) x.id
      here None gone ih = inr (g.drops x vs gone)
      here (Some u) isu ih = ⊎_elim
          (λ (rootless : u.parent ≡ None). inl (stays u isu (parent_there kin (prune kin rule vs) u.parent) (ap (parent_there kin (prune kin rule vs)) rootless)))
          (λ (same : u.parent ≡ x.parent). by_parent same x.parent refl shape.0.stands)
          (g.parent x u isx isu)
        where
          by_parent : u.parent ≡ x.parent → (o : Option ℕ) → x.parent ≡ o → Stands q f fin vs x o
              → ((w : Version) × (version_at (cond (parent_there kin (prune kin rule vs) u.parent) (u ∷ prune kin rule vs) (prune kin rule vs)) x.id ≡ Some w)) ⊎ Goes (x ∷ vs) x.id
          by_parent same None is st = inl (stays u isu (parent_there kin (prune kin rule vs) u.parent) (ap (parent_there kin (prune kin rule vs)) (same ∙ is)))
          by_parent same (Some p) is st = ⊎_elim
              (λ (z : (w : Version) × (version_at (prune kin rule vs) p ≡ Some w)).
              inl (stays u isu (parent_there kin (prune kin rule vs) u.parent) (ap (parent_there kin (prune kin rule vs)) (same ∙ is) ∙ ap is_some z.1)))
              (λ (z : Goes vs p). inr (g.orphans x u vs p shape.0 isu is (same ∙ is) z))
              (ih p st.parent st.is)

-- what stands below another stands so in front of a newer version too
lifted : (q : Plan) (f : Version → State) (fin a : ℕ) (x : Version) (vs : List Version) (id : ℕ) → Placed q f fin vs x → StandsBelow vs a id → StandsBelow (x ∷ vs) a id
lifted q f fin a x vs n placed (child id v is edge) = child id v (at_later x vs id v (placed.newest id v is) is) edge
lifted q f fin a x vs n placed (deeper id p v is edge more) = deeper id p v (at_later x vs id v (placed.newest id v is) is) edge (lifted q f fin a x vs p placed more)

-- a reading takes only children of the version that read
reading_drops : (q : Plan) (id : ℕ) (new : Version) (from to : State) (v : Version) → after_reading q id new from to v ≡ None → v.parent ≡ Some id
reading_drops q id new from to v h = one (v.id == id) h
  where
    two : (b : Bool) → is_parent id v.parent ≡ b → cond b (child_after q from to v) (Some v) ≡ None → v.parent ≡ Some id
    two true is h = child_is id v.parent is
    two false is h = absurd (cc)

    one : (b : Bool) → cond b (Some new) (cond (is_parent id v.parent) (child_after q from to v) (Some v)) ≡ None → v.parent ≡ Some id
    one true h = absurd (cc)
    one false h = two (is_parent id v.parent) refl h

-- a reading sheds what stands below the version that read
reading_sheds : (q : Plan) (f : Version → State) (fin id : ℕ) (new : Version) (from to : State) (Is : Version → Type 0) → Prunes q f (after_reading q id new from to) Is
    → Sheds q f fin (after_reading q id new from to) Is (λ vs n. StandsBelow vs id n)
reading_sheds q f fin id new from to Is g = record {
  same_id = g.same_id;
  parent = λ v w isv is. inr (g.same_parent v w isv is);
  drops = λ x vs gone. child x.id x (at_head x vs) (reading_drops q id new from to x gone);
  orphans = λ x w vs p placed is edge stays below. deeper x.id p x (at_head x vs) edge (lifted q f fin id x vs p placed below);
  later = λ x vs n placed below. lifted q f fin id x vs n placed below;
}

pub return_loses : (q : Plan) → Facts q → (bound : ℕ) (m : Machine) → Kept q m → LosesBelow q bound m
return_loses q k bound m h number t is id v there = one (ticket_at m.tickets number) is
  where
    two : (o : Option Version) → version_at m.versions t.version ≡ o → ((w : Version) × (version_at (home q m number t o).versions id ≡ Some w)) ⊎ StandsBelow m.versions t.version id
    two None e = inl (v, there)
    two (Some u) e =
        let old = inner q m.events u in
        let new = inner q m.events (after_ticket u t) in
        let isall : Each (λ w. version_at m.versions w.id ≡ Some w) m.versions = λ i w at. subst (λ (z : ℕ). version_at m.versions z ≡ Some w) (sym (at_id m.versions i w at)) at in
        let own : u.id ≡ t.version = at_id m.versions t.version u e in
        subst (λ (n : ℕ). ((w : Version) × (version_at (home q m number t (Some u)).versions id ≡ Some w)) ⊎ StandsBelow m.versions n id) own
        (lost q (inner q m.events) m.finished (after_reading q u.id (after_ticket u t) old new) (λ w. version_at m.versions w.id ≡ Some w) (λ vs n. StandsBelow vs u.id n)
        (reading_sheds q (inner q m.events) m.finished u.id (after_ticket u t) old new (λ w. version_at m.versions w.id ≡ Some w) (home_prunes q k m number t u is e h))
        m.versions h.sane.shape isall id v there)

    one : (o : Option Ticket) → o ≡ Some t → ((w : Version) × (version_at (unless_refused (return_refusal number o) m (returned q m number o)).versions id ≡ Some w)) ⊎ StandsBelow m.versions t.version id
    one None e = absurd (cc)
    one (Some u) e =
        let same : u ≡ t = cc in
        subst (λ (z : Ticket). ((w : Version) × (version_at (returned q m number (Some z)).versions id ≡ Some w)) ⊎ StandsBelow m.versions t.version id) (sym same) (two (version_at m.versions t.version) refl)

-- that version, or one below it
abbrev AtOrBelow : ℕ → List Version → ℕ → Type 0
AtOrBelow a vs n = (n ≡ a) ⊎ StandsBelow vs a n

-- taking a version away sheds it and what stands below it
but_sheds : (q : Plan) (f : Version → State) (fin a : ℕ) (Is : Version → Type 0) → Sheds q f fin (but a) Is (AtOrBelow a)
but_sheds q f fin a Is =
    let g = but_prunes q f a Is in
    record {
      same_id = g.same_id;
      parent = λ v w isv is. inr (g.same_parent v w isv is);
      drops = λ x vs gone. inl (dropped x (x.id == a) refl gone);
      orphans = λ x w vs p placed is edge stays goes. inr (⊎_elim
          (λ (same : p ≡ a). child x.id x (at_head x vs) (edge ∙ ap Some same))
          (λ (below : StandsBelow vs a p). deeper x.id p x (at_head x vs) edge (lifted q f fin a x vs p placed below))
          goes);
      later = λ x vs n placed goes. ⊎_elim
          (λ (same : n ≡ a). inl same)
          (λ (below : StandsBelow vs a n). inr (lifted q f fin a x vs n placed below))
          goes;
    }
  where
    dropped : (x : Version) (b : Bool) → (x.id == a) ≡ b → cond b None (Some x) ≡ None → x.id ≡ a
    dropped x true is gone = grind (arith, nat_tests)
    dropped x false is gone = absurd (cc)

any : Version → Type 0
any v = ⊤

pub roll_loses : (q : Plan) (bound : ℕ) (m : Machine) → Kept q m → LosesRolled q bound m
unfolding any
roll_loses q bound m h a id v there = one (version_at m.versions a) refl
  where
    -- a version with a new id in front hides none that was there
    in_front : (x : Version) → x.id ≡ m.next_id → ((w : Version) × (version_at (prune kin (but a) m.versions) id ≡ Some w)) ⊎ AtOrBelow a m.versions id
        → ((w : Version) × (version_at (x ∷ prune kin (but a) m.versions) id ≡ Some w)) ⊎ AtOrBelow a m.versions id
    in_front x new goes = ⊎_elim
        (λ (z : (w : Version) × (version_at (prune kin (but a) m.versions) id ≡ Some w)).
        let low = h.sane.ids id v there in
        inl (z.0, at_later x (prune kin (but a) m.versions) id z.0 (omega (arith, low, new)) z.1))
        (λ (z : AtOrBelow a m.versions id). inr z)
        goes

    two : (u : Version) → u.id ≡ a → (o : Option Refusal) → ((w : Version) × (version_at (unless_refused o m (rolled m (Some u))).versions id ≡ Some w)) ⊎ AtOrBelow a m.versions id
    two u own (Some why) = inl (v, there)
    two u own None =
        subst (λ (n : ℕ). ((w : Version) × (version_at (fresh m.next_id u.parent u.window u.label ∷ prune kin (but n) m.versions) id ≡ Some w)) ⊎ AtOrBelow a m.versions id) (sym own)
        (in_front (fresh m.next_id u.parent u.window u.label) refl
        (lost q (inner q m.events) m.finished (but a) any (AtOrBelow a) (but_sheds q (inner q m.events) m.finished a any) m.versions h.sane.shape (λ i w e. tt) id v there))

    one : (o : Option Version) → version_at m.versions a ≡ o → ((w : Version) × (version_at (unless_refused (roll_refusal q m a o) m (rolled m o)).versions id ≡ Some w)) ⊎ AtOrBelow a m.versions id
    one None e = inl (v, there)
    one (Some u) e = two u (at_id m.versions a u e) (roll_refusal q m a (Some u))

-- where the root goes it alone does, for its children lose their parent
promoted_sheds : (q : Plan) (f : Version → State) (fin r : ℕ) (Is : Version → Type 0) → Sheds q f fin (promoted r) Is (λ vs n. n ≡ r)
promoted_sheds q f fin r Is = record {
  same_id = λ v w isv is. rises_id r v w (promoted_is r v w is);
  parent = λ v w isv is. up_or_same v w (promoted_is r v w is);
  drops = λ x vs gone. dropped x (x.id == r) refl gone;
  orphans = λ x w vs p placed is has stays same. absurd (kept_parent x w p has stays same (promoted_is r x w is));
  later = λ x vs n placed same. same;
}
  where
    up_or_same : (v w : Version) → Promoted r v w → (w.parent ≡ None) ⊎ (w.parent ≡ v.parent)
    up_or_same v w (up n p e) = inl (ap (λ (z : Version). z.parent) e)
    up_or_same v w (idle_one n p e) = inr (ap (λ (z : Version). z.parent) e)

    kept_parent : (x w : Version) (p : ℕ) → x.parent ≡ Some p → w.parent ≡ Some p → p ≡ r → Promoted r x w → ⊥
    kept_parent x w p has stays same (up n o e) = let none : None ≡ Some p = ap (λ (z : Version). z.parent) (sym e) ∙ stays in absurd (cc)
    kept_parent x w p has stays same (idle_one n o e) = o (has ∙ ap Some same)

    two : (x : Version) (b : Bool) → cond b (Some (record x { parent = None })) (Some x) ≡ None → ⊥
    two x true gone = cc
    two x false gone = cc

    dropped : (x : Version) (b : Bool) → (x.id == r) ≡ b → cond b None (cond (is_parent r x.parent) (Some (record x { parent = None })) (Some x)) ≡ None → x.id ≡ r
    dropped x true is gone = grind (arith, nat_tests)
    dropped x false is gone = absurd (two x (is_parent r x.parent) gone)

pub finish_loses : (q : Plan) (bound : ℕ) (m : Machine) → Kept q m → LosesRoot q bound m
unfolding any
finish_loses q bound m h r root clear id v there = one (root_in m.versions) root
  where
    stays : ((w : Version) × (version_at (popped q m r).versions id ≡ Some w)) ⊎ (id ≡ r.id)
    stays = lost q (inner q m.events) m.finished (promoted r.id) any (λ vs n. n ≡ r.id) (promoted_sheds q (inner q m.events) m.finished r.id any) m.versions h.sane.shape (λ i w e. tt) id v there

    calm : (o : Option Version) → root_in (popped q m r).versions ≡ o → settled q (popped q m r) o ≡ popped q m r
    calm None e = refl
    calm (Some u) e = ap (λ (o : Option ℕ). cond (is_some o) (rolled (popped q m r) (Some u)) (popped q m r)) (clear u e)

    two : (o : Option Refusal) → ((w : Version) × (version_at (unless_refused o m (finished_one q m (Some r))).versions id ≡ Some w)) ⊎ (id ≡ r.id)
    two (Some why) = inl (v, there)
    two None = subst (λ (n : Machine). ((w : Version) × (version_at n.versions id ≡ Some w)) ⊎ (id ≡ r.id)) (sym (calm (root_in (popped q m r).versions) refl)) stays

    one : (o : Option Version) → o ≡ Some r → ((w : Version) × (version_at (unless_refused (finish_refusal m o) m (finished_one q m o)).versions id ≡ Some w)) ⊎ (id ≡ r.id)
    one None e = absurd (cc)
    one (Some u) e =
        let same : u ≡ r = cc in
        subst (λ (z : Version). ((w : Version) × (version_at (unless_refused (finish_refusal m (Some z)) m (finished_one q m (Some z))).versions id ≡ Some w)) ⊎ (id ≡ r.id)) (sym same)
        (two (finish_refusal m (Some r)))

-- what each step loses
pub loses_few : (q : Plan) → Facts q → (bound : ℕ) (m : Machine) → Kept q m → LosesFew q bound m
loses_few q k bound m h = record {
  returns = return_loses q k bound m h;
  rolls = roll_loses q bound m h;
  finishes = finish_loses q bound m h;
}
