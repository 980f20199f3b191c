-- A piece that comes home lets no version read what is suppressed for it that did not before, but those of later windows, and those by the
-- events alone that the piece was lent, and later ones.
use Rattle.std.proofs.Common.{◌≡◌, ◌≢◌, ◌⊎◌, ℕ, ◌+◌, ◌<◌, ◌≤◌, Bool, true, false, cond, not, ◌||◌, nat_lt, List, filter, Option, Some, None, is_some, inl, inr, ⊎_elim, refl, sym, ap, ◌∙◌, subst, arith}
use Rattle.sp_base.proofs.RisingLists.{mem_cases, mem_left, mem_right}
use Rattle.sp_base.specs.Numbers.{is_among, with_numbers}
use Rattle.sp_plan.specs.declared.event.Event.{Event}
use Rattle.sp_plan.specs.declared.plan.Plan.{Plan}
use Rattle.sp_plan.specs.Groups.{group, used_by, used_by_all}
use Rattle.sp_plan.specs.Reading.{reading}
use Rattle.sp_plan.specs.Runs.{State, after_closing}
use Rattle.sp_plan.specs.WindowNumbers.{first}
use Rattle.sp_group.specs.Effects.{after_reading, after_ticket, home, is_newly_spent, names_completed, names_no_abandoned, without}
use Rattle.sp_group.specs.Family.{parent_there, prune}
use Rattle.sp_group.specs.Machine.{Machine, Ticket, Version, inner, is_bare, is_group, is_hit, is_named, is_spent, is_suppressed, is_withheld, kin, suppressed_below, suppressed_by, version_at, withheld_by}
use Rattle.sp_rules.specs.ComingHome.{IsComingHome}
use Rattle.sp_rules.specs.Kept.{Child, Lent, Shape, Stands}
use Rattle.sp_rules.specs.Lawful.{Lawful}
use Rattle.sp_rules.specs.Returning.{read_to}
use Rattle.sp_rules.proofs.Facts.{ReadsOn, facts}
use Rattle.sp_rules.proofs.ByGroups.{lent_so_far}
use Rattle.sp_rules.proofs.Home.{HasRead, hit_bare, hit_cases, hit_read, home_leads}
use Rattle.sp_rules.proofs.Labels.{Outcome, child, foresees, is_named_by, itself, named_is, names_it, other, outcome, reading_prunes}
use Rattle.sp_rules.proofs.Lists.{absent, and_both, and_left, below_or, filter_mem, lt_is, mem_filled, mem_filter, or_cases, or_left, or_right, same_bool}
use Rattle.sp_rules.proofs.Tickets.{bare_at, without_bare}
use Rattle.sp_rules.proofs.Tree.{Each, Prunes, Pruned, at_cases, at_head, at_id, at_some, each_tail, from, goes, none, parent_is, prune_is, stays, supp_head, supp_later}
use Rattle.sp_spread.proofs.NewNumbers.{BindsFrom, binds_closing, binds_reading, used_by_any, used_by_run}

-- the numbers that a ticket's reading passed over
abbrev passed : Ticket → List ℕ
passed t = filter (λ i. nat_lt i (t.first + t.read)) t.snapshot

module _ (q : Plan) (law : Lawful q) (E : List Event) (ended : Bool) (S : ℕ → Bool) (v : Version) (t : Ticket) (l : Lent q E ended S v t) where
  abbrev begin : ℕ
  begin = first q E v.window

  abbrev all : List ℕ
  all = with_numbers v.skipped (passed t)

  -- what the ticket passes over is behind what was read before
  agree : (i : ℕ) → begin ≤ i → i < begin + v.position → is_among v.skipped i ≡ is_among all i
  agree i low high = same_bool (is_among v.skipped i) (is_among all i) (λ h. mem_left i v.skipped (passed t) h)
      (λ h. ⊎_elim (λ (y : is_among v.skipped i ≡ true). y)
      (λ (y : is_among (passed t) i ≡ true).
      let late = (l.snapshot i (mem_filter i (λ i. nat_lt i (t.first + t.read)) t.snapshot y).0).1 in
      let at = l.begins in absurd (omega arith))
      (mem_cases i v.skipped (passed t) h))

  -- the runs of a version bind, by its ticket, numbers from the first one lent on
  pub home_binds : BindsFrom q t.first (inner q E v) (inner q E (after_ticket v t))
  home_binds =
      subst (λ (f : ℕ). BindsFrom q f (inner q E v) (inner q E (after_ticket v t))) (sym l.begins)
      (subst (λ (z : Bool). BindsFrom q (begin + v.position) (cond z (after_closing before) before) (cond (z || t.closing_read) (after_closing after) after)) (sym l.undone) (one t.closing_read))
    where
      before : State
      before = reading q E v.skipped (first q E v.window) v.position

      after : State
      after = reading q E (with_numbers v.skipped (passed t)) (first q E v.window) (v.position + t.read)

      same : reading q E v.skipped (first q E v.window) v.position ≡ reading q E (with_numbers v.skipped (passed t)) (first q E v.window) v.position
      same = (facts q law).reading_agrees E v.skipped all begin v.position agree

      one : (c : Bool) → BindsFrom q (begin + v.position) before (cond c (after_closing after) after)
      one false = subst (λ (z : State). BindsFrom q (begin + v.position) z after) (sym same) (binds_reading q law E all begin v.position t.read)
      one true = subst (λ (z : State). BindsFrom q (begin + v.position) z (after_closing after)) (sym same) (binds_closing q law E all begin v.position t.read)

module _ (q : Plan) where
  -- what a parent keeps from a child that stays it kept before, or it is f at least
  label_shrinks : (f : ℕ) (s t : State) (l : List ℕ) (i : ℕ) → BindsFrom q f s t → ReadsOn q s t → foresees q s t l ≡ true → is_withheld q t (filter (is_group q t) l) i ≡ true
      → (is_withheld q s l i ≡ true) ⊎ (f ≤ i)
  label_shrinks f s t l i b reads foreseen held = ⊎_elim
      (λ (y : is_among (used_by_all q t) i ≡ true). let by = used_by_run q t.matched i y in used by.0 by.1 (b.used_up by.0 i by.1))
      (λ (y : is_named q t (filter (is_group q t) l) i ≡ true).
      let by = named_is q t (filter (is_group q t) l) i y in
      ⊎_elim (λ (z : is_among (group q s by.0) i ≡ true). inl (named by.0 (mem_filter by.0 (is_group q t) l by.1).0 z)) (λ (z : f ≤ i). inr z) (b.groups by.0 i by.2))
      (or_cases (is_among (used_by_all q t) i) (is_named q t (filter (is_group q t) l) i) held)
    where
      named : (r : ℕ) → is_among l r ≡ true → is_among (group q s r) i ≡ true → is_withheld q s l i ≡ true
      named r among grouped = or_right (is_among (used_by_all q s) i) (is_named q s l i) (is_named_by q s l i r among grouped)

      -- a run whose match used what was in its group completed since, so that the label names it
      foreseen_run : (r : ℕ) → is_among (used_by q t r) i ≡ true → is_among (group q s r) i ≡ true → is_among l r ≡ true
      foreseen_run r used grouped =
          let spent : is_spent q t r ≡ true = mem_filled i (used_by q t r) used in
          names_it q s t l t.matched r (and_left (names_completed q s t l) (names_no_abandoned q t l) foreseen) spent (new (is_spent q s r) refl spent)
        where
          new : (b : Bool) → is_spent q s r ≡ b → is_spent q t r ≡ true → is_newly_spent q s t r ≡ true
          new true is spent = absurd (reads.apart r (mem_filled i (group q s r) grouped) is)
          new false is spent = and_both (is_spent q t r) (not (is_spent q s r)) spent (ap not is)

      used : (r : ℕ) → is_among (used_by q t r) i ≡ true → (is_among (used_by q s r) i ≡ true) ⊎ (is_among (group q s r) i ≡ true) ⊎ (f ≤ i) → (is_withheld q s l i ≡ true) ⊎ (f ≤ i)
      used r among (inl before) = inl (or_left (is_among (used_by_all q s) i) (is_named q s l i) (used_by_any q s.matched r i before))
      used r among (inr (inl grouped)) = inl (named r (foreseen_run r among grouped) grouped)
      used r among (inr (inr late)) = inr late

-- A live version's ticket, with what was read under it, comes home.
module _ (q : Plan) (law : Lawful q) (m : Machine) (n : ℕ) (t : Ticket) (v : Version) (k : ℕ) (closed : Bool) (comes : IsComingHome q m n t v k closed) where
  abbrev f : Version → State
  f = inner q m.events

  abbrev back : Ticket
  back = read_to t k closed

  abbrev new : Version
  new = after_ticket v back

  abbrev rule : Version → Option Version
  rule = after_reading q v.id new (f v) (f new)

  abbrev vs : List Version
  vs = m.versions

  abbrev Is : Version → Type 0
  Is u = version_at m.versions u.id ≡ Some u

  abbrev Out : Version → Version → Type 0
  Out u w = Outcome q v.id new (f v) (f new) u w

  own : v.id ≡ t.version
  own = at_id m.versions t.version v comes.live

  live : Is v
  live = subst (λ (z : ℕ). version_at m.versions z ≡ Some v) (sym own) comes.live

  lent : Lent q m.events m.ended (is_suppressed q m t.version) v back
  lent = lent_so_far q law m n t v k closed comes

  shape : Shape q f m.finished m.versions
  shape = comes.kept.sane.shape

  leads : ReadsOn q (f v) (f new)
  leads = home_leads q (facts q law) m.events m.ended (is_suppressed q m t.version) v back lent

  prunes : Prunes q f rule Is
  prunes = reading_prunes q m.events m.finished m.versions v new shape live refl refl refl refl leads

  all_are : Each Is m.versions
  all_are id u e = subst (λ (z : ℕ). version_at m.versions z ≡ Some u) (sym (at_id m.versions id u e)) e

  same_v : (u : Version) → Is u → u.id ≡ v.id → u ≡ v
  same_v u isu e = let a : version_at m.versions v.id ≡ Some u = subst (λ (z : ℕ). version_at m.versions z ≡ Some u) e isu in let b = live in cc

  not_own : (u : Version) → Is u → u.parent ≡ Some u.id → ⊥
  not_own u isu p =
      let x = parent_is q f m.finished m.versions shape u.id u.id u isu p in
      let same : x.0 ≡ u = cc in
      let w = ap (λ (z : Version). z.window) same in let next = x.2 in omega arith

  -- what the parent keeps from a child after it, it kept before; or the parent is the version, and it is lent or later
  edge : (u u' a a' : Version) → Is u → Is a → Out u u' → Out a a' → a.parent ≡ Some u.id → (i : ℕ) → is_withheld q (f u') a'.label i ≡ true
      → (is_withheld q (f u) a.label i ≡ true) ⊎ ((u.id ≡ v.id) × (t.first ≤ i))
  edge u u' a a' isu isa (itself e x) oa p i held = below oa
    where
      held_new : is_withheld q (f new) a'.label i ≡ true
      held_new = subst (λ (z : Version). is_withheld q (f z) a'.label i ≡ true) x held

      below : Out a a' → (is_withheld q (f u) a.label i ≡ true) ⊎ ((u.id ≡ v.id) × (t.first ≤ i))
      below (itself ea xa) = absurd (not_own a isa (p ∙ ap Some (e ∙ sym ea)))
      below (other na pa xa) = absurd (pa (p ∙ ap Some e))
      below (child na pa st xa) = ⊎_elim
          (λ (y : is_withheld q (f v) a.label i ≡ true). inl (subst (λ (z : Version). is_withheld q (f z) a.label i ≡ true) (sym (same_v u isu e)) y))
          (λ (y : t.first ≤ i). inr (e, y))
          (label_shrinks q t.first (f v) (f new) a.label i (home_binds q law m.events m.ended (is_suppressed q m t.version) v back lent) leads st
          (subst (λ (z : Version). is_withheld q (f new) z.label i ≡ true) xa held_new))
  edge u u' a a' isu isa (child nu pu st x) oa p i held = inl (beside oa (subst (λ (z : Version). is_withheld q (f z) a'.label i ≡ true) x held))
    where
      beside : Out a a' → is_withheld q (f u) a'.label i ≡ true → is_withheld q (f u) a.label i ≡ true
      beside (itself ea xa) w = let same = same_v a isa ea in subst (λ (z : Version). is_withheld q (f u) z.label i ≡ true) (sym same) (subst (λ (z : Version). is_withheld q (f u) z.label i ≡ true) xa w)
      beside (child na pa sta xa) w = absurd (nu (cc))
      beside (other na pa xa) w = subst (λ (z : Version). is_withheld q (f u) z.label i ≡ true) xa w
  edge u u' a a' isu isa (other nu pu x) oa p i held = inl (beside oa (subst (λ (z : Version). is_withheld q (f z) a'.label i ≡ true) x held))
    where
      beside : Out a a' → is_withheld q (f u) a'.label i ≡ true → is_withheld q (f u) a.label i ≡ true
      beside (itself ea xa) w = let same = same_v a isa ea in subst (λ (z : Version). is_withheld q (f u) z.label i ≡ true) (sym same) (subst (λ (z : Version). is_withheld q (f u) z.label i ≡ true) xa w)
      beside (child na pa sta xa) w = absurd (nu (cc))
      beside (other na pa xa) w = subst (λ (z : Version). is_withheld q (f u) z.label i ≡ true) xa w

  -- an event is suppressed anew for a version of a later window alone, and is lent or later
  abbrev IsAnew : Version → ℕ → Type 0
  IsAnew w i = (v.window < w.window) × (t.first ≤ i)

  shrinks : (c : List ℕ) (vs ws : List Version) → Pruned rule vs ws → Shape q f m.finished vs → Each Is vs → (id : ℕ) (w : Version) → version_at ws id ≡ Some w
      → (i : ℕ) → suppressed_by q f c ws id i ≡ true → (suppressed_by q f c vs id i ≡ true) ⊎ IsAnew w i
  shrinks c vs ws none s each id w e i sup = absurd (cc)
  shrinks c vs0 ws (goes {v = a} {vs = vs} p) s each id w e i sup =
      let deep = each_tail q Is f m.finished a vs s.0 each in
      let x = from q f rule Is m.finished prunes vs ws p s.1 deep id w e in
      let low = s.0.newest id x.0 x.1 in
      ⊎_elim (λ (y : suppressed_by q f c vs id i ≡ true). inl (supp_later q f c a vs id i (λ same. absurd (omega (arith, low, same))) ∙ y)) (λ (y : IsAnew w i). inr y)
      (shrinks c vs ws p s.1 deep id w e i sup)
  shrinks c vs0 ws0 (stays {v = a} {v' = a'} {vs = vs} {ws = ws} kv there p) s each id w e i sup = ⊎_elim
      (λ (y : (a'.id ≡ id) × (a' ≡ w)).
      ⊎_elim (λ (z : suppressed_below q f c (suppressed_by q f c vs) (version_at vs) a.parent a.label i ≡ true). inl (supp_head q f c a vs id i (sym same ∙ y.0) ∙ z))
      (λ (z : IsAnew a i). inr (subst (λ (j : ℕ). v.window < j) (sym (prunes.same_window a a' isa kv) ∙ ap (λ (u : Version). u.window) y.1) z.0, z.1))
      (stand (λ o u at old. shrinks c vs ws p s.1 deep o u at i old) a.parent refl s.0.stands (sym (supp_head q f c a' ws id i y.0) ∙ sup)))
      (λ (y : (a'.id ≢ id) × (version_at ws id ≡ Some w)).
      ⊎_elim (λ (z : suppressed_by q f c vs id i ≡ true). inl (supp_later q f c a vs id i (λ o. y.0 (same ∙ o)) ∙ z)) (λ (z : IsAnew w i). inr z)
      (shrinks c vs ws p s.1 deep id w y.1 i (sym (supp_later q f c a' ws id i y.0) ∙ sup)))
      (at_cases a' ws id w e)
    where
      deep : Each Is vs
      deep = each_tail q Is f m.finished a vs s.0 each

      isa : Is a
      isa = each a.id a (at_head a vs)

      same : a'.id ≡ a.id
      same = prunes.same_id a a' isa kv

      same_parent : a'.parent ≡ a.parent
      same_parent = prunes.same_parent a a' isa kv

      parent : ((o : ℕ) (u : Version) → version_at ws o ≡ Some u → suppressed_by q f c ws o i ≡ true → (suppressed_by q f c vs o i ≡ true) ⊎ IsAnew u i) → (o : ℕ) → a.parent ≡ Some o → Child q f vs a o → (suppressed_by q f c ws o i || withheld_by q f (version_at ws o) a'.label i) ≡ true
          → ((suppressed_by q f c vs o i || withheld_by q f (version_at vs o) a.label i) ≡ true) ⊎ IsAnew a i
      parent rest o is ch held =
          let there' : is_some (version_at ws o) ≡ true = subst (λ (z : Option ℕ). parent_there kin ws z ≡ true) (same_parent ∙ is) there in
          let found = at_some ws o there' in
          let was = from q f rule Is m.finished prunes vs ws p s.1 deep o found.0 found.1 in
          let isu : Is was.0 = deep o was.0 was.1 in
          let same_u : ch.parent ≡ was.0 = cc in
          let next : a.window ≡ was.0.window + 1 = ch.next ∙ ap (λ (z : Version). z.window + 1) same_u in
          let stayed : found.0.window ≡ was.0.window = prunes.same_window was.0 found.0 isu was.2 in
          ⊎_elim
          (λ (y : suppressed_by q f c ws o i ≡ true). ⊎_elim
          (λ (z : suppressed_by q f c vs o i ≡ true). inl (or_left (suppressed_by q f c vs o i) (withheld_by q f (version_at vs o) a.label i) z))
          (λ (z : IsAnew found.0 i). inr (let less = z.0 in omega (arith, less, next, stayed), z.1))
          (rest o found.0 found.1 y))
          (λ (y : withheld_by q f (version_at ws o) a'.label i ≡ true).
          let y' : is_withheld q (f found.0) a'.label i ≡ true = subst (λ (z : Option Version). withheld_by q f z a'.label i ≡ true) found.1 y in
          ⊎_elim
          (λ (z : is_withheld q (f was.0) a.label i ≡ true).
          inl (or_right (suppressed_by q f c vs o i) (withheld_by q f (version_at vs o) a.label i) (subst (λ (j : Option Version). withheld_by q f j a.label i ≡ true) (sym was.1) z)))
          (λ (z : (was.0.id ≡ v.id) × (t.first ≤ i)).
          inr (let own_window = ap (λ (j : Version). j.window) (same_v was.0 isu z.0) in omega (arith, own_window, next), z.1))
          (edge was.0 found.0 a a' isu isa (outcome q v.id new (f v) (f new) was.0 found.0 was.2) (outcome q v.id new (f v) (f new) a a' kv) (is ∙ ap Some (sym (at_id vs o was.0 was.1))) i y'))
          (or_cases (suppressed_by q f c ws o i) (withheld_by q f (version_at ws o) a'.label i) held)

      stand : ((o : ℕ) (u : Version) → version_at ws o ≡ Some u → suppressed_by q f c ws o i ≡ true → (suppressed_by q f c vs o i ≡ true) ⊎ IsAnew u i) → (o : Option ℕ) → a.parent ≡ o → Stands q f m.finished vs a o → suppressed_below q f c (suppressed_by q f c ws) (version_at ws) a'.parent a'.label i ≡ true
          → (suppressed_below q f c (suppressed_by q f c vs) (version_at vs) a.parent a.label i ≡ true) ⊎ IsAnew a i
      stand rest None is st held =
          inl (subst (λ (z : Option ℕ). suppressed_below q f c (suppressed_by q f c vs) (version_at vs) z a.label i ≡ true) (sym is)
          (subst (λ (z : Option ℕ). suppressed_below q f c (suppressed_by q f c ws) (version_at ws) z a'.label i ≡ true) (same_parent ∙ is) held))
      stand rest (Some o) is st held = ⊎_elim
          (λ (y : (suppressed_by q f c vs o i || withheld_by q f (version_at vs o) a.label i) ≡ true).
          inl (subst (λ (z : Option ℕ). suppressed_below q f c (suppressed_by q f c vs) (version_at vs) z a.label i ≡ true) (sym is) y))
          (λ (y : IsAnew a i). inr y)
          (parent rest o is st (subst (λ (z : Option ℕ). suppressed_below q f c (suppressed_by q f c ws) (version_at ws) z a'.label i ≡ true) (same_parent ∙ is) held))

  -- what the version reads once its ticket came home, it read before, or it was lent to it
  read_before : (i : ℕ) → is_suppressed q m v.id i ≡ true → HasRead q m.events new i → is_hit q m v i ≡ true
  read_before i sup had = ⊎_elim
      (λ (y : i < first q m.events v.window + v.position). hit_read q m v i sup (had.0, y, absent (is_among v.skipped i) (λ x. mem_left i v.skipped (passed back) x) had.2))
      (λ (y : first q m.events v.window + v.position ≤ i).
      let begins = lent.begins in
      let few = lent.reads in
      let high = had.1 in
      hit_bare q m v i sup (subst (λ (z : ℕ). is_bare m.tickets z i ≡ true) (sym own) (bare_at m.tickets n t i comes.out (omega arith) (omega arith)
      (absent (is_among t.snapshot i) (λ x. mem_right i v.skipped (passed back) (filter_mem i (λ i. nat_lt i (t.first + k)) t.snapshot x (lt_is i (t.first + k) (omega arith)))) had.2))))
      (below_or i (first q m.events v.window + v.position))

  -- an event that a version reads afterwards although it is suppressed, it read so before, or it is new
  pub home_hit : (id : ℕ) (w : Version) → version_at (home q m n back (Some v)).versions id ≡ Some w → (i : ℕ) → is_hit q (home q m n back (Some v)) w i ≡ true
      → ((u : Version) × (version_at m.versions id ≡ Some u) × (u.window ≡ w.window) × (is_hit q m u i ≡ true)) ⊎ ((v.window < w.window) × (t.first ≤ i))
  home_hit id w e i hit =
      let ws = prune kin rule m.versions in
      let x = from q f rule Is m.finished prunes m.versions ws (prune_is rule m.versions) shape all_are id w e in
      let u = x.0 in
      let isu : Is u = all_are id u x.1 in
      let o = hit_cases q (home q m n back (Some v)) w i hit in
      let wid : w.id ≡ id = at_id ws id w e in
      let uid : u.id ≡ id = at_id m.versions id u x.1 in
      ⊎_elim
      (λ (y : suppressed_by q f m.consumed m.versions id i ≡ true).
      inl (u, x.1, sym (prunes.same_window u w isu x.2), had u isu (outcome q v.id new (f v) (f new) u w x.2) (subst (λ (z : ℕ). is_suppressed q m z i ≡ true) (sym uid) y) o.1))
      (λ (y : IsAnew w i). inr y)
      (shrinks m.consumed m.versions ws (prune_is rule m.versions) shape all_are id w e i
      (subst (λ (z : ℕ). suppressed_by q f m.consumed ws z i ≡ true) wid o.0))
    where
      had : (u : Version) → Is u → Out u w → is_suppressed q m u.id i ≡ true → (HasRead q m.events w i) ⊎ (is_bare (without n m.tickets) w.id i ≡ true) → is_hit q m u i ≡ true
      had u isu (itself eu x) sup reads =
          let same = same_v u isu eu in
          let sup' : is_suppressed q m v.id i ≡ true = subst (λ (z : Version). is_suppressed q m z.id i ≡ true) same sup in
          subst (λ (z : Version). is_hit q m z i ≡ true) (sym same)
          (⊎_elim (λ (y : HasRead q m.events w i). read_before i sup' (subst (λ (z : Version). HasRead q m.events z i) x y))
          (λ (y : is_bare (without n m.tickets) w.id i ≡ true).
          hit_bare q m v i sup' (without_bare n m.tickets v.id i (subst (λ (z : Version). is_bare (without n m.tickets) z.id i ≡ true) x y))) reads)
      had u isu (child nu pu st x) sup reads =
          ⊎_elim (λ (y : HasRead q m.events w i). hit_read q m u i sup (subst (λ (z : Version). HasRead q m.events z i) x y))
          (λ (y : is_bare (without n m.tickets) w.id i ≡ true).
          hit_bare q m u i sup (without_bare n m.tickets u.id i (subst (λ (z : Version). is_bare (without n m.tickets) z.id i ≡ true) x y))) reads
      had u isu (other nu pu x) sup reads =
          ⊎_elim (λ (y : HasRead q m.events w i). hit_read q m u i sup (subst (λ (z : Version). HasRead q m.events z i) x y))
          (λ (y : is_bare (without n m.tickets) w.id i ≡ true).
          hit_bare q m u i sup (without_bare n m.tickets u.id i (subst (λ (z : Version). is_bare (without n m.tickets) z.id i ≡ true) x y))) reads
