-- What a live version keeps where little changes.
use Rattle.std.proofs.Common.{◌≡◌, ◌≢◌, ℕ, ◌+◌, ◌≤◌, Bool, true, false, cond, List, [], ◌∷◌, Option, Some, None, is_some, ⊎_elim, refl, sym, ap, ◌∙◌, subst, arith}
use Rattle.sp_base.specs.Numbers.{is_among}
use Rattle.sp_plan.specs.declared.event.Event.{Event}
use Rattle.sp_plan.specs.declared.plan.Plan.{Plan}
use Rattle.sp_plan.specs.Runs.{State}
use Rattle.sp_plan.specs.WindowNumbers.{count}
use Rattle.sp_group.specs.Machine.{Version, Ticket, version_at, ticket_at, is_out, root_in, is_group, is_withheld, withheld_by, suppressed_below, suppressed_by}
use Rattle.sp_group.specs.Effects.{fresh}
use Rattle.sp_rules.specs.Kept.{Stands, Shape, Lent, Local}
use Rattle.sp_rules.proofs.Lists.{split}
use Rattle.sp_rules.proofs.Tickets.{out_at}
use Rattle.sp_rules.proofs.Tree.{at_later, at_head, at_cases, supp_head, supp_later, Each, each_tail}

module _ (q : Plan) where
  pub lent_grows : (E : List Event) (b : Bool) (S S' : ℕ → Bool) (v : Version) (t : Ticket) → ((i : ℕ) → S i ≡ true → S' i ≡ true) → Lent q E b S v t → Lent q E b S' v t
  lent_grows E b S S' v t g l = record { begins = l.begins; fits = l.fits; closes = l.closes; undone = l.undone; snapshot = λ i m. (g i (l.snapshot i m).0, (l.snapshot i m).1); reads = l.reads; shuts = l.shuts }

  -- more is suppressed and fewer tickets are out
  pub local_grows : (E : List Event) (b : Bool) (ts ts' : List Ticket) (S S' : ℕ → Bool) (v : Version) → ((i : ℕ) → S i ≡ true → S' i ≡ true) → ((n : ℕ) (t : Ticket) → ticket_at ts' n ≡ Some t → ticket_at ts n ≡ Some t) → Local q E b ts S v → Local q E b ts' S' v
  local_grows E b ts ts' S S' v g h l = record {
    there = l.there;
    reads = l.reads;
    rising = l.rising;
    skips = λ i m. g i (l.skips i m);
    read_them = l.read_them;
    done = l.done;
    lent = λ n t e o. lent_grows E b S S' v t g (l.lent n t (h n t e) o);
    only = λ n m t u et eu ot ou. l.only n m t u (h n t et) (h m u eu) ot ou;
  }

  pub not_out : (ts : List Ticket) (id n : ℕ) (t : Ticket) → is_out ts id ≡ false → ticket_at ts n ≡ Some t → t.version ≡ id → ⊥
  not_out ts id n t h e o = let x = out_at ts n t e in let y : is_out ts id ≡ true = subst (λ (k : ℕ). is_out ts k ≡ true) o x in cc

  pub local_fresh : (E : List Event) (b : Bool) (ts : List Ticket) (S : ℕ → Bool) (id : ℕ) (p : Option ℕ) (w : ℕ) (l : List ℕ) → 1 ≤ w → w ≤ count q E → is_out ts id ≡ false → Local q E b ts S (fresh id p w l)
  local_fresh E b ts S id p w l one there h = record {
    there = (one, there);
    reads = omega arith;
    rising = λ k l. absurd (omega (arith, l));
    skips = λ i m. absurd (cc);
    read_them = λ i m. absurd (cc);
    done = λ d. absurd (cc);
    lent = λ n t e o. absurd (not_out ts id n t h e o);
    only = λ n m t u et eu ot ou. absurd (not_out ts id n t h et ot);
  }

  -- another view of what was read
  pub shape_same : (f f' : Version → State) (fin : ℕ) (vs : List Version) → Shape q f fin vs → Each (λ v. f' v ≡ f v) vs → Shape q f' fin vs
  shape_same f f' fin [] s m = tt
  shape_same f f' fin (v ∷ vs) s m = (record { newest = s.0.newest; labelled = s.0.labelled; stands = stand v.parent s.0.stands }, shape_same f f' fin vs s.1 (each_tail q (λ v. f' v ≡ f v) f fin v vs s.0 m))
    where
      stand : (o : Option ℕ) → Stands q f fin vs v o → Stands q f' fin vs v o
      stand None st = st
      stand (Some p) st = record {
        parent = st.parent;
        is = st.is;
        next = st.next;
        apart = st.apart;
        names = λ r k. ap (λ (z : State). is_group q z r) (each_tail q (λ v. f' v ≡ f v) f fin v vs s.0 m p st.parent st.is) ∙ st.names r k;
      }

  pub supp_same : (f f' : Version → State) (c : List ℕ) (fin : ℕ) (vs : List Version) → Shape q f fin vs → Each (λ v. f' v ≡ f v) vs → (id i : ℕ) → suppressed_by q f' c vs id i ≡ suppressed_by q f c vs id i
  supp_same f f' c fin [] s m id i = refl
  supp_same f f' c fin (v ∷ vs) s m id i = ⊎_elim
      (λ (e : v.id ≡ id). supp_head q f' c v vs id i e ∙ stand (λ p. supp_same f f' c fin vs s.1 deep p i) v.parent s.0.stands ∙ sym (supp_head q f c v vs id i e))
      (λ (e : v.id ≢ id). supp_later q f' c v vs id i e ∙ supp_same f f' c fin vs s.1 deep id i ∙ sym (supp_later q f c v vs id i e))
      (split v.id id)
    where
      deep : Each (λ v. f' v ≡ f v) vs
      deep = each_tail q (λ v. f' v ≡ f v) f fin v vs s.0 m

      at_same : (o : Option Version) → ((u : Version) → o ≡ Some u → f' u ≡ f u) → withheld_by q f' o v.label i ≡ withheld_by q f o v.label i
      at_same None h = refl
      at_same (Some u) h = ap (λ (z : State). is_withheld q z v.label i) (h u refl)

      stand : ((p : ℕ) → suppressed_by q f' c vs p i ≡ suppressed_by q f c vs p i) → (o : Option ℕ) → Stands q f fin vs v o → suppressed_below q f' c (suppressed_by q f' c vs) (version_at vs) o v.label i ≡ suppressed_below q f c (suppressed_by q f c vs) (version_at vs) o v.label i
      stand ih None st = refl
      stand ih (Some p) st = let a = ih p in let b = at_same (version_at vs p) (λ u e. deep p u e) in cc

  -- the root is the last of the list
  pub root_last : (f : Version → State) (fin : ℕ) (vs : List Version) → Shape q f fin vs → (id : ℕ) (v : Version) → version_at vs id ≡ Some v → v.parent ≡ None → (root_in vs ≡ Some v) × (v.window ≡ fin + 1) × (v.label ≡ [])
  root_last f fin [] s id v e o = absurd (cc)
  root_last f fin (x ∷ vs) s id v e o = ⊎_elim
      (λ (y : (x.id ≡ id) × (x ≡ v)).
      let st : Stands q f fin vs v None = subst (λ (z : Option ℕ). Stands q f fin vs v z) o (subst (λ (z : Version). Stands q f fin vs z z.parent) y.1 s.0.stands) in
      (subst (λ (z : Version). root_in (z ∷ vs) ≡ Some v) (sym y.1) (grind (arith, o)), st.1, st.2))
      (λ (y : (x.id ≢ id) × (version_at vs id ≡ Some v)).
      let r = root_last f fin vs s.1 id v y.1 o in
      (later x.parent refl s.0.stands y.1 r.0, r.1, r.2))
      (at_cases x vs id v e)
    where
      later : (p : Option ℕ) → x.parent ≡ p → Stands q f fin vs x p → version_at vs id ≡ Some v → root_in vs ≡ Some v → cond (is_some x.parent) (root_in vs) (Some x) ≡ Some v
      later None is st h r = absurd (let k : version_at [] id ≡ Some v = subst (λ (z : List Version). version_at z id ≡ Some v) st.0 h in cc)
      later (Some p) is st h r = grind (arith, is, r)

  pub root_is : (f : Version → State) (fin : ℕ) (vs : List Version) → Shape q f fin vs → (r : Version) → root_in vs ≡ Some r → (version_at vs r.id ≡ Some r) × (r.parent ≡ None)
  root_is f fin [] s r h = absurd (cc)
  root_is f fin (x ∷ vs) s r h = one x.parent refl (root_is f fin vs s.1 r)
    where
      one : (p : Option ℕ) → x.parent ≡ p → (root_in vs ≡ Some r → (version_at vs r.id ≡ Some r) × (r.parent ≡ None)) → (version_at (x ∷ vs) r.id ≡ Some r) × (r.parent ≡ None)
      one None is k = let e : x ≡ r = grind arith in (subst (λ (z : Version). version_at (x ∷ vs) z.id ≡ Some z) e (at_head x vs), ap (λ (z : Version). z.parent) (sym e) ∙ is)
      one (Some p) is k = let g : root_in vs ≡ Some r = grind arith in let y = k g in (at_later x vs r.id r (s.0.newest r.id r y.0) y.0, y.1)

  -- where no root is, nothing is
  pub rootless : (f : Version → State) (fin : ℕ) (vs : List Version) → Shape q f fin vs → root_in vs ≡ None → vs ≡ []
  rootless f fin [] s h = refl
  rootless f fin (x ∷ vs) s h = absurd (one x.parent refl s.0.stands (rootless f fin vs s.1))
    where
      one : (p : Option ℕ) → x.parent ≡ p → Stands q f fin vs x p → (root_in vs ≡ None → vs ≡ []) → ⊥
      one None is st k = grind (arith, is)
      one (Some p) is st k =
          let g : root_in vs ≡ None = grind (arith, is) in
          let e : version_at [] p ≡ Some st.parent = subst (λ (z : List Version). version_at z p ≡ Some st.parent) (k g) st.is in
          cc

  -- for the root the consumed numbers are suppressed
  pub root_supp : (f : Version → State) (c : List ℕ) (vs : List Version) (id : ℕ) (v : Version) → version_at vs id ≡ Some v → v.parent ≡ None → (i : ℕ) → suppressed_by q f c vs id i ≡ is_among c i
  root_supp f c [] id v e o i = absurd (cc)
  root_supp f c (x ∷ vs) id v e o i = ⊎_elim
      (λ (y : (x.id ≡ id) × (x ≡ v)).
      let xo : x.parent ≡ None = ap (λ (z : Version). z.parent) y.1 ∙ o in
      supp_head q f c x vs id i y.0 ∙ ap (λ (z : Option ℕ). suppressed_below q f c (suppressed_by q f c vs) (version_at vs) z x.label i) xo)
      (λ (y : (x.id ≢ id) × (version_at vs id ≡ Some v)). supp_later q f c x vs id i y.0 ∙ root_supp f c vs id v y.1 o i)
      (at_cases x vs id v e)
