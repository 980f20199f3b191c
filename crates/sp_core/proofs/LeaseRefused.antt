-- Why a lease is refused, of a version as a core holds it.
use Rattle.std.proofs.Common.{◌≡◌, ℕ, ◌<◌, ◌≤◌, Bool, true, false, not, ◌&&◌, ◌||◌, nat_lt, nat_le, Option, Some, None, sym, ap, subst, ◌∙◌, arith}
use Rattle.std.proofs.lemmas.Bool.Decides.{nat_tests}
use Rattle.sp_plan.specs.Windows.{closed}
use Rattle.sp_plan.specs.WindowNumbers.{size}
use Rattle.sp_group.specs.Family.{entry_at}
use Rattle.sp_group.specs.Machine.{conflict}
use Rattle.sp_group.specs.Refusing.{has_nothing_to_read, lease_refusal, refuse_for, refuse_if}
use Rattle.sp_group.specs.declared.refusal.Refusal.{Refusal}
use Rattle.sp_group.specs.declared.refusal.Refusal.TheVariants as r
use Rattle.sp_group.specs.declared.step.Step.TheVariants as s
use Rattle.sp_version.specs.declared.version.Version.{Version}
use Rattle.sp_tree.specs.Grown.{kin, value_of}
use Rattle.sp_core.specs.Holding.{Holding, machine_of, running}
use Rattle.sp_core.specs.Leasing.{HasBegun, is_closed}
use Rattle.sp_core.specs.Running.{refused}
use Rattle.sp_core.specs.Suppressing.{conflict_at, conflict_of}
use Rattle.sp_core.proofs.HeldConflict.{Held, version_gone}

-- no version is found
pub refused_gone : (h : Holding) (id n : ℕ) → None ≡ value_of (entry_at kin h.tree.entries id) → Some (r.NotLive id) ≡ refused (running h) (s.Lease id n)
refused_gone h id n none = sym (ap (lease_refusal h.plan (machine_of h) id) (version_gone h id none))

-- whether there is an unread event or an unread closing
abbrev pub has_unread : ℕ → ℕ → Bool → Bool → Bool
has_unread position fed closed done = nat_lt position fed || (closed && not done)

pub unread_fed : (position fed : ℕ) (shut done : Bool) → position < fed → nat_lt position fed ≡ has_unread position fed shut done
unread_fed position fed shut done low = grind (arith, nat_tests)

pub unread_shut : (position fed : ℕ) (shut done : Bool) → fed ≤ position → shut ≡ true → not done ≡ has_unread position fed shut done
unread_shut position fed shut done all is = grind (arith, nat_tests)

pub unread_open : (position fed : ℕ) (shut done : Bool) → fed ≤ position → shut ≡ false → shut ≡ has_unread position fed shut done
unread_open position fed shut done all is = grind (arith, nat_tests)

nothing_unread : (position fed window until : ℕ) (done : Bool) → (nat_le fed position && (done || nat_lt until window)) ≡ not (has_unread position fed (nat_le window until) done)
nothing_unread position fed window until done = grind (arith, nat_tests)

module _ (h : Holding) (id n : ℕ) (held : Version) (d : Held h id held) where
  refused_is : refused (running h) (s.Lease id n) ≡ lease_refusal h.plan (machine_of h) id (Some d.version)
  refused_is = ap (lease_refusal h.plan (machine_of h) id) d.at

  conflict_is : conflict_at h.plan (machine_of h) id ≡ conflict h.plan (machine_of h) d.version
  conflict_is = ap (conflict_of h.plan (machine_of h)) d.at

  abbrev rest : Option Refusal
  rest = refuse_if (has_nothing_to_read h.plan (machine_of h) d.version) (r.NothingToRead d.version.position) None

  -- a ticket is out for it
  pub refused_out : (t : ℕ) → held.out ≡ Some t → Some (r.Out t) ≡ refused (running h) (s.Lease id n)
  refused_out t out =
      sym (refused_is ∙ ap (λ o. refuse_for o r.Out (refuse_for (conflict h.plan (machine_of h) d.version) r.Conflict rest)) (sym d.out ∙ out))

  else_is : held.out ≡ None → refused (running h) (s.Lease id n) ≡ refuse_for (conflict h.plan (machine_of h) d.version) r.Conflict rest
  else_is out = refused_is ∙ ap (λ o. refuse_for o r.Out (refuse_for (conflict h.plan (machine_of h) d.version) r.Conflict rest)) (sym d.out ∙ out)

  -- it is in conflict
  pub refused_conflict : (i : ℕ) → held.out ≡ None → Some i ≡ conflict_at h.plan (machine_of h) id → Some (r.Conflict i) ≡ refused (running h) (s.Lease id n)
  refused_conflict i out is = sym (else_is out ∙ ap (λ o. refuse_for o r.Conflict rest) (sym (is ∙ conflict_is)))

  -- its window has begun
  pub begun : HasBegun (running h) held.window
  begun = subst (λ w. HasBegun (running h) w) d.window d.local.there

  -- there is nothing to read, or it is not refused
  pub refused_unread : (fed : ℕ) (shut unread : Bool) → held.out ≡ None → None ≡ conflict_at h.plan (machine_of h) id → fed ≡ size h.plan h.events held.window
      → shut ≡ is_closed (running h) held.window → unread ≡ has_unread held.position fed shut held.done
      → refuse_if (not unread) (r.NothingToRead held.position) None ≡ refused (running h) (s.Lease id n)
  refused_unread fed shut unread out none fed_is shut_is is =
      let v = d.version in
      let unread_is : has_nothing_to_read h.plan (machine_of h) v ≡ not unread =
      nothing_unread v.position (size h.plan h.events v.window) v.window (closed h.plan h.events h.ended) v.done
      ∙ ap (λ k. not (has_unread k (size h.plan h.events v.window) (nat_le v.window (closed h.plan h.events h.ended)) v.done)) d.position
      ∙ ap (λ k. not (has_unread held.position (size h.plan h.events k) (nat_le k (closed h.plan h.events h.ended)) v.done)) d.window
      ∙ ap (λ b. not (has_unread held.position (size h.plan h.events held.window) (nat_le held.window (closed h.plan h.events h.ended)) b)) d.done
      ∙ ap (λ k. not (has_unread held.position k (nat_le held.window (closed h.plan h.events h.ended)) held.done)) (sym fed_is)
      ∙ ap (λ b. not (has_unread held.position fed b held.done)) (sym shut_is) ∙ ap not (sym is) in
      sym (else_is out ∙ ap (λ o. refuse_for o r.Conflict rest) (sym (none ∙ conflict_is))
      ∙ ap (λ b. refuse_if b (r.NothingToRead v.position) None) unread_is ∙ ap (λ k. refuse_if (not unread) (r.NothingToRead k) None) d.position)
