-- What giving a piece back answers where it does not come home.
use Rattle.std.proofs.Common.{◌≡◌, ℕ, true, false, Option, Some, None, is_some, refl, sym, ap, ◌∙◌}
use Rattle.std.proofs.lemmas.Option.{same_Some}
use Rattle.sp_piece.specs.Pieced.{Pieced}
use Rattle.sp_group.specs.declared.step.Step.TheVariants as s
use Rattle.sp_group.specs.Machine.{Ticket, Version, ticket_at, version_at}
use Rattle.sp_core.specs.declared.given.Given.TheVariants as g
use Rattle.sp_core.specs.declared.lent.Lent.{Lent}
use Rattle.sp_core.specs.Carrying.{ticket_of}
use Rattle.sp_core.specs.Returning.{IsCarried, IsGiven, without_ticket}
use Rattle.sp_core.specs.Running.{Running, after}

-- the tickets that are found under one number are of one version
pub same_version : (lent d : Lent) (o : Option Ticket) → o ≡ Some (ticket_of lent) → o ≡ Some (ticket_of d) → lent.version ≡ d.version
same_version lent d o is at = ap (λ (t : Ticket). t.version) (same_Some (ticket_of lent) (ticket_of d) (sym is ∙ at))

module _ (old new : Running) (p : Pieced) (lent : Lent) (id : ℕ) (out : ticket_at old.machine.tickets p.job.ticket ≡ Some (ticket_of lent)) (of : lent.version ≡ id)
    (is : new ≡ after old (s.Return p.job.ticket)) where
  -- the version is not live
  pub stale : is_some (version_at old.machine.versions id) ≡ false → IsGiven old new p (g.Stale id)
  stale gone = (ticket_of lent, out, of, one (version_at old.machine.versions id) gone, is)
    where
      one : (o : Option Version) → is_some o ≡ false → o ≡ None
      one None gone = refl
      one (Some v) gone = absurd (cc)

  -- it is, and the job is not what was lent
  pub differs : new.machine ≡ without_ticket old.machine p.job.ticket → is_some (version_at old.machine.versions id) ≡ true → ¬ IsCarried old p.job
      → IsGiven old new p (g.Differs lent p)
  differs left live other = one (version_at old.machine.versions id) refl live
    where
      one : (o : Option Version) → version_at old.machine.versions id ≡ o → is_some o ≡ true → IsGiven old new p (g.Differs lent p)
      one None at there = absurd (cc)
      one (Some v) at there =
          let found : version_at old.machine.versions (ticket_of lent).version ≡ Some v = ap (version_at old.machine.versions) of ∙ at in (
            ticket_of lent,
            v,
            record { out = out; live = found },
            λ carries. other (ticket_of lent, v, out, found, carries),
            refl,
            refl,
            is,
            left,
          )
