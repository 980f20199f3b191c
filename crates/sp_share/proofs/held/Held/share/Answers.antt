use Rattle.std.proofs.Common.{◌≡◌, ◌∙◌, ap, subst, sym}
use Rattle.std.specs.Arc.{arc_value}
use Rattle.std.specs.Option.{IfSome, is_some}
use Rattle.std.proofs.lemmas.Option.{IfSome_then}
use Rattle.sp_match.specs.public.Matching.{Matching}
use Rattle.sp_share.specs.Sharing.{IsBeside, IsFresh}
use Rattle.sp_share.proofs.Lending.{own_is}
use Rattle.sp_share.proofs.held.Held.share.Goals as goal

pub invariant_of-self : goal.invariant_of-self
invariant_of-self c =
    let h = c.self.inside in
    let own : c.args.self.now ≡ h.matcher = sym c.self.view_is ∙ own_is h.matcher h.handle (ap is_some c.in_default.is) in
    let fresh : c.replace-own.new.dest ≡ c.args.fresh.now = c.replace-own.ensures.after ∙ c.in_ok-fresh.ensures in
    let lent : arc_value c.in-Ok.handle ≡ c.args.self.now = c.in-Ok.ensures.ok ∙ c.replace-own.ensures.value ∙ sym own in (
      subst (λ (m : Matching). IsFresh m (arc_value c.in-Ok.handle)) (sym fresh) (subst (IsFresh c.args.fresh.now) (sym lent) c.requires),
      IfSome_then h.rooms c.self.invariant.1 (λ rooms same. same ∙ ap (λ (m : Matching). m.plan) (sym own) ∙ sym c.requires.plan ∙ ap (λ (m : Matching). m.plan) (sym fresh)),
    )

-- the matcher is put back
pub invariant_of-self-in-Err : goal.invariant_of-self-in-Err
invariant_of-self-in-Err c =
    let h = c.self.inside in
    subst (λ (m : Matching). IsBeside m h.handle × IfSome h.rooms (λ rooms. rooms.value.matcher.plan ≡ m.plan)) (sym (c.in-Err.ensures.value_returned ∙ c.replace-own.ensures.value)) c.self.invariant
