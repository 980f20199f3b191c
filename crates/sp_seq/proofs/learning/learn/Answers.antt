use Rattle.std.proofs.Common.{◌≡◌, ℕ, ◌+◌, [], ◌∷◌, ◌++◌, length, get_or, sym, subst, ◌∙◌}
use Rattle.std.proofs.lemmas.List.{length_push}
use Rattle.sp_plan.specs.declared.event.Event.{Event}
use Rattle.sp_match.specs.public.Known.{IsKnown}
use Rattle.sp_seq.specs.Learned.{AllKnown}
use Rattle.sp_seq.proofs.MoreIsKnown.{known_more}
use Rattle.sp_seq.proofs.learning.learn.Goals as goal

pub loop-place-preserved : goal.loop-place-preserved
loop-place-preserved c =
    let q = c.args.plan.now in
    let events = c.args.events.now in
    let known = c.loop-place.known.items in
    let one = c.known_at.result in
    let is : c.push.new.self.items ≡ known ++ one ∷ [] = c.in_ok-push.ensures.items in
    let so : (e : Event) → IsKnown q (get_or events (length known) e) one = λ e. subst (λ (n : ℕ). IsKnown q (get_or events n e) one) (sym c.loop-place.invariant.size) (c.known_at.ensures e) in
    record {
      known = subst (AllKnown q events) (sym is) (known_more q events known one c.loop-place.invariant.known so);
      size = (λ i. length (is i)) ∙ length_push known one ∙ (λ i. c.loop-place.invariant.size i + 1);
    }
