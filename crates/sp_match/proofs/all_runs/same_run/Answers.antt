use Rattle.std.proofs.Common.{◌≡◌, true, false, map, sym, ap, ◌∙◌}
use Rattle.std.specs.Prelude.{IsTrue}
use Rattle.std.specs.List.{zip}
use Rattle.sp_plan.specs.Runs.{Started, bound_events}
use Rattle.sp_match.specs.inside.Kept.{Kept, kept, pair_of, started}
use Rattle.sp_match.proofs.PairsOfRuns.{events_of}
use Rattle.sp_match.proofs.MatcherAfterEvent.{bound_of}
use Rattle.sp_match.proofs.all_runs.same_run.Goals as goal

-- equal runs have equal parts
bound_same : (k m : Kept) → map (λ p. p.0) k.bound ≡ map (λ p. p.0) k.events → map (λ p. p.0) m.bound ≡ map (λ p. p.0) m.events → started k ≡ started m → k.bound ≡ m.bound
bound_same k m own other e =
    bound_of k.bound k.events own ∙ ap (λ (s : Started). map (λ pair. (pair.name, pair.number)) s.1) e ∙ sym (bound_of m.bound m.events other)

events_same : (k m : Kept) → map (λ p. p.0) k.bound ≡ map (λ p. p.0) k.events → map (λ p. p.0) m.bound ≡ map (λ p. p.0) m.events → started k ≡ started m → k.events ≡ m.events
events_same k m own other e =
    sym (events_of k.bound k.events own) ∙ ap (λ (s : Started). bound_events s.1) e ∙ events_of m.bound m.events other

pub returns-then-not-same_bound : goal.returns-then-not-same_bound
returns-then-not-same_bound c =
    let one = kept c.args.one.now in
    let other = kept c.args.other.now in (
      λ f. cc,
      λ e.
          let bound : c.deref.result.now ≡ c.deref-2.result.now = c.deref.ensures.value ∙ bound_same one other c.requires.one.1.same_names c.requires.other.1.same_names e ∙ sym c.deref-2.ensures.value in
          let is : c.same_bound.result ≡ true = c.same_bound.ensures.1 bound in
          let not : c.same_bound.result ≡ false = c.if-not-same_bound.true in
          cc,
    )

pub returns : goal.returns
returns c =
    let one = kept c.args.one.now in
    let other = kept c.args.other.now in
    let number : one.number ≡ other.number = c.if-one-other.false in
    let is : IsTrue c.same_bound.result = c.if-not-same_bound.false in
    let bound : one.bound ≡ other.bound = sym c.deref.ensures.value ∙ c.same_bound.ensures.0 is ∙ c.deref-2.ensures.value in (
      λ t. let events : one.events ≡ other.events = c.same.ensures.0 t in λ i. (number i, map pair_of (zip (bound i) (events i))),
      λ e. c.same.ensures.1 (events_same one other c.requires.one.1.same_names c.requires.other.1.same_names e),
    )
