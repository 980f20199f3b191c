use Rattle.std.proofs.Common.{◌≡◌, ℕ, sym, ◌∙◌, Some, subst}
use Rattle.std.specs.Arc.{arc_value}
use Rattle.sp_core.specs.Benched.{answered}
use Rattle.sp_trace.specs.Traced.{Tracing, answer_lines, machine_step, step_lines}
use Rattle.sp_trace.specs.Keeping.{IsTracing, tracing}
use Rattle.sp_trace.proofs.Going.{can_take, kept_on, told}
use Rattle.sp_trace.proofs.tracer.Tracer.take.Goals as goal

pub step-requires : goal.step-requires
step-requires c =
    let q = arc_value c.self.inside.plan in
    let is : machine_step (tracing q c.self.inside.events.items c.self.inside.bench) c.args.step.now ≡ Some c.in-Some.own =
    subst (λ (g : Tracing). machine_step g c.args.step.now ≡ Some c.in-Some.own) (sym c.self.view_is) (sym c.in_ok-own.ensures ∙ c.in-Some.is) in
    can_take q c.self.inside.events.items c.self.inside.fed c.self.inside.bench c.self.invariant c.args.step.now c.in-Some.own c.requires.can_stand is

pub invariant_of-self-2 : goal.invariant_of-self-2
invariant_of-self-2 c =
    let q = arc_value c.self.inside.plan in
    let is : machine_step (tracing q c.self.inside.events.items c.self.inside.bench) c.args.step.now ≡ Some c.in-Some.own =
    subst (λ (g : Tracing). machine_step g c.args.step.now ≡ Some c.in-Some.own) (sym c.self.view_is) (sym c.in_ok-own.ensures ∙ c.in-Some.is) in
    subst (λ (n : ℕ). IsTracing q c.self.inside.events.items n c.step.new.self) (sym c.fed_after-self-inside.ensures)
    (kept_on q c.self.inside.events.items c.self.inside.fed c.self.inside.bench c.self.invariant c.args.step.now c.in-Some.own c.in_ok-answer.answer c.step.new.self is
    c.in_ok-answer.ensures.done c.in_ok-answer.ensures.answer)

pub returns-clause-lines : goal.returns-clause-lines
returns-clause-lines c =
    let q = arc_value c.self.inside.plan in
    let is : machine_step (tracing q c.self.inside.events.items c.self.inside.bench) c.args.step.now ≡ Some c.in-Some.own =
    subst (λ (g : Tracing). machine_step g c.args.step.now ≡ Some c.in-Some.own) (sym c.self.view_is) (sym c.in_ok-own.ensures ∙ c.in-Some.is) in
    subst (λ (g : Tracing). answer_lines g.plan c.args.step.now (answered c.in_ok-answer.answer) ≡ step_lines g c.args.step.now (machine_step g c.args.step.now)) c.self.view_is
    (told q c.self.inside.events.items c.self.inside.fed c.self.inside.bench c.self.invariant c.args.step.now c.in-Some.own c.in_ok-answer.answer c.step.new.self is
    c.in_ok-answer.ensures.done c.in_ok-answer.ensures.answer)
