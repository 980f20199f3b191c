use Rattle.std.proofs.Common.{◌≡◌, ℕ, ℤ, List, [], ◌∷◌, true, false, Bool, length, sym, ◌∙◌, ap, subst, refl, None, Some, Option, rules, to_z, of_z, w64}
use Rattle.std.specs.Prelude.{◌||◌}
use Rattle.std.specs.BTreeMap.{values}
use Rattle.std.proofs.lemmas.Int.{to_z-of_z}
use Rattle.sp_plan.specs.declared.event.Event.{Event}
use Rattle.sp_slack.specs.HeldBack.{before, is_up_to, first_held}
use Rattle.sp_slack.specs.Waiting.{held_in}
use Rattle.sp_slack.specs.Standing.{kept_of, Stands, all_given}
use Rattle.sp_slack.proofs.Keeping.{all_none, all_before, next_given, next_stands}
use Rattle.sp_slack.proofs.Merging.{none_held, first_time}
use Rattle.sp_slack.proofs.slack.Slack.next.Goals as goal
use Rattle.sp_slack.proofs.slack.Slack.next.Goals.{else-not-self-via-then-not-self+else-not-reaches, else-not-self-via-else-not-self}

pub returns-in_err-first-clause-none : goal.returns-in_err-first-clause-none
returns-in_err-first-clause-none c = λ events given stands is.
    let w = c.args.self.now.waiting in
    all_none (kept_of c.args.self.now) events given stands (none_held w.line.items (values w.behind) (sym c.in_err-first.ensures))

pub returns-then-not-reaches-clause-none : goal.returns-then-not-reaches-clause-none
returns-then-not-reaches-clause-none c = λ events given stands is. by events given stands (held_in c.args.self.now.waiting) refl
  where
    by : (events : List Event) (given : ℕ) → Stands (kept_of c.args.self.now) events given → (held : List Event) → held_in c.args.self.now.waiting ≡ held → length (all_given (kept_of c.args.self.now) events) ≡ given
    by events given stands [] held = all_none (kept_of c.args.self.now) events given stands held
    by events given stands (e ∷ rest) held =
        let s = c.args.self.now in
        let f = c.in_ok-first.first in
        let same : to_z w64 (of_z w64 f.time) ≡ f.time = search (rules, to_z-of_z) in
        let time : e.time ≡ f.time = first_time s.waiting.line.items (values s.waiting.behind) f e rest (sym c.in_ok-first.ensures) s.waiting.rising held in
        let not_yet : (s.ended || is_up_to (before s.slack s.waiting.greatest) e) ≡ false = rw c.if-not-self.true (sym (c.if-not-reaches.ensures e (time ∙ sym same))) in
        all_before (kept_of s) events given stands e rest held not_yet

pub returns-clause-event : goal.returns-clause-event
returns-clause-event c = λ events given stands e is.
    let s = c.args.self.now in
    let k = kept_of s in
    let f = c.in_ok-first.first in
    let rest : List Event = held_in c.take.new.self in
    let held : held_in s.waiting ≡ e ∷ rest = c.take.ensures.taken e is in
    let same : to_z w64 (of_z w64 f.time) ≡ f.time = search (rules, to_z-of_z) in
    let time : e.time ≡ f.time = first_time s.waiting.line.items (values s.waiting.behind) f e rest (sym c.in_ok-first.ensures) s.waiting.rising held in
    let ready : (s.ended || is_up_to (before s.slack s.waiting.greatest) e) ≡ true = elim c.else-not-self.branch [
      | else-not-self-via-then-not-self+else-not-reaches w ↦ rw w.if-not-self.true (sym (w.reaches.ensures e (time ∙ sym same)) ∙ w.if-not-reaches.false)
      | else-not-self-via-else-not-self w ↦ rw w.if-not-self.false refl
    ] in
    (next_given k events given stands e rest held ready, next_stands k events given stands e rest held ready _ (ap (λ (t : Option ℤ). record k { held = rest; greatest = t }) c.take.ensures.greatest))
