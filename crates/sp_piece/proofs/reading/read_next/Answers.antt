use Rattle.std.proofs.Common.{◌≡◌, ◌+◌, List, length, get_or, Some, slice_get, sym, ◌∙◌, ap, subst, arith}
use Rattle.std.proofs.lemmas.List.{get_or_default}
use Rattle.std.proofs.lemmas.Option.{slice_get_read}
use Rattle.sp_plan.specs.declared.event.Event.{Event}
use Rattle.sp_plan.specs.declared.plan.Plan.{Plan}
use Rattle.sp_plan.specs.Windows.{Numbered}
use Rattle.sp_match.specs.declared.known.Known.{Known}
use Rattle.sp_match.specs.declared.known.Known.TheVariants.{Never}
use Rattle.sp_match.specs.public.Known.{IsKnown}
use Rattle.sp_match.specs.public.Matching.{Matching}
use Rattle.sp_piece.specs.Keeping.{HandledOn, current}
use Rattle.sp_piece.proofs.Kept.{as_many, kept_handled, known_at}
use Rattle.sp_piece.proofs.reading.read_next.Goals as goal

pub bounds-as_slice-place-2 : goal.bounds-as_slice-place-2
bounds-as_slice-place-2 c =
    let job = c.args.job.now in
    let long : length c.as_slice-2.result.now ≡ length job.events = ap length c.as_slice-2.ensures ∙ as_many job.before.plan job.events job.known job.lendable.known_are in
    let within = c.requires.next in
    omega (arith, within, long)

pub handle_event-requires-clause-known : goal.handle_event-requires-clause-known
handle_event-requires-clause-known c =
    let job = c.args.job.now in
    let place = c.args.read.now in
    let e = c.index-as_slice-place.result in
    let k : Known = get_or c.as_slice-2.result.now place Never in
    let within = c.requires.next in
    let long : length job.known ≡ length job.events = as_many job.before.plan job.events job.known job.lendable.known_are in
    let event_is : e ≡ get_or job.events place e = c.index-as_slice-place.is ∙ ap (λ (l : List Event). get_or l place e) c.as_slice.ensures in
    let known_is : k ≡ get_or job.known place k = ap (λ (l : List Known). get_or l place Never) c.as_slice-2.ensures ∙ get_or_default job.known place Never k (omega (arith, within, long)) in
    subst (λ (m : Matching). IsKnown (current c.args.matcher.now m).plan e k) (sym c.get.ensures)
    (subst (λ (q : Plan). IsKnown q e k) (sym c.requires.kept.led.plan) (known_at job.before.plan job.events job.known place e k job.lendable.known_are within event_is known_is))

pub returns-clause-kept : goal.returns-clause-kept
returns-clause-kept c =
    let job = c.args.job.now in
    let place = c.args.read.now in
    let there : slice_get job.events place ≡ Some c.index-as_slice-place.result =
    ap (λ l. slice_get l place) (sym c.as_slice.ensures) ∙ slice_get_read c.as_slice.result.now _ place _ (ap length (sym c.as_slice.ensures)) c.requires.next c.index-as_slice-place.is in
    let x : Numbered = (job.first + place, c.index-as_slice-place.result) in
    let list = c.args.telling.now.entries in
    let more = c.handle_event.new.telling.entries in
    let handled : HandledOn job.wants x (current c.args.matcher.now job.before) (current c.handle_event.new.matcher job.before) list more =
    subst (λ (m : Matching). HandledOn job.wants x (current c.args.matcher.now m) (current c.handle_event.new.matcher m) list more) c.get.ensures c.in_ok-handle_event.ensures.ok in
    kept_handled job place _ _ c.args.matcher.now c.handle_event.new.matcher list more _
    c.requires.kept c.requires.next c.requires.shown there handled
