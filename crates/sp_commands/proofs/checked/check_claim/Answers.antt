use Rattle.std.proofs.Common.{◌≡◌, ℕ, List, [], true, false, map, refl, subst, rules}
use Rattle.std.specs.Arc.{arc_value}
use Rattle.sp_plan.specs.declared.event.Event.{Event}
use Rattle.sp_plan.specs.declared.plan.Plan.{Plan}
use Rattle.sp_listing.specs.declared.proof.WindowProof.{WindowProof}
use Rattle.sp_listing.specs.Listing.{seen}
use Rattle.sp_cert.specs.Proofs.{proofs}
use Rattle.sp_cert.specs.Verdicts.{DiffersFirst}
use Rattle.sp_ports.specs.Stopping.{is_end}
use Rattle.sp_intake.proofs.Gave.{gave_none}
use Rattle.sp_answer.specs.Outcome.{ending, nothing_for, outcome}
use Rattle.sp_answer.specs.Ran.{Outside, outside, Ran}
use Rattle.sp_answer.specs.Written.{WritesText}
use Rattle.sp_answer.specs.declared.status.Status.TheVariants.{Memory, ListingWindow}
use Rattle.sp_io.proofs.Grew.{grew_none}
use Rattle.sp_commands.specs.Check.{yes_line, stopped, right, IsPlanCheck}
use Rattle.sp_commands.specs.Ends.{came}
use Rattle.sp_commands.specs.Given.{came_of}
use Rattle.sp_commands.proofs.Came.{came_open}
use Rattle.sp_commands.proofs.Checking.{no_further_check, unchecked, told, comes_to, told_wrong}
use Rattle.sp_commands.proofs.Running.{none_in_time, all_written, written}
use Rattle.sp_commands.proofs.checked.check_claim.Goals as goal

pub returns-in_default : goal.returns-in_default
returns-in_default g c =
    let claim = c.args.claim in
    let entries = map seen claim.entries.items in
    let old : Outside = outside (g.S.Source.state c.args.input.now) (g.K.Sink.state c.args.out.now) in
    unchecked claim.plan entries old old [] (gave_none old.input.left) (none_in_time (came claim.plan) (came_open claim.plan [] refl)) refl

pub returns-in_default-in_time : goal.returns-in_default-in_time
returns-in_default-in_time g c =
    let p = arc_value c.in-Ok.plan in
    let entries = map seen c.args.claim.entries.items in
    let brings = c.in_time.ensures in
    let old : Outside = outside (g.S.Source.state c.args.input.now) (g.K.Sink.state c.args.out.now) in
    let new : Outside = outside (g.S.Source.state c.in_time.new.input) (g.K.Sink.state c.args.out.now) in
    subst (λ (q : Plan). Ran (IsPlanCheck q entries) old new (ending Memory)) c.in-Ok.ensures (unchecked p entries old new brings.taken brings.gave brings.no_further refl)

pub returns-then-not-is_end : goal.returns-then-not-is_end
returns-then-not-is_end g c =
    let p = arc_value c.in-Ok.plan in
    let entries = map seen c.args.claim.entries.items in
    let given = c.in-Ok-in_time.given in
    let brings = c.in-Ok-in_time.ensures in
    let old : Outside = outside (g.S.Source.state c.args.input.now) (g.K.Sink.state c.args.out.now) in
    let new : Outside = outside (g.S.Source.state c.in_time.new.input) (g.K.Sink.state c.args.out.now) in
    let early : is_end given.stop ≡ false = search rules in
    subst (λ (q : Plan). Ran (IsPlanCheck q entries) old new (ending given.status)) c.in-Ok.ensures
    (all_written (IsPlanCheck p entries) old new brings.taken brings.gave (no_further_check p entries brings.taken brings.no_further) (came_of given) []
    (comes_to p entries old new brings.taken brings.gave brings.no_further (came_of given) brings.is (nothing_for given.status) (stopped early))
    (told p entries old new brings.taken brings.gave brings.no_further (came_of given) brings.is) given.status brings.fault brings.told refl (grew_none old.out.held) refl)

pub returns-in-Ok-Yes : goal.returns-in-Ok-Yes
returns-in-Ok-Yes g c =
    let p = arc_value c.in-Ok.plan in
    let entries = map seen c.args.claim.entries.items in
    let given = c.in-Ok-in_time.given in
    let brings = c.in-Ok-in_time.ensures in
    let old : Outside = outside (g.S.Source.state c.args.input.now) (g.K.Sink.state c.args.out.now) in
    let new : Outside = outside (g.S.Source.state c.in_time.new.input) (g.K.Sink.state c.write_yes-written.new.out) in
    let whole : is_end given.stop ≡ true = search rules in
    let same : entries ≡ proofs p given.events.items true = search rules in
    let writes = subst (λ (es : List WindowProof). WritesText (yes_line (map seen es)) old.out new.out c.write_yes-written.result) c.deref-in-Ok-Yes.ensures.value c.write_yes-written.ensures in
    subst (λ (q : Plan). Ran (IsPlanCheck q entries) old new (ending c.written_status.result)) c.in-Ok.ensures
    (written (IsPlanCheck p entries) old new brings.taken brings.gave (no_further_check p entries brings.taken brings.no_further) (came_of given) (yes_line entries)
    (comes_to p entries old new brings.taken brings.gave brings.no_further (came_of given) brings.is (outcome given.status (yes_line entries)) (right whole same))
    (told p entries old new brings.taken brings.gave brings.no_further (came_of given) brings.is) brings.fault brings.told c.write_yes-written.result writes c.written_status.result c.written_status.ensures)

pub returns-in-Ok-No : goal.returns-in-Ok-No
returns-in-Ok-No g c =
    let p = arc_value c.in-Ok.plan in
    let entries = map seen c.args.claim.entries.items in
    let given = c.in-Ok-in_time.given in
    let brings = c.in-Ok-in_time.ensures in
    let old : Outside = outside (g.S.Source.state c.args.input.now) (g.K.Sink.state c.args.out.now) in
    let new : Outside = outside (g.S.Source.state c.in_time.new.input) (g.K.Sink.state c.args.out.now) in
    let whole : is_end given.stop ≡ true = search rules in
    let window : ℕ = c.in-Ok-No.window in
    let first = subst (λ (es : List Event). DiffersFirst (map seen c.deref-2.result.now) (proofs p es true) window) c.deref.ensures.value (c.in-Ok-No.ensures.no window c.in-Ok-No.field-0-is) in
    let differ = subst (λ (es : List WindowProof). DiffersFirst (map seen es) (proofs p given.events.items true) window) c.deref-2.ensures.value first in
    subst (λ (q : Plan). Ran (IsPlanCheck q entries) old new (ending (ListingWindow window))) c.in-Ok.ensures
    (told_wrong p entries old new brings.taken brings.gave brings.no_further (came_of given) brings.is window whole differ brings.told refl)

pub returns : goal.returns
returns g c =
    let p = arc_value c.in-Ok.plan in
    let entries = map seen c.args.claim.entries.items in
    let brings = c.in-Ok-in_time.ensures in
    let old : Outside = outside (g.S.Source.state c.args.input.now) (g.K.Sink.state c.args.out.now) in
    let new : Outside = outside (g.S.Source.state c.in_time.new.input) (g.K.Sink.state c.args.out.now) in
    subst (λ (q : Plan). Ran (IsPlanCheck q entries) old new (ending Memory)) c.in-Ok.ensures (unchecked p entries old new brings.taken brings.gave brings.no_further refl)
