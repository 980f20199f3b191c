use Rattle.std.proofs.Common.{◌≡◌, ◌-◌, List, ap, length, sym, subst, ◌∙◌, Some, slice_get, arith}
use Rattle.sp_match.specs.declared.known.Known.{Known}
use Rattle.sp_match.specs.public.Matching.{Matching}
use Rattle.sp_piece.specs.Keeping.{PassesBy, TellsOn, current, wanted_where}
use Rattle.sp_wants.specs.Stretches.{repeated}
use Rattle.sp_piece.proofs.Kept.{as_many}
use Rattle.sp_piece.proofs.Quiet.{kept_quiet}
use Rattle.sp_piece.proofs.Wants.{of_wants}
use Rattle.sp_piece.proofs.reading.read_some.Goals as goal

pub quiet_to-quiet-requires-clause-within : goal.quiet_to-quiet-requires-clause-within
quiet_to-quiet-requires-clause-within c =
    let job = c.args.job.now in
    let long : length c.as_slice.result.now ≡ length job.events = ap length c.as_slice.ensures ∙ as_many job.before.plan job.events job.known job.lendable.known_are in
    let within = c.requires.within in
    omega (arith, within, long)

pub returns-clause-kept : goal.returns-clause-kept
returns-clause-kept c =
    let job = c.args.job.now in
    let read = c.args.read.now in
    let quiet = c.quiet_to-quiet.result in
    let list = c.args.telling.now.entries in
    let more = c.add_wanted.new.telling.entries in
    let same : c.led-so_far.result.now ≡ current c.args.matcher.now job.before = c.led-so_far.ensures ∙ ap (λ (m : Matching). current c.args.matcher.now m) c.get.ensures in
    let end = c.quiet_to-quiet.ensures.end in
    let within = c.requires.within in
    kept_quiet job read quiet c.args.matcher.now list more c.requires.kept c.quiet_to-quiet.ensures.from (omega (arith, end, within))
    (λ i low high. c.requires.shown i low (omega (arith, end, high)))
    (λ i k low high at. subst (λ (m : Matching). PassesBy m k) same
    (c.quiet_to-quiet.ensures.quiet i k low high (subst (λ (ks : List Known). slice_get ks i ≡ Some k) (sym c.as_slice.ensures) at)))
    (subst (λ (m : Matching). TellsOn (of_wants (repeated (quiet - read) (wanted_where job.wants m))) list more) same c.in_ok-add_wanted.ensures.ok)
