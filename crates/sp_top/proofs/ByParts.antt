-- The driving of an input's parts, as the writing of the lines of the input.
use Rattle.std.proofs.Common.{◌≡◌, ◌≢◌, ℕ, List, Ok, Err, refl, sym, ◌∙◌}
use Rattle.std.specs.Prelude.{Result}
use Rattle.std.specs.declared.alloc.AllocError.{AllocError}
use Rattle.sp_io.specs.Outside.{SinkState, Rose}
use Rattle.sp_io.proofs.Grew.{grew_whole}
use Rattle.sp_plan.specs.declared.event.Event.{Event}
use Rattle.sp_plan.specs.declared.found.Match.{Match}
use Rattle.sp_plan.specs.declared.plan.Plan.{Plan}
use Rattle.sp_plan.specs.Compiled.{IsCompiled}
use Rattle.sp_plan.specs.Lines.{text}
use Rattle.sp_plan.specs.Sequential.{whole}
use Rattle.sp_ports.specs.Giving.{AreGood}
use Rattle.sp_ports.specs.Stopping.{is_end}
use Rattle.sp_ports.specs.Taking.{Took, TookFirst}
use Rattle.sp_ports.specs.declared.stop.Stop.{Stop}
use Rattle.sp_split.specs.Driving.{FailedWithin}
use Rattle.sp_split.specs.declared.ended.Why.{Why}
use Rattle.sp_split.specs.declared.ended.Why.TheVariants as why
use Rattle.sp_parts.specs.Laws.{PartsFallApart}
use Rattle.sp_parts.specs.Parts.{Part, parts_of}
use Rattle.sp_parts.specs.Shifted.{shifted_all}
use Rattle.sp_answer.specs.Written.{WritesText}
use Rattle.sp_answer.specs.declared.written.Written.{Written}
use Rattle.sp_answer.specs.declared.written.Written.TheVariants.{All, Failed}
use Rattle.sp_top.specs.RunEnds.{written_by}
use Rattle.sp_top.proofs.Driven.{outlet, failed_some, failed_within, first_within}

-- the matches of the parts are those of the input, also by a plan that is the same
pub matches_are : PartsFallApart → (q p : Plan) → p ≡ q → IsCompiled q → (events : List Event) → AreGood q events → (stop : Stop) (parts : List Part) → parts ≡ parts_of q events (is_end stop)
    → shifted_all p parts ≡ (whole q events (is_end stop)).matches
matches_are law q p same compiled events good stop parts are =
    (λ i. shifted_all (same i) (are i)) ∙ sym (law q events (is_end stop) compiled.windowed good.good.0 good.good.1)

module _ (q : Plan) (matches : List Match) (old new : SinkState) (t u : ℕ) where
  abbrev Writes : Result Written AllocError → Type 0
  Writes = WritesText (text q matches) old new

  all_written : Took q matches (outlet old t) (outlet new u) → new.faults ≡ old.faults → Writes (Ok All)
  all_written took quiet = record {
    all = λ _. took.lines;
    within = grew_whole old.held new.held (text q matches) took.lines;
    failed = λ e. absurd (cc e);
    not_failed = λ _. quiet;
  }

  part_written : FailedWithin q matches (outlet old t) (outlet new u) → Rose old.faults new.faults → Writes (Ok Failed)
  part_written failed rose = record {
    all = λ e. absurd (cc e);
    within = failed_within q matches (outlet old t) (outlet new u) failed;
    failed = λ _. (rose, failed_some q matches (outlet old t) (outlet new u) failed);
    not_failed = λ other. absurd (other refl);
  }

  -- by why it ended
  driven : (w : Why) → (w ≢ why.Refused → Took q matches (outlet old t) (outlet new u)) → (w ≢ why.Refused → new.faults ≡ old.faults)
      → (w ≡ why.Refused → FailedWithin q matches (outlet old t) (outlet new u)) → (w ≡ why.Refused → Rose old.faults new.faults) → Writes (Ok (written_by w))
  driven why.Whole took quiet failed rose = all_written (took (λ e. cc)) (quiet (λ e. cc))
  driven (why.Stopped reason) took quiet failed rose = all_written (took (λ e. cc)) (quiet (λ e. cc))
  driven why.Refused took quiet failed rose = part_written (failed refl) (rose refl)
  driven why.Memory took quiet failed rose = all_written (took (λ e. cc)) (quiet (λ e. cc))

  -- memory ran out
  short : (e : AllocError) → TookFirst q matches (outlet old t) (outlet new u) → new.faults ≡ old.faults → Writes (Err e)
  short e took quiet = record {
    all = λ is. absurd (cc is);
    within = first_within q matches (outlet old t) (outlet new u) took;
    failed = λ is. absurd (cc is);
    not_failed = λ _. quiet;
  }

  -- the same of a sink as it stands then
  module _ (after : SinkState) (stands : new ≡ after) where
    pub ran_whole : (w : Why) (r : Written) → r ≡ written_by w → (w ≢ why.Refused → Took q matches (outlet old t) (outlet new u)) → (w ≢ why.Refused → new.faults ≡ old.faults)
        → (w ≡ why.Refused → FailedWithin q matches (outlet old t) (outlet new u)) → (w ≡ why.Refused → Rose old.faults new.faults) → WritesText (text q matches) old after (Ok r)
    ran_whole w r is = rw (sym stands, is) (driven w)

    pub ran_short : (e : AllocError) → TookFirst q matches (outlet old t) (outlet new u) → new.faults ≡ old.faults → WritesText (text q matches) old after (Err e)
    ran_short e = rw (sym stands) (short e)
