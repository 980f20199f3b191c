use Rattle.std.proofs.lemmas.List.{length-map}
use Rattle.sp_group.specs.Seen.{seen, seen_version}
use Rattle.sp_emit.proofs.StateTexts.{begun, head_pushed}
use Rattle.sp_emit.proofs.state.head_line.Goals as goal

pub returns : goal.returns
returns c =
    head_pushed (seen c.args.state.now) _ _ _ _ _ _ (begun _ _ _ c.in_ok-out.ensures.bytes c.in_ok-write.ensures.bytes) c.in_ok-push_truth.ensures.text
    (rw (length-map c.args.state.now.versions seen_version) c.in_ok-push_counts.ensures)
    c.in_ok-push_str.ensures.bytes c.in_ok-push_numbers.ensures.text c.in_ok-push_str-2.ensures.bytes
