use Rattle.sp_group.specs.Seen.{seen_version}
use Rattle.sp_emit.proofs.StateTexts.{begun, version_pushed}
use Rattle.sp_emit.proofs.state.version_line.Goals as goal

pub returns : goal.returns
returns c =
    version_pushed (seen_version c.args.version.now) _ _ _ _ _ _ _ _ _ _ _ _ _ (begun _ _ _ c.in_ok-out.ensures.bytes c.in_ok-write.ensures.bytes)
    c.in_ok-push_id.ensures.text c.in_ok-write-2.ensures.bytes c.in_ok-push_label.ensures c.in_ok-write-3.ensures.bytes c.in_ok-push_numbers.ensures.text
    c.in_ok-push_str.ensures.bytes c.in_ok-push_truth.ensures.text c.in_ok-push_str-2.ensures.bytes c.in_ok-push_id-2.ensures.text c.in_ok-push_str-3.ensures.bytes
    c.in_ok-push_groups.ensures c.in_ok-push_str-4.ensures.bytes
