use Rattle.std.proofs.Common.{◌<◌, ◌++◌, List, Option, length, map, ap, sym, ◌∙◌, arith, append-nil}
use Rattle.std.specs.Global.{Vec}
use Rattle.std.specs.List.{filter_map}
use Rattle.std.specs.Option.{option_to_list}
use Rattle.std.proofs.lemmas.List.{take_all}
use Rattle.sp_group.specs.declared.state.VersionLine.{VersionLine}
use Rattle.sp_group.specs.Seen.{seen_version}
use Rattle.sp_core.specs.Printing.{line_at}
use Rattle.sp_core.proofs.Printed.{by_ids, found_more}
use Rattle.sp_core.proofs.state.version_lines.Goals as goal
use Rattle.sp_core.proofs.state.version_lines.Goals.{in-Some+in_ok-push, in_default}

pub loop-id-preserved : goal.loop-id-preserved
loop-id-preserved c =
    let ids = c.deref-id-items.result.now in
    let inside : c.loop-id.id-index < length ids = omega arith in
    let lines = c.loop-id.lines.items in
    let more = λ (after : List VersionLine). found_more c.args.tree.now ids c.loop-id.id-index lines after c.in_ok-line.field-0 inside
    c.loop-id.invariant c.in_ok-line.ensures in
    let with_line = λ (o : Option VersionLine). lines ++ option_to_list o in
    elim c.match-branch-4.branch [
      | in-Some+in_ok-push w ↦ more _ (ap (λ (v : Vec VersionLine). v.items) w.lines-is ∙ w.in_ok-push.ensures.items ∙ ap with_line (sym w.in-Some.is))
      | in_default w ↦ more _ (ap (λ (v : Vec VersionLine). v.items) w.lines-is ∙ sym (append-nil lines) ∙ ap with_line (sym w.in_default.is))
    ]

pub returns : goal.returns
returns c =
    let ids = take_all c.loop-id.id-index c.deref-id-items.result.now (omega arith) ∙ c.deref-id-items.ensures.value ∙ c.in_ok-ids.ensures in
    ap (map seen_version) c.of.ensures ∙ c.loop-id.invariant ∙ ap (filter_map (line_at c.args.tree.now)) ids
    ∙ by_ids c.args.tree.now c.live.ensures.grown.fall
