use Rattle.std.proofs.Common.{◌≡◌, length, sym, ap, ◌∙◌, arith}
use Rattle.std.proofs.lemmas.List.{length-map}
use Rattle.sp_group.specs.Steps.{is_busy}
use Rattle.sp_core.specs.Holding.{version_of}
use Rattle.sp_splitter.proofs.Busy.{few_pass, ready_counted}
use Rattle.sp_splitter.proofs.counting.count_busy.Goals as goal

pub overflow_add-result : goal.overflow_add-result
overflow_add-result c =
    let core = c.args.core.now in
    let parts = c.known_of.ensures.lawful.busy.parts in
    let ready = ap length c.in_ok-ready.ensures ∙ ready_counted core.plan core.bound core.machine in
    let few = few_pass (is_busy core.plan core.bound core.machine) core.machine.versions in
    let entries = length-map c.tree.result.now.entries version_of in
    let all : length c.args.core.now.machine.versions ≡ length c.tree.result.now.entries = ap length (sym c.tree.ensures.versions) ∙ entries in
    let out = c.in_ok-out.ensures ∙ c.known_of.ensures.lawful.out.versions in
    omega (arith, parts, ready, few, all, out, c.live.ensures.live)

pub returns : goal.returns
returns c =
    let core = c.args.core.now in
    let parts = c.known_of.ensures.lawful.busy.parts in
    let ready = ap length c.in_ok-ready.ensures ∙ ready_counted core.plan core.bound core.machine in
    let out = c.in_ok-out.ensures ∙ c.known_of.ensures.lawful.out.versions in
    omega (arith, parts, ready, out)
