use Rattle.std.proofs.Common.{◌≡◌, ◌+◌, ◌++◌, length, ap, ◌∙◌, arith, if◌then◌else◌}
use Rattle.std.specs.Vec.{vec_len}
use Rattle.sp_core.specs.Finishing.{numbered}
use Rattle.sp_core.proofs.Numbering.{length_numbered}
use Rattle.sp_core.proofs.finishing.hand_out.Goals as goal

pub returns : goal.returns
returns c =
    let emitted = c.args.emitted.now in
    let copies = c.number_from-2.new.matches in
    let len = c.len.ensures ∙ emitted.ok.0 in
    let at_most = emitted.ok.1 in
    let many : vec_len copies ≡ length c.args.held.now.copies.items = copies.ok.0 ∙ ap length c.number_from-2.ensures ∙ length_numbered (c.len.result + 1) c.args.held.now.copies.items in
    let needed = c.requires.room in
    let done = c.append.ensures.succeeds (omega arith) in
    let items = c.append.ensures.items ∙ ap (λ b. if b then (emitted.items ++ copies.items) else emitted.items) done in
    let longer = c.append.ensures.len ∙ ap (λ b. if b then (vec_len emitted + vec_len copies) else vec_len emitted) done in
    let capacity = c.append.ensures.capacity in
    record {
      out = ap (λ v. v.items) c.replace.ensures.value ∙ c.number_from.ensures ∙ ap (λ n. numbered (n + 1) c.args.held.now.matches.items) len;
      emitted = items ∙ ap (λ ms. emitted.items ++ ms) c.number_from-2.ensures
          ∙ ap (λ n. emitted.items ++ numbered (n + 1) c.args.held.now.copies.items) len;
      left = omega arith;
      consumed = c.consume.ensures.members;
      rising = c.consume.ensures.rising;
      spare = c.consume.ensures.spare;
    }
