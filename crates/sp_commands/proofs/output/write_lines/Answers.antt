use Rattle.std.proofs.Common.{ℕ, List, ◌++◌, refl, ap, subst, ◌∙◌, arith}
use Rattle.std.proofs.lemmas.Grind.{common_steps}
use Rattle.sp_io.specs.Outside.{Grew, Rose}
use Rattle.sp_plan.specs.Lines.{line, text}
use Rattle.sp_io.proofs.Grew.{grew_whole}
use Rattle.sp_answer.proofs.Writing.{out_of_memory}
use Rattle.sp_commands.proofs.LinesOf.{within_so_far, within_line, grew_line, not_empty}
use Rattle.sp_commands.proofs.output.write_lines.Goals as goal

pub returns-in_err-push_match_line : goal.returns-in_err-push_match_line
returns-in_err-push_match_line g c =
    let within = within_so_far (line c.args.plan.now) c.args.matches.now c.loop-found.found-index _ _ c.loop-found.invariant.grew in
    out_of_memory _ _ _ _ c.from_residual.ensures.0 within c.loop-found.invariant.faults

pub returns-in-Err : goal.returns-in-Err
returns-in-Err g c =
    let q = c.args.plan.now in
    let ms = c.args.matches.now in
    let i = c.loop-found.found-index in
    record {
      all = λ e. cc;
      within = within_line (line q) ms i c.found-item.result (omega arith) c.found-item.is _ _ _ _ (c.as_bytes.ensures.value ∙ c.in_ok-push_match_line.ensures.line ∙ ap (λ (l : List ℕ). l ++ line c.args.plan.now c.found-item.result) c.clear.ensures.bytes) c.loop-found.invariant.grew c.in-Err.ensures.err;
      failed = λ e. (subst (λ (n : ℕ). Rose n (g.K.Sink.state c.write_all.new.self).faults) c.loop-found.invariant.faults c.in-Err.ensures.fault, not_empty (line q) ms i c.found-item.result (omega arith) c.found-item.is (λ none. cc));
      not_failed = λ other. absurd (other refl);
    }

pub loop-found-preserved : goal.loop-found-preserved
loop-found-preserved g c = record {
  grew = grew_line (line c.args.plan.now) c.args.matches.now c.loop-found.found-index c.found-item.result (omega arith) c.found-item.is _ _ _ _ (c.as_bytes.ensures.value ∙ c.in_ok-push_match_line.ensures.line ∙ ap (λ (l : List ℕ). l ++ line c.args.plan.now c.found-item.result) c.clear.ensures.bytes) c.loop-found.invariant.grew c.in-Ok.ensures.ok;
  faults = c.in-Ok.ensures.no_fault ∙ c.loop-found.invariant.faults;
}

pub returns : goal.returns
returns g c =
    let all : Grew (g.K.Sink.state c.args.out.now).held (text c.args.plan.now c.args.matches.now) (g.K.Sink.state c.loop-found.out).held = grind (arith, common_steps) in
    record {
      all = λ e. all;
      within = grew_whole _ _ _ all;
      failed = λ e. cc;
      not_failed = λ other. c.loop-found.invariant.faults;
    }
