use Rattle.std.proofs.Common.{◌<◌, ◌++◌, length, ℕ, ◌∙◌, ap, sym, arith, append-nil, List, subst}
use Rattle.std.specs.List.{All}
use Rattle.std.proofs.lemmas.List.{take_all}
use Rattle.std.proofs.lemmas.List.Elements.{All-nil}
use Rattle.sp_plan.specs.declared.found.Match.{Match}
use Rattle.sp_plan.specs.Lines.{text}
use Rattle.sp_emit.specs.Matches.{Binds}
use Rattle.sp_listing.specs.Listing.{IsMatch, head_line, seen}
use Rattle.sp_listing.proofs.Written.{one_more, matches_more}
use Rattle.sp_listing.proofs.write.proof_text.Goals as goal

pub loop-found-init : goal.loop-found-init
loop-found-init c =
    let head = head_line (seen c.args.proof.now) in
    record {
      text = c.in_ok-push_head.ensures.line ∙ ap (λ (l : List ℕ). l ++ head) c.in_ok-out.ensures.bytes ∙ sym (append-nil head);
      numbers = c.in_ok-push_head.ensures.held;
      matches = λ binds. All-nil (IsMatch c.args.plan.now);
    }

pub loop-found-preserved : goal.loop-found-preserved
loop-found-preserved c =
    let inside : c.loop-found.found-index < length c.deref-found-items.result.now = omega arith in
    record {
      text = one_more c.args.plan.now _ _ _ inside c.found-item.is (head_line (seen c.args.proof.now)) _ _ c.loop-found.invariant.text c.in_ok-push_match_line.ensures.line;
      numbers = c.loop-found.invariant.numbers;
      matches = matches_more c.args.plan.now _ _ _ inside c.found-item.is c.loop-found.invariant.matches c.in_ok-push_match_line.ensures.back;
    }

pub returns-clause-text : goal.returns-clause-text
returns-clause-text c =
    let whole = take_all c.loop-found.found-index c.deref-found-items.result.now (omega arith) ∙ c.deref-found-items.ensures.value in
    c.loop-found.invariant.text ∙ ap (λ (ms : List Match). head_line (seen c.args.proof.now) ++ text c.args.plan.now ms) whole

pub returns-clause-back : goal.returns-clause-back
returns-clause-back c = λ binds.
    let items = c.deref-found-items.ensures.value in
    let whole = take_all c.loop-found.found-index c.deref-found-items.result.now (omega arith) ∙ items in
    record {
      numbers = c.loop-found.invariant.numbers;
      matches = subst (λ (ms : List Match). All (IsMatch c.args.plan.now) ms) whole
          (c.loop-found.invariant.matches (subst (λ (ms : List Match). All (Binds c.args.plan.now) ms) (sym items) binds));
    }
