use Rattle.std.proofs.Common.{◌≡◌, ℕ, ◌+◌, ◌||◌, not, List, [], ◌∷◌, ◌++◌, length, sym, ap, subst, ◌∙◌}
use Rattle.std.specs.Prelude.{filter}
use Rattle.sp_base.specs.Numbers.{is_among}
use Rattle.sp_plan.specs.Runs.{completed, holds_one, used}
use Rattle.sp_scan.specs.declared.found.Found.{Found}
use Rattle.sp_scan.specs.declared.run.Run as own
use Rattle.sp_scan.specs.Scanning.{found_of}
use Rattle.sp_scan.specs.inside.Shown.{ShowsTurns}
use Rattle.sp_scan.proofs.SplitLists.{front_there, read_there, removed_there, rest_there}
use Rattle.sp_scan.proofs.TurnsShow.{is_apart, shows_completed}
use Rattle.sp_scan.proofs.turns.Turns.complete.Goals as goal

pub returns : goal.returns
returns c = λ kept rest run split size.
    let q = c.args.offer.now.plan.now in
    let next = c.args.offer.now.number + 1 in
    let old = c.args.self.now in
    let at = c.args.at in
    let removed : c.remove-run.new.self.items ≡ kept ++ rest = c.remove-run.ensures.items ∙ removed_there old.runs.items kept rest run at split size in
    let is_run : c.remove-run.result ≡ run = c.remove-run.ensures.value ∙ read_there old.runs.items kept rest run at split size c.remove-run.result in
    let numbers : c.in_ok-used.used.list ≡ used q run.pairs = c.in_ok-used.ensures ∙ ap (λ (r : own.Run). used q r.pairs) is_run in
    let front = front_there c.remove-run.new.self.items kept rest at removed size in
    let found : record { bound = c.of.result; used = c.of-2.result } ≡ found_of q run.pairs =
    (λ i. record { bound = (c.of.ensures ∙ c.in_ok-bound.ensures) i; used = (c.of-2.ensures ∙ c.in_ok-used.ensures) i }) ∙ ap (λ (r : own.Run). found_of q r.pairs) is_run in
    let more : (i : ℕ) → is_among c.union.new.self.list i ≡ (is_among old.taken.list i || is_among (used q run.pairs) i) = λ i. c.in_ok-union.ensures.members i ∙ ap (λ (u : List ℕ). is_among old.taken.list i || is_among u i) numbers in
    record {
      still = filter (is_apart q run.pairs) kept;
      items_are = c.drop_holders-left.ensures.items ∙ λ i. filter (λ (r : own.Run). not (holds_one (numbers i) r.pairs)) (front i) ++ rest_there c.remove-run.new.self.items kept rest at removed size i;
      left_is = sym (c.drop_holders-left.ensures.left ∙ λ i. length (filter (λ (r : own.Run). not (holds_one (numbers i) r.pairs)) (front i)));
      shown = λ h m before. subst (λ (f : List Found). ShowsTurns q next (completed q h (m, run.pairs)) (filter (is_apart q run.pairs) kept) f c.union.new.self.list)
          (sym (c.in_ok-push.ensures.items ∙ ap (λ (f : Found). old.found.items ++ f ∷ []) found)) (shows_completed q next h kept old.found.items old.taken.list c.union.new.self.list run.pairs m before more);
    }
