use Rattle.std.proofs.Common.{ℕ, ◌<◌, length, List, Option, get_or, take, ap, subst, sym, ◌∙◌, arith}
use Rattle.std.specs.Prelude.{IfSome}
use Rattle.std.specs.Global.{Vec}
use Rattle.std.specs.List.{All}
use Rattle.std.proofs.lemmas.List.{take_all}
use Rattle.sp_splitter.specs.Rolling.{IsOfWindow}
use Rattle.sp_splitter.proofs.ToRoll.{listed_passed, listed_pushed, walked_listed, windows_pushed}
use Rattle.sp_splitter.proofs.rolling.in_conflict.Goals as goal
use Rattle.sp_splitter.proofs.rolling.in_conflict.Goals.{in-Some+in_ok-push, in_default}

pub loop-id-preserved : goal.loop-id-preserved
loop-id-preserved c =
    let q = c.args.core.now.plan in
    let m = c.args.core.now.machine in
    let ids = c.deref-id-items.result.now in
    let i = c.loop-id.id-index in
    let found = c.loop-id.found.items in
    let after = c.match-branch-3.found.items in
    let inside : i < length ids = omega arith in
    elim c.match-branch-3.branch [
      | in-Some+in_ok-push w ↦
          let is = ap (λ (v : Vec (ℕ × ℕ)). v.items) w.found-is ∙ w.in_ok-push.ensures.items in
          let of = subst (λ (o : Option ℕ). IfSome o (λ number. IsOfWindow q m (number, get_or ids i 0))) w.in-Some.is c.in_ok-window.ensures.window in
          record {
            listed = listed_pushed q m found after ids i w.in-Some.window inside is of c.loop-id.invariant.listed;
            windows = windows_pushed q m found after (w.in-Some.window, get_or ids i 0) is of c.loop-id.invariant.windows;
          }
      | in_default w ↦
          let is = ap (λ (v : Vec (ℕ × ℕ)). v.items) w.found-is in
          record {
            listed = listed_passed q m found after ids i inside is (c.in_ok-window.ensures.calm w.in_default.is) c.loop-id.invariant.listed;
            windows = subst (λ (l : List (ℕ × ℕ)). All (IsOfWindow q m) l) (sym is) c.loop-id.invariant.windows;
          }
    ]

pub returns : goal.returns
returns c =
    let core = c.args.core.now in
    let found = c.loop-id.found.items in
    let ids = take_all c.loop-id.id-index c.deref-id-items.result.now (omega arith) ∙ c.deref-id-items.ensures.value ∙ c.in_ok-ids.ensures in
    walked_listed core c.tree.result.now (take c.loop-id.id-index c.deref-id-items.result.now) found c.tree.ensures ids c.loop-id.invariant.listed c.loop-id.invariant.windows
