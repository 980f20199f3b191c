use Rattle.std.proofs.Common.{◌≡◌, ◌<◌, ◌≤◌, ◌++◌, map, length, get_or, set, sym, ap, subst, ◌∙◌, arith}
use Rattle.std.specs.List.{All}
use Rattle.std.proofs.lemmas.List.{map-set, get_or-map, length-map, append_assoc}
use Rattle.std.proofs.lemmas.List.Elements.{All-get_or}
use Rattle.sp_match.specs.inside.Kept.{kept}
use Rattle.sp_match.specs.inside.Good.{Good, Undoes}
use Rattle.sp_match.specs.inside.Effects.{use_told}
use Rattle.sp_match.specs.public.Seen.{seen}
use Rattle.sp_match.proofs.RunsAfterUse.{told_to, after_use_undoes, after_use_more, after_use_at, told_more, all_after_use, all_told}
use Rattle.sp_match.proofs.RunsUndo.{run_stays, undoes_set}
use Rattle.sp_match.proofs.leaving.abandon.Goals as goal

pub leave_with-requires : goal.leave_with-requires
leave_with-requires c =
    let q = c.requires.0 in
    let rs = c.loop-i.runs in
    let i = c.loop-i.i in
    let k = kept (get_or rs i c.index-runs-i.result) in
    let within : i < length rs = omega (arith, c.loop-i.auto.runs, c.loop-i-test.true) in
    let at : k ≡ get_or (map kept rs) i k = sym (get_or-map kept rs i c.index-runs-i.result k within) in
    let good = (after_use_undoes q 0 c.args.used.now.list i (map kept c.args.runs.now) c.requires.1).good in
    (q, subst (Good q) (sym at) (All-get_or (Good q) (map kept rs) i k (omega (arith, within, length-map rs kept)) (subst (All (Good q)) (sym c.loop-i.invariant.runs) good)))

pub returns-in_err-leave_with-clause-undoes : goal.returns-in_err-leave_with-clause-undoes
returns-in_err-leave_with-clause-undoes c = λ q n all_good.
    let rs = c.loop-i.runs in
    let i = c.loop-i.i in
    let k = kept (get_or rs i c.index-runs-i.result) in
    let within : i < length rs = omega (arith, c.loop-i.auto.runs, c.loop-i-test.true) in
    let at : k ≡ get_or (map kept rs) i k = sym (get_or-map kept rs i c.index-runs-i.result k within) in
    let undo : Undoes q n (map kept c.args.runs.now) (map kept rs) = subst (Undoes q n (map kept c.args.runs.now)) (sym c.loop-i.invariant.runs) (after_use_undoes q n c.args.used.now.list i (map kept c.args.runs.now) all_good) in
    let good : Good q k = subst (Good q) (sym at) (All-get_or (Good q) (map kept rs) i k (omega (arith, within, length-map rs kept)) undo.good) in
    subst (Undoes q n (map kept c.args.runs.now)) (sym (map-set kept rs i c.leave_with.new.run ∙ ap (set (map kept rs) i) c.in_err-leave_with.ensures.err))
    (undoes_set q n (map kept c.args.runs.now) (map kept rs) i k k undo at (run_stays q n k good))

pub loop-i-preserved : goal.loop-i-preserved
loop-i-preserved c =
    let rs = c.loop-i.runs in
    let i = c.loop-i.i in
    let ns = c.args.used.now.list in
    let ks = map kept c.args.runs.now in
    let k = kept (get_or rs i c.index-runs-i.result) in
    let within : i < length rs = omega (arith, c.loop-i.auto.runs, c.loop-i-test.true) in
    let inside : i < length ks = omega (arith, c.loop-i-test.true, length-map c.args.runs.now kept) in
    let at : k ≡ get_or (map kept rs) i k = sym (get_or-map kept rs i c.index-runs-i.result k within) in
    record {
      runs = map-set kept rs i c.leave_with.new.run ∙ ap (set (map kept rs) i) c.in_ok-leave_with.ensures.run ∙ after_use_more ns ks (map kept rs) i k inside c.loop-i.invariant.runs at;
      told = c.in_ok-leave_with.ensures.told ∙ ap (λ l. l ++ use_told ns k) c.loop-i.invariant.told ∙ append_assoc (map seen c.args.list.now.items) (told_to ns i ks) (use_told ns k)
          ∙ ap (λ l. map seen c.args.list.now.items ++ l) (sym (told_more ns ks i k inside (after_use_at ns ks (map kept rs) i k inside c.loop-i.invariant.runs at)));
    }

pub returns : goal.returns
returns c =
    let ns = c.args.used.now.list in
    let ks = map kept c.args.runs.now in
    let done : length ks ≤ c.loop-i.i = omega (arith, c.loop-i-test.false, length-map c.args.runs.now kept) in
    record {
      runs = c.loop-i.invariant.runs ∙ all_after_use ns c.loop-i.i ks done;
      told = c.loop-i.invariant.told ∙ ap (λ l. map seen c.args.list.now.items ++ l) (all_told ns c.loop-i.i ks done);
      undoes = λ q n good. subst (Undoes q n ks) (sym c.loop-i.invariant.runs) (after_use_undoes q n ns c.loop-i.i ks good);
    }
