use Rattle.std.proofs.Common.{◌≡◌, true, false, ◌++◌, map, get_or, set, sym, ap, subst, ◌∙◌}
use Rattle.std.specs.List.{flat_map}
use Rattle.std.proofs.lemmas.List.{append_assoc, get_or-set_same, map-set}
use Rattle.sp_base.specs.Numbers.{is_among}
use Rattle.sp_plan.specs.Windows.{Numbered}
use Rattle.sp_match.specs.declared.run.Run.{Run}
use Rattle.sp_match.specs.inside.Kept.{Kept, kept}
use Rattle.sp_match.specs.inside.Good.{NumbersBelow}
use Rattle.sp_match.specs.inside.Effects.{completes, run_after_use, use_told, run_after_binding, binding_told, used_by_binding}
use Rattle.sp_match.specs.public.Seen.{seen}
use Rattle.sp_match.proofs.RunsAfterBinding.{no_used, all_used, open_runs_are, open_told_is, whole_runs_are, whole_told_is}
use Rattle.sp_match.proofs.RunsUndo.{good_here, here, undone_set, undoes_on}
use Rattle.sp_match.proofs.binding.bind.Goals as goal

pub returns-in_err-is_whole-clause-undoes : goal.returns-in_err-is_whole-clause-undoes
returns-in_err-is_whole-clause-undoes c = undone_set c.args.offer.now.plan.now c.args.offer.now.number c.args.runs.now c.args.at c.index-runs-at.result c.grow.new.run c.requires.within c.requires.good c.in_err-is_whole.ensures.undoes

pub returns-then-not-is_whole : goal.returns-then-not-is_whole
returns-then-not-is_whole c =
    let q = c.args.offer.now.plan.now in
    let rs = c.args.runs.now in
    let at = c.args.at in
    let name = c.args.name in
    let x : Numbered = (c.args.offer.now.number, c.args.offer.now.event.now) in
    let k = kept (get_or rs at c.index-runs-at.result) in
    let same = here rs at c.index-runs-at.result c.requires.within in
    let open_yet : completes q name x k ≡ false = sym c.in_ok-is_whole.ensures.complete ∙ c.if-not-is_whole.true in
    record {
      used = ap (λ ns. is_among ns c.args.offer.now.number) (no_used q name x k open_yet) ∙ ap (λ k. is_among (used_by_binding q name x k) c.args.offer.now.number) (sym same);
      runs = map-set kept rs at c.grow.new.run ∙ ap (set (map kept rs) at) c.in_ok-is_whole.ensures.run ∙ open_runs_are q name x at (map kept rs) k same open_yet;
      told = c.in_ok-is_whole.ensures.told ∙ ap (λ l. map seen c.args.list.now.items ++ l) (open_told_is q name x at (map kept rs) k same open_yet);
      shared = c.in_ok-is_whole.ensures.shared;
      undoes = undone_set q c.args.offer.now.number rs at c.index-runs-at.result c.grow.new.run c.requires.within c.requires.good c.in_ok-is_whole.ensures.undoes;
    }

pub returns-in_err-used-clause-undoes : goal.returns-in_err-used-clause-undoes
returns-in_err-used-clause-undoes c = undone_set c.args.offer.now.plan.now c.args.offer.now.number c.args.runs.now c.args.at c.index-runs-at.result c.grow.new.run c.requires.within c.requires.good c.in_ok-is_whole.ensures.undoes

pub abandon-requires : goal.abandon-requires
abandon-requires c = (c.args.offer.now.plan.now, (undone_set c.args.offer.now.plan.now c.args.offer.now.number c.args.runs.now c.args.at c.index-runs-at.result c.grow.new.run c.requires.within c.requires.good c.in_ok-is_whole.ensures.undoes).good)

pub returns-in_err-abandon-clause-undoes : goal.returns-in_err-abandon-clause-undoes
returns-in_err-abandon-clause-undoes c =
    let q = c.args.offer.now.plan.now in
    undoes_on q c.args.offer.now.number (map kept c.args.runs.now) (map kept (set c.args.runs.now c.args.at c.grow.new.run)) (map kept c.abandon.new.runs)
    (undone_set q c.args.offer.now.number c.args.runs.now c.args.at c.index-runs-at.result c.grow.new.run c.requires.within c.requires.good c.in_ok-is_whole.ensures.undoes) (c.in_err-abandon.ensures.undoes q c.args.offer.now.number (undone_set c.args.offer.now.plan.now c.args.offer.now.number c.args.runs.now c.args.at c.index-runs-at.result c.grow.new.run c.requires.within c.requires.good c.in_ok-is_whole.ensures.undoes).good)

pub returns : goal.returns
returns c =
    let q = c.args.offer.now.plan.now in
    let rs = c.args.runs.now in
    let at = c.args.at in
    let name = c.args.name in
    let x : Numbered = (c.args.offer.now.number, c.args.offer.now.event.now) in
    let k = kept (get_or rs at c.index-runs-at.result) in
    let same = here rs at c.index-runs-at.result c.requires.within in
    let done : completes q name x k ≡ true = sym c.in_ok-is_whole.ensures.complete ∙ c.if-not-is_whole.false in
    let ks = map kept rs in
    let ns = c.in_ok-used.used.list in
    let set_is : map kept (set rs at c.grow.new.run) ≡ set ks at (run_after_binding q name x k) = map-set kept rs at c.grow.new.run ∙ ap (set ks at) c.in_ok-is_whole.ensures.run in
    let used : ns ≡ (run_after_binding q name x k).used =
    c.in_ok-used.ensures ∙ ap (λ (r : Run). r.used.list) (get_or-set_same rs at c.grow.new.run c.index-runs-at-2.result c.requires.within) ∙ ap (λ (k : Kept). k.used) c.in_ok-is_whole.ensures.run in
    let before = map seen c.args.list.now.items in
    record {
      used = c.has-2.ensures ∙ ap (λ ns. is_among ns c.args.offer.now.number) (used ∙ all_used q name x k done) ∙ ap (λ k. is_among (used_by_binding q name x k) c.args.offer.now.number) (sym same);
      runs = c.in_ok-abandon.ensures.runs ∙ ap (map (run_after_use ns)) set_is ∙ whole_runs_are q name x at ks k ns same done used;
      told = c.in_ok-abandon.ensures.told ∙ (λ i. c.in_ok-is_whole.ensures.told i ++ flat_map (use_told ns) (set_is i))
          ∙ append_assoc before (binding_told q name x k) (flat_map (use_told ns) (set ks at (run_after_binding q name x k))) ∙ ap (λ l. before ++ l) (whole_told_is q name x at ks k ns same done used);
      shared = c.in_ok-is_whole.ensures.shared;
      undoes = undoes_on q c.args.offer.now.number ks (map kept (set rs at c.grow.new.run)) (map kept c.abandon.new.runs)
          (undone_set q c.args.offer.now.number rs at c.index-runs-at.result c.grow.new.run c.requires.within c.requires.good c.in_ok-is_whole.ensures.undoes) (c.in_ok-abandon.ensures.undoes q c.args.offer.now.number (undone_set c.args.offer.now.plan.now c.args.offer.now.number c.args.runs.now c.args.at c.index-runs-at.result c.grow.new.run c.requires.within c.requires.good c.in_ok-is_whole.ensures.undoes).good);
    }

pub grow-requires-clause-good : goal.grow-requires-clause-good
grow-requires-clause-good c = good_here c.args.offer.now.plan.now c.args.runs.now c.args.at c.index-runs-at.result c.requires.within c.requires.good

pub grow-requires-clause-below : goal.grow-requires-clause-below
grow-requires-clause-below c = subst (NumbersBelow c.args.offer.now.number) (here c.args.runs.now c.args.at c.index-runs-at.result c.requires.within) c.requires.below
