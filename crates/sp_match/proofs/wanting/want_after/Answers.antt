use Rattle.std.proofs.Common.{◌≡◌, ℕ, ◌+◌, ◌<◌, ◌≤◌, List, map, length, take, drop, get_or, sym, ap, subst, ◌∙◌, arith}
use Rattle.std.specs.List.{All}
use Rattle.std.proofs.lemmas.List.{length-map, length-replicate}
use Rattle.std.proofs.lemmas.List.Elements.{All-drop, All-take}
use Rattle.std.proofs.lemmas.List.Folds.{length-flat_map-take}
use Rattle.sp_wants.specs.declared.stretch.Stretch.{Stretch}
use Rattle.sp_wants.specs.Stretches.{all_pairs, pairs_of}
use Rattle.sp_match.specs.inside.Kept.{kept}
use Rattle.sp_match.specs.inside.Good.{Good}
use Rattle.sp_match.proofs.WantsStay.{more_pairs, stretch_more, these_are}
use Rattle.sp_match.proofs.wanting.want_after.Goals as goal

abbrev none : Stretch
none = record { before = 0; after = 0; times = 0 }

-- those of a stretch are among the runs
inside : (ss : List Stretch) (i at n : ℕ) (d : Stretch) (all : List (ℕ × ℕ)) → i < length ss → at ≡ length (all_pairs (take i ss)) → all_pairs ss ≡ all → length all ≤ n → at + (get_or ss i d).times ≤ n
inside ss i at n d all within place is few =
    let s : Stretch = get_or ss i d in
    let whole : length (all_pairs ss) ≡ length all = ap length is in
    omega (arith, place, whole, few, length-flat_map-take pairs_of ss i d within, length-replicate {A = ℕ × ℕ} s.times (s.before, s.after))

pub overflow_add-end : goal.overflow_add-end
overflow_add-end c =
    let bound = inside c.stretches-stretch-items.result.now c.loop-stretch.stretch-index c.loop-stretch.at (length c.args.runs.now) none c.args.lefts.now c.loop-stretch-test.true c.loop-stretch.invariant.place c.stretches-stretch-items.ensures.pairs c.requires.there in
    omega (arith, bound)

pub offset_bounds-runs-at : goal.offset_bounds-runs-at
offset_bounds-runs-at c =
    let bound = inside c.stretches-stretch-items.result.now c.loop-stretch.stretch-index c.loop-stretch.at (length c.args.runs.now) none c.args.lefts.now c.loop-stretch-test.true c.loop-stretch.invariant.place c.stretches-stretch-items.ensures.pairs c.requires.there in
    omega (arith, bound)

pub slice_bounds-want_stretch-end : goal.slice_bounds-want_stretch-end
slice_bounds-want_stretch-end c =
    let bound = inside c.stretches-stretch-items.result.now c.loop-stretch.stretch-index c.loop-stretch.at (length c.args.runs.now) none c.args.lefts.now c.loop-stretch-test.true c.loop-stretch.invariant.place c.stretches-stretch-items.ensures.pairs c.requires.there in
    omega (arith, bound)

pub want_stretch-requires-clause-good : goal.want_stretch-requires-clause-good
want_stretch-requires-clause-good c =
    let q = c.args.plan.now in
    let at = c.loop-stretch.at in
    let n = (get_or c.stretches-stretch-items.result.now c.loop-stretch.stretch-index none).times in
    subst (All (Good q)) (sym (these_are c.args.runs.now at n)) (All-take (Good q) n (drop at (map kept c.args.runs.now)) (All-drop (Good q) at (map kept c.args.runs.now) c.requires.good))

pub loop-stretch-preserved : goal.loop-stretch-preserved
loop-stretch-preserved c =
    let rs = c.args.runs.now in
    let ss = c.stretches-stretch-items.result.now in
    let i = c.loop-stretch.stretch-index in
    let at = c.loop-stretch.at in
    let n : ℕ = (get_or ss i none).times in
    let bound : at + n ≤ length rs = inside ss i at (length rs) none c.args.lefts.now c.loop-stretch-test.true c.loop-stretch.invariant.place c.stretches-stretch-items.ensures.pairs c.requires.there in
    record {
      told = stretch_more c.args.plan.now ss i at none (map kept rs) _ _ _ c.loop-stretch-test.true c.loop-stretch.invariant.place (omega (arith, bound, length-map rs kept)) (these_are rs at n) c.loop-stretch.invariant.told c.in_ok-want_stretch.ensures;
      place = ap (λ (m : ℕ). m + n) c.loop-stretch.invariant.place ∙ sym (more_pairs ss i none c.loop-stretch-test.true);
    }
