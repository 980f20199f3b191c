use Rattle.std.proofs.Common.{ℕ, ◌+◌, List, get_or, drop, refl, subst, sym, arith}
use Rattle.std.proofs.lemmas.List.{drop_more}
use Rattle.sp_plan.specs.declared.plan.Plan.{Plan}
use Rattle.sp_splitter.specs.Rolling.{AreListed, none_rolled}
use Rattle.sp_splitter.proofs.ToRoll.{listed_rolled, quiet_none, quiet_then, rolls_more}
use Rattle.sp_splitter.proofs.rolling.roll_listed.Goals as goal

pub loop-entry-init : goal.loop-entry-init
loop-entry-init g c = record { quiet = quiet_none c.args.core.now c.args.core.now refl; listed = c.requires.listed; rolls = none_rolled }

pub loop-entry-preserved : goal.loop-entry-preserved
loop-entry-preserved g c =
    let here = c.loop-entry.core in
    let found = c.args.found.now in
    let i = c.loop-entry.entry-index in
    let next = c.roll_one.new.core in
    record {
      quiet = quiet_then c.args.core.now here next c.loop-entry.invariant.quiet c.roll_one.ensures.quiet;
      listed =
          let entry = get_or found i (0, 0) in
          let rest = drop (i + 1) found in
          let listed = subst (λ (l : List (ℕ × ℕ)). AreListed here.plan here.machine l) (drop_more found i (0, 0) (omega arith)) c.loop-entry.invariant.listed in
          subst (λ (q : Plan). AreListed q next.machine rest) (sym (c.roll_one.ensures.quiet.went 0 0).plan)
          (listed_rolled here.plan here.machine next.machine entry rest c.roll_one.ensures.loses listed);
      rolls = rolls_more c.args.core.now here next found i (get_or found i (0, 0)).1 refl c.requires.sorted (omega arith) c.loop-entry.invariant.listed c.loop-entry.invariant.rolls c.roll_one.ensures.one;
    }
