use Rattle.std.proofs.Common.{sym, subst}
use Rattle.std.specs.Prelude.{Result}
use Rattle.std.specs.Result.{OnOk}
use Rattle.std.specs.declared.alloc.AllocError.{AllocError}
use Rattle.sp_split.specs.Stages.{Turned}
use Rattle.sp_split.specs.declared.turning.Turn.TheVariants as t
use Rattle.sp_split.proofs.Lone.{is_home}
use Rattle.sp_split.proofs.turning.bring_home.Goals as goal
use Rattle.sp_split.proofs.turning.bring_home.Goals.{in-Ok, in-Err}

pub returns-clause-ok : goal.returns-clause-ok
returns-clause-ok c =
    let old = c.args.core.now in
    let new = c.come_home.new.self in
    elim c.match-come_home.branch [
      | in-Ok w ↦ subst (λ (r : Result (Unit {0}) AllocError). OnOk r (Turned old new t.Worked)) (sym w.result-is) (is_home old new c.args.piece c.requires w.in-Ok.ensures.home)
      | in-Err w ↦ subst (λ (r : Result (Unit {0}) AllocError). OnOk r (Turned old new t.Worked)) (sym w.result-is) tt
    ]
