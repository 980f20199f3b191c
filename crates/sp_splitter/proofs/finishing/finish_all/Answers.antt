use Rattle.std.proofs.Common.{List, [], ◌∷◌, ◌++◌, refl, ap, subst, sym, ◌∙◌}
use Rattle.std.proofs.lemmas.List.{append-nil}
use Rattle.sp_core.specs.declared.emitted.Emitted.{Emitted}
use Rattle.sp_splitter.specs.Finishing.{Finishes, none_finished}
use Rattle.sp_splitter.specs.Stages.{matches_of}
use Rattle.sp_splitter.proofs.Finish.{finishes_more, matches_more, went_on}
use Rattle.sp_splitter.proofs.Stepping.{goes_none, went_none}
use Rattle.sp_splitter.proofs.finishing.finish_all.Goals as goal

pub loop-init : goal.loop-init
loop-init g c =
    let core = c.args.core.now in
    record {
      went = λ n batch. went_none n batch core core refl;
      goes = λ n. goes_none n core core refl;
      emitted = sym (ap (λ (l : List Emitted). core.machine.emitted ++ matches_of l) c.new-all.ensures.items ∙ append-nil core.machine.emitted);
      read = refl;
      calm = c.requires.calm;
      finishes = subst (λ (l : List Emitted). Finishes core core l) (sym c.new-all.ensures.items) none_finished;
    }

pub loop-preserved : goal.loop-preserved
loop-preserved g c =
    let here = c.loop.invariant in
    let more = c.finish_root.ensures in
    let longer = c.in_ok-push.ensures.items ∙ ap (λ (l : List Emitted). l ++ c.finish_root.result ∷ []) c.in_ok-reserve.ensures.items in
    record {
      went = went_on c.args.core.now c.loop.core c.finish_root.new.core c.finish_root.result here.went here.goes more;
      goes = λ n spreading. more.goes n (here.goes n spreading);
      emitted = matches_more c.loop.all.items c.push.new.self.items c.finish_root.result c.args.core.now.machine.emitted c.loop.core.machine.emitted
          c.finish_root.new.core.machine.emitted longer here.emitted more.emitted;
      read = more.read ∙ here.read;
      calm = more.calm;
      finishes = finishes_more c.args.core.now c.loop.core c.finish_root.new.core c.loop.all.items c.push.new.self.items c.finish_root.result longer here.finishes more;
    }
