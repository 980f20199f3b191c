use Rattle.std.proofs.Common.{sym, ap, ◌∙◌}
use Rattle.std.specs.Option.{option_copied_mut}
use Rattle.sp_core.proofs.Renewing.{begins_anew, not_found}
use Rattle.sp_core.proofs.rolling.begin_anew.Goals.{in-Some-get_mut, in_default-get_mut}
use Rattle.sp_core.proofs.rolling.begin_anew.Goals as goal

pub returns-clause-tree : goal.returns-clause-tree
returns-clause-tree c = elim c.match-get_mut.branch [
  | in-Some-get_mut w ↦
      let r = w.restart.ensures in
      begins_anew c.args.tree.now c.renew.new.self c.match-get_mut.tree c.args.version c.in-Some.renewed w.in-Some-get_mut.held.now w.restart.new.self c.requires.live
      (sym c.in-Some.is ∙ c.renew.ensures.id) c.renew.ensures.tree
      (sym (ap option_copied_mut w.in-Some-get_mut.is) ∙ c.get_mut.ensures.value)
      (record {
        window = r.window;
        first = r.first;
        position = r.position;
        skipped = r.skipped;
        plan = r.plan;
        none = r.none;
        count = r.count;
        matches = r.matches;
        copies = r.copies;
        used = r.used;
        done = r.done;
        out = r.out;
      })
      w.tree-is
  | in_default-get_mut w ↦ absurd (not_found c.args.tree.now c.renew.new.self c.args.version c.in-Some.renewed c.requires.live
      (sym c.in-Some.is ∙ c.renew.ensures.id) c.renew.ensures.tree
      (sym (ap option_copied_mut w.in_default-get_mut.is) ∙ c.get_mut.ensures.value))
]
