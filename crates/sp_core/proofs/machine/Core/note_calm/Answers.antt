use Rattle.std.proofs.Common.{List, sym, subst}
use Rattle.sp_spread.specs.Calm.{AreCalm}
use Rattle.sp_core.specs.declared.news.News.{News}
use Rattle.sp_core.specs.Holding.{holding, machine_of}
use Rattle.sp_core.specs.News.{AreNew}
use Rattle.sp_core.specs.Running.{Running}
use Rattle.sp_core.proofs.HeldConflict.{calm_hits}
use Rattle.sp_core.proofs.Journal.{reached}
use Rattle.sp_core.proofs.machine.Core.note_calm.Goals as goal

pub invariant_of-self : goal.invariant_of-self
invariant_of-self c =
    let h = holding c.self.inside in
    let i = c.self.invariant in
    let calm = subst (λ (r : Running). AreCalm r.plan r.machine) (sym c.self.view_is) c.requires in
    let none = calm_hits h.plan h.tree.bound (machine_of h) (reached c.every_schedule.ensures h i) calm in
    record {
      compiled = i.compiled;
      known_are = i.known_are;
      some = i.some;
      most = i.most;
      windows_plan = i.windows_plan;
      windows = i.windows;
      grown = i.grown;
      versions = i.versions;
      replayed = record { fits = i.replayed.fits; leads = i.replayed.leads; ids = i.replayed.ids; tickets = i.replayed.tickets };
      news_are = subst (λ (ns : List News). AreNew h.plan (machine_of h) ns) (sym c.clear.ensures.items) none;
      rooms = record { entries = i.rooms.entries; matches = i.rooms.matches; numbers = i.rooms.numbers };
    }
