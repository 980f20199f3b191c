use Rattle.std.proofs.Common.{◌≡◌, ◌∙◌, refl, None, ℕ, ◌+◌, ◌≤◌, Bool, true, false, arith, if◌then◌else◌, ap}
use Rattle.sp_group.specs.declared.step.Step.TheVariants as s
use Rattle.sp_group.specs.declared.refusal.Refusal.TheVariants as r
use Rattle.sp_group.specs.Refusing.{refuse_if}
use Rattle.sp_core.specs.Holding.{Holding, holding}
use Rattle.sp_core.specs.Rooms.{room}
use Rattle.sp_core.proofs.Journal.{replayed_on}
use Rattle.sp_core.proofs.machine.Core.end.Goals as goal

-- the end of input takes one entry, which was owed
less_owed : (ended : Bool) (rest old new : ℕ) → ended ≡ false → (if ended then 0 else 1) + rest ≤ old → old ≤ new + 1 → 0 + rest ≤ new
less_owed true rest old new going owed kept = absurd (cc)
less_owed false rest old new going owed kept = omega arith

pub invariant_of-self : goal.invariant_of-self
invariant_of-self c =
    let inside = c.self.inside in
    let h = holding inside in
    let i = c.self.invariant in
    let k : Holding = record h { windows = c.end.new.self; ended = true; journal = c.enter.new.journal.items; journal_room = room c.enter.new.journal } in
    record {
      compiled = i.compiled;
      known_are = i.known_are;
      some = i.some;
      most = i.most;
      windows_plan = c.end.ensures.plan ∙ i.windows_plan;
      windows = c.end.ensures.stands h.events h.ended i.windows;
      grown = i.grown;
      versions = i.versions;
      replayed = replayed_on h k s.End i.replayed refl refl c.enter.ensures.items tt
          (ap (λ (b : Bool). refuse_if b r.AfterEnd None) c.if-self.false) refl (omega arith) (omega arith);
      news_are = i.news_are;
      rooms = record {
        entries = less_owed inside.ended _ _ _ c.if-self.false i.rooms.entries c.enter.ensures.kept;
        matches = i.rooms.matches;
        numbers = i.rooms.numbers;
      };
    }
