use Rattle.std.proofs.Common.{◌≡◌, ◌≢◌, List, ℕ, ap, subst, sym, ◌∙◌}
use Rattle.std.specs.List.{All}
use Rattle.sp_base.specs.Numbers.{with_number}
use Rattle.sp_base.proofs.Rising.{rising_same}
use Rattle.sp_base.proofs.RisingLists.{put_is}
use Rattle.sp_group.specs.Rising.{IsLabel}
use Rattle.sp_group.proofs.Rising.{given_with}
use Rattle.sp_group.proofs.label.Label.insert.Goals as goal

put : (c : goal.In_ok-insert) → c.insert.new.self.list ≡ with_number c.self.inside.runs.list c.args.run
put c = put_is rising_same c.self.inside.runs.list c.args.run _ c.self.invariant.rising c.in_ok-insert.ensures.rising c.in_ok-insert.ensures.members

pub invariant_of-self-2 : goal.invariant_of-self-2
invariant_of-self-2 c = record {
  rising = c.in_ok-insert.ensures.rising;
  given = subst (λ (l : List ℕ). All (λ r. r ≢ 0) l) (sym (put c)) (given_with c.self.inside.runs.list c.args.run c.self.invariant.given c.requires.given);
}

pub returns-clause-with : goal.returns-clause-with
returns-clause-with c = put c ∙ ap (λ (l : List ℕ). with_number l c.args.run) c.self.view_is
