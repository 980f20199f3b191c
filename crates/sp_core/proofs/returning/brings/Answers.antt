use Rattle.std.proofs.Common.{◌≡◌, List, sym, ap, subst, ◌∙◌, ℕ}
use Rattle.std.specs.List.Sorted.{IsStrictlyIncreasing}
use Rattle.std.specs.Option.{IfSome, option_copied}
use Rattle.std.proofs.lemmas.Option.{same_Some}
use Rattle.sp_piece.specs.declared.job.Job.{Job}
use Rattle.sp_version.specs.declared.version.Version.{Version}
use Rattle.sp_group.specs.Family.{entry_at}
use Rattle.sp_tree.specs.Grown.{kin, groups_of, value_of}
use Rattle.sp_core.specs.Homecoming.{IsBrought}
use Rattle.sp_core.proofs.returning.brings.Goals as goal

pub returns : goal.returns
returns c =
    let label : c.in-Some-2.groups ≡ c.groups.result.now = subst (λ o. IfSome o (λ l. l ≡ c.groups.result.now)) c.in-Some-2.is c.in_ok-groups.ensures.value in
    record {
      after = c.after.result.now;
      led = c.after.ensures.led;
      moves = c.moves.result.now;
      tells = c.moves.ensures;
      brought = λ e at.
          let there = ap (λ (j : Job). entry_at kin c.args.tree.now.entries j.version) c.job.ensures ∙ at in
          let value : c.in-Some.held.now ≡ e.value = same_Some c.in-Some.held.now e.value (sym (ap option_copied c.in-Some.is) ∙ c.get.ensures ∙ ap value_of there) in
          let groups : c.in-Some-2.groups ≡ e.version.groups = label ∙ c.groups.ensures.groups ∙ ap groups_of there in
          subst (λ (v : Version). IsBrought v.window e.version.groups c.after.result.now c.moves.result.now c.in_ok-brought.brought) value
          (subst (λ (ns : List ℕ). IsBrought c.in-Some.held.now.window ns c.after.result.now c.moves.result.now c.in_ok-brought.brought) groups c.in_ok-brought.ensures);
      rising = subst IsStrictlyIncreasing c.runs.ensures.list c.runs.ensures.label.rising;
    }
