use Rattle.std.proofs.Common.{◌≡◌, ℕ, List, Option, true, refl, subst}
use Rattle.std.specs.Prelude.{IfSome}
use Rattle.std.specs.List.{All}
use Rattle.sp_tree.specs.Grown.{is_open}
use Rattle.sp_chance.specs.Shares.{share_of}
use Rattle.sp_splitter.proofs.Guessed.{gone_guessed}
use Rattle.sp_splitter.proofs.Likeliest.{born_of, none_begun, told_count}
use Rattle.sp_splitter.proofs.breeding.child_of.Goals as goal

pub returns-in_default : goal.returns-in_default
returns-in_default c v at begun = absurd (gone_guessed c.args.core.now c.args.tree.now c.requires.tree c.args.parent c.in_default.ensures v at)

pub returns-then-count-held : goal.returns-then-count-held
returns-then-count-held c =
    let core = c.args.core.now in
    let all = told_count core c.windows.result.now c.windows.ensures.plan c.count.result (c.count.ensures core.machine.events core.machine.ended c.windows.ensures.stands) in
    none_begun core c.args.tree.now c.requires.tree (share_of c.args.chances.now) c.args.parent c.in-Some.held.now c.in-Some.ensures c.count.result all c.if-count-held.true

pub returns : goal.returns
returns c =
    let core = c.args.core.now in
    let all = told_count core c.windows.result.now c.windows.ensures.plan c.count.result (c.count.ensures core.machine.events core.machine.ended c.windows.ensures.stands) in (
      born_of core c.args.tree.now c.requires.tree (share_of c.args.chances.now) c.args.parent c.in-Some.held.now c.in-Some.ensures c.count.result all c.if-count-held.false
          c.in_ok-label.field-0 c.in-Some-2.label c.in-Some-2.is c.in_ok-label.ensures.next
          (subst (λ (o : Option (List ℕ)). IfSome o (λ label. All (λ run. is_open c.args.tree.now c.args.parent run ≡ true) label)) c.in-Some-2.is c.in_ok-label.ensures.open) c.survival_with-survival.result c.survival_with-survival.ensures,
      refl,
    )
